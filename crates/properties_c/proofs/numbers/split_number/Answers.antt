use Rattle.std.proofs.Common.{◌≡◌, ◌++◌, ap, sym, ◌∙◌, length, arith}
use Rattle.std.specs.Int.{w64, to_le_bytes}
use Rattle.std.proofs.{lemmas.List.length-take-le, lemmas.Nat.le_bytes_8}
use Rattle.properties_text.proofs.PrintedTexts.Runs.{small-take}
use Rattle.properties_c.specs.Packed.{number_bytes}
use Rattle.properties_c.proofs.Splitting.{parted}
use Rattle.properties_c.proofs.numbers.split_number.Goals as goal

pub returns : goal.returns
unfolding number_bytes
returns c =
    let bytes = c.args.bytes.now in
    let front = c.in_ok-front.front.now in
    let h = c.in_ok-front.ensures.cases in
    let long : length front ≡ 8 = rw h.0 (length-take-le 8 bytes (omega (arith, h.2))) in
    let small = small-take 8 bytes (λ i. (c.type_inv.bytes i).fits) in
    let same : to_le_bytes w64 c.from_le_bytes.result ≡ front =
    le_bytes_8 front _ long (rw h.0 small) c.from_le_bytes.ensures in
    (c.from_le_bytes.type_inv, parted 8 h.0 h.1 ∙ ap (λ v. v ++ c.in_ok-front.rest.now) (sym same))
