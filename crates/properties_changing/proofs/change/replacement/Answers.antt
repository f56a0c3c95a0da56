use Rattle.std.proofs.Common.{sym, ◌∙◌}
use Rattle.std.specs.Cmp.Lexicographic.{same_text}
use Rattle.properties_changing.proofs.change.replacement.Goals as goal

pub returns-then-eq : goal.returns-then-eq
returns-then-eq c =
    let equal = same_text c.as_slice.result.now c.args.source.now (sym c.if-eq.true ∙ c.eq.ensures) in
    (c.in_ok-bytes.bytes, c.in_ok-bytes.ensures, sym c.as_slice.ensures.value ∙ equal)
