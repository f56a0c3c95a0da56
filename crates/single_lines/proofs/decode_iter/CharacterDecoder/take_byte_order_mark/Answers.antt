use Rattle.std.proofs.Common.{ℕ, List, refl, ap, sym, ◌∙◌}
use Rattle.properties_format.specs.Encoding.{InForce}
use Rattle.properties_text.specs.Encoding.{encoding_of}
use Rattle.properties_text.proofs.ByteOrderMarks.{unmarked}
use Rattle.single_lines.specs.DecodeIter.{undecoded}
use Rattle.single_lines.proofs.DecodeIter.{gives-bom}
use Rattle.single_lines.proofs.decode_iter.CharacterDecoder.take_byte_order_mark.Goals as goal
use Rattle.single_lines.proofs.decode_iter.CharacterDecoder.take_byte_order_mark.Goals.{in-Present, in_default}

pub returns-clause-gives : goal.returns-clause-gives
returns-clause-gives c =
    let s = c.args.self.now in
    let asked = encoding_of s.encoding in
    elim c.match-byte_order_mark.branch [
      | in-Present w ↦
          let body = λ (v : List ℕ). let m : InForce = record { encoding = encoding_of w.in-Present.encoding; body = v } in m in
          let mark = (rw c.bytes.ensures at w.in-Present.ensures.0) asked ∙ ap body (sym w.skip.ensures) in
          rw w.self-is (gives-bom (undecoded s) _ c.requires.undecided c.requires.settled mark refl refl)
      | in_default w ↦
          let mark = unmarked s.bytes c.byte_order_mark.result (rw c.bytes.ensures at c.byte_order_mark.ensures) w.in_default.not-Present asked in
          rw w.self-is (gives-bom (undecoded s) _ c.requires.undecided c.requires.settled mark refl refl)
    ]
