use Rattle.std.proofs.Common.{arith, ◌∙◌, subst, sym}
use Rattle.std.specs.Char.{IsScalar}
use Rattle.properties_format.proofs.Encodings.WellFormed.{scalar-from_char}
use Rattle.properties_text.proofs.SpeltTexts.First.{utf_8-first, the-character, in-range}
use Rattle.properties_text.proofs.encoding.utf_8.first_character.Goals as goal

pub slice_bounds-sequence_character-end : goal.slice_bounds-sequence_character-end
slice_bounds-sequence_character-end c =
    let h = utf_8-first c.args.text.now c.length_by_first-length.result c.requires.well c.requires.some c.length_by_first-length.ensures in
    let k = h.within in
    let l = h.some in
    omega arith

pub returns : goal.returns
returns c =
    let h = utf_8-first c.args.text.now c.length_by_first-length.result c.requires.well c.requires.some c.length_by_first-length.ensures in
    let code = c.sequence_character-code in
    let s : IsScalar code.result = subst IsScalar (sym code.ensures) h.scalar in
    let scalar = c.from_u32.ensures.succeeds (in-range code.result (scalar-from_char code.result s)) in
    rw (c.unwrap_or.ensures ∙ the-character c.from_u32.result code.result c.from_u32.ensures.value scalar ∙ code.ensures) h
