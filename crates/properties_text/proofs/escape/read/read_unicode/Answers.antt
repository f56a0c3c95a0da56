use Rattle.std.proofs.Common.{refl, sym, subst}
use Rattle.std.proofs.lemmas.List.{take_rest}
use Rattle.std.specs.Char.{IsScalar}
use Rattle.properties_text.proofs.SpeltTexts.Escapes.{after-u, reads-none, reads-unit, reads-pair, reads-unpaired}
use Rattle.properties_text.proofs.escape.read.read_unicode.Goals as goal

pub what_is_wrong-requires : goal.what_is_wrong-requires
what_is_wrong-requires c = rw take_rest (after-u c.args.encoding c.args.text.now c.requires.well c.requires.begins).well

pub returns-in_default : goal.returns-in_default
returns-in_default c =
    reads-none c.args.encoding c.args.text.now c.what_is_wrong.result c.requires.well c.requires.begins (c.in_default.ensures.none refl)
    (rw take_rest at c.what_is_wrong.ensures)

pub returns-in-Some-from_u32 : goal.returns-in-Some-from_u32
returns-in-Some-from_u32 c =
    let h = c.in-Some-from_u32.ensures in
    reads-unit c.requires.well c.requires.begins c.in-Some.ensures.some h.cases h.value.1 (subst IsScalar (sym h.value.1) h.value.0)

pub returns-in-Some-low_surrogate : goal.returns-in-Some-low_surrogate
returns-in-Some-low_surrogate c =
    let low = c.in-Some-low_surrogate.ensures in
    reads-pair c.requires.well c.requires.begins c.in-Some.ensures.some (rw take_rest at low.some) low.scalar

pub returns-in-None : goal.returns-in-None
returns-in-None c =
    reads-unpaired c.args.encoding c.args.text.now c.in-Some.unit c.requires.well c.requires.begins c.in-Some.ensures.some
    c.in_default-from_u32.ensures.cases (rw take_rest at (c.in-None.ensures.none refl))
