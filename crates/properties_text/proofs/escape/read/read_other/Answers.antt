use Rattle.std.proofs.Common.{arith}
use Rattle.std.proofs.lemmas.List.{take_rest}
use Rattle.properties_text.proofs.SpeltTexts.Escapes.{after-one, reads-end, reads-past}
use Rattle.properties_text.proofs.escape.read.read_other.Goals as goal

pub returns-then-text-eq1 : goal.returns-then-text-eq1
returns-then-text-eq1 c = reads-end c.requires.well c.if-text-eq1.true c.requires.escape

pub first_character-escaped-requires-clause-well : goal.first_character-escaped-requires-clause-well
first_character-escaped-requires-clause-well c =
    rw take_rest (after-one c.args.encoding c.args.text.now c.requires.well c.requires.some (omega (arith, c.requires.escape))).well

pub returns : goal.returns
returns c =
    let two = c.if-text-eq1.false in
    reads-past c.requires.well (omega arith) c.requires.escape (c.requires.past (omega arith)) (rw take_rest at c.first_character-escaped.ensures)
