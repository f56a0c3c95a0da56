use Rattle.std.proofs.{Common.refl, Common.sym, Common.◌∙◌, lemmas.List.take_rest}
use Rattle.properties_format.specs.Encoding.{utf_8, windows_1252}
use Rattle.properties_text.specs.Encoding.{encoding_of}
use Rattle.properties_tables.specs.declared.ill_formed.Flaw.TheVariants.{MarkInside}
use Rattle.properties_tables.proofs.{FlawedLines.lines-body, FlawedLines.lines-flawless, Marks.none-mark, Marks.none-windows_1252}
use Rattle.properties_tables.proofs.ill_formed.body_with_marks.Goals as goal

pub returns-in-WINDOWS_1252 : goal.returns-in-WINDOWS_1252
returns-in-WINDOWS_1252 c =
    let in_force = rw c.in-WINDOWS_1252.is at c.encoding_in_force-in_force.ensures.in_force in
    rw c.in-WINDOWS_1252.is (lines-flawless MarkInside (encoding_of c.args.encoding) c.args.source.now _ windows_1252 in_force refl (none-windows_1252 _))

pub returns-in_default : goal.returns-in_default
returns-in_default c =
    rw (take_rest c.args.source.now c.encoding_in_force-in_force.result.1)
    (lines-body MarkInside (encoding_of c.args.encoding) c.args.source.now _ _ c.encoding_in_force-in_force.ensures.in_force refl)

pub returns-in-UTF_8 : goal.returns-in-UTF_8
returns-in-UTF_8 c =
    let in_force = rw c.in-UTF_8.is at c.encoding_in_force-in_force.ensures.in_force in
    let none = rw (take_rest c.args.source.now c.encoding_in_force-in_force.result.1) at c.holds_mark.ensures in
    rw c.in-UTF_8.is (lines-flawless MarkInside (encoding_of c.args.encoding) c.args.source.now _ utf_8 in_force refl
    (none-mark _ (sym none ∙ c.if-not-holds_mark.true)))
