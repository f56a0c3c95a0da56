use Rattle.std.proofs.Common.{◌≡◌, ◌++◌, [], length, ap, sym, ◌∙◌, append-nil, eqb-true}
use Rattle.std.proofs.lemmas.List.{nil_from_length}
use Rattle.properties_text.specs.Converted.{converted_in}
use Rattle.properties_text.proofs.Converted.{converted-nil}
use Rattle.properties_text.proofs.print.convert.convert_units.Goals as goal

pub returns : goal.returns
returns c =
    let none : c.loop-rest.rest.now ≡ [] = nil_from_length c.loop-rest.rest.now
    (eqb-true (length c.loop-rest.rest.now) 0 (sym c.is_empty.ensures ∙ c.loop-rest-test.false)) in
    sym (c.loop-rest.invariant.converted ∙ ap (λ v. c.loop-rest.line ++ v) (ap (converted_in c.args.how.repertoire c.args.how.readable c.args.how.encoding) none
    ∙ converted-nil c.args.how.repertoire c.args.how.readable c.args.how.encoding) ∙ append-nil c.loop-rest.line)
