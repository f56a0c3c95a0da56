use Rattle.std.proofs.{Common.ap, Common.sym, Common.◌∙◌, lemmas.List.take_rest}
use Rattle.properties_format.specs.Encoding.{InForce}
use Rattle.properties_text.specs.Encoding.{encoding_of}
use Rattle.properties_c.proofs.PartedLines.{cut-lines}
use Rattle.properties_c.proofs.part.count_endings.Goals as goal

pub returns-in-Some : goal.returns-in-Some
returns-in-Some c =
    let source = c.args.source.now in
    let in_force = c.encoding_in_force-in_force in
    let same = cut-lines (encoding_of c.args.encoding) _ source _ in_force.ensures.in_force in (
      sym (ap (λ v. let w : InForce = v in w.encoding) in_force.ensures.in_force),
      rw (take_rest source in_force.result.1) at c.in-Some.ensures ∙ sym same,
    )
