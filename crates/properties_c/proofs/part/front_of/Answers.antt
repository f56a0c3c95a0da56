use Rattle.std.proofs.{Common.◌+◌, Common.drop, lemmas.List.take_rest}
use Rattle.properties_text.specs.Encoding.{encoding_of}
use Rattle.properties_c.proofs.PartedFronts.{divided-at}
use Rattle.properties_c.proofs.part.front_of.Goals as goal

pub returns-in-Some : goal.returns-in-Some
returns-in-Some c =
    let part = c.args.part.now in
    let in_force = c.encoding_in_force-in_force in
    let start = in_force.result.1 in (
      drop (start + c.in-Some.at) part,
      divided-at (encoding_of c.args.encoding) part (encoding_of in_force.result.0) start c.in-Some.at in_force.ensures
          (rw (take_rest part start) at c.in-Some.ensures),
    )
