use Rattle.std.proofs.{Common.◌∙◌, Common.sym, lemmas.Result.on_ok_weaker}
use Rattle.std.specs.Str.{chars}
use Rattle.properties_tables.proofs.RefusedSources.{first-kept}
use Rattle.properties_tables.proofs.sound_pairs.RefusingTaker.pair.Goals as goal

pub returns : goal.returns
returns g c = on_ok_weaker c.pair.result
    (λ takes first findings h. (
      takes first.taker findings h.0,
      h.1 ∙ sym (first-kept findings c.args.line_number (chars c.args.key.now) (chars c.args.value.now)),
    )) c.pair.ensures
