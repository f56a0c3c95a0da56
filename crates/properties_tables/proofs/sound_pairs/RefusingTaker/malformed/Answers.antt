use Rattle.std.specs.Str.{chars}
use Rattle.std.proofs.lemmas.Result.{on_ok_weaker}
use Rattle.properties_tables.proofs.RefusedSources.{first-more}
use Rattle.properties_tables.proofs.sound_pairs.RefusingTaker.malformed.Goals as goal

pub returns : goal.returns
returns g c = on_ok_weaker c.malformed.result
    (λ takes first findings h. (
      takes first.taker findings h.0,
      first-more findings c.args.escape (chars c.args.line.now) c.args.self.now.malformed c.first_of-self.result h.1 c.first_of-self.ensures,
    )) c.malformed.ensures
