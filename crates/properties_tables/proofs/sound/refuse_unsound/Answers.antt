use Rattle.std.proofs.Common.{◌∙◌, sym}
use Rattle.properties_tables.proofs.RefusedSources.{first-malformed, none-malformed}
use Rattle.properties_tables.proofs.sound.refuse_unsound.Goals as goal

pub returns-in-Some : goal.returns-in-Some
returns-in-Some c =
    first-malformed c.in-Some.escape c.in_ok-refuse_bytes.ensures c.in_ok-escapes.ensures
    (rw c.deref.ensures.value at (sym c.in-Some.is ∙ c.first_in_pair.ensures))

pub returns : goal.returns
returns c =
    none-malformed c.in_ok-refuse_bytes.ensures c.in_ok-escapes.ensures (rw c.deref.ensures.value at (sym c.in-None.is ∙ c.first_in_pair.ensures))
