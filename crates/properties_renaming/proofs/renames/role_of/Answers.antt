use Rattle.std.proofs.Common.{◌∙◌, sym}
use Rattle.std.specs.Str.{chars}
use Rattle.properties_format.specs.Computed.Items.{outcome_of}
use Rattle.properties_renaming.proofs.KeyedValues.{value-none, value-pair}
use Rattle.properties_renaming.proofs.renames.role_of.Goals as goal

pub returns-in-Some : goal.returns-in-Some
returns-in-Some c =
    let o = outcome_of (chars c.args.line.now) in
    let told = c.in-Some.ensures in
    c.role_at.ensures ∙ sym (value-pair c.args.roles.now.entries o (chars c.in-Some.key.now) told.0 told.1)

pub returns : goal.returns
returns c = value-none c.args.roles.now.entries (outcome_of (chars c.args.line.now)) c.in-None.ensures
