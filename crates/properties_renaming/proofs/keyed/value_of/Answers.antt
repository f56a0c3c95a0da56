use Rattle.std.proofs.Common.{◌∙◌, sym}
use Rattle.std.specs.Str.{chars}
use Rattle.properties_format.specs.Computed.Items.{outcome_of}
use Rattle.properties_renaming.proofs.KeyedValues.{value-none, value-pair}
use Rattle.properties_renaming.proofs.keyed.value_of.Goals as goal

pub returns-in-Some : goal.returns-in-Some
returns-in-Some g c =
    let o = outcome_of (chars c.args.line.now) in
    let told = c.in-Some.ensures in
    c.value_at.ensures ∙ sym (value-pair c.args.values.now.entries o (chars c.in-Some.key.now) told.0 told.1)

pub returns : goal.returns
returns g c = value-none c.args.values.now.entries (outcome_of (chars c.args.line.now)) c.in-None.ensures
