use Rattle.std.specs.Str.{chars}
use Rattle.properties_renaming.proofs.RenamesAtOnce.{no-role}
use Rattle.properties_renaming.proofs.renames.role_at.Goals as goal

pub returns-then-not-is_named : goal.returns-then-not-is_named
returns-then-not-is_named c =
    let other = c.is_named.ensures c.if-not-is_named.true in
    no-role c.args.roles.now.entries c.args.renames.now c.index-renames-0.result (chars c.args.key.now) c.if-renames-eq1.true c.index-renames-0.is c.requires
    other.0 other.1
