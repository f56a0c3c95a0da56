use Rattle.std.proofs.Common.{ap, subst, sym, take}
use Rattle.std.specs.Prelude.{map}
use Rattle.std.specs.Str.{chars}
use Rattle.properties_items.specs.Texts.{characters}
use Rattle.properties_renaming.specs.Private.Commented.{AreListed}
use Rattle.properties_renaming.proofs.CommentedKeys.{none-listed, one-listed}
use Rattle.properties_renaming.proofs.KeyedValues.{mapped-more}
use Rattle.properties_renaming.proofs.comments.listed_keys.Goals as goal

pub loop-key-init : goal.loop-key-init
loop-key-init c = none-listed c.new-listed.result.entries c.new-listed.ensures.empty

pub loop-key-preserved : goal.loop-key-preserved
loop-key-preserved c =
    let i = c.loop-key.key-index in
    let keys = c.args.keys.now in
    let key = c.key-item.result in
    let gives = rw (ap chars c.deref.ensures) at c.in_ok-give_value.ensures in
    subst (λ ks. AreListed ks c.give_value.new.values.entries) (sym (mapped-more characters keys i key c.loop-key-test.true c.key-item.is))
    (one-listed (map characters (take i keys)) c.loop-key.listed.entries c.give_value.new.values.entries (characters key) tt c.loop-key.invariant gives)
