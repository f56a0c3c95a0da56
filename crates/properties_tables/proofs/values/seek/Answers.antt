use Rattle.std.proofs.Common.{◌<◌, [], ◌∷◌, ◌++◌, length, take, ap, sym, ◌∙◌, arith, subst}
use Rattle.std.specs.{Prelude.map, Str.chars}
use Rattle.std.proofs.lemmas.List.{map_more}
use Rattle.java_properties.specs.Maps.{characters}
use Rattle.properties_tables.specs.Private.Sought.{Seeks}
use Rattle.properties_tables.proofs.values.seek.Goals as goal

pub add-requires : goal.add-requires
add-requires c = c.loop-key.invariant.seeking

pub loop-key-preserved : goal.loop-key-preserved
loop-key-preserved c =
    let keys = c.args.keys.now in
    let i = c.loop-key.key-index in
    let below : i < length keys = omega arith in
    let before = map characters (take i keys) in
    let more = map_more characters keys i c.key-item.result below ∙ ap (λ v. before ++ characters v ∷ []) (sym c.key-item.is) in
    subst (λ v. Seeks v c.add.new.self) (sym more)
    (subst (λ v. Seeks (before ++ chars v ∷ []) c.add.new.self) c.as_str.ensures.value (c.in_ok-add.ensures.1 before c.loop-key.invariant))
