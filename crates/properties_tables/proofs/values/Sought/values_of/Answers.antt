use Rattle.std.proofs.Common.{◌<◌, [], ◌∷◌, ◌++◌, length, take, ap, sym, ◌∙◌, arith}
use Rattle.std.specs.{Prelude.map, Option.option_map, Str.chars}
use Rattle.std.proofs.lemmas.List.{map_more, map-append}
use Rattle.java_properties.specs.Maps.{characters}
use Rattle.properties_tables.specs.{Values.value_texts, Private.Sought.found_value}
use Rattle.properties_tables.proofs.values.Sought.values_of.Goals as goal

pub loop-key-preserved : goal.loop-key-preserved
loop-key-preserved c =
    let keys = c.args.keys.now in
    let i = c.loop-key.key-index in
    let below : i < length keys = omega arith in
    let found = found_value c.args.self.now in
    let values = c.loop-key.values.items in
    let before = map characters (take i keys) in
    let key = characters c.key-item.result in
    let more = map_more characters keys i c.key-item.result below ∙ ap (λ v. before ++ characters v ∷ []) (sym c.key-item.is) in
    ap value_texts c.in_ok-push.ensures.items ∙ map-append (option_map characters) values (c.in_ok-value.value ∷ [])
    ∙ ap (λ v. value_texts values ++ v ∷ []) (c.in_ok-value.ensures ∙ ap (λ v. found (chars v)) c.as_str.ensures.value)
    ∙ ap (λ v. v ++ found key ∷ []) c.loop-key.invariant ∙ sym (ap (map found) more ∙ map-append found before (key ∷ []))
