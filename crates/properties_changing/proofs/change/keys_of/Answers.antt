use Rattle.std.proofs.Common.{◌<◌, [], ◌∷◌, ◌++◌, length, take, ap, sym, ◌∙◌, arith}
use Rattle.std.specs.{Prelude.map, Str.chars}
use Rattle.std.proofs.lemmas.List.{map_more, map-append}
use Rattle.java_properties.specs.{Editing.edit_in, Editing.edits_in, Maps.characters}
use Rattle.properties_changing.specs.Change.{edited_key, edited_keys}
use Rattle.properties_changing.proofs.change.keys_of.Goals as goal

pub loop-edit-preserved : goal.loop-edit-preserved
loop-edit-preserved c =
    let edits = c.args.edits.now in
    let i = c.loop-edit.edit-index in
    let below : i < length edits = omega arith in
    let keys = c.loop-edit.keys.items in
    let before = edits_in (take i edits) in
    let edit = edit_in c.edit-item.result in
    let more = map_more edit_in edits i c.edit-item.result below ∙ ap (λ v. before ++ edit_in v ∷ []) (sym c.edit-item.is) in
    ap (map characters) c.in_ok-push.ensures.items ∙ map-append characters keys _
    ∙ ap (λ v. map characters keys ++ chars v ∷ []) c.in_ok-from_str.ensures.ok ∙ ap (λ v. map characters keys ++ v ∷ []) c.key_of.ensures
    ∙ ap (λ v. v ++ edited_key edit ∷ []) c.loop-edit.invariant ∙ sym (ap edited_keys more ∙ map-append edited_key before (edit ∷ []))
