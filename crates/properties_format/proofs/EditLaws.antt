-- The laws of edits.
use Rattle.std.proofs.Common.{◌≡◌, ℕ, ◌+◌, true, false, List, [], ◌∷◌, ◌++◌, length, Option, Some, None, refl, sym, ◌∙◌, inl, inr, arith, ap}
use Rattle.std.proofs.lemmas.Slice.Eq.{bytes_eq-Decides}
use Rattle.properties_format.specs.Encoding.{Encoding, byte_order_mark, begins_like_bom, all_of, Repertoire}
use Rattle.properties_format.specs.Lines.{end, joined}
use Rattle.properties_format.specs.Items.{Entry, AreItems, Outcome, IsItems}
use Rattle.properties_format.specs.Computed.Items.{outcome_of, followed, items_of}
use Rattle.properties_format.specs.Maps.{HasNoPair, IsMap}
use Rattle.properties_format.specs.Body.{HeldLine, as_lines, NoneHasKey, groups_bytes}
use Rattle.properties_format.specs.Edited.{guarding_lf, is_editable, edited}
use Rattle.properties_format.specs.Edits.{Edit, put, remove}
use Rattle.properties_format.specs.Changed.{map_edited}
use Rattle.properties_format.specs.Computed.Body.{held_groups_of, is_pair_with}
use Rattle.properties_format.specs.Plan.{planned, removal}
use Rattle.properties_format.specs.EditLaws.{RemovingNoPairChangesNothing, SettingTwiceIsSettingOnce, HasMap, DiffersAt, SettingGivesTheValue, RemovingTakesTheValue, ListsOfEditsFollow}
use Rattle.properties_format.proofs.Items.Unique.{items_of-only}
use Rattle.properties_format.proofs.Maps.{map-only}
use Rattle.properties_format.proofs.Body.Groups.{held_groups_of-meets, held-body}
use Rattle.properties_format.proofs.Body.Numbers.{items_of-groups, entries_in}
use Rattle.properties_format.proofs.Edited.Made.{has_key-false, no_key-test}
use Rattle.properties_format.proofs.Edited.Results.{result_by-edited, result_of}
use Rattle.properties_format.proofs.Edits.Results.{same-results, edit_result, edit_all_result, edits_made-only, edit_made, edits_made}
use Rattle.properties_format.proofs.Edited.ByteOrderMarks.{has_bom, source-whole}
use Rattle.properties_format.proofs.Changed.Maps.{other-test, same-test}
use Rattle.properties_format.proofs.Plan.Again.{set-twice}
use Rattle.properties_format.proofs.Plan.Made.{key_set-is_planned, key_removed-is_planned}
use Rattle.properties_format.proofs.Changed.Laws.{IsReadable, edit-contents}
use Rattle.properties_format.proofs.Edits.Contents.{edits-contents}
use Rattle.properties_format.proofs.Changed.Read.{readable, edit-reads}

-- ---- a key that no pair has

-- If the entries of an outcome and those after them contain no pair with the key, the outcome isn't one, and the later
-- entries contain none.
followed-none : (key : List ℕ) (n : ℕ) (o : Outcome) (entries : List Entry) → AreItems (followed n o entries) → HasNoPair key (followed n o entries)
    → (is_pair_with key o ≡ false) × AreItems entries × HasNoPair key entries
followed-none key n o entries h k = grind (arith, bytes_eq-Decides)

-- If no item is a pair with the key, no group is one.
none-have : (key : List ℕ) (n : ℕ) (gs : List (List HeldLine)) → AreItems (entries_in n gs) → HasNoPair key (entries_in n gs) → NoneHasKey key gs
none-have key n [] h k = tt
none-have key n (g ∷ gs) h k =
    let m = followed-none key n (outcome_of (joined (as_lines g))) (entries_in (n + length g) gs) h k in
    (has_key-false key g m.0, none-have key (n + length g) gs m.1 m.2)

-- If no group is a pair with the key, all bytes are left.
removal-none : (key : List ℕ) (gs : List (List HeldLine)) → NoneHasKey key gs → planned (removal key gs) gs ≡ groups_bytes gs
removal-none key [] h = refl
removal-none key (g ∷ gs) h = rw (no_key-test key g h.0, removal-none key gs h.1) refl

-- The body of a source needs no LF in front of it.
body-unguarded : (e : Encoding) (source : List ℕ) → is_editable (byte_order_mark e source).encoding ≡ true
    → guarding_lf source (byte_order_mark e source).body ≡ []
body-unguarded e source ok = elim (has_bom e source ok) [
  | inl m ↦ let b : begins_like_bom source ≡ true = rw (source-whole e source, m.0) refl in rw b refl
  | inr m ↦ rw (m.0, m.2, m.0) refl
]

-- Removing a key that no pair of the source has changes no byte.
pub removing-no_pair : (e : Encoding) (source key : List ℕ) → RemovingNoPairChangesNothing e source key
removing-no_pair e source key entries is none result h =
    let f = byte_order_mark e source in
    let gs = held_groups_of f.encoding f.body in
    let all = items_of-only e source end entries is ∙ items_of-groups e source in
    let left = removal-none key gs (none-have key 1 gs (rw items_of-groups at (readable e source h.0 h.1).no_fault) (rw all at none)) in
    let body = held-body f.encoding f.body gs h.0 (held_groups_of-meets f.encoding f.body) in
    rw ((key_removed-is_planned e source key result).0 h.2, left, body, body-unguarded e source h.0) (sym (source-whole e source))

-- ---- a key that is set twice

-- The result of a source that can be edited.
pub result-made : (e : Encoding) (source made : List ℕ) → IsReadable e source → result_of e source made ≡ edited made
result-made e source made r = rw (r.editable, result_by-edited (items_of e source end) made r.no_fault)

-- Setting a key twice equals setting it once, to the later value.
pub setting-twice : (t : Repertoire) (source key first second : List ℕ) → SettingTwiceIsSettingOnce t source key first second
setting-twice t source key first second k v w between h result =
    let r = readable t.encoding source h.0 h.1 in
    let next = (edit-contents t source (put key first) between r (k, v) h.2).readable in
    let made = (key_set-is_planned t source key first between h.0).0 h.2 in
    let bytes = rw (← made) at (set-twice t source key first second h.0 k v w) in
    let same = result-made t.encoding between _ next ∙ ap edited bytes ∙ sym (result-made t.encoding source _ r) in
    same-results _ _ (edit_result t between (put key second)) (edit_result t source (put key second)) same result

-- ---- the map

-- The maps of a source and of its result, if the result reads as the source after this edit.
pub maps-differ : (e : Encoding) (source result key : List ℕ) (edit : Edit) (value : Option (List ℕ)) (old new : List ℕ → Option (List ℕ))
    → ((before after : List Entry) → IsItems e source end before → IsItems e result end after → IsMap before old → IsMap after (map_edited edit old))
    → ((value_at : List ℕ → Option (List ℕ)) → DiffersAt key value value_at (map_edited edit value_at))
    → HasMap e source old → HasMap e result new → DiffersAt key value old new
maps-differ e source result key edit value old new reads differs (before, items, map) (after, next_items, next_map) =
    let changed = reads before after items next_items map in
    let same : ((k : List ℕ) → new k ≡ map_edited edit old k) = λ k. map-only after new next_map k ∙ sym (map-only after (map_edited edit old) changed k) in
    let d = differs old in
    (same key ∙ d.0, (λ other n. same other ∙ d.1 other n))

-- The map with a key set has the value for it, and for every other key what it had before.
pub set-differs : (key value : List ℕ) (value_at : List ℕ → Option (List ℕ)) → DiffersAt key (Some value) value_at (map_edited (put key value) value_at)
set-differs key value value_at = (rw (same-test key key refl), (λ other n. rw (other-test other key n)))

-- After a key is set, the map has the value for it, and for every other key what it had before.
pub setting-gives : (r : Repertoire) (source key value : List ℕ) → SettingGivesTheValue r source key value
setting-gives r source key value k v result h old new =
    maps-differ r.encoding source result key (put key value) (Some value) old new
    (λ before after i j m. (edit-reads r source (put key value) result (k, v) h before after i j).mapped old m) (set-differs key value)

-- After a key is removed, the map has no value for it, and for every other key what it had before.
pub removing-takes : (e : Encoding) (source key : List ℕ) → RemovingTakesTheValue e source key
removing-takes e source key result h old new =
    maps-differ e source result key (remove key) None old new
    (λ before after i j m. (edit-reads (all_of e) source (remove key) result tt h before after i j).mapped old m)
    (λ value_at. (rw (same-test key key refl), (λ other n. rw (other-test other key n))))

-- ---- lists of edits

-- Two lists of edits, joined into one, make the same as the second list on the result of the first.
edits_made-append : (r : Repertoire) (source : List ℕ) (first second : List Edit)
    → edits_made r source (first ++ second) ≡ edits_made r (edits_made r source first) second
edits_made-append r source [] second = refl
edits_made-append r source (edit ∷ first) second = edits_made-append r (edit_made r source edit) first second

-- Two lists of edits, joined into one, have the same results as the second list on the result of the first.
pub lists-follow : (t : Repertoire) (source : List ℕ) (first second : List Edit) → ListsOfEditsFollow t source first second
lists-follow t source first second scalars between h result =
    let r = readable t.encoding source h.0 h.1 in
    let next = (edits-contents t source first between r scalars h.2).readable in
    let same : result_of t.encoding source (edits_made t source (first ++ second)) ≡ result_of t.encoding between (edits_made t between second) =
    let is = edits_made-only t source first between h.0 h.2 in
    rw (result-made t.encoding source _ r, result-made t.encoding between _ next, edits_made-append t source first second, is) in
    same-results _ _ (edit_all_result t source (first ++ second)) (edit_all_result t between second) same result
