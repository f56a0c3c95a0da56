-- The map of an edited source is the source's map after the same edit.
use Rattle.std.proofs.Common.{◌≡◌, ◌≢◌, ℕ, true, false, if◌then◌else◌, List, [], ◌∷◌, ◌++◌, Option, Some, None, refl, ap, sym, ◌∙◌, inl, inr, arith}
use Rattle.std.specs.Prelude.{bytes_eq}
use Rattle.std.proofs.lemmas.Bool.{cases_Bool, false_from_ne_true}
use Rattle.std.proofs.lemmas.Slice.Eq.{bytes_eq-Decides}
use Rattle.properties_format.specs.Items.{Content, comment, pair, Entry, item}
use Rattle.properties_format.specs.Maps.{IsMap}
use Rattle.properties_format.specs.Computed.Maps.{first_value}
use Rattle.properties_format.specs.Edits.{Edit, put, remove, set_value}
use Rattle.properties_format.specs.Changed.{contents, HoldNoPair, IsSetIn, IsRemovedIn, IsEditedIn, AreEditedIn, map_edited, map_after}
use Rattle.properties_format.proofs.Maps.{value_in-meets, map-only, first-assoc, first-none, value_in}

-- ---- the value of a key in a list of contents

abbrev pub content_value : Content → List ℕ → Option (List ℕ)
content_value (pair k v) key = if bytes_eq k key then Some v else None
content_value (comment text) key = None

abbrev pub value_among : List Content → List ℕ → Option (List ℕ)
value_among [] key = None
value_among (c ∷ cs) key = first_value (value_among cs key) (content_value c key)

-- The value of a key in the entries is its value in their contents.
pub value-contents : (entries : List Entry) (key : List ℕ) → value_in entries key ≡ value_among (contents entries) key
value-contents [] key = refl
value-contents (item n (pair k v) ∷ entries) key = rw (value-contents entries key)
value-contents (item n (comment text) ∷ entries) key = rw (value-contents entries key)
value-contents (entry ∷ entries) key = first-none (value_in entries key) ∙ value-contents entries key

-- In two lists of contents, the value is that in the second, or else that in the first.
value-append : (cs ds : List Content) (key : List ℕ) → value_among (cs ++ ds) key ≡ first_value (value_among ds key) (value_among cs key)
value-append [] ds key = sym (first-none (value_among ds key))
value-append (c ∷ cs) ds key = simp (first-assoc, value-append cs ds key)

-- Equal keys pass the test.
pub same-test : (k key : List ℕ) → k ≡ key → bytes_eq k key ≡ true
same-test k key h = (bytes_eq-Decides k key).1 h

-- Different keys don't pass the test.
pub other-test : (k key : List ℕ) → k ≢ key → bytes_eq k key ≡ false
other-test k key h = false_from_ne_true (bytes_eq k key) (λ t. h ((bytes_eq-Decides k key).0 t))

-- In contents without a pair with the key, the key has no value.
no-value : (key : List ℕ) (cs : List Content) → HoldNoPair key cs → value_among cs key ≡ None
no-value key [] h = refl
no-value key (comment text ∷ cs) h = rw (no-value key cs h)
no-value key (pair k v ∷ cs) h = rw (no-value key cs h.1, other-test k key h.0)

-- A failed comparison, with the sides swapped.
not-back : (k key : List ℕ) → bytes_eq k key ≡ false → key ≢ k
not-back k key h s = let t = same-test k key (sym s) in absurd (cc)

-- ---- setting a key

-- A pair gives its key its value if no later pair has that key.
set-last : (cs ds : List Content) (key value k : List ℕ) → HoldNoPair key ds → (k ≡ key) → value_among (cs ++ pair key value ∷ ds) k ≡ Some value
set-last cs ds key value k h s = rw (s, value-append, no-value key ds h, same-test key key refl)

-- For another key, that pair doesn't count.
set-other : (cs ds : List Content) (key value k : List ℕ) → (key ≢ k)
    → value_among (cs ++ pair key value ∷ ds) k ≡ first_value (value_among ds k) (value_among cs k)
set-other cs ds key value k h = simp (value-append, other-test, first-none)

-- If a key is set, each key has its value in the map with that key set.
set-value : (key value : List ℕ) (old new : List Content) (k : List ℕ) → IsSetIn key value old new
    → value_among new k ≡ map_edited (put key value) (value_among old) k
set-value key value old new k (inl h) = elim (cases_Bool (bytes_eq k key)) [
  | inl t ↦ rw (h.now, t) (set-last h.before h.after key value k h.no_later ((bytes_eq-Decides k key).0 t))
  | inr t ↦ rw (h.now, h.was, t, set-other _ _ key value k (not-back k key t), set-other _ _ key h.old_value k (not-back k key t))
]
set-value key value old new k (inr h) = elim (cases_Bool (bytes_eq k key)) [
  | inl t ↦ rw (h.1, t) (set-last old [] key value k tt ((bytes_eq-Decides k key).0 t))
  | inr t ↦ rw (h.1, t) (set-other old [] key value k (not-back k key t))
]

-- ---- removing a key

-- A key that is removed has no value.
removed-same : (key : List ℕ) (old new : List Content) → IsRemovedIn key old new → value_among new key ≡ None
removed-same key [] new h = rw h
removed-same key (comment text ∷ cs) new h = rw (h.1, first-none (value_among h.0 key), removed-same key cs h.0 h.2)
removed-same key (pair k v ∷ cs) new (inl h) = removed-same key cs new h.1
removed-same key (pair k v ∷ cs) new (inr h) = rw (h.2, other-test k key h.0, first-none (value_among h.1 key), removed-same key cs h.1 h.3)

-- Every other key keeps its value.
removed-other : (key : List ℕ) (old new : List Content) (k : List ℕ) → key ≢ k → IsRemovedIn key old new → value_among new k ≡ value_among old k
removed-other key [] new k n h = rw h
removed-other key (comment text ∷ cs) new k n h = rw (h.1, removed-other key cs h.0 k n h.2)
removed-other key (pair l v ∷ cs) new k n (inl h) = rw (other-test l k (λ s. n (sym h.0 ∙ s)), first-none (value_among cs k), removed-other key cs new k n h.1)
removed-other key (pair l v ∷ cs) new k n (inr h) = simp (h.2, removed-other key cs h.1 k n h.3)

-- ---- several edits

-- After an edit, each key has its value in the edited map.
edited-value : (edit : Edit) (old new : List Content) (k : List ℕ) → IsEditedIn edit old new → value_among new k ≡ map_edited edit (value_among old) k
edited-value (put key value) old new k h = set-value key value old new k h
edited-value (remove key) old new k h = elim (cases_Bool (bytes_eq k key)) [
  | inl t ↦ rw (t, (bytes_eq-Decides k key).0 t) (removed-same key old new h)
  | inr t ↦ rw t (removed-other key old new k (not-back k key t) h)
]
edited-value (set_value key value) old new k h = set-value key value old new k h

-- An edit changes maps that agree on each key into maps that agree on each key.
change-same : (edit : Edit) (a b : List ℕ → Option (List ℕ)) → ((k : List ℕ) → a k ≡ b k) → (k : List ℕ) → map_edited edit a k ≡ map_edited edit b k
change-same edit a b h k = grind (arith, h k)

-- Several edits change maps that agree on each key into maps that agree on each key.
changes-same : (edits : List Edit) (a b : List ℕ → Option (List ℕ)) → ((k : List ℕ) → a k ≡ b k) → (k : List ℕ) → map_after edits a k ≡ map_after edits b k
changes-same [] a b h k = h k
changes-same (edit ∷ edits) a b h k = changes-same edits (map_edited edit a) (map_edited edit b) (change-same edit a b h) k

-- After several edits, each key has its value in the map after them.
edits-value : (edits : List Edit) (old new : List Content) (k : List ℕ) → AreEditedIn edits old new → value_among new k ≡ map_after edits (value_among old) k
edits-value [] old new k h = ap (λ v. value_among v k) h
edits-value (edit ∷ edits) old new k h = edits-value edits h.0 new k h.2 ∙ changes-same edits (value_among h.0) _ (λ l. edited-value edit old h.0 l h.1) k

-- ---- maps

-- A change that gives each key its value in the new contents.
map-changed : (old new : List Entry) (change : (List ℕ → Option (List ℕ)) → List ℕ → Option (List ℕ))
    → ((a b : List ℕ → Option (List ℕ)) → ((k : List ℕ) → a k ≡ b k) → (k : List ℕ) → change a k ≡ change b k)
    → ((k : List ℕ) → value_among (contents new) k ≡ change (value_among (contents old)) k)
    → (value_at : List ℕ → Option (List ℕ)) → IsMap old value_at → IsMap new (change value_at)
map-changed old new change same h value_at m k =
    let s = value-contents new k ∙ h k ∙ same (value_among (contents old)) value_at (λ l. sym (map-only old value_at m l ∙ value-contents old l)) k in
    rw s at (value_in-meets new k)

-- The map after one edit.
pub map-edited : (edit : Edit) (old new : List Entry) → IsEditedIn edit (contents old) (contents new)
    → (value_at : List ℕ → Option (List ℕ)) → IsMap old value_at → IsMap new (map_edited edit value_at)
map-edited edit old new h = map-changed old new (map_edited edit) (change-same edit) (λ k. edited-value edit (contents old) (contents new) k h)

-- The map after several edits.
pub map-after : (edits : List Edit) (old new : List Entry) → AreEditedIn edits (contents old) (contents new)
    → (value_at : List ℕ → Option (List ℕ)) → IsMap old value_at → IsMap new (map_after edits value_at)
map-after edits old new h = map-changed old new (map_after edits) (changes-same edits) (λ k. edits-value edits (contents old) (contents new) k h)
