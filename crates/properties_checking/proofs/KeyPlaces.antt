-- The rows of keys, and the lines of their first pairs.
use Rattle.std.proofs.Common.{◌≡◌, ℕ, ◌<◌, List, [], ◌∷◌, ◌++◌, length, refl, ap, sym, ◌∙◌, inl, inr, subst, arith, append-nil}
use Rattle.std.specs.{Prelude.Some, Prelude.None, Option.unwrap_or}
use Rattle.std.proofs.{Math.ListN.get_or-map, Math.Seq.get_or-append_seam, lemmas.List.length-append, lemmas.List.length-map, lemmas.Slice.Eq.bytes_eq-Decides}
use Rattle.properties_format.specs.Items.{comment, pair, Entry, item, malformed, read_fault}
use Rattle.properties_format.specs.Maps.{HasNoPair}
use Rattle.properties_format.proofs.Changed.Maps.{other-test}
use Rattle.java_properties.specs.Findings.{KeyPlace}
use Rattle.java_properties.proofs.KeyLines.{first_place}
use Rattle.properties_checking.specs.Private.Checking.{no_place, place_at}
use Rattle.properties_tables.specs.Private.Fold.{found_escape, found_pair, keys_among, found_pairs, Finding}
use Rattle.properties_tables.specs.Private.Table.{place_keys, FindsKey, HoldPlaces, PutsKey}
use Rattle.properties_tables.specs.Table.{IsFirstLine}
use Rattle.properties_tables.proofs.{FirstKeys.no-both, Rows.no_pair-from}

abbrev place : ℕ → List ℕ → KeyPlace
place number key = record { number = number; key = key }

-- ---- the row of a key

found-at : (P : List KeyPlace) (key : List ℕ) (row : ℕ) → FindsKey key (place_keys P) (Some row) → (row < length P) × ((place_at P row).key ≡ key)
found-at P key row h =
    (subst (λ n. row < n) (length-map P (λ p. p.key)) h.0, sym (get_or-map (λ p. p.key) P row no_place) ∙ h.1 [])

module _ (number : ℕ) (key : List ℕ) (P Q : List KeyPlace) (row : ℕ) where
  -- Rows are added alone.
  pub puts-extends : PutsKey number key P row Q → (more : List KeyPlace) × (Q ≡ P ++ more)
  puts-extends (inl (found, same)) = ([], same ∙ sym (append-nil P))
  puts-extends (inr (none, last, more)) = (place number key ∷ [], more)

  -- The row has the key.
  pub puts-at : PutsKey number key P row Q → (row < length Q) × ((place_at Q row).key ≡ key)
  puts-at (inl (found, same)) = subst (λ v. (row < length v) × ((place_at v row).key ≡ key)) (sym same) (found-at P key row found)
  puts-at (inr (none, last, more)) =
      let small : length P < length (P ++ place number key ∷ []) = let n = length-append P (place number key ∷ []) in omega arith in
      subst (λ v. (row < length v) × ((place_at v row).key ≡ key)) (sym more)
      (subst (λ n. (n < length (P ++ place number key ∷ [])) × ((place_at (P ++ place number key ∷ []) n).key ≡ key)) (sym last)
      (small, ap (λ p. let q : KeyPlace = p in q.key) (get_or-append_seam P (place number key) [] no_place)))

-- ---- where keys come first

-- the keys of pairs
abbrev places_in : List Entry → List KeyPlace
places_in [] = []
places_in (item n (pair k v) ∷ es) = place n k ∷ places_in es
places_in (e ∷ es) = places_in es

keys-places : (fs : List Finding) → keys_among fs ≡ places_in (found_pairs fs)
keys-places [] = refl
keys-places (found_pair number key value ∷ fs) = ap (λ v. place number key ∷ v) (keys-places fs)
keys-places (found_escape escape x ∷ fs) = keys-places fs

first-at : (before : List Entry) (n : ℕ) (key value : List ℕ) (after : List Entry) → HasNoPair key before
    → first_place (places_in (before ++ item n (pair key value) ∷ after)) key ≡ Some n
first-at [] n key value after h = let same = (bytes_eq-Decides key key).1 refl in rw same refl
first-at (item m (pair a b) ∷ es) n key value after h = let other = other-test a key h.0 in rw other (first-at es n key value after h.1)
first-at (item m (comment text) ∷ es) n key value after h = first-at es n key value after h
first-at (malformed kind m ∷ es) n key value after h = first-at es n key value after h
first-at (read_fault m ∷ es) n key value after h = first-at es n key value after h

first-none : (es : List Entry) (key : List ℕ) → HasNoPair key es → first_place (places_in es) key ≡ None
first-none [] key h = refl
first-none (item m (pair a b) ∷ es) key h = let other = other-test a key h.0 in rw other (first-none es key h.1)
first-none (item m (comment text) ∷ es) key h = first-none es key h
first-none (malformed kind m ∷ es) key h = first-none es key h
first-none (read_fault m ∷ es) key h = first-none es key h

-- The line of the row is that of the first pair with the key.
pub puts-number : (fs : List Finding) (P Q : List KeyPlace) (number : ℕ) (key : List ℕ) (row : ℕ) → HoldPlaces (found_pairs fs) P → PutsKey number key P row Q
    → (place_at Q row).number ≡ unwrap_or (first_place (keys_among fs) key) number
puts-number fs P Q number key row h (inl (found, same)) =
    let at = found-at P key row found in
    let line : IsFirstLine (found_pairs fs) (place_at P row).key (place_at P row).number =
    h.each row no_place at.0 in
    let first : first_place (keys_among fs) (place_at P row).key ≡ Some (place_at P row).number =
    ap (λ v. first_place v (place_at P row).key) (keys-places fs ∙ ap places_in line.division)
    ∙ first-at line.before (place_at P row).number (place_at P row).key line.value line.after line.none_before in
    ap (λ v. (place_at v row).number) same
    ∙ ap (λ o. unwrap_or o number) (sym first ∙ ap (first_place (keys_among fs)) at.1)
puts-number fs P Q number key row h (inr (none, last, new)) =
    let no = no_pair-from key (found_pairs fs) (λ m. no-both key (place_keys P) none (h.first.every key m)) in
    ap (λ v. (place_at v row).number) new
    ∙ ap (λ m. (place_at (P ++ place number key ∷ []) m).number) last
    ∙ ap (λ p. let q : KeyPlace = p in q.number) (get_or-append_seam P (place number key) [] no_place)
    ∙ sym (ap (λ o. unwrap_or o number) (ap (λ v. first_place v key) (keys-places fs) ∙ first-none (found_pairs fs) key no))
