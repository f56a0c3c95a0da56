-- The computed result of an editor is a result of that edit, and the only one.
use Rattle.std.proofs.Common.{◌≡◌, ℕ, ◌+◌, length, true, List, [], ◌∷◌, refl, inl, inr, arith, ap, length-append, ◌++◌}
use Rattle.std.proofs.lemmas.Bool.{cases_Bool}
use Rattle.properties_format.specs.Encoding.{Encoding, byte_order_mark}
use Rattle.properties_format.specs.Lines.{end}
use Rattle.properties_format.specs.Escapes.{Malformed}
use Rattle.properties_format.specs.Items.{Entry, item, malformed, AreItems}
use Rattle.properties_format.specs.Body.{HeldLine, held_in}
use Rattle.properties_format.specs.Computed.Items.{items_of}
use Rattle.properties_format.specs.Edited.{EditResult, edited, unsupported, unreadable, is_editable, IsFirstMalformed, IsEditResult}
use Rattle.properties_format.proofs.Items.Unique.{items_of-meets, items_of-only}
use Rattle.properties_format.proofs.Body.Numbers.{items_of-groups, entries_in}
use Rattle.std.specs.Prelude.{if◌then◌else◌}

-- ---- the computed result

-- the result, given the entries of the source: its first malformed entry, or these bytes if it has none
abbrev pub result_by : List Entry → List ℕ → EditResult
result_by [] result = edited result
result_by (malformed kind n ∷ entries) result = unreadable kind n
result_by (entry ∷ entries) result = result_by entries result

-- the result of an edit that makes these bytes of the source; the encoding is tested first
abbrev pub result_of : Encoding → List ℕ → List ℕ → EditResult
result_of e source result = if is_editable (byte_order_mark e source).encoding then result_by (items_of e source end) result else unsupported

-- ---- results

-- what the items say about a result that is made of these bytes
abbrev IsBy : List Entry → List ℕ → EditResult → Type 0
IsBy entries made (edited result) = AreItems entries × (result ≡ made)
IsBy entries made unsupported = ⊥
IsBy entries made (unreadable kind n) = IsFirstMalformed kind n entries

-- The computed result is what the items say: no read of a source in memory fails.
result_by-groups : (n : ℕ) (gs : List (List HeldLine)) (made : List ℕ) → IsBy (entries_in n gs) made (result_by (entries_in n gs) made)
result_by-groups n [] made = (tt, refl)
result_by-groups n (g ∷ gs) made = grind (arith, result_by-groups (n + length g) gs made)

result_by-meets : (e : Encoding) (source made : List ℕ) → IsBy (items_of e source end) made (result_by (items_of e source end) made)
result_by-meets e source made = rw (items_of-groups e source) (result_by-groups 1 _ made)

-- If no item is malformed, the result is these bytes.
pub result_by-edited : (entries : List Entry) (made : List ℕ) → AreItems entries → result_by entries made ≡ edited made
result_by-edited [] made h = refl
result_by-edited (item n content ∷ entries) made h = result_by-edited entries made h
result_by-edited entries made h = absurd h

-- Otherwise the result is the first malformed item.
result_by-unreadable : (entries : List Entry) (made : List ℕ) (kind : Malformed) (n : ℕ) → IsFirstMalformed kind n entries
    → result_by entries made ≡ unreadable kind n
result_by-unreadable (malformed other m ∷ entries) made kind n h = rw (h.0, h.1)
result_by-unreadable [] made kind n h = absurd h
result_by-unreadable (entry ∷ entries) made kind n h = result_by-unreadable entries made kind n h

-- The encoding in force can be edited.
pub result-editable : (e : Encoding) (source made : List ℕ) → is_editable (byte_order_mark e source).encoding ≡ true
    → result_of e source made ≡ result_by (items_of e source end) made
result-editable e source made ok = rw ok

-- In an encoding that can be edited, what the items say about bytes that the edit makes is a result of the edit.
by-result : (e : Encoding) (source made : List ℕ) (Makes : List ℕ → Type 0) (r : EditResult) → is_editable (byte_order_mark e source).encoding ≡ true
    → Makes made → IsBy (items_of e source end) made r → IsEditResult e source Makes r
by-result e source made Makes r ok m h = grind (arith, items_of-meets e source end)

-- The result with these bytes, if the edit makes them, is a result of the edit.
pub result_of-meets : (e : Encoding) (source made : List ℕ) (Makes : List ℕ → Type 0) → (is_editable (byte_order_mark e source).encoding ≡ true → Makes made)
    → IsEditResult e source Makes (result_of e source made)
result_of-meets e source made Makes m = elim (cases_Bool (is_editable (byte_order_mark e source).encoding)) [
  | inl ok ↦ rw ok (by-result e source made Makes _ ok (m ok) (result_by-meets e source made))
  | inr h ↦ rw h h
]

-- If the edit makes no other bytes, there is no other result.
pub result_of-only : (e : Encoding) (source made : List ℕ) (Makes : List ℕ → Type 0) (r : EditResult)
    → (is_editable (byte_order_mark e source).encoding ≡ true → (result : List ℕ) → Makes result → result ≡ made)
    → IsEditResult e source Makes r → r ≡ result_of e source made
result_of-only e source made Makes (edited result) one (ok, items, h) =
    rw (ok, one ok result h, result_by-edited (items_of e source end) made (rw (items_of-only e source end items.0 items.1) at items.2))
result_of-only e source made Makes unsupported one h = rw h
result_of-only e source made Makes (unreadable kind n) one (ok, items) =
    rw (ok, result_by-unreadable (items_of e source end) made kind n (rw (items_of-only e source end items.0 items.1) at items.2))

-- ---- groups before others

-- After groups without malformed escapes, the first malformed escape is that of the following groups.
pub result-after : (n : ℕ) (gs hs : List (List HeldLine)) (made : List ℕ) → AreItems (entries_in n gs)
    → result_by (entries_in n (gs ++ hs)) made ≡ result_by (entries_in (n + length (held_in gs)) hs) made
result-after n [] hs made h = let same : n ≡ n + 0 = omega arith in ap (λ m. result_by (entries_in m hs) made) same
result-after n (g ∷ gs) hs made h = grind (arith, length-append, result-after (n + length g) gs hs made)
