-- The laws of setting a value.
use Rattle.std.proofs.Common.{◌≡◌, ℕ, ◌+◌, true, List, [], ◌∷◌, ◌++◌, length, Option, Some, None, refl, ap, sym, ◌∙◌, subst, arith}
use Rattle.std.proofs.lemmas.Bool.{false_from_ne_true}
use Rattle.properties_format.specs.Encoding.{Encoding, byte_order_mark, Repertoire, in_encoding}
use Rattle.properties_format.specs.Lines.{end, joined}
use Rattle.properties_format.specs.Items.{pair, Entry, item, AreItems, Outcome, ignored, given, broken, IsOutcome}
use Rattle.properties_format.specs.Computed.Items.{outcome_of, followed, items_of}
use Rattle.properties_format.specs.Maps.{HasNoPair, IsLastValue, HasValue}
use Rattle.properties_format.specs.Body.{HeldLine, HasKey, as_lines, NoneHasKey, groups_bytes}
use Rattle.properties_format.specs.Edited.{bom_of, edited}
use Rattle.properties_format.specs.Edits.{put, set_value}
use Rattle.properties_format.specs.EditLaws.{SettingItsOwnValueChangesNothing, SettingAValueTwiceIsSettingItOnce, SettingAValueAgainChangesNothing, SettingAValueGivesIt}
use Rattle.properties_format.specs.Valued.{HoldsPair, IsSetValueResult}
use Rattle.properties_format.specs.Plan.{Change, at_last, planned_or, value_change, value_added, with_value_set}
use Rattle.properties_format.specs.Computed.Body.{held_groups_of}
use Rattle.properties_format.specs.Computed.Valued.{has_value}
use Rattle.properties_format.proofs.Items.Unique.{items_of-meets, items_of-only, outcome_of-meets, outcome_of-only}
use Rattle.properties_format.proofs.Maps.{value_in, map-meets, value_in-only}
use Rattle.properties_format.proofs.Body.Groups.{held_groups_of-meets, held-body}
use Rattle.properties_format.proofs.Body.Numbers.{items_of-groups, entries_in}
use Rattle.properties_format.proofs.Edited.ByteOrderMarks.{source-whole}
use Rattle.properties_format.proofs.Edits.Results.{same-results, edit_result}
use Rattle.properties_format.proofs.Changed.Laws.{IsReadable, edit-contents}
use Rattle.properties_format.proofs.Changed.Maps.{same-test}
use Rattle.properties_format.proofs.Changed.Read.{readable, edit-reads}
use Rattle.properties_format.proofs.EditLaws.{result-made, maps-differ, set-differs}
use Rattle.properties_format.proofs.Plan.Slots.{last-stays}
use Rattle.properties_format.proofs.Plan.Again.{IsNotAt, value_set-twice}
use Rattle.properties_format.proofs.Plan.Last.{IsPlanOf, at_last-meets}
use Rattle.properties_format.proofs.Plan.Made.{value_set-is_planned}
use Rattle.properties_format.proofs.Valued.Made.{HasPair-test, one-value}

-- ---- the value of a key in a source

-- If an outcome isn't a pair with the key, neither is its entry.
followed-other : (key : List ℕ) (n : ℕ) (o : Outcome) (entries : List Entry) → ((v : List ℕ) → o ≡ given (pair key v) → ⊥) → AreItems (followed n o entries)
    → (AreItems entries → HasNoPair key entries) → HasNoPair key (followed n o entries)
followed-other key n o entries h1 h2 h3 = grind (arith)

-- If no group has the key, no item is a pair with it.
none-pairs : (key : List ℕ) (n : ℕ) (gs : List (List HeldLine)) → NoneHasKey key gs → AreItems (entries_in n gs) → HasNoPair key (entries_in n gs)
none-pairs key n [] h a = tt
none-pairs key n (g ∷ gs) h a =
    followed-other key n (outcome_of (joined (as_lines g))) (entries_in (n + length g) gs)
    (λ v s. h.0 (v, subst (IsOutcome (joined (as_lines g))) s (outcome_of-meets (joined (as_lines g))))) a
    (none-pairs key (n + length g) gs h.1)

-- One more entry at the front doesn't change the last value.
followed-last : (key value : List ℕ) (n : ℕ) (o : Outcome) (entries : List Entry) → AreItems (followed n o entries)
    → (AreItems entries → IsLastValue entries key value) → IsLastValue (followed n o entries) key value
followed-last key value n ignored entries a k = k a
followed-last key value n (given content) entries a k =
    let m = k a in
    record { before = item n content ∷ m.before; number = m.number; after = m.after; division = ap (λ v. item n content ∷ v) m.division; no_later = m.no_later }
followed-last key value n (broken kind) entries a k = absurd a

-- If the last group with the key has the value, so does the last item with the key.
groups-last : (key value : List ℕ) (n : ℕ) (before : List (List HeldLine)) (g : List HeldLine) (after : List (List HeldLine)) → HoldsPair key value g
    → NoneHasKey key after → AreItems (entries_in n (before ++ g ∷ after)) → IsLastValue (entries_in n (before ++ g ∷ after)) key value
groups-last key value n [] g after h k a =
    let o = outcome_of-only (joined (as_lines g)) (given (pair key value)) h in
    let rest = entries_in (n + length g) after in
    let s : followed n (outcome_of (joined (as_lines g))) rest ≡ item n (pair key value) ∷ rest = ap (λ v. followed n v rest) (sym o) in
    record { before = []; number = n; after = rest; division = s; no_later = none-pairs key (n + length g) after k (rw s at a) }
groups-last key value n (f ∷ before) g after h k a = search (followed-last, groups-last key value (n + length f) before g after h k)

module _ (e : Encoding) (source key : List ℕ) (r : IsReadable e source) where
  abbrev groups : List (List HeldLine)
  groups = held_groups_of (byte_order_mark e source).encoding (byte_order_mark e source).body

  entries-are : items_of e source end ≡ entries_in 1 groups
  entries-are = items_of-groups e source

  -- The last pair with the key has the source's value for it.
  place-value : (before : List (List HeldLine)) (g : List HeldLine) (after : List (List HeldLine)) → groups ≡ before ++ g ∷ after → HasKey key g
      → NoneHasKey key after → (value : List ℕ) × HoldsPair key value g × IsLastValue (items_of e source end) key value
  place-value before g after s (value, h) n =
      let all = entries-are ∙ ap (entries_in 1) s in
      (value, h, rw all (groups-last key value 1 before g after h n (rw all at r.no_fault)))

  -- If that pair has a value, the source has it.
  place-has : (value : List ℕ) (before : List (List HeldLine)) (g : List HeldLine) (after : List (List HeldLine)) → groups ≡ before ++ g ∷ after → HasKey key g
      → NoneHasKey key after → has_value value g ≡ true → HasValue e source key (Some value)
  place-has value before g after s h n k =
      let m = place-value before g after s h n in
      record {
        entries = items_of e source end;
        items = items_of-meets e source end;
        whole = r.no_fault;
        is = subst (IsLastValue (items_of e source end) key) (one-value key m.0 value g m.1 k) m.2;
      }

  -- If the source has the value, the plan changes no group.
  own-stays : (t : Repertoire) (value : List ℕ) → HasValue e source key (Some value) → (o : Option (List Change))
      → IsPlanOf key (value_change t value) true groups o → planned_or o (value_added t key value groups) groups ≡ groups_bytes groups
  own-stays t value h o m = of-plan (value_in-only (items_of e source end) key (Some value) is) o m
    where
      is : IsLastValue (items_of e source end) key value
      is = subst (λ v. IsLastValue v key value) (items_of-only e source end h.entries h.items) h.is

      of-plan : Some value ≡ value_in (items_of e source end) key → (o : Option (List Change)) → IsPlanOf key (value_change t value) true groups o
          → planned_or o (value_added t key value groups) groups ≡ groups_bytes groups
      of-plan a None m =
          let b = value_in-only (items_of e source end) key None (rw entries-are (none-pairs key 1 groups m (rw entries-are at r.no_fault))) in
          absurd (cc)
      of-plan a (Some cs) m =
          let (v, has, last) = place-value m.before m.group m.after m.division m.has m.no_later in
          let b = value_in-only (items_of e source end) key (Some v) last in
          let s : v ≡ value = cc in
          (last-stays key (value_change t value) true groups cs m (rw (HasPair-test key value m.group (rw s at has)) refl)).0

-- If the source has the value, setting that value results in the source.
own-made : (t : Repertoire) (source key value : List ℕ) → IsReadable t.encoding source → HasValue t.encoding source key (Some value)
    → with_value_set t source key value ≡ source
own-made t source key value r h =
    let f = byte_order_mark t.encoding source in
    let gs = held_groups_of f.encoding f.body in
    let change = value_change (in_encoding t f.encoding) value in
    ap (λ v. bom_of source ++ v)
    (own-stays t.encoding source key r (in_encoding t f.encoding) value h (at_last key change true gs) (at_last-meets key change true gs)
    ∙ held-body f.encoding f.body gs r.editable (held_groups_of-meets f.encoding f.body))
    ∙ sym (source-whole t.encoding source)

-- ---- the laws

-- Setting a key to the value that it already has changes no byte.
pub setting-own_value : (r : Repertoire) (source key value : List ℕ) → SettingItsOwnValueChangesNothing r source key value
setting-own_value r source key value has result h =
    (value_set-is_planned r source key value result h.0).0 h.2 ∙ own-made r source key value (readable r.encoding source h.0 h.1) has

-- Setting a value twice equals setting it once, to the later value, if the source doesn't have that value already.
pub setting-value_twice : (t : Repertoire) (source key first second : List ℕ) → SettingAValueTwiceIsSettingItOnce t source key first second
setting-value_twice t source key first second k v w other between h result =
    let r = readable t.encoding source h.0 h.1 in
    let next = (edit-contents t source (set_value key first) between r (k, v) h.2).readable in
    let made = (value_set-is_planned t source key first between h.0).0 h.2 in
    let no : IsNotAt second key (groups t.encoding source key r) =
    λ before g after s m n. false_from_ne_true (has_value second g) (λ yes. other (place-has t.encoding source key r second before g after s m n yes)) in
    let bytes = rw (← made) at (value_set-twice t source key first second h.0 k v w no) in
    let same = result-made t.encoding between _ next ∙ ap edited bytes ∙ sym (result-made t.encoding source _ r) in
    same-results _ _ (edit_result t between (set_value key second)) (edit_result t source (set_value key second)) same result

-- Setting a value a second time changes no byte: the source has it then.
pub setting-value_again : (t : Repertoire) (source key value : List ℕ) → SettingAValueAgainChangesNothing t source key value
setting-value_again t source key value k v between h =
    let old = items_of t.encoding source end in
    let new = items_of t.encoding between end in
    let next = (edit-contents t source (set_value key value) between (readable t.encoding source h.0 h.1) (k, v) h.2).readable in
    let are = items_of-meets t.encoding between end in
    let reads = edit-reads t source (set_value key value) between (k, v) h old new (items_of-meets t.encoding source end) are in
    let is : IsLastValue new key value = rw (same-test key key refl) at (reads.mapped (value_in old) (map-meets old) key) in
    let has : HasValue t.encoding between key (Some value) =
    record { entries = new; items = are; whole = next.no_fault; is = is } in
    let own = own-made t between key value next has in
    subst (IsSetValueResult t between key value) (result-made t.encoding between _ next ∙ ap edited own) (edit_result t between (set_value key value)).meets

-- After a value is set, the map has it for the key, and for every other key what it had before.
pub setting-value_gives : (r : Repertoire) (source key value : List ℕ) → SettingAValueGivesIt r source key value
setting-value_gives r source key value k v result h old new =
    maps-differ r.encoding source result key (put key value) (Some value) old new
    (λ before after i j m. (edit-reads r source (set_value key value) result (k, v) h before after i j).mapped old m) (set-differs key value)
