-- Keys that are held in a text and found by slots.
use Rattle.std.proofs.Common.{◌≡◌, ◌≢◌, ℕ, zero, suc, ◌+◌, ◌<◌, ◌≤◌, ◌/◌, List, [], ◌∷◌, ◌++◌, length, refl, ap, ap₂, sym, ◌∙◌, inl, inr, subst, arith, append-nil}
use Rattle.std.specs.Prelude.{◌⊎◌, ◌-◌, All, Option, Some, None, Ok, bytes_eq, encode_utf8_all, get_or, map, true, false}
use Rattle.std.specs.{BTreeMap.IsOrdered, Str.chars, Str.IsUtf8, String.string_cmp}
use Rattle.std.proofs.{Math.Seq.get_or-append_seam, lemmas.Bool.cases_Bool, lemmas.Bool.cases_eq, lemmas.Bool.cases_lt, lemmas.Grind.get_or-set_at}
use Rattle.std.proofs.{lemmas.List.Elements.All-append, lemmas.Slice.Eq.bytes_eq-Decides, lemmas.Str.encodes-chars}
use native.Mathlib.Nat.{mod-lt}
use Rattle.std.proofs.lemmas.List.{get_or_append_left, get_or_default, get_or-map, get_or-set_other, length-append, length-map, length-set, map-append}
use Rattle.properties_format.specs.{Encoding.Encoding, Items.pair, Items.item, Computed.Maps.HasNot}
use Rattle.properties_format.proofs.{Keys.contained, Keys.contains, Changed.Maps.other-test, Changed.Maps.same-test}
use Rattle.java_properties.specs.{Findings.KeyPlace, Private.LineByLine.number_at}
use Rattle.properties_items.specs.declared.findings.MalformedEscape.{MalformedEscape}
use Rattle.properties_tables.specs.Private.Fold.{found_escape, found_pair, keyed_pairs, Takes, TakesSound}
use Rattle.properties_tables.proofs.{KeyedPairs.keyed-append, KeyedPairs.keyed-same, FirstKeys.has_not, FirstKeys.no-both, HeldTexts.holds-kept}
use Rattle.properties_tables.proofs.HeldTexts.{kept-at}
use Rattle.properties_tables.specs.Private.Table.{bytes_at, hash_from, in_slot, no_row, key_place_in, place_keys, table_places, row_bytes, slot_for, FindsKey, HoldPlaces, HoldsText, IsFound, IsKeyTable, KeptRow, PutsKey, ReadsKeys, SlotHas, TookKeys}
use Rattle.properties_tables.specs.{declared.key_table.KeyRow.KeyRow, declared.key_table.KeyTable.KeyTable}
use Rattle.properties_tables.proofs.Rows.{all-one, places-none, places-put, places-read}

-- the same of each element
pub map-same : {X Y : Type 0} (f g : X → Y) (P : X → Type 0) (xs : List X) → All P xs → ((x : X) → P x → f x ≡ g x) → map f xs ≡ map g xs
map-same f g P [] h same = refl
map-same f g P (x ∷ xs) h same =
    ap₂ (λ v w. v ∷ w) (same x (h zero x (omega arith))) (map-same f g P xs (λ k d l. h (suc k) d (omega arith)) same)

pub none : KeyPlace
none = record { number = 0; key = [] }

-- Texts with the same characters have the same bytes.
same-text : (text other : List ℕ) → IsUtf8 text → IsUtf8 other → chars text ≡ chars other → text ≡ other
same-text text other is too same = sym (encodes-chars text is) ∙ ap encode_utf8_all same ∙ encodes-chars other too

-- ---- what is found

pub some-row : (held : ℕ) → (held ≡ 0 → ⊥) → held ≡ (held - 1) + 1
some-row held some = omega (arith, some)

module _ (s : KeyTable) where
  pub length-places : length (table_places s) ≡ length s.keys.rows.items
  length-places = length-map s.keys.rows.items (key_place_in s.keys.text.items)

  pub length-keys : length (place_keys (table_places s)) ≡ length s.keys.rows.items
  length-keys = length-map (table_places s) (λ (p : KeyPlace). p.key) ∙ length-places

  -- the place of a row
  pub place-at : (n : ℕ) (d : KeyPlace) → n < length s.keys.rows.items
      → get_or (table_places s) n d ≡ key_place_in s.keys.text.items (get_or s.keys.rows.items n no_row)
  place-at n d l = get_or-map (key_place_in s.keys.text.items) s.keys.rows.items n no_row d l

  pub key-at : (n : ℕ) (d : List ℕ) → n < length s.keys.rows.items → get_or (place_keys (table_places s)) n d ≡ chars (row_bytes s n)
  key-at n d l =
      get_or-map (λ (p : KeyPlace). p.key) (table_places s) n (key_place_in s.keys.text.items no_row) d (subst (λ v. n < v) (sym length-places) l)
      ∙ ap (λ (p : KeyPlace). p.key) (place-at n (key_place_in s.keys.text.items no_row) l)

  -- What is at the slot of a key is what its slot has.
  pub slot-is : (bytes : List ℕ) (slot held : ℕ) → slot ≡ slot_for (length s.slots.items) bytes → slot < length s.slots.items
      → held ≡ get_or s.slots.items slot held → in_slot s bytes ≡ held
  slot-is bytes slot held at below is =
      ap (λ v. get_or s.slots.items v 0) (sym at) ∙ sym (get_or_default s.slots.items slot held 0 below) ∙ sym is

  slot-below : (bytes : List ℕ) (slot : ℕ) → 0 < length s.slots.items → slot ≡ slot_for (length s.slots.items) bytes → slot < length s.slots.items
  slot-below bytes slot some at = subst (λ v. v < length s.slots.items) (sym at) (mod-lt (hash_from 0 bytes / 4294967296) some)

  module _ (n : ℕ) (text bytes : List ℕ) (below : n < length s.keys.rows.items) where
    -- the key of a row is this text, and is the key that is sought
    pub key-same : ((d : KeyPlace) → chars text ≡ (get_or (table_places s) n d).key) → bytes_eq text bytes ≡ true → chars (row_bytes s n) ≡ chars bytes
    key-same at same = sym (at none ∙ ap (λ (p : KeyPlace). p.key) (place-at n none below)) ∙ ap chars ((bytes_eq-Decides text bytes).0 same)

    -- or isn't
    pub key-differs : IsUtf8 text → IsUtf8 bytes → ((d : KeyPlace) → chars text ≡ (get_or (table_places s) n d).key) → bytes_eq text bytes ≡ false
        → chars (row_bytes s n) ≡ chars bytes → ⊥
    key-differs is too at differs same =
        let e = same-text text bytes is too (at none ∙ ap (λ (p : KeyPlace). p.key) (place-at n none below) ∙ same) in
        let t = (bytes_eq-Decides text bytes).1 e in
        absurd (cc)

module _ (s : KeyTable) (table : IsKeyTable s) (bytes : List ℕ) (is : IsUtf8 bytes) where
  -- what is in its slot: nothing, or a row
  pub held-is : (slot held : ℕ) → slot ≡ slot_for (length s.slots.items) bytes → held ≡ get_or s.slots.items slot held → in_slot s bytes ≡ held
  held-is slot held at there = slot-is s bytes slot held at (slot-below s bytes slot table.some at) there

  pub held-row : (slot held : ℕ) → slot ≡ slot_for (length s.slots.items) bytes → held ≡ get_or s.slots.items slot held → (held ≡ 0 → ⊥)
      → (in_slot s bytes ≡ (held - 1) + 1) × (held - 1 < length s.keys.rows.items)
  held-row slot held at there some =
      let is = held-is slot held at there ∙ some-row held some in
      (is, table.slots (slot_for (length s.slots.items) bytes) (held - 1) is)

  -- No row has the key.
  lacks : ((n : ℕ) → n < length s.keys.rows.items → row_bytes s n ≡ bytes → ⊥) → HasNot (chars bytes) (place_keys (table_places s))
  lacks never = has_not (chars bytes) (place_keys (table_places s)) (λ h.
      let c = contains (chars bytes) (place_keys (table_places s)) h in
      let below : c.0 < length s.keys.rows.items = subst (λ v. c.0 < v) (length-keys s) c.1 in
      let same : chars (row_bytes s c.0) ≡ chars bytes = sym (key-at s c.0 (chars bytes) below) ∙ c.2 in
      never c.0 below (same-text (row_bytes s c.0) bytes (table.texts c.0 no_row below).is is same))

  -- Nothing is in its slot.
  pub finds-empty : in_slot s bytes ≡ 0 → FindsKey (chars bytes) (place_keys (table_places s)) None
  finds-empty none = lacks (λ n l same.
      let f = table.every n l in
      let k = sym none ∙ ap (in_slot s) (sym same) ∙ f.1 in
      absurd (omega arith))

  -- It is the key of a row.
  pub at-row : (n : ℕ) → n < length s.keys.rows.items → chars (row_bytes s n) ≡ chars bytes → FindsKey (chars bytes) (place_keys (table_places s)) (Some n)
  at-row n l same = (subst (λ v. n < v) (sym (length-keys s)) l, λ d. key-at s n d l ∙ same)

  -- Another is in its slot, and it is among the others, or nowhere.
  pub finds-other : (m : ℕ) (o : Option ℕ) → in_slot s bytes ≡ m + 1 → (chars (row_bytes s m) ≡ chars bytes → ⊥) → number_at s.others.entries (chars bytes) ≡ o
      → FindsKey (chars bytes) (place_keys (table_places s)) o
  finds-other m (Some n) some differs there = let k = table.among (chars bytes) n there in at-row n k.0 k.1
  finds-other m None some differs there = lacks (λ n l same.
      let f = table.every n l in
      let k : m + 1 ≡ f.0 + 1 = sym some ∙ ap (in_slot s) (sym same) ∙ f.1 in
      elim f.2 [
        | inl e ↦ let j : n ≡ m = omega arith in differs (ap chars (ap (row_bytes s) (sym j) ∙ same))
        | inr e ↦ let j : None ≡ Some n = sym there ∙ ap (λ v. number_at s.others.entries (chars v)) (sym same) ∙ e in absurd (cc)
      ])

-- ---- a row that is kept

pub record KeepsSlots (bytes : List ℕ) (row : ℕ) (s t : KeyTable) : Type 0 where
  pub some : 0 < length t.slots.items
  pub ordered : IsOrdered string_cmp t.others
  pub slots : (i n : ℕ) → get_or t.slots.items i 0 ≡ n + 1 → (get_or s.slots.items i 0 ≡ n + 1) ⊎ (n ≤ row)
  pub among : (k : List ℕ) (n : ℕ) → number_at t.others.entries k ≡ Some n → (number_at s.others.entries k ≡ Some n) ⊎ ((n ≡ row) × (chars bytes ≡ k))
  pub slots_kept : (b : List ℕ) (m : ℕ) → in_slot s b ≡ m + 1 → in_slot t b ≡ m + 1
  pub others_kept : (k : List ℕ) (n : ℕ) → chars bytes ≢ k → number_at s.others.entries k ≡ Some n → number_at t.others.entries k ≡ Some n
  pub found : (m : ℕ) × (in_slot t bytes ≡ m + 1) × ((m ≡ row) ⊎ (number_at t.others.entries (chars bytes) ≡ Some row))

-- Slots, of which one may have got a row.
record HasSlots (bytes : List ℕ) (row held : ℕ) (s t : KeyTable) : Type 0 where
  pub some : 0 < length t.slots.items
  pub each : (i n : ℕ) → get_or t.slots.items i 0 ≡ n + 1 → (get_or s.slots.items i 0 ≡ n + 1) ⊎ (n ≤ row)
  pub kept : (b : List ℕ) (m : ℕ) → in_slot s b ≡ m + 1 → in_slot t b ≡ m + 1
  pub has : in_slot t bytes ≡ held + 1

module _ (bytes : List ℕ) (row held : ℕ) (s t : KeyTable) (table : IsKeyTable s) where
  here : ℕ
  here = slot_for (length s.slots.items) bytes

  here-below : here < length s.slots.items
  unfolding here
  here-below = mod-lt (hash_from 0 bytes / 4294967296) table.some

  has-slots : SlotHas bytes row held s t → HasSlots bytes row held s t
  unfolding here
  has-slots (inl (none, below, slots)) = record {
    some = let m = ap length slots in let l = length-set s.slots.items here (held + 1) in let some = table.some in omega arith;
    each = λ i n h. elim (cases_eq i here) [
      | inl same ↦
          let k = sym (ap (λ v. get_or v i 0) slots ∙ get_or-set_at s.slots.items here i (held + 1) 0 same here-below) ∙ h in
          inr (omega (arith, below))
      | inr other ↦ inl (sym (ap (λ v. get_or v i 0) slots ∙ get_or-set_other s.slots.items here i (held + 1) 0 other) ∙ h)
    ];
    kept = λ b m h. elim (cases_eq (slot_for (length s.slots.items) b) here) [
      | inl same ↦ let k = sym h ∙ ap (λ v. get_or s.slots.items v 0) same ∙ none in absurd (omega arith)
      | inr other ↦
          size b ∙ ap (λ v. get_or v (slot_for (length s.slots.items) b) 0) slots
          ∙ get_or-set_other s.slots.items here (slot_for (length s.slots.items) b) (held + 1) 0 other ∙ h
    ];
    has = size bytes ∙ ap (λ v. get_or v here 0) slots ∙ get_or-set_at s.slots.items here here (held + 1) 0 refl here-below;
  }
    where
      size : (b : List ℕ) → in_slot t b ≡ get_or t.slots.items (slot_for (length s.slots.items) b) 0
      size b = ap (λ v. get_or t.slots.items (slot_for v b) 0) (ap length slots ∙ length-set s.slots.items here (held + 1))
  has-slots (inr (some, slots)) = record {
    some = subst (λ v. 0 < length v) (sym slots) table.some;
    each = λ i n h. inl (subst (λ v. get_or v i 0 ≡ n + 1) slots h);
    kept = λ b m h. ap (λ v. get_or v (slot_for (length v) b) 0) slots ∙ h;
    has = ap (λ v. get_or v (slot_for (length v) bytes) 0) slots ∙ some;
  }

pub keeps : (bytes : List ℕ) (row : ℕ) (s t : KeyTable) → IsKeyTable s → KeptRow bytes row s t → KeepsSlots bytes row s t
keeps bytes row s t table (held, slot, kept) =
    let h = has-slots bytes row held s t table slot in
    elim kept [
      | inl (is, others) ↦ record {
        some = h.some;
        ordered = subst (IsOrdered string_cmp) (sym others) table.ordered;
        slots = h.each;
        among = λ k n e. inl (subst (λ v. number_at v.entries k ≡ Some n) others e);
        slots_kept = h.kept;
        others_kept = λ k n other e. subst (λ v. number_at v.entries k ≡ Some n) (sym others) e;
        found = (held, h.has, inl is);
      }
      | inr (ordered, updates) ↦ record {
        some = h.some;
        ordered = ordered;
        slots = h.each;
        among = λ k n e. elim (cases_Bool (bytes_eq (chars bytes) k)) [
          | inl same ↦
              let e : Some row ≡ Some n = sym (updates k ∙ (rw same refl)) ∙ e in
              inr (cc, (bytes_eq-Decides (chars bytes) k).0 same)
          | inr other ↦ inl (sym (updates k ∙ (rw other refl)) ∙ e)
        ];
        slots_kept = h.kept;
        others_kept = λ k n differs e. let other = other-test (chars bytes) k differs in updates k ∙ (rw other e);
        found = (
          held,
          h.has,
          inr (let same = same-test (chars bytes) (chars bytes) refl in updates (chars bytes) ∙ (rw same refl)),
        );
      }
    ]

-- ---- a row more

module _ (s t : KeyTable) (table : IsKeyTable s) (bytes : List ℕ) (new : HasNot (chars bytes) (place_keys (table_places s))) (r : KeyRow)
    (text : t.keys.text.items ≡ s.keys.text.items ++ bytes) (rows : t.keys.rows.items ≡ s.keys.rows.items ++ r ∷ [])
    (holds : HoldsText t.keys.text.items r.place)
    (at : bytes_at t.keys.text.items r.place ≡ bytes) where
  old-row : (n : ℕ) → n < length s.keys.rows.items → row_bytes t n ≡ row_bytes s n
  old-row n l =
      ap (λ v. bytes_at t.keys.text.items (get_or v n no_row).place) rows
      ∙ ap (λ (q : KeyRow). bytes_at t.keys.text.items q.place) (get_or_append_left s.keys.rows.items (r ∷ []) no_row n l)
      ∙ ap (λ v. bytes_at v (get_or s.keys.rows.items n no_row).place) text
      ∙ kept-at s.keys.text.items bytes (get_or s.keys.rows.items n no_row).place (table.texts n no_row l)

  new-row : row_bytes t (length s.keys.rows.items) ≡ bytes
  new-row =
      ap (λ v. bytes_at t.keys.text.items (get_or v (length s.keys.rows.items) no_row).place) rows
      ∙ ap (λ (q : KeyRow). bytes_at t.keys.text.items q.place) (get_or-append_seam s.keys.rows.items r [] no_row) ∙ at

  size : length t.keys.rows.items ≡ length s.keys.rows.items + 1
  size = ap length rows ∙ length-append s.keys.rows.items (r ∷ [])

  -- its place
  pub places-more : table_places t ≡ table_places s ++ record { number = r.first_line; key = chars bytes } ∷ []
  places-more =
      ap (map (key_place_in t.keys.text.items)) rows ∙ map-append (key_place_in t.keys.text.items) s.keys.rows.items (r ∷ [])
      ∙ ap (λ v. v ++ key_place_in t.keys.text.items r ∷ []) (map-same (key_place_in t.keys.text.items) (key_place_in s.keys.text.items)
      (λ (q : KeyRow). HoldsText s.keys.text.items q.place) s.keys.rows.items table.texts (λ q h. ap (λ v. place v q) (ap (λ v. bytes_at v q.place) text ∙ kept-at s.keys.text.items bytes q.place h)))
      ∙ ap (λ v. table_places s ++ place v r ∷ []) at
    where
      place : List ℕ → KeyRow → KeyPlace
      place v q = record { number = q.first_line; key = chars v }

  pub table-more : KeptRow bytes (length s.keys.rows.items) s t → IsKeyTable t
  table-more kept =
      let k = keeps bytes (length s.keys.rows.items) s t table kept in
      record {
        some = k.some;
        ordered = k.ordered;
        texts = subst (All (λ (q : KeyRow). HoldsText t.keys.text.items q.place)) (sym rows) (
            All-append (λ (q : KeyRow). HoldsText t.keys.text.items q.place) s.keys.rows.items (r ∷ [])
            (λ i d l. subst (λ v. HoldsText v (get_or s.keys.rows.items i d).place) (sym text)
            (holds-kept s.keys.text.items bytes (get_or s.keys.rows.items i d).place (table.texts i d l)))
            (all-one (λ (q : KeyRow). HoldsText t.keys.text.items q.place) r holds));
        slots = λ i n h. elim (k.slots i n h) [ inl old ↦ (let l = table.slots i n old in omega (arith, size)) | inr is ↦ omega (arith, size, is) ];
        among = λ key n h. elim (k.among key n h) [
          | inl old ↦ let l = table.among key n old in (omega (arith, l.0, size), ap chars (old-row n l.0) ∙ l.1)
          | inr (is, same) ↦ (omega (arith, size), ap (λ v. chars (row_bytes t v)) is ∙ ap chars new-row ∙ same)
        ];
        every = λ n l. elim (cases_lt n (length s.keys.rows.items)) [
          | inl below ↦ subst (Found n) (sym (old-row n below)) (old k n below (table.every n below))
          | inr beyond ↦
              let is : length s.keys.rows.items ≡ n = omega (arith, size) in
              subst (IsFound t) is (subst (Found (length s.keys.rows.items)) (sym new-row) k.found)
        ];
      }
    where
      Found : ℕ → List ℕ → Type 0
      Found n v = (m : ℕ) × (in_slot t v ≡ m + 1) × ((m ≡ n) ⊎ (number_at t.others.entries (chars v) ≡ Some n))

      old : KeepsSlots bytes (length s.keys.rows.items) s t → (n : ℕ) → n < length s.keys.rows.items → IsFound s n → Found n (row_bytes s n)
      old k n below f = (
        f.0,
        k.slots_kept (row_bytes s n) f.0 f.1,
        elim f.2 [
          | inl e ↦ inl e
          | inr m ↦ inr (k.others_kept (chars (row_bytes s n)) n (λ e. no-both (chars bytes) (place_keys (table_places s)) new (
              let here = subst (λ v. n < v) (sym (length-keys s)) below in
              contained (chars bytes) (place_keys (table_places s)) (n, here, key-at s n (chars bytes) below ∙ sym e))) m)
        ],
      )

-- ---- what is taken

pub took-none : (s : KeyTable) → IsKeyTable s → table_places s ≡ [] → TookKeys s [] s
took-none s table empty = record { table = table; hold = rw empty places-none }

-- a pair
pub took-pair : (old new : KeyTable) (number : ℕ) (key value : List ℕ) (row : ℕ) → PutsKey number key (table_places old) row (table_places new) → IsKeyTable new
    → Takes TookKeys old (found_pair number key value) new
took-pair old new number key value row puts table = λ first findings took. record {
  table = table;
  hold = subst (λ v. HoldPlaces v (table_places new)) (sym (keyed-append findings (found_pair number key value ∷ [])))
      (places-put (keyed_pairs findings) number key value (table_places old) (table_places new) row took.hold puts);
}

-- a malformed escape
pub took-escape : (s : KeyTable) (escape : MalformedEscape) (x : List ℕ) → keyed_pairs (found_escape escape x ∷ []) ≡ []
    → Takes TookKeys s (found_escape escape x) s
took-escape s escape x none = λ first findings took. record {
  table = took.table;
  hold = subst (λ v. HoldPlaces v (table_places s))
      (sym (keyed-append findings (found_escape escape x ∷ []) ∙ ap (λ v. keyed_pairs findings ++ v) none ∙ append-nil (keyed_pairs findings))) took.hold;
}

-- and one of a value
pub took-keyed : (old new : KeyTable) (escape : MalformedEscape) (x key : List ℕ) (row : ℕ)
    → keyed_pairs (found_escape escape x ∷ []) ≡ item escape.line_number (pair key []) ∷ []
    → PutsKey escape.line_number key (table_places old) row (table_places new) → IsKeyTable new → Takes TookKeys old (found_escape escape x) new
took-keyed old new escape x key row one puts table = λ first findings took. record {
  table = table;
  hold = subst (λ v. HoldPlaces v (table_places new))
      (sym (keyed-append findings (found_escape escape x ∷ []) ∙ ap (λ v. keyed_pairs findings ++ v) one))
      (places-put (keyed_pairs findings) escape.line_number key [] (table_places old) (table_places new) row took.hold puts);
}

-- the keys of a source
pub reads-keys : (e : Encoding) (source : List ℕ) (first t : KeyTable) → TakesSound TookKeys first e source (Ok t) → ReadsKeys e source (Ok t.keys)
reads-keys e source first t (sound, (findings, are, none, took)) = (
  sound,
  took.table.texts,
  places-read e source findings are (table_places t) (subst (λ v. HoldPlaces v (table_places t)) (keyed-same findings none) took.hold),
)
