-- Pairs that are compared and counted.
use Rattle.std.proofs.Common.{◌≡◌, ◌≢◌, ℕ, ◌+◌, ◌<◌, true, false, List, [], ◌∷◌, ◌++◌, length, get_or, refl, sym, ap, ap₂, subst, ◌∙◌, inl, inr, arith, append-nil}
use Rattle.std.specs.Prelude.{◌&&◌, ◌⊎◌, not, Bool, All, AllPairs, bytes_eq, count_by, map, Contains, Option, Some, None, cond, if◌then◌else◌}
use Rattle.std.specs.{Bool.Decides, List.filter, Option.is_none, Set.is_member, Global.Vec}
use Rattle.std.proofs.{Math.Bool.and-true, Math.ListN.replicate, Math.ListN.set, lemmas.Bool.cases_Bool, lemmas.Bool.cases_eq, lemmas.Bool.cases_lt, lemmas.Cmp.nat_list_eq_equiv}
use Rattle.std.proofs.lemmas.List.{ext_get_or, get_or-map, get_or-set_other, length-map, length-set, map-append}
use Rattle.std.proofs.lemmas.List.{Elements.All-tail, Elements.All-weaker, Elements.filter-append, Elements.filter_map-append}
use Rattle.std.proofs.lemmas.List.Sums.{length-filter, sum_by-cons}
use Rattle.std.proofs.{lemmas.Grind.get_or-set_at, lemmas.Map.Made.is_member-Decides, lemmas.Map.Made.is_member-filter, lemmas.Simd.splat_is_map, lemmas.Slice.Eq.bytes_eq-Decides}
use Rattle.properties_format.specs.{Computed.Maps.AreFirstOf, Computed.Maps.HasNot, Computed.Maps.first_value, Edits.ArePairs, Encoding.Encoding, Items.pair, Items.Entry, Items.item}
use Rattle.properties_format.specs.Maps.{AreKeys, IsValue}
use Rattle.properties_format.proofs.{Keys.contained, Keys.contains, Keys.pair_key, Keys.pair_keys, Keys.are-keys, Maps.value_in, Maps.value_in-append, Maps.value_in-meets, Maps.value_in-only}
use Rattle.properties_tables.specs.{Sources.IsSound, Private.Fold.found_pairs, Private.Fold.AreFindings, Private.Fold.Finding}
use Rattle.properties_tables.specs.Private.Table.{place_keys, rows_of, table_places, FindsKey, IsKeyTable, IsTable, PutsKey}
use Rattle.properties_tables.specs.{Table.row_keys, Table.HasRows, Table.IsRow, Table.Row, declared.key_table.KeyTable.KeyTable}
use Rattle.properties_tables.proofs.{FirstKeys.first-new, FirstKeys.first-same, FirstKeys.has_not, FirstKeys.no-both, KeyTables.map-same, Rows.pairs-found, Rows.places-none}
use Rattle.properties_changing.specs.{Counts.is_changed, Counts.AreCounts, declared.counts.Comparison.Comparison, declared.counts.Counts.Counts, declared.counts.State.State}
use Rattle.properties_changing.specs.Private.Counting.{has_changed, is_gone, is_new, state_of, states_by, HasCompared}
use Rattle.properties_changing.specs.declared.counts.State.TheVariants.{Gone, Same, Changed}

-- what stands for a row where there is none
abbrev pub no_row : Row
no_row = record { key = []; first = 0; last = 0; value = [] }

pub keys-length : (rows : List Row) → length (row_keys rows) ≡ length rows
keys-length rows = length-map rows (λ r. r.key)

member : (keys : List (List ℕ)) (key : List ℕ) → Decides (is_member bytes_eq keys key) (Contains keys key)
member keys key = is_member-Decides bytes_eq-Decides keys key

-- ---- one pair more

module _ (pairs : List Entry) (number : ℕ) (key value : List ℕ) where
  abbrev more : List Entry
  more = pairs ++ item number (pair key value) ∷ []

  keys-more : pair_keys more ≡ pair_keys pairs ++ key ∷ []
  keys-more = filter_map-append pair_key pairs (item number (pair key value) ∷ [])

  value-more : (k : List ℕ) (b : Bool) → bytes_eq key k ≡ b → value_in more k ≡ first_value (if b then Some value else None) (value_in pairs k)
  value-more k b is = value_in-append pairs (item number (pair key value) ∷ []) k ∙ ap (λ c. first_value (if c then Some value else None) (value_in pairs k)) is

  value-same : value_in more key ≡ Some value
  value-same = value-more key true ((bytes_eq-Decides key key).1 refl)

  value-other : (k : List ℕ) → key ≢ k → value_in more k ≡ value_in pairs k
  value-other k other = elim (cases_Bool (bytes_eq key k)) [
    | inl same ↦ absurd (other ((bytes_eq-Decides key k).0 same))
    | inr differ ↦ value-more k false differ
  ]

  -- The keys, each once.
  keys-next : (keys : List (List ℕ)) → AreFirstOf (pair_keys pairs) keys → (next : List (List ℕ)) × AreFirstOf (pair_keys more) next
      × (((is_member bytes_eq keys key ≡ true) × (next ≡ keys)) ⊎ ((is_member bytes_eq keys key ≡ false) × (next ≡ keys ++ key ∷ [])))
  keys-next keys are = elim (cases_Bool (is_member bytes_eq keys key)) [
    | inl there ↦ (
      keys,
      subst (λ v. AreFirstOf v keys) (sym keys-more) (first-same (pair_keys pairs) keys key are (contained key keys ((member keys key).0 there))),
      inl (there, refl),
    )
    | inr absent ↦ (
      keys ++ key ∷ [],
      subst (λ v. AreFirstOf v (keys ++ key ∷ [])) (sym keys-more)
          (first-new (pair_keys pairs) keys key are (has_not key keys (λ has. let is = (member keys key).1 (contains key keys has) in absurd (cc)))),
      inr (absent, refl),
    )
  ]

module _ (rows : List Row) (pairs : List Entry) (number : ℕ) (key value : List ℕ) where
  abbrev state_by : List Entry → Row → State
  state_by es r = state_of r.value (value_in es r.key)

  -- The row of the key gets a state,
  states-set : (row : ℕ) → AllPairs (λ k l. k ≢ l) (row_keys rows) → FindsKey key (row_keys rows) (Some row)
      → set (states_by rows pairs) row (state_of (get_or rows row no_row).value (Some value)) ≡ states_by rows (more pairs number key value)
  states-set row apart found = ext_get_or Gone _ _ (set-length ∙ sym (length-map rows now)) (λ i l. at i (omega (arith, set-length, l)))
    where
      was : Row → State
      was = state_by pairs

      now : Row → State
      now = state_by (more pairs number key value)

      state : State
      state = state_of (get_or rows row no_row).value (Some value)

      below : row < length rows
      below = omega (arith, found.0, keys-length rows)

      set-length : length (set (map was rows) row state) ≡ length rows
      set-length = length-set (map was rows) row state ∙ length-map rows was

      its : (get_or rows row no_row).key ≡ key
      its = sym (get_or-map (λ r. r.key) rows row no_row key below) ∙ found.1 key

      differs : (i : ℕ) → i < length rows → (i ≡ row → ⊥) → key ≢ (get_or rows i no_row).key
      differs i l other e =
          let same = get_or-map (λ r. r.key) rows i no_row key l ∙ sym e ∙ sym (found.1 key) in
          elim (cases_lt i row) [
            | inl before ↦ apart i row key before found.0 same
            | inr after ↦ apart row i key (omega (arith, other)) (omega (arith, l, keys-length rows)) (sym same)
          ]

      at : (i : ℕ) → i < length rows → get_or (set (map was rows) row state) i Gone ≡ get_or (map now rows) i Gone
      at i l = elim (cases_eq i row) [
        | inl e ↦
            get_or-set_at (map was rows) row i state Gone e (omega (arith, below, length-map rows was))
            ∙ sym (get_or-map now rows i no_row Gone l ∙ ap (λ j. now (get_or rows j no_row)) e
            ∙ ap (state_of (get_or rows row no_row).value) (ap (value_in (more pairs number key value)) its ∙ value-same pairs number key value))
        | inr other ↦
            get_or-set_other (map was rows) row i state Gone other ∙ get_or-map was rows i no_row Gone l
            ∙ ap (state_of (get_or rows i no_row).value) (sym (value-other pairs number key value (get_or rows i no_row).key (differs i l other)))
            ∙ sym (get_or-map now rows i no_row Gone l)
      ]

  -- and without one, none does.
  states-kept : FindsKey key (row_keys rows) None → states_by rows pairs ≡ states_by rows (more pairs number key value)
  states-kept none =
      map-same (state_by pairs) (state_by (more pairs number key value)) (λ r. key ≢ r.key) rows
      (λ i d l e. no-both key (row_keys rows) none (contained key (row_keys rows)
      (i, omega (arith, l, keys-length rows), get_or-map (λ r. r.key) rows i d key l ∙ sym e)))
      (λ r other. ap (state_of r.value) (sym (value-other pairs number key value r.key other)))

-- ---- what is taken

pub compared-none : (c : Comparison) → IsTable c.old → AllPairs (λ k l. k ≢ l) (row_keys (rows_of c.old)) → IsKeyTable c.added → table_places c.added ≡ []
    → c.states.items ≡ replicate (length (rows_of c.old)) Gone → HasCompared c [] c
compared-none c table apart added empty states = record {
  same = refl;
  table = table;
  apart = apart;
  states = states ∙ splat_is_map (rows_of c.old) _ Gone refl;
  keys = [];
  are = places-none.first;
  added = added;
  others = ap place_keys empty;
}

pub compared-same : (first new : Comparison) (pairs others : List Entry) → others ≡ pairs → HasCompared first pairs new → HasCompared first others new
compared-same first new pairs others same h = subst (λ es. HasCompared first es new) (sym same) h

module _ (first old : Comparison) (pairs : List Entry) (number : ℕ) (key value : List ℕ) (h : HasCompared first pairs old) where
  abbrev rows : List Row
  rows = rows_of old.old

  -- what was compared with these states and added keys
  abbrev so-far : Vec State → ℕ → KeyTable → Comparison
  so-far states next added = record { old = old.old; states = states; next = next; added = added }

  filtered : (is : Bool) → is_new rows key ≡ is → filter (is_new rows) (h.keys ++ key ∷ []) ≡ filter (is_new rows) h.keys ++ cond is (key ∷ []) []
  filtered is new = filter-append (is_new rows) h.keys (key ∷ []) ∙ ap (λ b. filter (is_new rows) h.keys ++ cond b (key ∷ []) []) new

  -- A key has a row,
  pub compared-known : (row n : ℕ) (states : Vec State) → FindsKey key (row_keys rows) (Some row)
      → states.items ≡ set old.states.items row (state_of (get_or rows row no_row).value (Some value))
      → HasCompared first (more pairs number key value) (so-far states n old.added)
  compared-known row n states found sets = let next = keys-next pairs number key value h.keys h.are in record {
    same = h.same;
    table = h.table;
    apart = h.apart;
    states = sets ∙ ap (λ v. set v row (state_of (get_or rows row no_row).value (Some value))) h.states
        ∙ states-set rows pairs number key value row h.apart found;
    keys = next.0;
    are = next.1;
    added = h.added;
    others = h.others ∙ elim next.2 [
      | inl (there, is) ↦ ap (filter (is_new rows)) (sym is)
      | inr (absent, is) ↦ sym (ap (filter (is_new rows)) is ∙ filtered false known ∙ append-nil (filter (is_new rows) h.keys))
    ];
  }
    where
      known : is_new rows key ≡ false
      known = ap not ((member (row_keys rows) key).1 (row, found.0, found.1 key))

  -- or has none.
  pub compared-new : (row : ℕ) (added : KeyTable) → FindsKey key (row_keys rows) None
      → PutsKey number key (table_places old.added) row (table_places added) → IsKeyTable added
      → HasCompared first (more pairs number key value) (so-far old.states old.next added)
  compared-new row added none puts table = let next = keys-next pairs number key value h.keys h.are in record {
    same = h.same;
    table = h.table;
    apart = h.apart;
    states = h.states ∙ states-kept rows pairs number key value none;
    keys = next.0;
    are = next.1;
    added = table;
    others = elim puts [
      | inl (found, is) ↦
          let there = sym in-keys ∙ (member (place_keys (table_places old.added)) key).1 (row, found.0, found.1 key) in
          ap place_keys is ∙ h.others ∙ elim next.2 [
            | inl (t, is) ↦ ap (filter (is_new rows)) (sym is)
            | inr (f, is) ↦ absurd (cc)
          ]
      | inr (absent, at, is) ↦ elim next.2 [
        | inl (there, is) ↦
            absurd (no-both key (place_keys (table_places old.added)) absent
            (contained key _ ((member (place_keys (table_places old.added)) key).0 (in-keys ∙ there))))
        | inr (f, last) ↦
            ap place_keys is ∙ map-append (λ p. p.key) (table_places old.added) (record { number = number; key = key } ∷ [])
            ∙ ap (λ v. v ++ key ∷ []) h.others ∙ sym (ap (filter (is_new rows)) last ∙ filtered true new)
      ]
    ];
  }
    where
      new : is_new rows key ≡ true
      new = elim (cases_Bool (is_member bytes_eq (row_keys rows) key)) [
        | inl there ↦ absurd (no-both key (row_keys rows) none (contained key (row_keys rows) ((member (row_keys rows) key).0 there)))
        | inr absent ↦ ap not absent
      ]

      in-keys : is_member bytes_eq (place_keys (table_places old.added)) key ≡ is_member bytes_eq h.keys key
      in-keys =
          ap (λ v. is_member bytes_eq v key) h.others
          ∙ is_member-filter nat_list_eq_equiv (is_new rows) key (λ x same. ap (is_new rows) ((bytes_eq-Decides key x).0 same)) h.keys
          ∙ ap (λ b. is_member bytes_eq h.keys key && b) new ∙ and-true (is_member bytes_eq h.keys key)

-- ---- what is counted

counted : (f : Row → State) (p : State → Bool) (q : List ℕ → Bool) (rows : List Row) → All (λ r. p (f r) ≡ q r.key) rows
    → count_by p (map f rows) ≡ count_by q (row_keys rows)
counted f p q [] same = refl
counted f p q (r ∷ rows) same =
    sum_by-cons (λ s. cond (p s) 1 0) (f r) (map f rows)
    ∙ ap₂ (λ b n. cond b 1 0 + n) (same 0 r (omega arith)) (counted f p q rows (All-tail (λ r. p (f r) ≡ q r.key) r rows same))
    ∙ sym (sum_by-cons (λ k. cond (q k) 1 0) r.key (row_keys rows))

alike : (p q : List ℕ → Bool) → ((key : List ℕ) → p key ≡ q key) → (keys : List (List ℕ)) → count_by p keys ≡ count_by q keys
alike p q same [] = refl
alike p q same (key ∷ keys) =
    sum_by-cons (λ k. cond (p k) 1 0) key keys ∙ ap₂ (λ b n. cond b 1 0 + n) (same key) (alike p q same keys) ∙ sym (sum_by-cons (λ k. cond (q k) 1 0) key keys)

states-tell : (old : List ℕ) (new : Option (List ℕ)) → (has_changed (state_of old new) ≡ is_changed (Some old) new) × (is_gone (state_of old new) ≡ is_none new)
states-tell old None = (refl, refl)
states-tell old (Some new) = of (bytes_eq old new)
  where
    of : (b : Bool) → (has_changed (if b then Same else Changed) ≡ not b) × (is_gone (if b then Same else Changed) ≡ false)
    of true = (refl, refl)
    of false = (refl, refl)

-- A key of no row has no value.
valued : (pairs : List Entry) (rows : List Row) (key : List ℕ) → AreKeys pairs (row_keys rows) → is_new rows key ≡ is_none (value_in pairs key)
valued pairs rows key are = of (value_in pairs key) (value_in-meets pairs key)
  where
    of : (v : Option (List ℕ)) → IsValue pairs key v → is_new rows key ≡ is_none v
    of None none = elim (cases_Bool (is_member bytes_eq (row_keys rows) key)) [
      | inl there ↦
          let had = (are.each key).0 ((member (row_keys rows) key).0 there) in
          let same = value_in-only pairs key (Some had.0) had.1 ∙ sym (value_in-only pairs key None none) in absurd (cc)
      | inr absent ↦ ap not absent
    ]
    of (Some value) last = ap not ((member (row_keys rows) key).1 ((are.each key).1 (value, last)))

module _ (e : Encoding) (source bytes : List ℕ) (sound : IsSound e source) (sound' : IsSound e bytes) (first c : Comparison) (findings : List Finding)
    (had : HasRows e source (rows_of first.old)) (are : AreFindings e bytes findings) (took : HasCompared first (found_pairs findings) c) (counts : Counts)
    (changed : counts.changed ≡ count_by has_changed c.states.items) (added : counts.added ≡ length (table_places c.added))
    (removed : counts.removed ≡ count_by is_gone c.states.items) where
  abbrev olds : List Row
  olds = rows_of c.old

  held : HasRows e source olds
  held = subst (λ t. HasRows e source (rows_of t)) (sym took.same) had

  abbrev old : List ℕ → Option (List ℕ)
  old = value_in held.pairs

  read : (entries : List Entry) × ArePairs e bytes entries × (found_pairs findings ≡ entries)
  read = pairs-found e bytes findings are

  abbrev new : List ℕ → Option (List ℕ)
  new = value_in read.0

  has-value : All (λ r. old r.key ≡ Some r.value) olds
  has-value = All-weaker (IsRow held.pairs) (λ r. old r.key ≡ Some r.value) (λ r is. sym (value_in-only held.pairs r.key (Some r.value)
      (record { before = is.last.before; number = r.last; after = is.last.after; division = is.last.division; no_later = is.last.none_after })))
      olds held.have.each

  states : c.states.items ≡ map (λ r. state_of r.value (new r.key)) olds
  states = took.states ∙ ap (states_by olds) read.2

  counted-by : (p : State → Bool) (q : List ℕ → Bool) → All (λ r. p (state_of r.value (new r.key)) ≡ q r.key) olds
      → count_by p c.states.items ≡ count_by q (row_keys olds)
  counted-by p q same = ap (count_by p) states ∙ counted (λ r. state_of r.value (new r.key)) p q olds same

  -- So the counts are those of the sources.
  pub counts-are : AreCounts e source bytes counts
  counts-are = record {
    old_keys = row_keys olds;
    new_keys = took.keys;
    had = record { in_comments = sound.in_comments; pairs = held.pairs; are = held.are; is = held.have.keys };
    has = record {
      in_comments = sound'.in_comments;
      pairs = read.0;
      are = read.1;
      is = are-keys read.0 (pair_keys read.0) took.keys refl (subst (λ es. AreFirstOf (pair_keys es) took.keys) read.2 took.are);
    };
    old = old;
    new = new;
    were = λ key. record { in_comments = sound.in_comments; pairs = held.pairs; are = held.are; is = value_in-meets held.pairs key };
    are = λ key. record { in_comments = sound'.in_comments; pairs = read.0; are = read.1; is = value_in-meets read.0 key };
    changed = changed ∙ counted-by has_changed (λ key. is_changed (old key) (new key))
        (λ i d l. (states-tell (get_or olds i d).value (new (get_or olds i d).key)).0
        ∙ ap (λ v. is_changed v (new (get_or olds i d).key)) (sym (has-value i d l)));
    added =
        added ∙ sym (length-map (table_places c.added) (λ p. p.key)) ∙ ap length took.others ∙ length-filter (is_new olds) took.keys
        ∙ alike (is_new olds) (λ key. is_none (old key)) (λ key. valued held.pairs olds key held.have.keys) took.keys;
    removed = removed ∙ counted-by is_gone (λ key. is_none (new key)) (λ i d l. (states-tell (get_or olds i d).value (new (get_or olds i d).key)).1);
  }
