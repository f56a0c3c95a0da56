-- Tables with values.
use Rattle.std.proofs.Common.{◌≡◌, ℕ, zero, suc, ◌^◌, ◌<◌, List, [], ◌∷◌, ◌++◌, length, refl, ap, ap₂, sym, ◌∙◌, inl, inr, subst, arith, append-nil}
use Rattle.std.specs.Prelude.{All, None, Some, Result, Ok, Err, get_or, map}
use Rattle.std.specs.{List.zip, Str.chars}
use Rattle.std.proofs.{Math.ListN.set, lemmas.List.Elements.All-append, lemmas.List.Elements.All-set, lemmas.Slice.Zip.get_or-zip, lemmas.Slice.Zip.length-zip}
use Rattle.std.proofs.lemmas.List.{get_or-map, length-append, length-map, length-set, map-append, map-set}
use Rattle.properties_format.specs.Encoding.{Encoding}
use Rattle.java_properties.specs.Findings.{KeyPlace}
use Rattle.properties_items.specs.declared.findings.MalformedEscape.{MalformedEscape}
use Rattle.properties_tables.specs.Private.Fold.{found_escape, found_pair, found_pairs, Takes, TakesSound}
use Rattle.properties_tables.specs.Private.Table.{bytes_at, place_keys, table_places, row_in, rows_of, FindsKey, HoldRows, HoldsText, IsKeyTable, IsTable, PutsKey, PutsRow, ReadsTable, TookRows}
use Rattle.properties_tables.specs.{Table.row_keys, Table.Row, declared.error.Failure.Failure, declared.table.LastPair.LastPair, declared.table.Table.Table}
use Rattle.properties_tables.proofs.{SourceFindings.pairs-append, HeldTexts.holds-kept, HeldTexts.kept-at, KeyTables.length-keys, KeyTables.length-places}
use Rattle.properties_tables.proofs.KeyTables.{none}
use Rattle.properties_tables.proofs.Rows.{all-one, rows-none, rows-put, rows-read}

-- ---- keys beside last pairs

all-later : {X : Type 0} (P : X → Type 0) (x : X) (xs : List X) → All P (x ∷ xs) → All P xs
all-later P x xs h k d l = h (suc k) d (omega arith)

-- the keys of rows
keys-zip : (values : List ℕ) (ks : List KeyPlace) (ls : List LastPair) → length ls ≡ length ks → row_keys (map (row_in values) (zip ks ls)) ≡ place_keys ks
keys-zip values [] ls h = refl
keys-zip values (k ∷ ks) [] h = absurd (omega arith)
keys-zip values (k ∷ ks) (l ∷ ls) h = ap (λ v. k.key ∷ v) (keys-zip values ks ls (omega arith))

-- Values that are appended change no row.
rows-grown : (values more : List ℕ) (ks : List KeyPlace) (ls : List LastPair) → All (λ l. HoldsText values l.value) ls
    → map (row_in (values ++ more)) (zip ks ls) ≡ map (row_in values) (zip ks ls)
rows-grown values more [] ls h = refl
rows-grown values more (k ∷ ks) [] h = refl
rows-grown values more (k ∷ ks) (l ∷ ls) h = ap₂ (λ v rows. record { key = k.key; first = k.number; last = l.line; value = chars v } ∷ rows)
    (kept-at values more l.value (h zero l (omega arith))) (rows-grown values more ks ls (all-later (λ (q : LastPair). HoldsText values q.value) l ls h))

zip-set : (ks : List KeyPlace) (ls : List LastPair) (i : ℕ) (l : LastPair) (d : KeyPlace) → i < length ks
    → zip ks (set ls i l) ≡ set (zip ks ls) i (get_or ks i d, l)
zip-set [] ls i l d below = absurd (omega arith)
zip-set (k ∷ ks) [] i l d below = refl
zip-set (k ∷ ks) (m ∷ ls) zero l d below = refl
zip-set (k ∷ ks) (m ∷ ls) (suc i) l d below = ap (λ v. (k, m) ∷ v) (zip-set ks ls i l d (omega arith))

zip-more : (ks : List KeyPlace) (ls : List LastPair) (k : KeyPlace) (l : LastPair) → length ls ≡ length ks
    → zip (ks ++ k ∷ []) (ls ++ l ∷ []) ≡ zip ks ls ++ (k, l) ∷ []
zip-more [] [] k l h = refl
zip-more [] (m ∷ ls) k l h = absurd (omega arith)
zip-more (j ∷ ks) [] k l h = absurd (omega arith)
zip-more (j ∷ ks) (m ∷ ls) k l h = ap (λ v. (j, m) ∷ v) (zip-more ks ls k l (omega arith))

-- ---- the rows of a table

pub no_last : LastPair
no_last = record { value = record { start = 0; length = 0 }; line = 0 }

module _ (t : Table) (table : IsTable t) where
  lasts-places : length t.lasts.items ≡ length (table_places t.keys)
  lasts-places = table.lasts ∙ sym (length-places t.keys)

  pub length-rows : length (rows_of t) ≡ length t.lasts.items
  length-rows =
      let m = length-map (zip (table_places t.keys) t.lasts.items) (row_in t.values.items) in
      let z = length-zip (table_places t.keys) t.lasts.items in
      let l = lasts-places in
      omega arith

  pub keys-rows : row_keys (rows_of t) ≡ place_keys (table_places t.keys)
  keys-rows = keys-zip t.values.items (table_places t.keys) t.lasts.items lasts-places

  pub row-at : (n : ℕ) (d : Row) (l : LastPair) → n < length (rows_of t)
      → get_or (rows_of t) n d ≡ row_in t.values.items (get_or (table_places t.keys) n none, get_or t.lasts.items n l)
  row-at n d l below =
      let r = length-rows in
      let p = lasts-places in
      let z = length-zip (table_places t.keys) t.lasts.items in
      get_or-map (row_in t.values.items) (zip (table_places t.keys) t.lasts.items) n (none, l) d (omega arith)
      ∙ ap (row_in t.values.items) (get_or-zip (table_places t.keys) t.lasts.items n (none, l) (omega arith) (omega arith))

  -- The lines of the last pairs fit.
  pub lines-fit : All (λ r. r.last < 2 ^ 64) (rows_of t)
  lines-fit = λ i d l. rw (row-at i d no_last l) (table.lines i no_last (let r = length-rows in omega arith))

  pub below-places : (n : ℕ) → n < length (rows_of t) → n < length (table_places t.keys)
  below-places n l = let r = length-rows in let p = lasts-places in omega arith

-- ---- a pair more

module _ (old new : Table) (table : IsTable old) (number : ℕ) (key bytes : List ℕ) (row : ℕ) (last : LastPair)
    (puts : PutsKey number key (table_places old.keys) row (table_places new.keys)) (keys : IsKeyTable new.keys)
    (values : new.values.items ≡ old.values.items ++ bytes) (holds : HoldsText new.values.items last.value)
    (at : bytes_at new.values.items last.value ≡ bytes) (line : last.line ≡ number) (fits : number < 2 ^ 64) where
  small : last.line < 2 ^ 64
  small = rw line fits

  kept : All (λ (l : LastPair). HoldsText new.values.items l.value) old.lasts.items
  kept = λ k d l. subst (λ v. HoldsText v (get_or old.lasts.items k d).value) (sym values)
      (holds-kept old.values.items bytes (get_or old.lasts.items k d).value (table.texts k d l))

  -- The rows of the keys and last pairs that stay are the same.
  same-rows : map (row_in new.values.items) (zip (table_places old.keys) old.lasts.items) ≡ rows_of old
  same-rows = ap (λ v. map (row_in v) (zip (table_places old.keys) old.lasts.items)) values
      ∙ rows-grown old.values.items bytes (table_places old.keys) old.lasts.items table.texts

  row-is : (k : KeyPlace) → k.key ≡ key → row_in new.values.items (k, last) ≡ record { key = key; first = k.number; last = number; value = chars bytes }
  row-is k is =
      ap (λ v. the v last.line (bytes_at new.values.items last.value)) is ∙ ap (λ v. the key v (bytes_at new.values.items last.value)) line
      ∙ ap (the key number) at
    where
      the : List ℕ → ℕ → List ℕ → Row
      the name n v = record { key = name; first = k.number; last = n; value = chars v }

  places-same : FindsKey key (place_keys (table_places old.keys)) (Some row) × (table_places new.keys ≡ table_places old.keys)
      → length new.keys.keys.rows.items ≡ length old.keys.keys.rows.items
  places-same h = sym (length-places new.keys) ∙ ap length h.1 ∙ length-places old.keys

  -- The key has a row,
  pub put-there : row < length old.lasts.items → new.lasts.items ≡ set old.lasts.items row last
      → PutsRow number key (chars bytes) (rows_of old) row (rows_of new) × IsTable new
  put-there below lasts = elim puts [
    | inl h ↦ (
      inl (
        subst (λ v. FindsKey key v (Some row)) (sym (keys-rows old table)) h.0,
        λ d.
            ap (λ v. map (row_in new.values.items) (zip v new.lasts.items)) h.1
            ∙ ap (λ v. map (row_in new.values.items) (zip (table_places old.keys) v)) lasts
            ∙ ap (map (row_in new.values.items)) (zip-set (table_places old.keys) old.lasts.items row last none within)
            ∙ map-set (row_in new.values.items) (zip (table_places old.keys) old.lasts.items) row (get_or (table_places old.keys) row none, last)
            ∙ ap₂ (λ rows r. set rows row r) same-rows (
            row-is (get_or (table_places old.keys) row none)
            (sym (get_or-map (λ (p : KeyPlace). p.key) (table_places old.keys) row none key within) ∙ h.0.1 key)
            ∙ ap (λ n. record { key = key; first = n; last = number; value = chars bytes })
            (sym (ap (λ (r : Row). r.first) (row-at old table row d no_last (let r = length-rows old table in omega arith))))),
      ),
      record {
        keys = keys;
        lasts = ap length lasts ∙ length-set old.lasts.items row last ∙ table.lasts ∙ sym (places-same h);
        texts = subst (All (λ (l : LastPair). HoldsText new.values.items l.value)) (sym lasts)
            (All-set (λ (l : LastPair). HoldsText new.values.items l.value) old.lasts.items row last holds kept);
        lines = subst (All (λ (l : LastPair). l.line < 2 ^ 64)) (sym lasts)
            (All-set (λ (l : LastPair). l.line < 2 ^ 64) old.lasts.items row last small table.lines);
      },
    )
    | inr (absent, is, more) ↦ absurd (let p = length-places old.keys in let l = table.lasts in omega arith)
  ]
    where
      within : row < length (table_places old.keys)
      within = let p = length-places old.keys in let l = table.lasts in omega arith

  -- or gets one.
  pub put-last : (row < length old.lasts.items → ⊥) → new.lasts.items ≡ old.lasts.items ++ last ∷ []
      → PutsRow number key (chars bytes) (rows_of old) row (rows_of new) × IsTable new
  put-last beyond lasts = elim puts [
    | inl h ↦ absurd (beyond (let k = length-keys old.keys in let l = table.lasts in omega (arith, h.0.0)))
    | inr (absent, is, more) ↦ (
      inr (
        subst (λ v. FindsKey key v None) (sym (keys-rows old table)) absent,
        (let p = length-places old.keys in let r = length-rows old table in let l = table.lasts in omega arith),
        ap (λ v. map (row_in new.values.items) (zip v new.lasts.items)) more
            ∙ ap (λ v. map (row_in new.values.items) (zip (table_places old.keys ++ record { number = number; key = key } ∷ []) v)) lasts
            ∙ ap (map (row_in new.values.items))
            (zip-more (table_places old.keys) old.lasts.items (record { number = number; key = key }) last (lasts-places old table))
            ∙ map-append (row_in new.values.items) (zip (table_places old.keys) old.lasts.items) ((record { number = number; key = key }, last) ∷ [])
            ∙ ap₂ (λ rows r. rows ++ r ∷ []) same-rows (row-is (record { number = number; key = key }) refl),
      ),
      record {
        keys = keys;
        lasts = (
            let n = sym (length-places new.keys) ∙ ap length more ∙ length-append (table_places old.keys) (record { number = number; key = key } ∷ []) in
            let m = ap length lasts ∙ length-append old.lasts.items (last ∷ []) in
            let p = lasts-places old table in
            omega arith);
        texts = subst (All (λ (l : LastPair). HoldsText new.values.items l.value)) (sym lasts)
            (All-append (λ (l : LastPair). HoldsText new.values.items l.value) old.lasts.items (last ∷ []) kept
            (all-one (λ (l : LastPair). HoldsText new.values.items l.value) last holds));
        lines = subst (All (λ (l : LastPair). l.line < 2 ^ 64)) (sym lasts)
            (All-append (λ (l : LastPair). l.line < 2 ^ 64) old.lasts.items (last ∷ []) table.lines
            (all-one (λ (l : LastPair). l.line < 2 ^ 64) last small));
      },
    )
  ]

-- ---- what is taken

pub took-none : (t : Table) → IsTable t → rows_of t ≡ [] → TookRows t [] t
took-none t table empty = record { table = table; hold = rw empty rows-none }

-- a pair
pub took-pair : (old new : Table) (number : ℕ) (key value : List ℕ) (row : ℕ) → PutsRow number key value (rows_of old) row (rows_of new) → IsTable new
    → Takes TookRows old (found_pair number key value) new
took-pair old new number key value row puts table = λ first findings took. record {
  table = table;
  hold = subst (λ v. HoldRows v (rows_of new)) (sym (pairs-append findings (found_pair number key value ∷ [])))
      (rows-put (found_pairs findings) number key value (rows_of old) (rows_of new) row took.hold puts);
}

-- a malformed escape
pub took-escape : (t : Table) (escape : MalformedEscape) (x : List ℕ) → Takes TookRows t (found_escape escape x) t
took-escape t escape x = λ first findings took. record {
  table = took.table;
  hold = subst (λ v. HoldRows v (rows_of t)) (sym (pairs-append findings (found_escape escape x ∷ []) ∙ append-nil (found_pairs findings))) took.hold;
}

-- the rows of a source
pub reads-table : (e : Encoding) (source : List ℕ) (first : Table) (r : Result Table Failure) → TakesSound TookRows first e source r → ReadsTable e source r
reads-table e source first (Ok t) (sound, (findings, are, none, took)) = (sound, took.table, rows-read e source findings are (rows_of t) took.hold)
reads-table e source first (Err failure) h = h
