-- A map that is written, pair after pair.
use Rattle.std.proofs.Common.{◌≡◌, ℕ, ◌+◌, ◌<◌, ◌≤◌, true, false, List, [], ◌∷◌, ◌++◌, length, get_or, take, drop, refl, ap, ◌∙◌, inl, inr, append_assoc, arith}
use Rattle.std.proofs.Common.{sym, subst}
use Rattle.std.specs.Prelude.{map, Result, Ok, Err, string_bytes, bytes_eq}
use Rattle.std.specs.Borrow.{Bor}
use Rattle.std.specs.Str.{chars}
use Rattle.std.specs.declared.string.String.{String}
use Rattle.std.proofs.lemmas.List.{length-map, get_or-map, map-append}
use Rattle.std.proofs.lemmas.Simd.{map-map}
use Rattle.counted_io.specs.Streams.{Sink}
use Rattle.counted_io.proofs.Streams.{written-flushed}
use Rattle.properties_format.specs.Encoding.{Encoding}
use Rattle.properties_format.specs.Items.{pair}
use Rattle.properties_format.specs.Settings.{default_settings}
use Rattle.properties_format.specs.Writing.{pair_call, flush_call, is_accepted}
use Rattle.properties_text.specs.Encoding.{line_of}
use Rattle.java_properties.specs.Private.Engine.{writing}
use Rattle.properties_items.specs.Errors.{kind_of}
use Rattle.java_properties.specs.PropertiesWriter.{Writing, new_writer, WritesLine, Flushes, HasWrittenLine, IsRefusedBy}
use Rattle.java_properties.specs.Calls.{HasMade, is_not_accepted}
use Rattle.java_properties.specs.Maps.{Texts, borrowed_texts, texts_of, call_for, calls_for, StopsInPairs, WritesPairs, entry_texts, AreInOrder}
use Rattle.properties_items.specs.declared.error.ErrorKind.{ErrorKind}
use Rattle.properties_items.specs.declared.error.ErrorKind.TheVariants as kind
use Rattle.properties_items.specs.declared.error.PropertiesError.{PropertiesError}
use Rattle.java_properties.specs.declared.writer.engine.Engine.{Engine}
use Rattle.java_properties.proofs.Calls.Made.{calls-cut, calls-take, calls-all}
use Rattle.java_properties.proofs.TextMaps.Lines.{HasWrittenLines, lines-none, lines-more}
use Rattle.std.specs.Cmp.Lexicographic.{slice_cmp, nat_list_cmp_total}
use Rattle.std.specs.HashMap.{HashMap, IsUnique}
use Rattle.std.specs.List.{IsDistinct, AllByRecursion}
use Rattle.std.specs.List.Sorted.{IsPermutation, IsSorted, IsStrictlySortedBy}
use Rattle.std.specs.Map.{keys_of}
use Rattle.std.specs.Map.Iter.{deref_pair}
use Rattle.std.specs.Ordering.{nat_cmp, is_lt, ordering_then, ordering_reverse}
use Rattle.std.specs.String.{string_cmp, string_eq}
use Rattle.std.specs.declared.cmp.Ordering.{Ordering}
use Rattle.std.specs.declared.cmp.Ordering.TheVariants.{Less, Equal, Greater}
use Rattle.std.proofs.lemmas.List.Sorted.{IsPermutation-map, IsPermutation-refl}
use Rattle.std.proofs.lemmas.Map.Keys.{IsDistinct-head, IsDistinct-tail, IsDistinct-cons, IsDistinct-from_apart, IsDistinct-IsPermutation, apart_from_distinct}
use Rattle.std.proofs.lemmas.Map.Keys.{sorted_from_all_adjacent}
use Rattle.std.proofs.lemmas.Map.Lookups.{exact_bytes}
use Rattle.std.proofs.lemmas.Slice.Eq.{bytes_eq-Decides}
use Rattle.properties_items.specs.Texts.{Entries}
use Rattle.properties_items.proofs.TextMaps.Values.{flipped}

-- a new engine is a new writer
pub new-writing : {W : Type 0} {a : Encoding} (engine : Engine) (to : W) → line_of engine.encoding ≡ a → engine.settings ≡ default_settings
    → engine.lines ≡ 0 → engine.failed ≡ false → new_writer a to ≡ writing engine to
new-writing engine to h b c d = rw (h, b, c, d) refl

-- a new writer takes every pair
pub accepted : (key value : List ℕ) → is_accepted default_settings (pair_call key value) ≡ true
accepted [] value = refl
accepted (c ∷ key) value = refl

-- no error says that a pair was not accepted
refused-final : {W : Type 0} (w : Writing W) (key value : List ℕ) (k : ErrorKind) → w.settings ≡ default_settings → IsRefusedBy k w (pair key value)
    → is_not_accepted k ≡ false
refused-final w key value kind.Failed same reason = refl
refused-final w key value kind.EmptyKey same reason = absurd (let yes = accepted key value in cc)
refused-final w key value kind.TooManyLines same reason = refl
refused-final w key value kind.Memory same reason = refl
refused-final w key value other same reason = absurd reason

-- ---- a list of pairs, cut at one of them

-- the first pairs
abbrev first_texts : {Y Z : Type 0} → ℕ → List (Bor (String Y) × Bor (String Z)) → List Texts
first_texts i entries = take i (texts_of entries)

module _ {Y Z : Type 0} (entries : List (Bor (String Y) × Bor (String Z))) (i : ℕ) (entry : Bor (String Y) × Bor (String Z)) (below : i < length entries)
    (is : entry ≡ get_or entries i entry) where
  cut-at : texts_of entries ≡ first_texts i entries ++ (borrowed_texts entry ∷ drop (i + 1) (texts_of entries))
  cut-at = rw (← is) at (calls-cut borrowed_texts entries i entry below)

  take-at : first_texts (i + 1) entries ≡ first_texts i entries ++ (borrowed_texts entry ∷ [])
  take-at = rw (← is) at (calls-take borrowed_texts entries i entry below)

-- ---- pairs that are written

-- a new writer wrote the lines of the first pairs
abbrev pub HasWrittenFirst : {W Y Z : Type 0} → Sink W → Encoding → W → List (Bor (String Y) × Bor (String Z)) → ℕ → Writing W → Type 0
HasWrittenFirst sink a old entries i w = HasWrittenLines sink (new_writer a old) (first_texts i entries) w

module _ {W Y Z : Type 0} (sink : Sink W) (a : Encoding) (old : W) (entries : List (Bor (String Y) × Bor (String Z))) where
  -- before the first pair
  pub first-none : HasWrittenFirst sink a old entries 0 (new_writer a old)
  first-none = lines-none (new_writer a old) refl

  -- after the last one
  pub first-all : (i : ℕ) (w : Writing W) → length entries ≤ i → HasWrittenFirst sink a old entries i w
      → HasMade sink (new_writer a old) (calls_for (texts_of entries)) w
  first-all i w above h = rw (calls-all borrowed_texts entries i above) at h.made

  pair-final : (i : ℕ) (key value : List ℕ) (w new : Writing W) (error : PropertiesError) → HasWrittenFirst sink a old entries i w
      → WritesLine sink w (pair key value) (Err error) new → is_not_accepted (kind_of error) ≡ false
  pair-final i key value w new error h (inl k) = refused-final w key value (kind_of error) (ap (λ (v : Writing W). v.settings) h.after) k.reason
  pair-final i key value w new error h (inr k) = ap is_not_accepted k.is.its_kind

  module _ (i : ℕ) (entry : Bor (String Y) × Bor (String Z)) (key value : List ℕ) (w new : Writing W) (below : i < length entries)
      (is : entry ≡ get_or entries i entry) (key_is : key ≡ string_bytes entry.0.now) (value_is : value ≡ string_bytes entry.1.now)
      (h : HasWrittenFirst sink a old entries i w) where
    -- one pair more
    pub first-more : HasWrittenLine sink w (pair (chars key) (chars value)) new → HasWrittenFirst sink a old entries (i + 1) new
    first-more line = rw (take-at entries i entry below is) (lines-more (borrowed_texts entry) h (rw (key_is, value_is) at line))

    -- a pair was not written
    pub stops-in-pair : (error : PropertiesError) → WritesLine sink w (pair (chars key) (chars value)) (Err error) new
        → StopsInPairs sink a (texts_of entries) old error new.sink
    stops-in-pair error fails =
        let first = first_texts i entries in
        let others = drop (i + 1) (texts_of entries) in
        let flush = flush_call ∷ [] in
        record {
          writer = new;
          stops = record {
            before = calls_for first;
            call = call_for (borrowed_texts entry);
            others = calls_for others ++ flush;
            division =
                ap (λ v. calls_for v ++ flush) (cut-at entries i entry below is)
                ∙ ap (λ v. v ++ flush) (map-append call_for first (borrowed_texts entry ∷ others))
                ∙ append_assoc (calls_for first) (calls_for (borrowed_texts entry ∷ others)) flush;
            middle = w;
            made = h.made;
            fails = record { fails = rw (key_is, value_is) at fails; final = pair-final i (chars key) (chars value) w new error h fails };
          };
          sink_after = refl;
        }

  flush-final : (w new : Writing W) (error : PropertiesError) → Flushes sink w (Err error) new → is_not_accepted (kind_of error) ≡ false
  flush-final w new error (inl k) = ap is_not_accepted k.refuses.is.its_kind
  flush-final w new error (inr k) = ap is_not_accepted k.is.its_kind

  -- all pairs were written, and then the sink was flushed
  pub writes : (w new : Writing W) (result : Result Unit PropertiesError)
      → HasMade sink (new_writer a old) (calls_for (texts_of entries)) w → Flushes sink w result new → WritesPairs sink a (texts_of entries) old result new.sink
  writes w new (Ok done) h k = record { written = written-flushed h.written k.flushed; flushed = k.flushed.flushed }
  writes w new (Err error) h k = record {
    writer = new;
    stops = record {
      before = calls_for (texts_of entries);
      call = flush_call;
      others = [];
      division = refl;
      middle = w;
      made = h;
      fails = record { fails = k; final = flush-final w new error k };
    };
    sink_after = refl;
  }

-- ---- entries of a map, in the order of their keys

-- of two keys that differ, the one that isn't greater is less
ascends : (x y : List ℕ) → is_lt (slice_cmp nat_cmp y x) ≡ false → bytes_eq x y ≡ false → slice_cmp nat_cmp x y ≡ Less
ascends x y above apart = nat_list_cmp_total.antisymm x y ∙ by (slice_cmp nat_cmp y x) refl
  where
    by : (o : Ordering) → slice_cmp nat_cmp y x ≡ o → ordering_reverse o ≡ Less
    by Less e = absurd (let f = ap is_lt e in cc)
    by Equal e = absurd (let t = (bytes_eq-Decides x y).1 (sym (exact_bytes y x e)) in cc)
    by Greater e = refl

-- the first of two orders decides
first-decides : (a b : Ordering) → is_lt (ordering_then a b) ≡ false → is_lt a ≡ false
first-decides Less b h = h
first-decides Equal b h = refl
first-decides Greater b h = refl

-- what holds of the bytes of all keys
all-keys : {Y Z : Type 0} (P : List ℕ → Type 0) (entries : List (String Y × String Z)) → AllByRecursion (λ k. P (string_bytes k)) (keys_of entries)
    → AllByRecursion P (keys_of (map entry_texts entries))
all-keys P [] h = tt
all-keys P (e ∷ entries) h = (h.0, all-keys P entries h.1)

-- keys that differ as texts differ as bytes
distinct-bytes : {Y Z : Type 0} (entries : List (String Y × String Z)) → IsDistinct string_eq (keys_of entries)
    → IsDistinct bytes_eq (keys_of (map entry_texts entries))
distinct-bytes [] h = IsDistinct-from_apart bytes_eq [] (λ i j d below inside. absurd (omega (arith, inside)))
distinct-bytes (e ∷ entries) h = IsDistinct-cons bytes_eq (string_bytes e.0) (keys_of (map entry_texts entries))
    (all-keys (λ k. bytes_eq (string_bytes e.0) k ≡ false) entries (IsDistinct-head string_eq e.0 (keys_of entries) h))
    (distinct-bytes entries (IsDistinct-tail string_eq e.0 (keys_of entries) h))

module _ {Y Z : Type 0} where
  abbrev borrowed_key : Bor (String Y) × Bor (String Z) → List ℕ
  borrowed_key entry = string_bytes entry.0.now

  abbrev pair_cmp : Bor (String Y) × Bor (String Z) → Bor (String Y) × Bor (String Z) → Ordering
  pair_cmp x y = ordering_then (string_cmp x.0.now y.0.now) (string_cmp x.1.now y.1.now)

  keys-are : (xs : List (Bor (String Y) × Bor (String Z))) → keys_of (texts_of xs) ≡ map borrowed_key xs
  keys-are xs = map-map (λ (e : List ℕ × List ℕ). e.0) borrowed_texts xs

  neighbours : (xs : List (Bor (String Y) × Bor (String Z))) (d : Bor (String Y) × Bor (String Z)) → IsSorted pair_cmp xs
      → IsDistinct bytes_eq (map borrowed_key xs)
      → (k : ℕ) → k + 1 < length (map borrowed_key xs)
      → slice_cmp nat_cmp (get_or (map borrowed_key xs) k (borrowed_key d)) (get_or (map borrowed_key xs) (k + 1) (borrowed_key d)) ≡ Less
  neighbours xs d sorted distinct k inside =
      let within : k + 1 < length xs = let e = length-map xs borrowed_key in omega (arith, inside, e) in
      let here = get_or-map borrowed_key xs k d (borrowed_key d) (omega (arith, within)) in
      let next = get_or-map borrowed_key xs (k + 1) d (borrowed_key d) within in
      let apart = apart_from_distinct bytes_eq (map borrowed_key xs) k (k + 1) (borrowed_key d) distinct (omega arith) inside in
      let x = get_or xs k d in
      let y = get_or xs (k + 1) d in
      let above = first-decides (string_cmp y.0.now x.0.now) (string_cmp y.1.now x.1.now) (sorted k d (omega arith) within) in
      rw (here, next) (ascends (borrowed_key x) (borrowed_key y) above (rw (here, next) at apart))

  -- pairs in order, whose keys differ, have keys that ascend
  strict : (xs : List (Bor (String Y) × Bor (String Z))) → IsSorted pair_cmp xs → IsDistinct bytes_eq (map borrowed_key xs)
      → IsStrictlySortedBy (slice_cmp nat_cmp) (map borrowed_key xs)
  strict [] sorted distinct = sorted_from_all_adjacent nat_list_cmp_total [] [] (λ k inside. absurd (omega (arith, inside)))
  strict (x ∷ xs) sorted distinct = sorted_from_all_adjacent nat_list_cmp_total (map borrowed_key (x ∷ xs)) (borrowed_key x)
      (neighbours (x ∷ xs) x sorted distinct)

-- borrowed entries have the texts of the entries
borrowed : {Y Z : Type 0} (entries : Entries Y Z) (xs : List (Bor (String Y) × Bor (String Z))) → map deref_pair xs ≡ entries
    → texts_of xs ≡ map entry_texts entries
borrowed entries xs all = sym (map-map entry_texts deref_pair xs) ∙ ap (map entry_texts) all

-- the entries of a map, after they were sorted
pub in-order : {Y Z S : Type 0} (m : HashMap (String Y) (String Z) S) (xs ys : List (Bor (String Y) × Bor (String Z))) → map deref_pair xs ≡ m.entries
    → IsUnique string_eq m → IsPermutation xs ys → IsSorted (pair_cmp {Y = Y} {Z = Z}) ys → AreInOrder m.entries (texts_of ys)
in-order {Y} {Z} m xs ys all unique moved sorted =
    let P : List (List ℕ × List ℕ) → Type 0 = λ v. IsPermutation v (texts_of ys) in
    let entries = subst P (borrowed m.entries xs all) (IsPermutation-map borrowed_texts xs ys moved) in
    let keys = IsPermutation-map (λ (e : List ℕ × List ℕ). e.0) (map entry_texts m.entries) (texts_of ys) entries in
    let distinct = IsDistinct-IsPermutation bytes_eq flipped (keys_of (map entry_texts m.entries)) (keys_of (texts_of ys)) keys
    (distinct-bytes m.entries unique) in
    let Q : List (List ℕ) → Type 0 = IsDistinct bytes_eq in
    let A : List (List ℕ) → Type 0 = IsStrictlySortedBy (slice_cmp nat_cmp) in
    record { entries = entries; ascend = subst A (sym (keys-are ys)) (strict ys sorted (subst Q (keys-are ys) distinct)) }

-- ---- the entries of a sorted map

ascend-bytes : {Y Z : Type 0} (entries : Entries Y Z) → IsStrictlySortedBy string_cmp (keys_of entries)
    → IsStrictlySortedBy (slice_cmp nat_cmp) (keys_of (map entry_texts entries))
unfolding IsStrictlySortedBy
ascend-bytes [] up = tt
ascend-bytes (e ∷ entries) up = (all-keys (λ k. slice_cmp nat_cmp (string_bytes e.0) k ≡ Less) entries up.0, ascend-bytes entries up.1)

-- they are in order
pub entries-in-order : {Y Z : Type 0} (entries : Entries Y Z) → IsStrictlySortedBy string_cmp (keys_of entries) → AreInOrder entries (map entry_texts entries)
entries-in-order entries up = record { entries = IsPermutation-refl (map entry_texts entries); ascend = ascend-bytes entries up }

-- and so they are as they are borrowed
pub sorted-in-order : {Y Z : Type 0} (entries : Entries Y Z) (xs : List (Bor (String Y) × Bor (String Z))) → map deref_pair xs ≡ entries
    → IsStrictlySortedBy string_cmp (keys_of entries) → AreInOrder entries (texts_of xs)
sorted-in-order entries xs all up =
    let P : List (List ℕ × List ℕ) → Type 0 = AreInOrder entries in
    subst P (sym (borrowed entries xs all)) (entries-in-order entries up)
