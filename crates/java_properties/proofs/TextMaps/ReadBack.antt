-- A map that was written is read back as it was.
use lib.Utf8.{encodes}
use Rattle.std.proofs.lemmas.Map.Text.{is_eq-slice_cmp}
use Rattle.std.specs.declared.cmp.Ordering.TheVariants.{Less}
use Rattle.std.specs.Cmp.Lexicographic.{slice_cmp}
use Rattle.std.specs.Ordering.{nat_cmp, is_eq}
use Rattle.std.proofs.Common.{◌≡◌, ◌≢◌, ℕ, Bool, true, false, List, [], ◌∷◌, ◌++◌, refl, ap, sym, ◌∙◌, inl, inr, subst, append_assoc}
use Rattle.std.specs.Prelude.{All, map, Option, Some, None, Result, Ok, Err, bytes_eq}
use Rattle.std.specs.Option.{option_map}
use Rattle.std.specs.Str.{chars, IsUtf8}
use Rattle.std.specs.List.{AllByRecursion}
use Rattle.std.specs.List.Sorted.{IsPermutation, IsStrictlySortedBy}
use Rattle.std.specs.Map.{lookup, keys_of}
use Rattle.std.specs.declared.string.String.{String}
use Rattle.std.proofs.lemmas.List.Elements.{recursion_from_All, All-from_recursion}
use Rattle.std.proofs.lemmas.List.Sorted.{All-permutation, IsPermutation-sym, IsPermutation-map}
use Rattle.std.proofs.lemmas.Slice.Eq.{bytes_eq-Decides}
use Rattle.std.proofs.lemmas.Str.{IsUtf8-string_bytes, encodes-chars}
use Rattle.counted_io.specs.Streams.{Sink, HasWritten}
use Rattle.properties_format.specs.Text.{scalar}
use Rattle.properties_format.specs.Encoding.{Encoding, output_encoding}
use Rattle.properties_format.specs.Lines.{end}
use Rattle.properties_format.specs.Items.{IsItems}
use Rattle.properties_format.specs.Maps.{IsValue}
use Rattle.properties_format.specs.Settings.{Settings, default_settings}
use Rattle.properties_format.specs.Writing.{Call, pair_call, flush_call, wrote, ArePrefixesClean, AreOfScalars, AreGoodSettings, Pair, calls_of}
use Rattle.properties_format.specs.Writing.{items_after, AreAccepted, ArePairsOfScalars}
use Rattle.properties_format.specs.Laws.{HasPair, HasNoKey, AreDistinct}
use Rattle.properties_format.proofs.Items.Unique.{items_of-meets, items_of-only}
use Rattle.properties_format.proofs.Maps.{value_in-meets, value_in-only, value_in}
use Rattle.properties_format.proofs.Laws.{no-pair, value-among}
use Rattle.properties_format.proofs.ReadBack.Law.{default_settings-good}
use Rattle.properties_format.proofs.ReadBack.Lists.{items_of-pairs}
use Rattle.java_properties.specs.Maps.{Texts, entry_texts, calls_for, character_pair}
use Rattle.java_properties.specs.Maps.{items_for, AreInOrder, IsMapReadBack, WritesPairs, WritesMap, MapReadsBack}
use Rattle.properties_items.specs.Texts.{Entries, characters, value_at}
use Rattle.properties_items.specs.declared.error.PropertiesError.{PropertiesError}
use Rattle.properties_items.proofs.Scalars.{string-scalars}
use Rattle.java_properties.proofs.ReadBack.Written.{scalars-append, stops-read_back}
use Rattle.java_properties.proofs.TextMaps.Writing.{accepted}

-- ---- keys that ascend strictly by their bytes are distinct as characters too

-- the texts of the pairs are texts of the program
abbrev AreTexts : Texts → Type 0
AreTexts texts = IsUtf8 texts.0 × All scalar (chars texts.0) × All scalar (chars texts.1)

-- a key before another is another, also as characters
before-differs : (x y : List ℕ) → IsUtf8 x → IsUtf8 y → slice_cmp nat_cmp x y ≡ Less → chars y ≡ chars x → ⊥
before-differs x y u v less same =
    let equal : x ≡ y = sym (encodes-chars x u) ∙ ap encodes (sym same) ∙ encodes-chars y v in
    let yes : bytes_eq x y ≡ true = (bytes_eq-Decides x y).1 equal in
    let no : bytes_eq x y ≡ false = sym (is_eq-slice_cmp x y) ∙ ap is_eq less in
    absurd (cc)

key-differs : (x : List ℕ) (pairs : List (List ℕ × List ℕ)) → IsUtf8 x → AllByRecursion AreTexts pairs
    → AllByRecursion (λ y. slice_cmp nat_cmp x y ≡ Less) (keys_of pairs)
    → HasNoKey (chars x) (map character_pair pairs)
key-differs x [] u h less = tt
key-differs x (texts ∷ pairs) u h less = ((λ same. before-differs x texts.0 u h.0.0 less.0 same), key-differs x pairs u h.1 less.1)

-- pairs whose keys ascend strictly have keys of their own
pub ascending-distinct : (pairs : List (List ℕ × List ℕ)) → AllByRecursion AreTexts pairs → IsStrictlySortedBy (slice_cmp nat_cmp) (keys_of pairs)
    → AreDistinct (map character_pair pairs)
unfolding IsStrictlySortedBy
ascending-distinct [] h up = tt
ascending-distinct (texts ∷ pairs) h up = (key-differs texts.0 pairs h.0.0 h.1 up.0, ascending-distinct pairs h.1 up.1)

-- ---- pairs in another order

-- each of the pairs after some is among all of them
among-after : (before ps : List Pair) → AllByRecursion (λ p. HasPair (before ++ ps) p.0 p.1) ps
among-after before [] = tt
among-after before (p ∷ ps) =
    ((before, ps, refl), subst (λ v. AllByRecursion (λ q. HasPair v q.0 q.1) ps) (append_assoc before (p ∷ []) ps) (among-after (before ++ (p ∷ [])) ps))

-- what holds of all holds of one
all-at : (P : Pair → Type 0) (before : List Pair) (p : Pair) (after : List Pair) → AllByRecursion P (before ++ (p ∷ after)) → P p
all-at P [] p after h = h.0
all-at P (q ∷ before) p after h = all-at P before p after h.1

moved-pair : (xs ys : List Pair) (key value : List ℕ) → IsPermutation xs ys → HasPair xs key value → HasPair ys key value
moved-pair xs ys key value moved has =
    let P : Pair → Type 0 = λ p. HasPair ys p.0 p.1 in
    let all = All-permutation P ys xs (IsPermutation-sym xs ys moved) (All-from_recursion P ys (among-after [] ys)) in
    all-at P has.0 (key, value) has.1 (subst (AllByRecursion P) has.2 (recursion_from_All P xs all))

no_key : (key : List ℕ) (ps : List Pair) → HasNoKey key ps ≡ AllByRecursion (λ p. p.0 ≢ key) ps
no_key key [] = refl
no_key key (p ∷ ps) = ap (λ V. (p.0 ≢ key) × V) (no_key key ps)

moved-none : (xs ys : List Pair) (key : List ℕ) → IsPermutation xs ys → HasNoKey key xs → HasNoKey key ys
moved-none xs ys key moved h =
    let P : Pair → Type 0 = λ p. p.0 ≢ key in
    rw no_key (recursion_from_All P ys (All-permutation P xs ys moved (All-from_recursion P xs (rw no_key at h))))

-- ---- what a map has at a key

-- the key has this value among the pairs, or none
abbrev IsAmong : List Pair → List ℕ → Option (List ℕ) → Type 0
IsAmong ps key (Some value) = HasPair ps key value
IsAmong ps key None = HasNoKey key ps

among-more : (p : Pair) (ps : List Pair) (key : List ℕ) (o : Option (List ℕ)) → p.0 ≢ key → IsAmong ps key o → IsAmong (p ∷ ps) key o
among-more p ps key None apart h = (apart, h)
among-more p ps key (Some value) apart h = (p ∷ h.0, h.1, ap (λ v. p ∷ v) h.2)

-- the entries of a map, as characters
abbrev character_pairs : {Y Z : Type 0} → List (String Y × String Z) → List Pair
character_pairs entries = map character_pair (map entry_texts entries)

abbrev value_among : {Y Z : Type 0} → List ℕ → List (String Y × String Z) → Option (List ℕ)
value_among key entries = option_map characters (lookup (λ k. bytes_eq key (characters k)) entries)

-- one entry more, by whether it has the key
entry-says : {Y Z : Type 0} (key : List ℕ) (e : String Y × String Z) (entries : List (String Y × String Z)) (b : Bool) → bytes_eq key (characters e.0) ≡ b
    → IsAmong (character_pairs entries) key (value_among key entries) → IsAmong (character_pairs (e ∷ entries)) key (value_among key (e ∷ entries))
entry-says key e entries true t h =
    let same : key ≡ characters e.0 = (bytes_eq-Decides key (characters e.0)).0 t in
    rw t ([], character_pairs entries, ap (λ v. (v, characters e.1) ∷ character_pairs entries) (sym same))
entry-says key e entries false t h =
    let apart : characters e.0 ≢ key = λ same. let yes = (bytes_eq-Decides key (characters e.0)).1 (sym same) in absurd (cc) in
    rw t (among-more (characters e.0, characters e.1) (character_pairs entries) key (value_among key entries) apart h)

entries-say : {Y Z : Type 0} (key : List ℕ) (entries : List (String Y × String Z)) → IsAmong (character_pairs entries) key (value_among key entries)
entries-say key [] = tt
entries-say key (e ∷ entries) = entry-says key e entries (bytes_eq key (characters e.0)) refl (entries-say key entries)

-- among pairs with keys of their own it is the value of the items
among-value_in : (ps : List Pair) (key : List ℕ) (o : Option (List ℕ)) → AreDistinct ps → IsAmong ps key o → o ≡ value_in (items_after 0 ps) key
among-value_in ps key None distinct h = value_in-only (items_after 0 ps) key None (no-pair 0 key ps h)
among-value_in ps key (Some value) distinct h =
    sym (ap (λ v. value_in (items_after 0 v) key) h.2 ∙ value-among 0 key value h.0 h.1 (subst AreDistinct h.2 distinct))

moved-among : (xs ys : List Pair) (key : List ℕ) (o : Option (List ℕ)) → IsPermutation xs ys → IsAmong xs key o → IsAmong ys key o
moved-among xs ys key None moved h = moved-none xs ys key moved h
moved-among xs ys key (Some value) moved h = moved-pair xs ys key value moved h

-- ---- the pairs of a map

-- their calls
calls-are : (pairs : List Texts) → calls_for pairs ≡ calls_of (map character_pair pairs)
calls-are [] = refl
calls-are (texts ∷ pairs) = ap (λ v. pair_call (chars texts.0) (chars texts.1) ∷ v) (calls-are pairs)

-- they are all accepted
pub pairs-accepted : (ps : List Pair) → AreAccepted default_settings ps
pairs-accepted [] = tt
pairs-accepted (p ∷ ps) = (accepted p.0 p.1, pairs-accepted ps)

entries-texts : {Y Z : Type 0} (entries : List (String Y × String Z)) → AllByRecursion AreTexts (map entry_texts entries)
entries-texts [] = tt
entries-texts (e ∷ entries) = ((IsUtf8-string_bytes e.0, string-scalars e.0, string-scalars e.1), entries-texts entries)

texts-scalars : (pairs : List Texts) → AllByRecursion AreTexts pairs → ArePairsOfScalars (map character_pair pairs)
texts-scalars [] h = tt
texts-scalars (texts ∷ pairs) h = ((h.0.1, h.0.2), texts-scalars pairs h.1)

-- so are those of the pairs of a map, in its order
map-texts : {Y Z : Type 0} (entries : Entries Y Z) (pairs : List Texts) → AreInOrder entries pairs → AllByRecursion AreTexts pairs
map-texts entries pairs in_order =
    let xs = map entry_texts entries in
    recursion_from_All AreTexts pairs (All-permutation AreTexts xs pairs in_order.entries (All-from_recursion AreTexts xs (entries-texts entries)))

-- the calls that write them are of scalar values, and write under no prefix
pairs-scalars : (pairs : List Texts) → AllByRecursion AreTexts pairs → AreOfScalars (calls_for pairs)
pairs-scalars [] h = tt
pairs-scalars (texts ∷ pairs) h = ((h.0.1, h.0.2), pairs-scalars pairs h.1)

pairs-clean : (s : Settings) (pairs : List Texts) (others : List Call) → ArePrefixesClean s others → ArePrefixesClean s (calls_for pairs ++ others)
pairs-clean s [] others h = h
pairs-clean s (texts ∷ pairs) others h = pairs-clean s pairs others h

-- ---- a map whose lines were written

-- what was written reads back as the map, under any settings
written-map : {W Y Z : Type 0} (sink : Sink W) (a : Encoding) (s : Settings) (entries : Entries Y Z) (pairs : List Texts) (old new : W)
    → output_encoding a ≡ a → AreGoodSettings s → AreInOrder entries pairs → AreAccepted s (map character_pair pairs)
    → HasWritten sink old (wrote a s 0 (calls_for pairs)) new → IsMapReadBack sink a entries old new
written-map sink a s entries pairs old new own good in_order accepted written =
    let xs = map entry_texts entries in
    let ps = map character_pair pairs in
    let bytes = wrote a s 0 (calls_of ps) in
    let texts = map-texts entries pairs in_order in
    let distinct = ascending-distinct pairs texts in_order.ascend in
    let moved = IsPermutation-map character_pair xs pairs in_order.entries in
    let told = items_of-pairs a s own good ps accepted (texts-scalars pairs texts) in
    record {
      bytes = bytes;
      written = subst (λ v. HasWritten sink old (wrote a s 0 v) new) (calls-are pairs) written;
      pairs = pairs;
      in_order = in_order;
      items = subst (IsItems a bytes end) told (items_of-meets a bytes end);
      only = λ others is. items_of-only a bytes end others is ∙ told;
      is_map = λ key.
          let same = among-value_in ps key (value_at entries key) distinct
          (moved-among (map character_pair xs) ps key (value_at entries key) moved (entries-say key entries)) in
          subst (IsValue (items_for pairs) key) (sym same) (value_in-meets (items_for pairs) key);
    }

-- The pairs of a map that were written in order are the map that was written.
pub writes-map : {W Y Z : Type 0} (sink : Sink W) (a : Encoding) (entries : Entries Y Z) (pairs : List Texts) (old new : W)
    (result : Result Unit PropertiesError) → AreInOrder entries pairs → WritesPairs sink a pairs old result new → WritesMap sink a entries old result new
writes-map sink a entries pairs old new (Ok done) in_order h = record { pairs = pairs; in_order = in_order; writes = h }
writes-map sink a entries pairs old new (Err error) in_order h = inr (record { pairs = pairs; in_order = in_order; writes = h })

-- What writing a map says of reading it.
pub writes-read_back : {W Y Z : Type 0} (sink : Sink W) (a : Encoding) (entries : Entries Y Z) (old new : W) (result : Result Unit PropertiesError)
    → output_encoding a ≡ a → WritesMap sink a entries old result new → MapReadsBack sink a entries old result new
writes-read_back sink a entries old new (Err error) own (inl h) = inl h
writes-read_back sink a entries old new (Err error) own (inr h) =
    inr (record {
      pairs = h.pairs;
      in_order = h.in_order;
      writer = h.writes.writer;
      stops = stops-read_back
          (record { encoding = own; settings = default_settings-good })
          (scalars-append (calls_for h.pairs) (flush_call ∷ []) (pairs-scalars h.pairs (map-texts entries h.pairs h.in_order)) (tt, tt))
          h.writes.stops
          (record { first = refl; prefixes = pairs-clean default_settings h.pairs (flush_call ∷ []) tt });
      sink_after = h.writes.sink_after;
    })
writes-read_back sink a entries old new (Ok done) own h =
    written-map sink a default_settings entries h.pairs old new own default_settings-good h.in_order
    (pairs-accepted (map character_pair h.pairs)) h.writes.written
