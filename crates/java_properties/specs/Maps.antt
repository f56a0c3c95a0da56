-- Maps of texts: the effects of reading and writing one. A map is seen as its entries, whatever its type.
use Rattle.std.specs.Prelude.{◌≡◌, ◌⊎◌, ℕ, List, [], ◌∷◌, ◌++◌, map, Option, Result, Ok, Err, bytes_eq, string_bytes}
use Rattle.std.specs.Str.{chars}
use Rattle.std.specs.Borrow.{Bor}
use Rattle.std.specs.HashMap.{HashMap}
use Rattle.std.specs.BTreeMap.{BTreeMap}
use Rattle.std.specs.Map.{keys_of, update}
use Rattle.std.specs.List.Sorted.{IsPermutation, IsStrictlySortedBy}
use Rattle.std.specs.Ordering.{nat_cmp}
use Rattle.std.specs.Cmp.Lexicographic.{slice_cmp}
use Rattle.std.specs.declared.string.String.{String}
use Rattle.counted_io.specs.Streams.{Reader, Sink, HasWritten}
use Rattle.properties_format.specs.Encoding.{Encoding, windows_1252}
use Rattle.properties_format.specs.Items.{Entry, IsItems}
use Rattle.properties_format.specs.Lines.{end}
use Rattle.properties_format.specs.Maps.{HasValue, IsMap}
use Rattle.properties_format.specs.Writing.{Pair, items_after, Call, pair_call, flush_call, wrote}
use Rattle.properties_format.specs.Settings.{default_settings}
use Rattle.java_properties.specs.Calls.{StopsAtCall}
use Rattle.properties_items.specs.Errors.{Refuses}
use Rattle.java_properties.specs.PropertiesWriter.{Writing, new_writer}
use Rattle.java_properties.specs.ReadBack.{IsReadBackBefore}
use Rattle.java_properties.specs.ReadLines.{entries_in, ReadsWhole, StopsReading}
use Rattle.java_properties.specs.WholeSources.{PutsWhole}
use Rattle.properties_items.specs.declared.error.ErrorKind.TheVariants as kind
use Rattle.properties_items.specs.declared.error.PropertiesError.{PropertiesError}
use Rattle.properties_items.specs.declared.line.Line.{Line}
pub use Rattle.properties_items.specs.Texts.{characters, Entries, value_at}

-- The key has this value, and other keys have what they had.
abbrev pub HasPut : {Y Z : Type 0} → Entries Y Z → List ℕ → List ℕ → Entries Y Z → Type 0
HasPut old key value new = (k : List ℕ) → value_at new k ≡ update bytes_eq (value_at old) key (Option.Some value) k

-- ---- reading

-- The input was read to its end, and no escape is malformed. The map has each key that some pair has, with the value of
-- the last such pair.
pub record HasReadMap {R Y Z : Type 0} (reader : Reader R) (e : Encoding) (from : R) (entries : Entries Y Z) (to : R) : Type 0 where
  pub lines : List Line
  pub reads : ReadsWhole reader e from (entries_in lines) to
  pub values : (key : List ℕ) → HasValue e reads.bytes key (value_at entries key)

-- The input was read to its end, and no escape is malformed. This is the value of the key, or none if no pair has it.
pub record ReadsValue {R : Type 0} (reader : Reader R) (e : Encoding) (from : R) (key : List ℕ) (value : Option (List ℕ)) (to : R) : Type 0 where
  pub items : List Entry
  pub reads : ReadsWhole reader e from items to
  pub has_value : HasValue e reads.bytes key value

-- The result of reading a map, which has these entries, and the reader afterwards. Ok is returned only at the reader's
-- own end.
abbrev pub ReadsEntries : {R Y Z M : Type 0} → Reader R → Encoding → (M → Entries Y Z) → R → Result M PropertiesError → R → Type 0
ReadsEntries reader e entries from (Ok m) to = HasReadMap reader e from (entries m) to
ReadsEntries reader e entries from (Err error) to = StopsReading reader e from error to

abbrev pub ReadsMap : {R Y Z S : Type 0} → Reader R → R → Result (HashMap (String Y) (String Z) S) PropertiesError → R → Type 0
ReadsMap reader from result to = ReadsEntries reader windows_1252 (λ m. m.entries) from result to

-- a sorted map, in any encoding
abbrev pub ReadsSorted : {R Y Z : Type 0} → Reader R → Encoding → R → Result (BTreeMap (String Y) (String Z)) PropertiesError → R → Type 0
ReadsSorted reader e from result to = ReadsEntries reader e (λ m. m.entries) from result to

-- ---- writing

-- a key and its value, as their UTF-8 bytes
abbrev pub Texts : Type 0
Texts = List ℕ × List ℕ

abbrev pub entry_texts : {Y Z : Type 0} → String Y × String Z → Texts
entry_texts entry = (string_bytes entry.0, string_bytes entry.1)

abbrev pub borrowed_texts : {Y Z : Type 0} → Bor (String Y) × Bor (String Z) → Texts
borrowed_texts entry = (string_bytes entry.0.now, string_bytes entry.1.now)

abbrev pub texts_of : {Y Z : Type 0} → List (Bor (String Y) × Bor (String Z)) → List Texts
texts_of entries = map borrowed_texts entries

-- The pairs are the entries of the map, and their keys ascend strictly, byte by byte.
pub record AreInOrder {Y Z : Type 0} (kept : Entries Y Z) (pairs : List Texts) : Type 0 where
  pub entries : IsPermutation (map entry_texts kept) pairs
  pub ascend : IsStrictlySortedBy (slice_cmp nat_cmp) (keys_of pairs)

-- the calls that write these pairs
abbrev pub call_for : Texts → Call
call_for texts = pair_call (chars texts.0) (chars texts.1)

abbrev pub calls_for : List Texts → List Call
calls_for pairs = map call_for pairs

-- Writing stopped as it stops for a new writer that is asked to write these pairs in order and then to flush.
pub record StopsInPairs {W : Type 0} (sink : Sink W) (a : Encoding) (pairs : List Texts) (old : W) (error : PropertiesError) (new : W) : Type 0 where
  pub writer : Writing W
  pub stops : StopsAtCall sink (new_writer a old) (calls_for pairs ++ (flush_call ∷ [])) error writer
  pub sink_after : new ≡ writer.sink

-- The result of writing these pairs: their lines were written, in order, with the settings of a new writer, and the sink
-- was flushed; or why that stopped.
abbrev pub WritesPairs : {W : Type 0} → Sink W → Encoding → List Texts → W → Result Unit PropertiesError → W → Type 0
WritesPairs sink a pairs old (Ok done) new = PutsWhole sink old (wrote a default_settings 0 (calls_for pairs)) new
WritesPairs sink a pairs old (Err error) new = StopsInPairs sink a pairs old error new

-- The result of writing a map: its pairs were written, in the order of their keys, or why that stopped.
pub record WritesEntries {W Y Z : Type 0} (sink : Sink W) (a : Encoding) (entries : Entries Y Z) (old : W) (result : Result Unit PropertiesError)
    (new : W) : Type 0 where
  pub pairs : List Texts
  pub in_order : AreInOrder entries pairs
  pub writes : WritesPairs sink a pairs old result new

-- The effect of writing a map. If memory for sorting the pairs runs out, the sink is unchanged.
abbrev pub WritesMap : {W Y Z : Type 0} → Sink W → Encoding → Entries Y Z → W → Result Unit PropertiesError → W → Type 0
WritesMap sink a entries old (Ok done) new = WritesEntries sink a entries old (Ok done) new
WritesMap sink a entries old (Err error) new = Refuses kind.Memory old error new ⊎ WritesEntries sink a entries old (Err error) new

-- ---- reading what was written

-- a key and its value, as characters
abbrev pub character_pair : Texts → Pair
character_pair texts = (chars texts.0, chars texts.1)

-- the items of these pairs, one per line from the first line on
abbrev pub items_for : List Texts → List Entry
items_for pairs = items_after 0 (map character_pair pairs)

-- The bytes that the sink took read back, on their own and in the encoding that was written, as the map's pairs in
-- order, one per line. They have no other items, so none is malformed. The map of these items is the one that was
-- written: each key has its value, and no other key has one.
pub record IsMapReadBack {W Y Z : Type 0} (sink : Sink W) (a : Encoding) (entries : Entries Y Z) (old new : W) : Type 0 where
  pub bytes : List ℕ
  pub written : HasWritten sink old bytes new
  pub pairs : List Texts
  pub in_order : AreInOrder entries pairs
  pub items : IsItems a bytes end (items_for pairs)
  pub only : (others : List Entry) → IsItems a bytes end others → others ≡ items_for pairs
  pub is_map : IsMap (items_for pairs) (value_at entries)

-- Writing stopped as it stops for a new writer that is asked to write the map's pairs in order and then to flush. What
-- the calls before the failed one wrote reads back as their pairs, one per line, and as nothing else. What the sink
-- took after that, at most a part of the next line, is determined by the call that failed.
pub record IsMapReadBackBefore {W Y Z : Type 0} (sink : Sink W) (a : Encoding) (entries : Entries Y Z) (old : W) (error : PropertiesError)
    (new : W) : Type 0 where
  pub pairs : List Texts
  pub in_order : AreInOrder entries pairs
  pub writer : Writing W
  pub stops : IsReadBackBefore sink (new_writer a old) (calls_for pairs ++ (flush_call ∷ [])) error writer
  pub sink_after : new ≡ writer.sink

-- What writing a map means for reading it: what was written completely reads back. If memory for sorting the pairs runs
-- out, the sink is unchanged.
abbrev pub MapReadsBack : {W Y Z : Type 0} → Sink W → Encoding → Entries Y Z → W → Result Unit PropertiesError → W → Type 0
MapReadsBack sink a entries old (Ok done) new = IsMapReadBack sink a entries old new
MapReadsBack sink a entries old (Err error) new = Refuses kind.Memory old error new ⊎ IsMapReadBackBefore sink a entries old error new
