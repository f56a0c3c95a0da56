-- A map that is read, item after item.
use Rattle.std.proofs.Common.{◌≡◌, ℕ, List, [], ◌∷◌, ◌++◌, refl, sym, subst}
use Rattle.std.specs.Prelude.{Option}
use Rattle.counted_io.specs.Streams.{Reader}
use Rattle.properties_format.specs.Encoding.{Encoding}
use Rattle.properties_format.specs.ItemsToCome.{ReaderState, start}
use Rattle.properties_format.specs.Items.{Content, comment, pair, item, AreItems}
use Rattle.properties_format.specs.Maps.{IsMap}
use Rattle.properties_format.proofs.Maps.{map-none, map-comment, map-pair}
use Rattle.properties_items.specs.Line.{line_number_of, content_of}
use Rattle.java_properties.specs.PropertiesIter.{format_content, entry_of, GivesEntry, GivesNone}
use Rattle.java_properties.specs.ReadLines.{entries_in}
use Rattle.java_properties.specs.Maps.{HasPut, HasReadMap, ReadsValue}
use Rattle.properties_items.specs.Texts.{Entries, value_at}
use Rattle.properties_items.specs.declared.line.Line.{Line}
use Rattle.java_properties.proofs.Readings.{HasDropped, collected-none, dropped-none, dropped-more, entries-more}

-- These lines came so far, and the map is theirs.
pub record HasPassed {R Y Z : Type 0} (reader : Reader R) (e : Encoding) (from : R) (m : Entries Y Z) (state : ReaderState) (to : R) : Type 0 where
  pub so_far : HasDropped reader e from state to
  pub is_map : IsMap (entries_in so_far.lines) (value_at m)

-- A pair sets the value of its key. A comment changes nothing.
abbrev pub Takes : {Y Z : Type 0} → Entries Y Z → Content → Entries Y Z → Type 0
Takes old (comment text) new = new ≡ old
Takes old (pair key value) new = HasPut old key value new

-- lines are items
lines-are-items : (lines : List Line) → AreItems (entries_in lines)
lines-are-items [] = tt
lines-are-items (line ∷ lines) = lines-are-items lines

module _ {R Y Z : Type 0} {reader : Reader R} {e : Encoding} where
  -- before the first item
  pub passed-none : (from : R) (m : Entries Y Z) (s : ReaderState) → m ≡ [] → s ≡ start e → HasPassed reader e from m s from
  unfolding dropped-none
  passed-none from m s empty is = record { so_far = dropped-none from s is; is_map = map-none (value_at m) (λ key. rw empty refl) }

  -- an item came, and went into the map if it is a pair
  pub passed-more : {from to next : R} {m n : Entries Y Z} {s t : ReaderState} (line : Line) → HasPassed reader e from m s to
      → GivesEntry reader s to (entry_of line) t next → Takes m (format_content (content_of line)) n → HasPassed reader e from n t next
  unfolding dropped-more
  passed-more {m = m} {n = n} line h g k = record {
    so_far = dropped-more line h.so_far g;
    is_map = subst (λ v. IsMap v (value_at n)) (entries-more h.so_far.lines line) (by-content (format_content (content_of line)) k);
  }
    where
      by-content : (c : Content) → Takes m c n → IsMap (entries_in h.so_far.lines ++ (item (line_number_of line) c ∷ [])) (value_at n)
      by-content (comment text) k =
          let P : Entries Y Z → Type 0 = λ v. IsMap (entries_in h.so_far.lines ++ (item (line_number_of line) (comment text) ∷ [])) (value_at v) in
          subst P (sym k) (map-comment (entries_in h.so_far.lines) (line_number_of line) text (value_at m) h.is_map)
      by-content (pair key value) k = map-pair (entries_in h.so_far.lines) (line_number_of line) key value (value_at m) (value_at n) h.is_map k

  -- no item comes any more
  pub passed-all : {from to next : R} {m : Entries Y Z} {s t : ReaderState} → HasPassed reader e from m s to
      → GivesNone reader s to t next → HasReadMap reader e from m next
  passed-all h n =
      let whole = collected-none h.so_far.collected n in
      record {
        lines = h.so_far.lines;
        reads = whole;
        values = λ key. record { entries = entries_in h.so_far.lines; items = whole.reading.items; whole = lines-are-items h.so_far.lines; is = h.is_map key };
      }

-- What a map that was read has at a key is the value of that key in the input.
pub reads_value : {R Y Z : Type 0} {reader : Reader R} {e : Encoding} {from to : R} {entries : Entries Y Z} → HasReadMap reader e from entries to
    → (key : List ℕ) (value : Option (List ℕ)) → value ≡ value_at entries key → ReadsValue reader e from key value to
reads_value {reader = reader} {e = e} {from = from} {to = to} h key value is = subst (λ v. ReadsValue reader e from key v to) (sym is) (record {
  items = entries_in h.lines;
  reads = h.reads;
  has_value = h.values key;
})
