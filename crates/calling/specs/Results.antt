-- What the examples return.
use Rattle.std.specs.Prelude.{◌≡◌, ℕ, true, List, length, Bool, Decides}
use Rattle.counted_io.specs.Streams.{Reader, HasRead, has_ended}
use Rattle.properties_format.specs.Encoding.{Encoding, output_encoding}
use Rattle.properties_format.specs.Items.{IsItems, Entry}
use Rattle.properties_format.specs.Lines.{end}
use Rattle.java_properties.specs.ReadLines.{entries_in, ReadsWhole}
use Rattle.properties_items.specs.declared.line.Line.{Line}
use Rattle.std.specs.Borrow.{Bor}
use Rattle.std.specs.declared.string.String.{String}
use Rattle.java_properties.specs.Maps.{characters}
use Rattle.properties_format.specs.Writing.{pairs_in, items_after, Pair, AreAccepted, ArePairsOfScalars}
use Rattle.properties_format.specs.Settings.{Settings}
use Rattle.properties_format.specs.Laws.{wrote_pairs}
use Rattle.java_properties.specs.PropertiesWriter.{Writing}

-- The reader was read to its end without a fault, and the bytes that it gave have so many items, and no malformed one.
pub record CountsItems {R : Type 0} (reader : Reader R) (e : Encoding) (from : R) (count : ℕ) (to : R) : Type 0 where
  pub bytes : List ℕ
  pub read : HasRead reader from bytes to
  pub ended : has_ended reader to ≡ true
  pub lines : List Line
  pub items : IsItems e bytes end (entries_in lines)
  pub counted : count ≡ length lines

-- the characters of a borrowed text
abbrev pub borrowed_characters : {Z : Type 0} → Bor (String Z) → List ℕ
borrowed_characters text = characters text.now

-- The reader was read to its end, no read failed, and no escape is malformed. The bytes are read, in the encoding in which
-- these pairs are written, as the pairs of the input, one a line and under its number, and as nothing else.
pub record HoldsPairs {R : Type 0} (reader : Reader R) (e : Encoding) (from : R) (bytes : List ℕ) (to : R) : Type 0 where
  pub items : List Entry
  pub reads : ReadsWhole reader e from items to
  pub back : IsItems (output_encoding e) bytes end (items_after 0 (pairs_in items))
  pub only : (others : List Entry) → IsItems (output_encoding e) bytes end others → others ≡ items_after 0 (pairs_in items)

-- The bytes are what is written for these pairs, which are accepted, if no line was written before.
pub record AreBytesOf (e : Encoding) (s : Settings) (pairs : List Pair) (bytes : List ℕ) : Type 0 where
  pub accepted : AreAccepted s pairs
  pub scalars : ArePairsOfScalars pairs
  pub written : bytes ≡ wrote_pairs e s pairs

-- For any two lists that have these bytes in this writer's encoding and with its settings, the result is whether they are equal.
abbrev pub ComparesPairs : {W : Type 0} → Writing W → List ℕ → List ℕ → Bool → Type 0
ComparesPairs w first second same =
    (ps qs : List Pair) → AreBytesOf w.encoding w.settings ps first → AreBytesOf w.encoding w.settings qs second → Decides same (ps ≡ qs)
