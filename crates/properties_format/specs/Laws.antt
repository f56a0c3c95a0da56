-- The three laws of the format: every input has exactly one reading, reading inverts writing, and splitting into lines
-- commutes with decoding.
use Rattle.std.specs.Prelude.{◌≡◌, ◌≢◌, ◌↔◌, ℕ, true, List, [], ◌∷◌, ◌++◌, Option, Some}
use Rattle.properties_format.specs.Text.{is_line_ending, Piece, piece}
use Rattle.properties_format.specs.Encoding.{Encoding, output_encoding, byte_order_mark, ascii_bytes, IsPieces, IsDecoded, IsAligned}
use Rattle.properties_format.specs.Lines.{InputEnd, end, Line, Lines, IsLines, numbered_lines, IsGroups, joined}
use Rattle.properties_format.specs.Cut.{IsByline}
use Rattle.properties_format.specs.Split.{IsSplit}
use Rattle.properties_format.specs.Escapes.{IsMeaning}
use Rattle.properties_format.specs.Items.{Entry, IsItems}
use Rattle.properties_format.specs.Maps.{IsMap}
use Rattle.properties_format.specs.Settings.{Settings}
use Rattle.properties_format.specs.Writing.{Call, wrote, items_read_back, ArePrefixesClean, AreOfScalars, AreGoodSettings, Pair, pairs_in, calls_of, AreAccepted, ArePairsOfScalars}

-- ---- One reading.

-- Exactly one value meets it.
pub record HasOne {A : Type 0} (Meets : A → Type 0) : Type 0 where
  pub value : A
  pub meets : Meets value
  pub only : (other : A) → Meets other → other ≡ value

-- The input, up to this ending, has exactly one reading. Its body has one list of pieces and so one text; the text has
-- one list of lines; the lines have one division into groups; each group's logical line is a blank line, a comment or a
-- pair, in one way; and each of its texts means one text or is malformed in one way. So the input has exactly one list
-- of items.
pub record HasOneReading (e : Encoding) (bytes : List ℕ) (ending : InputEnd) : Type 0 where
  pub pieces : HasOne (IsPieces (byte_order_mark e bytes).encoding (byte_order_mark e bytes).body)
  pub text : HasOne (IsDecoded e bytes)
  pub lines : HasOne (IsLines text.value)
  pub groups : HasOne (IsGroups (numbered_lines lines.value ending) ending)
  pub splits : (group : List Line) → HasOne (IsSplit (joined group))
  pub meanings : (part : List ℕ) → HasOne (IsMeaning part)
  pub items : HasOne (IsItems e bytes ending)

-- ---- Reading inverts writing.

-- Calls whose lines are read back: the encoding can be written, the settings before the calls are good, each prefix
-- under which a comment is written contains no backslash, and the texts consist of scalar values.
pub record AreReadBack (e : Encoding) (s : Settings) (calls : List Call) : Type 0 where
  pub encoding : output_encoding e ≡ e
  pub settings : AreGoodSettings s
  pub prefixes : ArePrefixesClean s calls
  pub scalars : AreOfScalars calls

-- Pairs that are read back: the encoding can be written, the settings are good, and each pair is accepted under them
-- and consists of scalar values.
pub record ArePairsReadBack (e : Encoding) (s : Settings) (pairs : List Pair) : Type 0 where
  pub encoding : output_encoding e ≡ e
  pub settings : AreGoodSettings s
  pub accepted : AreAccepted s pairs
  pub scalars : ArePairsOfScalars pairs

-- the bytes that a list of pairs writes, if no line was written before
abbrev pub wrote_pairs : Encoding → Settings → List Pair → List ℕ
wrote_pairs e s pairs = wrote e s 0 (calls_of pairs)

-- What the calls wrote has exactly the items that the calls wrote.
abbrev pub ReadingInvertsWriting : Encoding → Settings → List Call → Type 0
ReadingInvertsWriting e s calls = AreReadBack e s calls → (entries : List Entry) → IsItems e (wrote e s 0 calls) end entries ↔ (entries ≡ items_read_back s 0 calls)

-- Under one setting, two lists of accepted pairs write equal bytes exactly if the lists are equal.
abbrev pub EqualBytesOfEqualPairs : Encoding → Settings → List Pair → List Pair → Type 0
EqualBytesOfEqualPairs e s ps qs = ArePairsReadBack e s ps → ArePairsReadBack e s qs → wrote_pairs e s ps ≡ wrote_pairs e s qs ↔ (ps ≡ qs)

-- Reading pairs that were written and writing them again changes no byte.
abbrev pub WritingAnewChangesNothing : Encoding → Settings → List Pair → Type 0
WritingAnewChangesNothing e s ps =
    ArePairsReadBack e s ps → (entries : List Entry) → IsItems e (wrote_pairs e s ps) end entries → wrote_pairs e s (pairs_in entries) ≡ wrote_pairs e s ps

-- This pair is among the pairs.
abbrev pub HasPair : List Pair → List ℕ → List ℕ → Type 0
HasPair pairs key value = (before : List Pair) × (after : List Pair) × (pairs ≡ before ++ ((key, value) ∷ after))

-- No pair has the key.
abbrev pub HasNoKey : List ℕ → List Pair → Type 0
HasNoKey key [] = Unit {0}
HasNoKey key (p ∷ pairs) = (p.0 ≢ key) × HasNoKey key pairs

-- No two pairs have the same key.
abbrev pub AreDistinct : List Pair → Type 0
AreDistinct [] = Unit {0}
AreDistinct (p ∷ pairs) = HasNoKey p.0 pairs × AreDistinct pairs

-- If each written pair has a key of its own, the map that is read has exactly these pairs.
abbrev pub MapIsReadBack : Encoding → Settings → List Pair → Type 0
MapIsReadBack e s ps =
    ArePairsReadBack e s ps → AreDistinct ps → (entries : List Entry) → IsItems e (wrote_pairs e s ps) end entries
    → (value_at : List ℕ → Option (List ℕ)) → IsMap entries value_at → (key value : List ℕ) → value_at key ≡ Some value ↔ HasPair ps key value

-- ---- Splitting commutes with decoding.

-- The lines of the bytes, each decoded by itself, are the lines of the decoded text.
abbrev pub SplittingCommutes : Encoding → List ℕ → Type 0
SplittingCommutes e bytes = (text : List ℕ) (lines : Lines) → IsDecoded e bytes text → IsByline e bytes lines ↔ IsLines text lines

-- A CR or an LF at a unit's boundary in a body separates the pieces before it from those after it.
abbrev pub LineEndingsSeparatePieces : Encoding → List ℕ → ℕ → List ℕ → Type 0
LineEndingsSeparatePieces e before c after =
    is_line_ending c ≡ true → IsAligned e before → (ps qs : List Piece) → IsPieces e before ps → IsPieces e after qs
    → IsPieces e (before ++ (ascii_bytes e c ++ after)) (ps ++ (piece (ascii_bytes e c) c ∷ qs))
