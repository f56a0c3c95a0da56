-- What a text of a line is printed as, by the encoding of the line, what a backslash means in it, and what may be printed.
use Rattle.std.specs.Prelude.{◌≡◌, ◌⊎◌, ◌≤◌, ◌<◌, ◌+◌, ◌*◌, ℕ, nat_le, nat_lt, ◌&&◌, Bool, not, true, false, if◌then◌else◌, List, [], ◌∷◌, ◌++◌, length, take, drop, Result, Ok, Err}
use Rattle.properties_format.specs.Escapes as format_escapes
use Rattle.properties_format.specs.Escapes.{Meaning, means, breaks}
use Rattle.properties_format.specs.Computed.Escapes.{meaning_of, text_in_front}
use Rattle.properties_text.specs.Escaping.{malformed_in, text_in, IsWell, IsReadBy}
use Rattle.properties_text.specs.Printing.{puts_of, key_bytes, printed_bytes}
use Rattle.properties_text.specs.declared.encoding.line_encoding.ReadCharacter.{ReadCharacter}
use Rattle.properties_text.specs.declared.escape.Malformed.{Malformed}
use Rattle.std.specs.List.{All}
use Rattle.std.specs.Result.{result_map_both}
use Rattle.properties_text.specs.declared.encoding.line_encoding.LineEncoding.{LineEncoding}
use Rattle.properties_text.specs.declared.encoding.line_encoding.LineEncoding.TheVariants.{Windows1252, Utf8}
use Rattle.properties_text.specs.declared.escape.UnescapeError.{UnescapeError}
use Rattle.properties_text.specs.declared.escape.UnescapeError.TheVariants as error
use Rattle.properties_text.specs.declared.print.Repertoire.{Repertoire}
use Rattle.properties_text.specs.declared.print.Repertoire.TheVariants as repertoire
use Rattle.properties_text.specs.declared.print.Pair.{Pair}
use Rattle.properties_text.specs.declared.print.part.Part.{Part}
use Rattle.properties_text.specs.declared.print.runs.Put.{Put}

-- ---- texts

-- what a text means, in which a backslash begins an escape or stands for itself
abbrev pub meaning_by : Bool → List ℕ → Meaning
meaning_by true text = meaning_of text
meaning_by false text = means text

-- what the bytes of a text mean
abbrev pub meaning_in : LineEncoding → Bool → List ℕ → Meaning
meaning_in e escaped bytes = meaning_by escaped (text_in e bytes)

abbrev pub printed_by : Repertoire → Meaning → Meaning
printed_by t (means text) = means (puts_of t text)
printed_by t (breaks kind) = breaks kind

-- what the bytes of a text come to when they are printed
abbrev pub printed_in : LineEncoding → Repertoire → Bool → List ℕ → Meaning
printed_in e t escaped bytes = printed_by t (meaning_in e escaped bytes)

-- ---- a text after some bytes that were copied, perhaps inside a character

-- whether non-ASCII bytes are copied
abbrev pub is_copied : LineEncoding → Repertoire → Bool
is_copied Windows1252 repertoire.Windows1252 = true
is_copied Utf8 repertoire.Utf8 = true
is_copied e t = false

-- a byte after the first of a character of UTF-8
abbrev pub is_inside : ℕ → Bool
is_inside b = nat_le 0x80 b && nat_lt b 0xc0

-- the bytes of a character that began before, and those after it
abbrev pub inside : List ℕ → List ℕ
inside [] = []
inside (b ∷ bs) = if is_inside b then b ∷ inside bs else []

abbrev pub past : List ℕ → List ℕ
past [] = []
past (b ∷ bs) = if is_inside b then past bs else b ∷ bs

abbrev pub inside_in : LineEncoding → Repertoire → List ℕ → List ℕ
inside_in Utf8 repertoire.Utf8 bytes = inside bytes
inside_in e t bytes = []

abbrev pub past_in : LineEncoding → Repertoire → List ℕ → List ℕ
past_in Utf8 repertoire.Utf8 bytes = past bytes
past_in e t bytes = bytes

-- what the rest of a text comes to, whose front was printed, perhaps up to inside a character
abbrev pub rest_in : LineEncoding → Repertoire → Bool → List ℕ → Meaning
rest_in e t escaped bytes = text_in_front (inside_in e t bytes) (printed_in e t escaped (past_in e t bytes))

-- ---- what is put

-- What stops a run: control characters; and non-ASCII bytes, unless they are copied. A backslash, if it begins an
-- escape.
pub record StopsIn (holds : ℕ → Bool) (e : LineEncoding) (t : Repertoire) : Type 0 where
  pub controls : (b : ℕ) → b < 0x20 → holds b ≡ true
  pub past : (b : ℕ) → 0x80 ≤ b → holds b ≡ not (is_copied e t)

-- So much of a text was read, and what it is printed as was put up to this place: the whole comes to that, and what the rest comes to.
pub record ArePut (e : LineEncoding) (t : Repertoire) (escaped : Bool) (whole : Meaning) (text : List ℕ) (put : Put) (out : List ℕ) : Type 0 where
  pub read : put.read ≤ length text
  pub within : put.end ≤ length out
  pub well : IsWell e (past_in e t (drop put.read text))
  pub printed : whole ≡ text_in_front (take put.end out) (rest_in e t escaped (drop put.read text))

-- The meaning is a text, and the bytes of that were put after what was put before.
pub record IsPut (m : Meaning) (bytes : List ℕ → List ℕ) (old : List ℕ) (at : ℕ) (new : List ℕ) (end : ℕ) : Type 0 where
  pub within : end ≤ length new
  pub meant : List ℕ
  pub meaning : m ≡ means meant
  pub printed : take end new ≡ take at old ++ bytes meant

-- The result of printing a text: its bytes were put; or it is malformed, and the error says how; or memory ran out.
abbrev pub Prints : Meaning → (List ℕ → List ℕ) → List ℕ → ℕ → List ℕ → Result ℕ UnescapeError → Type 0
Prints m bytes old at new (Ok end) = IsPut m bytes old at new end
Prints m bytes old at new (Err (error.Malformed malformed)) = m ≡ breaks (malformed_in malformed)
Prints m bytes old at new (Err error.Memory) = Unit {0}

-- ---- reading

-- The result of reading the first character of bytes.
abbrev pub ReadsBy : Bool → LineEncoding → List ℕ → Result ReadCharacter Malformed → Type 0
ReadsBy escaped e bytes (Ok spelt) = IsReadBy escaped e bytes spelt
ReadsBy escaped e bytes (Err malformed) = meaning_in e escaped bytes ≡ breaks (malformed_in malformed)

-- what a text comes to from one place on, after what was put before another
abbrev pub from_on : LineEncoding → Repertoire → Bool → List ℕ → ℕ → List ℕ → ℕ → Meaning
from_on e t escaped old at text from = text_in_front (take at old) (rest_in e t escaped (drop from text))

-- The result of going on: what was read and put; or how the rest is malformed; or memory ran out.
abbrev pub PutsStops : LineEncoding → Repertoire → Bool → List ℕ → ℕ → List ℕ → ℕ → List ℕ → Result Put UnescapeError → Type 0
PutsStops e t escaped old at text from new (Ok put) = ArePut e t escaped (from_on e t escaped old at text from) text put new
PutsStops e t escaped old at text from new (Err (error.Malformed malformed)) = rest_in e t escaped (drop from text) ≡ breaks (malformed_in malformed)
PutsStops e t escaped old at text from new (Err error.Memory) = Unit {0}

-- The result of printing the rest of a text: all of it was read and put; or how it is malformed; or memory ran out.
abbrev pub PrintsRest : LineEncoding → Repertoire → Bool → List ℕ → ℕ → List ℕ → ℕ → List ℕ → Result ℕ UnescapeError → Type 0
PrintsRest e t escaped old at text from new result =
    PutsStops e t escaped old at text from new (result_map_both (λ end. record { read = length text; end = end }) (λ e. e) result)

-- Bytes were put one by one, none of which is a stop.
pub record IsRunPut (holds : ℕ → Bool) (old : List ℕ) (at : ℕ) (text : List ℕ) (from : ℕ) (put : Put) (new : List ℕ) : Type 0 where
  pub bytes : List ℕ
  pub text_is : drop from text ≡ bytes ++ drop put.read text
  pub read_is : put.read ≡ from + length bytes
  pub read : put.read ≤ length text
  pub few : put.end ≤ at + 2 * length bytes
  pub clear : All (λ b. holds b ≡ false) bytes
  pub printed : take put.end new ≡ take at old ++ printed_bytes bytes

-- ---- pairs

-- the bytes of a key or a value, and what it means
abbrev pub bytes_of : Part → List ℕ
bytes_of t = take t.size t.bytes.now

abbrev pub key_meaning : Pair → Meaning
key_meaning p = meaning_in p.encoding p.escaped (bytes_of p.key)

abbrev pub value_meaning : Pair → Meaning
value_meaning p = meaning_in p.encoding p.escaped (bytes_of p.value)

-- The key and the value are well-formed.
pub record IsWellPair (p : Pair) : Type 0 where
  pub key : IsWell p.encoding (bytes_of p.key)
  pub value : IsWell p.encoding (bytes_of p.value)

-- The pair means a key and a value, and these were appended, the value as these bytes.
pub record IsPairPrinted (r : Repertoire) (first : Bool) (puts : List ℕ → List ℕ) (old : List ℕ) (p : Pair) (separator ending new : List ℕ) : Type 0 where
  pub key : List ℕ
  pub value : List ℕ
  pub key_means : key_meaning p ≡ means key
  pub value_means : value_meaning p ≡ means value
  pub printed : new ≡ old ++ (key_bytes r first key ++ (separator ++ (puts value ++ ending)))

-- The key is malformed; or the value is, and the key isn't.
abbrev pub BreaksPair : Pair → format_escapes.Malformed → Type 0
BreaksPair p kind = (key_meaning p ≡ breaks kind) ⊎ ((key : List ℕ) × (key_meaning p ≡ means key) × (value_meaning p ≡ breaks kind))

-- The result of printing a pair, and the line after it.
abbrev pub PrintsPair : Repertoire → Bool → (List ℕ → List ℕ) → List ℕ → Pair → List ℕ → List ℕ → Result Unit UnescapeError → List ℕ → Type 0
PrintsPair r first puts old p separator ending (Ok done) new = IsPairPrinted r first puts old p separator ending new
PrintsPair r first puts old p separator ending (Err (error.Malformed malformed)) new = BreaksPair p (malformed_in malformed)
PrintsPair r first puts old p separator ending (Err error.Memory) new = Unit {0}

-- ---- a value that is resolved first

-- The meaning is a text, and its bytes were appended; or it is malformed, and the error says how; or memory ran out.
abbrev pub PrintsMeant : Meaning → (List ℕ → List ℕ) → List ℕ → Result Unit UnescapeError → List ℕ → Type 0
PrintsMeant m puts old (Ok done) new = (meant : List ℕ) × (m ≡ means meant) × (new ≡ old ++ puts meant)
PrintsMeant m puts old (Err (error.Malformed malformed)) new = m ≡ breaks (malformed_in malformed)
PrintsMeant m puts old (Err error.Memory) new = Unit {0}
