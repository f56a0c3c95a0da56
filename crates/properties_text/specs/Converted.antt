-- What the bytes of a text come to when they are converted.
use Rattle.std.specs.Prelude.{◌≡◌, ◌≤◌, ◌<◌, ◌||◌, ◌==◌, ℕ, Bool, true, false, nat_le, List, ◌++◌, length, take, drop}
use Rattle.properties_format.specs.Text.{backslash}
use Rattle.properties_format.specs.Printing.{encoded_text}
use Rattle.properties_format.specs.Converting.{TextUnit, unit_text, IsUnit, converted_unit}
use Rattle.properties_format.specs.Computed.Converting.{converted_of}
use Rattle.properties_text.specs.Escaping.{text_in, IsWell}
use Rattle.properties_text.specs.Encoding.{text_of}
use Rattle.properties_text.specs.declared.encoding.Encoding.{Encoding}
use Rattle.properties_text.specs.Printing.{in_format}
use Rattle.properties_text.specs.declared.encoding.line_encoding.LineEncoding.{LineEncoding}
use Rattle.properties_text.specs.declared.encoding.line_encoding.LineEncoding.TheVariants.{Windows1252, Utf8}
use Rattle.properties_text.specs.declared.print.Repertoire.{Repertoire}
use Rattle.properties_text.specs.declared.print.Repertoire.TheVariants as repertoire
use Rattle.properties_text.specs.declared.convert.Spelling.{Spelling}
use Rattle.properties_text.specs.declared.convert.Spelling.TheVariants.{Kept, Readable}

-- whether a character that the result can have becomes itself
abbrev pub is_readable : Spelling → Bool
is_readable Kept = false
is_readable Readable = true

-- the bytes that a text comes to
abbrev pub converted_in : Repertoire → Bool → LineEncoding → List ℕ → List ℕ
converted_in t readable e bytes = encoded_text (in_format t).encoding (converted_of (in_format t) readable (text_in e bytes))

-- the bytes that a unit comes to
abbrev pub unit_in : Repertoire → Bool → TextUnit → List ℕ
unit_in t readable u = encoded_text (in_format t).encoding (converted_unit (in_format t) readable u)

-- whether a run stops at a byte
abbrev pub is_stop : ℕ → Bool
is_stop b = nat_le 0x80 b || b == backslash

-- So many bytes at the front of a text stay.
abbrev pub StaysUpTo : Bool → List ℕ → ℕ → Type 0
StaysUpTo readable text n = (t : Repertoire) (e : LineEncoding) → IsWell e text → IsWell e (drop n text) × (converted_in t readable e text ≡ take n text ++ converted_in t readable e (drop n text))

-- A front of a text was converted: with what the rest comes to, it is what the text comes to.
pub record IsConvertedFront (t : Repertoire) (readable : Bool) (e : LineEncoding) (old : List ℕ) (at : ℕ) (text : List ℕ) (end : ℕ) (rest : List ℕ) (new : List ℕ) : Type 0 where
  pub well : IsWell e rest
  pub left : length rest ≤ length text
  pub converted : take at old ++ converted_in t readable e text ≡ take end new ++ converted_in t readable e rest

-- The first unit of a text was converted.
pub record IsUnitFront (t : Repertoire) (readable : Bool) (e : LineEncoding) (old : List ℕ) (at : ℕ) (text : List ℕ) (end : ℕ) (rest : List ℕ) (new : List ℕ) : Type 0 where
  pub unit : TextUnit
  pub begins : text_in e text ≡ unit_text unit ++ text_in e rest
  pub is_unit : IsUnit unit (text_in e rest)
  pub well : IsWell e rest
  pub shorter : length rest < length text
  pub put : take end new ≡ take at old ++ unit_in t readable unit

-- the encoding of a result
abbrev pub line_encoding_of : Repertoire → LineEncoding
line_encoding_of repertoire.Windows1252 = Windows1252
line_encoding_of repertoire.Latin1 = Windows1252
line_encoding_of repertoire.Utf8 = Utf8
line_encoding_of repertoire.Ascii = Utf8

-- The bytes that a body in this encoding comes to.
abbrev pub body_bytes : Repertoire → Bool → Encoding → List ℕ → List ℕ
body_bytes t readable e body = encoded_text (in_format t).encoding (converted_of (in_format t) readable (text_of e body))
