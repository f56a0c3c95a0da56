-- The results of resolving escapes, as contracts see them.
use Rattle.std.specs.Prelude.{◌≡◌, ◌≤◌, ◌||◌, ◌==◌, ℕ, Bool, true, false, if◌then◌else◌, List, [], ◌∷◌, ◌++◌, length, take, Result, Ok, Err, ◌<◌, ◌⊎◌, nat_lt, drop, get_or}
use Rattle.std.specs.Str.{IsUtf8, chars}
use Rattle.std.specs.Cow.{cow_str_bytes}
use Rattle.std.specs.declared.borrow.CowStr.{CowStr}
use Rattle.std.specs.declared.borrow.CowStr.TheVariants as cow
use Rattle.properties_format.specs.Text.{backslash}
use Rattle.properties_format.specs.Escapes as format
use Rattle.properties_format.specs.Computed.Escapes.{meaning_of, text_in_front}
use Rattle.properties_text.specs.declared.escape.Malformed.{Malformed}
use Rattle.properties_text.specs.declared.escape.Malformed.TheVariants.{NotEnoughDigits, NotHex, InvalidCharacter}
use Rattle.properties_text.specs.declared.escape.UnescapeError.{UnescapeError}
use Rattle.properties_text.specs.declared.escape.UnescapeError.TheVariants as error
use Rattle.properties_text.specs.declared.escape.Escapes.{Escapes}
use Rattle.std.specs.Char.{IsScalar}
use Rattle.properties_format.specs.Escapes.{letter_u, Spelling, spelling_text, spelling_character, IsSpelling, NoSpelling, are_hexadecimal, code_unit, is_high, is_low, pair_character, means, breaks, Four}
use Rattle.properties_format.specs.Computed.Cut.{windows_1252_characters}
use Rattle.properties_text.specs.declared.encoding.line_encoding.LineEncoding.{LineEncoding}
use Rattle.properties_text.specs.declared.encoding.line_encoding.LineEncoding.TheVariants.{Windows1252, Utf8}
use Rattle.properties_text.specs.declared.encoding.line_encoding.ReadCharacter.{ReadCharacter}

-- whether the text contains a backslash
abbrev pub holds_backslash : List ℕ → Bool
holds_backslash [] = false
holds_backslash (c ∷ cs) = c == backslash || holds_backslash cs

-- whether the result is a borrowed text
abbrev pub is_borrowed_result : {Z E : Type 0} → Result (CowStr Z) E → Bool
is_borrowed_result (Ok (cow.Borrowed text)) = true
is_borrowed_result other = false

abbrev pub malformed_in : Malformed → format.Malformed
malformed_in NotEnoughDigits = format.not_enough_digits
malformed_in NotHex = format.not_hex
malformed_in InvalidCharacter = format.invalid_character

-- An escape of the text is malformed, and the error reports how; or memory ran out.
abbrev pub IsRefused : List ℕ → UnescapeError → Type 0
IsRefused text (error.Malformed malformed) = format.Breaks text (malformed_in malformed)
IsRefused text error.Memory = Unit

-- The result of resolving the escapes of a text: the text that it means; how its first malformed escape is malformed;
-- or that memory ran out.
abbrev pub Unescapes : {Z : Type 0} → List ℕ → Result (CowStr Z) UnescapeError → Type 0
Unescapes text (Ok meant) = format.Means text (chars (cow_str_bytes meant))
Unescapes text (Err e) = IsRefused text e

-- the value of a byte as a hexadecimal digit, or a number too large for four digits if it isn't one
abbrev pub digit_value : ℕ → ℕ
digit_value b = if format.is_hexadecimal b then format.hexadecimal_value b else 0x10000

-- four bytes of a text, as characters
abbrev pub four_bytes : ℕ → ℕ → ℕ → ℕ → format.Four
four_bytes first second third fourth = record { first = first; second = second; third = third; fourth = fourth }

-- The result of resolving the escapes of a text and appending it to another, and the text afterwards.
abbrev pub Appends : List ℕ → List ℕ → Result Unit UnescapeError → List ℕ → Type 0
Appends text before (Ok done) after = (meant : List ℕ) × (meaning_of text ≡ format.means meant) × (after ≡ before ++ meant)
Appends text before (Err e) after = IsRefused text e

-- The escapes at the front of a text were resolved, and a run begins with the text that they mean.
pub record AreResolved (text new : List ℕ) (escapes : Escapes) : Type 0 where
  pub within : escapes.end ≤ length new
  pub is_text : IsUtf8 (take escapes.end new)
  pub rest_is_text : IsUtf8 escapes.rest.now
  pub meaning : meaning_of (chars text) ≡ text_in_front (chars (take escapes.end new)) (meaning_of (chars escapes.rest.now))

-- The result of resolving the escapes at the front of a text.
abbrev pub ResolvesFront : List ℕ → List ℕ → Result Escapes Malformed → Type 0
ResolvesFront text new (Ok escapes) = AreResolved text new escapes
ResolvesFront text new (Err malformed) = meaning_of (chars text) ≡ format.breaks (malformed_in malformed)

-- ---- Characters and escapes in the bytes of a line.

-- the characters of the bytes of a line
abbrev pub text_in : LineEncoding → List ℕ → List ℕ
text_in Windows1252 bytes = windows_1252_characters bytes
text_in Utf8 bytes = chars bytes

-- The bytes are well-formed. In windows-1252 any are.
abbrev pub IsWell : LineEncoding → List ℕ → Type 0
IsWell Windows1252 bytes = Unit {0}
IsWell Utf8 bytes = IsUtf8 bytes

-- So many bytes at the front are a spelling of this character.
pub record Spells (e : LineEncoding) (bytes : List ℕ) (spelt : ReadCharacter) : Type 0 where
  pub spelling : Spelling
  pub whole : text_in e bytes ≡ spelling_text spelling ++ text_in e (drop spelt.length bytes)
  pub stands : IsSpelling spelling (text_in e (drop spelt.length bytes))
  pub character : spelt.character ≡ spelling_character spelling

-- These bytes spell the character; or, if a backslash stands for itself, they are it.
abbrev pub StandsBy : Bool → LineEncoding → List ℕ → ReadCharacter → Type 0
StandsBy true e bytes spelt = Spells e bytes spelt
StandsBy false e bytes spelt = text_in e bytes ≡ spelt.character ∷ text_in e (drop spelt.length bytes)

-- The bytes begin with so many that spell this character, or are it.
pub record IsReadBy (escaped : Bool) (e : LineEncoding) (bytes : List ℕ) (spelt : ReadCharacter) : Type 0 where
  pub some : 0 < spelt.length
  pub within : spelt.length ≤ length bytes
  pub scalar : IsScalar spelt.character
  pub is : StandsBy escaped e bytes spelt
  pub well : IsWell e (drop spelt.length bytes)

-- The bytes begin with this character, and a backslash stands for itself.
abbrev pub IsFirst : LineEncoding → List ℕ → ReadCharacter → Type 0
IsFirst e bytes spelt = IsReadBy false e bytes spelt

-- The bytes begin with what spells this character.
abbrev pub IsRead : LineEncoding → List ℕ → ReadCharacter → Type 0
IsRead e bytes spelt = IsReadBy true e bytes spelt

-- The bytes begin with a spelling; or with none, and the error says how they are malformed.
abbrev pub ReadsSpelt : LineEncoding → List ℕ → Result ReadCharacter Malformed → Type 0
ReadsSpelt e bytes (Ok spelt) = IsRead e bytes spelt
ReadsSpelt e bytes (Err malformed) = NoSpelling (text_in e bytes) × (meaning_of (text_in e bytes) ≡ breaks (malformed_in malformed))

-- the number of bytes of a character of UTF-8, by the first of them
abbrev pub length_by_first : ℕ → ℕ
length_by_first b = if nat_lt b 0x80 then 1 else (if nat_lt b 0xe0 then 2 else (if nat_lt b 0xf0 then 3 else 4))

-- the four bytes after the first two
abbrev pub digits_in : List ℕ → Four
digits_in bytes = four_bytes (get_or bytes 2 0) (get_or bytes 3 0) (get_or bytes 4 0) (get_or bytes 5 0)

-- The bytes begin with `\u`.
abbrev pub BeginsUnit : List ℕ → Type 0
BeginsUnit bytes = (2 ≤ length bytes) × (get_or bytes 0 0 ≡ backslash) × (get_or bytes 1 0 ≡ letter_u)

-- After the first two bytes there are four digits, and this is their value.
pub record HasDigits (bytes : List ℕ) (value : ℕ) : Type 0 where
  pub within : 6 ≤ length bytes
  pub hexadecimal : are_hexadecimal (digits_in bytes) ≡ true
  pub writes : value ≡ code_unit (digits_in bytes)

abbrev pub LacksDigits : List ℕ → Type 0
LacksDigits bytes = (length bytes < 6) ⊎ (are_hexadecimal (digits_in bytes) ≡ false)

-- The bytes begin with the escape of a low surrogate, which makes this character with the high one.
pub record HasLow (high : ℕ) (bytes : List ℕ) (character : ℕ) : Type 0 where
  pub begins : BeginsUnit bytes
  pub digits : HasDigits bytes (code_unit (digits_in bytes))
  pub is_high : is_high high ≡ true
  pub is_low : is_low (code_unit (digits_in bytes)) ≡ true
  pub is : character ≡ pair_character high (code_unit (digits_in bytes))

abbrev pub LacksLow : ℕ → List ℕ → Type 0
LacksLow high bytes = BeginsUnit bytes → HasDigits bytes (code_unit (digits_in bytes)) → is_high high ≡ true → is_low (code_unit (digits_in bytes)) ≡ true → ⊥

-- why there are no four digits at the front, by the number of characters
abbrev pub CountsFour : LineEncoding → List ℕ → Malformed → Type 0
CountsFour e bytes NotEnoughDigits = length (text_in e bytes) < 4
CountsFour e bytes NotHex = 4 ≤ length (text_in e bytes)
CountsFour e bytes InvalidCharacter = ⊥

-- The result of reading all escapes of a text: it means another, or how its first malformed escape is malformed.
abbrev pub Checks : LineEncoding → List ℕ → Result Unit Malformed → Type 0
Checks e bytes (Ok done) = (meant : List ℕ) × (meaning_of (text_in e bytes) ≡ means meant)
Checks e bytes (Err malformed) = meaning_of (text_in e bytes) ≡ breaks (malformed_in malformed)
