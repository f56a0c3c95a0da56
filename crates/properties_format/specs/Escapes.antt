-- What a key, a value or a comment's text means. A text is a concatenation of spellings, each of which is one
-- character.
-- Source: java.util.Properties of Java SE 7, load.
use Rattle.std.specs.Prelude.{ℕ, ◌+◌, ◌-◌, ◌*◌, ◌&&◌, ◌||◌, nat_le, Bool, if◌then◌else◌, List, [], ◌∷◌, ◌≡◌, ◌==◌, true, false, ◌++◌, map}
pub use Rattle.properties_format.specs.Utf16.{is_high, is_low, is_surrogate, pair_character}
use Rattle.properties_format.specs.Text.{tab, line_feed, form_feed, carriage_return, backslash}

-- a hexadecimal digit: 0 to 9, A to F, or a to f
abbrev pub is_hexadecimal : ℕ → Bool
is_hexadecimal c = (nat_le 0x30 c && nat_le c 0x39) || ((nat_le 0x41 c && nat_le c 0x46) || (nat_le 0x61 c && nat_le c 0x66))

-- the value of a hexadecimal digit
abbrev pub hexadecimal_value : ℕ → ℕ
hexadecimal_value c = if nat_le c 0x39 then c - 0x30 else (if nat_le c 0x46 then c - 0x37 else c - 0x57)

-- the four characters after a `\u`
pub record Four : Type 0 where
  pub first : ℕ
  pub second : ℕ
  pub third : ℕ
  pub fourth : ℕ

-- the four characters as a text
abbrev pub four_text : Four → List ℕ
four_text d = d.first ∷ d.second ∷ d.third ∷ d.fourth ∷ []

-- whether all four are hexadecimal digits
abbrev pub are_hexadecimal : Four → Bool
are_hexadecimal d = (is_hexadecimal d.first && is_hexadecimal d.second) && (is_hexadecimal d.third && is_hexadecimal d.fourth)

-- the number of four hexadecimal digits
abbrev pub code_unit : Four → ℕ
code_unit d = ((hexadecimal_value d.first * 16 + hexadecimal_value d.second) * 16 + hexadecimal_value d.third) * 16 + hexadecimal_value d.fourth

-- Why a text has no meaning: too few characters follow a `\u`, they aren't all hexadecimal digits, or they are a
-- surrogate without its other half.
pub data Malformed : Type 0 where
  not_enough_digits : Malformed
  not_hex : Malformed
  invalid_character : Malformed

-- the letters t, n, f, r and u, which have a special meaning after a backslash
abbrev pub letter_t : ℕ
letter_t = 0x74

abbrev pub letter_n : ℕ
letter_n = 0x6e

abbrev pub letter_f : ℕ
letter_f = 0x66

abbrev pub letter_r : ℕ
letter_r = 0x72

abbrev pub letter_u : ℕ
letter_u = 0x75

-- the character that a backslash and this character mean: a tab, a line feed, a form feed, a carriage return, or
-- otherwise the character itself
abbrev pub escaped_character : ℕ → ℕ
escaped_character c =
    if c == letter_t then tab
    else (if c == letter_n then line_feed else (if c == letter_f then form_feed else (if c == letter_r then carriage_return else c)))

-- How a character is spelt: as itself; as a backslash and a character; as one `\u` escape; as two `\u` escapes, of a
-- high and a low surrogate; or as a backslash at the end of the text.
pub data Spelling : Type 0 where
  itself : ℕ → Spelling
  escaped : ℕ → Spelling
  unicode : Four → Spelling
  surrogates : Four → Four → Spelling
  last : Spelling

-- the text of a spelling
abbrev pub spelling_text : Spelling → List ℕ
spelling_text (itself c) = c ∷ []
spelling_text (escaped c) = backslash ∷ c ∷ []
spelling_text (unicode d) = backslash ∷ letter_u ∷ four_text d
spelling_text (surrogates high low) = (backslash ∷ letter_u ∷ four_text high) ++ (backslash ∷ letter_u ∷ four_text low)
spelling_text last = backslash ∷ []

-- the character of a spelling; a backslash at the end of the text is U+0000
abbrev pub spelling_character : Spelling → ℕ
spelling_character (itself c) = c
spelling_character (escaped c) = escaped_character c
spelling_character (unicode d) = code_unit d
spelling_character (surrogates high low) = pair_character (code_unit high) (code_unit low)
spelling_character last = 0

-- The spelling may come before this rest of the text.
abbrev pub IsSpelling : Spelling → List ℕ → Type 0
IsSpelling (itself c) rest = (c == backslash) ≡ false
IsSpelling (escaped c) rest = (c == letter_u) ≡ false
IsSpelling (unicode d) rest = (are_hexadecimal d ≡ true) × (is_surrogate (code_unit d) ≡ false)
IsSpelling (surrogates high low) rest =
    (are_hexadecimal high ≡ true) × (is_high (code_unit high) ≡ true) × (are_hexadecimal low ≡ true) × (is_low (code_unit low) ≡ true)
IsSpelling last rest = rest ≡ []

-- the texts of the spellings, one after another, and then the rest of the text
abbrev pub spellings_before : List Spelling → List ℕ → List ℕ
spellings_before [] rest = rest
spellings_before (p ∷ ps) rest = spelling_text p ++ spellings_before ps rest

-- Each spelling may come before what follows it.
abbrev pub AreSpellings : List Spelling → List ℕ → Type 0
AreSpellings [] rest = Unit {0}
AreSpellings (p ∷ ps) rest = IsSpelling p (spellings_before ps rest) × AreSpellings ps rest

-- The text is a concatenation of spellings, and it means their characters.
pub record Means (text meant : List ℕ) : Type 0 where
  pub spellings : List Spelling
  pub whole : text ≡ spellings_before spellings []
  pub each : AreSpellings spellings []
  pub characters : meant ≡ map spelling_character spellings

-- The text begins with no spelling.
abbrev pub NoSpelling : List ℕ → Type 0
NoSpelling text = (p : Spelling) (rest : List ℕ) → text ≡ spelling_text p ++ rest → IsSpelling p rest → ⊥

-- how a text is malformed that begins with a `\u` and no spelling, given what follows the `\u`
abbrev pub malformed_by : List ℕ → Malformed
malformed_by (a ∷ b ∷ c ∷ d ∷ rest) = if are_hexadecimal record { first = a; second = b; third = c; fourth = d } then invalid_character else not_hex
malformed_by _ = not_enough_digits

-- The text is a concatenation of spellings followed by a `\u` that begins no spelling.
pub record Breaks (text : List ℕ) (kind : Malformed) : Type 0 where
  pub spellings : List Spelling
  pub after : List ℕ
  pub whole : text ≡ spellings_before spellings (backslash ∷ letter_u ∷ after)
  pub each : AreSpellings spellings (backslash ∷ letter_u ∷ after)
  pub no_spelling : NoSpelling (backslash ∷ letter_u ∷ after)
  pub fault : kind ≡ malformed_by after

-- What a text resolves to: the text that it means, or how it is malformed.
pub data Meaning : Type 0 where
  means : List ℕ → Meaning
  breaks : Malformed → Meaning

-- The text resolves to this.
abbrev pub IsMeaning : List ℕ → Meaning → Type 0
IsMeaning text (means meant) = Means text meant
IsMeaning text (breaks kind) = Breaks text kind
