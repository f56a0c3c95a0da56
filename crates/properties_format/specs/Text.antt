-- Bytes, characters, and the kinds of characters that the format distinguishes. A text is the list of its characters,
-- and a character is its code point.
-- Source: java.util.Properties of Java SE 7, load; The Unicode Standard, section 3.9, D76 (scalar values).
use Rattle.std.specs.Prelude.{ℕ, ◌<◌, ◌≤◌, ◌==◌, ◌&&◌, ◌||◌, ◌⊎◌, Bool, true, false, List, [], ◌∷◌, if◌then◌else◌}

-- a byte
abbrev pub byte : ℕ → Type 0
byte b = b < 0x100

-- a Unicode scalar value; every character of a text is one
abbrev pub scalar : ℕ → Type 0
scalar c = (c < 0xd800) ⊎ ((0xe000 ≤ c) × (c < 0x11_0000))

-- the tab, the line feed, the form feed, the carriage return and the space
abbrev pub tab : ℕ
tab = 0x09

abbrev pub line_feed : ℕ
line_feed = 0x0a

abbrev pub form_feed : ℕ
form_feed = 0x0c

abbrev pub carriage_return : ℕ
carriage_return = 0x0d

abbrev pub space : ℕ
space = 0x20

-- the comment signs, the separators, and the backslash
abbrev pub exclamation_mark : ℕ
exclamation_mark = 0x21

abbrev pub number_sign : ℕ
number_sign = 0x23

abbrev pub colon : ℕ
colon = 0x3a

abbrev pub equals_sign : ℕ
equals_sign = 0x3d

abbrev pub backslash : ℕ
backslash = 0x5c

-- the replacement character, for bytes that can't be decoded
abbrev pub replacement : ℕ
replacement = 0xfffd

-- whether a character is a blank: a space, a tab or a form feed, and no other white space
abbrev pub is_blank : ℕ → Bool
is_blank c = c == space || (c == tab || c == form_feed)

-- whether the text is empty
abbrev pub is_empty : List ℕ → Bool
is_empty [] = true
is_empty (c ∷ cs) = false

-- whether all characters of the text are blanks
abbrev pub is_blanks : List ℕ → Bool
is_blanks [] = true
is_blanks (c ∷ cs) = is_blank c && is_blanks cs

-- the text without the blanks at its front
abbrev pub without_leading_blanks : List ℕ → List ℕ
without_leading_blanks [] = []
without_leading_blanks (c ∷ cs) = if is_blank c then without_leading_blanks cs else c ∷ cs

-- whether the text begins with a character of this kind
abbrev pub begins : (ℕ → Bool) → List ℕ → Bool
begins kind [] = false
begins kind (c ∷ cs) = kind c

-- whether a character is a CR or an LF
abbrev pub is_line_ending : ℕ → Bool
is_line_ending c = c == line_feed || c == carriage_return

-- whether a character is a comment sign
abbrev pub is_comment_sign : ℕ → Bool
is_comment_sign c = c == number_sign || c == exclamation_mark

-- whether a character can separate a key from its value, with or without blanks around it
abbrev pub is_separator : ℕ → Bool
is_separator c = c == equals_sign || c == colon

-- What ends a line: an LF, a CR, or a CR and an LF together.
pub data LineEnding : Type 0 where
  lf : LineEnding
  cr : LineEnding
  crlf : LineEnding

-- the characters of a line ending
abbrev pub line_ending_text : LineEnding → List ℕ
line_ending_text lf = line_feed ∷ []
line_ending_text cr = carriage_return ∷ []
line_ending_text crlf = carriage_return ∷ line_feed ∷ []

-- ---- The pieces of a decoded text: some bytes, and the one character that they decode to.

-- some bytes, and the character that they decode to
pub record Piece : Type 0 where
  pub bytes : List ℕ
  pub character : ℕ

-- the piece with these bytes and this character
abbrev pub piece : List ℕ → ℕ → Piece
piece bytes character = record { bytes = bytes; character = character }

-- the characters of the pieces, in order
abbrev pub piece_characters : List Piece → List ℕ
piece_characters [] = []
piece_characters (p ∷ ps) = p.character ∷ piece_characters ps
