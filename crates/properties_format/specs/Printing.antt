-- How a line is printed: each character by itself, and the line from its parts.
-- Source: java.util.Properties of Java SE 7, store; a character that the encoding doesn't have is written as store
-- writes it, by `\u` and four hexadecimal digits for each of its UTF-16 units (The Unicode Standard, section 3.9, D91).
use Rattle.std.specs.Prelude.{ℕ, ◌+◌, ◌-◌, ◌/◌, ◌%◌, ◌==◌, ◌&&◌, ◌||◌, nat_lt, Bool, if◌then◌else◌, List, [], ◌∷◌, ◌++◌, is_some, unwrap_or}
use Rattle.std.specs.Char.{digit_char}
use Rattle.properties_format.specs.Text.{line_ending_text, tab, line_feed, form_feed, carriage_return, space, backslash, is_empty, is_blanks, is_comment_sign, is_separator}
use Rattle.properties_format.specs.Encoding.{Encoding, encoded, begins_like_bom, Repertoire, holds}
use Rattle.properties_format.specs.Settings.{repertoire_of, Settings}
use Rattle.properties_format.specs.Items.{Content, comment, pair}

-- which part of a printed line a character belongs to
pub data Place : Type 0 where
  in_key_or_value : Place
  in_comment : Place
  in_prefix : Place

-- `\u` and the four hexadecimal digits, in lower case, of a UTF-16 unit
abbrev pub unit_escape : ℕ → List ℕ
unit_escape u = backslash ∷ 0x75 ∷ digit_char (u / 0x1000 % 0x10) ∷ digit_char (u / 0x100 % 0x10) ∷ digit_char (u / 0x10 % 0x10) ∷ digit_char (u % 0x10) ∷ []

-- the high and the low surrogate of a character above U+FFFF
abbrev pub high_surrogate : ℕ → ℕ
high_surrogate c = 0xd800 + (c - 0x1_0000) / 0x400

abbrev pub low_surrogate : ℕ → ℕ
low_surrogate c = 0xdc00 + (c - 0x1_0000) % 0x400

-- a character as one `\u` escape, or as two above U+FFFF
abbrev pub unicode_escape : ℕ → List ℕ
unicode_escape c = if nat_lt c 0x1_0000 then unit_escape c else unit_escape (high_surrogate c) ++ unit_escape (low_surrogate c)

-- whether a character may be written unescaped: the encoding has it, and so does the set of the repertoire
abbrev pub may_be_unescaped : Repertoire → ℕ → Bool
may_be_unescaped r c = holds r.characters r.encoding c && is_some (encoded r.encoding c)

-- the character unescaped if that is allowed, otherwise escaped
abbrev pub literal : Repertoire → ℕ → List ℕ
literal r c = if may_be_unescaped r c then c ∷ [] else unicode_escape c

-- whether a character has a special meaning in a key or a value, and so is escaped by a backslash
abbrev pub is_special : ℕ → Bool
is_special c = c == backslash || (c == space || (is_separator c || is_comment_sign c))

-- the escapes `\t`, `\n`, `\f` and `\r`
abbrev pub letter_escape : ℕ → List ℕ
letter_escape c =
    backslash ∷ (if c == tab then 0x74 else (if c == line_feed then 0x6e else (if c == form_feed then 0x66 else 0x72))) ∷ []

abbrev pub has_letter : ℕ → Bool
has_letter c = (c == tab || c == line_feed) || (c == form_feed || c == carriage_return)

-- How a character is printed. In a key or a value, the characters with a special meaning and everything below the space
-- are escaped; in a comment, the backslash and the line endings are. Everywhere, a character that the encoding doesn't
-- have is escaped, and if only ASCII may stand unescaped, so is every character above U+007F.
abbrev pub printed_character : Repertoire → Place → ℕ → List ℕ
printed_character r in_key_or_value c =
    if is_special c then backslash ∷ c ∷ [] else (if has_letter c then letter_escape c else (if nat_lt c space then unicode_escape c else literal r c))
printed_character r in_comment c =
    if c == backslash then backslash ∷ backslash ∷ [] else (if c == line_feed || c == carriage_return then letter_escape c else literal r c)
printed_character r in_prefix c = literal r c

-- a text, character by character
abbrev pub printed_characters : Repertoire → Place → List ℕ → List ℕ
printed_characters r place [] = []
printed_characters r place (c ∷ cs) = printed_character r place c ++ printed_characters r place cs

-- ---- A value as people write it.

-- whether a value may have this character unescaped, except at its ends: a space, a separator or a comment sign
abbrev pub is_free : ℕ → Bool
is_free c = c == space || (is_separator c || is_comment_sign c)

-- a character inside a value: unescaped if it is one of these, otherwise as a writer prints it
abbrev pub printed_inside : Repertoire → ℕ → List ℕ
printed_inside r c = if is_free c then c ∷ [] else printed_character r in_key_or_value c

-- the first character: a space is escaped by a backslash, and after blanks only, so is a separator
abbrev pub printed_first : Repertoire → Bool → ℕ → List ℕ
printed_first r after_blanks c = if c == space || (after_blanks && is_separator c) then backslash ∷ c ∷ [] else printed_inside r c

-- the last character: a space is `\u0020`, which survives editors that trim lines
abbrev pub printed_last : Repertoire → ℕ → List ℕ
printed_last r c = if c == space then unit_escape space else printed_inside r c

-- the characters after the first; the last of them is printed as the last character
abbrev pub printed_rest : Repertoire → List ℕ → List ℕ
printed_rest r [] = []
printed_rest r (c ∷ []) = printed_last r c
printed_rest r (c ∷ d ∷ cs) = printed_inside r c ++ printed_rest r (d ∷ cs)

-- a value, after blanks only or after a separator
abbrev pub printed_value : Repertoire → Bool → List ℕ → List ℕ
printed_value r after_blanks [] = []
printed_value r after_blanks (c ∷ cs) = if is_empty cs && c == space then unit_escape space else printed_first r after_blanks c ++ printed_rest r cs

-- ---- A line.

-- the bytes of a text whose characters the encoding has
abbrev pub encoded_text : Encoding → List ℕ → List ℕ
encoded_text e [] = []
encoded_text e (c ∷ cs) = unwrap_or (encoded e c) [] ++ encoded_text e cs

-- whether the key's bytes would be taken for a byte order mark at the front of an input
abbrev pub is_bom_like : Repertoire → List ℕ → Bool
is_bom_like r key = begins_like_bom (encoded_text r.encoding (printed_characters r in_key_or_value key))

-- a key with its first character escaped
abbrev pub with_first_escaped : Repertoire → List ℕ → List ℕ
with_first_escaped r [] = []
with_first_escaped r (c ∷ cs) = unicode_escape c ++ printed_characters r in_key_or_value cs

-- the key on the first line that is written, or on another line: on the first, a key that begins like a byte order mark
-- has its first character escaped
abbrev pub printed_key : Repertoire → Bool → List ℕ → List ℕ
printed_key r first key = if first && is_bom_like r key then with_first_escaped r key else printed_characters r in_key_or_value key

-- the value of a pair under these settings: if readable output is on, as people write it, given whether the separator is
-- blanks only; otherwise character by character
abbrev pub written_value : Encoding → Settings → List ℕ → List ℕ
written_value e s value = if s.readable then printed_value (repertoire_of e s) (is_blanks s.kv_separator) value else printed_characters (repertoire_of e s) in_key_or_value value

-- the characters of a printed line: prefix, text and line ending; or key, separator, value and line ending
abbrev pub printed_text : Encoding → Settings → Bool → Content → List ℕ
printed_text e s first (comment text) = printed_characters (repertoire_of e s) in_prefix s.comment_prefix ++ (printed_characters (repertoire_of e s) in_comment text ++ line_ending_text s.line_ending)
printed_text e s first (pair key value) = printed_key (repertoire_of e s) first key ++ (s.kv_separator ++ (written_value e s value ++ line_ending_text s.line_ending))

-- the bytes of a printed line
abbrev pub printed : Encoding → Settings → Bool → Content → List ℕ
printed e s first line = encoded_text e (printed_text e s first line)
