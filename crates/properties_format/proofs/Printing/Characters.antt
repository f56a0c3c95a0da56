-- How printed lines are put together. They contain only characters that can be encoded.
use Rattle.std.proofs.Common.{rules, ◌≡◌, ℕ, ◌/◌, ◌%◌, ◌<◌, ◌==◌, ◌||◌, ◌&&◌, Bool, true, false, cond, List, [], ◌∷◌, ◌++◌, refl, ap, ◌∙◌, append_assoc, arith, lit<, lt-ltb}
use Rattle.std.specs.Prelude.{Some, is_some, unwrap_or, nat_lt}
use Rattle.std.specs.Char.{digit_char}
use Rattle.std.proofs.lemmas.Bool.{cond_both, and_from, and_parts}
use Rattle.std.proofs.lemmas.Str.{encode_ascii}
use Rattle.properties_format.specs.Text.{scalar, line_ending_text, LineEnding, is_blank, is_separator, is_line_ending, space, backslash}
use Rattle.properties_format.specs.Encoding.{Encoding, windows_1252, utf_8, utf_16le, utf_16be, encoded, Repertoire, Characters, all_characters, latin_1_characters, ascii_characters, holds}
use Rattle.properties_format.specs.Settings.{repertoire_of, Settings, IsGoodSeparator}
use Rattle.properties_format.specs.Items.{Content, comment, pair}
use Rattle.properties_format.specs.Split.{AreBlanks}
use Rattle.properties_format.specs.Printing.{Place, in_key_or_value, in_comment, in_prefix, unit_escape, high_surrogate, low_surrogate, unicode_escape, may_be_unescaped, literal, is_special, letter_escape, has_letter, printed_character, printed_characters, encoded_text, is_bom_like, with_first_escaped, printed_key, is_free, printed_inside, printed_first, printed_rest, printed_value, written_value, printed_text, printed}
use Rattle.properties_format.proofs.Encodings.Windows1252.{windows_1252_byte-ascii}

-- ---- two texts, one after another

-- The bytes of two texts.
pub encoded_text-append : (e : Encoding) (x y : List ℕ) → encoded_text e (x ++ y) ≡ encoded_text e x ++ encoded_text e y
encoded_text-append e [] y = refl
encoded_text-append e (c ∷ x) y = simp (append_assoc, encoded_text-append e x y)

-- What is printed for two texts.
pub printed_characters-append : (r : Repertoire) (place : Place) (x y : List ℕ)
    → printed_characters r place (x ++ y) ≡ printed_characters r place x ++ printed_characters r place y
printed_characters-append r place [] y = refl
printed_characters-append r place (c ∷ x) y = simp (append_assoc, printed_characters-append r place x y)

-- ---- printed lines, by their parts

-- A comment: the bytes of the prefix, of the text and of the line ending.
pub printed-comment : (e : Encoding) (s : Settings) (first : Bool) (text : List ℕ)
    → printed e s first (comment text) ≡ encoded_text e (printed_characters (repertoire_of e s) in_prefix s.comment_prefix)
    ++ (encoded_text e (printed_characters (repertoire_of e s) in_comment text) ++ encoded_text e (line_ending_text s.line_ending))
printed-comment e s first text = search (rules, encoded_text-append)

-- A pair: the bytes of the key, of the separator, of the value and of the line ending.
pub printed-pair : (e : Encoding) (s : Settings) (first : Bool) (key value : List ℕ)
    → printed e s first (pair key value)
    ≡ encoded_text e (printed_key (repertoire_of e s) first key)
    ++ (encoded_text e s.kv_separator ++ (encoded_text e (written_value e s value) ++ encoded_text e (line_ending_text s.line_ending)))
printed-pair e s first key value = simp encoded_text-append

-- ---- characters that can be encoded

-- a scalar value is below 110000 hexadecimal
pub below-scalar : (c : ℕ) → scalar c → c < 0x11_0000
below-scalar c h = omega arith

-- each character of the text can be encoded
abbrev pub AreEncodable : Encoding → List ℕ → Type 0
AreEncodable e [] = Unit {0}
AreEncodable e (c ∷ cs) = (is_some (encoded e c) ≡ true) × AreEncodable e cs

-- Two texts that can be encoded can be encoded together.
pub AreEncodable-append : (e : Encoding) (x y : List ℕ) → AreEncodable e x → AreEncodable e y → AreEncodable e (x ++ y)
AreEncodable-append e [] y h k = k
AreEncodable-append e (c ∷ x) y h k = (h.0, AreEncodable-append e x y h.1 k)

-- An ASCII character is encoded as itself in every encoding.
pub encoded-ascii : (e : Encoding) (c : ℕ) → c < 0x80 → encoded e c ≡ Some (c ∷ [])
encoded-ascii e c h = grind (arith, windows_1252_byte-ascii, encode_ascii)

-- every character of the text is ASCII
abbrev pub AreAscii : List ℕ → Type 0
AreAscii [] = Unit {0}
AreAscii (c ∷ cs) = (c < 0x80) × AreAscii cs

-- Two ASCII texts together are ASCII.
pub AreAscii-append : (x y : List ℕ) → AreAscii x → AreAscii y → AreAscii (x ++ y)
AreAscii-append [] y h k = k
AreAscii-append (c ∷ x) y h k = (h.0, AreAscii-append x y h.1 k)

-- an ASCII text can be encoded
pub AreEncodable-ascii : (e : Encoding) (x : List ℕ) → AreAscii x → AreEncodable e x
AreEncodable-ascii e [] h = tt
AreEncodable-ascii e (c ∷ x) h = (ap is_some (encoded-ascii e c h.0), AreEncodable-ascii e x h.1)

-- an ASCII text is encoded as itself
pub encoded_text-ascii : (e : Encoding) (x : List ℕ) → AreAscii x → encoded_text e x ≡ x
encoded_text-ascii e [] h = refl
encoded_text-ascii e (c ∷ x) h = ap (λ o. unwrap_or o [] ++ encoded_text e x) (encoded-ascii e c h.0) ∙ ap (λ v. c ∷ v) (encoded_text-ascii e x h.1)

-- a line ending is an ASCII text
pub line_ending-ascii : (by : LineEnding) → AreAscii (line_ending_text by)
line_ending-ascii by = grind (arith)

-- ---- what is printed can be encoded

-- The digit of a remainder modulo 16 is an ASCII character.
digit_of-ascii : (n : ℕ) → digit_char (n % 0x10) < 0x80
digit_of-ascii n = search (rules, cond_both)

-- the escape of a unit is an ASCII text
unit_escape-ascii : (u : ℕ) → AreAscii (unit_escape u)
unit_escape-ascii u = (lit< tt, (lit< tt, (digit_of-ascii (u / 0x1000), (digit_of-ascii (u / 0x100), (digit_of-ascii (u / 0x10), (digit_of-ascii u, tt))))))

-- The escapes of a character are an ASCII text.
pub unicode_escape-ascii : (c : ℕ) → AreAscii (unicode_escape c)
unicode_escape-ascii c =
    cond_both (nat_lt c 0x1_0000) (unit_escape c) (unit_escape (high_surrogate c) ++ unit_escape (low_surrogate c)) AreAscii
    (λ k. unit_escape-ascii c)
    (λ k. AreAscii-append (unit_escape _) (unit_escape (low_surrogate c)) (unit_escape-ascii _) (unit_escape-ascii (low_surrogate c)))

-- A backslash with a letter is an ASCII text.
pub letter_escape-ascii : (c : ℕ) → AreAscii (letter_escape c)
letter_escape-ascii c = grind (arith)

-- A character that is escaped with a backslash is ASCII.
pub special-ascii : (c : ℕ) → is_special c ≡ true → c < 0x80
special-ascii c h = grind (arith)

-- Every set has the ASCII characters.
holds-ascii : (s : Characters) (e : Encoding) (c : ℕ) → c < 0x80 → holds s e c ≡ true
holds-ascii all_characters e c h = refl
holds-ascii latin_1_characters windows_1252 c h = grind (arith)
holds-ascii latin_1_characters utf_8 c h = lt-ltb c 0x80 h
holds-ascii latin_1_characters utf_16le c h = lt-ltb c 0x80 h
holds-ascii latin_1_characters utf_16be c h = lt-ltb c 0x80 h
holds-ascii ascii_characters e c h = lt-ltb c 0x80 h

-- Every ASCII character may be written unescaped.
pub may_be_unescaped-ascii : (r : Repertoire) (c : ℕ) → c < 0x80 → may_be_unescaped r c ≡ true
may_be_unescaped-ascii r c h = grind (arith, and_from, encoded-ascii, holds-ascii)

-- A character that is unescaped if that is allowed, and escaped otherwise, is printed as an ASCII text or as itself.
literal-either : (r : Repertoire) (c : ℕ) (P : List ℕ → Type 0) → ((x : List ℕ) → AreAscii x → P x) → (may_be_unescaped r c ≡ true → P (c ∷ []))
    → P (literal r c)
literal-either r c P ascii as_it_is = cond_both (may_be_unescaped r c) (c ∷ []) (unicode_escape c) P as_it_is (λ k. ascii (unicode_escape c) (unicode_escape-ascii c))

-- What is printed is an ASCII text; or it is the character itself, which may be written unescaped.
pub printed-either : (r : Repertoire) (place : Place) (c : ℕ) (P : List ℕ → Type 0) → ((x : List ℕ) → AreAscii x → P x)
    → (may_be_unescaped r c ≡ true → P (c ∷ [])) → P (printed_character r place c)
printed-either r in_key_or_value c P ascii as_it_is =
    cond_both (is_special c) (backslash ∷ c ∷ []) (cond (has_letter c) (letter_escape c) (cond (nat_lt c space) (unicode_escape c) (literal r c))) P
    (λ k. ascii (backslash ∷ c ∷ []) (lit< tt, (special-ascii c k, tt)))
    (λ k. cond_both (has_letter c) (letter_escape c) (cond (nat_lt c space) (unicode_escape c) (literal r c)) P
    (λ k. ascii (letter_escape c) (letter_escape-ascii c))
    (λ k. cond_both (nat_lt c space) (unicode_escape c) (literal r c) P
    (λ k. ascii (unicode_escape c) (unicode_escape-ascii c))
    (λ k. literal-either r c P ascii as_it_is)))
printed-either r in_comment c P ascii as_it_is =
    cond_both (c == backslash) (backslash ∷ backslash ∷ []) (cond (c == 0x0a || c == 0x0d) (letter_escape c) (literal r c)) P
    (λ k. ascii (backslash ∷ backslash ∷ []) (lit< tt, (lit< tt, tt)))
    (λ k. cond_both (c == 0x0a || c == 0x0d) (letter_escape c) (literal r c) P
    (λ k. ascii (letter_escape c) (letter_escape-ascii c))
    (λ k. literal-either r c P ascii as_it_is))
printed-either r in_prefix c P ascii as_it_is = literal-either r c P ascii as_it_is

-- what is printed for a character can be encoded
pub printed-encodable : (r : Repertoire) (place : Place) (c : ℕ) → AreEncodable r.encoding (printed_character r place c)
printed-encodable r place c = printed-either r place c (AreEncodable r.encoding) (AreEncodable-ascii r.encoding) (λ k. (search (rules, and_parts), tt))

-- What is printed for a text can be encoded.
pub printed_characters-encodable : (r : Repertoire) (place : Place) (x : List ℕ) → AreEncodable r.encoding (printed_characters r place x)
printed_characters-encodable r place [] = tt
printed_characters-encodable r place (c ∷ x) = grind (arith, AreEncodable-append, printed-encodable, printed_characters-encodable r place x)

-- A key with its first character escaped can be encoded.
with_first_escaped-encodable : (r : Repertoire) (key : List ℕ) → AreEncodable r.encoding (with_first_escaped r key)
with_first_escaped-encodable r [] = tt
with_first_escaped-encodable r (c ∷ cs) = search (rules, AreEncodable-append, AreEncodable-ascii, unicode_escape-ascii, printed_characters-encodable)

-- Any printed key can be encoded.
pub printed_key-encodable : (r : Repertoire) (first : Bool) (key : List ℕ) → AreEncodable r.encoding (printed_key r first key)
printed_key-encodable r first key =
    cond_both (first && is_bom_like r key) (with_first_escaped r key) (printed_characters r in_key_or_value key) (AreEncodable r.encoding)
    (λ k. with_first_escaped-encodable r key) (λ k. printed_characters-encodable r in_key_or_value key)

-- ---- values as people write them

-- A character that a value may have unescaped isn't a backslash or a line ending, and is ASCII.
pub free-plain : (c : ℕ) → is_free c ≡ true → ((c == backslash) ≡ false) × (is_line_ending c ≡ false) × (c < 0x80)
free-plain c h = (grind (arith), grind (arith), grind (arith))

-- A space and a separator are special.
pub first-special : (after_blanks : Bool) (c : ℕ) → (c == space || (after_blanks && is_separator c)) ≡ true → is_special c ≡ true
first-special after_blanks c h = grind (arith)

-- A character inside a value can be encoded,
pub inside-encodable : (r : Repertoire) (c : ℕ) → AreEncodable r.encoding (printed_inside r c)
inside-encodable r c =
    cond_both (is_free c) (c ∷ []) (printed_character r in_key_or_value c) (AreEncodable r.encoding)
    (λ k. AreEncodable-ascii r.encoding (c ∷ []) ((free-plain c k).2, tt)) (λ k. printed-encodable r in_key_or_value c)

-- and so can the first one,
first-encodable : (r : Repertoire) (after_blanks : Bool) (c : ℕ) → AreEncodable r.encoding (printed_first r after_blanks c)
first-encodable r after_blanks c =
    cond_both (c == space || (after_blanks && is_separator c)) (backslash ∷ c ∷ []) (printed_inside r c) (AreEncodable r.encoding)
    (λ k. AreEncodable-ascii r.encoding (backslash ∷ c ∷ []) (lit< tt, (special-ascii c (first-special after_blanks c k), tt))) (λ k. inside-encodable r c)

-- those after the first,
rest-encodable : (r : Repertoire) (cs : List ℕ) → AreEncodable r.encoding (printed_rest r cs)
rest-encodable r [] = tt
rest-encodable r (c ∷ []) = grind (arith, cond_both, AreEncodable-ascii, unicode_escape-ascii, inside-encodable)
rest-encodable r (c ∷ d ∷ cs) = AreEncodable-append r.encoding (printed_inside r c) (printed_rest r (d ∷ cs)) (inside-encodable r c) (rest-encodable r (d ∷ cs))

-- and the whole value.
pub printed_value-encodable : (r : Repertoire) (after_blanks : Bool) (value : List ℕ) → AreEncodable r.encoding (printed_value r after_blanks value)
printed_value-encodable r after_blanks value =
    grind (arith, cond_both, AreEncodable-ascii, unicode_escape-ascii, AreEncodable-append, first-encodable, rest-encodable)

-- A value can be encoded, readable or not.
pub written_value-encodable : (e : Encoding) (s : Settings) (value : List ℕ) → AreEncodable e (written_value e s value)
written_value-encodable e s value = grind (arith, cond_both, printed_value-encodable, printed_characters-encodable)

-- ---- whole lines

-- a blank is an ASCII character
pub blank-ascii : (c : ℕ) → is_blank c ≡ true → c < 0x80
blank-ascii c h = grind (arith)

-- blanks are an ASCII text
pub blanks-ascii : (x : List ℕ) → AreBlanks x → AreAscii x
blanks-ascii [] h = tt
blanks-ascii (c ∷ x) h = (blank-ascii c h.0, blanks-ascii x h.1)

-- A good separator is an ASCII text.
pub good_separator-ascii : (separator : List ℕ) → IsGoodSeparator separator → AreAscii separator
good_separator-ascii separator h = grind (arith, AreAscii-append, blanks-ascii)

-- A printed line can be encoded if its separator is good.
pub printed_text-encodable : (e : Encoding) (s : Settings) (first : Bool) (line : Content) → IsGoodSeparator s.kv_separator
    → AreEncodable e (printed_text e s first line)
printed_text-encodable e s first (comment text) g = grind (arith, AreEncodable-append, printed_characters-encodable)
printed_text-encodable e s first (pair key value) g =
    search (rules, AreEncodable-append, printed_key-encodable, AreEncodable-ascii, good_separator-ascii, written_value-encodable, line_ending-ascii)
