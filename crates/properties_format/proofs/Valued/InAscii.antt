-- With ASCII-only output on, what is printed for a value or for a pair is ASCII, and the same in every encoding.
use Rattle.std.proofs.Common.{rules, arith, ◌≡◌, ℕ, Bool, List, ◌++◌, sym, ◌∙◌, subst}
use Rattle.properties_format.specs.Text.{is_blanks}
use Rattle.properties_format.specs.Encoding.{Encoding, ascii_in}
use Rattle.properties_format.specs.Settings.{IsGoodSeparator}
use Rattle.properties_format.specs.Printing.{printed_key, encoded_text, printed_value}
use Rattle.properties_format.specs.Edited.{pair_bytes}
use Rattle.properties_format.specs.Valued.{value_text, new_pair_bytes}
use Rattle.properties_format.proofs.Printing.Characters.{AreAscii, AreAscii-append, encoded_text-ascii, good_separator-ascii}
use Rattle.properties_format.proofs.AsciiOnly.{printed_characters-ascii, printed_key-same, printed_key-ascii, printed_value-ascii, printed_value-same}

-- What follows the front of a pair is printed in ASCII.
pub value_text-ascii : (e : Encoding) (between value : List ℕ) → AreAscii (value_text (ascii_in e) between value)
value_text-ascii e between value = grind (arith, printed_value-ascii)

-- ---- bytes

-- The bytes of equal ASCII texts are equal in any two encodings.
pub encoded-same : (e f : Encoding) (x y : List ℕ) → AreAscii x → x ≡ y → encoded_text e x ≡ encoded_text f y
encoded-same e f x y h s = encoded_text-ascii e x h ∙ s ∙ sym (encoded_text-ascii f y (subst AreAscii s h))

-- An ASCII text has ASCII bytes.
pub encoded-in_ascii : (e : Encoding) (x : List ℕ) → AreAscii x → AreAscii (encoded_text e x)
encoded-in_ascii e x h = subst AreAscii (sym (encoded_text-ascii e x h)) h

-- So are its bytes.
pub pair_bytes-ascii : (e : Encoding) (first : Bool) (key value : List ℕ) → AreAscii (pair_bytes (ascii_in e) first key value)
pair_bytes-ascii e first key value = encoded-in_ascii e _ (search (rules, AreAscii-append, printed_key-ascii, printed_characters-ascii))

-- The bytes of a key by itself are the same in every encoding,
pub key_bytes-same : (e f : Encoding) (first : Bool) (key : List ℕ)
    → encoded_text e (printed_key (ascii_in e) first key) ≡ encoded_text f (printed_key (ascii_in f) first key)
key_bytes-same e f first key = encoded-same e f _ _ (printed_key-ascii e first key) (printed_key-same e f first key)

-- and those of a value.
pub value_bytes-same : (e f : Encoding) (after_blanks : Bool) (value : List ℕ)
    → encoded_text e (printed_value (ascii_in e) after_blanks value) ≡ encoded_text f (printed_value (ascii_in f) after_blanks value)
value_bytes-same e f after_blanks value = encoded-same e f _ _ (printed_value-ascii e after_blanks value) (printed_value-same e f after_blanks value)

-- The characters of a new pair with a good separator are ASCII.
new_pair-text_ascii : (e : Encoding) (first : Bool) (key separator value : List ℕ) → IsGoodSeparator separator
    → AreAscii (printed_key (ascii_in e) first key ++ (separator ++ printed_value (ascii_in e) (is_blanks separator) value))
new_pair-text_ascii e first key separator value g = search (AreAscii-append, printed_key-ascii, good_separator-ascii, printed_value-ascii)

-- So are its bytes, if its line ending is ASCII.
pub new_pair_bytes-ascii : (e : Encoding) (front key separator value ending : List ℕ) → IsGoodSeparator separator → AreAscii ending
    → AreAscii (new_pair_bytes (ascii_in e) front key separator value ending)
new_pair_bytes-ascii e front key separator value ending g h = search (AreAscii-append, encoded-in_ascii, new_pair-text_ascii)
