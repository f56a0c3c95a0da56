-- What is printed for a character and for a text.
use Rattle.std.proofs.Common.{◌≡◌, ℕ, ◌≤◌, List, [], ◌∷◌, ◌++◌, refl, sym, ap, ◌∙◌, append_assoc, append-nil, le-ltb}
use Rattle.std.specs.Prelude.{encode_utf8_all}
use Rattle.std.specs.Str.{chars, IsUtf8}
use Rattle.std.proofs.lemmas.Str.{encodes-chars, encode_ascii}
use Rattle.properties_format.specs.Encoding.{Encoding, Repertoire}
use Rattle.properties_format.specs.Printing.{Place, unit_escape, high_surrogate, low_surrogate, unicode_escape, printed_character, printed_characters, encoded_text}
use Rattle.properties_format.proofs.Printing.Characters.{encoded_text-append, printed_characters-append, AreAscii, encoded_text-ascii, unicode_escape-ascii}

-- An escape encodes as itself.
pub encoded_escape : (e : Encoding) (c : ℕ) → encoded_text e (unicode_escape c) ≡ unicode_escape c
encoded_escape e c = encoded_text-ascii e (unicode_escape c) (unicode_escape-ascii c)

-- Above U+FFFF, an escape is two.
pub escape_wide : (c : ℕ) (before at : List ℕ) → 0x1_0000 ≤ c → at ≡ before ++ unit_escape (high_surrogate c)
    → before ++ unicode_escape c ≡ at ++ unit_escape (low_surrogate c)
escape_wide c before at h k =
    rw (le-ltb c 0x1_0000 h, ← append_assoc before (unit_escape (high_surrogate c)) (unit_escape (low_surrogate c)), ← k) refl

-- One more character is printed.
pub printed_more : (r : Repertoire) (place : Place) (before xs : List ℕ) (c : ℕ)
    → (before ++ encoded_text r.encoding (printed_characters r place xs)) ++ encoded_text r.encoding (printed_character r place c) ≡ before ++ encoded_text
    r.encoding
    (printed_characters r place (xs ++ c ∷ []))
printed_more r place before xs c = simp (append_assoc, printed_characters-append r place, append-nil, encoded_text-append r.encoding)

-- The escape of the first character, and the text after it.
pub first_escaped_more : (r : Repertoire) (place : Place) (before cs : List ℕ) (c : ℕ)
    → (before ++ unicode_escape c) ++ encoded_text r.encoding (printed_characters r place cs) ≡ before ++ encoded_text r.encoding
    (unicode_escape c ++ printed_characters r place cs)
first_escaped_more r place before cs c = simp (append_assoc, encoded_text-append r.encoding, encoded_escape r.encoding)

-- ---- texts appended without escapes

encodes-ascii : (cs : List ℕ) → AreAscii cs → encode_utf8_all cs ≡ cs
encodes-ascii [] h = refl
encodes-ascii (c ∷ cs) h = ap (λ v. v ++ encode_utf8_all cs) (encode_ascii c h.0) ∙ ap (λ v. c ∷ v) (encodes-ascii cs h.1)

-- A text of ASCII characters has the same bytes in every output encoding.
pub encoded_text-raw : (e : Encoding) (bs : List ℕ) → IsUtf8 bs → AreAscii (chars bs) → encoded_text e (chars bs) ≡ bs
encoded_text-raw e bs u h = encoded_text-ascii e (chars bs) h ∙ sym (encodes-ascii (chars bs) h) ∙ encodes-chars bs u
