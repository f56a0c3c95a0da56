-- Bytes that are well-formed UTF-8 are the UTF-8 text of their pieces.
use Rattle.std.proofs.Common.{◌≡◌, ℕ, ◌<◌, true, List, [], ◌∷◌, ◌++◌, refl, sym, ap, ap₂, ◌∙◌, append_assoc, arith}
use Rattle.std.specs.Char.{IsScalar, encode_utf8}
use Rattle.std.specs.Str.{IsUtf8, IsAscii, chars, all_scalars, encode_utf8_all}
use Rattle.std.proofs.Math.Utf8 as std_utf8
use Rattle.std.proofs.lemmas.Bool.{and_parts, and_from}
use Rattle.std.proofs.lemmas.Str.{chars-encodes, chars-IsAscii}
use Rattle.std.proofs.lemmas.Str.Ascii.{All-from_ascii}
use Rattle.std.proofs.lemmas.List.Elements.{recursion_from_All}
use Rattle.std.specs.List.{AllByRecursion}
use Rattle.properties_format.specs.Text.{scalar, piece_characters}
use Rattle.properties_format.specs.Utf8.{AreSequences, IsWellFormedText, sequence_character}
use Rattle.properties_format.specs.Encoding.{windows_1252, utf_8}
use Rattle.properties_format.specs.Computed.Encoding.{pieces_of}
use Rattle.properties_format.proofs.Encodings.Utf8Sequences.{sequence-scalar}
use Rattle.properties_format.proofs.Encodings.Utf8Inverse.{encode-sequence}
use Rattle.properties_format.proofs.Encodings.Utf8Characters.{encode-is_sequence}
use Rattle.properties_format.proofs.Encodings.Characters.{pieces_of-encoded, pieces_of-ascii}

-- The code point of a `char` is a scalar value.
pub scalar-from_char : (c : ℕ) → IsScalar c → scalar c
scalar-from_char c h = std_utf8.scalar_cases c h

-- A scalar value is the code point of a `char`.
pub char-from_scalar : (c : ℕ) → scalar c → IsScalar c
char-from_scalar c h = grind (arith)

-- Well-formed sequences are the UTF-8 of their characters.
sequences-utf8 : (d : List ℕ) (sequences : List (List ℕ)) → AreSequences d sequences → IsUtf8 d
sequences-utf8 d [] h = ([], (refl, sym h))
sequences-utf8 d (bs ∷ more) (rest, s, h, k) =
    let u = sequences-utf8 rest more k in
    let c : ℕ = sequence_character bs in
    let scalars = and_from (std_utf8.scalar c) (all_scalars u.0) (char-from_scalar c (sequence-scalar bs h)) u.1.0 in
    (c ∷ u.0, (scalars, ap₂ (λ v w. v ++ w) (encode-sequence bs h) u.1.1 ∙ sym s))

-- Well-formed bytes are UTF-8.
pub IsUtf8-from_well_formed : (d : List ℕ) → IsWellFormedText d → IsUtf8 d
IsUtf8-from_well_formed d (sequences, h) = sequences-utf8 d sequences h

-- The UTF-8 of some characters is a well-formed sequence for each of them.
utf8-sequences : (d cs : List ℕ) → all_scalars cs ≡ true → encode_utf8_all cs ≡ d → IsWellFormedText d
utf8-sequences d [] h e = ([], sym e)
utf8-sequences d (c ∷ cs) h e =
    let p = and_parts (std_utf8.scalar c) (all_scalars cs) h in
    let w = utf8-sequences (encode_utf8_all cs) cs p.1 refl in
    (encode_utf8 c ∷ w.0, (encode_utf8_all cs, sym e, (encode-is_sequence c (scalar-from_char c p.0)).0, w.1))

-- Bytes that are UTF-8 are well-formed.
pub well_formed-from_IsUtf8 : (d : List ℕ) → IsUtf8 d → IsWellFormedText d
well_formed-from_IsUtf8 d (cs, h) = utf8-sequences d cs h.0 h.1

-- Encoded characters at the front decode to themselves, whatever follows.
encoded-front : (cs y : List ℕ) → all_scalars cs ≡ true → piece_characters (pieces_of utf_8 (encode_utf8_all cs ++ y)) ≡ cs ++ piece_characters (pieces_of utf_8 y)
encoded-front [] y h = refl
encoded-front (c ∷ cs) y h =
    let p = and_parts (std_utf8.scalar c) (all_scalars cs) h in
    ap (λ v. piece_characters (pieces_of utf_8 v)) (append_assoc (encode_utf8 c) (encode_utf8_all cs) y)
    ∙ ap piece_characters (pieces_of-encoded utf_8 c (encode_utf8 c) (encode_utf8_all cs ++ y) (scalar-from_char c p.0) refl)
    ∙ ap (λ v. c ∷ v) (encoded-front cs y p.1)

-- A text at the front decodes to its characters, whatever follows.
pub characters-text : (x y : List ℕ) → IsUtf8 x → piece_characters (pieces_of utf_8 (x ++ y)) ≡ chars x ++ piece_characters (pieces_of utf_8 y)
characters-text x y (cs, h) = cc (encoded-front cs y h.0, chars-encodes cs h.0)

-- ---- ASCII, which is the same in windows-1252 and UTF-8.

-- ASCII bytes at the front decode to themselves, whatever follows.
ascii-front : (x y : List ℕ) → AllByRecursion (λ b. b < 0x80) x → piece_characters (pieces_of windows_1252 (x ++ y)) ≡ x ++ piece_characters (pieces_of windows_1252 y)
ascii-front [] y h = refl
ascii-front (b ∷ x) y h = ap piece_characters (pieces_of-ascii windows_1252 b (x ++ y) h.0) ∙ ap (λ v. b ∷ v) (ascii-front x y h.1)

-- ASCII at the front decodes to itself, whatever follows.
pub characters-ascii : (x y : List ℕ) → IsAscii x → piece_characters (pieces_of windows_1252 (x ++ y)) ≡ chars x ++ piece_characters (pieces_of windows_1252 y)
characters-ascii x y h = simp (ascii-front, recursion_from_All, All-from_ascii, chars-IsAscii)
