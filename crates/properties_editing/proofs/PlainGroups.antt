-- The places of a group whose logical line is its bytes.
use Rattle.std.proofs.Common.{◌≡◌, ◌≤◌, ℕ, zero, suc, ◌+◌, ◌-◌, true, List, [], ◌∷◌, ◌++◌, length, take, drop, refl, ap, sym, ◌∙◌, arith, append_assoc, length-append}
use Rattle.std.specs.Str.{IsUtf8, chars, IsCharBoundary, all_scalars, encode_utf8_all}
use Rattle.std.specs.Char.{encode_utf8}
use Rattle.std.proofs.Math.Utf8 as std_utf8
use Rattle.std.proofs.lemmas.Bool.{and_parts}
use Rattle.std.proofs.lemmas.List.{take-append-drop, length-take-le, length-drop}
use Rattle.std.proofs.lemmas.Str.{chars-append, encodes-chars, scalars-chars, IsUtf8-take, IsUtf8-drop, length-le-encodes}
use Rattle.properties_format.specs.Text.{piece_characters}
use Rattle.properties_format.specs.Encoding.{Encoding, windows_1252, utf_8, utf_16le, utf_16be}
use Rattle.properties_format.specs.Edited.{is_editable}
use Rattle.properties_format.specs.Computed.Cut.{decoded_line}
use Rattle.properties_format.specs.Computed.Valued.{head_of, pieces_bytes}
use Rattle.properties_format.proofs.Body.Decoded.{decoded-nil}
use Rattle.properties_format.proofs.Encodings.Characters.{pieces_of-encoded}
use Rattle.properties_format.proofs.Encodings.Waiting.{pieces_of-step}
use Rattle.properties_format.proofs.Encodings.WellFormed.{scalar-from_char}

-- ---- a text that is its bytes

-- The characters of UTF-8 at the front are its bytes.
utf8-head : (cs y : List ℕ) → all_scalars cs ≡ true → head_of utf_8 (length cs) (encode_utf8_all cs ++ y) ≡ encode_utf8_all cs
utf8-head [] y h = refl
utf8-head (c ∷ cs) y h =
    let p = and_parts (std_utf8.scalar c) (all_scalars cs) h in
    ap (λ v. head_of utf_8 (suc (length cs)) v) (append_assoc (encode_utf8 c) (encode_utf8_all cs) y)
    ∙ ap (λ ps. pieces_bytes (take (suc (length cs)) ps)) (pieces_of-encoded utf_8 c (encode_utf8 c) (encode_utf8_all cs ++ y) (scalar-from_char c p.0) refl)
    ∙ ap (λ v. encode_utf8 c ++ v) (utf8-head cs y p.1)

-- In windows-1252 each byte is a character.
bytes-head : (n : ℕ) (d : List ℕ) → n ≤ length d → length (head_of windows_1252 n d) ≡ n
bytes-head zero d l = refl
bytes-head (suc n) [] l = absurd (omega arith)
bytes-head (suc n) (b ∷ d) l =
    let step = pieces_of-step windows_1252 b d in
    ap (λ ps. length (pieces_bytes (take (suc n) ps))) step ∙ ap suc (bytes-head n d (omega arith))

bytes-count : (d : List ℕ) → length (decoded_line windows_1252 d) ≡ length d
bytes-count [] = ap length (decoded-nil windows_1252)
bytes-count (b ∷ d) = ap (λ ps. length (piece_characters ps)) (pieces_of-step windows_1252 b d) ∙ ap suc (bytes-count d)

few-chars : (x : List ℕ) → IsUtf8 x → length (chars x) ≤ length x
few-chars x u = let l = length-le-encodes (chars x) in let s : length (encode_utf8_all (chars x)) ≡ length x = ap length (encodes-chars x u) in omega arith

-- The characters of a text that is cut where a character begins.
pub cut-counts : (x : List ℕ) (at : ℕ) → IsUtf8 x → IsCharBoundary x at
    → length (chars x) ≡ length (chars (take at x)) + length (chars (drop at x))
cut-counts x at u b =
    ap length (ap chars (sym (take-append-drop at x)) ∙ chars-append (take at x) (drop at x) (IsUtf8-take x at u b))
    ∙ length-append (chars (take at x)) (chars (drop at x))

-- Where bytes are UTF-8 of what they decode to, as many characters as there are before a position end there.
pub plain-head : (e : Encoding) (d : List ℕ) (at : ℕ) → is_editable e ≡ true → IsUtf8 d → IsCharBoundary d at → at ≤ length d → chars d ≡ decoded_line e d
    → length (head_of e (length (chars (take at d))) d) ≡ at
plain-head utf_8 d at ok u b l same =
    let front = IsUtf8-take d at u b in
    let cs = chars (take at d) in
    let is : encode_utf8_all cs ≡ take at d = encodes-chars (take at d) front in
    let whole : d ≡ encode_utf8_all cs ++ drop at d = sym (take-append-drop at d) ∙ ap (λ v. v ++ drop at d) (sym is) in
    ap length (ap (head_of utf_8 (length cs)) whole ∙ utf8-head cs (drop at d) (scalars-chars (take at d) front) ∙ is) ∙ length-take-le at d l
plain-head windows_1252 d at ok u b l same =
    let front = few-chars (take at d) (IsUtf8-take d at u b) in
    let back = few-chars (drop at d) (IsUtf8-drop d at u b) in
    let parts = cut-counts d at u b in
    let all : length (chars d) ≡ length d = ap length same ∙ bytes-count d in
    let a : length (take at d) ≡ at = length-take-le at d l in
    let c : length (drop at d) ≡ length d - at = length-drop at d in
    bytes-head (length (chars (take at d))) d (omega arith) ∙ omega arith
plain-head utf_16le d at ok u b l same = absurd (cc)
plain-head utf_16be d at ok u b l same = absurd (cc)
