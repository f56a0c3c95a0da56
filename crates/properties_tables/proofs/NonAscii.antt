-- Whether a line has a character that isn't ASCII, told by its bytes.
use Rattle.std.proofs.Common.{◌≡◌, ◌≢◌, ◌⊎◌, ℕ, ◌<◌, true, false, List, [], ◌∷◌, ◌++◌, zero, suc, refl, sym, ap, subst, ◌∙◌, inl, inr, arith, ltb-true}
use Rattle.std.specs.{Prelude.not, Prelude.nat_lt, Prelude.nat_le, Str.IsAscii}
use Rattle.std.proofs.lemmas.Bool.{cases_Bool, and_parts, or_from, or_parts}
use Rattle.properties_format.specs.{Text.Piece, Text.piece_characters, Utf16.low_first, Utf16.high_first, Computed.Cut.decoded_line}
use Rattle.properties_format.specs.Computed.Encoding.{pieces_of}
use Rattle.properties_format.specs.Encoding.{Encoding, windows_1252, utf_8, utf_16le, utf_16be, ascii_bytes, IsPieces}
use Rattle.properties_format.proofs.{Encodings.Characters.pieces_of-ascii, Encodings.Characters.piece-ascii, Encodings.Pieces.pieces_of-meets}
use Rattle.properties_format.proofs.Encodings.Pieces.{pieces_of-nil}
use Rattle.properties_text.specs.Encoding.{encoding_of}
use Rattle.properties_text.specs.declared.encoding.Encoding as code
use Rattle.properties_text.specs.declared.encoding.Encoding.TheVariants.{WINDOWS_1252, UTF_8, UTF_16LE, UTF_16BE}
use Rattle.properties_lines.specs.{LineSearch.unit_size, Scanner.raw_line_bytes, declared.scanner.RawLine.RawLine}
use Rattle.properties_tables.specs.Lines.{holds_non_ascii}
use Rattle.properties_tables.specs.Private.Flawed.{are_ascii, is_ascii, unit_at, IsFoundLine}

-- an ASCII character isn't another one
within : (c : ℕ) → c < 0x80 → nat_le 0x80 c ≡ false
within c h = grind (arith)

-- An ASCII character at the front of some bytes makes no difference.
decoded-past : (e : Encoding) (c : ℕ) (y : List ℕ) → c < 0x80
    → holds_non_ascii (decoded_line e (ascii_bytes e c ++ y)) ≡ holds_non_ascii (decoded_line e y)
decoded-past e c y h = rw (pieces_of-ascii e c y h, within c h) refl

told-past : (e : Encoding) (c : ℕ) (y : List ℕ) → c < 0x80 → is_ascii e (ascii_bytes e c ++ y) ≡ is_ascii e y
told-past windows_1252 c y h = rw (within c h) refl
told-past utf_8 c y h = rw (within c h) refl
told-past utf_16le c y h = let k : nat_lt (low_first c 0) 0x80 ≡ true = grind (arith) in rw k refl
told-past utf_16be c y h = let k : nat_lt (high_first 0 c) 0x80 ≡ true = grind (arith) in rw k refl

pub told-nothing : (e : Encoding) → is_ascii e [] ≡ true
told-nothing windows_1252 = refl
told-nothing utf_8 = refl
told-nothing utf_16le = refl
told-nothing utf_16be = refl

-- Where all characters are ASCII, the bytes tell it;
pieces-told : (e : Encoding) (d : List ℕ) (ps : List Piece) → IsPieces e d ps → holds_non_ascii (piece_characters ps) ≡ false → is_ascii e d ≡ true
pieces-told e d [] h none = rw h (told-nothing e)
pieces-told e d (p ∷ ps) (rest, is, one, others) none =
    let parts = or_parts (nat_le 0x80 p.character) (holds_non_ascii (piece_characters ps)) none in
    let ascii : p.character < 0x80 = grind (arith, parts.0) in
    let bytes = piece-ascii e p rest one ascii in
    rw (is, bytes) (told-past e p.character rest ascii ∙ pieces-told e rest ps others parts.1)

-- and where the bytes tell it, all characters are ASCII.
bytes-told : (e : Encoding) → ((c : ℕ) → ascii_bytes e c ≡ c ∷ []) → (d : List ℕ) → not (holds_non_ascii d) ≡ true
    → holds_non_ascii (decoded_line e d) ≡ false
bytes-told e one [] h = rw (pieces_of-nil e) refl
bytes-told e one (b ∷ d) h =
    let ascii : b < 0x80 = grind (arith, h) in
    let later : not (holds_non_ascii d) ≡ true = (let k = rw (within b ascii) at h in k) in
    subst (λ v. holds_non_ascii (decoded_line e (v ++ d)) ≡ false) (one b) (decoded-past e b d ascii ∙ bytes-told e one d later)

units-told : (e : Encoding) (unit : ℕ → ℕ → ℕ) → ((a b : ℕ) → unit a b < 0x80 → a ∷ b ∷ [] ≡ ascii_bytes e (unit a b))
    → (d : List ℕ) → are_ascii unit d ≡ true
    → holds_non_ascii (decoded_line e d) ≡ false
units-told e unit two [] h = rw (pieces_of-nil e) refl
units-told e unit two (a ∷ []) h = absurd (cc)
units-told e unit two (a ∷ b ∷ d) h =
    let parts = and_parts (nat_lt (unit a b) 0x80) (are_ascii unit d) h in
    let ascii = ltb-true (unit a b) 0x80 parts.0 in
    subst (λ v. holds_non_ascii (decoded_line e (v ++ d)) ≡ false) (sym (two a b ascii))
    (decoded-past e (unit a b) d ascii ∙ units-told e unit two d parts.1)

told : (e : Encoding) (d : List ℕ) → is_ascii e d ≡ true → holds_non_ascii (decoded_line e d) ≡ false
told windows_1252 d h = bytes-told windows_1252 (λ c. refl) d h
told utf_8 d h = bytes-told utf_8 (λ c. refl) d h
told utf_16le d h = units-told utf_16le low_first (λ a b k. grind (arith)) d h
told utf_16be d h = units-told utf_16be high_first (λ a b k. grind (arith)) d h

-- So the bytes tell it.
pub tells-ascii : (e : Encoding) (d : List ℕ) → holds_non_ascii (decoded_line e d) ≡ not (is_ascii e d)
tells-ascii e d = elim (cases_Bool (holds_non_ascii (decoded_line e d))) [
  | inl k ↦ elim (cases_Bool (is_ascii e d)) [ inl t ↦ absurd (let none = told e d t in cc) | inr t ↦ k ∙ sym (ap not t) ]
  | inr k ↦ k ∙ sym (ap not (pieces-told e d (pieces_of e d) (pieces_of-meets e d) k))
]

-- ---- a line that was found

-- where units are bytes, its flag tells it
none-beyond : (bytes : List ℕ) → IsAscii bytes → holds_non_ascii bytes ≡ false
none-beyond [] h = refl
none-beyond (b ∷ bs) h = or_from (nat_le 0x80 b) (holds_non_ascii bs) (within b (h 0)) (none-beyond bs (λ i. h (suc i)))

all-within : (bytes : List ℕ) → holds_non_ascii bytes ≡ false → IsAscii bytes
all-within [] h i = omega arith
all-within (b ∷ bs) h zero = let parts = or_parts (nat_le 0x80 b) (holds_non_ascii bs) h in grind (arith, parts.0)
all-within (b ∷ bs) h (suc n) = all-within bs (or_parts (nat_le 0x80 b) (holds_non_ascii bs) h).1 n

flag-tells : {e : Encoding} {body : List ℕ} (line : RawLine) → IsFoundLine e body line → unit_size e ≡ 1
    → line.is_ascii ≡ not (holds_non_ascii (raw_line_bytes body line))
flag-tells {e} {body} line h single = elim (cases_Bool line.is_ascii) [
  | inl k ↦ k ∙ sym (ap not (none-beyond (raw_line_bytes body line) (h.flags.ascii.0 k).1))
  | inr k ↦ elim (cases_Bool (holds_non_ascii (raw_line_bytes body line))) [
    | inl t ↦ k ∙ sym (ap not t)
    | inr t ↦ absurd (let flag = h.flags.ascii.1 (single, all-within (raw_line_bytes body line) t) in cc)
  ]
]

pub one-byte-told : (f : code.Encoding) {body : List ℕ} (line : RawLine) → IsFoundLine (encoding_of f) body line → (f ≡ WINDOWS_1252) ⊎ (f ≡ UTF_8)
    → line.is_ascii ≡ is_ascii (encoding_of f) (raw_line_bytes body line)
one-byte-told f line h (inl is) = rw is (flag-tells {e = windows_1252} line (rw is at h) refl)
one-byte-told f line h (inr is) = rw is (flag-tells {e = utf_8} line (rw is at h) refl)

-- what is neither windows-1252 nor UTF-8 is UTF-16
pub utf_16-told : (f : code.Encoding) (bytes : List ℕ) → f ≢ WINDOWS_1252 → f ≢ UTF_8
    → are_ascii (unit_at (encoding_of f)) bytes ≡ is_ascii (encoding_of f) bytes
utf_16-told WINDOWS_1252 bytes h k = absurd (h refl)
utf_16-told UTF_8 bytes h k = absurd (k refl)
utf_16-told UTF_16LE bytes h k = refl
utf_16-told UTF_16BE bytes h k = refl
