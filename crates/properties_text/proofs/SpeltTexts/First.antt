-- The first character of some bytes, in either encoding.
use Rattle.std.proofs.Common.{◌≡◌, ℕ, ◌-◌, ◌<◌, List, [], ◌∷◌, ◌++◌, length, take, drop, get_or, sym, ap, ap₂, ◌∙◌, subst, inl, inr, arith}
use Rattle.std.proofs.lemmas.Grind.{common_steps}
use Rattle.std.proofs.Math.Seq.{drop-append_seam}
use Rattle.std.specs.Prelude.{Option, Some, None, IsSome, unwrap_or}
use Rattle.std.specs.Option.{SomeIff}
use lib.Utf8.{encode, encodes, scalars, scalar}
use Rattle.std.specs.Char.{IsScalar, InScalarRange}
use Rattle.std.specs.Str.{IsUtf8, chars}
use Rattle.std.proofs.lemmas.Bool.{cases_lt, and_parts}
use Rattle.std.proofs.lemmas.Str.{encodes-chars, length-encode, len_utf8_bounds}
use Rattle.std.proofs.lemmas.List.{length-append}
use Rattle.properties_format.specs.Text.{scalar as is_scalar}
use Rattle.std.proofs.lemmas.Bool.Decides.{nat_tests}
use Rattle.properties_format.specs.Utf8.{sequence_character}
use Rattle.properties_format.specs.Windows1252.{windows_1252_character}
use Rattle.properties_format.specs.Computed.Cut.{windows_1252_characters}
use Rattle.properties_format.proofs.Encodings.Utf8Characters.{encode-one, encode-two, encode-three, encode-four, encode-is_sequence}
use Rattle.properties_format.proofs.Encodings.WellFormed.{scalar-from_char}
use Rattle.properties_format.proofs.Encodings.Windows1252.{windows_1252-ascii, windows_1252_character-ascii}
use Rattle.properties_text.specs.Escaping.{text_in, IsWell, length_by_first, IsFirst}
use Rattle.properties_text.specs.declared.encoding.line_encoding.LineEncoding.{LineEncoding}
use Rattle.properties_text.specs.declared.encoding.line_encoding.LineEncoding.TheVariants.{Windows1252, Utf8}
use Rattle.properties_text.specs.declared.encoding.line_encoding.ReadCharacter.{ReadCharacter}
use Rattle.properties_text.proofs.Texts.Characters.{character_and, first_ascii}

-- ---- UTF-8

-- The first byte of a character says how many there are.
length-of : (c : ℕ) (rest : List ℕ) → c < 0x11_0000 → length_by_first (get_or (encode c ++ rest) 0 0) ≡ length (encode c)
length-of c rest s = elim (cases_lt c 0x80) [
  | inl h ↦ rw (encode-one c h) (grind (arith, nat_tests))
  | inr l ↦ elim (cases_lt c 0x800) [
    | inl h ↦ rw (encode-two c l h) (grind (arith, nat_tests))
    | inr m ↦ elim (cases_lt c 0x1_0000) [
      | inl h ↦ rw (encode-three c m h) (grind (arith, nat_tests))
      | inr n ↦ rw (encode-four c n) (grind (arith, nat_tests))
    ]
  ]
]

-- The first byte and the others of a front.
bytes-of : (xs rest : List ℕ) → 0 < length xs → get_or (xs ++ rest) 0 0 ∷ take (length xs - 1) (drop 1 (xs ++ rest)) ≡ xs
bytes-of xs rest h = grind (arith, common_steps)

-- what is read of a character: its number, and its number of bytes
abbrev pub sequence_of : List ℕ → ℕ → ReadCharacter
sequence_of bs n = record { character = sequence_character (get_or bs 0 0 ∷ take (n - 1) (drop 1 bs)); length = n }

-- Bytes that begin with those of a character.
begins : (bs rest : List ℕ) (c n : ℕ) → IsUtf8 bs → IsScalar c → bs ≡ encode c ++ rest → n ≡ length_by_first (get_or bs 0 0)
    → IsFirst Utf8 bs (sequence_of bs n)
begins bs rest c n u s e is =
    let below : c < 0x11_0000 = (let h = scalar-from_char c s in omega arith) in
    let some : 0 < length (encode c) = omega (arith, length-encode c, len_utf8_bounds c) in
    let size : n ≡ length (encode c) = is ∙ ap (λ v. length_by_first (get_or v 0 0)) e ∙ length-of c rest below in
    let code : sequence_character (get_or bs 0 0 ∷ take (n - 1) (drop 1 bs)) ≡ c =
    rw (e, size, bytes-of (encode c) rest some) (sym (encode-is_sequence c (scalar-from_char c s)).1) in
    let left : drop n bs ≡ rest = ap₂ drop size e ∙ drop-append_seam (encode c) rest in
    let a = character_and bs rest c u e in
    record {
      some = omega (arith, size, some);
      within = omega (arith, size, ap length e, length-append (encode c) rest);
      scalar = subst IsScalar (sym code) s;
      is = a.characters ∙ ap₂ (λ x v. x ∷ chars v) (sym code) (sym left);
      well = subst IsUtf8 (sym left) a.utf8;
    }

-- The character of a number that is one.
pub the-character : (o : Option ℕ) (code : ℕ) → SomeIff o (IsScalar code) code → IsSome o → unwrap_or o 0xfffd ≡ code
the-character None code h some = absurd (cc)
the-character (Some c) code h some = h.1

-- Which numbers are characters, as std says it.
pub in-range : (code : ℕ) → is_scalar code → InScalarRange code
in-range code (inl h) = inl h
in-range code (inr h) = inr (h.0, omega (arith, h.1))

-- The character that the first byte announces.
pub utf_8-first : (bs : List ℕ) (n : ℕ) → IsUtf8 bs → 0 < length bs → n ≡ length_by_first (get_or bs 0 0) → IsFirst Utf8 bs (sequence_of bs n)
utf_8-first bs n ([], (h, w)) some is = absurd (omega (arith, some, ap length w))
utf_8-first bs n ((c ∷ cs), (h, w)) some is =
    begins bs (encodes cs) c n ((c ∷ cs), (h, w)) (and_parts (scalar c) (scalars cs) h).0 (sym w) is

-- ---- ASCII, in either

-- A byte is the ASCII character that it is in windows-1252.
pub own-byte : (b c : ℕ) → windows_1252_character b ≡ c → c < 128 → b ≡ c
own-byte b c e h = windows_1252-ascii b (omega (arith, e, h)) ∙ e

-- The bytes begin with so many that are these characters.
pub record IsAfter (e : LineEncoding) (bs front : List ℕ) (n : ℕ) : Type 0 where
  pub characters : text_in e bs ≡ front ++ text_in e (drop n bs)
  pub well : IsWell e (drop n bs)

-- An ASCII byte is a character.
pub ascii-first : (e : LineEncoding) (b : ℕ) (rest : List ℕ) → b < 128 → IsWell e (b ∷ rest) → IsAfter e (b ∷ rest) (b ∷ []) 1
ascii-first Windows1252 b rest h w = record { characters = ap (λ x. x ∷ windows_1252_characters rest) (windows_1252_character-ascii b h); well = tt }
ascii-first Utf8 b rest h w = let a = first_ascii b rest h w in record { characters = a.characters; well = a.utf8 }

first-byte : (e : LineEncoding) (bs : List ℕ) (c : ℕ) (rest : List ℕ) → IsWell e bs → text_in e bs ≡ c ∷ rest → c < 128 → (more : List ℕ) × (bs ≡ c ∷ more)
first-byte Windows1252 [] c rest w e h = absurd (cc)
first-byte Windows1252 (b ∷ bs) c rest w e h = (bs, ap (λ x. x ∷ bs) (own-byte b c (cc) h))
first-byte Utf8 bs c rest w e h = (encodes rest, sym (encodes-chars bs w) ∙ ap encodes e ∙ ap (λ v. v ++ encodes rest) (encode-one c h))

-- If the first character is ASCII, it is the first byte.
pub ascii-back : (e : LineEncoding) (bs : List ℕ) (c : ℕ) (rest : List ℕ) → IsWell e bs → text_in e bs ≡ c ∷ rest → c < 128
    → (more : List ℕ) × (bs ≡ c ∷ more) × IsWell e more × (text_in e more ≡ rest)
ascii-back e bs c rest w s h =
    let back = first-byte e bs c rest w s h in
    let after = ascii-first e c back.0 h (subst (IsWell e) back.1 w) in
    let same : c ∷ text_in e back.0 ≡ c ∷ rest = sym after.characters ∙ sym (ap (text_in e) back.1) ∙ s in
    (back.0, back.1, after.well, cc)
