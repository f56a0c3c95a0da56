-- How the bytes of a character relate to it: an ASCII character is its own byte, and no other byte is ASCII.
use Rattle.std.proofs.Common.{◌≡◌, ℕ, ◌<◌, ◌≤◌, ◌==◌, true, false, List, [], ◌∷◌, ◌++◌, length, refl, ap, sym, ◌∙◌, inl, inr, arith}
use lib.Utf8.{encode, encodes, scalars, scalar}
use Rattle.std.specs.Str.{IsUtf8, chars}
use Rattle.std.proofs.lemmas.Str.{chars-encodes, chars_past_char, encodes-chars, length-le-encodes, IsUtf8-past_char}
use Rattle.std.proofs.lemmas.Bool.Decides.{nat_tests}
use Rattle.std.proofs.lemmas.Bool.{cases_lt, and_parts, and_from, ne_eqb}
use Rattle.properties_format.specs.Text.{backslash, is_blank, is_separator, is_comment_sign, is_empty}
use Rattle.properties_format.specs.Computed.Split.{ends_key}
use Rattle.properties_format.proofs.Encodings.Utf8Characters.{encode-one, encode-two, encode-three, encode-four}

-- ---- bytes that are not ASCII

abbrev pub AreWide : List ℕ → Type 0
AreWide [] = Unit {0}
AreWide (b ∷ bs) = (128 ≤ b) × AreWide bs

abbrev pub AreInside : List ℕ → Type 0
AreInside [] = Unit {0}
AreInside (b ∷ bs) = (b < 192) × AreInside bs

-- A character is its own byte, or all of its bytes are non-ASCII, those after the first below C0.
pub data IsEncoded (c : ℕ) (bytes : List ℕ) : Type 0 where
  one : c < 128 → bytes ≡ c ∷ [] → IsEncoded c bytes
  wide : 128 ≤ c → (b : ℕ) (bs : List ℕ) → bytes ≡ b ∷ bs → 128 ≤ b → AreWide bs → AreInside bs → IsEncoded c bytes

pub encoded : (c : ℕ) → IsEncoded c (encode c)
encoded c = elim (cases_lt c 0x80) [
  | inl h ↦ one h (encode-one c h)
  | inr l ↦ elim (cases_lt c 0x800) [
    | inl h ↦ wide l _ _ (encode-two c l h) (omega arith) (omega arith, tt) (omega arith, tt)
    | inr m ↦ elim (cases_lt c 0x1_0000) [
      | inl h ↦ wide l _ _ (encode-three c m h) (omega arith) (omega arith, (omega arith, tt)) (omega arith, (omega arith, tt))
      | inr n ↦ wide l _ _ (encode-four c n) (omega arith) (omega arith, (omega arith, (omega arith, tt))) (omega arith, (omega arith, (omega arith, tt)))
    ]
  ]
]

-- ---- non-ASCII characters have no special kind

pub wide-no_backslash : (c : ℕ) → 128 ≤ c → (c == backslash) ≡ false
wide-no_backslash c h = ne_eqb c backslash (λ e. absurd (omega arith))

pub wide-no_blank : (c : ℕ) → 128 ≤ c → is_blank c ≡ false
wide-no_blank c h = rw (ne_eqb c 0x20 (λ e. absurd (omega arith)), ne_eqb c 0x09 (λ e. absurd (omega arith)), ne_eqb c 0x0c (λ e. absurd (omega arith))) refl

pub wide-no_separator : (c : ℕ) → 128 ≤ c → is_separator c ≡ false
wide-no_separator c h = rw (ne_eqb c 0x3d (λ e. absurd (omega arith)), ne_eqb c 0x3a (λ e. absurd (omega arith))) refl

pub wide-no_comment_sign : (c : ℕ) → 128 ≤ c → is_comment_sign c ≡ false
wide-no_comment_sign c h = rw (ne_eqb c 0x23 (λ e. absurd (omega arith)), ne_eqb c 0x21 (λ e. absurd (omega arith))) refl

pub wide-no_end : (c : ℕ) → 128 ≤ c → ends_key c ≡ false
wide-no_end c h = rw (wide-no_blank c h) (wide-no_separator c h)

-- ---- texts

pub scalars-parts : (xs ys : List ℕ) → scalars (xs ++ ys) ≡ true → (scalars xs ≡ true) × (scalars ys ≡ true)
scalars-parts [] ys h = (refl, h)
scalars-parts (x ∷ xs) ys h =
    let p = and_parts (scalar x) (scalars (xs ++ ys)) h in
    let q : (scalars xs ≡ true) × (scalars ys ≡ true) = scalars-parts xs ys p.1 in
    (and_from (scalar x) (scalars xs) p.0 q.0, q.1)

-- A part of a text is a text, and its characters are that part of the characters.
pub record IsPart (part : List ℕ → List ℕ) (bs : List ℕ) : Type 0 where
  pub utf8 : IsUtf8 (part bs)
  pub same : chars (part bs) ≡ part (chars bs)

-- A function that takes the same part of characters as of their bytes.
pub part_by : (part : List ℕ → List ℕ) → ((cs : List ℕ) → part (encodes cs) ≡ encodes (part cs))
    → ((cs : List ℕ) → scalars cs ≡ true → scalars (part cs) ≡ true) → (bs : List ℕ) → IsUtf8 bs → IsPart part bs
part_by part e s bs (cs, (h, w)) = record {
  utf8 = (part cs, (s cs h, sym (e cs) ∙ ap part w));
  same = ap (λ v. chars (part v)) (sym w) ∙ ap chars (e cs) ∙ chars-encodes (part cs) (s cs h) ∙ ap part (sym (chars-encodes cs h) ∙ ap chars w);
}

-- A text is a character followed by a rest.
pub record IsCharacterAnd (bs : List ℕ) (c : ℕ) (rest : List ℕ) : Type 0 where
  pub characters : chars bs ≡ c ∷ chars rest
  pub utf8 : IsUtf8 rest

pub character_and : (bs rest : List ℕ) (c : ℕ) → IsUtf8 bs → bs ≡ encode c ++ rest → IsCharacterAnd bs c rest
character_and bs rest c u e = record { characters = chars_past_char bs rest c u e; utf8 = IsUtf8-past_char bs rest c u e }

-- ---- ASCII at the front

pub first_ascii : (b : ℕ) (rest : List ℕ) → b < 128 → IsUtf8 (b ∷ rest) → IsCharacterAnd (b ∷ rest) b rest
first_ascii b rest h u = character_and (b ∷ rest) rest b u (ap (λ v. v ++ rest) (sym (encode-one b h)))

-- ---- texts without characters

-- A text has no characters where it has no bytes.
pub is_empty-chars : (x : List ℕ) → IsUtf8 x → is_empty (chars x) ≡ (length x == 0)
is_empty-chars x u = by_characters (chars x) (encodes-chars x u)
  where
    by_characters : (cs : List ℕ) → encodes cs ≡ x → is_empty cs ≡ (length x == 0)
    by_characters [] h = ap (λ v. length v == 0) h
    by_characters (c ∷ cs) h =
        let some = length-le-encodes (c ∷ cs) in
        let same = ap length h in
        grind (arith, nat_tests)
