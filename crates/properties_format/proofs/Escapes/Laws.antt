-- What a text means, given what it begins with.
use Rattle.std.proofs.Common.{◌≡◌, ℕ, ◌==◌, ◌<◌, length, true, false, List, [], ◌∷◌, ◌++◌, map, None, refl, ap, ◌∙◌, append-nil, arith}
use Rattle.properties_format.specs.Text.{backslash}
use Rattle.properties_format.specs.Escapes.{Malformed, letter_u, Four, four_text, are_hexadecimal, code_unit, is_high, is_low, Spelling, itself, escaped, unicode, surrogates, last, spelling_character, IsSpelling, spellings_before, AreSpellings, NoSpelling, not_enough_digits, not_hex, invalid_character, malformed_by, means, breaks}
use Rattle.properties_format.specs.Computed.Escapes.{with_low, after_u, in_front, text_in_front, meaning_of}
use Rattle.properties_format.specs.Writing.{HoldsNoBackslash}
use Rattle.properties_format.proofs.Escapes.First.{spelling_of-none}
use Rattle.properties_format.proofs.Escapes.Unique.{text_in_front-means, meaning_of-empty, meaning_of-spelling, meaning_of-spellings, meaning_of-fault}

-- ---- a spelling at the front

-- a character that isn't a backslash
pub meaning_of-itself : (c : ℕ) (rest : List ℕ) → (c == backslash) ≡ false → meaning_of (c ∷ rest) ≡ in_front c (meaning_of rest)
meaning_of-itself c rest h = meaning_of-spelling (itself c) rest h

-- ---- a text without a backslash means itself

-- such a text before any text
pub meaning_of-plain_front : (x rest : List ℕ) → HoldsNoBackslash x → meaning_of (x ++ rest) ≡ text_in_front x (meaning_of rest)
meaning_of-plain_front [] rest h = refl
meaning_of-plain_front (c ∷ x) rest h = meaning_of-itself c (x ++ rest) h.0 ∙ ap (in_front c) (meaning_of-plain_front x rest h.1)

-- such a text by itself
pub meaning_of-plain : (x : List ℕ) → HoldsNoBackslash x → meaning_of x ≡ means x
meaning_of-plain [] h = meaning_of-empty
meaning_of-plain (c ∷ x) h = meaning_of-itself c x h.0 ∙ ap (in_front c) (meaning_of-plain x h.1)

-- ---- spellings whose end doesn't depend on what follows

-- the spelling isn't a backslash at the end of the text
abbrev pub IsWhole : Spelling → Type 0
IsWhole (itself c) = IsSpelling (itself c) []
IsWhole (escaped c) = IsSpelling (escaped c) []
IsWhole (unicode d) = IsSpelling (unicode d) []
IsWhole (surrogates high low) = IsSpelling (surrogates high low) []
IsWhole last = ⊥

abbrev pub AreWhole : List Spelling → Type 0
AreWhole [] = Unit {0}
AreWhole (p ∷ ps) = IsWhole p × AreWhole ps

-- A whole spelling may come before any text.
pub IsWhole-spelling : (p : Spelling) (rest : List ℕ) → IsWhole p → IsSpelling p rest
IsWhole-spelling p rest h = grind (arith)

-- Each of several whole spellings may come before what follows it.
pub AreWhole-spellings : (ps : List Spelling) (rest : List ℕ) → AreWhole ps → AreSpellings ps rest
AreWhole-spellings [] rest h = tt
AreWhole-spellings (p ∷ ps) rest h = (IsWhole-spelling p (spellings_before ps rest) h.0, AreWhole-spellings ps rest h.1)

-- whole spellings before any text
pub meaning_of-whole : (ps : List Spelling) (rest : List ℕ) → AreWhole ps
    → meaning_of (spellings_before ps rest) ≡ text_in_front (map spelling_character ps) (meaning_of rest)
meaning_of-whole ps rest h = meaning_of-spellings ps rest (AreWhole-spellings ps rest h)

-- whole spellings by themselves
pub meaning_of-all : (ps : List Spelling) → AreWhole ps → meaning_of (spellings_before ps []) ≡ means (map spelling_character ps)
meaning_of-all ps h = simp (meaning_of-whole, meaning_of-empty, text_in_front-means, append-nil)

-- ---- a `\u` that begins no spelling

-- A `\u` and this text begin no spelling, and are malformed so.
abbrev pub IsMalformedUnit : List ℕ → Malformed → Type 0
IsMalformedUnit after kind = NoSpelling (backslash ∷ letter_u ∷ after) × (meaning_of (backslash ∷ letter_u ∷ after) ≡ breaks kind)

-- no spelling is found after the `\u`
malformed-none : (after : List ℕ) (kind : Malformed) → after_u after ≡ None → malformed_by after ≡ kind → IsMalformedUnit after kind
malformed-none after kind e k = let n = spelling_of-none (backslash ∷ letter_u ∷ after) e in (n, meaning_of-fault after n ∙ ap breaks k)

-- fewer than four characters
pub malformed-short : (after : List ℕ) → length after < 4 → IsMalformedUnit after not_enough_digits
malformed-short after h = grind (arith, malformed-none)

-- four characters, one of which isn't a digit
pub malformed-not_hex : (d : Four) (rest : List ℕ) → are_hexadecimal d ≡ false → IsMalformedUnit (four_text d ++ rest) not_hex
malformed-not_hex d rest h = malformed-none (four_text d ++ rest) not_hex (rw h refl) (rw h refl)

-- a low surrogate
pub malformed-lone_low : (d : Four) (rest : List ℕ) → are_hexadecimal d ≡ true → is_high (code_unit d) ≡ false → is_low (code_unit d) ≡ true
    → IsMalformedUnit (four_text d ++ rest) invalid_character
malformed-lone_low d rest h k l = malformed-none (four_text d ++ rest) invalid_character (rw h (rw k (rw l refl))) (rw h refl)

-- a high surrogate that isn't followed by the `\u` escape of a low one
pub malformed-lone_high : (d : Four) (rest : List ℕ) → are_hexadecimal d ≡ true → is_high (code_unit d) ≡ true → with_low d rest ≡ None
    → IsMalformedUnit (four_text d ++ rest) invalid_character
malformed-lone_high d rest h k l = malformed-none (four_text d ++ rest) invalid_character (rw h (rw k l)) (rw h refl)
