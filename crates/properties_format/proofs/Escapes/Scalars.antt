-- A text of scalar values means a text of scalar values.
use Rattle.std.proofs.Common.{◌≡◌, ℕ, ◌<◌, All, true, false, List, [], ◌∷◌, ◌++◌, map, sym, inl, subst, arith, lit<}
use Rattle.std.proofs.lemmas.Bool.{and_parts}
use Rattle.std.proofs.lemmas.List.Elements.{All-nil, All-head, All-tail}
use Rattle.properties_format.specs.Text.{backslash, scalar}
use Rattle.properties_format.specs.Escapes.{Four, is_hexadecimal, hexadecimal_value, are_hexadecimal, code_unit, is_surrogate, escaped_character, Spelling, itself, escaped, unicode, surrogates, last, spelling_text, spelling_character, IsSpelling, spellings_before, AreSpellings, Means}
use Rattle.properties_format.proofs.Encodings.Characters.{pair-scalar}

-- The value of a hexadecimal digit is below 16.
digit-below : (c : ℕ) → is_hexadecimal c ≡ true → hexadecimal_value c < 16
digit-below c h = grind (arith)

-- A unit of four hexadecimal digits is below 10000 hexadecimal.
pub code_unit-below : (d : Four) → are_hexadecimal d ≡ true → code_unit d < 0x1_0000
code_unit-below d h = grind (arith, and_parts, digit-below)

-- A unit that isn't a surrogate is a scalar value.
pub unit-scalar : (n : ℕ) → n < 0x1_0000 → is_surrogate n ≡ false → scalar n
unit-scalar n h k = grind (arith)

-- The character that a backslash and a scalar value mean is a scalar value.
escaped-scalar : (c : ℕ) → scalar c → scalar (escaped_character c)
escaped-scalar c h = grind (arith)

-- The rest of a text of scalar values consists of scalar values.
pub rest-scalars : (x y : List ℕ) → All scalar (x ++ y) → All scalar y
rest-scalars [] y h = h
rest-scalars (c ∷ x) y h = rest-scalars x y (All-tail scalar c (x ++ y) h)

-- The character of a spelling is a scalar value.
spelling-scalar : (p : Spelling) (rest : List ℕ) → IsSpelling p rest → All scalar (spelling_text p ++ rest) → scalar (spelling_character p)
spelling-scalar (itself c) rest h k = All-head scalar c rest k
spelling-scalar (escaped c) rest h k = escaped-scalar c (All-head scalar c rest (All-tail scalar backslash (c ∷ rest) k))
spelling-scalar (unicode d) rest h k = unit-scalar (code_unit d) (code_unit-below d h.0) h.1
spelling-scalar (surrogates high low) rest h k = pair-scalar (code_unit high) (code_unit low) h.1 h.3
spelling-scalar last rest h k = inl (lit< tt)

-- The characters of spellings in a text of scalar values are scalar values.
pub spellings-scalars : (ps : List Spelling) (rest : List ℕ) → AreSpellings ps rest → All scalar (spellings_before ps rest)
    → All scalar (map spelling_character ps)
spellings-scalars [] rest h k = All-nil scalar
spellings-scalars (p ∷ ps) rest h k =
    grind (arith, spelling-scalar, spellings-scalars ps rest h.1 (rest-scalars (spelling_text p) (spellings_before ps rest) k), rest-scalars)

-- A text of scalar values means a text of scalar values.
pub means-scalars : (text meant : List ℕ) → Means text meant → All scalar text → All scalar meant
means-scalars text meant m h = subst (All scalar) (sym m.characters) (spellings-scalars m.spellings [] m.each (subst (All scalar) m.whole h))
