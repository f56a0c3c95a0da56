-- The units of concatenated bytes, and bytes none of whose units is a CR or an LF.
use Rattle.std.proofs.Common.{◌≡◌, ℕ, ◌%◌, ◌<◌, ◌==◌, ◌&&◌, true, List, [], ◌∷◌, ◌++◌, length, refl, ap, ◌∙◌, arith}
use Rattle.std.proofs.lemmas.Bool.{and_right}
use Rattle.properties_format.specs.Text.{is_line_ending}
use Rattle.properties_format.specs.Lines.{HoldsNoLineEnding}
use Rattle.properties_format.specs.Utf16.{low_first, high_first}
use Rattle.properties_format.specs.Encoding.{Encoding, IsAligned, ascii_bytes}
use Rattle.properties_format.specs.Computed.Lines.{begins_with_lf}
use Rattle.properties_format.specs.Cut.{units_of_two, units, HoldsNoLineEndingUnit}
use Rattle.properties_format.proofs.Lines.Plain.{plain-append, plain-left, plain-right}

-- The first unit of an ASCII character's bytes is its number.
pub units-ascii : (e : Encoding) (c : ℕ) (y : List ℕ) → units e (ascii_bytes e c ++ y) ≡ c ∷ units e y
units-ascii e c y = grind (arith)

-- The units of an even number of bytes and of what follows, if units are two bytes each.
two-append : (unit : ℕ → ℕ → ℕ) (x y : List ℕ) → length x % 2 ≡ 0 → units_of_two unit (x ++ y) ≡ units_of_two unit x ++ units_of_two unit y
two-append unit [] y h = refl
two-append unit (a ∷ []) y h = absurd (omega arith)
two-append unit (a ∷ b ∷ x) y h = ap (λ v. unit a b ∷ v) (two-append unit x y (omega arith))

-- The units of whole units and of what follows.
pub units-append : (e : Encoding) (x y : List ℕ) → IsAligned e x → units e (x ++ y) ≡ units e x ++ units e y
units-append e x y h = grind (arith, two-append)

-- If neither part contains a line ending unit, the whole contains none.
pub no_end_unit-append : (e : Encoding) (x y : List ℕ) → IsAligned e x → HoldsNoLineEndingUnit e x → HoldsNoLineEndingUnit e y → HoldsNoLineEndingUnit e (x ++ y)
no_end_unit-append e x y a h k = rw (units-append e x y a) (plain-append (units e x) (units e y) h k)

-- If the whole contains no line ending unit, the first part contains none.
pub no_end_unit-left : (e : Encoding) (x y : List ℕ) → IsAligned e x → HoldsNoLineEndingUnit e (x ++ y) → HoldsNoLineEndingUnit e x
no_end_unit-left e x y a h = plain-left (units e x) (units e y) (rw (units-append e x y a) at h)

-- If the whole contains no line ending unit, what follows whole units contains none.
pub no_end_unit-right : (e : Encoding) (x y : List ℕ) → IsAligned e x → HoldsNoLineEndingUnit e (x ++ y) → HoldsNoLineEndingUnit e y
no_end_unit-right e x y a h = plain-right (units e x) (units e y) (rw (units-append e x y a) at h)

-- Such bytes don't contain the bytes of a CR or an LF at a unit's boundary.
pub no_end_unit-at : (e : Encoding) (c : ℕ) (x y : List ℕ) → is_line_ending c ≡ true → IsAligned e x → HoldsNoLineEndingUnit e (x ++ (ascii_bytes e c ++ y)) → ⊥
no_end_unit-at e c x y h a k = grind (arith, no_end_unit-right)

-- ---- Line endings searched for among the bytes.

-- With the low byte first, a unit is a CR or an LF exactly if its low byte is one and its high byte is 0.
pub low_first-line_ending : (a b : ℕ) → is_line_ending (low_first a b) ≡ (b == 0 && is_line_ending a)
low_first-line_ending a b = grind (arith)

-- With the high byte first, a unit is a CR or an LF exactly if its low byte is one and its high byte is 0.
pub high_first-line_ending : (a b : ℕ) → is_line_ending (high_first a b) ≡ (a == 0 && is_line_ending b)
high_first-line_ending a b = grind (arith)

-- If no byte is a CR or an LF, no unit of two bytes is one, with the low byte first.
no_low : (d : List ℕ) → HoldsNoLineEnding d → HoldsNoLineEnding (units_of_two low_first d)
no_low (a ∷ b ∷ d) h = grind (arith, low_first-line_ending, no_low d h.1.1)
no_low d h = tt

-- If no byte is a CR or an LF, no unit of two bytes is one, with the high byte first.
no_high : (d : List ℕ) → HoldsNoLineEnding d → HoldsNoLineEnding (units_of_two high_first d)
no_high (a ∷ b ∷ d) h = (high_first-line_ending a b ∙ and_right (a == 0) (is_line_ending b) h.1.0, no_high d h.1.1)
no_high d h = tt

-- If no byte is a CR or an LF, no unit is one.
pub no_end-no_unit : (e : Encoding) (d : List ℕ) → HoldsNoLineEnding d → HoldsNoLineEndingUnit e d
no_end-no_unit e d h = grind (arith, no_low, no_high)

-- The first whole unit decides whether an LF comes first, whatever follows.
pub lf_first-append : (e : Encoding) (x y : List ℕ) → 0 < length (units e x) → begins_with_lf (units e (x ++ y)) ≡ begins_with_lf (units e x)
lf_first-append e x y h = grind (arith)
