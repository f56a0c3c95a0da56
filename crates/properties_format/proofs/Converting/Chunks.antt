-- The computed units are the units of a text.
use Rattle.std.proofs.Common.{rules, ◌≡◌, ℕ, Bool, List, [], ◌∷◌, ◌++◌, Some, refl, ap, ◌∙◌, arith}
use Rattle.properties_format.specs.Encoding.{Repertoire}
use Rattle.properties_format.specs.Escapes.{Spelling, spelling_text}
use Rattle.properties_format.proofs.Escapes.First.{spelling_of, spelling_of-only}
use Rattle.properties_format.specs.Converting.{TextUnit, spelt, unit_text, units_before, IsUnit, AreUnits, converted_unit, converted_units}
use Rattle.properties_format.specs.Computed.Converting.{units_past, units_of, converted_of}
use Rattle.properties_format.proofs.Converting.One.{units-found, stray-none}

-- ---- the computed units

past-spelling : (p : Spelling) (rest : List ℕ) → spelling_of (spelling_text p ++ rest) ≡ Some p
    → units_past (spelling_text p ++ rest) 0 ≡ spelt p ∷ units_past rest 0
past-spelling p rest h1 = search rules

past-unit : (u : TextUnit) (rest : List ℕ) → IsUnit u rest → units_past (unit_text u ++ rest) 0 ≡ u ∷ units_past rest 0
past-unit u rest h1 = search (rules, past-spelling, spelling_of-only, stray-none)

pub units_of-front : (u : TextUnit) (rest : List ℕ) → IsUnit u rest → units_of (unit_text u ++ rest) ≡ u ∷ units_of rest
unfolding units_of
units_of-front u rest h = past-unit u rest h

pub units_of-empty : units_of [] ≡ []
unfolding units_of
units_of-empty = refl

-- The units of a text are computed.
pub units_of-only : (us : List TextUnit) → AreUnits us [] → units_of (units_before us []) ≡ us
unfolding units_of
units_of-only [] h = refl
units_of-only (u ∷ us) h = past-unit u (units_before us []) h.0 ∙ ap (λ v. u ∷ v) (units_of-only us h.1)

pub units_of-meets : (x : List ℕ) → (x ≡ units_before (units_of x) []) × AreUnits (units_of x) []
units_of-meets x =
    let k = units-found x in
    grind (arith, units_of-only)

-- ---- one unit

-- A text that begins with a unit.
pub converted_of-unit : (r : Repertoire) (readable : Bool) (u : TextUnit) (rest : List ℕ) → IsUnit u rest
    → converted_of r readable (unit_text u ++ rest) ≡ converted_unit r readable u ++ converted_of r readable rest
unfolding converted_of
converted_of-unit r readable u rest h = ap (converted_units r readable) (units_of-front u rest h)

pub converted_of-empty : (r : Repertoire) (readable : Bool) → converted_of r readable [] ≡ []
unfolding converted_of
converted_of-empty r readable = ap (converted_units r readable) units_of-empty

pub converted_of-is : (r : Repertoire) (readable : Bool) (x : List ℕ) → converted_of r readable x ≡ converted_units r readable (units_of x)
unfolding converted_of
converted_of-is r readable x = refl
