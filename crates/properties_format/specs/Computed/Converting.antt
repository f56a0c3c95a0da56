-- The units of a text, and what becomes of them, computed from the first character.
use Rattle.std.specs.Prelude.{ℕ, zero, suc, pred, Bool, List, [], ◌∷◌, length, Some, None}
use Rattle.properties_format.specs.Encoding.{Repertoire}
use Rattle.properties_format.specs.Escapes.{spelling_text}
use Rattle.properties_format.specs.Computed.Escapes.{first_spelling}
use Rattle.properties_format.specs.Converting.{TextUnit, spelt, stray, converted_units}

-- the units of the text without its first n characters, which belong to a unit that was read
abbrev pub units_past : List ℕ → ℕ → List TextUnit
units_past [] skipped = []
units_past (c ∷ cs) (suc skipped) = units_past cs skipped
units_past (c ∷ cs) zero = elim (first_spelling c cs) [
  | None ↦ stray ∷ units_past cs 1
  | Some p ↦ spelt p ∷ units_past cs (pred (length (spelling_text p)))
]

-- the units of the text
unfoldable pub units_of : List ℕ → List TextUnit
units_of x = units_past x 0

-- what becomes of a text, but for the front of a file
unfoldable pub converted_of : Repertoire → Bool → List ℕ → List ℕ
converted_of r readable x = converted_units r readable (units_of x)
