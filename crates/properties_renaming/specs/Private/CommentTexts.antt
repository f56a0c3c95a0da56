-- What follows the sign of a comment line.
use Rattle.std.specs.Prelude.{ℕ, if◌then◌else◌, List, [], ◌∷◌}
use Rattle.properties_format.specs.Text.{is_blank}

-- the text without the blank that it begins with, if it begins with one
abbrev pub without_first_blank : List ℕ → List ℕ
without_first_blank [] = []
without_first_blank (c ∷ cs) = if is_blank c then cs else c ∷ cs

-- the blank that a text begins with, or nothing
abbrev pub first_blank : List ℕ → List ℕ
first_blank [] = []
first_blank (c ∷ cs) = if is_blank c then c ∷ [] else []
