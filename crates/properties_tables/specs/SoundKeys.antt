-- The pairs of a source whose keys are valid. A key counts even if an escape of its value is malformed.
-- Source: java.util.Properties of Java SE 7, load.
use Rattle.std.specs.Prelude.{◌≡◌, ◌⊎◌, ℕ, List, [], ◌∷◌}
use Rattle.properties_format.specs.Encoding.{Encoding}
use Rattle.properties_format.specs.Escapes.{Means}
use Rattle.properties_format.specs.Items.{pair, Entry, item}
use Rattle.properties_format.specs.Lines.{end, first_number, joined, HasGroups, Line}
use Rattle.properties_format.specs.Split.{IsSplit, Logical}

-- The logical line is a pair with this key, no escape of which is malformed.
pub record HasSoundKey (x key : List ℕ) : Type 0 where
  pub raw_key : List ℕ
  pub raw_value : List ℕ
  pub split : IsSplit x (Logical.pair raw_key raw_value)
  pub means : Means raw_key key

-- These are such pairs of some groups, in order. Their values may be any.
abbrev pub AreKeyedIn : List (List Line) → List Entry → Type 0
AreKeyedIn [] pairs = pairs ≡ []
AreKeyedIn (g ∷ gs) pairs =
    (rest : List Entry) × AreKeyedIn gs rest
    × (((key : List ℕ) × (value : List ℕ) × HasSoundKey (joined g) key × (pairs ≡ item (first_number g) (pair key value) ∷ rest))
    ⊎ (((key : List ℕ) → HasSoundKey (joined g) key → ⊥) × (pairs ≡ rest)))

-- and of a source
pub record AreKeyedPairs (e : Encoding) (source : List ℕ) (pairs : List Entry) : Type 0 where
  pub groups : List (List Line)
  pub has_groups : HasGroups e source end groups
  pub are : AreKeyedIn groups pairs
