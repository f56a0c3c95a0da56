-- Which keys the pairs of a source have.
use Rattle.std.specs.Prelude.{◌≡◌, ℕ, List, [], ◌∷◌, ◌++◌, Some, None}
use Rattle.properties_format.specs.Edits.{HasPairValue}
use Rattle.properties_format.specs.Encoding.{Encoding}

-- A pair of the source has the key.
abbrev pub HoldsKey : Encoding → List ℕ → List ℕ → Type 0
HoldsKey e source key = (value : List ℕ) × HasPairValue e source key (Some value)

-- No pair of it does.
abbrev pub HoldsNoKey : Encoding → List ℕ → List ℕ → Type 0
HoldsNoKey e source key = HasPairValue e source key None

-- A pair of it has each of these keys.
abbrev pub HoldsKeys : Encoding → List ℕ → List (List ℕ) → Type 0
HoldsKeys e source [] = Unit {0}
HoldsKeys e source (key ∷ keys) = HoldsKey e source key × HoldsKeys e source keys

-- This is the first of the keys that no pair of the source has.
pub record IsFirstAbsent (e : Encoding) (source : List ℕ) (keys : List (List ℕ)) (key : List ℕ) : Type 0 where
  pub before : List (List ℕ)
  pub after : List (List ℕ)
  pub division : keys ≡ before ++ key ∷ after
  pub passed : HoldsKeys e source before
  pub absent : HoldsNoKey e source key
