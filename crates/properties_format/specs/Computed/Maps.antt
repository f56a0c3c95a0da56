-- The first of two values, and the keys of a list.
use Rattle.std.specs.Prelude.{ℕ, List, [], ◌∷◌, Option, Some, None, ◌≡◌, ◌≢◌, ◌⊎◌, ◌++◌, AllPairs}

-- the first value if there is one, otherwise the second
abbrev pub first_value : Option (List ℕ) → Option (List ℕ) → Option (List ℕ)
first_value (Some v) other = Some v
first_value None other = other

-- ---- The keys of a list, in the order in which they first occur.

-- The key is one of these keys; or it is none of them.
abbrev pub Has : List ℕ → List (List ℕ) → Type 0
Has key [] = ⊥
Has key (k ∷ ks) = (k ≡ key) ⊎ Has key ks

abbrev pub HasNot : List ℕ → List (List ℕ) → Type 0
HasNot key [] = Unit {0}
HasNot key (k ∷ ks) = (k ≢ key) × HasNot key ks

-- One key occurs before the first occurrence of another.
pub record ComesBefore (all : List (List ℕ)) (key other : List ℕ) : Type 0 where
  pub before : List (List ℕ)
  pub after : List (List ℕ)
  pub division : all ≡ before ++ key ∷ after
  pub none_before : HasNot other before
  pub differ : key ≢ other

-- These are the keys of the list, each once, in the order of their first occurrences.
pub record AreFirstOf (all keys : List (List ℕ)) : Type 0 where
  pub only : (key : List ℕ) → Has key keys → Has key all
  pub every : (key : List ℕ) → Has key all → Has key keys
  pub in_order : AllPairs (ComesBefore all) keys
