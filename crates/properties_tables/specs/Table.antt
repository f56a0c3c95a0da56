-- The table of a source: each key once, in the order of the first pairs, with the lines of its first and its last pair,
-- and with its value, which is that of the last.
use Rattle.std.specs.Prelude.{◌≡◌, ℕ, List, ◌∷◌, ◌++◌, All, map}
use Rattle.properties_format.specs.Edits.{ArePairs}
use Rattle.properties_format.specs.Encoding.{Encoding}
use Rattle.properties_format.specs.Items.{pair, Entry, item}
use Rattle.properties_format.specs.Maps.{AreKeys, HasNoPair}

pub record Row : Type 0 where
  pub key : List ℕ
  pub first : ℕ
  pub last : ℕ
  pub value : List ℕ

abbrev pub row_keys : List Row → List (List ℕ)
row_keys rows = map (λ r. r.key) rows

-- The first pair with this key begins in this line.
pub record IsFirstLine (pairs : List Entry) (key : List ℕ) (number : ℕ) : Type 0 where
  pub before : List Entry
  pub value : List ℕ
  pub after : List Entry
  pub division : pairs ≡ before ++ item number (pair key value) ∷ after
  pub none_before : HasNoPair key before

-- The last pair with it begins in this line, and has this value.
pub record IsLastPair (pairs : List Entry) (key : List ℕ) (number : ℕ) (value : List ℕ) : Type 0 where
  pub before : List Entry
  pub after : List Entry
  pub division : pairs ≡ before ++ item number (pair key value) ∷ after
  pub none_after : HasNoPair key after

pub record IsRow (pairs : List Entry) (r : Row) : Type 0 where
  pub first : IsFirstLine pairs r.key r.first
  pub last : IsLastPair pairs r.key r.last r.value

-- These are the rows of some pairs.
pub record AreRows (pairs : List Entry) (rows : List Row) : Type 0 where
  pub keys : AreKeys pairs (row_keys rows)
  pub each : All (IsRow pairs) rows

-- These are the rows of a source. Comments are passed over, and so are pairs with a malformed escape.
pub record HasRows (e : Encoding) (source : List ℕ) (rows : List Row) : Type 0 where
  pub pairs : List Entry
  pub are : ArePairs e source pairs
  pub have : AreRows pairs rows
