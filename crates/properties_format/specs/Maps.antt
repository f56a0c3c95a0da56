-- The map of an input: every key that a pair has, with the value of the last pair with it; and the keys in order.
-- Source: java.util.Properties of Java SE 7, load (a later pair with a key takes the place of an earlier one).
use Rattle.std.specs.Prelude.{◌≡◌, ◌≢◌, ◌↔◌, ℕ, List, [], ◌∷◌, ◌++◌, Option, Some, None, Contains, AllPairs}
use Rattle.properties_format.specs.Encoding.{Encoding}
use Rattle.properties_format.specs.Items.{pair, Entry, item, AreItems, IsItems}
use Rattle.properties_format.specs.Lines.{end}

-- No entry is a pair with this key.
abbrev pub HasNoPair : List ℕ → List Entry → Type 0
HasNoPair key [] = Unit {0}
HasNoPair key (item n (pair k v) ∷ entries) = (k ≢ key) × HasNoPair key entries
HasNoPair key (entry ∷ entries) = HasNoPair key entries

-- The last pair with this key has this value: the entries are some entries, that pair, and entries without the key.
pub record IsLastValue (entries : List Entry) (key value : List ℕ) : Type 0 where
  pub before : List Entry
  pub number : ℕ
  pub after : List Entry
  pub division : entries ≡ before ++ (item number (pair key value) ∷ after)
  pub no_later : HasNoPair key after

-- The value of a key: that of the last pair with it, or `None` if no pair has it.
abbrev pub IsValue : List Entry → List ℕ → Option (List ℕ) → Type 0
IsValue entries key (Some value) = IsLastValue entries key value
IsValue entries key None = HasNoPair key entries

-- The map gives each key its value.
abbrev pub IsMap : List Entry → (List ℕ → Option (List ℕ)) → Type 0
IsMap entries value_at = (key : List ℕ) → IsValue entries key (value_at key)

-- The value of a key in a source without malformed entries: that of the last pair with the key, or `None` if no pair
-- has it.
pub record HasValue (e : Encoding) (source key : List ℕ) (value : Option (List ℕ)) : Type 0 where
  pub entries : List Entry
  pub items : IsItems e source end entries
  pub whole : AreItems entries
  pub is : IsValue entries key value

-- ---- The keys.

-- The first pair with one key comes before every pair with another: the entries begin with entries without the other
-- key, followed by that pair.
pub record PairComesBefore (entries : List Entry) (key other : List ℕ) : Type 0 where
  pub before : List Entry
  pub number : ℕ
  pub value : List ℕ
  pub after : List Entry
  pub division : entries ≡ before ++ (item number (pair key value) ∷ after)
  pub none_before : HasNoPair other before
  pub differ : key ≢ other

-- These are the keys of all pairs, each once, in the order of their first pairs.
pub record AreKeys (entries : List Entry) (keys : List (List ℕ)) : Type 0 where
  pub each : (key : List ℕ) → Contains keys key ↔ ((value : List ℕ) × IsLastValue entries key value)
  pub in_order : AllPairs (PairComesBefore entries) keys

-- The keys of a source without malformed entries.
pub record HasKeys (e : Encoding) (source : List ℕ) (keys : List (List ℕ)) : Type 0 where
  pub entries : List Entry
  pub items : IsItems e source end entries
  pub whole : AreItems entries
  pub are : AreKeys entries keys
