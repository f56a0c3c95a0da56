-- What `list` gives: the keys that begin with a prefix, each once, in the order of their first pairs; and with values, these
-- keys with the values of their last pairs.
use Rattle.std.specs.Prelude.{◌≡◌, ℕ, Bool, List, [], ◌∷◌, Result, Ok, Err, cond, filter, nat_eq, ◌++◌, All, map}
use Rattle.std.specs.List.{starts_with, flat_map}
use Rattle.properties_format.specs.Edits.{ArePairs}
use Rattle.properties_format.specs.Encoding.{Encoding}
use Rattle.properties_format.specs.Items.{Entry}
use Rattle.properties_format.specs.Maps.{AreKeys, IsLastValue}
use Rattle.properties_tables.specs.Sources.{IsSound, IsUnsound}
use Rattle.properties_tools.specs.Propedit.Texts.{ended, followed_text}
use Rattle.properties_tools.specs.declared.propedit.answer.Answer.{Answer}
use Rattle.properties_tools.specs.declared.propedit.request.Terminator.{Terminator}
use Rattle.properties_tables.specs.declared.error.Failure.{Failure}
use Rattle.properties_format.specs.Writing.{Pair}
use Rattle.properties_format.specs.Text.{equals_sign, is_empty}
use Rattle.properties_tools.specs.declared.propedit.request.Terminator.TheVariants.{LineFeed, Nul}

-- These are the keys of a source, each once, in the order of their first pairs. Comments are passed over.
pub record AreKeysOf (e : Encoding) (source : List ℕ) (keys : List (List ℕ)) : Type 0 where
  pub entries : List Entry
  pub are : ArePairs e source entries
  pub each : AreKeys entries keys

-- The key begins with the prefix.
abbrev pub is_key_listed : List ℕ → List ℕ → Bool
is_key_listed prefix key = starts_with nat_eq key prefix

-- the keys that are listed, in order
abbrev pub listed_keys : List ℕ → List (List ℕ) → List (List ℕ)
listed_keys prefix keys = filter (is_key_listed prefix) keys

-- the status of what is listed: 1 where nothing begins with a prefix that isn't empty
abbrev pub list_status : {X : Type 0} → List ℕ → List X → ℕ
list_status prefix [] = cond (is_empty prefix) 0 1
list_status prefix (thing ∷ things) = 0

-- These keys or pairs are printed, each as these bytes.
pub record PrintsAll {X : Type 0} (prefix : List ℕ) (bytes_of : X → List ℕ) (things : List X) (answer : Answer) : Type 0 where
  pub text : answer.text.items ≡ flat_map bytes_of things
  pub status : answer.status ≡ list_status prefix things

-- The source is sound, and these of its keys are printed, each with the byte that ends it.
pub record ListsKeys (e : Encoding) (source prefix : List ℕ) (end : Terminator) (answer : Answer) : Type 0 where
  pub sound : IsSound e source
  pub keys : List (List ℕ)
  pub are : AreKeysOf e source keys
  pub only : (others : List (List ℕ)) → AreKeysOf e source others → others ≡ keys
  pub prints : PrintsAll prefix (ended end) (listed_keys prefix keys) answer

-- What listing keys returns.
abbrev pub Lists : Encoding → List ℕ → List ℕ → Terminator → Result Answer Failure → Type 0
Lists e source prefix end (Ok answer) = ListsKeys e source prefix end answer
Lists e source prefix end (Err failure) = IsUnsound e source failure

-- ---- The keys that begin with a prefix, each once and with its last value, in the order of their first pairs.

abbrev pub keys_of : List Pair → List (List ℕ)
keys_of pairs = map (λ p. p.0) pairs

-- These pairs have the keys of the source, each once, in the order of their first pairs, and each with the value of its last.
-- Comments are passed over.
pub record AreLastPairs (e : Encoding) (source : List ℕ) (pairs : List Pair) : Type 0 where
  pub entries : List Entry
  pub are : ArePairs e source entries
  pub keys : AreKeys entries (keys_of pairs)
  pub values : All (λ p. IsLastValue entries p.0 p.1) pairs

-- the byte between a key and its value
abbrev pub separator_byte : Terminator → ℕ
separator_byte LineFeed = equals_sign
separator_byte Nul = 0

-- a key and its value in UTF-8, each with the byte after it
abbrev pub ended_pair : Terminator → Pair → List ℕ
ended_pair end p = followed_text (separator_byte end) p.0 ++ ended end p.1

-- The key begins with the prefix.
abbrev pub is_pair_listed : List ℕ → Pair → Bool
is_pair_listed prefix p = is_key_listed prefix p.0

abbrev pub listed_pairs : List ℕ → List Pair → List Pair
listed_pairs prefix pairs = filter (is_pair_listed prefix) pairs

-- The source is sound, and these of its pairs are printed.
pub record ListsPairs (e : Encoding) (source prefix : List ℕ) (end : Terminator) (answer : Answer) : Type 0 where
  pub sound : IsSound e source
  pub pairs : List Pair
  pub are : AreLastPairs e source pairs
  pub prints : PrintsAll prefix (ended_pair end) (listed_pairs prefix pairs) answer

-- What listing keys with their values returns.
abbrev pub ListsValues : Encoding → List ℕ → List ℕ → Terminator → Result Answer Failure → Type 0
ListsValues e source prefix end (Ok answer) = ListsPairs e source prefix end answer
ListsValues e source prefix end (Err failure) = IsUnsound e source failure
