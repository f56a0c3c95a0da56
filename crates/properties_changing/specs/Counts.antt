-- How many pairs a change of a source changed, added and removed. What counts are the pairs that `list -v` prints: each
-- key once, with the value of its last pair. Comments are passed over.
use Rattle.std.specs.Prelude.{◌≡◌, ◌⊎◌, ◌==◌, ℕ, Bool, false, not, if◌then◌else◌, bytes_eq, count_by, List, ◌++◌, Option, Some, Result, Ok, Err, codes}
use Rattle.std.specs.Fmt.{decimal}
use Rattle.std.specs.Option.{is_none}
use Rattle.properties_format.specs.Edits.{HasPairKeys, HasPairValue}
use Rattle.properties_format.specs.Encoding.{Encoding}
use Rattle.properties_tables.specs.Sources.{IsUnsound}
use Rattle.properties_tables.specs.declared.error.Failure.{Failure}
use Rattle.properties_changing.specs.declared.counts.Counts.{Counts}

-- These are the values of the keys of a source: of each that of its last pair, or none.
abbrev pub AreValues : Encoding → List ℕ → (List ℕ → Option (List ℕ)) → Type 0
AreValues e source value_at = (key : List ℕ) → HasPairValue e source key (value_at key)

-- whether a key has another value, in both of two sources
abbrev pub is_changed : Option (List ℕ) → Option (List ℕ) → Bool
is_changed (Some old) (Some new) = not (bytes_eq old new)
is_changed old new = false

-- So many keys of the source have another value in the result, so many are in the result alone, and so many in the
-- source alone.
pub record AreCounts (e : Encoding) (source result : List ℕ) (counts : Counts) : Type 0 where
  pub old_keys : List (List ℕ)
  pub new_keys : List (List ℕ)
  pub had : HasPairKeys e source old_keys
  pub has : HasPairKeys e result new_keys
  pub old : List ℕ → Option (List ℕ)
  pub new : List ℕ → Option (List ℕ)
  pub were : AreValues e source old
  pub are : AreValues e result new
  pub changed : counts.changed ≡ count_by (λ key. is_changed (old key) (new key)) old_keys
  pub added : counts.added ≡ count_by (λ key. is_none (old key)) new_keys
  pub removed : counts.removed ≡ count_by (λ key. is_none (new key)) old_keys

-- What counting returns. It fails only if one of the two is refused, or memory runs out.
abbrev pub CountsChanges : Encoding → List ℕ → List ℕ → Result Counts Failure → Type 0
CountsChanges e source result (Ok counts) = AreCounts e source result counts
CountsChanges e source result (Err failure) = IsUnsound e source failure ⊎ IsUnsound e result failure

-- ---- in words

abbrev pub pair_words : ℕ → List ℕ
pair_words number = if number == 1 then codes "pair" else codes "pairs"

abbrev pub count_words : Counts → List ℕ
count_words c =
    decimal c.changed ++ (codes " " ++ (pair_words c.changed ++ (codes " changed, "
    ++ (decimal c.added ++ (codes " added, " ++ (decimal c.removed ++ codes " removed"))))))
