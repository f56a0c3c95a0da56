-- How the pairs of an old source are compared with those of a new one, as one after another comes.
use Rattle.std.specs.Prelude.{◌≡◌, ◌≢◌, Bool, true, false, not, if◌then◌else◌, AllPairs, bytes_eq, List, ℕ, map, Option, Some, None}
use Rattle.std.specs.{List.filter, Set.is_member}
use Rattle.properties_format.specs.{Computed.Maps.AreFirstOf, Items.Entry}
use Rattle.properties_format.proofs.{Keys.pair_keys, Maps.value_in}
use Rattle.properties_tables.specs.Table.{row_keys, Row}
use Rattle.properties_tables.specs.Private.Table.{place_keys, rows_of, table_places, IsKeyTable, IsTable}
use Rattle.properties_changing.specs.declared.counts.{Comparison.Comparison, State.State}
use Rattle.properties_changing.specs.declared.counts.State.TheVariants.{Gone, Same, Changed}

-- what became of a pair with this value, if its key now has that one
abbrev pub state_of : List ℕ → Option (List ℕ) → State
state_of old None = Gone
state_of old (Some new) = if bytes_eq old new then Same else Changed

-- what these pairs make of rows
abbrev pub states_by : List Row → List Entry → List State
states_by rows pairs = map (λ r. state_of r.value (value_in pairs r.key)) rows

-- whether none of the rows has a key
abbrev pub is_new : List Row → List ℕ → Bool
is_new rows key = not (is_member bytes_eq (row_keys rows) key)

-- The rows are in the states that these pairs make, and the other keys of the pairs are added.
pub record HasCompared (first : Comparison) (pairs : List Entry) (new : Comparison) : Type 0 where
  pub same : new.old ≡ first.old
  pub table : IsTable new.old
  pub apart : AllPairs (λ k l. k ≢ l) (row_keys (rows_of new.old))
  pub states : new.states.items ≡ states_by (rows_of new.old) pairs
  pub keys : List (List ℕ)
  pub are : AreFirstOf (pair_keys pairs) keys
  pub added : IsKeyTable new.added
  pub others : place_keys (table_places new.added) ≡ filter (is_new (rows_of new.old)) keys

abbrev pub has_changed : State → Bool
has_changed Changed = true
has_changed state = false

abbrev pub is_gone : State → Bool
is_gone Gone = true
is_gone state = false
