-- How the values of some keys are found in a source.
use Rattle.std.specs.Prelude.{◌≡◌, ℕ, List, ◌∷◌, [], ◌++◌, ◌+◌, ◌*◌, ◌/◌, ◌%◌, ◌<◌, length, get_or, true, false, Bool, Option, Some, None, bytes_eq, encode_utf8_all, ◌-◌}
use Rattle.std.specs.{BTreeMap.IsOrdered, Map.lookup, Option.option_map, Option.unwrap_or, String.string_cmp}
use Rattle.properties_format.specs.Computed.Maps.{Has}
use Rattle.properties_format.proofs.Maps.{value_in}
use Rattle.java_properties.specs.Maps.{characters}
use Rattle.properties_tables.specs.{Sources.first_in_pair, Private.Fold.escapes_among, Private.Fold.found_pairs, Private.Fold.Finding}
use Rattle.properties_tables.specs.declared.values.Sought.{Sought}

-- what is held for a key that is sought: its value, if it has one
abbrev pub held_value : Sought → List ℕ → Option (Option (List ℕ))
held_value s key = option_map (option_map characters) (lookup (λ k. bytes_eq key (characters k)) s.values.entries)

-- the value of a key, if it is sought and has one
abbrev pub found_value : Sought → List ℕ → Option (List ℕ)
found_value s key = unwrap_or (held_value s key) None

-- the mark of a key, whose bytes these are, among so many
abbrev pub mark_for : ℕ → List ℕ → ℕ
mark_for marks key = (length key % 32 + 32 * get_or key (length key / 2) 0 + 1024 * get_or key (length key - 1) 0) % marks

-- whether a key that is sought has this one's mark
abbrev pub is_marked : Sought → List ℕ → Bool
is_marked s key = get_or s.marks.items (mark_for (length s.marks.items) key) false

-- Each key that is sought is marked.
pub record IsSeeking (s : Sought) : Type 0 where
  pub ordered : IsOrdered string_cmp s.values
  pub some : 0 < length s.marks.items
  pub marked : (key : List ℕ) (value : Option (List ℕ)) → held_value s key ≡ Some value → is_marked s (encode_utf8_all key) ≡ true

-- These keys are sought, and nothing was taken.
pub record Seeks (keys : List (List ℕ)) (s : Sought) : Type 0 where
  pub seeking : IsSeeking s
  pub malformed : s.malformed ≡ None
  pub without : (key : List ℕ) (value : Option (List ℕ)) → held_value s key ≡ Some value → value ≡ None
  pub each : (key : List ℕ) → Has key keys → held_value s key ≡ Some None

-- One more is sought.
abbrev pub SeeksMore : List ℕ → Sought → Sought → Type 0
SeeksMore key old new = IsSeeking new × ((keys : List (List ℕ)) → Seeks keys old → Seeks (keys ++ key ∷ []) new)

-- Each key that was sought has its value in what was taken, and the escape is the first of a pair.
pub record TookSought (first : Sought) (findings : List Finding) (new : Sought) : Type 0 where
  pub malformed : new.malformed ≡ first_in_pair (escapes_among findings)
  pub seeking : IsSeeking new
  pub values : (key : List ℕ) → held_value new key ≡ option_map (λ none. value_in (found_pairs findings) key) (held_value first key)

-- the first of two, if there is one, else the second
abbrev pub or_else : {A : Type 0} → Option A → Option A → Option A
or_else (Some x) other = Some x
or_else None other = other
