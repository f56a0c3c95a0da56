-- Values that are kept by key.
use Rattle.std.specs.Borrow.{Bor}
use Rattle.std.specs.Option.{unwrap_or}
use Rattle.std.specs.Str.{chars}
use Rattle.std.specs.Prelude.{◌≡◌, ℕ, bytes_eq, List, Option, Some, None}
use Rattle.std.specs.Map.{lookup, update}
use Rattle.std.specs.declared.string.String.{String}
use Rattle.properties_format.specs.Items.{Outcome, given, pair}
use Rattle.properties_format.specs.Computed.Items.{outcome_of}
use Rattle.properties_items.specs.BorrowedItems.{IsFoundIn, outcome_pair}
use Rattle.properties_items.specs.Texts.{characters}
use Rattle.properties_items.specs.declared.found.Found.{Found}

-- the value of a key
abbrev pub value_at : {V Y : Type 0} → List (String Y × V) → List ℕ → Option V
value_at values key = lookup (λ x. bytes_eq key (characters x)) values

-- A key is given a value.
abbrev pub GivesValue : {V Y : Type 0} → List (String Y × V) → List ℕ → V → List (String Y × V) → Type 0
GivesValue old key value new = (k : List ℕ) → value_at new k ≡ update bytes_eq (value_at old) key (Some value) k

-- the value of the key that a logical line has, if it is a pair
abbrev pub value_of : {V Y : Type 0} → List (String Y × V) → Outcome → Option V
value_of values (given (pair key value)) = value_at values key
value_of values other = None

-- A logical line's key gets a value if it has none yet.
abbrev pub KeepsValue : {V Y : Type 0} → List (String Y × V) → Outcome → V → List (String Y × V) → Type 0
KeepsValue old (given (pair key value)) v new =
    (k : List ℕ) → value_at new k ≡ update bytes_eq (value_at old) key (Some (unwrap_or (value_at old key) v)) k
KeepsValue old other v new = new ≡ old

-- What was found in a logical line: nothing, if it is no pair.
abbrev pub TellsFound : List ℕ → Option Found → Type 0
TellsFound line None = outcome_pair (outcome_of (chars line)) ≡ None
TellsFound line (Some found) = IsFoundIn line found

abbrev pub TellsKey : Outcome → Option (Bor (List ℕ)) → Type 0
TellsKey o None = outcome_pair o ≡ None
TellsKey o (Some key) = (value : List ℕ) × (outcome_pair o ≡ Some (chars key.now, value))
