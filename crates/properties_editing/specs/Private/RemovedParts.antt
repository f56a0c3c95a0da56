-- The parts of a body after the pairs with a key went.
use Rattle.std.specs.Prelude.{◌≡◌, ◌≢◌, ◌<◌, ℕ, nat_lt, Bool, true, false, if◌then◌else◌, List, [], ◌∷◌, length, bytes_eq, None}
use Rattle.std.specs.Map.{update}
use Rattle.std.specs.BTreeMap.{IsOrdered}
use Rattle.std.specs.String.{string_cmp}
use Rattle.properties_editing.specs.Private.BodyParts.{is_empty_part, places_of, stored_of, taken_all}
use Rattle.properties_editing.specs.declared.groups.Closing.TheVariants.{Nothing}
use Rattle.properties_editing.specs.declared.parts.Part.{Part}
use Rattle.properties_editing.specs.declared.parts.NamedKeys.{NamedKeys}
use Rattle.properties_editing.specs.declared.parts.Parts.{Parts}

-- parts without the empty ones at the end
abbrev pub before_end : Part → List Part → List Part
before_end p [] = if is_empty_part p then [] else p ∷ []
before_end p (q ∷ qs) = p ∷ q ∷ qs

abbrev pub without_empty_end : List Part → List Part
without_empty_end [] = []
without_empty_end (p ∷ ps) = before_end p (without_empty_end ps)

-- All these places are below a number.
abbrev pub AreBelow : ℕ → List ℕ → Type 0
AreBelow n [] = Unit {0}
AreBelow n (i ∷ is) = (i < n) × AreBelow n is

-- the places of the pairs with a key
abbrev pub key_places : Parts → List ℕ → List ℕ
key_places parts key = places_of (stored_of parts.keys.places.entries key)

-- Nothing is stored of a key, and everything of the others.
pub record ForgetsKey (key : List ℕ) (old new : NamedKeys) : Type 0 where
  pub stored : (k : List ℕ) → stored_of new.places.entries k ≡ update bytes_eq (stored_of old.places.entries) key None k
  pub all : new.all ≡ old.all
  pub ordered : IsOrdered string_cmp new.places

-- Parts are left after the pairs in these places went, without the empty ones at the end. If there were such, the last
-- group is an empty line.
pub record LeavesParts (d : List ℕ) (places : List ℕ) (old new : Parts) : Type 0 where
  pub items : new.parts.items ≡ without_empty_end (taken_all d places old.parts.items)
  pub closing : new.closing ≡ (if nat_lt (length new.parts.items) (length (taken_all d places old.parts.items)) then Nothing else old.closing)

-- Where no pair has the key, all parts stay.
pub record KeepsParts (places : List ℕ) (old new : Parts) : Type 0 where
  pub none : places ≡ []
  pub parts : new.parts ≡ old.parts
  pub closing : new.closing ≡ old.closing

abbrev pub RemovesIf : Bool → List ℕ → List ℕ → Parts → Parts → Type 0
RemovesIf true d places old new = (places ≢ []) × LeavesParts d places old new
RemovesIf false d places old new = KeepsParts places old new

-- The pairs with a key went, if there were any.
abbrev pub RemovesPairs : List ℕ → List ℕ → Parts → Bool → Parts → Type 0
RemovesPairs d key old told new = ForgetsKey key old.keys new.keys × RemovesIf told d (key_places old key) old new
