-- The keys of parts, each in the position of its first pair.
use Rattle.std.specs.Prelude.{◌≡◌, ℕ, List, ◌∷◌, Option, Some, None, filter_map, get_or, length, map}
use Rattle.std.specs.Borrow.{Bor}
use Rattle.std.specs.Option.{option_map}
use Rattle.std.specs.Str.{chars}
use Rattle.std.specs.declared.string.String.{String}
use Rattle.properties_format.specs.Computed.Maps.{AreFirstOf}
use Rattle.properties_editing.specs.Documents.{characters_of}
use Rattle.properties_editing.specs.Private.BodyParts.{ArePlaced, Said, places_of, stored_of}
use Rattle.properties_editing.specs.declared.parts.KeyPlaces.{KeyPlaces}
use Rattle.properties_editing.specs.declared.parts.Parts.{Parts}

-- The keys of parts have the places of their pairs. `said` has the pair of each part, or `None`.
pub record HavePlaces (parts : Parts) : Type 0 where
  pub said : List Said
  pub size : length parts.parts.items ≡ length said
  pub placed : ArePlaced said parts.keys

-- the key of what is a pair
abbrev pub said_key : Said → Option (List ℕ)
said_key None = None
said_key (Some (key, value)) = Some key

-- These are the keys of the pairs, each once, in the order of their first pairs.
abbrev pub HasKeysOf : Parts → List (Bor (List ℕ)) → Type 0
HasKeysOf parts keys = (said : List Said) → ArePlaced said parts.keys → AreFirstOf (filter_map said_key said) (characters_of keys)

-- ---- the places of the first pairs

-- The first pair with the key is in this place.
abbrev pub IsFirstIn : {Y : Type 0} → List (String Y × KeyPlaces) → List ℕ → ℕ → Type 0
IsFirstIn entries key i = (rest : List ℕ) × (places_of (stored_of entries key) ≡ i ∷ rest)

-- At each place: the key whose first pair is there, if there is one.
pub record AreFirsts {Y : Type 0} (entries : List (String Y × KeyPlaces)) (firsts : List (Option (List ℕ))) : Type 0 where
  pub only : (i : ℕ) (key : List ℕ) → get_or firsts i None ≡ Some key → IsFirstIn entries key i
  pub every : (key : List ℕ) (i : ℕ) → IsFirstIn entries key i → get_or firsts i None ≡ Some key

-- the characters of the key at a place, if there is one
abbrev pub key_at : Option (Bor (List ℕ)) → Option (List ℕ)
key_at place = option_map (λ key. chars key.now) place

-- So it is of borrowed texts.
abbrev pub AreKeysAt : {Y : Type 0} → List (String Y × KeyPlaces) → List (Option (Bor (List ℕ))) → Type 0
AreKeysAt entries firsts = AreFirsts entries (map key_at firsts)
