-- Parts of a body of which one gets other bytes, and a part that is added behind them.
use Rattle.std.specs.Prelude.{◌≡◌, ◌<◌, ◌⊎◌, ℕ, ◌+◌, ◌-◌, Bool, true, false, if◌then◌else◌, List, [], ◌∷◌, ◌++◌, length, take, drop, get_or, Option, Some, None, Result, Ok, Err, bytes_eq}
use Rattle.std.specs.Global.{Vec, Global}
use Rattle.std.specs.declared.string.String.{String}
use Rattle.std.specs.Option.{option_and, option_map, option_or}
use Rattle.std.specs.Map.{update}
use Rattle.std.specs.BTreeMap.{IsOrdered}
use Rattle.std.specs.String.{string_cmp}
use Rattle.properties_items.specs.declared.line.LineEnding.{LineEnding}
use Rattle.properties_editing.specs.declared.groups.Closing.{Closing}
use Rattle.properties_editing.specs.declared.groups.Closing.TheVariants as closing
use Rattle.properties_editing.specs.declared.parts.PartText.TheVariants as text
use Rattle.properties_editing.specs.declared.parts.PartKind.{PartKind}
use Rattle.properties_editing.specs.declared.parts.PartKind.TheVariants as kind
use Rattle.properties_editing.specs.declared.parts.Part.{Part}
use Rattle.properties_editing.specs.declared.parts.KeyPlaces.{KeyPlaces}
use Rattle.properties_editing.specs.declared.parts.NamedKeys.{NamedKeys}
use Rattle.properties_editing.specs.declared.parts.Parts.{Parts}
use Rattle.properties_editing.specs.Private.BodyParts.{HasPlaceAdded, ended_bytes, is_named, no_part, places_of, stored_of, part_text_bytes, value_of}

-- the last of some places
abbrev pub last_place : List ℕ → Option ℕ
last_place [] = None
last_place (i ∷ is) = option_or (last_place is) (Some i)

-- the place of the last pair with a key
abbrev pub key_place : NamedKeys → List ℕ → Option ℕ
key_place keys key = last_place (places_of (stored_of keys.places.entries key))

-- ---- a part gets other bytes

-- a part with these bytes
abbrev pub part_with_bytes : Vec ℕ → Part → Part
part_with_bytes bytes p = record { text = text.Own bytes; ending = p.ending; kind = p.kind }

abbrev pub with_value : String Global → KeyPlaces → KeyPlaces
with_value value p = record { places = p.places; value = value }

-- what separates a new pair from the last group, after a part that ends so got the bytes of a closed group: the last
-- group is the one without a line ending
abbrev pub closing_after_new : Option LineEnding → Closing → Closing
closing_after_new None old = closing.OneEnding
closing_after_new (Some ending) old = old

-- The last pair with a key has another value.
pub record HasNewValue (key : List ℕ) (value : String Global) (old new : NamedKeys) : Type 0 where
  pub stored : (k : List ℕ) → stored_of new.places.entries k
      ≡ update bytes_eq (stored_of old.places.entries) key (option_map (with_value value) (stored_of old.places.entries key)) k
  pub ordered : IsOrdered string_cmp new.places
  pub all : new.all ≡ old.all

-- The part in a place has other bytes, and the key another value.
pub record HasBytes (place : ℕ) (key : List ℕ) (bytes : Vec ℕ) (value : String Global) (old new : Parts) : Type 0 where
  pub parts : new.parts.items
      ≡ take place old.parts.items ++ part_with_bytes bytes (get_or old.parts.items place no_part) ∷ drop (place + 1) old.parts.items
  pub keys : HasNewValue key value old.keys new.keys
  pub closing : new.closing ≡ closing_after_new (get_or old.parts.items place no_part).ending old.closing

-- ---- a pair is added behind the parts

-- The last part with this text, which ends in the line ending that closes its group. That of a pair comes behind the
-- text.
abbrev pub closed_as : Vec ℕ → LineEnding → PartKind → Part
closed_as bytes by kind.Pair = record { text = text.Own bytes; ending = Some by; kind = kind.Pair }
closed_as bytes by (kind.Others last) =
    let end = length bytes.items - length (ended_bytes (Some by)) in
    record { text = text.Own bytes; ending = None; kind = kind.Others (option_and last (Some (record { start = 0; end = end }))) }

-- whether a part is a pair with a key that is named
abbrev pub is_pair : PartKind → Bool
is_pair kind.Pair = true
is_pair (kind.Others last) = false

-- its bytes, where `opened` ends a line that is left open
abbrev pub closed_bytes : List ℕ → List ℕ → LineEnding → Part → List ℕ
closed_bytes d opened by p = part_text_bytes d p.text ++ (opened ++ (ended_bytes (if is_pair p.kind then None else Some by)))

pub record ClosesPart (d opened : List ℕ) (by : LineEnding) (old new : Part) : Type 0 where
  pub bytes : Vec ℕ
  pub are_bytes : bytes.items ≡ closed_bytes d opened by old
  pub part : new ≡ closed_as bytes by old.kind

-- what ends a line that is left open
abbrev pub opened_by : LineEnding → Closing → List ℕ
opened_by by closing.TwoEndings = ended_bytes (Some by)
opened_by by other = []

-- whether the last group has to be closed
abbrev pub has_to_close : Closing → Bool
has_to_close closing.Nothing = false
has_to_close other = true

-- The last part, closed, if it has to be.
abbrev pub ClosesLast : List ℕ → LineEnding → Closing → List Part → Option Part → Type 0
ClosesLast d by closing ps None = (length ps ≡ 0) ⊎ (has_to_close closing ≡ false)
ClosesLast d by closing ps (Some p) =
    (has_to_close closing ≡ true) × (0 < length ps) × ClosesPart d (opened_by by closing) by (get_or ps (length ps - 1) no_part) p

-- parts with another last part, if it is given
abbrev pub with_last : Option Part → List Part → List Part
with_last (Some p) (q ∷ []) = p ∷ []
with_last (Some p) (q ∷ r ∷ qs) = q ∷ with_last (Some p) (r ∷ qs)
with_last p qs = qs

-- The keys have the same places and values.
pub record AreKeysKept (old new : NamedKeys) : Type 0 where
  pub places : (k : List ℕ) → places_of (stored_of new.places.entries k) ≡ places_of (stored_of old.places.entries k)
  pub values : (k : List ℕ) → value_of (stored_of new.places.entries k) ≡ value_of (stored_of old.places.entries k)
  pub named : (k : List ℕ) → is_named new k ≡ is_named old k
  pub ordered : IsOrdered string_cmp new.places
  pub all : new.all ≡ old.all

-- The last group was closed by a line ending, and a pair of these bytes was added behind it.
pub record HasAdded (d : List ℕ) (key value : List ℕ) (by : LineEnding) (bytes : Vec ℕ) (ending : LineEnding) (old new : Parts) : Type 0 where
  pub closed : Option Part
  pub closes : ClosesLast d by old.closing old.parts.items closed
  pub parts : new.parts.items ≡ with_last closed old.parts.items ++ record { text = text.Own bytes; ending = Some ending; kind = kind.Pair } ∷ []
  pub keys : HasPlaceAdded key value (length old.parts.items) old.keys new.keys
  pub closing : new.closing ≡ closing.Nothing

-- Nothing changed.
pub record IsAsBefore (old new : Parts) : Type 0 where
  pub parts : new.parts.items ≡ old.parts.items
  pub keys : AreKeysKept old.keys new.keys
  pub closing : new.closing ≡ old.closing

-- A pair was added; or memory ran out, and nothing changed if the key is new.
abbrev pub AddsPair : {E : Type 0} → List ℕ → List ℕ → List ℕ → LineEnding → Vec ℕ → LineEnding → Parts → Result Unit E → Parts → Type 0
AddsPair d key value by bytes ending old (Ok done) new = HasAdded d key value by bytes ending old new
AddsPair d key value by bytes ending old (Err error) new = key_place old.keys key ≡ None → IsAsBefore old new
