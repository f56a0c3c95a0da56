-- What removing keys with their comments gives: the bytes of a source without the pairs that have one of them and without the comment
-- lines directly above each of them.
use Rattle.std.specs.Prelude.{◌≡◌, ◌⊎◌, ℕ, List, [], map, Result, Ok, Err}
use Rattle.std.specs.Global.{Vec}
use Rattle.properties_format.specs.Edits.{IsEditPairsResult}
use Rattle.properties_format.specs.Encoding.{Encoding, all_of}
use Rattle.java_properties.specs.Maps.{characters}
use Rattle.properties_editing.specs.Editing.{IsRefusal}
use Rattle.properties_renaming.specs.Commented.{IsRemovedWithComments}
use Rattle.properties_changing.specs.Keys.{HoldsKeys, IsFirstAbsent}
use Rattle.properties_changing.specs.Renaming.{IsEditable}
use Rattle.properties_tables.specs.Sources.{IsSound, IsUnsound}
use Rattle.properties_changing.specs.declared.request.AbsentKeys.{AbsentKeys}
use Rattle.properties_changing.specs.declared.request.AbsentKeys.TheVariants.{Refused}
use Rattle.properties_changing.specs.declared.request.Removal.{Removal}
use Rattle.properties_tables.specs.declared.error.Failure.{Failure}
use Rattle.properties_tables.specs.declared.error.Failure.TheVariants.{Absent, Input}

-- A pair of the source has each of the keys, if one has to.
abbrev pub MayBeRemoved : AbsentKeys → Encoding → List ℕ → List (List ℕ) → Type 0
MayBeRemoved Refused e source keys = HoldsKeys e source keys
MayBeRemoved other e source keys = Unit {0}

-- A sound source isn't edited, since its encoding is not one that is, or memory ran out.
abbrev pub IsNotEdited : Encoding → List ℕ → Failure → Type 0
IsNotEdited e source (Input error) = IsSound e source × IsRefusal (IsEditPairsResult (all_of e) source []) error
IsNotEdited e source other = ⊥

-- What leaving out the pairs with these keys and their comment lines returns. A source that isn't sound is refused first.
abbrev pub Leaves : Encoding → List ℕ → List (List ℕ) → Result (Vec ℕ) Failure → Type 0
Leaves e source keys (Ok bytes) = IsEditable (all_of e) source × IsRemovedWithComments e source keys bytes.items
Leaves e source keys (Err failure) = IsUnsound e source failure ⊎ IsNotEdited e source failure

-- the keys that are removed
abbrev pub removed_keys : Removal → List (List ℕ)
removed_keys r = map characters r.keys.items

-- The source can be edited, but each key has to be that of a pair, and this is the first that no pair has.
abbrev pub LacksRequired : Encoding → List ℕ → Removal → Failure → Type 0
LacksRequired e source r (Absent key) =
    (r.absent ≡ Refused) × IsEditable (all_of e) source × IsFirstAbsent e source (removed_keys r) (characters key)
LacksRequired e source r other = ⊥

-- What removing keys with their comments returns. The keys that are missing are looked for last.
abbrev pub Removes : Encoding → List ℕ → Removal → Result (Vec ℕ) Failure → Type 0
Removes e source r (Ok bytes) = Leaves e source (removed_keys r) (Ok bytes) × MayBeRemoved r.absent e source (removed_keys r)
Removes e source r (Err failure) = Leaves e source (removed_keys r) (Err failure) ⊎ LacksRequired e source r failure
