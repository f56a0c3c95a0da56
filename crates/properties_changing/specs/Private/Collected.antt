-- How keys are looked up for edits.
use Rattle.std.specs.Prelude.{◌≡◌, ◌⊎◌, ℕ, List, [], Option, Some, None, Result, Ok, Err, ◌∷◌}
use Rattle.std.specs.{Global.Vec, Global.Global, declared.string.String.String, Borrow.Bor, Str.chars}
use Rattle.properties_format.specs.{Encoding.Encoding, Edits.Edit}
use Rattle.properties_tables.specs.{Sources.IsSound, Sources.IsUnsound, Sources.first_in_pair, Failures.IsMemoryFailure, Values.SaysMalformed, declared.error.Failure.Failure}
use Rattle.properties_tables.specs.declared.error.Failure.TheVariants.{Absent}
use Rattle.java_properties.specs.{Maps.characters, Editing.edits_in, Editing.ArePairsMade}
use Rattle.properties_editing.specs.declared.edit.Edit as editor
use Rattle.properties_changing.specs.{Change.edits_repertoire, Change.AreKnown, Change.RefusesEdits, Keys.HoldsKeys, Keys.IsFirstAbsent}
use Rattle.properties_changing.specs.declared.request.Edits.{Edits}

-- ---- keys that no pair has

-- the first of these keys that has no value
abbrev pub first_without : List (List ℕ) → List (Option (List ℕ)) → Option (List ℕ)
first_without (key ∷ keys) (Some value ∷ values) = first_without keys values
first_without (key ∷ keys) (None ∷ values) = Some key
first_without keys values = None

-- The failure says that no pair of the source has this key, which is the first of these.
pub record SaysAbsent (e : Encoding) (source : List ℕ) (keys : List (List ℕ)) (failure : Failure) : Type 0 where
  pub key : String Global
  pub first : IsFirstAbsent e source keys (characters key)
  pub is : failure ≡ Absent key

-- What refusing such a key returns. Otherwise, in a sound source, memory ran out.
abbrev pub RefusesIfAbsent : Encoding → List ℕ → List (List ℕ) → Result Unit Failure → Type 0
RefusesIfAbsent e source keys (Ok done) = HoldsKeys e source keys
RefusesIfAbsent e source keys (Err failure) = SaysAbsent e source keys failure ⊎ (IsSound e source → IsMemoryFailure failure)

-- ---- edits

-- those of the edits that have a value in their place
abbrev pub with_values : List Edit → List (Option (List ℕ)) → List Edit
with_values (edit ∷ edits) (Some value ∷ values) = edit ∷ with_values edits values
with_values (edit ∷ edits) (None ∷ values) = with_values edits values
with_values edits values = []

-- What making these of the edits of a source with sound bytes returns.
abbrev pub MakesList : Encoding → List ℕ → Edits → List Edit → Result (Vec ℕ) Failure → Type 0
MakesList e source edits list (Ok bytes) = IsSound e source × ArePairsMade (edits_repertoire e edits) source list bytes.items
MakesList e source edits list (Err failure) = IsUnsound e source failure ⊎ RefusesEdits e source edits failure

-- What looking for those of keys that a pair has returns.
abbrev pub FindsKnown : Encoding → List ℕ → List Edit → Result (Vec editor.Edit) Failure → Type 0
FindsKnown e source edits (Ok known) = AreKnown e source edits (edits_in known.items)
FindsKnown e source edits (Err failure) = IsUnsound e source failure

-- What looking for the first key that no pair has returns.
abbrev pub FindsAbsent : Encoding → List ℕ → List (List ℕ) → Result (Option (Bor (List ℕ))) Failure → Type 0
FindsAbsent e source keys (Ok None) = HoldsKeys e source keys
FindsAbsent e source keys (Ok (Some key)) = IsFirstAbsent e source keys (chars key.now)
FindsAbsent e source keys (Err failure) = SaysMalformed e source failure ⊎ IsMemoryFailure failure
