-- What a change gives: the bytes of a source after it.
use Rattle.std.specs.Prelude.{◌≡◌, ◌⊎◌, ℕ, List, [], ◌∷◌, ◌++◌, Result, Ok, Err, map, ◌≢◌, Option, Some, None}
use Rattle.std.specs.Global.{Global, Vec}
use Rattle.std.specs.declared.string.String.{String}
use Rattle.properties_format.specs.Converting.{IsConverted}
use Rattle.properties_format.specs.Edits.{IsEditPairsResult, put, remove, set_value}
use Rattle.properties_format.specs.Edits as format
use Rattle.properties_format.specs.Encoding.{Encoding, Repertoire, characters_for}
use Rattle.properties_text.specs.Converted.{is_readable}
use Rattle.properties_text.specs.Printing.{in_format}
use Rattle.java_properties.specs.Editing.{ArePairsMade, IsRefusal, edits_in}
use Rattle.java_properties.specs.Maps.{characters}
use Rattle.properties_items.specs.declared.error.PropertiesError.{PropertiesError}
use Rattle.properties_changing.specs.Commenting.{SetsComments}
use Rattle.properties_tables.specs.Failures.{IsMemoryFailure}
use Rattle.properties_changing.specs.Keys.{HoldsKey, HoldsKeys, HoldsNoKey, IsFirstAbsent}
use Rattle.properties_changing.specs.Removing.{Removes}
use Rattle.properties_changing.specs.Renaming.{Renames}
use Rattle.properties_tables.specs.Sources.{HasSoundBytes, HasUnsoundBytes, IsSound, IsUnsound}
use Rattle.properties_changing.specs.declared.request.AbsentKeys.{AbsentKeys}
use Rattle.properties_changing.specs.declared.request.AbsentKeys.TheVariants as absent
use Rattle.properties_changing.specs.declared.request.Change.{Change}
use Rattle.properties_changing.specs.declared.request.Change.TheVariants as change
use Rattle.properties_changing.specs.declared.request.Conversion.{Conversion}
use Rattle.properties_changing.specs.declared.request.Edits.{Edits}
use Rattle.properties_changing.specs.declared.request.Step.{Step}
use Rattle.properties_changing.specs.declared.request.Step.TheVariants as step
use Rattle.properties_changing.specs.declared.request.Steps.{Steps}
use Rattle.properties_tables.specs.declared.error.Failure.{Failure}
use Rattle.properties_tables.specs.declared.error.Failure.TheVariants.{Absent, Input}
use Rattle.std.specs.Borrow.{Bor}
use Rattle.std.specs.Str.{chars}

-- ---- keys of edits

-- the key that an edit sets or removes
abbrev pub edited_key : format.Edit → List ℕ
edited_key (put key value) = key
edited_key (remove key) = key
edited_key (set_value key value) = key

-- the keys of edits, in order
abbrev pub edited_keys : List format.Edit → List (List ℕ)
edited_keys edits = map edited_key edits

-- ---- edits

-- what may stand unescaped in what edits put in
abbrev pub edits_repertoire : Encoding → Edits → Repertoire
edits_repertoire e edits = record { encoding = e; characters = characters_for edits.ascii_only edits.latin_1 }

-- ---- keys that no pair has

-- These are the edits of which a pair of the source has the key, in order.
abbrev pub AreKnown : Encoding → List ℕ → List format.Edit → List format.Edit → Type 0
AreKnown e source [] known = known ≡ []
AreKnown e source (edit ∷ edits) known =
    (HoldsKey e source (edited_key edit) × ((others : List format.Edit) × AreKnown e source edits others × (known ≡ edit ∷ others)))
    ⊎ (HoldsNoKey e source (edited_key edit) × AreKnown e source edits known)

-- These of the edits are made: all of them, for which a pair of the source may have to have each key; or those of keys
-- that a pair has.
abbrev pub AreChosen : AbsentKeys → Encoding → List ℕ → List format.Edit → List format.Edit → Type 0
AreChosen absent.Added e source edits chosen = chosen ≡ edits
AreChosen absent.Refused e source edits chosen = (chosen ≡ edits) × HoldsKeys e source (edited_keys edits)
AreChosen absent.LeftOut e source edits chosen = AreKnown e source edits chosen

-- The source is sound, and these are its bytes after the edits that are made.
pub record MakesEdits (e : Encoding) (source : List ℕ) (edits : Edits) (bytes : List ℕ) : Type 0 where
  pub sound : IsSound e source
  pub chosen : List format.Edit
  pub are_chosen : AreChosen edits.absent e source (edits_in edits.list.items) chosen
  pub made : ArePairsMade (edits_repertoire e edits) source chosen bytes

-- The source is sound, but the edits aren't made: its encoding is not one that is edited, or memory ran out.
pub record RefusesEdits (e : Encoding) (source : List ℕ) (edits : Edits) (failure : Failure) : Type 0 where
  pub sound : IsSound e source
  pub error : PropertiesError
  pub refused : IsRefusal (IsEditPairsResult (edits_repertoire e edits) source (edits_in edits.list.items)) error
  pub is : failure ≡ Input error

-- The source is sound, and the edits can be made. But a pair of it has to have each of their keys, and this is the first of
-- them that none has.
pub record RefusesAbsent (e : Encoding) (source : List ℕ) (edits : Edits) (failure : Failure) : Type 0 where
  pub sound : IsSound e source
  pub asked : edits.absent ≡ absent.Refused
  pub bytes : List ℕ
  pub made : ArePairsMade (edits_repertoire e edits) source (edits_in edits.list.items) bytes
  pub key : String Global
  pub first : IsFirstAbsent e source (edited_keys (edits_in edits.list.items)) (characters key)
  pub is : failure ≡ Absent key

-- What making edits returns.
abbrev pub ChangesByEdits : Encoding → List ℕ → Edits → Result (Vec ℕ) Failure → Type 0
ChangesByEdits e source edits (Ok bytes) = MakesEdits e source edits bytes.items
ChangesByEdits e source edits (Err failure) = IsUnsound e source failure ⊎ (RefusesAbsent e source edits failure ⊎ RefusesEdits e source edits failure)

-- ---- steps

-- What a step returns.
abbrev pub ChangesByStep : Encoding → List ℕ → Step → Result (Vec ℕ) Failure → Type 0
ChangesByStep e source (step.Edits edits) result = ChangesByEdits e source edits result
ChangesByStep e source (step.Removal removal) result = Removes e source removal result
ChangesByStep e source (step.Renaming renaming) result = Renames e source renaming result
ChangesByStep e source (step.NewComments comments) result = SetsComments e source comments result

abbrev pub in_order : Steps → List Step
in_order steps = steps.first ∷ steps.others.items

-- Steps of a source leave these bytes: each is made to those that the one before it left.
abbrev pub Leave : Encoding → List ℕ → List Step → List ℕ → Type 0
Leave e source [] bytes = bytes ≡ source
Leave e source (s ∷ steps) bytes = (left : Vec ℕ) × ChangesByStep e source s (Ok left) × Leave e left.items steps bytes

-- The steps are made up to one that fails.
pub record FailsAt (e : Encoding) (source : List ℕ) (steps : List Step) (failure : Failure) : Type 0 where
  pub before : List Step
  pub failed : Step
  pub after : List Step
  pub division : steps ≡ before ++ failed ∷ after
  pub left : List ℕ
  pub leave : Leave e source before left
  pub fails : ChangesByStep e left failed (Err failure)

-- What making steps in turn returns.
abbrev pub ChangesInTurn : Encoding → List ℕ → List Step → Result (Vec ℕ) Failure → Type 0
ChangesInTurn e source steps (Ok bytes) = Leave e source steps bytes.items
ChangesInTurn e source steps (Err failure) = FailsAt e source steps failure

-- ---- a conversion

-- The bytes of the source are sound, and these are those after the conversion.
pub record MakesConversion (e : Encoding) (source : List ℕ) (c : Conversion) (bytes : List ℕ) : Type 0 where
  pub sound : HasSoundBytes e source
  pub converted : IsConverted e (in_format c.target) (is_readable c.spelling) source bytes

-- What converting returns. A source with sound bytes is refused only if memory runs out.
abbrev pub Converts : Encoding → List ℕ → Conversion → Result (Vec ℕ) Failure → Type 0
Converts e source c (Ok bytes) = MakesConversion e source c bytes.items
Converts e source c (Err failure) = HasUnsoundBytes e source failure ⊎ IsMemoryFailure failure

-- ---- any of them

-- What a change returns.
abbrev pub Changes : Encoding → List ℕ → Change → Result (Vec ℕ) Failure → Type 0
Changes e source (change.Edits edits) result = ChangesByEdits e source edits result
Changes e source (change.Steps steps) result = ChangesInTurn e source (in_order steps) result
Changes e source (change.Conversion c) result = Converts e source c result

-- What replaces a source: its bytes after the change, which aren't its own, or nothing where they are.
abbrev pub Replaces : Encoding → List ℕ → Change → Result (Option (Vec ℕ)) Failure → Type 0
Replaces e source change (Ok (Some bytes)) = Changes e source change (Ok bytes) × (bytes.items ≢ source)
Replaces e source change (Ok None) = (bytes : Vec ℕ) × Changes e source change (Ok bytes) × (bytes.items ≡ source)
Replaces e source change (Err failure) = Changes e source change (Err failure)

-- the characters of a text that is borrowed
abbrev pub borrowed_characters : Bor (List ℕ) → List ℕ
borrowed_characters text = chars text.now
