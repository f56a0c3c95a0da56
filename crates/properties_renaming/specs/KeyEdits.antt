-- Edits of any kind in a list. Neighbours of one kind are a run, which is made at once; the runs are made in turn.
use Rattle.std.specs.Prelude.{◌≡◌, ◌⊎◌, ◌+◌, ℕ, Bool, true, false, List, [], ◌∷◌, ◌++◌, flat_map, length, map, string_bytes, Result, Ok, Err}
use Rattle.std.specs.Global.{Vec}
use Rattle.std.specs.Str.{chars}
use Rattle.properties_format.specs.Edits as format
use Rattle.properties_items.specs.Errors.{IsBareError}
use Rattle.properties_items.specs.declared.error.ErrorKind.TheVariants as kind
use Rattle.properties_items.specs.declared.error.PropertiesError.{PropertiesError}
use Rattle.properties_editing.specs.Editing.{EditsWith, edit_in}
use Rattle.properties_editing.specs.declared.source.SourceOptions.{SourceOptions}
use Rattle.properties_renaming.specs.Commented.{RemovesWithComments}
use Rattle.properties_renaming.specs.Commenting.{NewText, SetsComments, text_in}
use Rattle.properties_renaming.specs.Renames.{NewName, RenamesKeys, name_in}
use Rattle.properties_renaming.specs.declared.key_edits.KeyEdit as code
use Rattle.properties_renaming.specs.declared.key_edits.KeyEdit.TheVariants as variant
use Rattle.properties_renaming.specs.declared.renames.RenamesError.{RenamesError}
use Rattle.properties_renaming.specs.declared.renames.RenamesError.TheVariants.{Source, NoKey, KeyTaken}

-- an edit: one that sets or removes a key; a key and its new name; a key and its comment; a key that is removed with its
-- comments
pub data KeyEdit : Type 0 where
  edit : format.Edit → KeyEdit
  rename : NewName → KeyEdit
  set_comment : NewText → KeyEdit
  remove_with_comment : List ℕ → KeyEdit

-- the code's edits
abbrev pub key_edit_in : code.KeyEdit → KeyEdit
key_edit_in (variant.Edit e) = edit (edit_in e)
key_edit_in (variant.Rename r) = rename (name_in r)
key_edit_in (variant.SetComment c) = set_comment (text_in c)
key_edit_in (variant.RemoveWithComment key) = remove_with_comment (chars (string_bytes key))

abbrev pub key_edits_in : List code.KeyEdit → List KeyEdit
key_edits_in edits = map key_edit_in edits

-- ---- runs

-- whether both edits are of one kind
abbrev pub same_kind : KeyEdit → KeyEdit → Bool
same_kind (edit e) (edit f) = true
same_kind (rename n) (rename m) = true
same_kind (set_comment t) (set_comment u) = true
same_kind (remove_with_comment k) (remove_with_comment l) = true
same_kind e f = false

-- All of these are of the kind of an edit.
abbrev pub AreLike : KeyEdit → List KeyEdit → Type 0
AreLike e [] = Unit {0}
AreLike e (f ∷ fs) = (same_kind e f ≡ true) × AreLike e fs

-- These don't begin with one of its kind.
abbrev pub BeginUnlike : KeyEdit → List KeyEdit → Type 0
BeginUnlike e [] = Unit {0}
BeginUnlike e (f ∷ fs) = same_kind e f ≡ false

-- A run before other edits: all that are of one kind, up to the first of another one.
abbrev pub IsRun : List KeyEdit → List KeyEdit → Type 0
IsRun [] after = ⊥
IsRun (e ∷ es) after = AreLike e es × BeginUnlike e after

-- The edits are these runs, in order.
abbrev pub AreRuns : List KeyEdit → List (List KeyEdit) → Type 0
AreRuns es [] = es ≡ []
AreRuns es (run ∷ runs) = (after : List KeyEdit) × (es ≡ run ++ after) × IsRun run after × AreRuns after runs

-- A list is divided into these runs. An empty list is one empty run.
abbrev pub AreRunsOf : List KeyEdit → List (List KeyEdit) → Type 0
AreRunsOf [] runs = runs ≡ [] ∷ []
AreRunsOf (e ∷ es) runs = AreRuns (e ∷ es) runs

-- ---- what a run gives

-- the edits of each kind among these
abbrev pub edits_among : List KeyEdit → List format.Edit
edits_among [] = []
edits_among (edit e ∷ es) = e ∷ edits_among es
edits_among (other ∷ es) = edits_among es

abbrev pub renames_among : List KeyEdit → List NewName
renames_among [] = []
renames_among (rename name ∷ es) = name ∷ renames_among es
renames_among (other ∷ es) = renames_among es

abbrev pub comments_among : List KeyEdit → List NewText
comments_among [] = []
comments_among (set_comment text ∷ es) = text ∷ comments_among es
comments_among (other ∷ es) = comments_among es

abbrev pub removals_among : List KeyEdit → List (List ℕ)
removals_among [] = []
removals_among (remove_with_comment key ∷ es) = key ∷ removals_among es
removals_among (other ∷ es) = removals_among es

-- The call returned bytes, or an error of the source.
abbrev pub Returns : (Result (Vec ℕ) PropertiesError → Type 0) → Result (Vec ℕ) RenamesError → Type 0
Returns Makes (Ok bytes) = Makes (Ok bytes)
Returns Makes (Err (Source error)) = Makes (Err error)
Returns Makes (Err other) = ⊥

-- What a run gives, by the kind of its edits.
abbrev pub MakesRun : SourceOptions → List ℕ → List KeyEdit → Result (Vec ℕ) RenamesError → Type 0
MakesRun options source [] result = Returns (EditsWith options source []) result
MakesRun options source (edit e ∷ es) result = Returns (EditsWith options source (edits_among (edit e ∷ es))) result
MakesRun options source (rename name ∷ es) result = RenamesKeys options source (renames_among (rename name ∷ es)) result
MakesRun options source (set_comment text ∷ es) result = SetsComments options source (comments_among (set_comment text ∷ es)) result
MakesRun options source (remove_with_comment key ∷ es) result =
    Returns (RemovesWithComments options source (removals_among (remove_with_comment key ∷ es))) result

-- ---- runs in turn

-- Runs leave these bytes: each is made to those that the one before it left.
abbrev pub Leave : SourceOptions → List ℕ → List (List KeyEdit) → List ℕ → Type 0
Leave options source [] bytes = bytes ≡ source
Leave options source (run ∷ runs) bytes = (left : Vec ℕ) × MakesRun options source run (Ok left) × Leave options left.items runs bytes

-- the edits of these runs
abbrev pub edits_in_runs : List (List KeyEdit) → List KeyEdit
edits_in_runs runs = flat_map (λ run. run) runs

-- the error of a run after so many edits, with the index in the whole list
abbrev pub error_after : ℕ → RenamesError → RenamesError
error_after count (Source error) = Source error
error_after count (NoKey index) = NoKey (count + index)
error_after count (KeyTaken index number) = KeyTaken (count + index) number

-- The runs are made up to one that fails, with an error that tells the index of its edit.
pub record FailsAt (options : SourceOptions) (source : List ℕ) (es : List KeyEdit) (error : RenamesError) : Type 0 where
  pub before : List (List KeyEdit)
  pub failed : List KeyEdit
  pub after : List (List KeyEdit)
  pub runs : AreRunsOf es (before ++ failed ∷ after)
  pub left : List ℕ
  pub leave : Leave options source before left
  pub reason : RenamesError
  pub fails : MakesRun options left failed (Err reason)
  pub is : error ≡ error_after (length (edits_in_runs before)) reason

-- Memory ran out.
abbrev pub IsMemoryError : RenamesError → Type 0
IsMemoryError (Source error) = IsBareError kind.Memory error
IsMemoryError other = ⊥

-- The source after these edits; or the error of the first run that fails, or memory ran out.
abbrev pub MakesKeyEdits : SourceOptions → List ℕ → List KeyEdit → Result (Vec ℕ) RenamesError → Type 0
MakesKeyEdits options source es (Ok bytes) = (runs : List (List KeyEdit)) × AreRunsOf es runs × Leave options source runs bytes.items
MakesKeyEdits options source es (Err error) = FailsAt options source es error ⊎ IsMemoryError error
