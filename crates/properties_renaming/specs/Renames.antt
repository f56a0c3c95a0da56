-- A source with several keys renamed in turn: each rename is made to what those before it left.
use Rattle.std.specs.Prelude.{◌≡◌, ◌≢◌, ◌⊎◌, ℕ, List, [], ◌∷◌, ◌++◌, length, map, string_bytes, Result, Ok, Err}
use Rattle.std.specs.Str.{chars}
use Rattle.std.specs.Global.{Vec}
use Rattle.properties_items.specs.Errors.{IsBareError}
use Rattle.properties_items.specs.declared.error.ErrorKind.TheVariants as kind
use Rattle.properties_editing.specs.Editing.{EditsWith, asked_for}
use Rattle.properties_editing.specs.declared.source.SourceOptions.{SourceOptions}
use Rattle.properties_renaming.specs.Renaming.{HasNewName, IsEditable, IsTaken, LacksKey}
use Rattle.properties_renaming.specs.declared.renames.Rename.{Rename}
use Rattle.properties_renaming.specs.declared.renames.RenamesError.{RenamesError}
use Rattle.properties_renaming.specs.declared.renames.RenamesError.TheVariants.{Source, NoKey, KeyTaken}

-- a key and its new name
pub record NewName : Type 0 where
  pub old : List ℕ
  pub new : List ℕ

abbrev pub new_name : List ℕ → List ℕ → NewName
new_name old new = record { old = old; new = new }

abbrev pub name_in : Rename → NewName
name_in rename = new_name (chars (string_bytes rename.old)) (chars (string_bytes rename.new))

abbrev pub names_in : List Rename → List NewName
names_in renames = map name_in renames

-- The result is the source after these renames in turn.
abbrev pub AreRenamedInTurn : SourceOptions → List ℕ → List NewName → List ℕ → Type 0
AreRenamedInTurn options source [] result = result ≡ source
AreRenamedInTurn options source (n ∷ ns) result = (next : List ℕ) × HasNewName options source n.old n.new next × AreRenamedInTurn options next ns result

-- The rename with this index is refused, for this reason, by what those before it left.
pub record IsRefusedAt (options : SourceOptions) (source : List ℕ) (names : List NewName) (index : ℕ) (IsRefused : List ℕ → NewName → Type 0) : Type 0 where
  pub before : List NewName
  pub name : NewName
  pub after : List NewName
  pub division : names ≡ before ++ name ∷ after
  pub index_is : index ≡ length before
  pub left : List ℕ
  pub made : AreRenamedInTurn options source before left
  pub refused : IsRefused left name

-- The source after these renames in turn; or one of them is refused by what those before it left: no pair has its key,
-- or one has its new key, in this line of what they left; or an edit of the source would be refused with this error, or
-- memory ran out.
abbrev pub RenamesKeys : SourceOptions → List ℕ → List NewName → Result (Vec ℕ) RenamesError → Type 0
RenamesKeys options source names (Ok bytes) = IsEditable options source × AreRenamedInTurn options source names bytes.items
RenamesKeys options source names (Err (NoKey index)) =
    IsEditable options source × IsRefusedAt options source names index (λ left name. LacksKey (asked_for options).encoding left name.old)
RenamesKeys options source names (Err (KeyTaken index number)) =
    IsEditable options source
    × IsRefusedAt options source names index
    (λ left name. (name.old ≢ name.new) × IsTaken (asked_for options).encoding left name.old name.new number)
RenamesKeys options source names (Err (Source error)) = EditsWith options source [] (Err error) ⊎ IsEditable options source × IsBareError kind.Memory error
