-- What the parts of a list of edits return.
use Rattle.std.specs.Prelude.{◌≡◌, ◌⊎◌, ◌<◌, ◌≤◌, ℕ, List, [], ◌∷◌, length, take, drop, Result, Ok, Err}
use Rattle.std.specs.Global.{Vec}
use Rattle.properties_items.specs.declared.error.PropertiesError.{PropertiesError}
use Rattle.properties_editing.specs.declared.source.SourceOptions.{SourceOptions}
use Rattle.properties_renaming.specs.KeyEdits.{IsMemoryError, IsRun, KeyEdit, MakesRun, Returns}
use Rattle.properties_renaming.specs.declared.renames.RenamesError.{RenamesError}
use Rattle.properties_renaming.specs.declared.renames.RenamesError.TheVariants.{Source, NoKey, KeyTaken}

-- So many edits are the first run of a list, which has none only if the list is empty.
abbrev pub HasRunSize : List KeyEdit → ℕ → Type 0
HasRunSize [] size = size ≡ 0
HasRunSize (e ∷ es) size = (size ≤ length (e ∷ es)) × IsRun (take size (e ∷ es)) (drop size (e ∷ es))

-- A call returned what this says of it, or memory ran out.
abbrev pub GivesOrFails : (Result (Vec ℕ) PropertiesError → Type 0) → Result (Vec ℕ) RenamesError → Type 0
GivesOrFails Makes (Ok bytes) = Returns Makes (Ok bytes)
GivesOrFails Makes (Err error) = Returns Makes (Err error) ⊎ IsMemoryError error

-- The same of a run.
abbrev pub RunsOrFails : SourceOptions → List ℕ → List KeyEdit → Result (Vec ℕ) RenamesError → Type 0
RunsOrFails options source es (Ok bytes) = MakesRun options source es (Ok bytes)
RunsOrFails options source es (Err error) = MakesRun options source es (Err error) ⊎ IsMemoryError error

-- The index of the error is less than this.
abbrev pub IsIndexBelow : ℕ → RenamesError → Type 0
IsIndexBelow size (Source error) = Unit {0}
IsIndexBelow size (NoKey index) = index < size
IsIndexBelow size (KeyTaken index number) = index < size
