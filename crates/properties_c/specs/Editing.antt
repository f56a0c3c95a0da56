-- What the export that edits gives.
use Rattle.std.specs.Prelude.{◌⊎◌, ℕ, Bool, List, Result, Ok, Err}
use Rattle.std.specs.Global.{Vec}
use Rattle.properties_format.specs.Encoding.{Encoding}
use Rattle.properties_renaming.specs.KeyEdits.{KeyEdit, MakesKeyEdits}
use Rattle.properties_renaming.specs.declared.renames.RenamesError.{RenamesError}
use Rattle.properties_renaming.specs.declared.renames.RenamesError.TheVariants as error
use Rattle.properties_c.specs.Crossing.{Crossing, Delivers, Fails, RefusesCall, RefusesEdit}
use Rattle.properties_c.specs.Inputs.{InEncoding, WithFlags, WithSource, for_conversions, for_edits, ToTarget}
use Rattle.properties_c.specs.Keys.{IsGivenBy}
use Rattle.properties_c.specs.Packed.{edits, WithList}
use Rattle.properties_c.specs.declared.encoding.Flags.{Flags}
use Rattle.properties_format.specs.Converting.{IsConverted}
use Rattle.properties_text.specs.Printing.{in_format}
use Rattle.properties_text.specs.declared.print.Repertoire as code
use Rattle.properties_c.specs.declared.status.Status.TheVariants.{Done, KeyTaken, NoKey, NoMemory}

-- What edits returned crosses: the bytes; or that no pair has the key of the edit with this index, or the line of the
-- first pair with its new key; or its error.
abbrev pub EditedCrosses : Result (Vec ℕ) RenamesError → Crossing → Type 0
EditedCrosses (Ok bytes) x = Delivers bytes.items Done 0 x
EditedCrosses (Err (error.NoKey index)) x = RefusesEdit NoKey index 0 x
EditedCrosses (Err (error.KeyTaken index number)) x = RefusesEdit KeyTaken index number x
EditedCrosses (Err (error.Source e)) x = Fails e x

-- Edits returned a result, and the result crosses.
abbrev pub GivesEdited : Encoding → Flags → List ℕ → List KeyEdit → Crossing → Type 0
GivesEdited e f source es x =
    (outcome : Result (Vec ℕ) RenamesError) × IsGivenBy (λ o. MakesKeyEdits o source es) e f outcome × EditedCrosses outcome x

abbrev pub EditsAcross : List ℕ → ℕ → ℕ → List ℕ → Crossing → Type 0
EditsAcross source encoding flags list x =
    InEncoding encoding (λ e. WithFlags for_edits flags (λ f. WithList edits list (λ es. WithSource f.strict e source (GivesEdited e f source es x) x) x) x) x

-- ---- What the export that converts gives.

-- The source is converted to a target, readable or not, and the result is given.
pub record GivesConverted (e : Encoding) (target : code.Repertoire) (readable : Bool) (source : List ℕ) (x : Crossing) : Type 0 where
  pub bytes : List ℕ
  pub converted : IsConverted e (in_format target) readable source bytes
  pub given : Delivers bytes Done 0 x

abbrev pub ConvertsAcross : List ℕ → ℕ → ℕ → ℕ → Crossing → Type 0
ConvertsAcross source encoding target flags x =
    InEncoding encoding (λ e. ToTarget target (λ t. WithFlags for_conversions flags (λ f. WithSource f.strict e source (GivesConverted e t f.readable source x ⊎ RefusesCall NoMemory 0 x) x) x) x) x
