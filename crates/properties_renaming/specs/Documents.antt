-- Calls that make new bytes of a document's, and open the document on these.
use Rattle.std.specs.Prelude.{◌≡◌, ◌⊎◌, ℕ, List, Result, Ok, Err}
use Rattle.std.specs.Global.{Vec}
use Rattle.properties_items.specs.Errors.{IsBareError}
use Rattle.properties_items.specs.declared.error.ErrorKind.TheVariants as kind
use Rattle.properties_items.specs.declared.error.PropertiesError.{PropertiesError}
use Rattle.properties_editing.specs.Documents.{OpenDocument, OpensDocumentWith, TellsOptions}
use Rattle.properties_editing.specs.declared.source.SourceOptions.{SourceOptions}

-- New bytes were made of the document's with its options, and it is open on these with the same options.
pub record IsReopened {E : Type 0} (Makes : SourceOptions → List ℕ → Result (Vec ℕ) E → Type 0) (old new : OpenDocument) : Type 0 where
  pub options : SourceOptions
  pub told : TellsOptions old options
  pub bytes : Vec ℕ
  pub made : Makes options old.bytes (Ok bytes)
  pub opens : OpensDocumentWith options bytes.items (Ok new)

-- No bytes were made, and this is why; or a document can't be opened on them; or memory ran out.
abbrev pub Fails : {E : Type 0} → (PropertiesError → E) → (Result (Vec ℕ) E → Type 0) → SourceOptions → E → Type 0
Fails of Makes options error =
    Makes (Err error)
    ⊎ (((bytes : Vec ℕ) × (reason : PropertiesError) × Makes (Ok bytes) × OpensDocumentWith options bytes.items (Err reason) × (error ≡ of reason))
    ⊎ (reason : PropertiesError) × IsBareError kind.Memory reason × (error ≡ of reason))

-- A call made new bytes of a document's, and it is open on them; or it failed, and the document is unchanged.
abbrev pub ChangesDocument : {E : Type 0} → (PropertiesError → E) → (SourceOptions → List ℕ → Result (Vec ℕ) E → Type 0) → OpenDocument
    → Result Unit E → OpenDocument → Type 0
ChangesDocument of Makes old (Ok done) new = IsReopened Makes old new
ChangesDocument of Makes old (Err error) new =
    (new ≡ old) × ((options : SourceOptions) × TellsOptions old options × Fails of (Makes options old.bytes) options error)
