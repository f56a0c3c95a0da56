-- Documents that are opened again on other bytes, or stay as they are.
use Rattle.std.proofs.Common.{◌≡◌, ℕ, List, refl, subst, inl, inr}
use Rattle.std.specs.Prelude.{Result, Ok, Err}
use Rattle.std.specs.Global.{Vec}
use Rattle.properties_items.specs.declared.error.PropertiesError.{PropertiesError}
use Rattle.properties_editing.specs.Documents.{OpenDocument, OpensDocumentWith, TellsOptions}
use Rattle.properties_editing.specs.declared.source.SourceOptions.{SourceOptions}
use Rattle.properties_renaming.specs.Documents.{ChangesDocument, IsReopened}

module _ {E : Type 0} (of : PropertiesError → E) (Makes : SourceOptions → List ℕ → Result (Vec ℕ) E → Type 0) (old : OpenDocument) (options : SourceOptions)
    (told : TellsOptions old options) (source : List ℕ) (same : source ≡ old.bytes) where
  pub reopened : (bytes : Vec ℕ) (given : List ℕ) (new : OpenDocument) → Makes options source (Ok bytes) → given ≡ bytes.items → OpensDocumentWith options given (Ok new)
      → IsReopened Makes old new
  reopened bytes given new made is opens = record {
    options = options;
    told = told;
    bytes = bytes;
    made = subst (λ s. Makes options s (Ok bytes)) same made;
    opens = subst (λ s. OpensDocumentWith options s (Ok new)) is opens;
  }

  pub not-made : (error : E) → Makes options source (Err error) → ChangesDocument of Makes old (Err error) old
  not-made error fails = (refl, (options, told, inl (subst (λ s. Makes options s (Err error)) same fails)))

  pub not-opened : (bytes : Vec ℕ) (given : List ℕ) (reason : PropertiesError) → Makes options source (Ok bytes) → given ≡ bytes.items
      → OpensDocumentWith options given (Err reason) → ChangesDocument of Makes old (Err (of reason)) old
  not-opened bytes given reason made is refused = (
    refl,
    (
      options,
      told,
      inr (inl (bytes, reason, subst (λ s. Makes options s (Ok bytes)) same made, subst (λ s. OpensDocumentWith options s (Err reason)) is refused, refl)),
    ),
  )
