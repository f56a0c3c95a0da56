-- What `comment` gives: the texts of the comment lines directly above the last pair with a key.
use Rattle.std.specs.Prelude.{◌≡◌, ◌⊎◌, ℕ, List, [], Option, Some, None, Result, Ok, Err}
use Rattle.properties_format.specs.Encoding.{Encoding}
use Rattle.java_properties.specs.Commented.{HasComment, RefusesComment}
use Rattle.properties_tables.specs.Sources.{IsSound, IsUnsound}
use Rattle.properties_tools.specs.Propedit.Texts.{ended_all}
use Rattle.properties_tools.specs.declared.propedit.answer.Answer.{Answer}
use Rattle.properties_tables.specs.declared.error.Failure.{Failure}
use Rattle.properties_tables.specs.declared.error.Failure.TheVariants.{Input}
use Rattle.properties_tools.specs.declared.propedit.request.Terminator.TheVariants.{LineFeed}
use Rattle.properties_items.specs.declared.error.PropertiesError.{PropertiesError}

-- Each text is printed with a line feed; without a pair nothing is, and the status is 1.
abbrev pub PrintsComment : Option (List (List ℕ)) → Answer → Type 0
PrintsComment None answer = (answer.text.items ≡ []) × (answer.status ≡ 1)
PrintsComment (Some texts) answer = (answer.text.items ≡ ended_all LineFeed texts) × (answer.status ≡ 0)

-- The source is sound, and the comment of the key is printed.
pub record ShowsTexts (e : Encoding) (source key : List ℕ) (answer : Answer) : Type 0 where
  pub sound : IsSound e source
  pub texts : Option (List (List ℕ))
  pub has_comment : HasComment e source key texts
  pub prints : PrintsComment texts answer

-- The source is sound, but UTF-16 is in force, or memory ran out.
pub record RefusesSource (e : Encoding) (source : List ℕ) (failure : Failure) : Type 0 where
  pub sound : IsSound e source
  pub error : PropertiesError
  pub refused : RefusesComment e source error
  pub is : failure ≡ Input error

-- What it returns.
abbrev pub ShowsComment : Encoding → List ℕ → List ℕ → Result Answer Failure → Type 0
ShowsComment e source key (Ok answer) = ShowsTexts e source key answer
ShowsComment e source key (Err failure) = IsUnsound e source failure ⊎ RefusesSource e source failure
