-- What `get` gives: the value of each key, or a default where no pair has it.
use Rattle.std.specs.Prelude.{◌≡◌, ℕ, List, [], ◌∷◌, map, Option, Some, None, Result, Ok, Err}
use Rattle.std.specs.List.{flat_map}
use Rattle.properties_format.specs.Encoding.{Encoding}
use Rattle.properties_tables.specs.Sources.{IsSound, IsUnsound}
use Rattle.properties_tools.specs.Propedit.Texts.{ended}
use Rattle.properties_tools.specs.declared.propedit.answer.Answer.{Answer}
use Rattle.properties_tools.specs.declared.propedit.request.Terminator.{Terminator}
use Rattle.properties_tables.specs.declared.error.Failure.{Failure}
use Rattle.properties_tables.specs.Values.{HaveValues}

-- the value where there is one, and else the default
abbrev pub value_or : Option (List ℕ) → Option (List ℕ) → Option (List ℕ)
value_or default (Some value) = Some value
value_or default None = default

-- a text with the byte that ends it, where there is one
abbrev pub ended_if : Terminator → Option (List ℕ) → List ℕ
ended_if end (Some text) = ended end text
ended_if end None = []

-- the status of such texts: 1 where one is missing
abbrev pub found_status : List (Option (List ℕ)) → ℕ
found_status [] = 0
found_status (Some text ∷ texts) = found_status texts
found_status (None ∷ texts) = 1

-- These texts are printed in order, each with the byte that ends it, and nothing for one that is missing.
pub record PrintsTexts (end : Terminator) (texts : List (Option (List ℕ))) (answer : Answer) : Type 0 where
  pub text : answer.text.items ≡ flat_map (ended_if end) texts
  pub status : answer.status ≡ found_status texts

-- The source is sound, and for each of these keys its value in the source is printed, or the default where no pair has it.
pub record GetsValues (e : Encoding) (source : List ℕ) (keys : List (List ℕ)) (default : Option (List ℕ)) (end : Terminator) (answer : Answer) : Type 0 where
  pub sound : IsSound e source
  pub values : List (Option (List ℕ))
  pub have_values : HaveValues e source keys values
  pub prints : PrintsTexts end (map (value_or default) values) answer

-- What getting keys returns.
abbrev pub Gets : Encoding → List ℕ → List (List ℕ) → Option (List ℕ) → Terminator → Result Answer Failure → Type 0
Gets e source keys default end (Ok answer) = GetsValues e source keys default end answer
Gets e source keys default end (Err failure) = IsUnsound e source failure
