-- How the hint on an answer is found.
use Rattle.std.specs.Prelude.{◌⊎◌, ℕ, List, Bool, true, false, Option, Some, None, Result, Ok, Err, string_bytes}
use Rattle.std.specs.{Global.Global, declared.string.String.String}
use Rattle.properties_format.specs.Encoding.{Encoding}
use Rattle.properties_tools.specs.{Propedit.Answers, declared.propedit.answer.Answer.Answer, declared.propedit.request.Doubt.Doubt}
use Rattle.properties_tools.specs.declared.propedit.request.{Job.Job, Note.Note}
use Rattle.properties_tables.specs.declared.error.Failure.TheVariants.{Input}
use Rattle.properties_tables.specs.{Failures.IsMemoryFailure, Sources.IsUnsound, Values.SaysMalformed, declared.error.Failure.Failure}
use Rattle.properties_tools.specs.Propedit.Hints.{hint_bytes, FailsToTell, HasPrefix, IsFileHint, IsHint, IsNoteOf, IsUntold, Tells}

-- What looking for that file returns.
abbrev pub FindsFileHint : Encoding → List ℕ → List (List ℕ) → Result (Option (String Global)) Failure → Type 0
FindsFileHint e source files (Ok hint) = IsFileHint e source files (hint_bytes hint)
FindsFileHint e source files (Err failure) = SaysMalformed e source failure ⊎ IsMemoryFailure failure

-- The hint on an answer. Finding it fails only as the command might have failed itself.
abbrev pub FindsHint : Job → List (List ℕ) → List ℕ → ℕ → Result (Option (String Global)) Failure → Type 0
FindsHint job files source status (Ok hint) = IsHint job files source status (hint_bytes hint)
FindsHint job files source status (Err failure) = (answer : Answer) → Answers job source (Ok answer) → Answers job source (Err failure)

-- whether memory ran out, of what fails where nothing is read
abbrev pub is_input : Failure → Bool
is_input (Input error) = true
is_input other = false

-- The line of a note that the source bears out. Finding it fails only if memory runs out.
abbrev pub FindsNote : Encoding → List ℕ → Option Note → Result (Option (String Global)) Failure → Type 0
FindsNote e source asked (Ok (Some line)) = IsNoteOf e source asked (string_bytes line)
FindsNote e source asked (Ok None) = IsUntold e source asked
FindsNote e source asked (Err failure) = IsMemoryFailure failure

-- Whether the source bears out that an argument may mean something else; or it is refused, or memory ran out.
abbrev pub TellsDoubt : Encoding → List ℕ → Doubt → Result Bool Failure → Type 0
TellsDoubt e source doubt (Ok told) = Tells e source doubt told
TellsDoubt e source doubt (Err failure) = FailsToTell e source failure

-- Whether a key begins with a prefix.
abbrev pub FindsPrefix : Encoding → List ℕ → List ℕ → Result Bool Failure → Type 0
FindsPrefix e source prefix (Ok found) = HasPrefix e source prefix found
FindsPrefix e source prefix (Err failure) = IsUnsound e source failure
