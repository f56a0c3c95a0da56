-- What is known of a file that is edited in place without asking the system.
use Rattle.std.specs.Prelude.{◌≡◌, ◌≢◌, ◌⊎◌, ℕ, true, false, if◌then◌else◌, List, length, ◌==◌, Option, Some, None, Result, Ok, Err, string_bytes}
use Rattle.std.specs.{Global.Global, Global.Vec, Path.cur_dir, Path.path_parent, IoError.error_kind, declared.io.Error.Error}
use Rattle.std.specs.{declared.io.ErrorKind.TheVariants.NotFound, declared.io.ErrorKind.TheVariants.ResourceBusy, declared.string.String.String}
use Rattle.properties_format.specs.Encoding.{Encoding}
use Rattle.properties_text.specs.Encoding.{encoding_of}
use Rattle.properties_items.specs.declared.error.PropertiesError.{PropertiesError}
use Rattle.properties_changing.specs.{Change.Replaces, Change.Changes, InPlace.IsChangeLine, declared.request.Change.Change}
use Rattle.properties_changing.specs.{declared.request.FileChange.FileChange, declared.in_place.EditError.EditError}
use Rattle.properties_changing.specs.{declared.in_place.EditError.TheVariants.NotEdited, declared.in_place.EditError.TheVariants.NotReplaced}
use Rattle.properties_changing.specs.{declared.in_place.Presence.Presence, declared.in_place.Problem.Problem, declared.in_place.Snapshot.Snapshot}
use Rattle.properties_tables.specs.{Sources.IsUnsound, declared.error.Failure.Failure, declared.error.Failure.TheVariants.Input}
use Rattle.properties_changing.specs.declared.in_place.Presence.TheVariants as presence
use Rattle.properties_changing.specs.declared.in_place.Problem.TheVariants as problem

-- a parent, or the current folder if it is empty or there is none
abbrev pub or_current : Option (List ℕ) → List ℕ
or_current None = cur_dir
or_current (Some parent) = if length parent == 0 then cur_dir else parent

-- the folder that has this name of a file
abbrev pub folder_of : List ℕ → List ℕ
folder_of path = or_current (path_parent path)

-- what failed if the folder can't be synced after its file was replaced, or made where there was none
abbrev pub unsynced : Option Snapshot → Error → Problem
unsynced None error = problem.MadeUnsynced error
unsynced (Some snapshot) error = problem.ReplacedUnsynced error

-- What an error of the system tells of a file: that it is gone, if the error says so, and otherwise nothing.
abbrev pub IsPresenceAfter : Error → Presence → Type 0
IsPresenceAfter error result =
    ((error_kind error ≡ NotFound) × (result ≡ presence.Absent)) ⊎ ((error_kind error ≢ NotFound) × (result ≡ presence.Unknown error))

-- Why a file is not renamed: the one that it would replace is a mount point or in use, or the system says why.
abbrev pub IsRenameProblem : Error → Problem → Type 0
IsRenameProblem error result =
    ((error_kind error ≡ ResourceBusy) × (result ≡ problem.Busy)) ⊎ ((error_kind error ≢ ResourceBusy) × (result ≡ problem.NotRenamed error))

-- What is printed of a file whose bytes were those of the source, where these are to replace them: a line, if that is
-- asked for.
abbrev pub SaysOf : FileChange → List ℕ → Option (Vec ℕ) → Option (String Global) → Type 0
SaysOf file source bytes None = file.verbose ≡ false
SaysOf file source bytes (Some line) =
    (file.verbose ≡ true) × IsChangeLine (string_bytes file.path) (encoding_of file.encoding) source bytes (string_bytes line)

-- Comparing some bytes failed: some are refused, or memory ran out.
abbrev pub IsCountFailure : Encoding → Failure → Type 0
IsCountFailure e failure = (bytes : List ℕ) × IsUnsound e bytes failure

-- What changing the bytes of a file returns. It fails only as the change does, or as comparing its result with them
-- does.
abbrev pub EditsBytes : FileChange → List ℕ → Result (Option (Vec ℕ) × Option (String Global)) Failure → Type 0
EditsBytes file source (Ok made) = Replaces (encoding_of file.encoding) source file.change (Ok made.0) × SaysOf file source made.0 made.1
EditsBytes file source (Err failure) =
    IsCountFailure (encoding_of file.encoding) failure ⊎ Changes (encoding_of file.encoding) source file.change (Err failure)

-- This is printed of what replaces some bytes.
abbrev pub SaysOfSome : FileChange → Option (String Global) → Type 0
SaysOfSome file said = (source : List ℕ) × (bytes : Option (Vec ℕ)) × EditsBytes file source (Ok (bytes, said))

-- Why a file is not changed: it can't be read, the change is refused for some bytes, or the file is not replaced.
abbrev pub IsEditError : Encoding → Change → EditError → Type 0
IsEditError e change (NotEdited failure) =
    ((error : PropertiesError) × (failure ≡ Input error)) ⊎ (IsCountFailure e failure ⊎ ((source : List ℕ) × Changes e source change (Err failure)))
IsEditError e change (NotReplaced error) = Unit {0}
