-- Why a file that is edited in place is not replaced, or what fails after that, and what is printed of it.
use Rattle.std.specs.Prelude.{◌≡◌, ◌⊎◌, ℕ, List, [], ◌++◌, Option, None, Some, Ok, Err, IfSome, codes, string_bytes}
use Rattle.std.specs.Fmt.{◌++?◌}
use Rattle.std.specs.Global.{Vec}
use Rattle.counted_io.specs.Streams.{Sink}
use Rattle.properties_format.specs.Encoding.{Encoding}
use Rattle.properties_tables.specs.Messages.{escaped, printed_line, HasPrintedLine}
use Rattle.properties_changing.specs.Change.{Replaces, Changes}
use Rattle.properties_changing.specs.Counts.{count_words, AreCounts}
use Rattle.properties_tables.specs.Failures.{failure_status, message, PrintsFailure, PrintsLine}
use Rattle.properties_changing.specs.declared.counts.Counts.{Counts}
use Rattle.properties_changing.specs.declared.request.Change.{Change}
use Rattle.properties_tables.specs.declared.error.Failure.{Failure}
use Rattle.properties_changing.specs.declared.in_place.Presence.{Presence}
use Rattle.properties_changing.specs.declared.in_place.Presence.TheVariants as presence
use Rattle.properties_changing.specs.declared.in_place.Problem.{Problem}
use Rattle.properties_changing.specs.declared.in_place.Problem.TheVariants as problem
use Rattle.properties_changing.specs.declared.in_place.ReplaceError.{ReplaceError}

-- ---- in words

-- What failed, where the temporary file has this name. Nothing is specified about an error of the system.
abbrev pub problem_display : List ℕ → Problem → Option (List ℕ)
problem_display temporary problem.Held = Some (escaped temporary ++ codes " exists: another run is at work, or was killed; if none is, remove it")
problem_display temporary problem.Changed = Some (codes "changed while it was edited")
problem_display temporary problem.Taken = Some (escaped temporary ++ codes " was removed or replaced")
problem_display temporary problem.Busy = Some (codes "is a mount point or in use, so it cannot be replaced; edit a copy, and copy it back with cp")
problem_display temporary problem.Appeared = Some (codes "was made by another program meanwhile")
problem_display temporary problem.Made = Some (codes "is made")
problem_display temporary other = None

-- what is added where the temporary file is left, or where the system can't tell
abbrev pub left_display : List ℕ → Presence → List ℕ
left_display temporary presence.Absent = []
left_display temporary presence.Present = codes "; " ++ (escaped temporary ++ codes " is left")
left_display temporary (presence.Unknown error) = codes "; " ++ (escaped temporary ++ codes " may be left")

-- what failed, and the name of the temporary file where it is left, or may be
abbrev pub replace_display : ReplaceError → Option (List ℕ)
replace_display e = problem_display (string_bytes e.temporary) e.problem ++? Some (left_display (string_bytes e.temporary) e.presence)

-- ---- what is printed

-- The line says of the file at this path why it is not replaced. Of the text of the system's errors nothing is known.
pub record IsProblemLine (path : List ℕ) (error : ReplaceError) (line : List ℕ) : Type 0 where
  pub words : List ℕ
  pub printed : IfSome (replace_display error) (λ known. words ≡ known)
  pub is : line ≡ printed_line (message path None words)

-- Why a file is not replaced is printed.
abbrev pub PrintsProblem : {W : Type 0} → Sink W → W → List ℕ → ReplaceError → W → Type 0
PrintsProblem sink old path error new = PrintsLine sink old (IsProblemLine path error) new

-- The line says of the file at this path, whose bytes were those of the source, how many pairs changed as these
-- replaced them; or that nothing did.
abbrev pub IsChangeLine : List ℕ → Encoding → List ℕ → Option (Vec ℕ) → List ℕ → Type 0
IsChangeLine path e source None line = line ≡ escaped path ++ printed_line (codes ": unchanged")
IsChangeLine path e source (Some bytes) line =
    (counts : Counts) × AreCounts e source bytes.items counts × (line ≡ escaped path ++ (codes ": " ++ printed_line (count_words counts)))

-- The change was made to some bytes, and such a line is printed.
pub record PrintsChange {W : Type 0} (sink : Sink W) (old : W) (path : List ℕ) (e : Encoding) (change : Change) (new : W) : Type 0 where
  pub source : List ℕ
  pub bytes : Option (Vec ℕ)
  pub replaced : Replaces e source change (Ok bytes)
  pub line : List ℕ
  pub is : IsChangeLine path e source bytes line
  pub prints : HasPrintedLine sink old line new

-- The change is refused for some bytes, with status 1: they have no pair with a key that has to be there, or one with a new
-- key. That is printed as a line.
pub record PrintsRefusal {W : Type 0} (sink : Sink W) (old : W) (path : List ℕ) (e : Encoding) (change : Change) (new : W) : Type 0 where
  pub source : List ℕ
  pub failure : Failure
  pub status : failure_status failure ≡ 1
  pub refused : Changes e source change (Err failure)
  pub prints : PrintsFailure sink old path failure new

-- This failure, which is of another status, is printed as a line.
pub record PrintsOtherFailure {W : Type 0} (sink : Sink W) (old : W) (path : List ℕ) (new : W) : Type 0 where
  pub failure : Failure
  pub status : failure_status failure ≡ 2
  pub prints : PrintsFailure sink old path failure new

-- Why a file is not edited is printed as a line, or that there is no memory for it: it is not read, its edits fail, or it is not replaced.
abbrev pub PrintsEditError : {W : Type 0} → Sink W → W → List ℕ → W → Type 0
PrintsEditError sink old path new = PrintsOtherFailure sink old path new ⊎ ((error : ReplaceError) × PrintsProblem sink old path error new)
