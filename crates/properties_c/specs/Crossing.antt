-- What a call leaves in C's memory, and when its result fits there.
use Rattle.std.specs.Prelude.{◌≡◌, ◌⊎◌, ◌≤◌, ◌<◌, ◌++◌, ℕ, ℤ, List, Option, Result, Ok, Err, drop, length}
use Rattle.std.specs.Global.{Vec}
use Rattle.properties_items.specs.Errors.{kind_of}
use Rattle.properties_items.specs.declared.error.PropertiesError.{PropertiesError}
use Rattle.properties_c.specs.Statuses.{status_number, status_of_kind, error_line, text_of_status, IsStatusAt}
use Rattle.properties_c.specs.declared.status.Status.{Status}
use Rattle.properties_c.specs.declared.status.Status.TheVariants.{Done, NoRoom}

-- What was in `out`, the status that the call returned, what it set the length and the line to, and what it left in
-- `out`.
pub record Crossing : Type 0 where
  pub out : List ℕ
  pub returned : ℤ
  pub count : ℕ
  pub line : ℕ
  pub left : List ℕ

abbrev pub crossing : List ℕ → ℤ → ℕ → ℕ → List ℕ → Crossing
crossing out returned count line left = record { out = out; returned = returned; count = count; line = line; left = left }

-- The status, the length and the line are these.
pub record AnswersCall (status : Status) (count line : ℕ) (returned : ℤ) (new_count new_line : ℕ) : Type 0 where
  pub its_status : returned ≡ status_number status
  pub its_count : new_count ≡ count
  pub its_line : new_line ≡ line

-- The call returned a status with a line, and nothing else: the length is 0, and nothing was written.
pub record RefusesCall (status : Status) (line : ℕ) (x : Crossing) : Type 0 where
  pub answers : AnswersCall status 0 line x.returned x.count x.line
  pub kept : x.left ≡ x.out

-- The call returned a status for one of its edits, and nothing else: the length is the index of that edit, and nothing
-- was written.
pub record RefusesEdit (status : Status) (index line : ℕ) (x : Crossing) : Type 0 where
  pub answers : AnswersCall status index line x.returned x.count x.line
  pub kept : x.left ≡ x.out

-- The bytes fit. They are at the front of `out`, the length is theirs, and the rest of `out` is as it was.
pub record FitsBuffer (bytes : List ℕ) (status : Status) (line : ℕ) (x : Crossing) : Type 0 where
  pub room : length bytes ≤ length x.out
  pub answers : AnswersCall status (length bytes) line x.returned x.count x.line
  pub written : x.left ≡ bytes ++ drop (length bytes) x.out

-- The bytes need more room than there is. The length is what they need, and nothing was written.
pub record LacksRoom (bytes : List ℕ) (x : Crossing) : Type 0 where
  pub room : length x.out < length bytes
  pub answers : AnswersCall NoRoom (length bytes) 0 x.returned x.count x.line
  pub kept : x.left ≡ x.out

-- These bytes were given with this status and line, if there was room for them.
abbrev pub Delivers : List ℕ → Status → ℕ → Crossing → Type 0
Delivers bytes status line x = FitsBuffer bytes status line x ⊎ LacksRoom bytes x

-- The status and the line are those of an error.
abbrev pub Fails : PropertiesError → Crossing → Type 0
Fails error x = RefusesCall (status_of_kind (kind_of error)) (error_line error) x

-- What a function returned crosses: its bytes or its error.
abbrev pub Crosses : Result (Vec ℕ) PropertiesError → Crossing → Type 0
Crosses (Ok bytes) x = Delivers bytes.items Done 0 x
Crosses (Err error) x = Fails error x

-- The text of the status with this number was given.
abbrev pub GivesTextAt : ℤ → Crossing → Type 0
GivesTextAt number x = (found : Option Status) × IsStatusAt number found × Delivers (text_of_status found) Done 0 x
