-- What a contract sees of logical lines, which are joined of what an iterator over natural lines gives.
use Rattle.std.specs.Prelude.{◌≡◌, ◌≤◌, ◌⊎◌, true, false, List, ◌∷◌, map, Option, Some, None, Result, Ok, Err}
use Rattle.std.specs.Iterator.{Yields, YieldsThen, Drains, Count, IsFinite, size}
use Rattle.std.specs.Str.{chars}
use Rattle.std.specs.String.{string_bytes}
use Rattle.properties_format.specs.Lines.{Line, end, fault, IsWhole, IsUnfinished, joined}
use Rattle.properties_format.specs.Computed.Lines.{logical_lines}
use Rattle.properties_lines.specs.declared.error.LineError.TheVariants as why
use Rattle.properties_lines.specs.declared.error.LineError.{LineError}
use Rattle.single_lines.specs.declared.natural.NaturalLine.{NaturalLine}
use Rattle.single_lines.specs.declared.logical.LogicalLine.{LogicalLine}
use Rattle.single_lines.specs.declared.logical.LogicalLines.{LogicalLines}

-- what one call of an iterator over natural lines may do
abbrev pub Steps : Type 0 → Type 1
Steps I = I → Option (Result NaturalLine LineError) → I → Type 0

abbrev pub natural_line : NaturalLine → Line
natural_line line = record { number = line.0; text = chars (string_bytes line.1) }

abbrev pub logical_line : LogicalLine → Line
logical_line line = record { number = line.0; text = chars (string_bytes line.1) }

abbrev pub natural_lines : List NaturalLine → List Line
natural_lines lines = map natural_line lines

-- The calls gave these lines.
abbrev pub GivesLines : {I : Type 0} → Steps I → I → List NaturalLine → I → Type 0
GivesLines steps from lines to = Yields steps from (map Ok lines) to

-- The calls gave these lines and then this.
abbrev pub GivesThen : {I : Type 0} → Steps I → I → List NaturalLine → Option (Result NaturalLine LineError) → I → Type 0
GivesThen steps from lines answer to = YieldsThen steps from (map Ok lines) answer to

-- How a group ends: it is whole, or the natural lines end where it stands open.
abbrev pub EndsGroup : {I : Type 0} → Steps I → I → List NaturalLine → LogicalLines I → Type 0
EndsGroup steps from group to =
    ((to.is_done ≡ false) × IsWhole (natural_lines group) × GivesLines steps from group to.lines)
    ⊎ ((to.is_done ≡ true) × IsUnfinished (natural_lines group) × GivesThen steps from group None to.lines)

-- The line is a group of natural lines, joined, under the number of the first.
pub record TakesGroup {I : Type 0} (steps : Steps I) (from : I) (line : LogicalLine) (to : LogicalLines I) : Type 0 where
  pub first : NaturalLine
  pub others : List NaturalLine
  pub number : line.0 ≡ first.0
  pub text : chars (string_bytes line.1) ≡ joined (natural_lines (first ∷ others))
  pub ends : EndsGroup steps from (first ∷ others) to

-- The error came after lines of a group that stands open, which are lost.
pub record TakesError {I : Type 0} (steps : Steps I) (from : I) (error : LineError) (to : I) : Type 0 where
  pub lines : List NaturalLine
  pub unfinished : IsUnfinished (natural_lines lines)
  pub given : GivesThen steps from lines (Some (Err error)) to

-- There was no memory to join these lines.
pub record LacksMemory {I : Type 0} (steps : Steps I) (from : I) (error : LineError) (to : I) : Type 0 where
  pub lines : List NaturalLine
  pub given : GivesLines steps from lines to
  pub plain : error ≡ why.Memory

-- what a line, or an error in its place, takes of the natural lines
abbrev pub TakesNextGroup : {I : Type 0} → Steps I → I → Result LogicalLine LineError → LogicalLines I → Type 0
TakesNextGroup steps from (Ok line) to = TakesGroup steps from line to
TakesNextGroup steps from (Err error) to = (to.is_done ≡ true) × (TakesError steps from error to.lines ⊎ LacksMemory steps from error to.lines)

-- what a line, or an error in its place, takes of the natural lines, the first of which a call gave before
abbrev pub TakesAfter : {I : Type 0} → Steps I → NaturalLine → I → Result LogicalLine LineError → LogicalLines I → Type 0
TakesAfter {I} steps first after answer to = (from : I) → steps from (Some (Ok first)) after → TakesNextGroup steps from answer to

-- Unless it is at its end, it may be called on, and no more natural lines are left than before.
abbrev pub MayGoOn : {I : Type 0} → (I → Type 0) → (I → Count) → I → LogicalLines I → Type 0
MayGoOn can left from to = to.is_done ≡ false → can to.lines × IsFinite (left to.lines) × (size (left to.lines) ≤ size (left from))

-- What a call gives. At the end, where it was before or where the natural lines end, there is nothing more.
abbrev pub GivesLogicalLine : {I : Type 0} → Steps I → LogicalLines I → Option (Result LogicalLine LineError) → LogicalLines I → Type 0
GivesLogicalLine steps from None to =
    (to.is_done ≡ true) × (((from.is_done ≡ true) × (to.lines ≡ from.lines)) ⊎ ((from.is_done ≡ false) × steps from.lines None to.lines))
GivesLogicalLine steps from (Some answer) to = (from.is_done ≡ false) × TakesNextGroup steps from.lines answer to

-- ---- all that is given

-- All lines up to the end are the logical lines of the natural lines up to their end.
pub record JoinsToEnd {I : Type 0} (steps : Steps I) (from : I) (given : List LogicalLine) : Type 0 where
  pub lines : List NaturalLine
  pub drained : Drains steps from (map Ok lines)
  pub joins : map logical_line given ≡ logical_lines (natural_lines lines) end

-- All lines up to an error are the logical lines of the natural lines up to that error, as where a read fails.
pub record JoinsToError {I : Type 0} (steps : Steps I) (from : I) (given : List LogicalLine) (error : LineError) (to : I) : Type 0 where
  pub lines : List NaturalLine
  pub given_lines : GivesThen steps from lines (Some (Err error)) to
  pub joins : map logical_line given ≡ logical_lines (natural_lines lines) fault

-- up to the end, or up to an error, unless there was no memory
abbrev pub JoinsUpTo : {I : Type 0} → Steps I → I → List LogicalLine → Option (Result LogicalLine LineError) → I → Type 0
JoinsUpTo steps from given None to = JoinsToEnd steps from given
JoinsUpTo steps from given (Some (Ok line)) to = Unit {0}
JoinsUpTo steps from given (Some (Err error)) to = JoinsToError steps from given error to ⊎ (error ≡ why.Memory)

-- So it is whenever its calls give these lines and then the end, or an error.
abbrev pub JoinsEach : {I : Type 0} → Steps I → LogicalLines I → Type 0
JoinsEach {I} steps from =
    (given : List LogicalLine) (answer : Option (Result LogicalLine LineError)) (to : LogicalLines I)
    → YieldsThen (GivesLogicalLine steps) from (map Ok given) answer to → JoinsUpTo steps from.lines given answer to.lines
