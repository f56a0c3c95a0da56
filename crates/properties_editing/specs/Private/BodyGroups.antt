-- The groups of a body that is held in memory, one after another.
use Rattle.std.specs.Prelude.{◌≡◌, ℕ, ◌+◌, ◌-◌, ◌≤◌, Bool, true, false, if◌then◌else◌, List, [], ◌∷◌, take, drop, length, Option, Some, None, Result, Ok, Err}
use Rattle.std.specs.Str.{chars, IsUtf8}
use Rattle.properties_format.specs.Text as text
use Rattle.properties_format.specs.Encoding.{Encoding}
use Rattle.properties_format.specs.Lines.{is_comment_line, joined}
use Rattle.properties_format.specs.Body.{HeldLine, as_lines, ending_bytes, group_bytes}
use Rattle.properties_format.specs.Edited.{is_empty_line, is_left_open}
use Rattle.properties_format.specs.Computed.Body.{held_groups_after, held_groups_of, unended_bytes}
use Rattle.properties_text.specs.Encoding.{encoding_of}
use Rattle.properties_lines.specs.LineSearch.{unit_size}
use Rattle.properties_lines.specs.Scanner.{HasRightFlags, raw_line_bytes}
use Rattle.properties_lines.specs.Private.HeldLines.{IsInBody, held_line, held_lines_left}
use Rattle.properties_text.specs.Escaping.{IsWell}
use Rattle.properties_lines.specs.LogicalLine.{bytes_with, HasText, IsSoundLogicalLine, IsUnfinishedLine}
use Rattle.properties_editing.specs.declared.groups.Group.{Group}
use Rattle.properties_editing.specs.declared.groups.GroupReader.{GroupReader}
use Rattle.properties_editing.specs.declared.groups.Closing.{Closing}
use Rattle.properties_editing.specs.declared.groups.Closing.TheVariants as closing

-- ---- the position of a reader

-- The reader is positioned in the body, whose units are one byte long.
pub record IsWithin (body : List ℕ) (s : GroupReader) : Type 0 where
  pub bytes : unit_size (encoding_of s.scanner.encoding) ≡ 1
  pub within_body : IsInBody s.scanner body

-- the groups to come
abbrev pub groups_left : List ℕ → GroupReader → List (List HeldLine)
groups_left body s = if s.scanner.is_done then [] else held_groups_of (encoding_of s.scanner.encoding) (drop s.scanner.at body)

-- ---- lines

-- The next line was taken.
pub record TakesHeldLine (body : List ℕ) (old new : GroupReader) : Type 0 where
  pub live : old.scanner.is_done ≡ false
  pub ending : Option text.LineEnding
  pub lines : held_lines_left body old.scanner ≡ held_line (encoding_of old.scanner.encoding) body new.scanner.line ending ∷ held_lines_left body new.scanner
  pub starts : new.scanner.line.start ≡ old.scanner.at
  pub ordered : new.scanner.line.start ≤ new.scanner.line.end
  pub placed : new.scanner.line.end ≤ new.scanner.at
  pub ends : take (new.scanner.at - new.scanner.line.end) (drop new.scanner.line.end body) ≡ ending_bytes ending
  pub passed : new.scanner.passed ≡ old.scanner.passed + 1
  pub flags : HasRightFlags (encoding_of new.scanner.encoding) (raw_line_bytes body new.scanner.line) new.scanner.line
  pub within : IsWithin body new
  pub encoding : encoding_of new.scanner.encoding ≡ encoding_of old.scanner.encoding
  pub same : new ≡ record old { scanner = new.scanner }

abbrev pub FindsLine : {E : Type 0} → List ℕ → GroupReader → Result Bool E → GroupReader → Type 0
FindsLine body old (Ok true) new = TakesHeldLine body old new
FindsLine body old (Ok false) new = (old.scanner.is_done ≡ true) × (new ≡ old)
FindsLine body old (Err e) new = Unit {0}

-- ---- groups

-- The lines are in this span, and the next group starts after them.
pub record IsSpanOf (held : List HeldLine) (group : Group) (after : ℕ) : Type 0 where
  pub unended : group.end ≡ group.start + length (unended_bytes held)
  pub next : after ≡ group.start + length (group_bytes held)
  pub opens : group.is_open ≡ is_left_open held
  pub empty : group.is_empty ≡ is_empty_line held

-- the bytes from a group's first line to its last line, and those of its logical line
abbrev pub group_span_bytes : List ℕ → Group → List ℕ
group_span_bytes body group = take (group.end - group.start) (drop group.start body)

abbrev pub group_text : List ℕ → GroupReader → Group → List ℕ
group_text body s group = bytes_with s.line (group_span_bytes body group)

-- That line is valid text.
pub record IsTextHeld (body : List ℕ) (s : GroupReader) (group : Group) : Type 0 where
  pub ordered : group.start ≤ group.end
  pub within : group.end ≤ length body
  pub text : IsUtf8 (group_text body s group)

-- The next group was returned.
pub record TakesHeldGroup (body : List ℕ) (old : GroupReader) (group : Group) (new : GroupReader) : Type 0 where
  pub held : List HeldLine
  pub live : old.scanner.is_done ≡ false
  pub groups : groups_left body old ≡ held ∷ groups_left body new
  pub starts : group.start ≡ old.scanner.at
  pub number : group.number ≡ old.scanner.passed + 1
  pub passed : new.scanner.passed ≡ old.scanner.passed + length held
  pub span : IsSpanOf held group new.scanner.at
  pub within : IsWithin body new
  pub encoding : encoding_of new.scanner.encoding ≡ encoding_of old.scanner.encoding
  pub held_text : IsTextHeld body new group
  pub text : chars (group_text body new group) ≡ joined (as_lines held)

abbrev pub GivesGroup : {E : Type 0} → List ℕ → GroupReader → Result (Option Group) E → GroupReader → Type 0
GivesGroup body old (Ok None) new = (old.scanner.is_done ≡ true) × (new ≡ old)
GivesGroup body old (Ok (Some group)) new = TakesHeldGroup body old group new
GivesGroup body old (Err e) new = Unit {0}

-- The first group of a body was returned.
pub record IsFirstGroup (e : Encoding) (body : List ℕ) (group : Group) (new : GroupReader) : Type 0 where
  pub held : List HeldLine
  pub more : List (List HeldLine)
  pub groups : held_groups_of e body ≡ held ∷ more
  pub starts : group.start ≡ 0
  pub span : IsSpanOf held group new.scanner.at
  pub held_text : IsTextHeld body new group
  pub text : chars (group_text body new group) ≡ joined (as_lines held)

-- ---- continuations

-- the groups that begin with a group that was read so far, followed by the lines that are left, which continue the
-- group if it is open
abbrev pub groups_from : Bool → List HeldLine → List HeldLine → List (List HeldLine)
groups_from true held rest = held_groups_after held rest
groups_from false held rest = held ∷ held_groups_after [] rest

-- A group was read up to one of its lines, whatever the reader was before that group.
pub record ReadsGroup (body : List ℕ) (old : GroupReader) (group : Group) (new : GroupReader) : Type 0 where
  pub first : HeldLine
  pub more : List HeldLine
  pub live : old.scanner.is_done ≡ false
  pub groups : held_groups_after [] (held_lines_left body old.scanner) ≡ groups_from group.is_open (first ∷ more) (held_lines_left body new.scanner)
  pub starts : group.start ≡ old.scanner.at
  pub number : group.number ≡ old.scanner.passed + 1
  pub passed : new.scanner.passed ≡ old.scanner.passed + length (first ∷ more)
  pub span : IsSpanOf (first ∷ more) group new.scanner.at
  pub encoding : encoding_of new.scanner.encoding ≡ encoding_of old.scanner.encoding
  pub opened : group.is_open ≡ true → is_comment_line first.text ≡ false
  pub text : HasText new.line (group_span_bytes body group) (joined (as_lines (first ∷ more)))

-- The line of a group that was read so far is well-formed. If it is open, lines may be joined to it.
pub record IsBegun (body : List ℕ) (s : GroupReader) (group : Group) : Type 0 where
  pub within : IsWithin body s
  pub ordered : group.start ≤ group.end
  pub placed : group.end ≤ s.scanner.at
  pub within_body : group.end ≤ length body
  pub well : IsWell s.line.encoding (group_text body s group)
  pub unfinished : group.is_open ≡ true → IsUnfinishedLine (encoding_of s.scanner.encoding) s.line
  pub sound : IsSoundLogicalLine s.line

-- The group was read whole: to a line that isn't open, or to the last line.
abbrev pub JoinsReadGroup : List ℕ → GroupReader → Group → Group → GroupReader → Type 0
JoinsReadGroup body old group joined new = (before : GroupReader) → ReadsGroup body before group old → TakesHeldGroup body before joined new

-- ---- what separates a new pair from the last group

-- by whether the group is an empty line and whether it is left open
abbrev pub closing_of : Bool → Bool → Closing
closing_of is_empty is_open = if is_empty then closing.Nothing else (if is_open then closing.TwoEndings else closing.OneEnding)
