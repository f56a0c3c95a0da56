-- A source as its groups, with the places of their parts.
use Rattle.std.specs.Prelude.{false, ◌≡◌, ◌⊎◌, ◌≢◌, ◌<◌, ◌≤◌, ◌++◌, ℕ, ◌+◌, ◌-◌, true, List, [], ◌∷◌, length, take, drop, Option, Some, None, Result, Ok, Err}
use Rattle.std.specs.Str.{chars, IsCharBoundary}
use Rattle.properties_format.specs.Encoding.{Encoding, byte_order_mark}
use Rattle.properties_format.specs.Edited.{is_editable}
use Rattle.properties_items.specs.Errors.{IsBareError}
use Rattle.properties_items.specs.declared.error.ErrorKind.TheVariants as kind_of_error
use Rattle.properties_items.specs.declared.error.PropertiesError.{PropertiesError}
use Rattle.properties_format.specs.Text.{backslash, without_leading_blanks}
use Rattle.properties_format.specs.Escapes as format
use Rattle.properties_format.specs.Escapes.{letter_u, Breaks}
use Rattle.properties_format.specs.Lines.{joined}
use Rattle.properties_format.specs.Split.{Logical, blank, comment, pair}
use Rattle.properties_format.specs.Computed.Split.{split_of}
use Rattle.properties_format.specs.Body.{HeldLine, as_lines}
use Rattle.properties_format.specs.Computed.Body.{held_groups_of}
use Rattle.properties_format.specs.Computed.Valued.{after_key, value_as_written}
use Rattle.properties_text.specs.Encoding.{encoding_of}
use Rattle.properties_text.specs.Parsing.{bytes_in, IsSpan}
use Rattle.properties_text.specs.Escaping.{malformed_in}
use Rattle.properties_text.specs.declared.escape.Malformed.{Malformed}
use Rattle.properties_text.specs.declared.parse.Span.{Span}
use Rattle.properties_lines.specs.LogicalLine.{IsLineIn, is_natural}
use Rattle.properties_editing.specs.Views.{IsMeaningful, group_kind, with_bytes}
use Rattle.properties_editing.specs.Private.BodyGroups.{IsWithin, TakesHeldGroup, groups_left, group_text}
use Rattle.properties_editing.specs.Private.BodyCuts.{Cut, IsCutOf, cut_at, cut_size}
use Rattle.properties_editing.specs.declared.groups.GroupReader.{GroupReader}
use Rattle.properties_editing.specs.declared.walk.FoundFlaw.{FoundFlaw}
use Rattle.properties_editing.specs.declared.group.GroupKind.{GroupKind}
use Rattle.properties_editing.specs.declared.group.GroupKind.TheVariants as kind
use Rattle.properties_editing.specs.declared.walk.Parts.{Parts}
use Rattle.properties_editing.specs.declared.group.PartPlaces.{PartPlaces}
use Rattle.properties_editing.specs.declared.walk.Walk.{Walk}
use Rattle.properties_editing.specs.declared.walk.WalkedGroup.{WalkedGroup}

-- ---- the parts of a logical line

-- the text after the sign of a comment
abbrev pub after_sign : List ℕ → List ℕ
after_sign x = drop 1 (without_leading_blanks x)

-- how many characters come before the parts of a logical line, and before their ends
pub record Counts : Type 0 where
  pub key_start : ℕ
  pub key_end : ℕ
  pub value_start : ℕ
  pub value_end : ℕ

abbrev pub counts_by : Logical → List ℕ → Counts
counts_by blank x = record { key_start = length x; key_end = length x; value_start = length x; value_end = length x }
counts_by (comment text) x =
    let rest = without_leading_blanks (after_sign x) in
    record {
      key_start = length x - length (without_leading_blanks x);
      key_end = length x - length (after_sign x);
      value_start = length x - length rest;
      value_end = length x - length rest + length text;
    }
counts_by (pair key value) x =
    record {
      key_start = length x - length (without_leading_blanks x);
      key_end = length x - length (after_key x);
      value_start = length x - length (value_as_written x);
      value_end = length x;
    }

abbrev pub counts_of : List ℕ → Counts
counts_of x = counts_by (split_of x) x

-- a position in a text, by the number of characters before it
pub record IsCountAt (line : List ℕ) (at count : ℕ) : Type 0 where
  pub within : at ≤ length line
  pub whole : IsCharBoundary line at
  pub count_is : length (chars (take at line)) ≡ count

-- the spans have the texts of the parts
abbrev pub AreTextsOf : Logical → List ℕ → Parts → Type 0
AreTextsOf blank line parts = (chars (bytes_in line parts.key) ≡ []) × (chars (bytes_in line parts.value) ≡ [])
AreTextsOf (comment text) line parts =
    (chars (bytes_in line parts.key) ≡ take 1 (without_leading_blanks (chars line))) × (chars (bytes_in line parts.value) ≡ text)
AreTextsOf (pair key value) line parts = (chars (bytes_in line parts.key) ≡ key) × (chars (bytes_in line parts.value) ≡ value)

-- The parts of a line that is this.
pub record ArePartsBy (what : Logical) (line : List ℕ) (parts : Parts) : Type 0 where
  pub kind_is : parts.kind ≡ group_kind what
  pub key_start : IsCountAt line parts.key.start (counts_by what (chars line)).key_start
  pub key_end : IsCountAt line parts.key.end (counts_by what (chars line)).key_end
  pub value_start : IsCountAt line parts.value.start (counts_by what (chars line)).value_start
  pub value_end : IsCountAt line parts.value.end (counts_by what (chars line)).value_end
  pub key_span : IsSpan line parts.key
  pub value_span : IsSpan line parts.value
  pub texts : AreTextsOf what line parts

abbrev pub ArePartsOfLine : List ℕ → Parts → Type 0
ArePartsOfLine line parts = ArePartsBy (split_of (chars line)) line parts

-- ---- the view

-- the reader before the group that was returned last
abbrev pub reader_before : Walk → GroupReader
reader_before view = record view.reader { scanner = view.before }

abbrev pub IsOpened : Walk → Type 0
IsOpened view = IsWithin view.source.now view.reader

abbrev pub walked_line : Walk → WalkedGroup → List ℕ
walked_line view group = group_text view.source.now view.reader group.group

-- the groups to come
abbrev pub groups_to_come : Walk → List (List HeldLine)
groups_to_come view = groups_left view.source.now view.reader

-- A source was opened, for which this encoding was requested: the view is before the first group of its body.
pub record IsWalkOf (requested : Encoding) (source : List ℕ) (view : Walk) : Type 0 where
  pub source_is : view.source.now ≡ source
  pub in_force : byte_order_mark requested source
      ≡ record { encoding = encoding_of view.reader.scanner.encoding; body = drop view.reader.scanner.at source }
  pub editable : is_editable (encoding_of view.reader.scanner.encoding) ≡ true
  pub none_passed : view.reader.scanner.passed ≡ 0
  pub all : groups_to_come view ≡ held_groups_of (encoding_of view.reader.scanner.encoding) (drop view.reader.scanner.at source)
  pub opened : IsOpened view

-- Or its encoding isn't read.
abbrev pub OpensWalk : Encoding → List ℕ → Result Walk PropertiesError → Type 0
OpensWalk requested source (Ok view) = IsWalkOf requested source view
OpensWalk requested source (Err error) = (is_editable (byte_order_mark requested source).encoding ≡ false) × IsBareError kind_of_error.Unsupported error

-- This is the group that was returned last.
pub record IsViewed (view : Walk) (group : WalkedGroup) : Type 0 where
  pub old : GroupReader
  pub before : old.scanner ≡ view.before
  pub within_old : IsWithin view.source.now old
  pub takes : TakesHeldGroup view.source.now old group.group view.reader
  pub parts : ArePartsOfLine (walked_line view group) group.parts
  pub next : group.next ≡ view.reader.scanner.at

-- Its logical line is its bytes as they are: it is one line, which isn't left open.
pub record IsPlain (view : Walk) (group : WalkedGroup) : Type 0 where
  pub natural : is_natural view.reader.line.place ≡ true
  pub closed : group.group.is_open ≡ false
  pub single : view.reader.scanner.passed ≡ group.group.number

-- The next group was returned.
pub record TakesWalk (old : Walk) (group : WalkedGroup) (new : Walk) : Type 0 where
  pub viewed : IsViewed new group
  pub given : with_bytes (groups_to_come old) ≡ viewed.takes.held ∷ with_bytes (groups_to_come new)
  pub opened : IsOpened new
  pub same : new ≡ record old { before = old.reader.scanner; reader = new.reader }

-- No group was returned, and the same are to come.
pub record KeepsWalk (old new : Walk) : Type 0 where
  pub source_is : new.source.now ≡ old.source.now
  pub state : new.reader.scanner ≡ old.reader.scanner

abbrev pub GivesWalk : {E : Type 0} → Walk → Result (Option WalkedGroup) E → Walk → Type 0
GivesWalk old (Ok None) new = (with_bytes (groups_to_come old) ≡ []) × KeepsWalk old new
GivesWalk old (Ok (Some group)) new = TakesWalk old group new
GivesWalk old (Err e) new = KeepsWalk old new

-- ---- places

-- the first of some groups
abbrev pub first_of : List (List HeldLine) → List HeldLine
first_of [] = []
first_of (g ∷ gs) = g

-- the lines of the group that was returned last, and its logical line
abbrev pub walked_lines : Walk → List HeldLine
walked_lines view = first_of (groups_left view.source.now (reader_before view))

abbrev pub walked_text : Walk → List ℕ
walked_text view = joined (as_lines (walked_lines view))

-- where so many characters of the logical line of that group end
abbrev pub cut_in : Walk → ℕ → Cut
cut_in view count = cut_at (encoding_of view.before.encoding) true count (walked_lines view)

abbrev pub place_in : Walk → ℕ → ℕ
place_in view count = view.before.at + cut_size (cut_at (encoding_of view.before.encoding) true count (walked_lines view))

-- the places of its parts, by what it is
abbrev pub places_by : GroupKind → Walk → WalkedGroup → Counts → PartPlaces
places_by kind.Blank view group counts =
    record { key_start = group.group.end; key_end = group.group.end; value_start = group.group.end; value_end = group.group.end }
places_by kind.Comment view group counts =
    record {
      key_start = place_in view counts.key_start;
      key_end = place_in view counts.key_end;
      value_start = place_in view counts.value_start;
      value_end = place_in view counts.value_end;
    }
places_by kind.Pair view group counts =
    record {
      key_start = place_in view counts.key_start;
      key_end = place_in view counts.key_end;
      value_start = place_in view counts.value_start;
      value_end = group.group.end;
    }

abbrev pub walked_places : Walk → WalkedGroup → PartPlaces
walked_places view group = places_by (group_kind (split_of (walked_text view))) view group (counts_of (walked_text view))

-- What the cuts at these places mean: the lines up to there add the first characters of the logical line.
abbrev pub IsMeant : Walk → ℕ → Type 0
IsMeant view count = IsCutOf (encoding_of view.before.encoding) true (walked_lines view) (take count (walked_text view)) (cut_in view count)

-- They don't descend.
pub record ArePlacedInOrder (group : WalkedGroup) (places : PartPlaces) : Type 0 where
  pub indent : group.group.start ≤ places.key_start
  pub key : places.key_start ≤ places.key_end
  pub between : places.key_end ≤ places.value_start
  pub value : places.value_start ≤ places.value_end
  pub after : places.value_end ≤ group.group.end
  pub ending : group.group.end ≤ group.next

-- ---- malformed escapes

-- The first malformed escape of the text comes after so many characters.
pub record BreaksAt (text : List ℕ) (kind : format.Malformed) (count : ℕ) : Type 0 where
  pub breaks : Breaks text kind
  pub place : count + length (backslash ∷ letter_u ∷ breaks.after) ≡ length text

-- A text before which so many characters come has it.
pub record BreaksPart (before : ℕ) (text : List ℕ) (kind : format.Malformed) (count : ℕ) : Type 0 where
  pub inside : ℕ
  pub breaks_at : BreaksAt text kind inside
  pub place : count ≡ before + inside

-- The first malformed escape of a logical line comes after so many characters of it,
abbrev pub HasFlaw : Logical → Counts → format.Malformed → ℕ → Type 0
HasFlaw blank counts how count = ⊥
HasFlaw (comment text) counts how count = BreaksPart counts.value_start text how count
HasFlaw (pair key value) counts how count = BreaksPart counts.key_start key how count ⊎ IsMeaningful key × BreaksPart counts.value_start value how count

-- or there is none.
abbrev pub HasNoFlaw : Logical → Type 0
HasNoFlaw blank = Unit {0}
HasNoFlaw (comment text) = IsMeaningful text
HasNoFlaw (pair key value) = IsMeaningful key × IsMeaningful value

-- The first malformed escape of a part is at this position of the line.
pub record IsPartFlaw (line : List ℕ) (span : Span) (at : ℕ) (how : Malformed) : Type 0 where
  pub within : at < length line
  pub whole : IsCharBoundary line at
  pub breaks : BreaksPart (length (chars (take span.start line))) (chars (bytes_in line span)) (malformed_in how) (length (chars (take at line)))

abbrev pub FindsPartFlaw : List ℕ → Span → Option (ℕ × Malformed) → Type 0
FindsPartFlaw line span None = IsMeaningful (chars (bytes_in line span))
FindsPartFlaw line span (Some (at, how)) = IsPartFlaw line span at how

-- So it is of the key of a pair.
pub record FindsKeyFlaw (line : List ℕ) (parts : Parts) (found : Option (ℕ × Malformed)) : Type 0 where
  pub pair : parts.kind ≡ kind.Pair → FindsPartFlaw line parts.key found
  pub other : parts.kind ≢ kind.Pair → found ≡ None

pub record IsLineFlaw (line : List ℕ) (at : ℕ) (how : Malformed) : Type 0 where
  pub within : at < length line
  pub whole : IsCharBoundary line at
  pub flaw : HasFlaw (split_of (chars line)) (counts_of (chars line)) (malformed_in how) (length (chars (take at line)))

abbrev pub FindsFlaw : List ℕ → Option (ℕ × Malformed) → Type 0
FindsFlaw line None = HasNoFlaw (split_of (chars line))
FindsFlaw line (Some (at, how)) = IsLineFlaw line at how

-- The first malformed escape of that group, whose backslash comes before the cut.
pub record IsFlawOf (view : Walk) (flaw : FoundFlaw) : Type 0 where
  pub count : ℕ
  pub has_flaw : HasFlaw (split_of (walked_text view)) (counts_of (walked_text view)) (malformed_in flaw.how) count
  pub place : flaw.place + 1 ≡ view.before.at + cut_size (cut_in view (count + 1))
  pub number : flaw.number ≡ view.before.passed + (cut_in view (count + 1)).line
  pub column : flaw.column ≡ (cut_in view (count + 1)).head
  pub from_one : 1 ≤ flaw.column
  pub meant : IsMeant view (count + 1)

abbrev pub TellsFoundFlaw : Walk → Option FoundFlaw → Type 0
TellsFoundFlaw view None = HasNoFlaw (split_of (walked_text view))
TellsFoundFlaw view (Some flaw) = IsFlawOf view flaw

-- ---- ill-formed lines

-- All of the lines are text of the encoding,
abbrev pub AreLinesIn : Encoding → List HeldLine → Type 0
AreLinesIn e [] = Unit {0}
AreLinesIn e (h ∷ hs) = IsLineIn e h.bytes × AreLinesIn e hs

-- or the first that isn't is the one with this number, counted from 1.
pub record IsFirstIllFormedLine (e : Encoding) (lines : List HeldLine) (number : ℕ) : Type 0 where
  pub kept : List HeldLine
  pub line : HeldLine
  pub more : List HeldLine
  pub division : lines ≡ kept ++ line ∷ more
  pub texts : AreLinesIn e kept
  pub ill_formed : ¬ (IsLineIn e line.bytes)
  pub is_number : number ≡ length kept + 1

abbrev pub TellsIllFormedLine : Walk → Option ℕ → Type 0
TellsIllFormedLine view None = AreLinesIn (encoding_of view.before.encoding) (walked_lines view)
TellsIllFormedLine view (Some number) =
    (n : ℕ) × (number ≡ view.before.passed + n) × IsFirstIllFormedLine (encoding_of view.before.encoding) (walked_lines view) n
