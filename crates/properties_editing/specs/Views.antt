-- A view of a source: its groups, one after another, with the places of their parts.
use Rattle.std.specs.Prelude.{◌≡◌, ◌≢◌, ◌⊎◌, ◌≤◌, ◌++◌, ℕ, ◌+◌, ◌-◌, true, false, if◌then◌else◌, List, [], ◌∷◌, length, drop, Option, Some, None, Result, Ok, Err}
use Rattle.properties_format.specs.Text.{backslash, is_empty, without_leading_blanks}
use Rattle.properties_format.specs.Encoding.{Encoding, utf_8, byte_order_mark}
use Rattle.properties_format.specs.Utf8.{IsWellFormedText}
use Rattle.properties_format.specs.Cut.{IsDecodedLine}
use Rattle.properties_format.specs.Lines.{joined}
use Rattle.properties_format.specs.Split.{Logical, blank, comment, pair, AreBlanks, IsComment, IsPair, IsSplit}
use Rattle.properties_format.specs.Escapes.{Breaks, Malformed, Means, spellings_before}
use Rattle.properties_format.specs.Body.{AreGroupsOf, HeldLine, as_lines, ending_bytes, group_bytes, groups_bytes, last_ending}
use Rattle.properties_format.specs.Edited.{is_editable}
use Rattle.properties_items.specs.Errors.{IsBareError, malformed_kind}
use Rattle.properties_items.specs.declared.error.ErrorKind.TheVariants as error
use Rattle.properties_items.specs.declared.error.PropertiesError.{PropertiesError}
use Rattle.properties_editing.specs.declared.group.Flaw.{Flaw}
use Rattle.properties_editing.specs.declared.group.ViewedGroup.{ViewedGroup}
use Rattle.properties_editing.specs.declared.group.GroupKind.{GroupKind}
use Rattle.properties_editing.specs.declared.group.GroupKind.TheVariants as kind
use Rattle.properties_editing.specs.declared.group.PartPlaces.{PartPlaces}

-- A view as its callers see it: the source and the encoding in force; the lines of the group that was given last, or
-- none; where it begins, and how many lines come before it; and the groups to come.
pub record OpenView : Type 0 where
  pub source : List ℕ
  pub encoding : Encoding
  pub group : List HeldLine
  pub start : ℕ
  pub passed : ℕ
  pub to_come : List (List HeldLine)

-- ---- the groups of a source

-- the groups but a last one without bytes, which is the empty line after a last line ending
abbrev pub with_bytes : List (List HeldLine) → List (List HeldLine)
with_bytes [] = []
with_bytes (g ∷ []) = if is_empty (group_bytes g) then [] else g ∷ []
with_bytes (g ∷ h ∷ gs) = g ∷ with_bytes (h ∷ gs)

-- These are the groups of a body, but for a last one without bytes. Together they are the body.
pub record AreGiven (e : Encoding) (body : List ℕ) (groups : List (List HeldLine)) : Type 0 where
  pub all : List (List HeldLine)
  pub division : AreGroupsOf e body all
  pub are : groups ≡ with_bytes all
  pub together : groups_bytes groups ≡ body

-- A source was opened, for which this encoding was requested: all groups of its body are to come.
pub record IsViewOf (requested : Encoding) (source : List ℕ) (v : OpenView) : Type 0 where
  pub source_is : v.source ≡ source
  pub in_force : byte_order_mark requested source ≡ record { encoding = v.encoding; body = drop v.start source }
  pub within : v.start ≤ length source
  pub editable : is_editable v.encoding ≡ true
  pub none_given : v.group ≡ []
  pub none_passed : v.passed ≡ 0
  pub given : AreGiven v.encoding (drop v.start source) v.to_come

-- Or its encoding isn't read.
abbrev pub OpensView : Encoding → List ℕ → Result OpenView PropertiesError → Type 0
OpensView requested source (Ok v) = IsViewOf requested source v
OpensView requested source (Err e) = (is_editable (byte_order_mark requested source).encoding ≡ false) × IsBareError error.Unsupported e

-- the logical line of the group; an empty one if there is none
abbrev pub viewed_line : OpenView → List ℕ
viewed_line v = joined (as_lines v.group)

-- where the group's last line ending begins
abbrev pub end_of : OpenView → ℕ
end_of v = v.start + (length (group_bytes v.group) - length (ending_bytes (last_ending v.group)))

abbrev pub group_kind : Logical → GroupKind
group_kind blank = kind.Blank
group_kind (comment text) = kind.Comment
group_kind (pair key value) = kind.Pair

-- the view after its group
abbrev pub past_group : OpenView → OpenView
past_group v = record v { group = []; start = v.start + length (group_bytes v.group); passed = v.passed + length v.group }

-- What is told of the group.
pub record IsGroup (v : OpenView) (group : ViewedGroup) : Type 0 where
  pub what : Logical
  pub is_split : IsSplit (viewed_line v) what
  pub kind_is : group.kind ≡ group_kind what
  pub line_number : group.line_number ≡ v.passed + 1
  pub line_count : group.line_count ≡ length v.group
  pub start : group.start ≡ v.start
  pub end : group.end ≡ end_of v
  pub next : group.next ≡ (past_group v).start

-- The next group was given,
pub record TakesNext (old : OpenView) (group : ViewedGroup) (new : OpenView) : Type 0 where
  pub takes : old.to_come ≡ new.group ∷ new.to_come
  pub moves : new ≡ record (past_group old) { group = new.group; to_come = new.to_come }
  pub is_group : IsGroup new group

-- or there is none; or memory ran out, and the same groups are to come.
abbrev pub GivesNext : {E : Type 0} → OpenView → Result (Option ViewedGroup) E → OpenView → Type 0
GivesNext old (Ok None) new = (old.to_come ≡ []) × (new ≡ past_group old)
GivesNext old (Ok (Some group)) new = TakesNext old group new
GivesNext old (Err e) new = new ≡ past_group old

-- ---- texts as they stand

-- The key of a pair; or the sign of a comment; or nothing.
abbrev pub IsKeyOf : List ℕ → List ℕ → Logical → Type 0
IsKeyOf x key blank = AreBlanks x × (key ≡ [])
IsKeyOf x key (comment text) = (c : IsComment x text) × (key ≡ c.sign ∷ [])
IsKeyOf x key (pair name value) = IsPair x name value × (key ≡ name)

abbrev pub IsRawKey : List ℕ → List ℕ → Type 0
IsRawKey x key = (what : Logical) × IsKeyOf x key what

-- The value of a pair; or the text of a comment; or nothing.
abbrev pub text_or_value : Logical → List ℕ
text_or_value blank = []
text_or_value (comment text) = text
text_or_value (pair key value) = value

abbrev pub IsRawValue : List ℕ → List ℕ → Type 0
IsRawValue x value = (what : Logical) × IsSplit x what × (value ≡ text_or_value what)

-- ---- places

-- what whole lines of a group and the beginning of the line after them add to its logical line
abbrev pub joined_with : List HeldLine → List ℕ → List ℕ
joined_with [] head = head
joined_with (h ∷ hs) head = joined (as_lines (h ∷ hs)) ++ without_leading_blanks head

-- A group is cut behind this text of its logical line: into whole lines, a line that is cut into a head and a tail, and
-- others. The head of a later line isn't blank, so the cut is where the text ends first. If others follow, the tail has
-- the backslash that joins them, which no text has, though a later line may begin with another.
pub record IsCutBehind (e : Encoding) (group : List HeldLine) (text : List ℕ) : Type 0 where
  pub kept : List HeldLine
  pub line : HeldLine
  pub more : List HeldLine
  pub division : group ≡ kept ++ line ∷ more
  pub head : List ℕ
  pub tail : List ℕ
  pub head_text : List ℕ
  pub tail_text : List ℕ
  pub cut : line.bytes ≡ head ++ tail
  pub cut_text : line.text ≡ head_text ++ tail_text
  pub is_head : IsDecodedLine e head head_text
  pub is_tail : IsDecodedLine e tail tail_text
  pub text_is : text ≡ joined_with kept head_text
  pub not_blank : kept ≢ [] → without_leading_blanks head_text ≢ []
  pub before_join : more ≢ [] → tail_text ≢ []

-- the bytes of the group before the cut
abbrev pub size_before : {e : Encoding} {group : List HeldLine} {text : List ℕ} → IsCutBehind e group text → ℕ
size_before cut = length (group_bytes cut.kept) + length cut.head

-- The text ends at this place of the source.
abbrev pub EndsAt : OpenView → List ℕ → ℕ → Type 0
EndsAt v text place = (cut : IsCutBehind v.encoding v.group text) × (place ≡ v.start + size_before cut)

-- where the parts of a blank line are
abbrev pub places_at : ℕ → PartPlaces
places_at end = record { key_start = end; key_end = end; value_start = end; value_end = end }

pub record AreOfComment (v : OpenView) (text : List ℕ) (places : PartPlaces) : Type 0 where
  pub is_comment : IsComment (viewed_line v) text
  pub key_start : EndsAt v is_comment.indent places.key_start
  pub key_end : EndsAt v (is_comment.indent ++ is_comment.sign ∷ []) places.key_end
  pub value_start : EndsAt v (is_comment.indent ++ is_comment.sign ∷ is_comment.trimmed.before) places.value_start
  pub value_end : EndsAt v (is_comment.indent ++ is_comment.sign ∷ (is_comment.trimmed.before ++ text)) places.value_end

pub record AreOfPair (v : OpenView) (key value : List ℕ) (places : PartPlaces) : Type 0 where
  pub is_pair : IsPair (viewed_line v) key value
  pub key_start : EndsAt v is_pair.indent places.key_start
  pub key_end : EndsAt v (is_pair.indent ++ key) places.key_end
  pub value_start : EndsAt v (is_pair.indent ++ (key ++ is_pair.between)) places.value_start
  pub value_end : places.value_end ≡ end_of v

-- The places of the parts, by what the group is: each is the end of the text before it.
abbrev pub ArePlacesOf : OpenView → PartPlaces → Logical → Type 0
ArePlacesOf v places blank = AreBlanks (viewed_line v) × (places ≡ places_at (end_of v))
ArePlacesOf v places (comment text) = AreOfComment v text places
ArePlacesOf v places (pair key value) = AreOfPair v key value places

abbrev pub ArePlaces : OpenView → PartPlaces → Type 0
ArePlaces v places = (what : Logical) × ArePlacesOf v places what

-- They don't descend.
pub record AreOrdered (v : OpenView) (places : PartPlaces) : Type 0 where
  pub indent : v.start ≤ places.key_start
  pub key : places.key_start ≤ places.key_end
  pub between : places.key_end ≤ places.value_start
  pub value : places.value_start ≤ places.value_end
  pub after : places.value_end ≤ end_of v

-- ---- malformed escapes

-- The first malformed escape of a text comes behind this text of the line, of which `front` comes before the text.
pub record BreaksBehind (front text : List ℕ) (how : Malformed) (before : List ℕ) : Type 0 where
  pub breaks : Breaks text how
  pub before_is : before ≡ front ++ spellings_before breaks.spellings []

abbrev pub IsMeaningful : List ℕ → Type 0
IsMeaningful text = (meant : List ℕ) × Means text meant

-- The first malformed escape of a logical line comes behind this text of it: in a comment's text; or in a pair's key,
-- or in its value if the key has none.
abbrev pub BreaksLine : List ℕ → Malformed → List ℕ → Logical → Type 0
BreaksLine x how before blank = ⊥
BreaksLine x how before (comment text) = (c : IsComment x text) × BreaksBehind (c.indent ++ c.sign ∷ c.trimmed.before) text how before
BreaksLine x how before (pair key value) =
    (p : IsPair x key value)
    × (BreaksBehind p.indent key how before ⊎ IsMeaningful key × BreaksBehind (p.indent ++ (key ++ p.between)) value how before)

-- Or it has none.
abbrev pub AreMeaningful : Logical → Type 0
AreMeaningful blank = Unit {0}
AreMeaningful (comment text) = IsMeaningful text
AreMeaningful (pair key value) = IsMeaningful key × IsMeaningful value

-- The first malformed escape of the group: the cut is behind its backslash.
pub record IsFlaw (v : OpenView) (flaw : Flaw) : Type 0 where
  pub what : Logical
  pub how : Malformed
  pub before : List ℕ
  pub breaks : BreaksLine (viewed_line v) how before what
  pub kind_is : flaw.kind ≡ malformed_kind how
  pub cut : IsCutBehind v.encoding v.group (before ++ backslash ∷ [])
  pub place : flaw.place + 1 ≡ v.start + size_before cut
  pub line_number : flaw.line_number ≡ v.passed + (length cut.kept + 1)
  pub column : flaw.column ≡ length cut.head

abbrev pub TellsFlaw : OpenView → Option Flaw → Type 0
TellsFlaw v None = (what : Logical) × IsSplit (viewed_line v) what × AreMeaningful what
TellsFlaw v (Some flaw) = IsFlaw v flaw

-- ---- ill-formed lines

-- The bytes of a line are text: in UTF-8 they are well-formed, and in windows-1252 any are.
abbrev pub IsTextIn : Encoding → List ℕ → Type 0
IsTextIn utf_8 bytes = IsWellFormedText bytes
IsTextIn e bytes = Unit {0}

-- All lines are text,
abbrev pub AreTexts : Encoding → List HeldLine → Type 0
AreTexts e [] = Unit {0}
AreTexts e (h ∷ hs) = IsTextIn e h.bytes × AreTexts e hs

-- or the first that isn't has this number.
pub record IsIllFormed (v : OpenView) (number : ℕ) : Type 0 where
  pub kept : List HeldLine
  pub line : HeldLine
  pub more : List HeldLine
  pub division : v.group ≡ kept ++ line ∷ more
  pub texts : AreTexts v.encoding kept
  pub ill_formed : ¬ (IsTextIn v.encoding line.bytes)
  pub is_number : number ≡ v.passed + (length kept + 1)

abbrev pub TellsIllFormed : OpenView → Option ℕ → Type 0
TellsIllFormed v None = AreTexts v.encoding v.group
TellsIllFormed v (Some number) = IsIllFormed v number
