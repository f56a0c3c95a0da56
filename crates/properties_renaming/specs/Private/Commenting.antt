-- How comments are set, group after group of a view.
use Rattle.std.specs.Prelude.{◌≡◌, ◌≢◌, ◌⊎◌, ◌++◌, ◌-◌, ◌<◌, ◌≤◌, ℕ, ◌+◌, ◌==◌, Bool, true, is_some, if◌then◌else◌, List, [], ◌∷◌, get_or, length, map, Option, Some, None, Result, Ok, Err}
use Rattle.std.specs.Global.{Vec}
use Rattle.std.specs.Option.{unwrap_or}
use Rattle.std.specs.declared.string.String.{String}
use Rattle.properties_format.specs.Text.{crlf, is_empty, lf, line_ending_text}
use Rattle.properties_format.specs.Encoding.{Encoding, Repertoire, repertoire_in_force}
use Rattle.properties_format.specs.Lines.{HoldsNoLineEnding, is_comment_line, joined}
use Rattle.properties_format.specs.Body.{AreGroupsOf, HeldLine, as_lines, ending_bytes, group_bytes, groups_bytes, held_in, last_ending}
use Rattle.properties_format.specs.Edited.{bom_of, is_editable}
use Rattle.properties_format.specs.Valued.{ending_in}
use Rattle.properties_format.specs.Computed.Items.{outcome_of}
use Rattle.properties_format.specs.Computed.Lines.{ends_in_cr, lines_of, rest_of_end}
use Rattle.properties_text.specs.Printing.{text_bytes}
use Rattle.properties_text.specs.declared.print.Place.TheVariants.{Prefix}
use Rattle.properties_text.specs.declared.print.Repertoire as code
use Rattle.properties_items.specs.Texts.{characters}
use Rattle.properties_items.specs.declared.error.PropertiesError.{PropertiesError}
use Rattle.properties_editing.specs.Views.{OpenView}
use Rattle.properties_editing.specs.declared.group.ViewedGroup.{ViewedGroup}
use Rattle.properties_renaming.specs.CommentLines.{AreCommentGroups, AreCommentTexts, IsCommentLine, lines_in_text}
use Rattle.properties_renaming.specs.Commenting.{AreCommentsSet, HasLines, HasNoPairFor, HaveNoText, IsCommented, IsStyleFor, LineStyle, NewText, gap_before, text_for, texts_of}
use Rattle.properties_renaming.specs.Renaming.{AreIn}
use Rattle.properties_renaming.specs.Sections.{AreDivided, AreMadeOf, Section}
use Rattle.properties_format.specs.Separators.{last_sign}
use Rattle.properties_renaming.specs.Private.Commented.{IsUnopened, TakesHeaded}
use Rattle.properties_renaming.specs.Private.Copied.{copied_to}
use Rattle.properties_renaming.specs.Private.Keyed.{value_at, value_of}
use Rattle.properties_renaming.specs.Private.Renaming.{PrintsKeys}
use Rattle.properties_renaming.specs.declared.commenting.Comment.{Comment}
use Rattle.properties_renaming.specs.declared.commenting.Commented.{Commented}
use Rattle.properties_renaming.specs.declared.commenting.Commented.TheVariants.{Bytes, NoKey}
use Rattle.properties_renaming.specs.declared.commenting.Look.{Look}
use Rattle.properties_renaming.specs.declared.commenting.Style.{Style}
use Rattle.properties_renaming.specs.declared.commenting.TextLines.{TextLines}
use Rattle.properties_renaming.specs.declared.copied.Copied.{Copied}

-- ---- the comment lines above a group

-- The group is at this place.
pub record IsGroupAt (start : ℕ) (g : List HeldLine) (group : ViewedGroup) : Type 0 where
  pub start_is : group.start ≡ start
  pub end_is : group.end ≡ start + (length (group_bytes g) - length (ending_bytes (last_ending g)))
  pub next_is : group.next ≡ start + length (group_bytes g)

-- The first of these comment lines that has a text is at its place; the first of all begins here.
pub record IsModel (start : ℕ) (run : List (List HeldLine)) (model : ViewedGroup) : Type 0 where
  pub before : List (List HeldLine)
  pub line : List HeldLine
  pub after : List (List HeldLine)
  pub division : run ≡ before ++ line ∷ after
  pub none_before : HaveNoText before
  pub text : List ℕ
  pub is_line : IsCommentLine (joined (as_lines line)) text
  pub some : text ≢ []
  pub at : IsGroupAt (start + length (groups_bytes before)) line model

-- Or none has one.
abbrev pub TellsModel : ℕ → List (List HeldLine) → Option ViewedGroup → Type 0
TellsModel start run None = HaveNoText run
TellsModel start run (Some model) = IsModel start run model

-- what is known of the comment lines above a group
abbrev pub texts_above : Comment → List (List ℕ)
texts_above comment = map characters comment.texts.items

-- The next group that isn't a comment line was given, with its comment, and the texts of that;
abbrev pub TakesComment : OpenView → Comment → OpenView → Type 0
TakesComment old comment new =
    (h : TakesHeaded old comment.headed new) × AreCommentTexts h.comment (texts_above comment) × TellsModel comment.headed.start h.comment comment.model
    × (comment.separator ≡ last_sign (lines_in_text h.above))

-- or comment lines alone were to come.
abbrev pub GivesComment : OpenView → Option Comment → OpenView → Type 0
GivesComment old None new = AreCommentGroups old.to_come
GivesComment old (Some comment) new = TakesComment old comment new

-- the first comment line that has a text, given that before this one
abbrev pub first_model : Option ViewedGroup → ViewedGroup → List ℕ → Option ViewedGroup
first_model model line text = if is_empty text then model else Some (unwrap_or model line)

-- ---- the last pairs with keys

-- The comment with this index is the last one for the key.
abbrev pub IsIndexOf : List NewText → List ℕ → Option ℕ → Type 0
IsIndexOf texts key None = text_for texts key ≡ None
IsIndexOf texts key (Some i) = (i < length texts) × ((d : NewText) → ((get_or texts i d).key ≡ key) × (text_for texts key ≡ Some (get_or texts i d).text))

abbrev pub AreIndicesOf : {Y : Type 0} → List NewText → List (String Y × ℕ) → Type 0
AreIndicesOf texts indices = (key : List ℕ) → IsIndexOf texts key (value_at indices key)

abbrev pub AreIndicesBelow : {Y : Type 0} → ℕ → List (String Y × ℕ) → Type 0
AreIndicesBelow count indices = (key : List ℕ) (i : ℕ) → value_at indices key ≡ Some i → i < count

-- The group is a pair whose key has this index.
abbrev pub HasIndex : {Y : Type 0} → List (String Y × ℕ) → ℕ → List HeldLine → Type 0
HasIndex indices i group = value_of indices (outcome_of (joined (as_lines group))) ≡ Some i

abbrev pub NoneHasIndex : {Y : Type 0} → List (String Y × ℕ) → ℕ → List (List HeldLine) → Type 0
NoneHasIndex indices i [] = Unit {0}
NoneHasIndex indices i (g ∷ gs) = ¬ (HasIndex indices i g) × NoneHasIndex indices i gs

-- The last of these groups with this index has this number.
pub record IsLastWith {Y : Type 0} (indices : List (String Y × ℕ)) (i : ℕ) (groups : List (List HeldLine)) (number : ℕ) : Type 0 where
  pub before : List (List HeldLine)
  pub group : List HeldLine
  pub after : List (List HeldLine)
  pub division : groups ≡ before ++ group ∷ after
  pub has_index : HasIndex indices i group
  pub no_later : NoneHasIndex indices i after
  pub is_number : number ≡ length (held_in before) + 1

-- Or none has it.
abbrev pub TellsLast : {Y : Type 0} → List (String Y × ℕ) → ℕ → List (List HeldLine) → ℕ → Type 0
TellsLast indices i groups number = (number ≡ 0) × NoneHasIndex indices i groups ⊎ IsLastWith indices i groups number

-- These are the lines of the last groups of a source with each index.
pub record HasLastLines {Y : Type 0} (e : Encoding) (source : List ℕ) (indices : List (String Y × ℕ)) (lines : List ℕ) : Type 0 where
  pub groups : List (List HeldLine)
  pub held : AreIn e source groups
  pub tells : (i : ℕ) → i < length lines → TellsLast indices i groups (get_or lines i 0)

abbrev pub FindsLines : {Y : Type 0} → Encoding → List ℕ → List (String Y × ℕ) → ℕ → Result (Vec ℕ) PropertiesError → Type 0
FindsLines e source indices count (Ok lines) = (length lines.items ≡ count) × HasLastLines e source indices lines.items
FindsLines e source indices count (Err reason) = IsUnopened e source reason

-- the index of a comment if the last pair with its key begins in this line
abbrev pub index_at : List ℕ → Option ℕ → ℕ → Option ℕ
index_at lines None line = None
index_at lines (Some i) line = if get_or lines i 0 == line then Some i else None

-- No pair was found with the key, which has an index;
abbrev pub IsWithout : {Y : Type 0} → List (String Y × ℕ) → List ℕ → List ℕ → Type 0
IsWithout indices lines key = is_some (index_at lines (value_at indices key) 0) ≡ true

abbrev pub NoneIsWithout : {Y : Type 0} → List (String Y × ℕ) → List ℕ → List NewText → Type 0
NoneIsWithout indices lines [] = Unit {0}
NoneIsWithout indices lines (t ∷ ts) = ¬ (IsWithout indices lines t.key) × NoneIsWithout indices lines ts

-- and this is the first such comment.
pub record IsFirstWithout {Y : Type 0} (indices : List (String Y × ℕ)) (lines : List ℕ) (texts : List NewText) (index : ℕ) : Type 0 where
  pub before : List NewText
  pub text : NewText
  pub after : List NewText
  pub division : texts ≡ before ++ text ∷ after
  pub index_is : index ≡ length before
  pub none_before : NoneIsWithout indices lines before
  pub without : IsWithout indices lines text.key

abbrev pub TellsFirst : {Y : Type 0} → List (String Y × ℕ) → List ℕ → List NewText → Option ℕ → Type 0
TellsFirst indices lines texts None = NoneIsWithout indices lines texts
TellsFirst indices lines texts (Some index) = IsFirstWithout indices lines texts index

-- ---- what a group has around its text

-- The source has the group at its place.
pub record HoldsGroup (source : List ℕ) (g : List HeldLine) (group : ViewedGroup) : Type 0 where
  pub front : List ℕ
  pub rest : List ℕ
  pub whole : source ≡ front ++ (group_bytes g ++ rest)
  pub at : IsGroupAt (length front) g group

-- the same, of a comment line
abbrev pub HoldsLine : List ℕ → List HeldLine → ViewedGroup → Type 0
HoldsLine source g group = HoldsGroup source g group × (is_comment_line (group_bytes g) ≡ true)

abbrev pub style_in : Style → LineStyle
style_in style = record { indent = style.indent.now; sign = style.sign; blank = style.blank.now; ending = style.ending.now }

-- Each of these comment lines is one in bytes.
abbrev pub AreCommentBytes : List (List HeldLine) → Type 0
AreCommentBytes [] = Unit {0}
AreCommentBytes (g ∷ gs) = (is_comment_line (group_bytes g) ≡ true) × AreCommentBytes gs

-- The source has the section at its place, whose lines are the comment alone.
pub record IsSectionAt (source : List ℕ) (comment : Comment) (s : Section) : Type 0 where
  pub front : List ℕ
  pub rest : List ℕ
  pub whole : source ≡ front ++ (groups_bytes s.run ++ (group_bytes s.group ++ rest))
  pub start_is : comment.headed.start ≡ length front
  pub at : IsGroupAt (comment.headed.start + length (groups_bytes s.run)) s.group comment.headed.group
  pub are_texts : AreCommentTexts s.run (texts_above comment)
  pub model : TellsModel comment.headed.start s.run comment.model
  pub are_comments : AreCommentBytes s.run

-- What new comment lines have, given the line ending that they have if the pair has none.
abbrev pub IsFoundStyle : List ℕ → Comment → List ℕ → LineStyle → Type 0
IsFoundStyle source comment other style = (s : Section) → IsSectionAt source comment s → IsStyleFor other s.run s.group style

-- This is the last line ending of a body, or an LF if it has none.
abbrev pub IsLastEndingOf : List ℕ → List ℕ → Type 0
IsLastEndingOf body ending =
    (e : Encoding) (groups : List (List HeldLine)) → is_editable e ≡ true → AreGroupsOf e body groups → ending ≡ ending_in groups

-- the line ending that an LF after these bytes is, or the end of
abbrev pub line_feed_after : List ℕ → List ℕ
line_feed_after front = line_ending_text (if ends_in_cr front then crlf else lf)

-- ---- new lines

-- the bytes of a new comment line, as it is printed
abbrev pub comment_line_bytes : code.Repertoire → Style → List ℕ → List ℕ
comment_line_bytes r style x = style.indent.now ++ (style.sign ∷ (gap_before style.blank.now x ++ (text_bytes r Prefix x ++ style.ending.now)))

-- The lines of a comment are copied, or others are put in their place.
pub record IsHeadSet (t : Repertoire) (other : List ℕ) (s : Section) (old : Copied) (comment : Comment) (text : List ℕ) (new : Copied) : Type 0 where
  pub head : List ℕ
  pub lines : HasLines t other comment.separator s.run s.group text head
  pub copied : copied_to new comment.headed.group.start ≡ copied_to old comment.headed.start ++ head
  pub done : new.done ≤ comment.headed.group.start
  pub source_is : new.source.now ≡ old.source.now

abbrev pub SetsLines : Copied → Look → Comment → List ℕ → Copied → Type 0
SetsLines old look comment text new =
    (t : Repertoire) (s : Section) → PrintsKeys t look.repertoire → IsSectionAt old.source.now comment s
    → IsHeadSet t look.ending.now s old comment text new

-- The bytes are the source with these comments, but for an LF that may come first.
pub record AreCommentsPut (r : Repertoire) (source : List ℕ) (texts : List NewText) (bytes : List ℕ) : Type 0 where
  pub groups : List (List HeldLine)
  pub held : AreIn r.encoding source groups
  pub sections : List Section
  pub last : List (List HeldLine)
  pub divided : AreDivided groups sections last
  pub body : List ℕ
  pub set : AreMadeOf (IsCommented (repertoire_in_force r source) (ending_in groups) texts) sections last body
  pub whole : bytes ≡ bom_of source ++ body

abbrev pub PutsComments : Repertoire → List ℕ → List NewText → Result (Vec ℕ) PropertiesError → Type 0
PutsComments r source texts (Ok bytes) = AreCommentsPut r source texts bytes.items
PutsComments r source texts (Err reason) = IsUnopened r.encoding source reason

-- The source with the comments set, or no pair has the key of one.
abbrev pub MakesComments : Repertoire → List ℕ → List NewText → Result Commented PropertiesError → Type 0
MakesComments r source texts (Ok (Bytes bytes)) = AreCommentsSet r source texts bytes.items
MakesComments r source texts (Ok (NoKey index)) = HasNoPairFor r.encoding source texts index
MakesComments r source texts (Err reason) = IsUnopened r.encoding source reason

-- ---- the lines of a text

-- the lines of a text of which some was read, given what comes
abbrev pub texts_with : List (List ℕ) → List ℕ → Bool → List ℕ → List (List ℕ)
texts_with ended last after_cr rest = let lines = lines_of (last ++ rest_of_end after_cr rest) in ended ++ texts_of lines.ended lines.last

abbrev pub texts_before : TextLines → List ℕ → List (List ℕ)
texts_before lines rest = texts_with (map characters lines.ended.items) (characters lines.last) lines.after_cr rest

-- One more character was read.
pub record ReadsCharacter (old : TextLines) (c : ℕ) (new : TextLines) : Type 0 where
  pub same : HoldsNoLineEnding (characters old.last) → (rest : List ℕ) → texts_before old (c ∷ rest) ≡ texts_before new rest
  pub no_ending : HoldsNoLineEnding (characters old.last) → HoldsNoLineEnding (characters new.last)
