-- Comments of keys are set: new comment lines directly above the last pair with a key, in place of the old ones.
-- Source: java.util.Properties of Java SE 7, load (what a comment line is; a comment line is never continued).
use Rattle.std.specs.Prelude.{◌≡◌, ◌≢◌, ◌⊎◌, ◌&&◌, ◌==◌, ℕ, bytes_eq, false, true, if◌then◌else◌, List, [], ◌∷◌, ◌++◌, flat_map, length, map, string_bytes, Option, Some, None, Result, Ok, Err}
use Rattle.std.specs.Global.{Vec}
use Rattle.std.specs.Option.{option_map, unwrap_or}
use Rattle.std.specs.Str.{chars}
use Rattle.properties_format.specs.Text.{begins, exclamation_mark, is_blank, is_comment_sign, is_empty, line_ending_text, number_sign, space}
use Rattle.properties_format.specs.Encoding.{Encoding, Repertoire, repertoire_in_force}
use Rattle.properties_format.specs.Lines.{Ended, IsLines, Lines, joined}
use Rattle.properties_format.specs.Split.{AreBlanks}
use Rattle.properties_format.specs.Printing.{in_prefix, encoded_text, printed_characters}
use Rattle.properties_format.specs.Body.{HeldLine, HasKey, NoneHasKey, as_lines, group_bytes, groups_bytes, last_ending}
use Rattle.properties_format.specs.Edited.{bom_of, guarding_lf}
use Rattle.properties_format.specs.Valued.{ending_in}
use Rattle.properties_items.specs.Errors.{IsBareError}
use Rattle.properties_items.specs.declared.error.ErrorKind.TheVariants as kind
use Rattle.properties_editing.specs.Editing.{EditsWith, asked_for}
use Rattle.properties_editing.specs.declared.source.SourceOptions.{SourceOptions}
use Rattle.properties_renaming.specs.CommentLines.{AreCommentTexts, IsCommentIn, IsCommentLine, lines_in_text}
use Rattle.properties_renaming.specs.Renaming.{AreIn, IsEditable, LacksKey}
use Rattle.properties_renaming.specs.Sections.{AreDivided, AreMadeOf, Section}
use Rattle.properties_format.specs.Separators.{last_sign}
use Rattle.properties_renaming.specs.declared.commenting.NewComment.{NewComment}
use Rattle.properties_renaming.specs.declared.renames.RenamesError.{RenamesError}
use Rattle.properties_renaming.specs.declared.renames.RenamesError.TheVariants.{Source, NoKey, KeyTaken}
use Rattle.properties_renaming.specs.declared.renaming.RenameError.{RenameError}
use Rattle.properties_renaming.specs.declared.renaming.RenameError.TheVariants as one

-- ---- the lines of a text

-- the texts of the lines, the last one only if it isn't empty
abbrev pub texts_of : List Ended → List ℕ → List (List ℕ)
texts_of [] last = if is_empty last then [] else last ∷ []
texts_of (l ∷ ls) last = l.text ∷ texts_of ls last

-- These are the lines of a text. A last one without characters doesn't count.
pub record AreCommentLines (text : List ℕ) (texts : List (List ℕ)) : Type 0 where
  pub lines : Lines
  pub are_lines : IsLines text lines
  pub texts_are : texts ≡ texts_of lines.ended lines.last

-- ---- what new comment lines look like

-- What a comment line has around its text.
pub record LineStyle : Type 0 where
  pub indent : List ℕ
  pub sign : ℕ
  pub blank : List ℕ
  pub ending : List ℕ

-- the line ending of a group, or another if it has none
abbrev pub ending_or : List ℕ → List HeldLine → List ℕ
ending_or other group = unwrap_or (option_map line_ending_text (last_ending group)) other

-- A comment line has this: its indentation, its sign, the blank after the sign or none, and its line ending.
pub record IsStyleOfLine (other : List ℕ) (line : List HeldLine) (style : LineStyle) : Type 0 where
  pub rest : List ℕ
  pub bytes : group_bytes line ≡ style.indent ++ (style.sign ∷ (style.blank ++ rest))
  pub indent_blank : AreBlanks style.indent
  pub is_sign : is_comment_sign style.sign ≡ true
  pub one_blank : (style.blank ≡ []) × (begins is_blank rest ≡ false) ⊎ (b : ℕ) × (is_blank b ≡ true) × (style.blank ≡ b ∷ [])
  pub ending : style.ending ≡ ending_or other line

-- A comment line has this if it can't look like one that is there: the indentation of the pair below it, a number sign, a
-- space, and the line ending of the pair, or the other one if the pair has none.
pub record IsStyleAbove (other : List ℕ) (group : List HeldLine) (style : LineStyle) : Type 0 where
  pub rest : List ℕ
  pub bytes : group_bytes group ≡ style.indent ++ rest
  pub indent_blank : AreBlanks style.indent
  pub rest_full : begins is_blank rest ≡ false
  pub sign : style.sign ≡ number_sign
  pub blank : style.blank ≡ space ∷ []
  pub ending : style.ending ≡ ending_or other group

-- No text of these comment lines has characters,
abbrev pub HaveNoText : List (List HeldLine) → Type 0
HaveNoText [] = Unit {0}
HaveNoText (g ∷ gs) = IsCommentLine (joined (as_lines g)) [] × HaveNoText gs

-- or this line is the first that has such a text.
pub record IsFirstWithText (run : List (List HeldLine)) (line : List HeldLine) : Type 0 where
  pub before : List (List HeldLine)
  pub after : List (List HeldLine)
  pub division : run ≡ before ++ line ∷ after
  pub none_before : HaveNoText before
  pub text : List ℕ
  pub is_line : IsCommentLine (joined (as_lines line)) text
  pub some : text ≢ []

-- New comment lines of a pair look like the first of its comment lines that has a text. If there is none, they have the
-- indentation and the line ending of the pair, or the other line ending if it has none.
abbrev pub IsStyleFor : List ℕ → List (List HeldLine) → List HeldLine → LineStyle → Type 0
IsStyleFor other run group style =
    ((line : List HeldLine) × IsFirstWithText run line × IsStyleOfLine other line style) ⊎ HaveNoText run × IsStyleAbove other group style

-- what comes between the sign and a text: nothing before a text without characters; at least one blank before a text
-- that begins with a blank, so that it is read as it is
abbrev pub gap_before : List ℕ → List ℕ → List ℕ
gap_before blank [] = []
gap_before blank (c ∷ cs) = if is_empty blank && is_blank c then space ∷ [] else blank

-- the bytes of a new comment line; characters that may not stand unescaped are escaped, and no others
abbrev pub comment_line : Repertoire → LineStyle → List ℕ → List ℕ
comment_line r style text =
    style.indent ++ (style.sign ∷ (gap_before style.blank text ++ (encoded_text r.encoding (printed_characters r in_prefix text) ++ style.ending)))

-- ---- below a separator

-- the comment sign that this one isn't
abbrev pub other_sign : ℕ → ℕ
other_sign sign = if sign == number_sign then exclamation_mark else number_sign

-- the style; with the other sign if it has this one, which is that of the separator directly above, and would make a
-- comment of it
abbrev pub style_below : ℕ → LineStyle → LineStyle
style_below separator style = record style { sign = if style.sign == separator then other_sign separator else style.sign }

-- ---- comments are set

-- A key, and the text that its comment gets.
pub record NewText : Type 0 where
  pub key : List ℕ
  pub text : List ℕ

abbrev pub new_text : List ℕ → List ℕ → NewText
new_text key text = record { key = key; text = text }

abbrev pub text_in : NewComment → NewText
text_in comment = new_text (chars (string_bytes comment.key)) (chars (string_bytes comment.text))

abbrev pub texts_in : List NewComment → List NewText
texts_in comments = map text_in comments

-- the text for a key: of several, the last one
abbrev pub text_for : List NewText → List ℕ → Option (List ℕ)
text_for [] key = None
text_for (t ∷ ts) key = unwrap_or (option_map Some (text_for ts key)) (if bytes_eq t.key key then Some t.text else None)

-- A section's pair is the last one with its key, and this is the text for the key.
pub record IsLastFor (texts : List NewText) (s : Section) (after : List (List HeldLine)) (text : List ℕ) : Type 0 where
  pub key : List ℕ
  pub has_key : HasKey key s.group
  pub no_later : NoneHasKey key after
  pub is_text : text_for texts key ≡ Some text

-- The comment of a group has this text: it is its own, if that has it already, or else new lines below a separator with
-- this sign, or below none.
pub record HasLines (r : Repertoire) (other : List ℕ) (separator : ℕ) (comment : List (List HeldLine)) (group : List HeldLine) (text head : List ℕ) : Type 0 where
  pub texts : List (List ℕ)
  pub are_texts : AreCommentTexts comment texts
  pub lines : List (List ℕ)
  pub are_lines : AreCommentLines text lines
  pub set :
      (texts ≡ lines) × (head ≡ groups_bytes comment)
      ⊎ (texts ≢ lines)
      × ((style : LineStyle) × IsStyleFor other comment group style × (head ≡ flat_map (comment_line r (style_below separator style)) lines))

-- What is made of a section whose group gets this text as its comment. Lines above the comment stay.
pub record IsTextSet (r : Repertoire) (other : List ℕ) (s : Section) (text made : List ℕ) : Type 0 where
  pub above : List (List HeldLine)
  pub comment : List (List HeldLine)
  pub is_comment : IsCommentIn s.run above comment
  pub head : List ℕ
  pub lines : HasLines r other (last_sign (lines_in_text above)) comment s.group text head
  pub made_is : made ≡ groups_bytes above ++ (head ++ group_bytes s.group)

-- The last pair with a key gets the text for that key as its comment, if there is one; any other section stays.
abbrev pub IsCommented : Repertoire → List ℕ → List NewText → Section → List (List HeldLine) → List ℕ → Type 0
IsCommented r other texts s after made =
    ((text : List ℕ) × IsLastFor texts s after text × IsTextSet r other s text made)
    ⊎ ((text : List ℕ) → ¬ (IsLastFor texts s after text)) × (made ≡ groups_bytes s.run ++ group_bytes s.group)

-- A pair has each of the keys.
abbrev pub HaveKeys : List NewText → List (List HeldLine) → Type 0
HaveKeys [] groups = Unit {0}
HaveKeys (t ∷ ts) groups = ¬ (NoneHasKey t.key groups) × HaveKeys ts groups

-- The result is the source with these comments. If the source has no byte order mark and its new groups would begin like
-- one, an LF comes before them.
pub record AreCommentsSet (r : Repertoire) (source : List ℕ) (texts : List NewText) (result : List ℕ) : Type 0 where
  pub groups : List (List HeldLine)
  pub held : AreIn r.encoding source groups
  pub have_keys : HaveKeys texts groups
  pub sections : List Section
  pub last : List (List HeldLine)
  pub divided : AreDivided groups sections last
  pub body : List ℕ
  pub set : AreMadeOf (IsCommented (repertoire_in_force r source) (ending_in groups) texts) sections last body
  pub whole : result ≡ bom_of source ++ (guarding_lf source body ++ body)

-- No pair has the key of the comment with this index, and the key of each comment before it is that of a pair.
pub record HasNoPairFor (e : Encoding) (source : List ℕ) (texts : List NewText) (index : ℕ) : Type 0 where
  pub groups : List (List HeldLine)
  pub held : AreIn e source groups
  pub before : List NewText
  pub text : NewText
  pub after : List NewText
  pub division : texts ≡ before ++ text ∷ after
  pub index_is : index ≡ length before
  pub have_keys : HaveKeys before groups
  pub none_has : NoneHasKey text.key groups

-- The source with these comments; or no pair has the key of one of them; or an edit would be refused with this error, or
-- memory ran out.
abbrev pub SetsComments : SourceOptions → List ℕ → List NewText → Result (Vec ℕ) RenamesError → Type 0
SetsComments options source texts (Ok bytes) = IsEditable options source × AreCommentsSet (asked_for options) source texts bytes.items
SetsComments options source texts (Err (NoKey index)) =
    IsEditable options source × HasNoPairFor (asked_for options).encoding source texts index
SetsComments options source texts (Err (KeyTaken index number)) = ⊥
SetsComments options source texts (Err (Source error)) =
    EditsWith options source [] (Err error) ⊎ IsEditable options source × IsBareError kind.Memory error

-- The same for one comment.
abbrev pub SetsComment : SourceOptions → List ℕ → List ℕ → List ℕ → Result (Vec ℕ) RenameError → Type 0
SetsComment options source key text (Ok bytes) =
    IsEditable options source × AreCommentsSet (asked_for options) source (new_text key text ∷ []) bytes.items
SetsComment options source key text (Err one.NoKey) = IsEditable options source × LacksKey (asked_for options).encoding source key
SetsComment options source key text (Err (one.KeyTaken number)) = ⊥
SetsComment options source key text (Err (one.Source error)) =
    EditsWith options source [] (Err error) ⊎ IsEditable options source × IsBareError kind.Memory error
