-- The comment lines directly above a pair, back to the last separator of documents, and their texts.
-- Source: java.util.Properties of Java SE 7, load (what a comment line is; a comment line is never continued).
use Rattle.std.specs.Prelude.{◌≡◌, ◌⊎◌, ◌==◌, ◌&&◌, ℕ, Bool, true, false, List, [], ◌∷◌, ◌++◌}
use Rattle.properties_format.specs.Text.{is_blank, is_comment_sign, begins}
use Rattle.properties_format.specs.Lines.{is_comment_line, joined}
use Rattle.properties_format.specs.Split.{AreBlanks}
use Rattle.properties_format.specs.Body.{HeldLine, HasKey, NoneHasKey, as_lines}
use Rattle.properties_format.specs.Edited.{final_group}
use Rattle.properties_editing.specs.declared.group.GroupKind.{GroupKind}
use Rattle.properties_editing.specs.declared.group.GroupKind.TheVariants as kind
use Rattle.properties_editing.specs.declared.group.ViewedGroup.{ViewedGroup}
use Rattle.properties_format.specs.Separators.{AreSeparated}

-- ---- where the comment lines of a pair are

-- The group is a comment line. A comment that joining makes is none.
abbrev pub IsCommentGroup : List HeldLine → Type 0
IsCommentGroup (h ∷ []) = is_comment_line h.text ≡ true
IsCommentGroup group = ⊥

-- Each of these groups is a comment line.
abbrev pub AreCommentGroups : List (List HeldLine) → Type 0
AreCommentGroups [] = Unit {0}
AreCommentGroups (g ∷ gs) = IsCommentGroup g × AreCommentGroups gs

-- the texts of groups that are comment lines
abbrev pub lines_in_text : List (List HeldLine) → List (List ℕ)
lines_in_text [] = []
lines_in_text (g ∷ gs) = joined (as_lines g) ∷ lines_in_text gs

-- All comment lines directly above a group: those up to the last separator, and the comment, which is those below it.
pub record IsCommentIn (lines above run : List (List HeldLine)) : Type 0 where
  pub division : lines ≡ above ++ run
  pub separated : AreSeparated (lines_in_text above) (lines_in_text run)

-- The comment of the key: the comment lines directly above the last pair with the key, back to the last separator.
pub record IsCommentOf (groups : List (List HeldLine)) (key : List ℕ) : Type 0 where
  pub before : List (List HeldLine)
  pub lines : List (List HeldLine)
  pub group : List HeldLine
  pub after : List (List HeldLine)
  pub division : groups ≡ before ++ (lines ++ group ∷ after)
  pub has_key : HasKey key group
  pub no_later : NoneHasKey key after
  pub are_comments : AreCommentGroups lines
  pub no_earlier : ¬ (IsCommentGroup (final_group before))
  pub above : List (List HeldLine)
  pub run : List (List HeldLine)
  pub is_comment : IsCommentIn lines above run

-- ---- what they say

-- A comment line: blanks, a sign, a blank or none, and the text as it is written. The blank is left out only before a
-- text that begins with none.
pub record IsCommentLine (line text : List ℕ) : Type 0 where
  pub indent : List ℕ
  pub sign : ℕ
  pub blank : List ℕ
  pub whole : line ≡ indent ++ (sign ∷ (blank ++ text))
  pub indent_blank : AreBlanks indent
  pub is_sign : is_comment_sign sign ≡ true
  pub one_blank : (blank ≡ []) × (begins is_blank text ≡ false) ⊎ (b : ℕ) × (is_blank b ≡ true) × (blank ≡ b ∷ [])

-- The texts of these comment lines.
abbrev pub AreCommentTexts : List (List HeldLine) → List (List ℕ) → Type 0
AreCommentTexts [] texts = texts ≡ []
AreCommentTexts (g ∷ gs) texts =
    (text : List ℕ) × (more : List (List ℕ)) × IsCommentLine (joined (as_lines g)) text × (texts ≡ text ∷ more) × AreCommentTexts gs more

-- ---- what a view tells of a group

-- whether the kind is that of a comment
abbrev pub is_comment : GroupKind → Bool
is_comment kind.Comment = true
is_comment other = false

-- whether a group is a comment line
abbrev pub is_line_of_comment : ViewedGroup → Bool
is_line_of_comment group = is_comment group.kind && (group.line_count == 1)
