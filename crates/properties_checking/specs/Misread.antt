-- What Java reads differently than people think.
-- Source: java.util.Properties of Java SE 7, load; The Unicode Standard, section 23.8 (byte order marks).
use Rattle.std.specs.Prelude.{◌≡◌, ℕ, ◌==◌, ◌-◌, ◌&&◌, Bool, false, if◌then◌else◌, List, [], ◌∷◌, ◌++◌, reverse, Option, Some, None, codes, map}
use Rattle.std.specs.List.{flat_map}
use Rattle.properties_format.specs.Text.{begins, is_blank, is_empty, without_leading_blanks}
use Rattle.properties_format.specs.Lines.{end, is_comment_line, is_open, lines_in, HasGroups, Line}
use Rattle.properties_format.specs.Encoding.{Encoding}
use Rattle.properties_tables.specs.Failures.{utf_32_words}
use Rattle.properties_tables.specs.Lines.{starts_with_bom, starts_with_utf_32_mark, AreFlawedLines}
use Rattle.properties_tables.specs.declared.ill_formed.Flaw.TheVariants as flaw
use Rattle.properties_checking.specs.declared.kinds.Kind.{Kind}
use Rattle.properties_checking.specs.declared.kinds.Kind.TheVariants as kind
use Rattle.properties_checking.specs.declared.misread.Misread.{Misread}
use Rattle.properties_checking.specs.declared.misread.Misread.TheVariants.{Mark, Utf32Mark, MarkInside, BlankAfterBackslash, OpenAtEnd}

-- ---- words

abbrev pub misread_words : Misread → List ℕ
misread_words Mark = codes "begins with a byte order mark, which Java reads as part of a key"
misread_words Utf32Mark = utf_32_words
misread_words MarkInside = codes "has U+FEFF, a byte order mark that is not at the front"
misread_words BlankAfterBackslash = codes "ends in a backslash and a blank, so the next line does not continue it"
misread_words OpenAtEnd = codes "ends in a backslash that continues nothing"

abbrev pub misread_kind : Misread → Kind
misread_kind Mark = kind.ByteOrderMark
misread_kind Utf32Mark = kind.Utf32Mark
misread_kind MarkInside = kind.MarkInside
misread_kind BlankAfterBackslash = kind.BlankAfterBackslash
misread_kind OpenAtEnd = kind.BackslashAtEnd

-- ---- at the front

-- the byte order mark at the front that Java reads as text
abbrev pub misread_mark : List ℕ → Option Misread
misread_mark source = if starts_with_bom source then Some Mark else (if starts_with_utf_32_mark source then Some Utf32Mark else None)

-- ---- at the end of a line
-- Source: java.util.Properties of Java SE 7, load: a backslash escapes a line terminator that comes right after it.

-- Whether the text ends in blanks, and before these in an odd number of backslashes. Without the blanks it would be open.
abbrev pub looks_open : List ℕ → Bool
looks_open x = begins is_blank (reverse x) && is_open (reverse (without_leading_blanks (reverse x)))

-- What is reported of a line that is no comment line. The flag says whether it is the last line, or the last but an
-- empty one.
abbrev pub misread_end : List ℕ → Bool → Option Misread
misread_end text is_last =
    if looks_open text then Some BlankAfterBackslash else (if is_open text && is_last then Some OpenAtEnd else None)

-- whether a group is a comment line
abbrev pub is_comment_group : List Line → Bool
is_comment_group [] = false
is_comment_group (l ∷ ls) = is_comment_line l.text

-- the lines of the groups that are no comment lines
abbrev pub lines_of_pairs : List (List Line) → List Line
lines_of_pairs [] = []
lines_of_pairs (g ∷ gs) = if is_comment_group g then lines_of_pairs gs else g ++ lines_of_pairs gs

-- the number of the last line, or of the one before it where the last one is empty, as it is after a line ending
abbrev pub last_number : List Line → ℕ
last_number [] = 0
last_number (l ∷ []) = if is_empty l.text then l.number - 1 else l.number
last_number (l ∷ m ∷ ls) = last_number (m ∷ ls)

-- ---- a source

module _ {X : Type 0} (of : Misread → ℕ → X) where
  -- the finding on the line with this number, if there is one
  abbrev pub misread_at : ℕ → Option Misread → List X
  misread_at number None = []
  misread_at number (Some misread) = of misread number ∷ []

  -- These are the findings on the ends of the lines of a source, but for comment lines.
  pub record AreMisreadEnds (e : Encoding) (source : List ℕ) (findings : List X) : Type 0 where
    pub groups : List (List Line)
    pub are_groups : HasGroups e source end groups
    pub is : findings ≡
        flat_map (λ l. misread_at l.number (misread_end l.text (l.number == last_number (lines_in groups)))) (lines_of_pairs groups)

  -- These are the findings on what Java reads differently in a source, after a mark at its front: on the lines with
  -- U+FEFF, and on the ends of lines.
  pub record AreMisread (e : Encoding) (source : List ℕ) (findings : List X) : Type 0 where
    pub inside : List ℕ
    pub are_inside : AreFlawedLines flaw.MarkInside e source inside
    pub ends : List X
    pub are_ends : AreMisreadEnds e source ends
    pub is : findings ≡ map (of MarkInside) inside ++ ends
