-- The logical line of a group, line by line, and the number of the group.
use Rattle.std.proofs.Common.{arith, ◌≡◌, true, false, List, [], ◌∷◌, ◌++◌, refl, ◌∙◌, append_assoc, append-nil}
use Rattle.properties_format.specs.Text.{without_leading_blanks}
use Rattle.properties_format.specs.Lines.{Line, is_open, is_comment_line, without_open_backslash, joined_after, joined}
use Rattle.properties_format.proofs.Groups.Open.{without_open_backslash-closed}

-- ---- logical lines

-- A comment line is unchanged.
pub joined-comment_line : (l : Line) (ls : List Line) → is_comment_line l.text ≡ true → joined (l ∷ ls) ≡ l.text
joined-comment_line l ls h = rw h refl

-- If a group doesn't begin with a comment line, its logical line is the first line without its open backslash, followed
-- by what the other lines add.
pub joined-unmarked : (l : Line) (ls : List Line) → is_comment_line l.text ≡ false → joined (l ∷ ls) ≡ without_open_backslash l.text ++ joined_after ls
joined-unmarked l ls h = rw h refl

-- A group of one line that isn't a comment line.
pub joined-one : (l : Line) → is_comment_line l.text ≡ false → joined (l ∷ []) ≡ without_open_backslash l.text
joined-one l h = joined-unmarked l [] h ∙ append-nil (without_open_backslash l.text)

-- A line that isn't open is its own logical line, whether or not it is a comment line.
pub joined-closed : (l : Line) → is_open l.text ≡ false → joined (l ∷ []) ≡ l.text
joined-closed l h = grind (arith, joined-comment_line, joined-one, without_open_backslash-closed)

-- What two lists of lines add is what the first adds followed by what the second adds.
pub joined_after-append : (ls ms : List Line) → joined_after (ls ++ ms) ≡ joined_after ls ++ joined_after ms
joined_after-append [] ms = refl
joined_after-append (l ∷ ls) ms = simp (append_assoc, joined_after-append ls ms)

-- One more line in a group that doesn't begin with a comment line.
pub joined-push : (l : Line) (ls : List Line) (m : Line) → is_comment_line l.text ≡ false
    → joined (l ∷ ls ++ m ∷ []) ≡ joined (l ∷ ls) ++ without_open_backslash (without_leading_blanks m.text)
joined-push l ls m h = grind (arith, joined-unmarked, joined_after-append, append-nil, append_assoc)
