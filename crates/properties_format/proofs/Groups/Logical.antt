-- The logical lines, given the next natural line.
use Rattle.std.proofs.Common.{arith, ◌≡◌, ℕ, ◌+◌, ◌⊎◌, true, false, List, [], ◌∷◌, ◌++◌, refl, inl, inr}
use Rattle.properties_format.specs.Text.{LineEnding, cr, line_ending_text}
use Rattle.properties_format.specs.Lines.{HoldsNoLineEnding, Line, InputEnd, is_open, is_comment_line, without_open_backslash, joined, addition}
use Rattle.properties_format.specs.Computed.Lines.{begins_with_lf, lines_to_come, groups_after, groups_of, logical, logical_lines, joins_after}
use Rattle.properties_format.proofs.Lines.Steps.{lines_to_come-line}
use Rattle.properties_format.proofs.Groups.Steps.{groups_of-comment_line, groups_of-closed, groups_of-open, groups_after-closed, groups_after-open}
use Rattle.properties_format.proofs.Groups.Joined.{joined-one, joined-push}

-- One more open line continues the logical line.
pub joins_after-open : (number : ℕ) (text : List ℕ) (l : Line) (ls : List Line) (e : InputEnd) → is_open l.text ≡ true
    → joins_after number text (l ∷ ls) e ≡ joins_after number (text ++ addition l.text) ls e
joins_after-open number text l ls e h = rw (h, joins_after) refl

-- A line that isn't open finishes the logical line.
pub joins_after-closed : (number : ℕ) (text : List ℕ) (l : Line) (ls : List Line) (e : InputEnd) → is_open l.text ≡ false
    → joins_after number text (l ∷ ls) e ≡ record { number = number; text = text ++ addition l.text } ∷ logical_lines ls e
joins_after-closed number text l ls e h = rw (h, joins_after) refl

-- The logical lines after an open group depend only on its number and its joined lines.
pub logical-after : (m : Line) (ms ls : List Line) (e : InputEnd) → is_comment_line m.text ≡ false
    → logical (groups_after (m ∷ ms) ls e) ≡ joins_after m.number (joined (m ∷ ms)) ls e
logical-after m ms [] e h = grind (arith)
logical-after m ms (l ∷ ls) e h =
    grind (arith, groups_after-open, logical-after m (ms ++ l ∷ []) ls e h, joined-push, joins_after-open, groups_after-closed, joins_after-closed)

-- An open line that isn't a comment line begins a logical line that continues.
pub logical_lines-open : (l : Line) (ls : List Line) (e : InputEnd) → is_comment_line l.text ≡ false → is_open l.text ≡ true
    → logical_lines (l ∷ ls) e ≡ joins_after l.number (without_open_backslash l.text) ls e
logical_lines-open l ls e h k = simp (groups_of-open, logical-after, joined-one)

-- ---- a line of a text that no other line continues

-- the line is a comment line, or isn't open
abbrev pub IsNotContinued : List ℕ → Type 0
IsNotContinued x = (is_comment_line x ≡ true) ⊎ (is_open x ≡ false)

-- Such a line is a group.
pub groups-line : (n : ℕ) (text : List ℕ) (by : LineEnding) (y : List ℕ) (e : InputEnd) → HoldsNoLineEnding text → (by ≡ cr → begins_with_lf y ≡ false)
    → IsNotContinued text
    → groups_of (lines_to_come n false [] (text ++ (line_ending_text by ++ y)) e) e
    ≡ (record { number = n + 1; text = text } ∷ []) ∷ groups_of (lines_to_come (n + 1) false [] y e) e
groups-line n text by y e h k (inl m) = search (lines_to_come-line, groups_of-comment_line)
groups-line n text by y e h k (inr m) = search (lines_to_come-line, groups_of-closed)
