-- The groups, given the next line, both at the start of a group and in an open group.
use Rattle.std.proofs.Common.{arith, ◌≡◌, true, false, List, [], ◌∷◌, ◌++◌, refl}
use Rattle.properties_format.specs.Lines.{Line, InputEnd, is_open, is_comment_line}
use Rattle.properties_format.specs.Computed.Lines.{closes, groups_after, groups_of}

-- A line that finishes its group.
pub groups_after-close : (p : List Line) (l : Line) (ls : List Line) (e : InputEnd) → closes p l ≡ true
    → groups_after p (l ∷ ls) e ≡ (p ++ l ∷ []) ∷ groups_after [] ls e
groups_after-close p l ls e h = rw (h, groups_after) refl

-- a line that leaves its group open
pub groups_after-leave : (p : List Line) (l : Line) (ls : List Line) (e : InputEnd) → closes p l ≡ false
    → groups_after p (l ∷ ls) e ≡ groups_after (p ++ l ∷ []) ls e
groups_after-leave p l ls e h = rw (h, groups_after) refl

-- ---- which line finishes a group

-- A comment line finishes the group that it begins.
pub closes-comment_line : (l : Line) → is_comment_line l.text ≡ true → closes [] l ≡ true
closes-comment_line l h = rw h refl

-- A line that isn't open finishes every group.
pub closes-closed : (p : List Line) (l : Line) → is_open l.text ≡ false → closes p l ≡ true
closes-closed p l h1 = grind (arith)

-- An open line leaves an open group open.
pub closes-goes_on : (m : Line) (ms : List Line) (l : Line) → is_open l.text ≡ true → closes (m ∷ ms) l ≡ false
closes-goes_on m ms l h = rw h refl

-- ---- the groups by the next line

-- At the start of a group: a comment line is a group.
pub groups_of-comment_line : (l : Line) (ls : List Line) (e : InputEnd) → is_comment_line l.text ≡ true → groups_of (l ∷ ls) e ≡ (l ∷ []) ∷ groups_of ls e
groups_of-comment_line l ls e h = groups_after-close [] l ls e (closes-comment_line l h)

-- At the start of a group: a line that isn't open is a group.
pub groups_of-closed : (l : Line) (ls : List Line) (e : InputEnd) → is_open l.text ≡ false → groups_of (l ∷ ls) e ≡ (l ∷ []) ∷ groups_of ls e
groups_of-closed l ls e h = groups_after-close [] l ls e (closes-closed [] l h)

-- At the start of a group: an open line that isn't a comment line begins a group that continues.
pub groups_of-open : (l : Line) (ls : List Line) (e : InputEnd) → is_comment_line l.text ≡ false → is_open l.text ≡ true
    → groups_of (l ∷ ls) e ≡ groups_after (l ∷ []) ls e
groups_of-open l ls e h k = groups_after-leave [] l ls e (rw (h, k) refl)

-- In an open group: a line that isn't open finishes it.
pub groups_after-closed : (p : List Line) (l : Line) (ls : List Line) (e : InputEnd) → is_open l.text ≡ false
    → groups_after p (l ∷ ls) e ≡ (p ++ l ∷ []) ∷ groups_of ls e
groups_after-closed p l ls e h = groups_after-close p l ls e (closes-closed p l h)

-- In an open group: an open line continues it, whether or not it is a comment line.
pub groups_after-open : (m : Line) (ms : List Line) (l : Line) (ls : List Line) (e : InputEnd) → is_open l.text ≡ true
    → groups_after (m ∷ ms) (l ∷ ls) e ≡ groups_after (m ∷ ms ++ l ∷ []) ls e
groups_after-open m ms l ls e h = groups_after-leave (m ∷ ms) l ls e (closes-goes_on m ms l h)
