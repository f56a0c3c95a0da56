-- Lines have exactly one list of groups.
use Rattle.std.proofs.Common.{arith, ◌≡◌, false, List, [], ◌∷◌, ◌++◌, ap, sym, ◌∙◌, append_assoc, append-nil}
use Rattle.properties_format.specs.Lines.{Line, InputEnd, is_comment_line, EndsClosed, AreOpen, IsWhole, AreWhole, IsUnfinished, lines_in, last_group, IsGroups}
use Rattle.properties_format.specs.Computed.Lines.{groups_after, groups_of}
use Rattle.properties_format.proofs.Groups.Steps.{groups_of-comment_line, groups_of-closed, groups_of-open, groups_after-closed, groups_after-open}

-- An open group, and the lines that finish it.
after-whole : (m : Line) (ms : List Line) (l : Line) (ls rest : List Line) (e : InputEnd) → EndsClosed l ls
    → groups_after (m ∷ ms) (l ∷ ls ++ rest) e ≡ (m ∷ ms ++ l ∷ ls) ∷ groups_of rest e
after-whole m ms l [] rest e h = groups_after-closed (m ∷ ms) l rest e h
after-whole m ms l (n ∷ ns) rest e h = search (groups_after-open, after-whole m (ms ++ l ∷ []) n ns rest e h.1, append_assoc)

-- A whole group that doesn't begin with a comment line, before some lines, comes before their groups.
begins-whole : (l : Line) (ls rest : List Line) (e : InputEnd) → is_comment_line l.text ≡ false → EndsClosed l ls
    → groups_of (l ∷ ls ++ rest) e ≡ (l ∷ ls) ∷ groups_of rest e
begins-whole l [] rest e k h = groups_of-closed l rest e h
begins-whole l (n ∷ ns) rest e k h = groups_of-open l (n ∷ ns ++ rest) e k h.0 ∙ after-whole l [] n ns rest e h.1

-- A whole group before some lines comes before their groups.
pub groups_of-before : (g ls : List Line) (e : InputEnd) → IsWhole g → groups_of (g ++ ls) e ≡ g ∷ groups_of ls e
groups_of-before g ls e h1 = grind (arith, groups_of-comment_line, begins-whole)

-- Open lines after an open group belong to that group, which is the last one.
after-open : (m : Line) (ms ls : List Line) (e : InputEnd) → AreOpen ls → groups_after (m ∷ ms) ls e ≡ last_group (m ∷ ms ++ ls) e
after-open m ms [] e h = ap (λ v. last_group (m ∷ v) e) (sym (append-nil ms))
after-open m ms (l ∷ ls) e h = grind (arith, groups_after-open, after-open m (ms ++ l ∷ []) ls e h.1, append_assoc)

-- an unfinished group is the last one
pub groups_of-unfinished : (ls : List Line) (e : InputEnd) → IsUnfinished ls → groups_of ls e ≡ last_group ls e
groups_of-unfinished ls e h1 = grind (arith, groups_of-open, after-open)

-- The lines of whole groups and of an unfinished one have those groups.
groups_of-together : (gs : List (List Line)) (rest : List Line) (e : InputEnd) → AreWhole gs → IsUnfinished rest
    → groups_of (lines_in gs ++ rest) e ≡ gs ++ last_group rest e
groups_of-together [] rest e h k = groups_of-unfinished rest e k
groups_of-together (g ∷ gs) rest e h k = search (append_assoc, groups_of-before, groups_of-together gs rest e h.1 k)

-- Groups of the lines are the computed ones.
pub groups_of-only : (ls : List Line) (e : InputEnd) (gs : List (List Line)) → IsGroups ls e gs → gs ≡ groups_of ls e
groups_of-only ls e gs h = grind (arith, groups_of-together)
