-- The computed groups are groups of the lines.
use Rattle.std.proofs.Common.{rules, arith, ◌≡◌, true, false, List, [], ◌∷◌, ◌++◌, ap, sym, ◌∙◌, inl, inr, append_assoc, append-nil}
use Rattle.std.proofs.lemmas.Bool.{cases_Bool, or_parts, not-false, not-true}
use Rattle.properties_format.specs.Lines.{Line, InputEnd, is_open, EndsClosed, AreOpen, IsWhole, IsUnfinished, lines_in, IsGroups}
use Rattle.properties_format.specs.Computed.Lines.{closes, groups_after, groups_of}
use Rattle.properties_format.proofs.Groups.Steps.{groups_after-close, groups_after-leave}

-- Open lines, followed by one that isn't open.
ends-closed : (m : Line) (ms : List Line) (l : Line) → AreOpen (m ∷ ms) → is_open l.text ≡ false → EndsClosed m (ms ++ l ∷ [])
ends-closed m [] l h k = (h.0, k)
ends-closed m (o ∷ ms) l h k = (h.0, ends-closed o ms l h.1 k)

-- Open lines, followed by one more open line.
are-open : (ms : List Line) (l : Line) → AreOpen ms → is_open l.text ≡ true → AreOpen (ms ++ l ∷ [])
are-open [] l h k = (k, tt)
are-open (m ∷ ms) l h k = (h.0, are-open ms l h.1 k)

-- A group that is finished is whole.
pub close-whole : (p : List Line) (l : Line) → IsUnfinished p → closes p l ≡ true → IsWhole (p ++ l ∷ [])
close-whole p l h1 h2 = search (rules, ends-closed, not-true)

-- A group that is left open is unfinished.
pub leave-unfinished : (p : List Line) (l : Line) → IsUnfinished p → closes p l ≡ false → IsUnfinished (p ++ l ∷ [])
leave-unfinished p l h1 h2 = grind (arith, or_parts, not-false, are-open)

-- A whole group at the front.
group-before : (g ls : List Line) (e : InputEnd) (gs : List (List Line)) → IsWhole g → IsGroups ls e gs → IsGroups (g ++ ls) e (g ∷ gs)
group-before g ls e gs h k = record {
  whole = g ∷ k.whole;
  unfinished = k.unfinished;
  are_lines = ap (λ v. g ++ v) k.are_lines ∙ sym (append_assoc g (lines_in k.whole) k.unfinished);
  are_whole = (h, k.are_whole);
  is_unfinished = k.is_unfinished;
  are_groups = ap (λ v. g ∷ v) k.are_groups;
}

-- What is computed after an open group, with the lines of that group at the front.
pub groups_after-meets : (p ls : List Line) (e : InputEnd) → IsUnfinished p → IsGroups (p ++ ls) e (groups_after p ls e)
groups_after-meets p [] e h = grind (arith, append-nil)
groups_after-meets p (l ∷ ls) e h = elim (cases_Bool (closes p l)) [
  | inl k ↦
      rw (groups_after-close p l ls e k, ← append_assoc p (l ∷ []) ls)
      (group-before (p ++ l ∷ []) ls e (groups_after [] ls e) (close-whole p l h k) (groups_after-meets [] ls e tt))
  | inr k ↦ grind (arith, groups_after-leave, append_assoc, groups_after-meets (p ++ l ∷ []) ls e (leave-unfinished p l h k), leave-unfinished)
]

-- The computed groups are groups of the lines.
pub groups_of-meets : (ls : List Line) (e : InputEnd) → IsGroups ls e (groups_of ls e)
groups_of-meets ls e = groups_after-meets [] ls e tt
