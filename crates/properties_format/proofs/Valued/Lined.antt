-- Groups, all of which but possibly the last are whole, and lines one after the other.
use Rattle.std.proofs.Common.{arith, ◌≡◌, ◌≢◌, List, [], ◌∷◌, ◌++◌, Option, Some, None, refl, ap, sym, ◌∙◌, inl, inr, append_assoc, append-nil, subst}
use Rattle.properties_format.specs.Text.{LineEnding}
use Rattle.properties_format.specs.Lines.{Ended, end, IsGroups, lines_in}
use Rattle.properties_format.specs.Body.{HeldLine, as_lines, as_groups, held_in, last_ending}
use Rattle.properties_format.proofs.Body.Groups.{as_lines-append, AreFit}

-- The texts of the groups' lines are the lines of the groups' texts.
texts-in : (gs : List (List HeldLine)) → as_lines (held_in gs) ≡ lines_in (as_groups gs)
texts-in [] = refl
texts-in (g ∷ gs) = as_lines-append g (held_in gs) ∙ ap (λ v. as_lines g ++ v) (texts-in gs)

-- Groups, all of which but possibly the last are whole, are the groups of their texts.
fit-groups : (gs : List (List HeldLine)) → AreFit gs → IsGroups (lines_in (as_groups gs)) end (as_groups gs)
fit-groups [] h = record { whole = []; unfinished = []; are_lines = refl; are_whole = tt; is_unfinished = tt; are_groups = refl }
fit-groups (g ∷ []) (inl h) =
    record { whole = as_lines g ∷ []; unfinished = []; are_lines = sym (append-nil _); are_whole = (h, tt); is_unfinished = tt; are_groups = refl }
fit-groups ([] ∷ []) (inr h) = absurd h
fit-groups ((l ∷ g) ∷ []) (inr h) = grind (arith, append-nil)
fit-groups (g ∷ i ∷ gs) h =
    let m = fit-groups (i ∷ gs) h.1 in
    record {
      whole = as_lines g ∷ m.whole;
      unfinished = m.unfinished;
      are_lines = ap (λ v. as_lines g ++ v) m.are_lines ∙ sym (append_assoc (as_lines g) (lines_in m.whole) m.unfinished);
      are_whole = (h.0, m.are_whole);
      is_unfinished = m.is_unfinished;
      are_groups = ap (λ v. as_lines g ∷ v) m.are_groups;
    }

-- They are the groups of their lines.
pub groups-fit : (gs : List (List HeldLine)) → AreFit gs → IsGroups (as_lines (held_in gs)) end (as_groups gs)
groups-fit gs h = subst (λ v. IsGroups v end (as_groups gs)) (sym (texts-in gs)) (fit-groups gs h)

-- ---- lines one after the other

-- the line ending of the last of these lines
abbrev pub last_by : List Ended → Option LineEnding
last_by [] = None
last_by (l ∷ []) = Some l.by
last_by (l ∷ m ∷ ls) = last_by (m ∷ ls)

-- The line ending of the last of two lists of lines.
pub last_by-append : (x y : List Ended) → y ≢ [] → last_by (x ++ y) ≡ last_by y
last_by-append (l ∷ []) [] h = absurd (h refl)
last_by-append (l ∷ m ∷ x) y h = last_by-append (m ∷ x) y h
last_by-append x y h = refl

-- The line ending of the last line of two parts.
pub last_ending-append : (a b : List HeldLine) → b ≢ [] → last_ending (a ++ b) ≡ last_ending b
last_ending-append (l ∷ []) [] h = absurd (h refl)
last_ending-append (l ∷ m ∷ a) b h = last_ending-append (m ∷ a) b h
last_ending-append a b h = refl

-- The lines of two lists of groups.
pub held_in-append : (gs hs : List (List HeldLine)) → held_in (gs ++ hs) ≡ held_in gs ++ held_in hs
held_in-append [] hs = refl
held_in-append (g ∷ gs) hs = ap (λ v. g ++ v) (held_in-append gs hs) ∙ sym (append_assoc g (held_in gs) (held_in hs))
