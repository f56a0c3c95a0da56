-- The entries to come, one logical line at a time, and one natural line at a time while lines are joined.
use Rattle.std.proofs.Common.{arith, ◌≡◌, ℕ, true, false, List, [], ◌∷◌, ◌++◌, Option, Some, None, refl, ap, ap₂, append_assoc}
use Rattle.properties_format.specs.Lines.{InputEnd, Line, is_open, is_comment_line, without_open_backslash, joined, first_number}
use Rattle.properties_format.specs.Computed.Lines.{logical}
use Rattle.properties_format.specs.Items.{last_entries}
use Rattle.properties_format.specs.Computed.Items.{outcome_of, followed, entries_of}
use Rattle.properties_format.specs.ItemsToCome.{ReaderState}
use Rattle.properties_format.specs.Computed.ItemsToCome.{items_to_come, natural_to_come, last_to_come, entries_of_logical, logical_pending, entries_pending, Gives}
use Rattle.properties_format.proofs.Groups.Logical.{logical_lines-open}
use Rattle.properties_format.proofs.ItemsToCome.Lines.{natural-done}

-- ---- all entries

-- The entries of groups are those of their logical lines.
pub entries_of-logical : (n : ℕ) (ending : InputEnd) (gs : List (List Line)) → entries_of n ending gs ≡ entries_of_logical (logical gs) (last_entries n ending)
entries_of-logical n ending [] = refl
entries_of-logical n ending (g ∷ gs) = ap (followed (first_number g) (outcome_of (joined g))) (entries_of-logical n ending gs)

-- The items to come are the entries to come if no logical line has been started.
pub items_to_come-pending : (s : ReaderState) (d : List ℕ) (ending : InputEnd) → items_to_come s d ending ≡ entries_pending None s d ending
unfolding items_to_come entries_pending natural_to_come last_to_come
items_to_come-pending s d ending = grind (arith, entries_of-logical)

-- ---- steps

-- One step after another.
pub gives-on : {s t u : ReaderState} {x y z : List ℕ} {ls ms : List Line} {ending : InputEnd} → Gives s x ls t y ending → Gives t y ms u z ending
    → Gives s x (ls ++ ms) u z ending
gives-on {s} {t} {u} {x} {y} {z} {ls} {ms} {ending} h k = grind (arith, append_assoc)

-- The entries to come, given the lines that a step returns.
pending-gives : (pending : Option Line) (s t : ReaderState) (x y : List ℕ) (ls : List Line) (ending : InputEnd) → Gives s x ls t y ending
    → entries_pending pending s x ending ≡ entries_of_logical (logical_pending pending (ls ++ natural_to_come t y ending) ending) (last_to_come t y ending)
unfolding entries_pending
pending-gives pending s t x y ls ending h = ap₂ (λ v w. entries_of_logical (logical_pending pending v ending) w) h.natural h.last

-- ---- no logical line has been started, and a line comes next

-- An open line that isn't a comment line starts a logical line.
pub pending-open : {s t : ReaderState} {x y : List ℕ} {l : Line} {ending : InputEnd} → Gives s x (l ∷ []) t y ending → is_comment_line l.text ≡ false
    → is_open l.text ≡ true
    → entries_pending None s x ending ≡ entries_pending (Some (record { number = l.number; text = without_open_backslash l.text })) t y ending
unfolding entries_pending
pending-open {s} {t} {x} {y} {l} {ending} h k m = grind (arith, pending-gives, logical_lines-open)

-- ---- no line comes

-- If the reader is permanently at its end, nothing comes.
pub pending-done : (s : ReaderState) (d : List ℕ) (ending : InputEnd) → s.is_done ≡ true → entries_pending None s d ending ≡ []
unfolding entries_pending
pending-done s d ending h =
    let k = natural-done s d ending h in
    ap₂ (λ v w. entries_of_logical (logical_pending None v ending) w) k.0 k.1
