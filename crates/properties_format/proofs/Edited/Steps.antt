-- The lines of a body after the next line, the last of groups after one more, and a group with one more line.
use Rattle.std.proofs.Common.{◌≡◌, ℕ, false, List, [], ◌∷◌, ◌++◌, refl, ap}
use Rattle.std.specs.Prelude.{◌&&◌, not, Some, None}
use Rattle.properties_format.specs.Text.{LineEnding, cr}
use Rattle.properties_format.specs.Encoding.{Encoding, IsAligned}
use Rattle.properties_format.specs.Lines.{Lines, is_open, is_comment_line}
use Rattle.properties_format.specs.Computed.Lines.{begins_with_lf}
use Rattle.properties_format.specs.Cut.{units, HoldsNoLineEndingUnit, line_ending_bytes}
use Rattle.properties_format.specs.Computed.Cut.{decoded_line}
use Rattle.properties_format.specs.Body.{HeldLine}
use Rattle.properties_format.specs.Edited.{final_group, is_last_open, is_left_open, is_empty_line}
use Rattle.properties_format.specs.Computed.Body.{held_of, held_lines_of}
use Rattle.properties_format.proofs.Cut.Steps.{cut_of-line}
use Rattle.properties_format.proofs.Cut.Only.{cut_of-plain}

-- ---- the next line

-- A line and its ending before any bytes; a CR is a line ending by itself only if no LF unit follows.
pub held_lines-line : (e : Encoding) (text : List ℕ) (by : LineEnding) (y : List ℕ) → HoldsNoLineEndingUnit e text → IsAligned e text
    → (by ≡ cr → begins_with_lf (units e y) ≡ false)
    → held_lines_of e (text ++ (line_ending_bytes e by ++ y)) ≡ record { bytes = text; text = decoded_line e text; ending = Some by } ∷ held_lines_of e y
held_lines-line e text by y h a k = ap (λ v. let w : Lines = v in held_of e w.ended w.last) (cut_of-line e text by y h a k)

-- the last line
pub held_lines-last : (e : Encoding) (text : List ℕ) → HoldsNoLineEndingUnit e text
    → held_lines_of e text ≡ record { bytes = text; text = decoded_line e text; ending = None } ∷ []
held_lines-last e text h = ap (λ v. let w : Lines = v in held_of e w.ended w.last) (cut_of-plain e text h)

-- ---- the next group

-- The last of the groups, after one more.
pub final_group-push : (gs : List (List HeldLine)) (g : List HeldLine) → final_group (gs ++ g ∷ []) ≡ g
final_group-push (f ∷ h ∷ gs) g = final_group-push (h ∷ gs) g
final_group-push gs g = refl

-- ---- a group with one more line

-- Whether the last line is open depends on the new one.
pub is_last_open-push : (g : List HeldLine) (h : HeldLine) → is_last_open (g ++ h ∷ []) ≡ is_open h.text
is_last_open-push (i ∷ j ∷ g) h = is_last_open-push (j ∷ g) h
is_last_open-push g h = refl

-- The first line is unchanged.
pub is_left_open-push : (i : HeldLine) (g : List HeldLine) (h : HeldLine) → is_left_open (i ∷ g ++ h ∷ []) ≡ (not (is_comment_line i.text) && is_open h.text)
is_left_open-push i g h = ap (λ b. not (is_comment_line i.text) && b) (is_last_open-push (i ∷ g) h)

-- The group isn't a single line.
pub is_empty_line-push : (i : HeldLine) (g : List HeldLine) (h : HeldLine) → is_empty_line (i ∷ g ++ h ∷ []) ≡ false
is_empty_line-push i [] h = refl
is_empty_line-push i (j ∷ g) h = refl
