-- The lines of a group by itself, and these lines with another last line ending.
use Rattle.std.proofs.Common.{◌≡◌, ◌≢◌, ℕ, true, false, List, [], ◌∷◌, ◌++◌, Option, Some, None, refl, ap, ap₂, sym, ◌∙◌, append_assoc, append-nil}
use Rattle.properties_format.specs.Text.{LineEnding, lf, cr, line_ending_text}
use Rattle.properties_format.specs.Encoding.{Encoding}
use Rattle.properties_format.specs.Lines.{Lines, HoldsNoLineEnding}
use Rattle.properties_format.specs.Computed.Lines.{begins_with_lf, ends_in_cr}
use Rattle.properties_format.specs.Body.{HeldLine, as_lines, ending_bytes, group_bytes, last_ending}
use Rattle.properties_format.specs.Edited.{is_editable, is_empty_line}
use Rattle.properties_format.specs.Computed.Cut.{decoded_line}
use Rattle.properties_format.specs.Computed.Body.{held_of, held_lines_of, unended_bytes}
use Rattle.properties_format.proofs.Lines.Steps.{lines_of-line}
use Rattle.properties_format.proofs.Lines.Only.{lines_of-plain}
use Rattle.properties_format.proofs.Body.Decoded.{cut_of-lines}
use Rattle.properties_format.proofs.Edited.LogicalLines.{ends-right}

-- ---- the lines of a group

-- The last of these lines has this ending, each line has its own text, all but the last are ended, and no CR is
-- separated from an LF.
abbrev pub AreLinesBy : Encoding → Option LineEnding → List HeldLine → Type 0
AreLinesBy e o [] = ⊥
AreLinesBy e o (h ∷ []) = HoldsNoLineEnding h.bytes × (h.text ≡ decoded_line e h.bytes) × (h.ending ≡ o)
AreLinesBy e o (h ∷ i ∷ hs) =
    HoldsNoLineEnding h.bytes × (h.text ≡ decoded_line e h.bytes)
    × ((by : LineEnding) × (h.ending ≡ Some by) × (by ≡ cr → begins_with_lf (group_bytes (i ∷ hs)) ≡ false))
    × AreLinesBy e o (i ∷ hs)

-- A line is its bytes, their text and its ending.
line-made : (e : Encoding) (h : HeldLine) (o : Option LineEnding) → h.text ≡ decoded_line e h.bytes → h.ending ≡ o
    → record { bytes = h.bytes; text = decoded_line e h.bytes; ending = o } ≡ h
line-made e h o s t = rw (← s, ← t)

-- An ended line before any bytes.
lines-next : (e : Encoding) (h : HeldLine) (by : LineEnding) (y : List ℕ) → is_editable e ≡ true → HoldsNoLineEnding h.bytes → h.text ≡ decoded_line e h.bytes
    → h.ending ≡ Some by → (by ≡ cr → begins_with_lf y ≡ false) → held_lines_of e (h.bytes ++ (ending_bytes h.ending ++ y)) ≡ h ∷ held_lines_of e y
lines-next e h by y ok p s t k =
    ap (λ o. held_lines_of e (h.bytes ++ (ending_bytes o ++ y))) t
    ∙ ap (λ v. let w : Lines = v in held_of e w.ended w.last) (cut_of-lines e (h.bytes ++ (line_ending_text by ++ y)) ok ∙ lines_of-line h.bytes by y p k)
    ∙ ap₂ (λ u v. let w : Lines = v in u ∷ held_of e w.ended w.last) (line-made e h (Some by) s t) (sym (cut_of-lines e y ok))

-- An LF at the front of two parts is at the front of the first; or of the second, if the first is empty.
pub first-none : (x y : List ℕ) → begins_with_lf x ≡ false → (x ≡ [] → begins_with_lf y ≡ false) → begins_with_lf (x ++ y) ≡ false
first-none [] y h k = k refl
first-none (c ∷ x) y h k = h

-- A text that contains a line ending isn't empty.
ended-some : (x : List ℕ) (by : LineEnding) (z : List ℕ) → x ++ (line_ending_text by ++ z) ≡ [] → ⊥
ended-some [] lf z k = cc
ended-some x by z k = cc

-- A group that has a line ending has bytes.
pub lines-some : (e : Encoding) (by : LineEnding) (g : List HeldLine) → AreLinesBy e (Some by) g → group_bytes g ≢ []
lines-some e by [] a r = a
lines-some e by (h ∷ []) (p, s, t) r = ended-some h.bytes by [] (rw t at r)
lines-some e by (h ∷ i ∷ hs) (p, s, (own, t, n), a) r = ended-some h.bytes own (group_bytes (i ∷ hs)) (rw t at r)

-- The lines of a group that has a line ending, before any bytes.
pub lines-front : (e : Encoding) (by : LineEnding) (g : List HeldLine) (y : List ℕ) → is_editable e ≡ true → AreLinesBy e (Some by) g
    → (by ≡ cr → begins_with_lf y ≡ false) → held_lines_of e (group_bytes g ++ y) ≡ g ++ held_lines_of e y
lines-front e by [] y ok a k = absurd a
lines-front e by (h ∷ []) y ok (p, s, t) k = rw (append-nil _, append_assoc h.bytes _ y) (lines-next e h by y ok p s t k)
lines-front e by (h ∷ i ∷ hs) y ok (p, s, (own, t, n), a) k =
    rw (append_assoc h.bytes (ending_bytes h.ending ++ group_bytes (i ∷ hs)) y, append_assoc (ending_bytes h.ending) (group_bytes (i ∷ hs)) y)
    (lines-next e h own (group_bytes (i ∷ hs) ++ y) ok p s t (λ q. first-none (group_bytes (i ∷ hs)) y (n q) (λ r. absurd (lines-some e by (i ∷ hs) a r)))
    ∙ ap (λ v. h ∷ v) (lines-front e by (i ∷ hs) y ok a k))

-- The lines of a group that has no line ending.
pub lines-last : (e : Encoding) (g : List HeldLine) → is_editable e ≡ true → AreLinesBy e None g → held_lines_of e (group_bytes g) ≡ g
lines-last e [] ok a = absurd a
lines-last e (h ∷ []) ok (p, s, t) =
    ap (λ o. held_lines_of e (h.bytes ++ (ending_bytes o ++ []))) t
    ∙ ap (held_lines_of e) (append-nil h.bytes)
    ∙ ap (λ v. let w : Lines = v in held_of e w.ended w.last) (cut_of-lines e h.bytes ok ∙ lines_of-plain h.bytes p)
    ∙ ap (λ v. v ∷ []) (line-made e h None s t)
lines-last e (h ∷ i ∷ hs) ok (p, s, (own, t, n), a) = lines-next e h own (group_bytes (i ∷ hs)) ok p s t n ∙ ap (λ v. h ∷ v) (lines-last e (i ∷ hs) ok a)

-- ---- the last line ending

-- The bytes of a group are those up to its last line ending, followed by that ending.
pub bytes-unended : (g : List HeldLine) → group_bytes g ≡ unended_bytes g ++ ending_bytes (last_ending g)
bytes-unended [] = refl
bytes-unended (h ∷ []) = ap (λ v. h.bytes ++ v) (append-nil (ending_bytes h.ending))
bytes-unended (h ∷ i ∷ hs) = simp (append_assoc, bytes-unended (i ∷ hs))

-- If the last of these lines has this ending, so does the group.
pub ending-of : (e : Encoding) (o : Option LineEnding) (g : List HeldLine) → AreLinesBy e o g → last_ending g ≡ o
ending-of e o [] a = absurd a
ending-of e o (h ∷ []) a = a.2
ending-of e o (h ∷ i ∷ hs) a = ending-of e o (i ∷ hs) a.3

-- The group's bytes are those up to the ending, followed by the ending.
pub bytes-of : (e : Encoding) (o : Option LineEnding) (g : List HeldLine) → AreLinesBy e o g → group_bytes g ≡ unended_bytes g ++ ending_bytes o
bytes-of e o g a = rw (← ending-of e o g a) (bytes-unended g)

-- A group with nothing before its last line ending is an empty line.
pub unended-some : (e : Encoding) (o : Option LineEnding) (g : List HeldLine) → AreLinesBy e o g → unended_bytes g ≡ [] → is_empty_line g ≡ true
unended-some e o [] a k = absurd a
unended-some e o (h ∷ []) a k = rw k refl
unended-some e o (h ∷ i ∷ hs) (p, s, (by, t, n), a) k = absurd (ended-some h.bytes by (unended_bytes (i ∷ hs)) (rw t at k))

-- the group with another last line ending
abbrev pub with_ending : Option LineEnding → List HeldLine → List HeldLine
with_ending o [] = []
with_ending o (h ∷ []) = record { bytes = h.bytes; text = h.text; ending = o } ∷ []
with_ending o (h ∷ i ∷ hs) = h ∷ with_ending o (i ∷ hs)

-- It has the same texts.
pub texts-with : (o : Option LineEnding) (g : List HeldLine) → as_lines (with_ending o g) ≡ as_lines g
texts-with o (h ∷ i ∷ hs) = ap (λ v. record { number = 0; text = h.text } ∷ v) (texts-with o (i ∷ hs))
texts-with o g = refl

-- Its last line ending is the new one.
pub ending-with : (o : Option LineEnding) (h : HeldLine) (hs : List HeldLine) → last_ending (with_ending o (h ∷ hs)) ≡ o
ending-with o h (i ∷ j ∷ hs) = ending-with o i (j ∷ hs)
ending-with o h hs = refl

-- Its bytes up to the last line ending are the same.
pub unended-with : (o : Option LineEnding) (g : List HeldLine) → unended_bytes (with_ending o g) ≡ unended_bytes g
unended-with o (h ∷ i ∷ j ∷ hs) = ap (λ v. h.bytes ++ (ending_bytes h.ending ++ v)) (unended-with o (i ∷ j ∷ hs))
unended-with o g = refl

-- Its bytes are those, followed by those of the new line ending.
pub bytes-with : (o : Option LineEnding) (h : HeldLine) (hs : List HeldLine) → group_bytes (with_ending o (h ∷ hs)) ≡ unended_bytes (h ∷ hs) ++ ending_bytes o
bytes-with o h hs = rw (bytes-unended, unended-with, ending-with)

-- A line before others.
line-before : (e : Encoding) (o : Option LineEnding) (h : HeldLine) (by : LineEnding) (w : List HeldLine) → HoldsNoLineEnding h.bytes
    → h.text ≡ decoded_line e h.bytes → h.ending ≡ Some by → (by ≡ cr → begins_with_lf (group_bytes w) ≡ false) → AreLinesBy e o w → AreLinesBy e o (h ∷ w)
line-before e o h by [] p s t k a = absurd a
line-before e o h by (i ∷ w) p s t k a = (p, s, (by, t, k), a)

-- With another last line ending they are still such lines, if the ending forms no CR LF with what comes before it.
pub lines-with : (e : Encoding) (o p : Option LineEnding) (g : List HeldLine) → AreLinesBy e o g
    → (ends_in_cr (unended_bytes g) ≡ true → begins_with_lf (ending_bytes p) ≡ false) → AreLinesBy e p (with_ending p g)
lines-with e o p [] a m = absurd a
lines-with e o p (h ∷ []) (b, s, t) m = (b, s, refl)
lines-with e o p (h ∷ i ∷ hs) (b, s, (by, t, k), a) m =
    line-before e p h by (with_ending p (i ∷ hs)) b s t front
    (lines-with e o p (i ∷ hs) a (λ c. m (ends-right h.bytes (ending_bytes h.ending ++ x) (ends-right (ending_bytes h.ending) x c))))
  where
    x : List ℕ
    x = unended_bytes (i ∷ hs)

    first-left : (x y : List ℕ) → begins_with_lf (x ++ y) ≡ false → begins_with_lf x ≡ false
    first-left [] y h = refl
    first-left (c ∷ x) y h = h

    front : by ≡ cr → begins_with_lf (group_bytes (with_ending p (i ∷ hs))) ≡ false
    front q =
        rw (bytes-with p i hs)
        (first-none x (ending_bytes p) (first-left x (ending_bytes o) (rw (bytes-of e o (i ∷ hs) a) at (k q)))
        (λ r. m (ends-right h.bytes (ending_bytes h.ending ++ x) (rw (t, q, r) refl))))
