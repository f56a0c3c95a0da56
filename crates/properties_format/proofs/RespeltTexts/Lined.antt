-- The lines of a text of parts, on either side alike.
use Rattle.std.proofs.Common.{rules, ◌≡◌, ℕ, suc, ◌+◌, ◌==◌, ◌≤◌, Bool, true, false, List, [], ◌∷◌, ◌++◌, map, length, refl, ap, sym, ◌∙◌, inl, inr, arith}
use Rattle.std.specs.Prelude.{if◌then◌else◌}
use Rattle.std.proofs.lemmas.Bool.{cases_Bool}
use Rattle.properties_format.specs.Text.{backslash, line_feed, carriage_return, is_line_ending, LineEnding, lf, cr, crlf}
use Rattle.properties_format.specs.Lines.{Ended, Lines, InputEnd, end, HoldsNoLineEnding, numbered}
use Rattle.properties_format.specs.Computed.Lines.{is_lone_lf, cr_before, character_before, before, lines_of}
use Rattle.properties_format.specs.Escapes.{letter_u, Spelling, itself, escaped, unicode, surrogates, last, spelling_text, spelling_character, Four, are_hexadecimal, four_text}
use Rattle.properties_format.proofs.Escapes.Laws.{IsWhole}
use Rattle.properties_format.proofs.Lines.Meets.{before-plain}
use Rattle.properties_format.proofs.RespeltTexts.Parts.{Part, same, after_backslash, past, lone, on, part_text, text, IsPart, AreParts, on-whole, on-beyond, escaped-beyond}
use Rattle.properties_format.proofs.RespeltTexts.Joined.{PartLine, line_on, AreLinesOfParts}
use Rattle.properties_format.proofs.Escapes.Digits.{digits, digit-plain}

-- a line of parts with its end
pub record PartEnded : Type 0 where
  pub parts : List Part
  pub by : LineEnding

-- lines of parts
pub record PartLines : Type 0 where
  pub ended : List PartEnded
  pub last : List Part

abbrev pub ended_on : Bool → PartEnded → Ended
ended_on side l = record { text = text side l.parts; by = l.by }

abbrev pub lines_on : Bool → PartLines → Lines
lines_on side lines = record { ended = map (ended_on side) lines.ended; last = text side lines.last }

-- the lines with a part at the front of the first
abbrev front_part : Part → List PartEnded → List Part → PartLines
front_part p [] tail = record { ended = []; last = p ∷ tail }
front_part p (l ∷ ls) tail = record { ended = record { parts = p ∷ l.parts; by = l.by } ∷ ls; last = tail }

abbrev empty_line : LineEnding → List PartEnded → List PartEnded
empty_line by ls = record { parts = []; by = by } ∷ ls

abbrev is_lone_part : List Part → LineEnding → Bool
is_lone_part [] lf = true
is_lone_part ps by = false

abbrev cr_parts : List PartEnded → List PartEnded
cr_parts [] = empty_line cr []
cr_parts (l ∷ ls) = if is_lone_part l.parts l.by then empty_line crlf ls else empty_line cr (l ∷ ls)

-- the lines with a CR or an LF at the front
abbrev end_parts : ℕ → PartLines → PartLines
end_parts c lines = if c == line_feed then record lines { ended = empty_line lf lines.ended } else record lines { ended = cr_parts lines.ended }

abbrev part_before : Part → PartLines → PartLines
part_before (same c) lines = if is_line_ending c then end_parts c lines else front_part (same c) lines.ended lines.last
part_before (after_backslash c) lines = if is_line_ending c then (let m = end_parts c lines in front_part lone m.ended m.last) else front_part (after_backslash c) lines.ended lines.last
part_before (past p q) lines = front_part (past p q) lines.ended lines.last
part_before lone lines = front_part lone lines.ended lines.last

-- the lines of parts
abbrev pub lines_parts : List Part → PartLines
lines_parts [] = record { ended = []; last = [] }
lines_parts (p ∷ ps) = part_before p (lines_parts ps)

-- ---- a text without a line ending at the front

abbrev text_before : List ℕ → List Ended → List ℕ → Lines
text_before x [] tail = record { ended = []; last = x ++ tail }
text_before x (l ∷ ls) tail = record { ended = record { text = x ++ l.text; by = l.by } ∷ ls; last = tail }

text-cons : (c : ℕ) (x : List ℕ) (ls : List Ended) (tail : List ℕ)
    → (let m = text_before x ls tail in character_before c m.ended m.last) ≡ text_before (c ∷ x) ls tail
text-cons c x ls tail = grind (arith)

plain-front : (x y : List ℕ) → HoldsNoLineEnding x → lines_of (x ++ y) ≡ (let m = lines_of y in text_before x m.ended m.last)
plain-front [] y h = sym (search (rules))
plain-front (c ∷ x) y h = grind (arith, before-plain, plain-front x y h.1, text-cons)

pub four-plain : (d : Four) (x : List ℕ) → are_hexadecimal d ≡ true → HoldsNoLineEnding x → HoldsNoLineEnding (four_text d ++ x)
four-plain d x h k = let g = digits d h in (digit-plain d.first g.0, (digit-plain d.second g.1, (digit-plain d.third g.2, (digit-plain d.fourth g.3, k))))

spelling-plain : (s : Spelling) → IsWhole s → 0x80 ≤ spelling_character s → HoldsNoLineEnding (spelling_text s)
spelling-plain (itself c) h k = let e : is_line_ending c ≡ false = grind (arith) in (e, tt)
spelling-plain (escaped c) h k = let b = escaped-beyond c k in let e : is_line_ending c ≡ false = grind (arith) in (refl, (e, tt))
spelling-plain (unicode d) h k = (refl, (refl, four-plain d [] h.0 tt))
spelling-plain (surrogates high low) h k = (refl, (refl, four-plain high (backslash ∷ letter_u ∷ four_text low) h.0 (refl, (refl, four-plain low [] h.2 tt))))
spelling-plain last h k = absurd h

front-on : (side : Bool) (p : Part) (ls : List PartEnded) (tail : List Part)
    → text_before (part_text side p) (map (ended_on side) ls) (text side tail) ≡ lines_on side (front_part p ls tail)
front-on side p [] tail = refl
front-on side p (l ∷ ls) tail = refl

plain-part : (side : Bool) (p : Part) (x : List ℕ) (lines : PartLines) → HoldsNoLineEnding (part_text side p) → lines_of x ≡ lines_on side lines
    → lines_of (part_text side p ++ x) ≡ lines_on side (front_part p lines.ended lines.last)
plain-part side p x lines h e =
    plain-front (part_text side p) x h ∙ ap (λ v. let m : Lines = v in text_before (part_text side p) m.ended m.last) e ∙ front-on side p lines.ended lines.last

-- ---- a line ending at the front

lone-on : (side : Bool) (ps : List Part) (by : LineEnding) → is_lone_lf (text side ps) by ≡ is_lone_part ps by
lone-on side [] by = grind (arith)
lone-on side (past p q ∷ ps) by = spelling-lone (on side p q) (text side ps) by
  where
    spelling-lone : (s : Spelling) (y : List ℕ) (by : LineEnding) → is_lone_lf (spelling_text s ++ y) by ≡ false
    spelling-lone (itself c) y by = refl
    spelling-lone (escaped c) y by = refl
    spelling-lone (unicode d) y by = refl
    spelling-lone (surrogates high low) y by = refl
    spelling-lone last y by = refl
lone-on side ps by = refl

cr-on : (side : Bool) (ls : List PartEnded) → cr_before (map (ended_on side) ls) ≡ map (ended_on side) (cr_parts ls)
cr-on side [] = refl
cr-on side (l ∷ ls) = elim (cases_Bool (is_lone_part l.parts l.by)) [
  | inl e ↦ rw (lone-on side l.parts l.by, e) refl
  | inr e ↦ rw (lone-on side l.parts l.by, e) refl
]

end-on : (side : Bool) (c : ℕ) (lines : PartLines) → is_line_ending c ≡ true → before c (lines_on side lines) ≡ lines_on side (end_parts c lines)
end-on side c lines h = elim (cases_Bool (c == line_feed)) [
  | inl e ↦ rw e refl
  | inr e ↦ let f : (c == carriage_return) ≡ true = grind (arith) in rw (e, f) (ap (λ v. let m : Lines = record { ended = v; last = text side lines.last } in m) (cr-on side lines.ended))
]

pub lines-alike : (side : Bool) (ps : List Part) → AreParts ps → lines_of (text side ps) ≡ lines_on side (lines_parts ps)
lines-alike side [] h = refl
lines-alike side (same c ∷ ps) h = elim (cases_Bool (is_line_ending c)) [
  | inl e ↦ rw e (ap (before c) (lines-alike side ps h.1) ∙ end-on side c (lines_parts ps) e)
  | inr e ↦ rw e (plain-part side (same c) (text side ps) (lines_parts ps) (e, tt) (lines-alike side ps h.1))
]
lines-alike side (after_backslash c ∷ ps) h = elim (cases_Bool (is_line_ending c)) [
  | inl e ↦ rw e (plain-part side lone (c ∷ text side ps) _ (refl, tt) (ap (before c) (lines-alike side ps h.1) ∙ end-on side c (lines_parts ps) e))
  | inr e ↦ rw e (plain-part side (after_backslash c) (text side ps) (lines_parts ps) (refl, (e, tt)) (lines-alike side ps h.1))
]
lines-alike side (past p q ∷ ps) h = plain-part side _ _ _ (spelling-plain _ (on-whole side p q h.0) (on-beyond side p q h.0)) (lines-alike side ps h.1)
lines-alike side (lone ∷ ps) h = plain-part side lone (text side ps) (lines_parts ps) (refl, tt) (lines-alike side ps h.1)

-- ---- the parts of each line

abbrev pub AreEndedParts : List PartEnded → Type 0
AreEndedParts [] = Unit {0}
AreEndedParts (l ∷ ls) = AreParts l.parts × AreEndedParts ls

pub record AreLineParts (lines : PartLines) : Type 0 where
  pub ended : AreEndedParts lines.ended
  pub last : AreParts lines.last

cr-parts : (ls : List PartEnded) → AreEndedParts ls → AreEndedParts (cr_parts ls)
cr-parts [] h = (tt, tt)
cr-parts (l ∷ ls) h = elim (cases_Bool (is_lone_part l.parts l.by)) [
  | inl e ↦ rw e (tt, h.1)
  | inr e ↦ rw e (tt, h)
]

-- The first line is an empty one that was just ended.
record BeginsEmpty (lines : PartLines) : Type 0 where
  by : LineEnding
  more : List PartEnded
  ended : lines.ended ≡ empty_line by more

cr-empty : (ls : List PartEnded) → (by : LineEnding) × (more : List PartEnded) × (cr_parts ls ≡ empty_line by more)
cr-empty [] = (cr, [], refl)
cr-empty (l ∷ ls) = elim (cases_Bool (is_lone_part l.parts l.by)) [
  | inl e ↦ (crlf, ls, rw e refl)
  | inr e ↦ (cr, l ∷ ls, rw e refl)
]

end-parts : (c : ℕ) (lines : PartLines) → AreLineParts lines → AreLineParts (end_parts c lines)
end-parts c lines h = elim (cases_Bool (c == line_feed)) [
  | inl e ↦ rw e (record { ended = (tt, h.ended); last = h.last })
  | inr e ↦ rw e (record { ended = cr-parts lines.ended h.ended; last = h.last })
]

end-empty : (c : ℕ) (lines : PartLines) → BeginsEmpty (end_parts c lines)
end-empty c lines = elim (cases_Bool (c == line_feed)) [
  | inl e ↦ rw e (record { by = lf; more = lines.ended; ended = refl })
  | inr e ↦ rw e (let k = cr-empty lines.ended in record { by = k.0; more = k.1; ended = k.2 })
]

-- A part that doesn't care for what follows, at the front.
front-parts : (p : Part) (ls : List PartEnded) (tail : List Part) → ((ps : List Part) → IsPart p ps) → AreEndedParts ls → AreParts tail
    → AreLineParts (front_part p ls tail)
front-parts p ls tail h1 h2 h3 = grind (arith)

-- a backslash by itself at the front of an empty line
lone-front : (lines : PartLines) → AreLineParts lines → BeginsEmpty lines → AreLineParts (front_part lone lines.ended lines.last)
lone-front lines h k = grind (arith)

pub line-parts : (ps : List Part) → AreParts ps → AreLineParts (lines_parts ps)
line-parts [] h = record { ended = tt; last = tt }
line-parts (same c ∷ ps) h =
    let k = line-parts ps h.1 in
    elim (cases_Bool (is_line_ending c)) [
      | inl e ↦ rw e (end-parts c (lines_parts ps) k)
      | inr e ↦ rw e (front-parts (same c) (lines_parts ps).ended (lines_parts ps).last (λ qs. h.0) k.ended k.last)
    ]
line-parts (after_backslash c ∷ ps) h =
    let k = line-parts ps h.1 in
    elim (cases_Bool (is_line_ending c)) [
      | inl e ↦ rw e (lone-front (end_parts c (lines_parts ps)) (end-parts c (lines_parts ps) k) (end-empty c (lines_parts ps)))
      | inr e ↦ rw e (front-parts (after_backslash c) (lines_parts ps).ended (lines_parts ps).last (λ qs. tt) k.ended k.last)
    ]
line-parts (past p q ∷ ps) h =
    let k = line-parts ps h.1 in
    front-parts (past p q) (lines_parts ps).ended (lines_parts ps).last (λ qs. h.0) k.ended k.last
line-parts (lone ∷ ps) h = rw h.0 (record { ended = tt; last = (refl, tt) })

-- ---- numbers

abbrev pub numbered_parts : ℕ → List PartEnded → List Part → InputEnd → List PartLine
numbered_parts n [] tail end = record { number = n + 1; parts = tail } ∷ []
numbered_parts n [] tail ending = []
numbered_parts n (l ∷ ls) tail ending = record { number = n + 1; parts = l.parts } ∷ numbered_parts (n + 1) ls tail ending

pub numbers : (side : Bool) (n : ℕ) (ls : List PartEnded) (tail : List Part) (e : InputEnd)
    → numbered n (map (ended_on side) ls) (text side tail) e ≡ map (line_on side) (numbered_parts n ls tail e)
numbers side n (l ∷ ls) tail e = ap (λ v. line_on side (record { number = n + 1; parts = l.parts }) ∷ v) (numbers side (n + 1) ls tail e)
numbers side n ls tail e = grind (arith)

pub numbered-parts : (n : ℕ) (ls : List PartEnded) (tail : List Part) (e : InputEnd) → AreEndedParts ls → AreParts tail
    → AreLinesOfParts (numbered_parts n ls tail e)
numbered-parts n (l ∷ ls) tail e h k = (h.0, numbered-parts (n + 1) ls tail e h.1 k)
numbered-parts n ls tail e h1 h2 = grind (arith)

pub same-count : (side : Bool) (ls : List PartEnded) → length (map (ended_on side) ls) ≡ length ls
same-count side [] = refl
same-count side (l ∷ ls) = ap suc (same-count side ls)
