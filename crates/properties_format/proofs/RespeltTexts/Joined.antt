-- Lines of parts: which are open, which are comment lines, and what they make together, on either side alike.
use Rattle.std.proofs.Common.{rules, ◌≡◌, ℕ, ◌==◌, Bool, true, false, List, [], ◌∷◌, ◌++◌, map, refl, ap, ◌∙◌, inl, inr, append_assoc, arith}
use Rattle.std.specs.Prelude.{if◌then◌else◌, ◌%◌, reverse}
use Rattle.std.proofs.lemmas.Bool.{cases_Bool, eqb-true, and_parts}
use Rattle.std.proofs.lemmas.List.{reverse-append}
use Rattle.properties_format.specs.Text.{backslash, is_blank, is_comment_sign, without_leading_blanks, begins}
use Rattle.properties_format.specs.Lines.{Line, leading_backslashes, is_open, is_comment_line, without_open_backslash, joined_after, joined}
use Rattle.properties_format.specs.Escapes.{letter_u, Spelling, itself, escaped, unicode, surrogates, last, spelling_text, Four, are_hexadecimal, four_text}
use Rattle.properties_format.proofs.Escapes.Laws.{IsWhole}
use Rattle.properties_format.proofs.Escapes.Digits.{hexadecimal-plain}
use Rattle.properties_format.proofs.Groups.Open.{is_open-after, without_last-push}
use Rattle.properties_format.proofs.RespeltTexts.Parts.{Part, same, after_backslash, past, lone, on, text, AreParts, on-whole, on-beyond, text-append}

-- ---- which lines are open

-- whether the last part is a backslash by itself
abbrev pub ends_open : List Part → Bool
ends_open [] = false
ends_open (lone ∷ ps) = true
ends_open (p ∷ ps) = ends_open ps

-- Two more backslashes at the end of a text that is reversed.
leading-two : (z : List ℕ) → (leading_backslashes (z ++ backslash ∷ backslash ∷ []) % 2 == 1) ≡ (leading_backslashes z % 2 == 1)
leading-two [] = refl
leading-two (d ∷ z) = search (rules, leading-two z)

-- Two more backslashes at the front.
open-two : (y : List ℕ) → is_open (backslash ∷ backslash ∷ y) ≡ is_open y
open-two y = ap (λ v. leading_backslashes v % 2 == 1) (reverse-append (backslash ∷ backslash ∷ []) y) ∙ leading-two (reverse y)

-- A backslash and any character at the front.
open-escaped : (c : ℕ) (y : List ℕ) → is_open (backslash ∷ c ∷ y) ≡ is_open y
open-escaped c y = elim (cases_Bool (c == backslash)) [
  | inl e ↦ rw (eqb-true c backslash e) (open-two y)
  | inr e ↦ is_open-after (backslash ∷ []) c y e
]

fourth-plain : (d : Four) → are_hexadecimal d ≡ true → (d.fourth == backslash) ≡ false
fourth-plain d h = grind (arith, and_parts, hexadecimal-plain)

-- A whole spelling at the front.
open-spelling : (s : Spelling) (y : List ℕ) → IsWhole s → is_open (spelling_text s ++ y) ≡ is_open y
open-spelling (itself c) y h = is_open-after [] c y h
open-spelling (escaped c) y h = open-escaped c y
open-spelling (unicode d) y h = is_open-after (backslash ∷ letter_u ∷ d.first ∷ d.second ∷ d.third ∷ []) d.fourth y (fourth-plain d h.0)
open-spelling (surrogates high low) y h =
    is_open-after ((backslash ∷ letter_u ∷ four_text high) ++ (backslash ∷ letter_u ∷ low.first ∷ low.second ∷ low.third ∷ [])) low.fourth y (fourth-plain low h.2)
open-spelling last y h = absurd h

pub opens : (side : Bool) (ps : List Part) → AreParts ps → is_open (text side ps) ≡ ends_open ps
opens side (same c ∷ ps) h = is_open-after [] c (text side ps) h.0 ∙ opens side ps h.1
opens side (after_backslash c ∷ ps) h = open-escaped c (text side ps) ∙ opens side ps h.1
opens side (past p q ∷ ps) h = open-spelling (on side p q) (text side ps) (on-whole side p q h.0) ∙ opens side ps h.1
opens side ps h1 = grind (arith)

-- ---- without the open backslash

-- the parts without a backslash by itself at the end
abbrev pub closed : List Part → List Part
closed [] = []
closed (lone ∷ ps) = []
closed (p ∷ ps) = p ∷ closed ps

closed-none : (ps : List Part) → ends_open ps ≡ false → closed ps ≡ ps
closed-none (same c ∷ ps) h = ap (λ v. same c ∷ v) (closed-none ps h)
closed-none (after_backslash c ∷ ps) h = ap (λ v. after_backslash c ∷ v) (closed-none ps h)
closed-none (past p q ∷ ps) h = ap (λ v. past p q ∷ v) (closed-none ps h)
closed-none ps h1 = grind (arith)

closed-some : (side : Bool) (ps : List Part) → AreParts ps → ends_open ps ≡ true → text side ps ≡ text side (closed ps) ++ backslash ∷ []
closed-some side (same c ∷ ps) k h = ap (λ v. c ∷ v) (closed-some side ps k.1 h)
closed-some side (after_backslash c ∷ ps) k h = ap (λ v. backslash ∷ c ∷ v) (closed-some side ps k.1 h)
closed-some side (past p q ∷ ps) k h = grind (arith, closed-some side ps k.1 h, append_assoc)
closed-some side ps h1 h2 = grind (arith)

pub closes-text : (side : Bool) (ps : List Part) → AreParts ps → without_open_backslash (text side ps) ≡ text side (closed ps)
closes-text side ps k = grind (arith, opens, closed-some, without_last-push, closed-none)

pub closed-parts : (ps : List Part) → AreParts ps → AreParts (closed ps)
closed-parts (same c ∷ ps) h = (h.0, closed-parts ps h.1)
closed-parts (after_backslash c ∷ ps) h = (h.0, closed-parts ps h.1)
closed-parts (past p q ∷ ps) h = (h.0, closed-parts ps h.1)
closed-parts ps h1 = grind (arith)

pub closed-closed : (ps : List Part) → ends_open (closed ps) ≡ false
closed-closed (same c ∷ ps) = closed-closed ps
closed-closed (after_backslash c ∷ ps) = closed-closed ps
closed-closed (past p q ∷ ps) = closed-closed ps
closed-closed ps = grind (arith)

-- Parts before parts, if no backslash by itself is between.
pub parts-append : (ps qs : List Part) → AreParts ps → ends_open ps ≡ false → AreParts qs → AreParts (ps ++ qs)
parts-append (same c ∷ ps) qs h e k = (h.0, parts-append ps qs h.1 e k)
parts-append (after_backslash c ∷ ps) qs h e k = (tt, parts-append ps qs h.1 e k)
parts-append (past p q ∷ ps) qs h e k = (h.0, parts-append ps qs h.1 e k)
parts-append ps qs h1 h2 h3 = grind (arith)

-- ---- without leading blanks

-- the parts without the blanks at their front
abbrev pub skip : List Part → List Part
skip [] = []
skip (same c ∷ ps) = if is_blank c then skip ps else same c ∷ ps
skip (after_backslash c ∷ ps) = after_backslash c ∷ ps
skip (past p q ∷ ps) = past p q ∷ ps
skip (lone ∷ ps) = lone ∷ ps

pub skips : (side : Bool) (ps : List Part) → AreParts ps → without_leading_blanks (text side ps) ≡ text side (skip ps)
skips side (same c ∷ ps) h = grind (arith, skips side ps h.1)
skips side ps h1 = search (rules, on-beyond)

pub skip-parts : (ps : List Part) → AreParts ps → AreParts (skip ps)
skip-parts (same c ∷ ps) h = grind (arith, skip-parts ps h.1)
skip-parts ps h1 = grind (arith)

-- ---- comment lines

-- whether the first part is a comment sign
abbrev pub sign : List Part → Bool
sign (same c ∷ ps) = is_comment_sign c
sign ps = false

pub signs : (side : Bool) (ps : List Part) → AreParts ps → begins is_comment_sign (text side ps) ≡ sign ps
signs side ps h1 = search (rules, on-beyond)

abbrev pub comment_parts : List Part → Bool
comment_parts ps = sign (skip ps)

pub comments : (side : Bool) (ps : List Part) → AreParts ps → is_comment_line (text side ps) ≡ comment_parts ps
comments side ps h = ap (begins is_comment_sign) (skips side ps h) ∙ signs side (skip ps) (skip-parts ps h)

-- ---- lines that are joined

-- a line of parts, with its number
pub record PartLine : Type 0 where
  pub number : ℕ
  pub parts : List Part

abbrev pub line_on : Bool → PartLine → Line
line_on side l = record { number = l.number; text = text side l.parts }

abbrev pub AreLinesOfParts : List PartLine → Type 0
AreLinesOfParts [] = Unit {0}
AreLinesOfParts (l ∷ ls) = AreParts l.parts × AreLinesOfParts ls

abbrev pub addition_parts : List Part → List Part
addition_parts ps = closed (skip ps)

abbrev pub after_parts : List PartLine → List Part
after_parts [] = []
after_parts (l ∷ ls) = addition_parts l.parts ++ after_parts ls

abbrev pub joined_parts : List PartLine → List Part
joined_parts [] = []
joined_parts (l ∷ ls) = if comment_parts l.parts then l.parts else closed l.parts ++ after_parts ls

adds-after : (side : Bool) (ls : List PartLine) → AreLinesOfParts ls → joined_after (map (line_on side) ls) ≡ text side (after_parts ls)
adds-after side [] h = refl
adds-after side (l ∷ ls) h = search (rules, adds-after side ls h.1, text-append, skips, closes-text, skip-parts)

pub joins : (side : Bool) (ls : List PartLine) → AreLinesOfParts ls → joined (map (line_on side) ls) ≡ text side (joined_parts ls)
joins side ls h1 = grind (arith, comments, closes-text, adds-after, text-append)

after-parts : (ls : List PartLine) → AreLinesOfParts ls → AreParts (after_parts ls)
after-parts [] h = tt
after-parts (l ∷ ls) h = grind (arith, parts-append, closed-parts, skip-parts, closed-closed, after-parts ls h.1)

pub joined-parts : (ls : List PartLine) → AreLinesOfParts ls → AreParts (joined_parts ls)
joined-parts ls h1 = grind (arith, parts-append, closed-parts, closed-closed, after-parts)
