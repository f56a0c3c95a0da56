-- What a logical line of parts is, on either side alike.
use Rattle.std.proofs.Common.{rules, ◌≡◌, ℕ, ◌==◌, ◌≤◌, Bool, true, false, List, [], ◌∷◌, ◌++◌, refl, ap, ◌∙◌, inl, inr, arith}
use Rattle.std.specs.Prelude.{if◌then◌else◌}
use Rattle.std.proofs.lemmas.Bool.{cases_Bool}
use Rattle.properties_format.specs.Text.{backslash, is_blank, is_comment_sign, is_separator}
use Rattle.properties_format.specs.Split.{Logical, blank, comment, pair}
use Rattle.properties_format.specs.Computed.Split.{without_trailing_blanks, unless_last_blank, KeyCut, with_front, ends_key, cut_key, past_separator, pair_of, split_full, split_of}
use Rattle.properties_format.specs.Escapes.{letter_u, Spelling, itself, escaped, unicode, surrogates, last, spelling_text, spelling_character, Four, are_hexadecimal, four_text}
use Rattle.properties_format.proofs.Escapes.Laws.{IsWhole}
use Rattle.properties_format.proofs.Escapes.Digits.{digits}
use Rattle.properties_format.proofs.Escapes.Trimmed.{full-last}
use Rattle.properties_format.proofs.RespeltTexts.Parts.{Part, same, after_backslash, past, lone, on, text, IsPart, AreParts, on-whole, on-beyond, escaped-beyond}
use Rattle.properties_format.proofs.RespeltTexts.Joined.{skip, skips, skip-parts}
use Rattle.properties_format.proofs.Split.Keys.{with_text}

-- ---- without trailing blanks

-- the parts with this one at the front, unless it is a blank and the last; of a backslash and a blank, the backslash
-- stays
abbrev pub unless_last : Part → List Part → List Part
unless_last (same c) [] = if is_blank c then [] else same c ∷ []
unless_last (after_backslash c) [] = if is_blank c then lone ∷ [] else after_backslash c ∷ []
unless_last p ps = p ∷ ps

-- the parts without the blanks at their end
abbrev pub trailing : List Part → List Part
trailing [] = []
trailing (p ∷ ps) = unless_last p (trailing ps)

four-last : (d : Four) (y : List ℕ) → are_hexadecimal d ≡ true → without_trailing_blanks (four_text d ++ y) ≡ four_text d ++ without_trailing_blanks y
four-last d y h = search (rules, digits)

spelling-last : (s : Spelling) (y : List ℕ) → IsWhole s → 0x80 ≤ spelling_character s
    → without_trailing_blanks (spelling_text s ++ y) ≡ spelling_text s ++ without_trailing_blanks y
spelling-last s y h1 h2 = grind (arith, full-last, escaped-beyond, four-last)

some-last : (side : Bool) (c : ℕ) (p : Part) (ps : List Part) → unless_last_blank c (text side (p ∷ ps)) ≡ c ∷ text side (p ∷ ps)
some-last side c p ps = grind (arith)

two-unless : (side : Bool) (c : ℕ) (qs : List Part)
    → unless_last_blank backslash (unless_last_blank c (text side qs)) ≡ text side (unless_last (after_backslash c) qs)
two-unless side c qs = grind (arith, some-last)

pub trails : (side : Bool) (ps : List Part) → AreParts ps → without_trailing_blanks (text side ps) ≡ text side (trailing ps)
trails side (same c ∷ ps) h = ap (unless_last_blank c) (trails side ps h.1) ∙ search (rules, some-last)
trails side (after_backslash c ∷ ps) h = ap (λ v. unless_last_blank backslash (unless_last_blank c v)) (trails side ps h.1) ∙ two-unless side c (trailing ps)
trails side (past p q ∷ ps) h = grind (arith, spelling-last, on-whole, on-beyond, trails side ps h.1)
trails side ps h1 = grind (arith)

unless-parts : (p : Part) (ps : List Part) → IsPart p [] → IsPart p ps → AreParts ps → AreParts (unless_last p ps)
unless-parts p ps h1 h2 h3 = grind (arith)

trailing-parts : (ps : List Part) → AreParts ps → AreParts (trailing ps)
trailing-parts (same c ∷ ps) h = unless-parts (same c) (trailing ps) h.0 h.0 (trailing-parts ps h.1)
trailing-parts (after_backslash c ∷ ps) h = unless-parts (after_backslash c) (trailing ps) tt tt (trailing-parts ps h.1)
trailing-parts (past p q ∷ ps) h = (h.0, trailing-parts ps h.1)
trailing-parts ps h1 = grind (arith)

-- the parts without the blanks at both ends
abbrev pub trim : List Part → List Part
trim ps = trailing (skip ps)

-- ---- keys

-- a key of parts, and the parts after it
pub record CutParts : Type 0 where
  pub key : List Part
  pub rest : List Part

abbrev pub cut_on : Bool → CutParts → KeyCut
cut_on side cut = record { key = text side cut.key; rest = text side cut.rest }

abbrev pub part_in_front : Part → CutParts → CutParts
part_in_front p cut = record { key = p ∷ cut.key; rest = cut.rest }

abbrev pub cut_parts : List Part → CutParts
cut_parts [] = record { key = []; rest = [] }
cut_parts (same c ∷ ps) = if ends_key c then record { key = []; rest = same c ∷ ps } else part_in_front (same c) (cut_parts ps)
cut_parts (after_backslash c ∷ ps) = part_in_front (after_backslash c) (cut_parts ps)
cut_parts (past p q ∷ ps) = part_in_front (past p q) (cut_parts ps)
cut_parts (lone ∷ ps) = part_in_front lone (cut_parts ps)

plain-key : (c : ℕ) (y : List ℕ) → (c == backslash) ≡ false → ends_key c ≡ false → cut_key (c ∷ y) false ≡ with_front c (cut_key y false)
plain-key c y h k = rw (h, k) refl

four-key : (d : Four) (y : List ℕ) → are_hexadecimal d ≡ true → cut_key (four_text d ++ y) false ≡ with_text (four_text d) (cut_key y false)
four-key d y h = search (rules, digits)

escape-key : (d : Four) (y : List ℕ) → are_hexadecimal d ≡ true
    → cut_key (backslash ∷ letter_u ∷ four_text d ++ y) false ≡ with_text (backslash ∷ letter_u ∷ four_text d) (cut_key y false)
escape-key d y h = ap (λ v. with_front backslash (with_front letter_u v)) (four-key d y h)

spelling-key : (s : Spelling) (y : List ℕ) → IsWhole s → 0x80 ≤ spelling_character s
    → cut_key (spelling_text s ++ y) false ≡ with_text (spelling_text s) (cut_key y false)
spelling-key (itself c) y h k = let e : ends_key c ≡ false = grind (arith) in plain-key c y h e
spelling-key (escaped c) y h k = refl
spelling-key (unicode d) y h k = escape-key d y h.0
spelling-key (surrogates high low) y h k =
    escape-key high (backslash ∷ letter_u ∷ four_text low ++ y) h.0 ∙ ap (with_text (backslash ∷ letter_u ∷ four_text high)) (escape-key low y h.2)
spelling-key last y h k = absurd h

pub cuts : (side : Bool) (ps : List Part) → AreParts ps → cut_key (text side ps) false ≡ cut_on side (cut_parts ps)
cuts side (same c ∷ ps) h = grind (arith, cuts side ps h.1)
cuts side (after_backslash c ∷ ps) h = ap (λ v. with_front backslash (with_front c v)) (cuts side ps h.1)
cuts side (past p q ∷ ps) h = grind (arith, spelling-key, on-whole, on-beyond, cuts side ps h.1)
cuts side ps h1 = grind (arith)

record AreCutParts (cut : CutParts) : Type 0 where
  key : AreParts cut.key
  rest : AreParts cut.rest

cut-parts : (ps : List Part) → AreParts ps → AreCutParts (cut_parts ps)
cut-parts (same c ∷ ps) h = grind (arith, cut-parts ps h.1)
cut-parts (after_backslash c ∷ ps) h = let k = cut-parts ps h.1 in record { key = (tt, k.key); rest = k.rest }
cut-parts (past p q ∷ ps) h = let k = cut-parts ps h.1 in record { key = (h.0, k.key); rest = k.rest }
cut-parts ps h1 = grind (arith)

-- ---- values

abbrev pub past_parts : List Part → List Part
past_parts [] = []
past_parts (same c ∷ ps) = if is_separator c then skip ps else same c ∷ ps
past_parts (after_backslash c ∷ ps) = after_backslash c ∷ ps
past_parts (past p q ∷ ps) = past p q ∷ ps
past_parts (lone ∷ ps) = lone ∷ ps

passes : (side : Bool) (ps : List Part) → AreParts ps → past_separator (text side ps) ≡ text side (past_parts ps)
passes side ps h1 = search (rules, skips, on-beyond)

-- ---- what a line is

-- a logical line of parts
pub data LogicalParts : Type 0 where
  nothing : LogicalParts
  a_comment : List Part → LogicalParts
  a_pair : List Part → List Part → LogicalParts

abbrev pub logical_on : Bool → LogicalParts → Logical
logical_on side nothing = blank
logical_on side (a_comment ps) = comment (text side ps)
logical_on side (a_pair ps qs) = pair (text side ps) (text side qs)

abbrev pub AreLogical : LogicalParts → Type 0
AreLogical nothing = Unit {0}
AreLogical (a_comment ps) = AreParts ps
AreLogical (a_pair ps qs) = AreParts ps × AreParts qs

abbrev pub pair_parts : CutParts → LogicalParts
pair_parts cut = a_pair cut.key (past_parts (skip cut.rest))

abbrev pub full_parts : List Part → LogicalParts
full_parts [] = nothing
full_parts (same c ∷ ps) = if is_comment_sign c then a_comment (trim ps) else pair_parts (cut_parts (same c ∷ ps))
full_parts (after_backslash c ∷ ps) = pair_parts (cut_parts (after_backslash c ∷ ps))
full_parts (past p q ∷ ps) = pair_parts (cut_parts (past p q ∷ ps))
full_parts (lone ∷ ps) = pair_parts (cut_parts (lone ∷ ps))

abbrev pub split_parts : List Part → LogicalParts
split_parts ps = full_parts (skip ps)

pairs : (side : Bool) (ps : List Part) → AreParts ps → pair_of (cut_key (text side ps) false) ≡ logical_on side (pair_parts (cut_parts ps))
pairs side ps h = grind (arith, cut-parts, cuts, skips, passes, skip-parts)

spelling-split : (s : Spelling) (y : List ℕ) → 0x80 ≤ spelling_character s → split_full (spelling_text s ++ y) ≡ pair_of (cut_key (spelling_text s ++ y) false)
spelling-split s y h1 = grind (arith)

fulls : (side : Bool) (ps : List Part) → AreParts ps → split_full (text side ps) ≡ logical_on side (full_parts ps)
fulls side [] h = refl
fulls side (same c ∷ ps) h = elim (cases_Bool (is_comment_sign c)) [
  | inl e ↦ rw e (ap comment (search (rules, skips, trails, skip-parts)))
  | inr e ↦ rw e (pairs side (same c ∷ ps) h)
]
fulls side (after_backslash c ∷ ps) h = pairs side (after_backslash c ∷ ps) h
fulls side (past p q ∷ ps) h = spelling-split (on side p q) (text side ps) (on-beyond side p q h.0) ∙ pairs side (past p q ∷ ps) h
fulls side (lone ∷ ps) h = pairs side (lone ∷ ps) h

pub splits : (side : Bool) (ps : List Part) → AreParts ps → split_of (text side ps) ≡ logical_on side (split_parts ps)
unfolding split_of
splits side ps h = ap split_full (skips side ps h) ∙ fulls side (skip ps) (skip-parts ps h)

pair-parts : (ps : List Part) → AreParts ps → AreLogical (pair_parts (cut_parts ps))
pair-parts ps h = search (rules, cut-parts, skip-parts)

pub split-parts : (ps : List Part) → AreParts ps → AreLogical (split_parts ps)
split-parts ps h = search (rules, trailing-parts, skip-parts, pair-parts, same, past)
