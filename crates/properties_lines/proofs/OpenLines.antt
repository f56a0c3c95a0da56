-- Which lines of undecoded bytes are continued.
use Rattle.std.proofs.Common.{◌≡◌, ℕ, ◌<◌, ◌+◌, ◌-◌, Bool, true, false, not, if◌then◌else◌, List, [], ◌∷◌, length, take, refl, sym, ap, ◌∙◌, inl, inr, arith, length-append}
use Rattle.std.proofs.lemmas.Bool.{cases_Bool}
use Rattle.std.proofs.Math.Seq.{take-append_seam}
use Rattle.properties_format.specs.Text.{backslash, is_blank, without_leading_blanks}
use Rattle.properties_format.specs.Lines.{is_open, is_comment_line, without_last, without_open_backslash}
use Rattle.properties_format.proofs.Groups.Open.{is_open-after, blank-other, open-ends}
use Rattle.properties_lines.specs.LogicalLine.{is_continued, IsNotContinued}

-- ---- open lines

-- an answer, turned into the other after an odd number of backslashes
abbrev pub turned : Bool → Bool → Bool
turned odd open_line = if odd then not open_line else open_line

-- blanks at the front leave a line as open as it is
pub open-unblanked : (d : List ℕ) → is_open (without_leading_blanks d) ≡ is_open d
open-unblanked [] = refl
open-unblanked (b ∷ d) = elim (cases_Bool (is_blank b)) [
  | inl t ↦ rw t (open-unblanked d ∙ sym (is_open-after [] b d (blank-other b t)))
  | inr f ↦ rw f refl
]

-- an open line has a byte less without its backslash
pub open-cut : (d : List ℕ) → is_open d ≡ true → (0 < length d) × (take (length d - 1) d ≡ without_open_backslash d)
open-cut d h =
    let whole = open-ends d h in
    let front = without_last d in
    let size : length d ≡ length front + 1 = ap length whole ∙ length-append front (backslash ∷ []) in
    let before : length d - 1 ≡ length front = omega arith in (
      omega arith,
      ap (λ n. take n d) before ∙ ap (take (length front)) whole ∙ take-append_seam front (backslash ∷ []) ∙ sym (rw h refl),
    )

-- ---- lines that are continued

continued-comment : (text : List ℕ) → is_comment_line text ≡ true → is_continued text ≡ false
continued-comment text c = rw c refl

pub continued-other : (text : List ℕ) → is_comment_line text ≡ false → is_continued text ≡ is_open text
continued-other text c = rw c refl

pub stands-alone : (text : List ℕ) → is_continued text ≡ false → IsNotContinued text
stands-alone text h = elim (cases_Bool (is_comment_line text)) [ inl c ↦ inl c | inr c ↦ inr (sym (continued-other text c) ∙ h) ]

-- a line that is continued is open and no comment
pub continued-both : (text : List ℕ) → is_continued text ≡ true → (is_comment_line text ≡ false) × (is_open text ≡ true)
continued-both text h = elim (cases_Bool (is_comment_line text)) [
  | inl c ↦ let k = continued-comment text c in absurd (cc)
  | inr c ↦ (c, sym (continued-other text c) ∙ h)
]

pub ruleset open_lines = (open-cut, continued-both, open-unblanked)
