-- The computed parts of a pair's line are its parts: what separates the key from the value, and what comes before the
-- value.
use Rattle.std.proofs.Common.{◌≡◌, ℕ, ◌-◌, true, false, List, ◌++◌, length, take, ap, ap₂, ◌∙◌, arith, append_assoc, length-append}
use Rattle.std.proofs.Math.Seq.{take-append_seam}
use Rattle.properties_format.specs.Text.{is_comment_sign, without_leading_blanks, begins}
use Rattle.properties_format.specs.Lines.{is_comment_line}
use Rattle.properties_format.specs.Split.{IsPair}
use Rattle.properties_format.specs.Computed.Split.{KeyCut, cut_key}
use Rattle.properties_format.specs.Computed.Valued.{without_end, after_key, value_as_written, between_in, before_value}
use Rattle.properties_format.proofs.Split.Blanks.{without_leading_blanks-only}
use Rattle.properties_format.proofs.Split.Keys.{cut_key-only}
use Rattle.properties_format.proofs.Split.Unique.{between-ends, between-value}

-- A text followed by an end, without that end.
pub without_end-append : (x y : List ℕ) → without_end (x ++ y) y ≡ x
without_end-append x y =
    let l = length-append x y in
    let n : length (x ++ y) - length y ≡ length x = omega arith in
    ap (λ m. take m (x ++ y)) n ∙ take-append_seam x y

-- What follows the key of a pair.
pub after_key-pair : (line key value : List ℕ) (h : IsPair line key value) → after_key line ≡ h.between ++ value
after_key-pair line key value h =
    ap (λ v. let c : KeyCut = cut_key v false in c.rest)
    (ap without_leading_blanks h.whole ∙ without_leading_blanks-only h.indent (key ++ (h.between ++ value)) h.indent_blank h.begins_full)
    ∙ ap (λ v. let c : KeyCut = v in c.rest) (cut_key-only key (h.between ++ value) h.is_key (between-ends h.between value h.is_between))

-- The value of a pair.
pub written_value-pair : (line key value : List ℕ) (h : IsPair line key value) → value_as_written line ≡ value
written_value-pair line key value h = rw (after_key-pair line key value h, between-value h.between value h.is_between)

-- What separates the key of a pair from its value.
pub between_in-pair : (line key value : List ℕ) (h : IsPair line key value) → between_in line ≡ h.between
between_in-pair line key value h = ap₂ without_end (after_key-pair line key value h) (written_value-pair line key value h) ∙ without_end-append h.between value

-- A pair's line is what comes before the value, followed by the value.
pub pair-line : (line key value : List ℕ) (h : IsPair line key value) → line ≡ (h.indent ++ (key ++ h.between)) ++ value
pair-line line key value h = cc (append_assoc key h.between value, append_assoc h.indent (key ++ h.between) value)

-- What comes before the value of a pair.
pub before_value-pair : (line key value : List ℕ) (h : IsPair line key value) → before_value line ≡ h.indent ++ (key ++ h.between)
before_value-pair line key value h = ap₂ without_end (pair-line line key value h) (written_value-pair line key value h) ∙ without_end-append _ value

-- A comment line isn't a pair.
pub comment_line-no_pair : (line key value : List ℕ) → is_comment_line line ≡ true → IsPair line key value → ⊥
comment_line-no_pair line key value c h = grind (arith, without_leading_blanks-only)
  where
    of_text : (x : List ℕ) → without_leading_blanks line ≡ x → begins is_comment_sign x ≡ false → ⊥
    of_text x h k = grind (arith)
