-- A number is made of its bits.
use Rattle.std.proofs.Common.{◌≡◌, ◌<◌, ◌+◌, ◌*◌, ◌/◌, ◌%◌, ◌^◌, ◌==◌, ℕ, zero, suc, cond, refl, ap₂, ◌∙◌, arith}
use Rattle.std.specs.Simd.Lanes.{mask_l}
use Rattle.byte_blocks.specs.Marks.{lowest_bits}

is_odd : (number : ℕ) → cond (number % 2 == 1) 1 0 ≡ number % 2
is_odd number = by (number % 2) (omega arith)
  where
    by : (r : ℕ) → r < 2 → cond (r == 1) 1 0 ≡ r
    by zero small = refl
    by (suc zero) small = refl
    by (suc (suc r)) small = absurd (omega arith)

-- A number below 2^n is made of its lowest n bits.
pub mask-of_bits : (n number : ℕ) → number < 2 ^ n → mask_l (lowest_bits n number) ≡ number
unfolding lowest_bits
mask-of_bits zero number small = omega arith
mask-of_bits (suc n) number small =
    ap₂ (λ first rest. first + 2 * rest) (is_odd number) (mask-of_bits n (number / 2) (omega arith))
    ∙ (let whole : number % 2 + 2 * (number / 2) ≡ number = omega arith in whole)
