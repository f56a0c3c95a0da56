-- The digits of escapes.
use Rattle.std.proofs.Common.{◌≡◌, ℕ, ◌/◌, ◌%◌, ◌<◌, ◌&&◌, Bool, true, leb, List, [], ◌∷◌, length, get_or, refl, sym, ◌∙◌}
use Rattle.std.specs.Char.{digit_char}
use Rattle.std.proofs.lemmas.Bool.{and_parts, agree_below_at, leb-true}
use Rattle.std.proofs.lemmas.List.{take_all}
use Rattle.byte_blocks.proofs.Rows.{starts, starts-take}
use Rattle.properties_text.specs.declared.print.escapes.TheConstants.{DIGITS_OF_BYTES}

-- ---- the table of digits

abbrev digits : ℕ → List ℕ
digits b = digit_char (b / 0x10) ∷ digit_char (b % 0x10) ∷ []

abbrev is_row : ℕ → List ℕ → Bool
is_row b row = starts (digits b) row && leb (length row) 2

rows : (b : ℕ) → b < 256 → is_row b (get_or DIGITS_OF_BYTES b []) ≡ true
rows b h = agree_below_at (λ b. is_row b (get_or DIGITS_OF_BYTES b [])) (λ b. true) 256 b refl h

pub digits_at : (b : ℕ) → b < 256 → get_or DIGITS_OF_BYTES b [] ≡ digits b
digits_at b h =
    let row = get_or DIGITS_OF_BYTES b [] in
    let p = and_parts (starts (digits b) row) (leb (length row) 2) (rows b h) in
    sym (take_all 2 row (leb-true (length row) 2 p.1)) ∙ starts-take (digits b) row p.0
