-- Bytes printed sixteen at a time.
use Rattle.std.proofs.Common.{◌≡◌, ℕ, ◌≤◌, cond, Bool, List, [], ◌∷◌, ◌++◌, refl, sym, ap, ap₂, arith, length, take, map, replicate}
use Rattle.std.specs.List.{All}
use Rattle.std.proofs.lemmas.Bool.Decides.{nat_tests}
use Rattle.std.proofs.lemmas.List.{take-map}
use Rattle.std.proofs.lemmas.List.Elements.{All-head, All-tail}
use Rattle.std.proofs.lemmas.Simd.{splat_is_map}
use Rattle.properties_format.specs.Text.{space, backslash}
use Rattle.properties_format.specs.Printing.{is_special}
use Rattle.byte_blocks.specs.Marks.{spread}
use Rattle.properties_text.specs.Printing.{printed_byte, printed_bytes, with_backslashes}

-- ---- backslashes

-- Bytes with backslashes are spread bytes.
backslashes-spread : (bs : List ℕ) → with_backslashes bs ≡ spread (map is_special bs) (map (λ b. backslash) bs) bs
backslashes-spread [] = refl
backslashes-spread (b ∷ bs) = ap (λ l. cond (is_special b) (backslash ∷ b ∷ []) (b ∷ []) ++ l) (backslashes-spread bs)

-- Backslashes before the special bytes among the first k.
pub first_spread : (v : List ℕ) (marks : List Bool) (k : ℕ) → length v ≡ 16 → marks ≡ map is_special v
    → spread (take k marks) (take k (replicate 16 backslash)) (take k v) ≡ with_backslashes (take k v)
first_spread v marks k long are = rw (are, splat_is_map v 16 backslash long) (simp take-map (sym (backslashes-spread (take k v))))

-- ---- what is printed

-- Without control characters, nothing else is escaped.
printed-plain : (b : ℕ) → space ≤ b → cond (is_special b) (backslash ∷ b ∷ []) (b ∷ []) ≡ printed_byte b
printed-plain b h = grind (arith, nat_tests)

pub spelt : (v : List ℕ) → All (λ b. space ≤ b) v → with_backslashes v ≡ printed_bytes v
spelt [] h = refl
spelt (b ∷ v) h = ap₂ (λ x y. x ++ y) (printed-plain b (All-head (λ b. space ≤ b) b v h)) (spelt v (All-tail (λ b. space ≤ b) b v h))
