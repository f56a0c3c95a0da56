-- Facts about split lines, for code that prints or parses them.
use Rattle.std.proofs.Common.{◌≡◌, ℕ, ◌==◌, true, false, List, [], ◌∷◌, ◌++◌, refl, ap, sym, ◌∙◌, arith}
use Rattle.std.proofs.lemmas.Bool.{and_parts}
use Rattle.properties_format.specs.Text.{backslash, is_blank, is_comment_sign, is_separator, begins}
use Rattle.properties_format.specs.Split.{Logical, pair, AreBlanks, plain, escaped, IsKey, separator, IsSplit}
use Rattle.properties_format.specs.Computed.Split.{split_of}
use Rattle.properties_format.specs.Escapes.{letter_u, is_hexadecimal, Four, four_text, are_hexadecimal}
use Rattle.properties_format.proofs.Escapes.Digits.{hexadecimal-plain}
use Rattle.properties_format.proofs.Split.Unique.{separator-full, split_of-pair, split_of-only}

-- A line is exactly one thing, in one way.
pub split-unique : (line : List ℕ) (one other : Logical) → IsSplit line one → IsSplit line other → one ≡ other
split-unique line one other h k = split_of-only line one h ∙ sym (split_of-only line other k)

-- ---- building a key

-- an empty text is a key
pub IsKey-nil : (rest : List ℕ) → IsKey [] rest
IsKey-nil rest = record { units = []; whole = refl; each = tt }

-- A key with one more character at its front, which isn't a backslash, a blank or a separator, is a key.
pub IsKey-plain : (c : ℕ) (x rest : List ℕ) → (c == backslash) ≡ false → is_blank c ≡ false → is_separator c ≡ false → IsKey x rest → IsKey (c ∷ x) rest
IsKey-plain c x rest h b s k = record { units = plain c ∷ k.units; whole = ap (λ v. c ∷ v) k.whole; each = ((h, b, s), k.each) }

-- A key with a backslash and any character at its front is a key.
pub IsKey-escaped : (c : ℕ) (x rest : List ℕ) → IsKey x rest → IsKey (backslash ∷ c ∷ x) rest
IsKey-escaped c x rest k = record { units = escaped c ∷ k.units; whole = ap (λ v. backslash ∷ c ∷ v) k.whole; each = (tt, k.each) }

-- A key with a hexadecimal digit at its front is a key.
IsKey-digit : (c : ℕ) (x rest : List ℕ) → is_hexadecimal c ≡ true → IsKey x rest → IsKey (c ∷ x) rest
IsKey-digit c x rest h k = let p = hexadecimal-plain c h in IsKey-plain c x rest p.0 p.1 p.2 k

-- A key with a `\u` escape at its front is a key.
pub IsKey-unicode : (d : Four) (x rest : List ℕ) → are_hexadecimal d ≡ true → IsKey x rest → IsKey (backslash ∷ letter_u ∷ four_text d ++ x) rest
IsKey-unicode d x rest h k = grind (arith, and_parts, IsKey-escaped, IsKey-digit)

-- ---- pairs

-- A separator isn't a comment sign.
pub separator-sign : (c : ℕ) → is_separator c ≡ true → is_comment_sign c ≡ false
separator-sign c h = grind (arith)

-- If the key is empty, what comes before the separator is the line's indentation.
pub split_of-empty_key : (before : List ℕ) (sign : ℕ) (after value : List ℕ) → AreBlanks before → is_separator sign ≡ true → AreBlanks after
    → begins is_blank value ≡ false → split_of (before ++ (sign ∷ (after ++ value))) ≡ pair [] value
split_of-empty_key before sign after value b s d f =
    split_of-pair before [] (sign ∷ after) value b (λ q. absurd (cc)) (separator-full sign s) (separator-sign sign s) (IsKey-nil (sign ∷ (after ++ value)))
    (separator [] sign after refl tt s d f)
