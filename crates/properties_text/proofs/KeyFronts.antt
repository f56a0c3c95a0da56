-- Plain characters at the front of a key.
use Rattle.std.proofs.Common.{◌≡◌, ℕ, zero, suc, ◌+◌, ◌<◌, ◌≤◌, ◌==◌, true, false, List, length, take, get_or, refl, ap, subst, ◌∙◌, arith}
use Rattle.std.proofs.lemmas.Bool.Decides.{nat_tests}
use Rattle.std.specs.List.{All}
use Rattle.std.proofs.lemmas.Bool.{not-true, or_parts, false_from_ne_true, ltb-false}
use Rattle.std.proofs.lemmas.List.{get_or-take, length-take, length-take-le}
use Rattle.std.proofs.lemmas.List.Elements.{All-get_or, All-from_get_or}
use Rattle.memchr.specs.Find.{Nowhere, Passes}
use Rattle.byte_blocks.specs.Classes.{is_control}
use Rattle.properties_format.specs.Text.{space, backslash}
use Rattle.properties_format.specs.Printing.{is_special}
use Rattle.properties_format.specs.Computed.Split.{ends_key}
use Rattle.properties_text.specs.Parsing.{stays_in_key, may_end}
use Rattle.properties_text.proofs.Scanning.{IsCutSoFar, cut-plain}

-- A character that is neither special in a key nor a control character stays in the key.
plain-one : (c : ℕ) → space ≤ c → is_special c ≡ false → stays_in_key c ≡ true
plain-one c h s = grind (arith, nat_tests)

-- All characters before the first such one are plain.
pub plain-front : (text : List ℕ) (n : ℕ) → Nowhere (Passes may_end text) 0 n → All (λ c. stays_in_key c ≡ true) (take n text)
plain-front text n none =
    All-from_get_or (λ c. stays_in_key c ≡ true) (take n text) 0 (λ k inside.
    let small : k < n = omega (arith, inside, length-take n text) in
    let c = get_or text k 0 in
    let parts = or_parts (is_control c) (is_special c) (false_from_ne_true (may_end c) (none k (omega arith) small)) in
    ap stays_in_key (get_or-take n text k 0 small) ∙ plain-one c (ltb-false c space parts.0) parts.1)

-- All plain characters belong to the key.
pub cut-plains : (xs : List ℕ) (i : ℕ) → i ≤ length xs → All (λ c. stays_in_key c ≡ true) (take i xs) → IsCutSoFar xs i false
cut-plains xs i h all = upto i (omega arith)
  where
    plain : (j : ℕ) → j < i → stays_in_key (get_or xs j 0) ≡ true
    plain j k = subst (λ c. stays_in_key c ≡ true) (get_or-take i xs j 0 k)
        (All-get_or (λ c. stays_in_key c ≡ true) (take i xs) j 0 (omega (arith, length-take-le i xs h)) all)

    upto : (j : ℕ) → j ≤ i → IsCutSoFar xs j false
    upto zero k = refl
    upto (suc j) k =
        let p = or_parts (get_or xs j 0 == backslash) (ends_key (get_or xs j 0)) (not-true _ (plain j (omega arith))) in
        subst (λ n. IsCutSoFar xs n false) (let e : j + 1 ≡ suc j = omega arith in e) (cut-plain xs j (omega arith) p.0 p.1 (upto j (omega arith)))
