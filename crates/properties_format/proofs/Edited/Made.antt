-- Which groups have a key.
use Rattle.std.proofs.Common.{◌≡◌, ℕ, true, false, List, refl, ap, sym, ◌∙◌, arith}
use Rattle.std.proofs.lemmas.Bool.{false_from_ne_true}
use Rattle.std.proofs.lemmas.Slice.Eq.{bytes_eq-Decides}
use Rattle.properties_format.specs.Lines.{joined}
use Rattle.properties_format.specs.Items.{pair, given}
use Rattle.properties_format.specs.Body.{HeldLine, as_lines, HasKey}
use Rattle.properties_format.specs.Computed.Body.{is_pair_with, has_key}
use Rattle.properties_format.proofs.Items.Unique.{outcome_of-meets, outcome_of-only}

-- ---- which groups have the key

-- A group that passes the test is a pair with the key.
pub has_key-true : (key : List ℕ) (g : List HeldLine) → has_key key g ≡ true → HasKey key g
has_key-true key g h = grind (arith, bytes_eq-Decides, outcome_of-meets)

-- A group that is a pair with the key passes the test.
pub HasKey-test : (key : List ℕ) (g : List HeldLine) → HasKey key g → has_key key g ≡ true
HasKey-test key g (value, h) =
    ap (is_pair_with key) (sym (outcome_of-only (joined (as_lines g)) (given (pair key value)) h)) ∙ (bytes_eq-Decides key key).1 refl

-- A group that doesn't pass the test isn't a pair with the key.
pub has_key-false : (key : List ℕ) (g : List HeldLine) → has_key key g ≡ false → ¬ (HasKey key g)
has_key-false key g h = λ k. let m = HasKey-test key g k in absurd (cc)

-- A group that isn't a pair with the key doesn't pass the test.
pub no_key-test : (key : List ℕ) (g : List HeldLine) → ¬ (HasKey key g) → has_key key g ≡ false
no_key-test key g h = false_from_ne_true (has_key key g) (λ k. h (has_key-true key g k))
