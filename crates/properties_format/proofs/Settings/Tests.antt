-- The tests of settings pass for exactly the good settings.
use Rattle.std.proofs.Common.{◌≡◌, ℕ, true, List, [], ◌∷◌, ◌++◌, refl, ap, ◌∙◌, inl, inr, arith}
use Rattle.std.proofs.lemmas.Bool.{cases_Bool, and_parts, and_from, or_left, or_right}
use Rattle.properties_format.specs.Text.{is_blank, is_blanks, is_comment_sign, is_separator}
use Rattle.properties_format.specs.Lines.{HoldsNoLineEnding}
use Rattle.properties_format.specs.Split.{AreBlanks}
use Rattle.properties_format.specs.Settings.{IsGoodPrefix, IsSignedSeparator, IsGoodSeparator}
use Rattle.properties_format.specs.Computed.Settings.{holds_no_line_ending, is_good_prefix, is_signed_separator, is_good_separator}
use Rattle.properties_format.specs.Writing.{tail_of}
use Rattle.properties_format.proofs.Split.Unique.{sign-full, separator-full}

-- ---- blanks, and texts without a line ending

-- A text that passes the test is blanks.
pub AreBlanks-from_test : (x : List ℕ) → is_blanks x ≡ true → AreBlanks x
AreBlanks-from_test [] h = tt
AreBlanks-from_test (c ∷ x) h = grind (arith, AreBlanks-from_test x)

-- Blanks pass the test.
pub is_blanks-from : (x : List ℕ) → AreBlanks x → is_blanks x ≡ true
is_blanks-from [] h = refl
is_blanks-from (c ∷ x) h = and_from (is_blank c) (is_blanks x) h.0 (is_blanks-from x h.1)

-- A text that passes the test contains no line ending.
pub HoldsNoLineEnding-from_test : (x : List ℕ) → holds_no_line_ending x ≡ true → HoldsNoLineEnding x
HoldsNoLineEnding-from_test [] h = tt
HoldsNoLineEnding-from_test (c ∷ x) h = grind (arith, HoldsNoLineEnding-from_test x)

-- A text without line endings passes the test.
pub holds_no_line_ending-from : (x : List ℕ) → HoldsNoLineEnding x → holds_no_line_ending x ≡ true
holds_no_line_ending-from [] h = refl
holds_no_line_ending-from (c ∷ x) h = grind (arith, holds_no_line_ending-from x h.1)

-- ---- prefixes

-- a prefix that passes the test is good
pub IsGoodPrefix-from_test : (prefix : List ℕ) → is_good_prefix prefix ≡ true → IsGoodPrefix prefix
IsGoodPrefix-from_test [] h = cc
IsGoodPrefix-from_test (c ∷ cs) h = elim (cases_Bool (is_blank c)) [
  | inl e ↦
      let g = IsGoodPrefix-from_test cs (rw e at h) in
      record { indent = c ∷ g.indent; sign = g.sign; tail = g.tail; division = cc (g.division); indented = (e, g.indented); signed = g.signed; one_line = g.one_line }
  | inr e ↦
      let p = and_parts (is_comment_sign c) (holds_no_line_ending cs) (rw e at h) in
      record { indent = []; sign = c; tail = cs; division = refl; indented = tt; signed = p.0; one_line = HoldsNoLineEnding-from_test cs p.1 }
]

-- Blanks, a comment sign and a text without a line ending pass the test.
divided-is_good : (indent : List ℕ) (sign : ℕ) (tail : List ℕ) → AreBlanks indent → is_comment_sign sign ≡ true → HoldsNoLineEnding tail
    → is_good_prefix (indent ++ (sign ∷ tail)) ≡ true
divided-is_good [] sign tail h m p = grind (arith, sign-full, holds_no_line_ending-from)
divided-is_good (c ∷ indent) sign tail h m p = rw h.0 (divided-is_good indent sign tail h.1 m p)

-- A good prefix passes the test.
pub is_good_prefix-from : (prefix : List ℕ) → IsGoodPrefix prefix → is_good_prefix prefix ≡ true
is_good_prefix-from prefix g = rw g.division (divided-is_good g.indent g.sign g.tail g.indented g.signed g.one_line)

-- What follows the first comment sign is the tail of the division.
tail-divided : (indent : List ℕ) (sign : ℕ) (tail : List ℕ) → AreBlanks indent → is_comment_sign sign ≡ true → tail_of (indent ++ (sign ∷ tail)) ≡ tail
tail-divided [] sign tail h m = rw m
tail-divided (c ∷ indent) sign tail h m = grind (arith, tail-divided indent sign tail h.1 m)

-- What follows the first comment sign is the tail of a good prefix.
pub tail_of-good : (prefix : List ℕ) (g : IsGoodPrefix prefix) → tail_of prefix ≡ g.tail
tail_of-good prefix g = ap tail_of g.division ∙ tail-divided g.indent g.sign g.tail g.indented g.signed

-- ---- separators

-- A separator that passes the test has a sign.
pub IsSignedSeparator-from_test : (separator : List ℕ) → is_signed_separator separator ≡ true → IsSignedSeparator separator
IsSignedSeparator-from_test [] h = cc
IsSignedSeparator-from_test (c ∷ cs) h = elim (cases_Bool (is_blank c)) [
  | inl e ↦
      let g = IsSignedSeparator-from_test cs (rw e at h) in
      record { before = c ∷ g.before; sign = g.sign; after = g.after; division = cc (g.division); blank_before = (e, g.blank_before); signed = g.signed; blank_after = g.blank_after }
  | inr e ↦
      let p = and_parts (is_separator c) (is_blanks cs) (rw e at h) in
      record { before = []; sign = c; after = cs; division = refl; blank_before = tt; signed = p.0; blank_after = AreBlanks-from_test cs p.1 }
]

-- Blanks, a sign and blanks pass the test.
divided-is_signed : (before : List ℕ) (sign : ℕ) (after : List ℕ) → AreBlanks before → is_separator sign ≡ true → AreBlanks after
    → is_signed_separator (before ++ (sign ∷ after)) ≡ true
divided-is_signed [] sign after h m p = grind (arith, separator-full, is_blanks-from)
divided-is_signed (c ∷ before) sign after h m p = rw h.0 (divided-is_signed before sign after h.1 m p)

-- A separator with a sign passes the test.
pub is_signed_separator-from : (separator : List ℕ) → IsSignedSeparator separator → is_signed_separator separator ≡ true
is_signed_separator-from separator g = rw g.division (divided-is_signed g.before g.sign g.after g.blank_before g.signed g.blank_after)

-- A separator that passes the other test is good.
pub IsGoodSeparator-from_test : (separator : List ℕ) → is_good_separator separator ≡ true → IsGoodSeparator separator
IsGoodSeparator-from_test separator h = grind (arith, IsSignedSeparator-from_test, AreBlanks-from_test)

-- A good separator passes the other test.
pub is_good_separator-from : (separator : List ℕ) → IsGoodSeparator separator → is_good_separator separator ≡ true
is_good_separator-from [] (inl g) = is_signed_separator-from [] g
is_good_separator-from [] (inr g) = absurd (g.some refl)
is_good_separator-from (c ∷ cs) (inl g) = or_left (is_signed_separator (c ∷ cs)) (is_blanks (c ∷ cs)) (is_signed_separator-from (c ∷ cs) g)
is_good_separator-from (c ∷ cs) (inr g) = or_right (is_signed_separator (c ∷ cs)) (is_blanks (c ∷ cs)) (is_blanks-from (c ∷ cs) g.blank)
