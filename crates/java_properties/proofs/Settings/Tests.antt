-- The tests of settings, character by character.
use Rattle.std.proofs.Common.{◌≡◌, ℕ, ◌||◌, ◌&&◌, not, Bool, true, false, List, [], ◌∷◌, ◌++◌, length, refl, ap, sym, ◌∙◌}
use Rattle.std.proofs.Math.Bool.{or-false, and-true}
use Rattle.std.specs.Prelude.{encode_utf8}
use Rattle.std.specs.Str.{IsUtf8, chars}
use Rattle.std.proofs.lemmas.Str.{chars_past_char}
use Rattle.std.proofs.StrCases.{chars_of_empty}
use Rattle.properties_format.specs.Text.{is_blank, is_blanks, is_separator, is_empty}
use Rattle.properties_format.specs.Computed.Settings.{holds_no_line_ending, is_good_prefix, is_signed_separator}
use Rattle.properties_format.proofs.Split.Unique.{separator-full}
use Rattle.properties_text.proofs.Texts.Characters.{is_empty-chars}
use Rattle.properties_format.proofs.Settings.Tests.{is_good_prefix-from, IsGoodPrefix-from_test, is_good_separator-from, IsGoodSeparator-from_test}

-- what a test says of the characters is what it says of the first and of the others
pub past_first : (test : List ℕ → Bool) (whole last : Bool) (bs rest : List ℕ) (c : ℕ) → IsUtf8 bs → bs ≡ encode_utf8 c ++ rest
    → whole ≡ test (chars bs) → test (c ∷ chars rest) ≡ last → whole ≡ last
past_first test whole last bs rest c u e h k = h ∙ ap test (chars_past_char bs rest c u e) ∙ k

pub past_last : (test : List ℕ → Bool) (whole last : Bool) (bs : List ℕ) → length bs ≡ 0 → whole ≡ test (chars bs) → test [] ≡ last → last ≡ whole
past_last test whole last bs e h k = sym (h ∙ ap test (chars_of_empty bs e) ∙ k)

-- ---- prefixes

-- what is still to hold of a prefix, past its sign or before it
abbrev pub prefix_left : Bool → List ℕ → Bool
prefix_left true cs = holds_no_line_ending cs
prefix_left false cs = is_good_prefix cs

pub prefix_left-end : (signed : Bool) → prefix_left signed [] ≡ signed
prefix_left-end true = refl
prefix_left-end false = refl

-- ---- separators

-- what is still to hold of a separator that isn't empty, past its sign or before it
abbrev pub separator_left : Bool → List ℕ → Bool
separator_left true cs = is_blanks cs
separator_left false cs = is_signed_separator cs || is_blanks cs

-- a text holds some character
abbrev pub holds_some : List ℕ → Bool
holds_some cs = not (is_empty cs)

pub separator_left-end : (signed : Bool) → separator_left signed [] ≡ true
separator_left-end true = refl
separator_left-end false = refl

pub separator_left-sign : (c : ℕ) (cs : List ℕ) → is_separator c ≡ true → separator_left false (c ∷ cs) ≡ separator_left true cs
separator_left-sign c cs e = rw (separator-full c e, e) (or-false (is_blanks cs))

pub separator_left-blank : (signed : Bool) (c : ℕ) (cs : List ℕ) → is_blank c ≡ true → separator_left signed (c ∷ cs) ≡ separator_left signed cs
separator_left-blank true c cs e = rw e
separator_left-blank false c cs e = rw e

-- neither a blank nor the first sign
pub separator_left-other : (signed : Bool) (c : ℕ) (cs : List ℕ) → (is_separator c && not signed) ≡ false → is_blank c ≡ false
    → separator_left signed (c ∷ cs) ≡ false
separator_left-other true c cs s e = rw e
separator_left-other false c cs s e = let t = sym (and-true (is_separator c)) ∙ s in rw (e, t)

pub ruleset emptiness = (is_empty-chars)

pub ruleset prefixes = (is_good_prefix-from, IsGoodPrefix-from_test)

pub ruleset separators = (is_good_separator-from, IsGoodSeparator-from_test)
