-- Tests of prefixes and separators.
use Rattle.std.specs.Prelude.{ℕ, ◌&&◌, ◌||◌, not, Bool, true, false, if◌then◌else◌, List, [], ◌∷◌}
use Rattle.properties_format.specs.Text.{is_blank, is_blanks, is_line_ending, is_comment_sign, is_separator}

-- whether the text contains no line ending
abbrev pub holds_no_line_ending : List ℕ → Bool
holds_no_line_ending [] = true
holds_no_line_ending (c ∷ cs) = not (is_line_ending c) && holds_no_line_ending cs

-- whether a prefix is good
abbrev pub is_good_prefix : List ℕ → Bool
is_good_prefix [] = false
is_good_prefix (c ∷ cs) = if is_blank c then is_good_prefix cs else is_comment_sign c && holds_no_line_ending cs

-- whether a separator is good with a sign, and whether it is good
abbrev pub is_signed_separator : List ℕ → Bool
is_signed_separator [] = false
is_signed_separator (c ∷ cs) = if is_blank c then is_signed_separator cs else is_separator c && is_blanks cs

abbrev pub is_good_separator : List ℕ → Bool
is_good_separator [] = false
is_good_separator (c ∷ cs) = is_signed_separator (c ∷ cs) || is_blanks (c ∷ cs)
