-- What a logical line is, computed from its first character.
use Rattle.std.specs.Prelude.{◌==◌, ℕ, Bool, true, false, if◌then◌else◌, List, [], ◌∷◌}
use Rattle.properties_format.specs.Text.{backslash, is_blank, is_comment_sign, is_separator, without_leading_blanks}
use Rattle.properties_format.specs.Split.{Logical, blank, comment, pair}

-- the text with this character at the front, unless the character is a blank and the text is empty
abbrev pub unless_last_blank : ℕ → List ℕ → List ℕ
unless_last_blank c [] = if is_blank c then [] else c ∷ []
unless_last_blank c (d ∷ ds) = c ∷ d ∷ ds

-- the text without the blanks at its end
abbrev pub without_trailing_blanks : List ℕ → List ℕ
without_trailing_blanks [] = []
without_trailing_blanks (c ∷ cs) = unless_last_blank c (without_trailing_blanks cs)

-- the text without the blanks at both ends
abbrev pub trimmed : List ℕ → List ℕ
trimmed x = without_trailing_blanks (without_leading_blanks x)

-- a key, and the text after it
pub record KeyCut : Type 0 where
  pub key : List ℕ
  pub rest : List ℕ

-- the key with one more character at the front
abbrev pub with_front : ℕ → KeyCut → KeyCut
with_front c cut = record { key = c ∷ cut.key; rest = cut.rest }

-- whether the character ends a key unless a backslash comes before it
abbrev pub ends_key : ℕ → Bool
ends_key c = if is_blank c then true else is_separator c

-- the text, divided where its key ends; the flag says whether an unescaped backslash comes before the text
abbrev pub cut_key : List ℕ → Bool → KeyCut
cut_key [] is_escaped = record { key = []; rest = [] }
cut_key (c ∷ cs) true = with_front c (cut_key cs false)
cut_key (c ∷ cs) false =
    if c == backslash then with_front c (cut_key cs true)
    else (if ends_key c then record { key = []; rest = c ∷ cs } else with_front c (cut_key cs false))

-- the text after a separator at its front, if there is one, and after the blanks that follow the separator
abbrev pub past_separator : List ℕ → List ℕ
past_separator [] = []
past_separator (c ∷ cs) = if is_separator c then without_leading_blanks cs else c ∷ cs

-- the pair, given the key and the text after it
abbrev pub pair_of : KeyCut → Logical
pair_of cut = pair cut.key (past_separator (without_leading_blanks cut.rest))

-- what a line is that doesn't begin with a blank
abbrev pub split_full : List ℕ → Logical
split_full [] = blank
split_full (c ∷ cs) = if is_comment_sign c then comment (trimmed cs) else pair_of (cut_key (c ∷ cs) false)

-- what the line is
unfoldable pub split_of : List ℕ → Logical
split_of line = split_full (without_leading_blanks line)
