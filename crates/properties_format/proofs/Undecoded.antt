-- What looks at no non-ASCII character sees the same in bytes of windows-1252 and in their characters.
use Rattle.std.proofs.Common.{rules, ◌≡◌, ℕ, suc, ◌<◌, ◌≤◌, ◌==◌, ◌%◌, Bool, true, false, List, [], ◌∷◌, length, reverse, refl, ap, ◌∙◌, inl, inr, arith}
use Rattle.std.proofs.lemmas.Bool.{cases_Bool}
use mathlib.Core.List.{reverse_aux}
use Rattle.properties_format.specs.Text.{backslash, is_blank, is_separator, is_comment_sign, without_leading_blanks, piece_characters, begins}
use Rattle.properties_format.specs.Windows1252.{windows_1252_character}
use Rattle.properties_format.specs.Lines.{leading_backslashes, ending_backslashes, is_open, is_comment_line, without_last, without_open_backslash, addition}
use Rattle.properties_format.specs.Split.{comment, pair, Logical, blank}
use Rattle.properties_format.specs.Encoding.{windows_1252}
use Rattle.properties_format.specs.Computed.Encoding.{pieces_within, pieces_of}
use Rattle.properties_format.specs.Computed.Cut.{decoded_line, windows_1252_characters}
use Rattle.properties_format.specs.Computed.Split.{without_trailing_blanks, unless_last_blank, trimmed, KeyCut, with_front, cut_key, past_separator, pair_of, split_full, split_of}
use Rattle.properties_format.proofs.Encodings.Windows1252.{windows_1252-ascii}

-- ---- one character

-- a byte is this character of ASCII, or not, as its character is
pub same : (k : ℕ) → k < 0x80 → (b : ℕ) → (windows_1252_character b == k) ≡ (b == k)
same k s b = search (rules, windows_1252-ascii)

pub same-backslash : (b : ℕ) → (windows_1252_character b == backslash) ≡ (b == backslash)
same-backslash = same backslash (omega arith)

pub same-blank : (b : ℕ) → is_blank (windows_1252_character b) ≡ is_blank b
same-blank b = rw (same 0x20 (omega arith) b, same 0x09 (omega arith) b, same 0x0c (omega arith) b) refl

pub same-separator : (b : ℕ) → is_separator (windows_1252_character b) ≡ is_separator b
same-separator b = rw (same 0x3d (omega arith) b, same 0x3a (omega arith) b) refl

pub same-comment_sign : (b : ℕ) → is_comment_sign (windows_1252_character b) ≡ is_comment_sign b
same-comment_sign b = rw (same 0x23 (omega arith) b, same 0x21 (omega arith) b) refl

-- ---- decoding

within : (n : ℕ) (d : List ℕ) → length d ≤ n → piece_characters (pieces_within windows_1252 n d) ≡ windows_1252_characters d
within (suc n) (b ∷ d) h = ap (λ v. windows_1252_character b ∷ v) (within n d (omega arith))
within n d h1 = grind (arith)

pub decodes : (d : List ℕ) → decoded_line windows_1252 d ≡ windows_1252_characters d
unfolding pieces_of
decodes d = within (length d) d (omega arith)

-- ---- blanks

pub leading-blanks : (d : List ℕ) → without_leading_blanks (windows_1252_characters d) ≡ windows_1252_characters (without_leading_blanks d)
leading-blanks [] = refl
leading-blanks (b ∷ d) = grind (arith, same-blank, leading-blanks d)

trailing-blanks : (d : List ℕ) → without_trailing_blanks (windows_1252_characters d) ≡ windows_1252_characters (without_trailing_blanks d)
trailing-blanks [] = refl
trailing-blanks (b ∷ d) = ap (unless_last_blank (windows_1252_character b)) (trailing-blanks d) ∙ search (rules, same-blank)

trims : (d : List ℕ) → trimmed (windows_1252_characters d) ≡ windows_1252_characters (trimmed d)
trims d = ap without_trailing_blanks (leading-blanks d) ∙ trailing-blanks (without_leading_blanks d)

-- ---- open lines

leading : (d : List ℕ) → leading_backslashes (windows_1252_characters d) ≡ leading_backslashes d
leading [] = refl
leading (b ∷ d) = simp (same-backslash, leading d)

reversed-onto : (d y : List ℕ) → reverse_aux (windows_1252_characters d) (windows_1252_characters y) ≡ windows_1252_characters (reverse_aux d y)
reversed-onto [] y = refl
reversed-onto (b ∷ d) y = reversed-onto d (b ∷ y)

pub ending : (d : List ℕ) → ending_backslashes (windows_1252_characters d) ≡ ending_backslashes d
ending d = ap leading_backslashes (reversed-onto d []) ∙ leading (reverse d)

pub opens : (d : List ℕ) → is_open (windows_1252_characters d) ≡ is_open d
opens d = ap (λ n. n % 2 == 1) (ending d)

pub comments : (d : List ℕ) → is_comment_line (windows_1252_characters d) ≡ is_comment_line d
comments d = ap (begins is_comment_sign) (leading-blanks d) ∙ search (rules, same-comment_sign)

last-off : (d : List ℕ) → without_last (windows_1252_characters d) ≡ windows_1252_characters (without_last d)
last-off (b ∷ c ∷ d) = ap (λ v. windows_1252_character b ∷ v) (last-off (c ∷ d))
last-off d = refl

pub closed : (d : List ℕ) → without_open_backslash (windows_1252_characters d) ≡ windows_1252_characters (without_open_backslash d)
closed d = grind (arith, opens, last-off)

pub adds : (d : List ℕ) → addition (windows_1252_characters d) ≡ windows_1252_characters (addition d)
adds d = ap without_open_backslash (leading-blanks d) ∙ closed (without_leading_blanks d)

-- ---- splitting

-- what bytes are split into, as text
abbrev pub in_text : Logical → Logical
in_text blank = blank
in_text (comment text) = comment (windows_1252_characters text)
in_text (pair key value) = pair (windows_1252_characters key) (windows_1252_characters value)

cut_text : KeyCut → KeyCut
cut_text cut = record { key = windows_1252_characters cut.key; rest = windows_1252_characters cut.rest }

cuts : (d : List ℕ) (is_escaped : Bool) → cut_key (windows_1252_characters d) is_escaped ≡ cut_text (cut_key d is_escaped)
unfolding cut_text
cuts [] is_escaped = refl
cuts (b ∷ d) true = ap (with_front (windows_1252_character b)) (cuts d false)
cuts (b ∷ d) false = search (rules, same-backslash, cuts d true, cuts d false, same-blank, same-separator)

pairs : (c : KeyCut) → pair_of (cut_text c) ≡ in_text (pair_of c)
unfolding cut_text
pairs c = ap (pair (windows_1252_characters c.key)) (ap past_separator (leading-blanks c.rest) ∙ search (rules, same-separator, leading-blanks))

full : (d : List ℕ) → split_full (windows_1252_characters d) ≡ in_text (split_full d)
full [] = refl
full (b ∷ d) = elim (cases_Bool (is_comment_sign b)) [
  | inl t ↦ rw (same-comment_sign b, t) (ap comment (trims d))
  | inr f ↦ rw (same-comment_sign b, f) (ap pair_of (cuts (b ∷ d) false) ∙ pairs (cut_key (b ∷ d) false))
]

pub splits : (d : List ℕ) → split_of (windows_1252_characters d) ≡ in_text (split_of d)
unfolding split_of
splits d = ap split_full (leading-blanks d) ∙ full (without_leading_blanks d)
