-- What a text means, computed from its first character.
use Rattle.std.specs.Prelude.{◌==◌, ◌&&◌, ℕ, zero, suc, pred, length, if◌then◌else◌, List, [], ◌∷◌, Option, Some, None}
use Rattle.properties_format.specs.Escapes.{Four, are_hexadecimal, code_unit, Malformed, not_enough_digits, letter_u, Spelling, itself, escaped, unicode, surrogates, last, spelling_text, spelling_character, malformed_by, Meaning, means, breaks}
use Rattle.properties_format.specs.Utf16.{is_high, is_low}
use Rattle.properties_format.specs.Text.{backslash}

-- the spelling of a high surrogate, given the text after its escape: the two escapes, if that text begins with the
-- escape of a low surrogate
abbrev pub with_low : Four → List ℕ → Option Spelling
with_low high (x ∷ y ∷ a ∷ b ∷ c ∷ d ∷ rest) =
    let low : Four = record { first = a; second = b; third = c; fourth = d } in
    if (x == backslash && y == letter_u) && (are_hexadecimal low && is_low (code_unit low)) then Some (surrogates high low) else None
with_low high _ = None

-- the spelling whose first `\u` has these four digits, given the text after them
abbrev pub with_digits : Four → List ℕ → Option Spelling
with_digits d rest =
    if are_hexadecimal d then (if is_high (code_unit d) then with_low d rest else (if is_low (code_unit d) then None else Some (unicode d)))
    else None

-- the spelling that a `\u` begins, given the text after it
abbrev pub after_u : List ℕ → Option Spelling
after_u (a ∷ b ∷ c ∷ d ∷ rest) = with_digits record { first = a; second = b; third = c; fourth = d } rest
after_u _ = None

-- the spelling that a backslash begins, given the text after it
abbrev pub after_backslash : List ℕ → Option Spelling
after_backslash [] = Some last
after_backslash (c ∷ cs) = if c == letter_u then after_u cs else Some (escaped c)

-- the spelling that a character and the text after it begin with
abbrev pub first_spelling : ℕ → List ℕ → Option Spelling
first_spelling c cs = if c == backslash then after_backslash cs else Some (itself c)

-- the meaning with one more character at the front
abbrev pub in_front : ℕ → Meaning → Meaning
in_front c (means x) = means (c ∷ x)
in_front c (breaks kind) = breaks kind

-- the meaning with one more text at the front
abbrev pub text_in_front : List ℕ → Meaning → Meaning
text_in_front [] m = m
text_in_front (c ∷ cs) m = in_front c (text_in_front cs m)

-- how a text is malformed that begins with a `\u` and no spelling
abbrev pub fault_of : List ℕ → Malformed
fault_of [] = not_enough_digits
fault_of (u ∷ after) = malformed_by after

-- the meaning of the text without its first n characters, which belong to a spelling that was read
abbrev pub meaning_past : List ℕ → ℕ → Meaning
meaning_past [] skipped = means []
meaning_past (c ∷ cs) (suc skipped) = meaning_past cs skipped
meaning_past (c ∷ cs) zero = elim (first_spelling c cs) [
  | None ↦ breaks (fault_of cs)
  | Some p ↦ in_front (spelling_character p) (meaning_past cs (pred (length (spelling_text p))))
]

-- the meaning of the text
unfoldable pub meaning_of : List ℕ → Meaning
meaning_of text = meaning_past text 0
