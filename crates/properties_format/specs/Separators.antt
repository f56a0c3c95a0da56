-- The separators of Spring Boot's documents among comment lines that directly follow each other.
-- Source: the reference documentation of Spring Boot 2.4 and later, "Externalized Configuration", on multi-document files:
-- `#---` or `!---`, with nothing before it and no comment of the same sign directly above or below it.
use Rattle.std.specs.Prelude.{◌≡◌, ◌⊎◌, ℕ, ◌==◌, ◌&&◌, Bool, true, false, List, [], ◌∷◌, ◌++◌, get_or, if◌then◌else◌, reverse}
use Rattle.properties_format.specs.Text.{is_blanks, is_comment_sign, without_leading_blanks}

-- whether a line has the shape of a separator: a comment sign, three hyphens, and only blanks after them
abbrev pub has_shape : List ℕ → Bool
has_shape (sign ∷ a ∷ b ∷ c ∷ after) = is_comment_sign sign && (a == 0x2d && (b == 0x2d && (c == 0x2d && is_blanks after)))
has_shape line = false

-- the sign of a comment line: its first character that isn't a blank
abbrev pub sign_of : List ℕ → ℕ
sign_of line = get_or (without_leading_blanks line) 0 0

-- whether the lines with this sign at the front of these all have the shape
abbrev pub are_shaped : ℕ → List (List ℕ) → Bool
are_shaped sign [] = true
are_shaped sign (x ∷ xs) = if sign_of x == sign then has_shape x && are_shaped sign xs else true

-- the sign of the last line; 0 if there is none
abbrev pub last_sign : List (List ℕ) → ℕ
last_sign lines = sign_of (get_or (reverse lines) 0 [])

-- whether the last of the lines above is a separator, given those below: the lines with its sign that directly follow each
-- other with it all have the shape
abbrev pub ends_shaped : List (List ℕ) → List (List ℕ) → Bool
ends_shaped [] below = false
ends_shaped (x ∷ upwards) below = are_shaped (sign_of x) (x ∷ upwards) && are_shaped (sign_of x) below

abbrev pub ends_separated : List (List ℕ) → List (List ℕ) → Bool
ends_separated above below = ends_shaped (reverse above) below

-- Comment lines that directly follow each other: those up to the last separator, which are none if no line is one, and
-- those below it.
pub record AreSeparated (above below : List (List ℕ)) : Type 0 where
  pub last : (above ≡ []) ⊎ (ends_separated above below ≡ true)
  pub none_below : (line : List ℕ) (lines rest : List (List ℕ)) → below ≡ line ∷ (lines ++ rest) → ends_separated (above ++ line ∷ lines) rest ≡ false
