-- The first malformed escape of a text, with its position.
use Rattle.std.specs.Prelude.{◌≡◌, ◌≤◌, ℕ, List, ◌∷◌, length, drop, Option, Some, None}
use Rattle.properties_format.specs.Text.{backslash}
use Rattle.properties_format.specs.Escapes as format
use Rattle.properties_format.specs.Escapes.{letter_u, Spelling, AreSpellings, spellings_before, NoSpelling, malformed_by, means}
use Rattle.properties_format.specs.Computed.Escapes.{meaning_of}
use Rattle.properties_text.specs.Escaping.{IsWell, malformed_in, text_in}
use Rattle.properties_text.specs.declared.encoding.line_encoding.LineEncoding.{LineEncoding}
use Rattle.properties_text.specs.declared.escape.Malformed.{Malformed}

-- The text before this position is a concatenation of spellings. A `\u` follows that begins no spelling.
pub record IsMalformedAt (e : LineEncoding) (bytes : List ℕ) (at : ℕ) (kind : format.Malformed) : Type 0 where
  pub within : at ≤ length bytes
  pub well : IsWell e (drop at bytes)
  pub spellings : List Spelling
  pub after : List ℕ
  pub whole : text_in e bytes ≡ spellings_before spellings (text_in e (drop at bytes))
  pub each : AreSpellings spellings (text_in e (drop at bytes))
  pub begins : text_in e (drop at bytes) ≡ backslash ∷ letter_u ∷ after
  pub no_spelling : NoSpelling (backslash ∷ letter_u ∷ after)
  pub fault : kind ≡ malformed_by after

-- This is the first malformed escape; or there is none, and the text means another.
abbrev pub FindsMalformed : LineEncoding → List ℕ → Option (ℕ × Malformed) → Type 0
FindsMalformed e bytes None = (meant : List ℕ) × (meaning_of (text_in e bytes) ≡ means meant)
FindsMalformed e bytes (Some (at, how)) = IsMalformedAt e bytes at (malformed_in how)
