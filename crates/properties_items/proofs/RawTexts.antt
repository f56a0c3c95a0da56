-- Texts that are written as they are: line endings and separators.
use Rattle.std.proofs.Common.{◌≡◌, ℕ, true, List, [], ◌∷◌, refl, ap, sym, ◌∙◌}
use Rattle.std.specs.Str.{chars, IsUtf8}
use Rattle.properties_format.specs.Text.{LineEnding, line_ending_text}
use Rattle.properties_format.specs.Encoding.{Encoding}
use Rattle.properties_format.specs.Computed.Settings.{is_good_separator}
use Rattle.properties_format.specs.Printing.{encoded_text}
use Rattle.properties_format.proofs.Printing.Characters.{line_ending-ascii, good_separator-ascii}
use Rattle.properties_format.proofs.Settings.Tests.{IsGoodSeparator-from_test}
use Rattle.properties_text.proofs.Printing.Characters.{encoded_text-raw}

-- CR, LF and both are their own characters
pub ending_chars : (chars (13 ∷ []) ≡ 13 ∷ []) × (chars (10 ∷ []) ≡ 10 ∷ []) × (chars (13 ∷ 10 ∷ []) ≡ 13 ∷ 10 ∷ [])
unfolding chars
ending_chars = (refl, refl, refl)

-- the bytes of a line ending are its characters, encoded
pub line_ending-bytes : (e : Encoding) (bs : List ℕ) (by : LineEnding) → IsUtf8 bs → chars bs ≡ line_ending_text by → bs ≡ encoded_text e (line_ending_text by)
line_ending-bytes e bs by u h = sym (encoded_text-raw e bs u (rw h (line_ending-ascii by))) ∙ ap (encoded_text e) h

-- and so are those of a separator
pub separator-bytes : (e : Encoding) (bs separator : List ℕ) → IsUtf8 bs → chars bs ≡ separator → is_good_separator (chars bs) ≡ true → bs ≡ encoded_text e separator
separator-bytes e bs separator u h good = sym (encoded_text-raw e bs u (good_separator-ascii (chars bs) (IsGoodSeparator-from_test (chars bs) good))) ∙ ap (encoded_text e) h
