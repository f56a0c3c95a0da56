-- What a repertoire prints is what is meant in an encoding, in ASCII only, or in what is read alike in ISO 8859-1.
use Rattle.std.proofs.Common.{◌≡◌, refl, ap}
use Rattle.properties_format.specs.Encoding.{Encoding, utf_8, ascii_in, latin_1_in, output_encoding}
use Rattle.properties_format.specs.Printing.{in_key_or_value, encoded_text}
use Rattle.properties_format.proofs.AsciiOnly.{printed_characters-same, printed_characters-ascii, printed_characters-alike, printed_value-alike, printed_key-alike}
use Rattle.properties_format.proofs.Valued.InAscii.{encoded-same, key_bytes-same, value_bytes-same}
use Rattle.properties_text.specs.Encoding.{encoding_of}
use Rattle.properties_text.specs.declared.encoding.Encoding as code
use Rattle.properties_text.specs.declared.encoding.Encoding.TheVariants.{WINDOWS_1252, UTF_8, UTF_16LE, UTF_16BE}
use Rattle.properties_text.specs.declared.print.Repertoire.TheVariants.{Ascii}
use Rattle.properties_editing.specs.Private.Sources.{PrintsIn}

-- That of ASCII prints the same bytes in each encoding.
pub prints-ascii : (e : Encoding) → PrintsIn (ascii_in e) Ascii
prints-ascii e =
    record {
      keys = λ first key. key_bytes-same utf_8 e first key;
      texts = λ text.
          encoded-same utf_8 e _ _ (printed_characters-ascii utf_8 in_key_or_value text) (printed_characters-same utf_8 e in_key_or_value text);
      values = λ after_blanks value. value_bytes-same utf_8 e after_blanks value;
    }

-- In UTF-8, that of ASCII prints what is read alike in ISO 8859-1.
prints-latin_1 : PrintsIn (latin_1_in utf_8) Ascii
prints-latin_1 =
    record {
      keys = λ first key. ap (encoded_text utf_8) (printed_key-alike (ascii_in utf_8) (latin_1_in utf_8) (λ c. refl) refl first key);
      texts = λ text. ap (encoded_text utf_8) (printed_characters-alike (ascii_in utf_8) (latin_1_in utf_8) (λ c. refl) in_key_or_value text);
      values = λ after_blanks value. ap (encoded_text utf_8) (printed_value-alike (ascii_in utf_8) (latin_1_in utf_8) (λ c. refl) after_blanks value);
    }

-- So it does in each encoding but windows-1252, since these are printed in UTF-8.
pub prints-latin_1_in : (e : code.Encoding) → (e ≡ WINDOWS_1252 → ⊥) → PrintsIn (latin_1_in (output_encoding (encoding_of e))) Ascii
prints-latin_1_in WINDOWS_1252 other = absurd (other refl)
prints-latin_1_in UTF_8 other = prints-latin_1
prints-latin_1_in UTF_16LE other = prints-latin_1
prints-latin_1_in UTF_16BE other = prints-latin_1
