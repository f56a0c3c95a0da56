-- Reading inverts writing: what a new writer's calls wrote is read back as one item per line.
use Rattle.std.proofs.Common.{◌≡◌, List, [], ◌∷◌, refl, ap, ◌∙◌, lit<, inl, subst}
use Rattle.std.proofs.lemmas.List.Elements.{All-from_recursion}
use Rattle.properties_format.specs.Text.{scalar, number_sign, space}
use Rattle.properties_format.specs.Encoding.{Encoding, windows_1252, output_encoding, piece_characters}
use Rattle.properties_format.specs.Computed.Encoding.{pieces_of, decoded_of}
use Rattle.properties_format.specs.Lines.{end, line_endings}
use Rattle.properties_format.specs.Computed.Lines.{lines_of}
use Rattle.properties_format.specs.Items.{IsItems}
use Rattle.properties_format.specs.Computed.Items.{items_of_lines, items_of}
use Rattle.properties_format.specs.Settings.{Settings, default_settings}
use Rattle.properties_format.specs.Printing.{encoded_text}
use Rattle.properties_format.specs.Writing.{Call, wrote, items_read_back, ArePrefixesClean, AreOfScalars, AreGoodSettings}
use Rattle.properties_format.proofs.Encodings.ByteOrderMarks.{decoded_of-unmarked}
use Rattle.properties_format.proofs.Items.Unique.{items_of-meets}
use Rattle.properties_format.proofs.Settings.Tests.{IsGoodPrefix-from_test, IsGoodSeparator-from_test}
use Rattle.properties_format.proofs.ReadBack.Lines.{wrote_text, wrote-text, text-read}
use Rattle.properties_format.proofs.ReadBack.Bytes.{text-decoded, wrote_text-writable}
use Rattle.properties_format.proofs.ReadBack.Unmarked.{wrote_text-unmarked}

-- the settings of a new writer are good
pub default_settings-good : AreGoodSettings default_settings
default_settings-good =
    record {
      prefix = IsGoodPrefix-from_test (number_sign ∷ space ∷ []) refl;
      scalars = All-from_recursion scalar (number_sign ∷ space ∷ []) (inl (lit< tt), (inl (lit< tt), tt));
      separator = IsGoodSeparator-from_test default_settings.kv_separator refl;
    }

-- An output encoding is its own output encoding.
pub output_encoding-own : (e : Encoding) → output_encoding (output_encoding e) ≡ output_encoding e
output_encoding-own windows_1252 = refl
output_encoding-own e = refl

-- In an encoding that can be written, the bytes that are written decode to what was printed.
pub wrote-decoded : (e : Encoding) (s : Settings) (calls : List Call) → output_encoding e ≡ e → AreGoodSettings s → AreOfScalars calls
    → decoded_of e (wrote e s 0 calls) ≡ wrote_text e s 0 calls
wrote-decoded e s calls own g h =
    let x = wrote_text e s 0 calls in
    let w = wrote_text-writable e s 0 calls g h in
    ap (decoded_of e) (wrote-text e s 0 calls)
    ∙ decoded_of-unmarked e (encoded_text e x) (wrote_text-unmarked e s calls g h)
    ∙ subst (λ a. piece_characters (pieces_of a (encoded_text e x)) ≡ x) own (text-decoded e x w.scalars w.encodable)

-- Starting with good settings and no lines, what a writer's calls wrote has the items that they wrote.
pub items_of-wrote : (e : Encoding) (s : Settings) (calls : List Call) → output_encoding e ≡ e → AreGoodSettings s → ArePrefixesClean s calls
    → AreOfScalars calls → items_of e (wrote e s 0 calls) end ≡ items_read_back s 0 calls
unfolding items_of
items_of-wrote e s calls own g c h =
    ap (λ x. items_of_lines (lines_of x) end) (wrote-decoded e s calls own g h) ∙ (text-read e (line_endings (lines_of (wrote_text e s 0 calls))) s 0 calls g c h).read

-- What the calls wrote has these items by the definition of items.
pub IsItems-wrote : (e : Encoding) (s : Settings) (calls : List Call) → output_encoding e ≡ e → AreGoodSettings s → ArePrefixesClean s calls
    → AreOfScalars calls → IsItems e (wrote e s 0 calls) end (items_read_back s 0 calls)
IsItems-wrote e s calls own g c h = subst (IsItems e (wrote e s 0 calls) end) (items_of-wrote e s calls own g c h) (items_of-meets e (wrote e s 0 calls) end)
