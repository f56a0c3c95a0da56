-- The printed pair in a body: it is a group by itself, and its outcome is that pair.
use Rattle.std.proofs.Common.{◌≡◌, ℕ, Bool, true, List, [], ◌∷◌, ◌++◌, refl, ap, ◌∙◌, lit<, subst, arith}
use Rattle.std.specs.Prelude.{All}
use Rattle.std.proofs.lemmas.List.Elements.{recursion_from_All}
use Rattle.properties_format.specs.Text.{scalar, equals_sign}
use Rattle.properties_format.specs.Encoding.{Encoding, output_encoding, Repertoire}
use Rattle.properties_format.specs.Lines.{HoldsNoLineEnding, Line, IsWhole, joined}
use Rattle.properties_format.specs.Items.{pair, given}
use Rattle.properties_format.specs.Computed.Items.{outcome_of}
use Rattle.properties_format.specs.Printing.{in_key_or_value, printed_characters, encoded_text, printed_key}
use Rattle.properties_format.specs.Edited.{is_editable, pair_bytes}
use Rattle.properties_format.proofs.Groups.Logical.{IsNotContinued}
use Rattle.properties_format.proofs.Printing.Characters.{AreEncodable-ascii, printed_characters-encodable, printed_key-encodable}
use Rattle.properties_format.proofs.ReadBack.Texts.{texts-printed}
use Rattle.properties_format.proofs.ReadBack.Pairs.{IsReadAs, key-printed, pair-read}
use Rattle.properties_format.proofs.ReadBack.Lines.{joined-alone}
use Rattle.properties_format.proofs.ReadBack.Bytes.{AreWritable, ascii-scalars, key-scalars, printed_characters-scalars, text-decoded, writable-append}
use Rattle.properties_format.proofs.ReadBack.Law.{default_settings-good}
use Rattle.properties_format.specs.Computed.Cut.{decoded_line}
use Rattle.properties_format.proofs.Body.Decoded.{plain-bytes}

-- the characters of the printed pair
abbrev pub pair_text : Repertoire → Bool → List ℕ → List ℕ → List ℕ
pair_text r first key value = printed_key r first key ++ (equals_sign ∷ printed_characters r in_key_or_value value)

-- Its text is read as the pair.
pair-read_as : (r : Repertoire) (first : Bool) (key value : List ℕ) → All scalar key → All scalar value
    → IsReadAs (pair_text r first key value) (pair key value)
pair-read_as r first key value h k =
    pair-read _ _ _ key value (key-printed r first key (recursion_from_All scalar key h))
    (texts-printed r value (recursion_from_All scalar value k)) default_settings-good.separator (λ q. refl)

-- ---- its bytes decode to its text

-- The characters of a printed pair can be written.
pair-writable : (r : Repertoire) (first : Bool) (key value : List ℕ) → All scalar key → All scalar value → AreWritable r.encoding (pair_text r first key value)
pair-writable r first key value h k =
    let va = printed_characters r in_key_or_value value in
    writable-append r.encoding (printed_key r first key) (equals_sign ∷ va)
    (record { scalars = key-scalars r first key (recursion_from_All scalar key h); encodable = printed_key-encodable r first key })
    (writable-append r.encoding (equals_sign ∷ []) va
    (record { scalars = ascii-scalars (equals_sign ∷ []) (lit< tt, tt); encodable = AreEncodable-ascii r.encoding (equals_sign ∷ []) (lit< tt, tt) })
    (record {
      scalars = printed_characters-scalars r in_key_or_value value (recursion_from_All scalar value k);
      encodable = printed_characters-encodable r in_key_or_value value;
    }))

-- An encoding that can be edited can be written.
pub editable-own : (e : Encoding) → is_editable e ≡ true → output_encoding e ≡ e
editable-own e h = grind (arith)

-- The bytes of the printed pair decode to its characters.
pub pair-decoded : (r : Repertoire) (first : Bool) (key value : List ℕ) → is_editable r.encoding ≡ true → All scalar key → All scalar value
    → decoded_line r.encoding (pair_bytes r first key value) ≡ pair_text r first key value
pair-decoded r first key value ok h k =
    let w = pair-writable r first key value h k in
    let x = pair_text r first key value in
    subst (λ a. decoded_line a (encoded_text r.encoding x) ≡ x) (editable-own r.encoding ok) (text-decoded r.encoding x w.scalars w.encodable)

-- ---- it is a group

-- A comment line, or a line that isn't open, is a whole group by itself.
pub alone-whole : (l : Line) → IsNotContinued l.text → IsWhole (l ∷ [])
alone-whole l h = grind (arith)

-- the line of the printed pair
abbrev pub pair_line : Repertoire → Bool → List ℕ → List ℕ → Line
pair_line r first key value = record { number = 0; text = pair_text r first key value }

-- The line of the printed pair is a whole group.
pub pair-whole : (r : Repertoire) (first : Bool) (key value : List ℕ) → All scalar key → All scalar value → IsWhole (pair_line r first key value ∷ [])
pair-whole r first key value h k = alone-whole (pair_line r first key value) (pair-read_as r first key value h k).alone

-- Its outcome is the pair.
pub pair-outcome : (t : Repertoire) (first : Bool) (key value : List ℕ) → All scalar key → All scalar value
    → outcome_of (joined (pair_line t first key value ∷ [])) ≡ given (pair key value)
pair-outcome t first key value h k =
    let r = pair-read_as t first key value h k in ap outcome_of (joined-alone (pair_line t first key value) r.alone) ∙ r.outcome

-- Its bytes contain no CR and no LF.
pub pair-plain : (r : Repertoire) (first : Bool) (key value : List ℕ) → is_editable r.encoding ≡ true → All scalar key → All scalar value
    → HoldsNoLineEnding (pair_bytes r first key value)
pair-plain r first key value ok h k = plain-bytes r.encoding _ ok (rw (pair-decoded r first key value ok h k) (pair-read_as r first key value h k).plain)
