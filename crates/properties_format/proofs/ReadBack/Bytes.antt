-- The bytes that are written decode to what was printed.
use Rattle.std.proofs.Common.{rules, ◌≡◌, ℕ, ◌+◌, ◌==◌, ◌&&◌, Bool, true, false, if◌then◌else◌, List, [], ◌∷◌, ◌++◌, ap, ◌∙◌, inl, arith}
use Rattle.std.specs.Prelude.{Some, None, All}
use Rattle.std.specs.List.{AllByRecursion}
use Rattle.std.proofs.lemmas.List.Elements.{recursion_from_All}
use Rattle.std.proofs.lemmas.Bool.{cond_both}
use Rattle.properties_format.specs.Text.{scalar, line_ending_text}
use Rattle.properties_format.specs.Encoding.{Encoding, output_encoding, piece_characters, Repertoire}
use Rattle.properties_format.specs.Settings.{repertoire_of, Settings}
use Rattle.properties_format.specs.Computed.Encoding.{pieces_of}
use Rattle.properties_format.specs.Items.{Content, comment, pair}
use Rattle.properties_format.specs.Printing.{Place, in_key_or_value, printed_character, printed_characters, encoded_text, is_bom_like, with_first_escaped, printed_key, is_free, printed_inside, printed_first, printed_rest, printed_value, written_value, printed_text}
use Rattle.properties_format.specs.Writing.{Call, comment_call, pair_call, settings_after_call, written_line, lines_with, AreOfScalars, AreGoodSettings}
use Rattle.properties_format.proofs.Encodings.Pieces.{pieces_of-nil}
use Rattle.properties_format.proofs.Encodings.Characters.{pieces_of-encoded}
use Rattle.properties_format.proofs.Printing.Characters.{AreEncodable, AreEncodable-append, AreAscii, line_ending-ascii, unicode_escape-ascii, good_separator-ascii, printed-either, printed_text-encodable, AreEncodable-ascii, printed-encodable, free-plain}
use Rattle.properties_format.proofs.ReadBack.Lines.{line_text, wrote_text, settings_after_call-good}

-- ---- what can be encoded decodes to itself

-- a text that can be encoded is decoded from its bytes
pub text-decoded : (e : Encoding) (x : List ℕ) → AllByRecursion scalar x → AreEncodable e x → piece_characters (pieces_of (output_encoding e) (encoded_text e x)) ≡ x
text-decoded e [] h k = ap piece_characters (pieces_of-nil (output_encoding e))
text-decoded e (c ∷ x) h k = search (rules, pieces_of-encoded) ∙ ap (λ v. c ∷ v) (text-decoded e x h.1 k.1)

-- ---- what is printed consists of scalar values

-- Two texts of scalar values together.
pub scalars-append : (x y : List ℕ) → AllByRecursion scalar x → AllByRecursion scalar y → AllByRecursion scalar (x ++ y)
scalars-append [] y h k = k
scalars-append (c ∷ x) y h k = (h.0, scalars-append x y h.1 k)

-- An ASCII text consists of scalar values.
pub ascii-scalars : (x : List ℕ) → AreAscii x → AllByRecursion scalar x
ascii-scalars [] h = tt
ascii-scalars (c ∷ x) h = (inl (let b = h.0 in omega arith), ascii-scalars x h.1)

-- What is printed for a text of scalar values consists of scalar values.
pub printed_characters-scalars : (r : Repertoire) (place : Place) (x : List ℕ) → AllByRecursion scalar x → AllByRecursion scalar (printed_characters r place x)
printed_characters-scalars r place [] h = tt
printed_characters-scalars r place (c ∷ x) h =
    scalars-append (printed_character r place c) (printed_characters r place x)
    (printed-either r place c (AllByRecursion scalar) ascii-scalars (λ k. (h.0, tt))) (printed_characters-scalars r place x h.1)

-- A key of scalar values with its first character escaped consists of scalar values.
with_first_escaped-scalars : (r : Repertoire) (key : List ℕ) → AllByRecursion scalar key → AllByRecursion scalar (with_first_escaped r key)
with_first_escaped-scalars r key h = grind (arith, scalars-append, ascii-scalars, unicode_escape-ascii, printed_characters-scalars)

-- Any printed key of scalar values consists of scalar values.
pub key-scalars : (r : Repertoire) (first : Bool) (key : List ℕ) → AllByRecursion scalar key → AllByRecursion scalar (printed_key r first key)
key-scalars r first key h =
    cond_both (first && is_bom_like r key) (with_first_escaped r key) (printed_characters r in_key_or_value key)
    (AllByRecursion scalar) (λ k. with_first_escaped-scalars r key h) (λ k. printed_characters-scalars r in_key_or_value key h)

-- ---- texts that can be written

-- A writable text: it consists of scalar values that can be encoded.
pub record AreWritable (e : Encoding) (x : List ℕ) : Type 0 where
  pub scalars : AllByRecursion scalar x
  pub encodable : AreEncodable e x

-- Two writable texts together are writable.
pub writable-append : (e : Encoding) (x y : List ℕ) → AreWritable e x → AreWritable e y → AreWritable e (x ++ y)
writable-append e x y h k = record { scalars = scalars-append x y h.scalars k.scalars; encodable = AreEncodable-append e x y h.encodable k.encodable }

-- An ASCII text can be written.
pub ascii-writable : (e : Encoding) (x : List ℕ) → AreAscii x → AreWritable e x
ascii-writable e x h = record { scalars = ascii-scalars x h; encodable = AreEncodable-ascii e x h }

-- A character inside a value can be written.
inside-writable : (r : Repertoire) (c : ℕ) → scalar c → AreWritable r.encoding (printed_inside r c)
inside-writable r c h =
    cond_both (is_free c) (c ∷ []) _ (AreWritable r.encoding) (λ k. ascii-writable r.encoding (c ∷ []) ((free-plain c k).2, tt))
    (λ k. record { scalars = printed-either r in_key_or_value c _ ascii-scalars (λ m. (h, tt)); encodable = printed-encodable r in_key_or_value c })

-- A character at the front of a value can be written.
first-writable : (r : Repertoire) (after_blanks : Bool) (c : ℕ) → scalar c → AreWritable r.encoding (printed_first r after_blanks c)
first-writable r after_blanks c h = search (rules, inside-writable)

-- The characters after the first can be written.
rest-writable : (r : Repertoire) (cs : List ℕ) → AllByRecursion scalar cs → AreWritable r.encoding (printed_rest r cs)
rest-writable r [] h = ascii-writable r.encoding [] tt
rest-writable r (c ∷ []) h = search (rules, cond_both, inside-writable)
rest-writable r (c ∷ d ∷ cs) h = grind (arith, writable-append, inside-writable, rest-writable r (d ∷ cs) h.1)

-- What is printed for a value of scalar values can be written.
pub value-writable : (r : Repertoire) (after_blanks : Bool) (value : List ℕ) → AllByRecursion scalar value
    → AreWritable r.encoding (printed_value r after_blanks value)
value-writable r after_blanks value h = grind (arith, writable-append, first-writable, rest-writable)

-- A value of scalar values is printed as scalar values, readable or not.
written_value-scalars : (e : Encoding) (s : Settings) (value : List ℕ) → AllByRecursion scalar value → AllByRecursion scalar (written_value e s value)
written_value-scalars e s value h = grind (arith, cond_both, value-writable, printed_characters-scalars)

-- the texts of a line consist of scalar values
abbrev pub ContentScalars : Content → Type 0
ContentScalars (comment text) = All scalar text
ContentScalars (pair key value) = All scalar key × All scalar value

-- Under good settings, a line of scalar values is printed as scalar values.
printed-scalars : (e : Encoding) (s : Settings) (first : Bool) (line : Content) → AreGoodSettings s → ContentScalars line
    → AllByRecursion scalar (printed_text e s first line)
printed-scalars e s first (comment text) g h = grind (arith, scalars-append, printed_characters-scalars, recursion_from_All)
printed-scalars e s first (pair key value) g h =
    scalars-append (printed_key (repertoire_of e s) first key)
    (s.kv_separator ++ (written_value e s value ++ line_ending_text s.line_ending))
    (key-scalars (repertoire_of e s) first key (recursion_from_All scalar key h.0))
    (scalars-append s.kv_separator (written_value e s value ++ line_ending_text s.line_ending)
    (ascii-scalars s.kv_separator (good_separator-ascii s.kv_separator g.separator))
    (scalars-append (written_value e s value) (line_ending_text s.line_ending)
    (written_value-scalars e s value (recursion_from_All scalar value h.1))
    (ascii-scalars (line_ending_text s.line_ending) (line_ending-ascii s.line_ending))))

-- ---- everything that is written

-- Under good settings, a line of scalar values is printed as a writable text.
pub line-writable : (e : Encoding) (s : Settings) (n : ℕ) (line : Content) → AreGoodSettings s → ContentScalars line
    → AreWritable e (printed_text e s (n == 0) line)
line-writable e s n line g h = record { scalars = printed-scalars e s (n == 0) line g h; encodable = printed_text-encodable e s (n == 0) line g.separator }

-- A pair, whether or not it is accepted.
pair-writable : (e : Encoding) (s : Settings) (n : ℕ) (key value : List ℕ) (b : Bool) → AreGoodSettings s → All scalar key
    → All scalar value → AreWritable e (line_text e s n (if b then Some (pair key value) else None))
pair-writable e s n key value true g h k = line-writable e s n (pair key value) g (h, k)
pair-writable e s n key value false g h k = record { scalars = tt; encodable = tt }

-- Starting with good settings, all lines that calls write are writable.
pub wrote_text-writable : (e : Encoding) (s : Settings) (n : ℕ) (calls : List Call) → AreGoodSettings s → AreOfScalars calls
    → AreWritable e (wrote_text e s n calls)
wrote_text-writable e s n [] g h = record { scalars = tt; encodable = tt }
wrote_text-writable e s n (comment_call text ∷ calls) g h =
    writable-append e _ _ (line-writable e s n (comment text) g h.0) (wrote_text-writable e s (n + 1) calls g h.1)
wrote_text-writable e s n (pair_call key value ∷ calls) g h =
    let o = written_line s (pair_call key value) in
    grind (arith, writable-append, pair-writable, wrote_text-writable e s (lines_with n o) calls g h.1)
wrote_text-writable e s n (call ∷ calls) g h = wrote_text-writable e (settings_after_call s call) n calls (settings_after_call-good s call g h.0) h.1
