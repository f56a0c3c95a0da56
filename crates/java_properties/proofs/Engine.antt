-- The lines that an engine builds, from their parts.
use Rattle.std.proofs.Common.{◌≡◌, ◌<◌, ◌==◌, ◌++◌, ◌+◌, ◌^◌, ℕ, Bool, true, false, List, [], refl, ap, sym, subst, ◌∙◌, append_assoc}
use Rattle.std.specs.Prelude.{Some, Option, Result, Ok, Err}
use Rattle.std.specs.declared.io.Error.{Error}
use Rattle.counted_io.specs.Streams.{Sink, HasWritten, HasSentPart}
use Rattle.std.specs.Str.{chars}
use Rattle.properties_format.specs.Text.{line_ending_text, is_blanks}
use Rattle.properties_format.specs.Items.{Content, comment, pair}
use Rattle.properties_format.specs.Writing.{is_accepted}
use Rattle.properties_format.specs.Printing.{encoded_text, printed_characters, printed_key, printed_value, written_value, in_prefix, in_comment}
use Rattle.properties_format.specs.Printing.{in_key_or_value}
use Rattle.properties_format.proofs.Printing.Characters.{AreAscii, encoded_text-ascii, printed-comment, printed-pair}
use Rattle.properties_text.specs.Encoding.{line_of}
use Rattle.properties_items.specs.Errors.{IsError, IsBareError, cause_of_write}
use Rattle.java_properties.specs.PropertiesWriter.{Writing, call_of, TakesLine, HasWrittenLine, IsRefusedBy, RefusesLine, FailsInLine}
use Rattle.properties_items.specs.declared.error.ErrorKind.{ErrorKind}
use Rattle.properties_items.specs.declared.error.ErrorKind.TheVariants as kind
use Rattle.properties_items.specs.declared.error.ErrorKind.TheVariants.{Io}
use Rattle.properties_items.specs.declared.error.PropertiesError.{PropertiesError}
use Rattle.java_properties.specs.Private.Engine.{writing, NumbersLine, SendsLine, repertoire_in, engine_repertoire, engine_line_bytes, comment_bytes, BuildsPair}
use Rattle.properties_format.specs.Encoding.{Encoding, utf_8}
use Rattle.properties_format.specs.Encoding as meant
use Rattle.properties_format.specs.Settings.{repertoire_of as format_repertoire}
use Rattle.properties_format.proofs.AsciiOnly.{printed_characters-ascii, printed_characters-same, printed_key-ascii, printed_key-same, printed_value-ascii}
use Rattle.properties_format.proofs.AsciiOnly.{printed_value-same}
use Rattle.properties_text.specs.Printing.{text_bytes, key_bytes, puts_of, value_bytes, place_of, in_format}
use Rattle.properties_text.specs.PrintedTexts.{PrintsPair}
use Rattle.properties_text.specs.declared.encoding.line_encoding.LineEncoding.{LineEncoding}
use Rattle.properties_text.specs.declared.encoding.line_encoding.LineEncoding.TheVariants as line
use Rattle.properties_text.specs.declared.escape.UnescapeError.TheVariants as error
use Rattle.properties_text.specs.declared.print.Pair.{Pair}
use Rattle.properties_text.specs.declared.print.Place.{Place}
use Rattle.properties_text.specs.declared.print.Place.TheVariants as place
use Rattle.properties_text.specs.declared.print.Repertoire.{Repertoire}
use Rattle.properties_text.specs.declared.print.Repertoire.TheVariants as repertoire
use Rattle.properties_text.specs.declared.escape.UnescapeError.{UnescapeError}
use Rattle.java_properties.specs.declared.writer.engine.Engine.{Engine}
use Rattle.std.proofs.lemmas.Bool.{eq-eqb, cond-true, cond-false}
use Rattle.std.proofs.lemmas.Str.{chars-nil}
use Rattle.std.proofs.lemmas.Result.{on_ok_weaker}
use Rattle.properties_items.proofs.RawTexts.{line_ending-bytes, separator-bytes}

-- the bytes of the line ending
abbrev pub ending_bytes : Engine → List ℕ
ending_bytes w = encoded_text (line_of w.encoding) (line_ending_text w.settings.line_ending)

-- ---- what a line can contain without escapes

-- a repertoire that has all of an encoding
repertoire-by : (to : Repertoire) (e : LineEncoding) → (in_format to).encoding ≡ line_of e → (in_format to).characters ≡ meant.all_characters → to
    ≡ repertoire_in false e
repertoire-by repertoire.Windows1252 line.Windows1252 same h = refl
repertoire-by repertoire.Windows1252 line.Utf8 same h = absurd (cc)
repertoire-by repertoire.Utf8 line.Windows1252 same h = absurd (cc)
repertoire-by repertoire.Utf8 line.Utf8 same h = refl
repertoire-by repertoire.Latin1 e same h = absurd (cc)
repertoire-by repertoire.Ascii e same h = absurd (cc)

pub repertoire-of : (to : Repertoire) (e : LineEncoding) → in_format to ≡ meant.all_of (line_of e) → to ≡ repertoire_in false e
repertoire-of to e same = repertoire-by to e (ap (λ (r : meant.Repertoire). r.encoding) same) (ap (λ (r : meant.Repertoire). r.characters) same)

-- ASCII only is the same bytes in each encoding
alike : (e : Encoding) (x y : List ℕ) → AreAscii x → AreAscii y → x ≡ y → encoded_text utf_8 x ≡ encoded_text e y
alike e x y h k same = encoded_text-ascii utf_8 x h ∙ same ∙ sym (encoded_text-ascii e y k)

text-alike : (only : Bool) (e : LineEncoding) (p : Place) (text : List ℕ)
    → text_bytes (repertoire_in only e) p text ≡ encoded_text (line_of e) (printed_characters (meant.repertoire (line_of e) only) (place_of p) text)
text-alike false line.Windows1252 p text = refl
text-alike false line.Utf8 p text = refl
text-alike true e p text =
    alike (line_of e) _ _ (printed_characters-ascii utf_8 (place_of p) text) (printed_characters-ascii _ (place_of p) text)
    (printed_characters-same utf_8 (line_of e) (place_of p) text)

value-alike : (only : Bool) (e : LineEncoding) (text : List ℕ)
    → puts_of (repertoire_in only e) text ≡ encoded_text (line_of e) (printed_characters (meant.repertoire (line_of e) only) in_key_or_value text)
value-alike false line.Windows1252 text = refl
value-alike false line.Utf8 text = refl
value-alike true e text =
    alike (line_of e) _ _ (printed_characters-ascii utf_8 in_key_or_value text) (printed_characters-ascii _ in_key_or_value text)
    (printed_characters-same utf_8 (line_of e) in_key_or_value text)

key-alike : (only : Bool) (e : LineEncoding) (first : Bool) (key : List ℕ)
    → key_bytes (repertoire_in only e) first key ≡ encoded_text (line_of e) (printed_key (meant.repertoire (line_of e) only) first key)
key-alike false line.Windows1252 first key = refl
key-alike false line.Utf8 first key = refl
key-alike true e first key = alike (line_of e) _ _ (printed_key-ascii utf_8 first key) (printed_key-ascii _ first key)
    (printed_key-same utf_8 (line_of e) first key)

readable-alike : (only : Bool) (e : LineEncoding) (after_blanks : Bool) (text : List ℕ)
    → value_bytes (repertoire_in only e) after_blanks text ≡ encoded_text (line_of e) (printed_value (meant.repertoire (line_of e) only) after_blanks text)
readable-alike false line.Windows1252 after_blanks text = refl
readable-alike false line.Utf8 after_blanks text = refl
readable-alike true e after_blanks text =
    alike (line_of e) _ _ (printed_value-ascii utf_8 after_blanks text) (printed_value-ascii _ after_blanks text)
    (printed_value-same utf_8 (line_of e) after_blanks text)

-- the value that is written, with readable output off
plain-chosen : (w : Engine) (value : List ℕ) → w.settings.readable ≡ false
    → puts_of (engine_repertoire w) value ≡ encoded_text (line_of w.encoding) (written_value (line_of w.encoding) w.settings value)
plain-chosen w value off =
    let e = line_of w.encoding in
    let s = w.settings in
    let readable = printed_value (format_repertoire e s) (is_blanks s.kv_separator) value in
    let plain = printed_characters (format_repertoire e s) in_key_or_value value in
    value-alike s.ascii_only w.encoding value ∙ ap (encoded_text e) (sym (cond-false s.readable readable plain off))

-- and on
readable-chosen : (w : Engine) (value : List ℕ) → w.settings.readable ≡ true
    → value_bytes (engine_repertoire w) (is_blanks w.settings.kv_separator) value
    ≡ encoded_text (line_of w.encoding) (written_value (line_of w.encoding) w.settings value)
readable-chosen w value on =
    let e = line_of w.encoding in
    let s = w.settings in
    let readable = printed_value (format_repertoire e s) (is_blanks s.kv_separator) value in
    let plain = printed_characters (format_repertoire e s) in_key_or_value value in
    readable-alike s.ascii_only w.encoding (is_blanks s.kv_separator) value ∙ ap (encoded_text e) (sym (cond-true s.readable readable plain on))

-- ---- what is built in an empty buffer

-- a comment, and then its line ending
pub comment-built : (w : Engine) (text cleared printed all ending : List ℕ) → cleared ≡ [] → printed ≡ cleared ++ comment_bytes w text
    → ending ≡ ending_bytes w → all ≡ printed ++ ending → all ≡ engine_line_bytes w (comment text)
comment-built w text cleared printed all ending h k m n =
    let e = line_of w.encoding in
    let front = encoded_text e (printed_characters (format_repertoire e w.settings) in_prefix w.settings.comment_prefix) in
    let rest = encoded_text e (printed_characters (format_repertoire e w.settings) in_comment text) in
    let prefix = text-alike w.settings.ascii_only w.encoding place.Prefix w.settings.comment_prefix in
    let body = text-alike w.settings.ascii_only w.encoding place.Comment text in
    rw (n, k, h, m, prefix, body, printed-comment e w.settings (w.lines == 0) text) (append_assoc front rest (ending_bytes w))

-- a key, a separator, a value and a line ending
parts-built : (w : Engine) (key value cleared separator valued ending all : List ℕ) → cleared ≡ []
    → separator ≡ encoded_text (line_of w.encoding) w.settings.kv_separator → ending ≡ ending_bytes w
    → valued ≡ encoded_text (line_of w.encoding) (written_value (line_of w.encoding) w.settings value)
    → all ≡ cleared ++ (key_bytes (engine_repertoire w) (w.lines == 0) key ++ (separator ++ (valued ++ ending)))
    → all ≡ engine_line_bytes w (pair key value)
parts-built w key value cleared separator valued ending all h s m v n =
    let named = key-alike w.settings.ascii_only w.encoding (w.lines == 0) key in
    rw (n, h, named, s, v, m) (sym (printed-pair (line_of w.encoding) w.settings (w.lines == 0) key value))

-- with readable output off,
pub pair-built : (w : Engine) (key value cleared separator ending all : List ℕ) → w.settings.readable ≡ false → cleared ≡ []
    → separator ≡ encoded_text (line_of w.encoding) w.settings.kv_separator → ending ≡ ending_bytes w
    → all ≡ cleared ++ (key_bytes (engine_repertoire w) (w.lines == 0) key ++ (separator ++ (puts_of (engine_repertoire w) value ++ ending)))
    → all ≡ engine_line_bytes w (pair key value)
pair-built w key value cleared separator ending all off h s m n =
    parts-built w key value cleared separator (puts_of (engine_repertoire w) value) ending all h s m (plain-chosen w value off) n

-- and on
pub readable-built : (w : Engine) (key value cleared separator ending all : List ℕ) → w.settings.readable ≡ true → cleared ≡ []
    → separator ≡ encoded_text (line_of w.encoding) w.settings.kv_separator → chars separator ≡ w.settings.kv_separator → ending ≡ ending_bytes w
    → all ≡ cleared ++ (key_bytes (engine_repertoire w) (w.lines == 0) key
    ++ (separator ++ (value_bytes (engine_repertoire w) (is_blanks (chars separator)) value ++ ending)))
    → all ≡ engine_line_bytes w (pair key value)
readable-built w key value cleared separator ending all on h s t m n =
    let valued = ap (λ x. value_bytes (engine_repertoire w) (is_blanks x) value) t ∙ readable-chosen w value on in
    parts-built w key value cleared separator (value_bytes (engine_repertoire w) (is_blanks (chars separator)) value) ending all h s m valued n

-- the pair that a spelling means, with readable output off,
pub spelt-built : (w : Engine) (p : Pair) (cleared separator ending new : List ℕ) → w.settings.readable ≡ false → cleared ≡ []
    → separator ≡ encoded_text (line_of w.encoding) w.settings.kv_separator → ending ≡ ending_bytes w
    → (result : Result Unit UnescapeError) → PrintsPair (engine_repertoire w) (w.lines == 0) (puts_of (engine_repertoire w)) cleared p separator ending result new
    → BuildsPair w p result new
spelt-built w p cleared separator ending new off c s e (Ok done) h =
    (h.key, h.value, h.key_means, h.value_means, pair-built w h.key h.value cleared separator ending new off c s e h.printed)
spelt-built w p cleared separator ending new off c s e (Err (error.Malformed malformed)) h = h
spelt-built w p cleared separator ending new off c s e (Err error.Memory) h = tt

-- and on
pub readable_spelt-built : (w : Engine) (p : Pair) (cleared separator ending new : List ℕ) → w.settings.readable ≡ true → cleared ≡ []
    → separator ≡ encoded_text (line_of w.encoding) w.settings.kv_separator → chars separator ≡ w.settings.kv_separator → ending ≡ ending_bytes w
    → (result : Result Unit UnescapeError)
    → PrintsPair (engine_repertoire w) (w.lines == 0) (value_bytes (engine_repertoire w) (is_blanks (chars separator))) cleared p separator ending result new
    → BuildsPair w p result new
readable_spelt-built w p cleared separator ending new on c s t e (Ok done) h =
    (h.key, h.value, h.key_means, h.value_means, readable-built w h.key h.value cleared separator ending new on c s t e h.printed)
readable_spelt-built w p cleared separator ending new on c s t e (Err (error.Malformed malformed)) h = h
readable_spelt-built w p cleared separator ending new on c s t e (Err error.Memory) h = tt

-- ---- the number of a line

module _ {W : Type 0} (w : Engine) (from : W) (line : Content) where
  -- a line that the writer numbers is taken
  pub numbered : (number : ℕ) → number < 2 ^ 64 → NumbersLine w (is_accepted w.settings (call_of line)) (Ok number) → TakesLine (writing w from) line
  numbered number small h = record { live = h.0; accepted = h.1; numbered = subst (λ n. n < 2 ^ 64) h.2 small }

  refused-by : (why : ErrorKind) → NumbersLine w (is_accepted w.settings (call_of line)) (Err why) → IsRefusedBy why (writing w from) line
  refused-by kind.Failed h = h
  refused-by kind.EmptyKey h = h
  refused-by kind.TooManyLines h = h
  refused-by other h = absurd h

  -- and one that it doesn't number is refused
  pub unnumbered : (why : ErrorKind) (error : PropertiesError) → NumbersLine w (is_accepted w.settings (call_of line)) (Err why) → IsBareError why error
      → RefusesLine (writing w from) line error (writing w from)
  unnumbered why error h bare = record {
    reason = subst (λ k. IsRefusedBy k (writing w from) line) (sym bare.its_kind) (refused-by why h);
    is = subst (λ k. IsBareError k error) (sym bare.its_kind) bare;
    same = refl;
  }

-- ---- a line that is sent

module _ {W : Type 0} {sink : Sink W} (w built : Engine) (from : W) (line : Content) (number : ℕ) (after : Writing W) (takes : TakesLine (writing w from) line)
    (next : number ≡ w.lines + 1) (same : built ≡ record w { line = built.line }) (bytes : built.line ≡ engine_line_bytes w line) where
  pub sent-line : SendsLine sink (writing built from) built.line number (Ok tt) after → HasWrittenLine sink (writing w from) line after
  sent-line h = record {
    takes = takes;
    written = subst (λ v. HasWritten sink from v after.sink) bytes h.0;
    after =
        h.1
        ∙ ap (λ (e : Engine). record (writing e from) { sink = after.sink; lines = number }) same
        ∙ ap (λ n. record (writing w from) { sink = after.sink; lines = n }) next;
  }

  pub unsent-line : (cause : Option Error) (error : PropertiesError) → SendsLine sink (writing built from) built.line number (Err cause) after
      → IsError Io (Some number) (cause_of_write cause) error → FailsInLine sink (writing w from) line error after
  unsent-line cause error h e = record {
    takes = takes;
    cause = cause;
    sent = subst (λ v. HasSentPart sink from v cause after.sink) bytes h.0;
    is = subst (λ n. IsError Io (Some n) (cause_of_write cause) error) next e;
    after = h.1 ∙ ap (λ (e : Engine). record (writing e from) { sink = after.sink; failed = true }) same;
  }

pub ruleset repertoires = (repertoire-of)

pub ruleset spans = (eq-eqb, chars-nil)

pub ruleset building = (on_ok_weaker, comment-built, pair-built, readable-built, line_ending-bytes, separator-bytes)

pub ruleset spelling = (spelt-built, readable_spelt-built, line_ending-bytes, separator-bytes)
