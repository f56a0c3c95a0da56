-- The engine of a writer, and the line that it builds.
use Rattle.std.specs.Prelude.{◌≡◌, ℕ, ◌+◌, ◌^◌, ◌==◌, ◌||◌, not, Bool, true, false, List, ◌++◌, Option, Result, Ok, Err}
use Rattle.std.specs.Str.{chars}
use Rattle.std.specs.declared.io.Error.{Error}
use Rattle.counted_io.specs.Streams.{Sink, HasWritten, HasSentPart}
use Rattle.properties_format.specs.Items as format
use Rattle.properties_format.specs.Text.{is_blanks}
use Rattle.properties_format.specs.Printing.{printed}
use Rattle.properties_format.specs.Escapes.{means}
use Rattle.properties_format.specs.Settings.{Settings}
use Rattle.properties_text.specs.Encoding.{line_of}
use Rattle.java_properties.specs.declared.writer.engine.Engine.{Engine}
use Rattle.java_properties.specs.declared.writer.engine.Content.{Content}
use Rattle.java_properties.specs.declared.writer.engine.Content.TheVariants.{Comment, KVPair}
use Rattle.properties_items.specs.declared.error.ErrorKind.TheVariants as kind
use Rattle.properties_items.specs.declared.error.ErrorKind.{ErrorKind}
use Rattle.properties_text.specs.declared.escape.UnescapeError.{UnescapeError}
use Rattle.properties_text.specs.declared.encoding.line_encoding.LineEncoding.{LineEncoding}
use Rattle.properties_text.specs.declared.encoding.line_encoding.LineEncoding.TheVariants as line
use Rattle.properties_text.specs.declared.escape.UnescapeError.TheVariants as error
use Rattle.properties_text.specs.declared.parse.Span.{Span}
use Rattle.properties_text.specs.declared.print.Pair.{Pair}
use Rattle.properties_text.specs.declared.print.Repertoire.TheVariants as repertoire
use Rattle.properties_text.specs.Escaping.{malformed_in}
use Rattle.properties_text.specs.Printing.{text_bytes}
use Rattle.properties_text.specs.PrintedTexts.{key_meaning, value_meaning, BreaksPair}
use Rattle.java_properties.specs.PropertiesWriter.{Writing}
use Rattle.properties_text.specs.declared.print.Repertoire.{Repertoire}
use Rattle.properties_text.specs.declared.print.Place.TheVariants as place

abbrev pub entry_content : Content → format.Content
entry_content (Comment text) = format.comment (chars text.now)
entry_content (KVPair key value) = format.pair (chars key.now) (chars value.now)

-- the writer that an engine and a sink form
abbrev pub writing : {W : Type 0} → Engine → W → Writing W
writing engine sink = record { sink = sink; encoding = line_of engine.encoding; settings = engine.settings; lines = engine.lines; failed = engine.failed }

-- what a line of an encoding can contain without escapes, with ASCII-only output or not
abbrev pub repertoire_in : Bool → LineEncoding → Repertoire
repertoire_in true e = repertoire.Ascii
repertoire_in false line.Windows1252 = repertoire.Windows1252
repertoire_in false line.Utf8 = repertoire.Utf8

abbrev pub engine_repertoire : Engine → Repertoire
engine_repertoire engine = repertoire_in engine.settings.ascii_only engine.encoding

-- the bytes of the line that the engine builds
abbrev pub engine_line_bytes : Engine → format.Content → List ℕ
engine_line_bytes engine line = printed (line_of engine.encoding) engine.settings (engine.lines == 0) line

-- the bytes of a comment, without the line ending
abbrev pub comment_bytes : Engine → List ℕ → List ℕ
comment_bytes engine text =
    text_bytes (engine_repertoire engine) place.Prefix engine.settings.comment_prefix ++ text_bytes (engine_repertoire engine) place.Comment text

-- The number of the next line, if it can be written; or why it can't.
abbrev pub NumbersLine : Engine → Bool → Result ℕ ErrorKind → Type 0
NumbersLine engine accepted (Ok number) = (engine.failed ≡ false) × (accepted ≡ true) × (number ≡ engine.lines + 1)
NumbersLine engine accepted (Err kind.Failed) = engine.failed ≡ true
NumbersLine engine accepted (Err kind.EmptyKey) = (engine.failed ≡ false) × (accepted ≡ false)
NumbersLine engine accepted (Err kind.TooManyLines) = (engine.failed ≡ false) × (accepted ≡ true) × (engine.lines + 1 ≡ 2 ^ 64)
NumbersLine engine accepted (Err other) = ⊥

-- The bytes were sent, and with them the line of this number; or sending them failed, for this reason.
abbrev pub SendsLine : {W : Type 0} → Sink W → Writing W → List ℕ → ℕ → Result Unit (Option Error) → Writing W → Type 0
SendsLine sink old bytes number (Ok done) new =
    HasWritten sink old.sink bytes new.sink × (new ≡ record old { sink = new.sink; lines = number })
SendsLine sink old bytes number (Err cause) new =
    HasSentPart sink old.sink bytes cause new.sink × (new ≡ record old { sink = new.sink; failed = true })

-- ---- a pair that is spelt

-- whether a pair whose key is spelt by this span can be written: only an empty span spells an empty key
abbrev pub takes_span : Settings → Span → Bool
takes_span settings key = not (key.start == key.end) || not (is_blanks settings.kv_separator)

-- the line of the pair that its spelling means; or how it is malformed
abbrev pub BuildsPair : Engine → Pair → Result Unit UnescapeError → List ℕ → Type 0
BuildsPair engine p (Ok done) bytes =
    (key : List ℕ) × (value : List ℕ) × (key_meaning p ≡ means key) × (value_meaning p ≡ means value) × (bytes ≡ engine_line_bytes engine (format.pair key value))
BuildsPair engine p (Err (error.Malformed malformed)) bytes = BreaksPair p (malformed_in malformed)
BuildsPair engine p (Err error.Memory) bytes = Unit {0}
