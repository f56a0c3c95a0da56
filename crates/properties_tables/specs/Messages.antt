-- What is printed on a stream of errors.
use Rattle.std.specs.Prelude.{◌≡◌, ◌⊎◌, ℕ, Bool, true, false, List, [], ◌∷◌, ◌++◌, Option, Some, Result, Ok, Err, codes}
use Rattle.std.specs.Char.{is_control, encode_utf8}
use Rattle.std.specs.Fmt.{digits}
use Rattle.std.specs.Str.{chars}
use Rattle.std.specs.declared.io.Error.{Error}
use Rattle.counted_io.specs.Streams.{Sink, HasFlushed, HasFailedFlush, Sends}
use Rattle.properties_format.specs.Text.{line_feed}
use Rattle.java_properties.specs.DisplayTexts.{error_display}
use Rattle.properties_items.specs.declared.error.PropertiesError.{PropertiesError}

-- what is printed for a character: for a control character its number in hexadecimal digits, as in `\u{1b}`, and else itself
abbrev pub shown_by : Bool → ℕ → List ℕ
shown_by true c = codes "\\u{" ++ (digits 16 false c ++ codes "}")
shown_by false c = encode_utf8 c

-- what is printed for characters
abbrev pub all_shown : List ℕ → List ℕ
all_shown [] = []
all_shown (c ∷ cs) = shown_by (is_control c) c ++ all_shown cs

-- what is printed for a text in a message, such as the name of a file
abbrev pub escaped : List ℕ → List ℕ
escaped text = all_shown (chars text)

-- the line of a text
abbrev pub printed_line : List ℕ → List ℕ
printed_line text = text ++ (line_feed ∷ [])

-- The line was sent, or a proper prefix of it where the sink failed, and then the sink was flushed, or its flush failed.
pub record HasPrintedLine {W : Type 0} (sink : Sink W) (old : W) (line : List ℕ) (new : W) : Type 0 where
  pub middle : W
  pub result : Result Unit (Option Error)
  pub sent : Sends sink old line result middle
  pub flushed : HasFlushed sink middle new ⊎ ((source : Error) × HasFailedFlush sink middle source new)

-- A text is printed as a line, if there is memory for the line.
abbrev pub PrintsLineIfMemory : {W : Type 0} → Sink W → W → List ℕ → W → Type 0
PrintsLineIfMemory sink old text new = HasPrintedLine sink old (printed_line text) new ⊎ (new ≡ old)

-- The text of an error is printed.
pub record PrintsError {W : Type 0} (sink : Sink W) (old : W) (error : PropertiesError) (new : W) : Type 0 where
  pub text : List ℕ
  pub is_text : error_display error ≡ Some text
  pub prints : PrintsLineIfMemory sink old text new

-- What is printed of a result: nothing, or the text of its error.
abbrev pub PrintsErrorOf : {A W : Type 0} → Sink W → W → Result A PropertiesError → W → Type 0
PrintsErrorOf sink old (Ok done) new = new ≡ old
PrintsErrorOf sink old (Err error) new = PrintsError sink old error new
