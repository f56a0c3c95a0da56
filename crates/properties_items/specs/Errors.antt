-- Errors as contracts see them.
use Rattle.std.specs.Prelude.{◌≡◌, ℕ, Bool, true, false, ◌==◌, ◌&&◌, if◌then◌else◌, List, Option, Some, None}
use Rattle.std.specs.Option.{option_map}
use Rattle.std.specs.Str.{chars}
use Rattle.std.specs.String.{string_bytes}
use Rattle.properties_format.specs.Escapes.{Malformed, not_enough_digits, not_hex, invalid_character}
use Rattle.properties_text.specs.Escaping.{malformed_in}
use Rattle.properties_text.specs.declared.escape.UnescapeError.{UnescapeError}
use Rattle.properties_text.specs.declared.escape.UnescapeError.TheVariants as unescape
use Rattle.properties_lines.specs.declared.error.LineError.{LineError}
use Rattle.properties_lines.specs.declared.error.LineError.TheVariants as why
use Rattle.properties_items.specs.declared.error.At.{At}
use Rattle.properties_items.specs.declared.error.ErrorKind.{ErrorKind}
use Rattle.properties_items.specs.declared.error.Cause.{Cause}
use Rattle.properties_items.specs.declared.error.ErrorKind.TheVariants as kind
use Rattle.properties_items.specs.declared.error.Cause.TheVariants as cause
use Rattle.properties_items.specs.declared.error.PropertiesError.{PropertiesError}
use Rattle.properties_items.specs.declared.error.Reason.{Reason}
use Rattle.properties_items.specs.declared.error.Reason.TheVariants as reason
use Rattle.std.specs.declared.io.Error.{Error}

abbrev pub kind_of : PropertiesError → ErrorKind
kind_of e = e.kind

-- the line number of an error, if it has one
abbrev pub line_of_error : PropertiesError → Option ℕ
line_of_error e = e.line_number

abbrev pub cause_of : PropertiesError → Cause
cause_of e = e.cause

-- the characters of the refused text, if there is one
abbrev pub refused_of : PropertiesError → Option (List ℕ)
refused_of e = option_map (λ text. chars (string_bytes text)) e.refused

-- No stream failed with an error of its own.
abbrev pub NoStreamError : PropertiesError → Type 0
NoStreamError e = (source : Error) → cause_of e ≡ cause.Io source → ⊥

-- The reason of an error: the stream's own error if it has one as its cause; otherwise its kind, with the refused text
-- if there is one.
abbrev pub IsReason : PropertiesError → Reason → Type 0
IsReason e (reason.Io error) = cause_of e ≡ cause.Io error.now
IsReason e (reason.Refused kind text) = (kind ≡ kind_of e) × (refused_of e ≡ Some (chars text.now)) × NoStreamError e
IsReason e (reason.Kind kind) = (kind ≡ kind_of e) × (refused_of e ≡ None) × NoStreamError e

abbrev pub is_io : ErrorKind → Bool
is_io kind.Io = true
is_io other = false

-- the line of an error of this kind in messages
abbrev pub line_of_kind : ErrorKind → Option ℕ → Option ℕ
line_of_kind kind None = None
line_of_kind kind (Some line) = if is_io kind && (line == 1) then None else Some line

-- the line that a message about an error names: that of the error, but none where a stream failed in its first line, as a folder does
abbrev pub message_line : PropertiesError → Option ℕ
message_line e = line_of_kind e.kind e.line_number

-- A message with this name, and the line and the reason of this error.
pub record IsAt (e : PropertiesError) (name : List ℕ) (at : At) : Type 0 where
  pub its_name : at.name.now ≡ name
  pub its_line : at.line ≡ message_line e
  pub its_reason : IsReason e at.reason

-- An error with this kind, line and cause, and without a refused text.
pub record IsError (kind : ErrorKind) (line : Option ℕ) (cause : Cause) (error : PropertiesError) : Type 0 where
  pub its_kind : kind_of error ≡ kind
  pub its_line : line_of_error error ≡ line
  pub its_cause : cause_of error ≡ cause
  pub its_text : refused_of error ≡ None

-- an error of this kind, without a line and without a cause
abbrev pub IsBareError : ErrorKind → PropertiesError → Type 0
IsBareError kind error = IsError kind None cause.None error

-- A stream failed with this error, in this line if there is one.
abbrev pub IsStreamError : Option ℕ → Error → PropertiesError → Type 0
IsStreamError line source error = IsError kind.Io line (cause.Io source) error

-- the cause of a failed write: the sink's own error, or none if the sink took no byte
abbrev pub cause_of_write : Option Error → Cause
cause_of_write Option.None = cause.None
cause_of_write (Option.Some source) = cause.Io source

-- the same cause, but with this stream's error if the cause is a stream's error
abbrev pub cause_by : Error → Cause → Cause
cause_by source (cause.Io given) = cause.Io source
cause_by source other = other

-- the kind of error for a malformed escape, and its cause
abbrev pub malformed_kind : Malformed → ErrorKind
malformed_kind not_enough_digits = kind.NotEnoughDigits
malformed_kind not_hex = kind.NotHex
malformed_kind invalid_character = kind.InvalidCharacter

abbrev pub malformed_cause : Malformed → Cause
malformed_cause not_hex = cause.NotHex
malformed_cause other = cause.None

-- An escape in this line is malformed in this way.
abbrev pub IsMalformed : Malformed → ℕ → PropertiesError → Type 0
IsMalformed malformed line error = IsError (malformed_kind malformed) (Some line) (malformed_cause malformed) error

-- The escapes in this line can't be resolved for this reason.
abbrev pub IsUnresolvedError : UnescapeError → ℕ → PropertiesError → Type 0
IsUnresolvedError (unescape.Malformed malformed) line error = IsMalformed (malformed_in malformed) line error
IsUnresolvedError unescape.Memory line error = IsBareError kind.Memory error

-- No line was returned for this reason.
abbrev pub IsLineError : LineError → PropertiesError → Type 0
IsLineError (why.Io number source) error = IsStreamError (Some number) source error
IsLineError why.TooManyLines error = IsBareError kind.TooManyLines error
IsLineError why.Memory error = IsBareError kind.Memory error

-- A text was refused, and the error of this kind holds it. The error has no line and no cause.
pub record RefusesText (kind : ErrorKind) (text : List ℕ) (error : PropertiesError) : Type 0 where
  pub its_kind : kind_of error ≡ kind
  pub its_line : line_of_error error ≡ None
  pub its_cause : cause_of error ≡ cause.None
  pub its_text : refused_of error ≡ Some text

-- A call was refused with an error of this kind and changed nothing.
pub record Refuses {S : Type 0} (kind : ErrorKind) (old : S) (error : PropertiesError) (new : S) : Type 0 where
  pub is : IsBareError kind error
  pub same : new ≡ old
