-- Why `propedit` fails, and what it prints of a failure.
use Rattle.std.specs.Prelude.{◌≡◌, ◌≢◌, ◌⊎◌, ℕ, Bool, true, false, List, ◌++◌, Option, Some, None, IfSome, codes, string_bytes}
use Rattle.std.specs.Fmt.{decimal}
use Rattle.std.specs.IoError.{error_kind}
use Rattle.std.specs.declared.io.Error.{Error}
use Rattle.std.specs.declared.io.ErrorKind.{ErrorKind as IoKind}
use Rattle.std.specs.declared.io.ErrorKind.TheVariants.{BrokenPipe, OutOfMemory}
use Rattle.counted_io.specs.Streams.{Sink}
use Rattle.java_properties.specs.DisplayTexts.{description, reason_display}
use Rattle.java_properties.specs.Errors.{cause_of, kind_of, message_line, IsBareError, IsReason, IsStreamError}
use Rattle.properties_items.specs.declared.error.Cause.{Cause}
use Rattle.properties_items.specs.declared.error.Cause.TheVariants as cause
use Rattle.properties_items.specs.declared.error.ErrorKind.TheVariants as kind
use Rattle.properties_items.specs.declared.error.PropertiesError.{PropertiesError}
use Rattle.properties_items.specs.declared.error.Reason.{Reason}
use Rattle.properties_tables.specs.Messages.{escaped, printed_line, HasPrintedLine}
use Rattle.properties_tables.specs.declared.error.Failure.{Failure}
use Rattle.properties_tables.specs.declared.error.TextFlaw.{TextFlaw}
use Rattle.properties_tables.specs.declared.error.TextFlaw.TheVariants as flaw
use Rattle.properties_tables.specs.declared.error.Failure.TheVariants.{Absent, KeyTaken, Texts, Utf32Mark, HoldsZero, NotUtf8, NotUtf8ByMark, NotUtf16, Malformed, Input, Output}

-- what is printed where memory runs out before a message, or for it
abbrev pub memory_words : List ℕ
memory_words = codes "propedit: Out of memory."

-- memory ran out
pub record IsMemoryFailure (failure : Failure) : Type 0 where
  pub error : PropertiesError
  pub is : failure ≡ Input error
  pub memory : IsBareError kind.Memory error

-- A file can't be opened or read for this reason: memory ran out, or the system says why.
abbrev pub IsIoFailure : Error → Failure → Type 0
IsIoFailure source failure =
    ((error_kind source ≡ OutOfMemory) × IsMemoryFailure failure)
    ⊎ ((error_kind source ≢ OutOfMemory) × ((error : PropertiesError) × (failure ≡ Input error) × IsStreamError None source error))

-- ---- its status

-- 1 for a key that no pair has, or for a new key that one has, and else 2
abbrev pub failure_status : Failure → ℕ
failure_status (Absent key) = 1
failure_status (KeyTaken number key) = 1
failure_status other = 2

-- ---- a pipe that nobody reads

abbrev pub is_broken_pipe : IoKind → Bool
is_broken_pipe BrokenPipe = true
is_broken_pipe _ = false

-- whether a stream failed because nobody reads it any more
abbrev pub is_broken : Cause → Bool
is_broken (cause.Io error) = is_broken_pipe (error_kind error)
is_broken other = false

-- whether nobody reads the output any more
abbrev pub is_closed_pipe : Failure → Bool
is_closed_pipe (Output error) = is_broken (cause_of error)
is_closed_pipe other = false

-- ---- its reason

-- The words are the reason of an error. Of a stream's own error nothing is known but that these are its words.
pub record IsErrorReason (error : PropertiesError) (words : List ℕ) : Type 0 where
  pub reason : Reason
  pub is : IsReason error reason
  pub printed : IfSome (reason_display reason) (λ known. words ≡ known)

-- of U+0000 in a line
abbrev pub zero_words : List ℕ
zero_words = codes "U+0000; if this is UTF-16, -e utf-16le or -e utf-16be reads it"

-- of a line that is not UTF-8, without a byte order mark or with one
abbrev pub ill_formed_words : List ℕ
ill_formed_words = codes "not UTF-8; if it is in windows-1252 or Latin-1, -e windows-1252 reads it"

abbrev pub ill_formed_by_mark_words : List ℕ
ill_formed_by_mark_words = codes "not UTF-8, though a byte order mark says so"

-- of the byte order mark of UTF-32
abbrev pub utf_32_words : List ℕ
utf_32_words = codes "begins with the byte order mark of UTF-32, which is not read as UTF-32"

-- of a line that is not UTF-16
abbrev pub not_utf_16_words : List ℕ
not_utf_16_words = codes "not UTF-16"

-- of a key that no pair has
abbrev pub absent_words : List ℕ → List ℕ
absent_words key = codes "no pair has the key '" ++ (escaped key ++ codes "'")

-- of a new key that a pair has
abbrev pub taken_words : List ℕ → List ℕ
taken_words key = codes "the key '" ++ (escaped key ++ codes "' is there already")

-- of bytes that aren't texts with zero bytes after them
abbrev pub flaw_words : TextFlaw → List ℕ
flaw_words flaw.NotUtf8 = codes "not UTF-8; the texts that merge -z reads are in UTF-8"
flaw_words flaw.NotEnded = codes "the last text has no zero byte after it; with -z, merge reads what list -v -z prints"
flaw_words flaw.NoValue = codes "the last key has no value; with -z, keys and values come by turns"

-- The words are the reason of an error, or say of UTF-16 what can be done, where a command doesn't support it.
abbrev pub IsInputReason : PropertiesError → List ℕ → Type 0
IsInputReason error words =
    ((kind_of error ≡ kind.Unsupported) × (words ≡ codes "this command does not support UTF-16; propedit convert utf-8 converts it"))
    ⊎ ((kind_of error ≢ kind.Unsupported) × IsErrorReason error words)

-- The words are the reason of a failure.
abbrev pub IsReasonOf : Failure → List ℕ → Type 0
IsReasonOf Utf32Mark words = words ≡ utf_32_words
IsReasonOf (HoldsZero number) words = words ≡ zero_words
IsReasonOf (NotUtf8 number) words = words ≡ ill_formed_words
IsReasonOf (NotUtf8ByMark number) words = words ≡ ill_formed_by_mark_words
IsReasonOf (NotUtf16 number) words = words ≡ not_utf_16_words
IsReasonOf (Malformed escape) words = words ≡ description escape.kind
IsReasonOf (Absent key) words = words ≡ absent_words (string_bytes key)
IsReasonOf (KeyTaken number key) words = words ≡ taken_words (string_bytes key)
IsReasonOf (Texts flaw) words = words ≡ flaw_words flaw
IsReasonOf (Input error) words = IsInputReason error words
IsReasonOf (Output error) words = IsInputReason error words

-- ---- its place

-- the number of its line, where it is of one
abbrev pub failure_line : Failure → Option ℕ
failure_line Utf32Mark = Some 1
failure_line (HoldsZero number) = Some number
failure_line (NotUtf8 number) = Some number
failure_line (NotUtf8ByMark number) = Some number
failure_line (NotUtf16 number) = Some number
failure_line (Malformed escape) = Some escape.line_number
failure_line (Absent key) = None
failure_line (KeyTaken number key) = Some number
failure_line (Texts flaw) = None
failure_line (Input error) = message_line error
failure_line (Output error) = message_line error

abbrev pub standard_output : List ℕ
standard_output = codes "standard output"

-- what it is a failure of: the source of this name, or the output
abbrev pub failure_place : List ℕ → Failure → List ℕ
failure_place name (Output error) = standard_output
failure_place name other = name

-- ---- what is printed

-- `PLACE:LINE`, or `PLACE` where there is no line
abbrev pub numbered_place : List ℕ → Option ℕ → List ℕ
numbered_place place None = escaped place
numbered_place place (Some number) = escaped place ++ (codes ":" ++ decimal number)

-- `propedit: PLACE:LINE: REASON`, or `propedit: PLACE: REASON`
abbrev pub message : List ℕ → Option ℕ → List ℕ → List ℕ
message place number reason = codes "propedit: " ++ (numbered_place place number ++ (codes ": " ++ reason))

-- The text is the message of a failure.
pub record IsMessage (name : List ℕ) (failure : Failure) (text : List ℕ) : Type 0 where
  pub reason : List ℕ
  pub is_reason : IsReasonOf failure reason
  pub is : text ≡ message (failure_place name failure) (failure_line failure) reason

-- the line of such a text
abbrev pub IsMessageLine : List ℕ → Failure → List ℕ → Type 0
IsMessageLine name failure line = (text : List ℕ) × IsMessage name failure text × (line ≡ printed_line text)

-- Such a line was printed, or the line that says that there is no memory for it, as far as the sink took it.
abbrev pub PrintsLine : {W : Type 0} → Sink W → W → (List ℕ → Type 0) → W → Type 0
PrintsLine sink old IsLine new =
    ((line : List ℕ) × IsLine line × HasPrintedLine sink old line new) ⊎ HasPrintedLine sink old (printed_line memory_words) new

-- The message of a failure is printed.
abbrev pub PrintsFailure : {W : Type 0} → Sink W → W → List ℕ → Failure → W → Type 0
PrintsFailure sink old name failure new = PrintsLine sink old (IsMessageLine name failure) new

-- Nothing is printed if nobody reads the output any more, and else the message of the failure.
abbrev pub PrintsUnless : {W : Type 0} → Bool → Sink W → W → List ℕ → Failure → W → Type 0
PrintsUnless true sink old name failure new = new ≡ old
PrintsUnless false sink old name failure new = PrintsFailure sink old name failure new

abbrev pub Reports : {W : Type 0} → Sink W → W → List ℕ → Failure → W → Type 0
Reports sink old name failure new = PrintsUnless (is_closed_pipe failure) sink old name failure new
