-- How errors, lines and line endings are printed. Nothing is specified if a text that is printed in quotes isn't ASCII.
use Rattle.std.specs.Prelude.{ℕ, List, [], ◌++◌, Option, None, Some, codes, string_bytes}
use Rattle.std.specs.Option.{option_map}
use Rattle.std.specs.Fmt.{◌++?◌, decimal, debug_str}
use Rattle.properties_items.specs.declared.line.LineContent.{LineContent}
use Rattle.properties_items.specs.declared.line.LineContent.TheVariants.{Comment, KVPair}
use Rattle.properties_items.specs.declared.line.Line.{Line}
use Rattle.properties_items.specs.declared.line.LineEnding.{LineEnding}
use Rattle.properties_items.specs.declared.line.LineEnding.TheVariants.{CR, LF, CRLF}
use Rattle.properties_items.specs.declared.error.At.{At}
use Rattle.properties_items.specs.declared.error.ErrorKind.{ErrorKind}
use Rattle.properties_items.specs.declared.error.ErrorKind.TheVariants as kind
use Rattle.properties_items.specs.declared.error.Cause.{Cause}
use Rattle.properties_items.specs.declared.error.Cause.TheVariants as cause
use Rattle.properties_items.specs.declared.error.PropertiesError.{PropertiesError}
use Rattle.properties_items.specs.declared.error.Reason.{Reason}
use Rattle.properties_items.specs.declared.error.Reason.TheVariants as reason

-- ---- errors

-- the kind of an error in words
abbrev pub description : ErrorKind → List ℕ
description kind.Io = codes "I/O error"
description kind.NotEnoughDigits = codes "Malformed \\uxxxx encoding: not enough digits."
description kind.NotHex = codes "Malformed \\uxxxx encoding: not hex."
description kind.InvalidCharacter = codes "Malformed \\uxxxx encoding: invalid character."
description kind.BadCommentPrefix = codes "Bad comment prefix"
description kind.BadKvSeparator = codes "Bad key/value separator"
description kind.EmptyKey = codes "Empty key with a blank key/value separator."
description kind.TooManyLines = codes "Too many lines."
description kind.Failed = codes "The writer has failed."
description kind.Memory = codes "Out of memory."
description kind.Unsupported = codes "Encoding can't be edited."

-- the refused text, if there is one
abbrev pub refused_display : Option (List ℕ) → Option (List ℕ)
refused_display None = Some []
refused_display (Some text) = Some (codes ": ") ++? debug_str text

abbrev pub place_display : Option ℕ → List ℕ
place_display None = codes "unknown"
place_display (Some number) = decimal number

-- the description and the refused text, followed by ` (line_number = N)`
abbrev pub error_display : PropertiesError → Option (List ℕ)
error_display e =
    Some (description e.kind) ++? refused_display (option_map string_bytes e.refused)
    ++? Some (codes " (line_number = ") ++? Some (place_display e.line_number) ++? Some (codes ")")

-- Nothing is specified about a stream's own error.
abbrev pub cause_display : Cause → Option (List ℕ)
cause_display cause.None = Some (codes "no other error")
cause_display (cause.Io error) = None
cause_display cause.NotHex = Some (codes "not a hexadecimal digit")

-- a kind in words, followed by the refused text in quotes, if there is one
abbrev pub reason_display : Reason → Option (List ℕ)
reason_display (reason.Io error) = None
reason_display (reason.Refused kind text) = Some (description kind) ++? Some (codes ": ") ++? debug_str text.now
reason_display (reason.Kind kind) = Some (description kind)

-- `:LINE`, or nothing without a line
abbrev pub number_suffix : Option ℕ → List ℕ
number_suffix None = []
number_suffix (Some number) = codes ":" ++ decimal number

-- `NAME:LINE: REASON`, or `NAME: REASON` without a line
abbrev pub at_display : At → Option (List ℕ)
at_display at = Some (at.name.now ++ (number_suffix at.line ++ codes ": ")) ++? reason_display at.reason

-- ---- lines and line endings

-- `Comment(T)`, or `KVPair(T, T)`
abbrev pub content_display : LineContent → Option (List ℕ)
content_display (Comment text) = Some (codes "Comment(") ++? debug_str (string_bytes text) ++? Some (codes ")")
content_display (KVPair key value) =
    Some (codes "KVPair(") ++? debug_str (string_bytes key) ++? Some (codes ", ") ++? debug_str (string_bytes value) ++? Some (codes ")")

-- `Line {line_number: N, content: C}`
abbrev pub line_display : Line → Option (List ℕ)
line_display l =
    Some (codes "Line {line_number: ") ++? Some (decimal l.line_number)
    ++? Some (codes ", content: ") ++? content_display l.content ++? Some (codes "}")

-- `LineEnding::CR`, `LineEnding::LF` or `LineEnding::CRLF`
abbrev pub line_ending_display : LineEnding → List ℕ
line_ending_display CR = codes "LineEnding::CR"
line_ending_display LF = codes "LineEnding::LF"
line_ending_display CRLF = codes "LineEnding::CRLF"
