-- The statuses of calls: their numbers, and those of errors.
use Rattle.std.specs.Prelude.{ℕ, ℤ, pos, Option, Some, None, ◌≡◌, List, codes}
use Rattle.properties_format.specs.Escapes.{Malformed, not_enough_digits, not_hex, invalid_character}
use Rattle.properties_items.specs.Errors.{line_of_error}
use Rattle.properties_items.specs.declared.error.ErrorKind.{ErrorKind}
use Rattle.properties_items.specs.declared.error.ErrorKind.TheVariants as kind
use Rattle.properties_items.specs.declared.error.PropertiesError.{PropertiesError}
use Rattle.properties_c.specs.declared.status.Status.{Status}
use Rattle.properties_c.specs.declared.status.Status.TheVariants.{Done, NoRoom, NoKey, NoMemory, UnknownEncoding, NotUtf8, BadList, NotEnoughDigits, NotHex, InvalidCharacter, TooManyLines, Unsupported, BadPrefix, BadSeparator, EmptyKey, UnknownFlags, NotText, KeyTaken}

abbrev pub status_number : Status → ℤ
status_number Done = pos 0
status_number NoRoom = pos 1
status_number NoKey = pos 2
status_number NoMemory = pos 3
status_number UnknownEncoding = pos 4
status_number NotUtf8 = pos 5
status_number BadList = pos 6
status_number NotEnoughDigits = pos 7
status_number NotHex = pos 8
status_number InvalidCharacter = pos 9
status_number TooManyLines = pos 10
status_number Unsupported = pos 11
status_number BadPrefix = pos 12
status_number BadSeparator = pos 13
status_number EmptyKey = pos 14
status_number UnknownFlags = pos 15
status_number NotText = pos 16
status_number KeyTaken = pos 17

-- the status of an error of this kind; a stream in memory fails only if memory runs out
abbrev pub status_of_kind : ErrorKind → Status
status_of_kind kind.Io = NoMemory
status_of_kind kind.NotEnoughDigits = NotEnoughDigits
status_of_kind kind.NotHex = NotHex
status_of_kind kind.InvalidCharacter = InvalidCharacter
status_of_kind kind.BadCommentPrefix = BadPrefix
status_of_kind kind.BadKvSeparator = BadSeparator
status_of_kind kind.EmptyKey = EmptyKey
status_of_kind kind.TooManyLines = TooManyLines
status_of_kind kind.Failed = NoMemory
status_of_kind kind.Memory = NoMemory
status_of_kind kind.Unsupported = Unsupported

-- the status of a malformed escape
abbrev pub malformed_status : Malformed → Status
malformed_status not_enough_digits = NotEnoughDigits
malformed_status not_hex = NotHex
malformed_status invalid_character = InvalidCharacter

-- the line, or 0 where there is none
abbrev pub line_or_none : Option ℕ → ℕ
line_or_none None = 0
line_or_none (Some line) = line

-- the line of an error, or 0
abbrev pub error_line : PropertiesError → ℕ
error_line error = line_or_none (line_of_error error)

-- ---- The texts of statuses.

abbrev pub status_text : Status → List ℕ
status_text Done = codes "No error."
status_text NoRoom = codes "The room is too small."
status_text NoKey = codes "No pair has the key."
status_text NoMemory = codes "Out of memory."
status_text UnknownEncoding = codes "Unknown encoding."
status_text NotUtf8 = codes "A text isn't UTF-8."
status_text BadList = codes "A packed list isn't well formed."
status_text NotEnoughDigits = codes "Malformed \\uxxxx encoding: not enough digits."
status_text NotHex = codes "Malformed \\uxxxx encoding: not hex."
status_text InvalidCharacter = codes "Malformed \\uxxxx encoding: invalid character."
status_text TooManyLines = codes "Too many lines."
status_text Unsupported = codes "The call doesn't take this encoding."
status_text BadPrefix = codes "Bad comment prefix."
status_text BadSeparator = codes "Bad key/value separator."
status_text EmptyKey = codes "Empty key with a blank key/value separator."
status_text UnknownFlags = codes "Unknown flags."
status_text NotText = codes "The source isn't text in its encoding."
status_text KeyTaken = codes "A pair has the new key already."

-- the text of a status, or that of a number which no status has
abbrev pub text_of_status : Option Status → List ℕ
text_of_status None = codes "Unknown status."
text_of_status (Some s) = status_text s

-- This is the status with this number, or no status has the number.
abbrev pub IsStatusAt : ℤ → Option Status → Type 0
IsStatusAt number None = (s : Status) → ¬ status_number s ≡ number
IsStatusAt number (Some s) = status_number s ≡ number
