-- Borrowed items as contracts see them, and what is found of them before they are borrowed.
use Rattle.std.specs.Prelude.{◌≡◌, ◌⊎◌, ℕ, List, Option, Some, None, Result, Ok, Err, Bool, true, false, not, length, encode_utf8_all}
use Rattle.std.specs.Borrow.{Bor}
use Rattle.std.specs.Str.{chars}
use Rattle.properties_format.specs.Escapes.{Malformed, Means}
use Rattle.properties_format.specs.Items.{ignored, broken, Outcome, given, comment, pair, Content, Entry, item}
use Rattle.properties_format.specs.Computed.Edited.{IsSoundOutcome}
use Rattle.properties_format.specs.Computed.Items.{outcome_of}
use Rattle.properties_items.specs.Errors.{IsBareError, IsMalformed, IsUnresolvedError}
use Rattle.properties_text.specs.Escaping.{IsRefused, holds_backslash}
use Rattle.properties_text.specs.Parsing.{bytes_in, spanned, in_characters, IsSpan}
use Rattle.properties_text.specs.declared.escape.UnescapeError.{UnescapeError}
use Rattle.properties_text.specs.declared.parse.ParsedSpans.{ParsedSpans}
use Rattle.properties_text.specs.declared.parse.Span.{Span}
use Rattle.properties_items.specs.declared.error.ErrorKind.TheVariants as kind
use Rattle.properties_items.specs.declared.error.PropertiesError.{PropertiesError}
use Rattle.properties_items.specs.declared.found.Found.{Found}
use Rattle.properties_items.specs.declared.found.FoundContent.{FoundContent}
use Rattle.properties_items.specs.declared.found.FoundText.{FoundText}
use Rattle.std.specs.declared.string.String.{String}
use Rattle.properties_items.specs.Texts.{characters}
use Rattle.std.specs.Option.{is_some}
use Rattle.std.specs.String.{string_bytes}
use Rattle.std.specs.Cow.{cow_str_bytes}
use Rattle.std.specs.declared.borrow.CowStr.{CowStr}
use Rattle.std.specs.declared.borrow.CowStr.TheVariants.{Borrowed, Owned}
use Rattle.properties_format.specs.Items as entry
use Rattle.properties_format.specs.Split as split
use Rattle.properties_format.specs.Split.{IsSplit}
use Rattle.properties_items.specs.Line.{line_number_of, content_of}
use Rattle.properties_items.specs.declared.found.FoundContent.TheVariants as found
use Rattle.properties_items.specs.declared.borrowed.ContentRef.{ContentRef}
use Rattle.properties_items.specs.declared.borrowed.ContentRef.TheVariants as borrowed
use Rattle.properties_items.specs.declared.borrowed.LineRef.{LineRef}
use Rattle.properties_items.specs.declared.line.Line.{Line}
use Rattle.properties_items.specs.declared.line.LineContent.{LineContent}
use Rattle.properties_items.specs.declared.line.LineContent.TheVariants as own
use Rattle.properties_text.specs.declared.parse.ParsedSpans.TheVariants as spans

-- Why a logical line has no item: its escapes are malformed, or memory ran out.
abbrev pub IsNoItem : ℕ → List ℕ → PropertiesError → Type 0
IsNoItem number text e =
    ((kind : Malformed) × (outcome_of text ≡ broken kind) × IsMalformed kind number e) ⊎ IsBareError kind.Memory e

-- the pair that a logical line is, if it is one
abbrev pub outcome_pair : Outcome → Option (List ℕ × List ℕ)
outcome_pair (given (pair key value)) = Some (key, value)
outcome_pair other = None

-- A logical line is a pair, the key of which has so many bytes in UTF-8; or it is none, and nothing in it is malformed.
abbrev pub TellsKeySize : List ℕ → Option ℕ → Type 0
TellsKeySize x None = IsSoundOutcome (outcome_of x) × (outcome_pair (outcome_of x) ≡ None)
TellsKeySize x (Some size) = (pair : List ℕ × List ℕ) × (outcome_pair (outcome_of x) ≡ Some pair) × (size ≡ length (encode_utf8_all pair.0))

-- the characters of a key and of its value
abbrev pub text_characters : Bor (List ℕ) × Bor (List ℕ) → List ℕ × List ℕ
text_characters p = (chars p.0.now, chars p.1.now)

-- ---- borrowed items

-- the entry of a borrowed item
abbrev pub borrowed_content : ContentRef → Content
borrowed_content (borrowed.Comment text) = entry.comment (chars (cow_str_bytes text))
borrowed_content (borrowed.KVPair key value) = entry.pair (chars (cow_str_bytes key)) (chars (cow_str_bytes value))

abbrev pub borrowed_entry : LineRef → Entry
borrowed_entry line = item line.line_number (borrowed_content line.content)

abbrev pub is_borrowed : {Z : Type 0} → CowStr Z → Bool
is_borrowed (Borrowed text) = true
is_borrowed (Owned text) = false

-- In this logical line, each text is borrowed if and only if its slice of the line contains no backslash.
abbrev pub BorrowsPlain : List ℕ → ContentRef → Type 0
BorrowsPlain line (borrowed.Comment text) = (raw : List ℕ) × IsSplit line (split.comment raw) × (is_borrowed text ≡ not (holds_backslash raw))
BorrowsPlain line (borrowed.KVPair key value) =
    (raw_key : List ℕ) × (raw_value : List ℕ) × IsSplit line (split.pair raw_key raw_value)
    × (is_borrowed key ≡ not (holds_backslash raw_key)) × (is_borrowed value ≡ not (holds_backslash raw_value))

-- The texts of an item equal those of a borrowed item.
abbrev pub IsCopyOf : ContentRef → LineContent → Type 0
IsCopyOf (borrowed.Comment text) (own.Comment copy) = string_bytes copy ≡ cow_str_bytes text
IsCopyOf (borrowed.KVPair key value) (own.KVPair key_copy value_copy) =
    (string_bytes key_copy ≡ cow_str_bytes key) × (string_bytes value_copy ≡ cow_str_bytes value)
IsCopyOf content other = ⊥

-- The owned copy of a borrowed item; or memory ran out.
abbrev pub IsLineOf : LineRef → Result Line PropertiesError → Type 0
IsLineOf line (Ok copy) = (line_number_of copy ≡ line.line_number) × IsCopyOf line.content (content_of copy)
IsLineOf line (Err e) = IsBareError kind.Memory e

abbrev pub IsContentOf : ContentRef → Result LineContent PropertiesError → Type 0
IsContentOf content (Ok copy) = IsCopyOf content copy
IsContentOf content (Err e) = IsBareError kind.Memory e

-- ---- what was found

-- the bytes of a text: its slice of the line, or the text with its escapes resolved
abbrev pub resolved_bytes : {Z : Type 0} → List ℕ → Option (String Z) → List ℕ
resolved_bytes slice None = slice
resolved_bytes slice (Some text) = string_bytes text

abbrev pub found_bytes : List ℕ → FoundText → List ℕ
found_bytes line text = resolved_bytes (bytes_in line text.span) text.resolved

abbrev pub found_content : List ℕ → FoundContent → Content
found_content line (found.Comment text) = entry.comment (chars (found_bytes line text))
found_content line (found.KVPair key value) = entry.pair (chars (found_bytes line key)) (chars (found_bytes line value))

-- the entry that was found in this line
abbrev pub found_entry : List ℕ → Found → Entry
found_entry line found = item found.line_number (found_content line found.content)

abbrev pub spans_of : FoundContent → ParsedSpans
spans_of (found.Comment text) = spans.Comment text.span
spans_of (found.KVPair key value) = spans.KVPair key.span value.span

-- The text is what a slice of the line means. It was resolved if and only if the slice contains a backslash.
pub record IsFoundText (line : List ℕ) (text : FoundText) : Type 0 where
  pub span : IsSpan line text.span
  pub means : Means (chars (bytes_in line text.span)) (chars (found_bytes line text))
  pub resolved : is_some text.resolved ≡ holds_backslash (chars (bytes_in line text.span))

abbrev pub AreTextsIn : List ℕ → FoundContent → Type 0
AreTextsIn line (found.Comment text) = IsFoundText line text
AreTextsIn line (found.KVPair key value) = IsFoundText line key × IsFoundText line value

-- It was found in this logical line.
pub record IsFoundIn (line : List ℕ) (found : Found) : Type 0 where
  pub slices : IsSplit (chars line) (in_characters (spanned line (Some (spans_of found.content))))
  pub texts : AreTextsIn line found.content

-- ---- the result of finding it

-- The text of this span of the line; or why it can't be resolved.
abbrev pub FindsText : List ℕ → Span → Result FoundText UnescapeError → Type 0
FindsText line span (Ok text) = (text.span ≡ span) × IsFoundText line text
FindsText line span (Err e) = IsRefused (chars (bytes_in line span)) e

-- The texts of these spans of the line; or why they can't be resolved, whatever the line's number. In a pair, a
-- malformed key is reported before a malformed value.
abbrev pub FindsContent : List ℕ → ParsedSpans → Result FoundContent UnescapeError → Type 0
FindsContent line spans (Ok content) = (spans_of content ≡ spans) × AreTextsIn line content
FindsContent line spans (Err e) = (number : ℕ) (error : PropertiesError) → IsUnresolvedError e number error → IsNoItem number (chars line) error

-- What was found in a logical line, or `None` if it is blank; or why its texts can't be resolved, whatever its number.
abbrev pub FindsIn : List ℕ → ℕ → Result (Option Found) UnescapeError → Type 0
FindsIn line number (Ok None) = outcome_of (chars line) ≡ ignored
FindsIn line number (Ok (Some found)) = (found.line_number ≡ number) × IsFoundIn line found
FindsIn line number (Err e) = (number : ℕ) (error : PropertiesError) → IsUnresolvedError e number error → IsNoItem number (chars line) error

-- What was found in a logical line, or `None` if it is blank; or the error of the line with this number.
abbrev pub FindsItem : List ℕ → ℕ → Result (Option Found) PropertiesError → Type 0
FindsItem line number (Ok None) = outcome_of (chars line) ≡ ignored
FindsItem line number (Ok (Some found)) = (found.line_number ≡ number) × IsFoundIn line found
FindsItem line number (Err e) = IsNoItem number (chars line) e
