-- What a list of calls to a writer writes, and what is read back.
-- Source: java.util.Properties of Java SE 7, store, which writes one comment or one pair a line.
use Rattle.std.specs.Prelude.{◌≡◌, All, ℕ, ◌+◌, ◌==◌, ◌&&◌, not, Bool, true, false, if◌then◌else◌, List, [], ◌∷◌, ◌++◌, Option, Some, None}
use Rattle.properties_format.specs.Text.{scalar, LineEnding, backslash, is_blanks, is_comment_sign, is_empty}
use Rattle.properties_format.specs.Encoding.{Encoding}
use Rattle.properties_format.specs.Computed.Split.{trimmed}
use Rattle.properties_format.specs.Items.{Content, comment, pair, Entry, item}
use Rattle.properties_format.specs.Settings.{Settings, IsGoodPrefix, IsGoodSeparator}
use Rattle.properties_format.specs.Computed.Settings.{is_good_prefix, is_good_separator}
use Rattle.properties_format.specs.Printing.{printed}

-- a call: writes a comment or a pair, changes a setting, flushes, or turns ASCII-only or readable output on or off
pub data Call : Type 0 where
  comment_call : List ℕ → Call
  pair_call : List ℕ → List ℕ → Call
  prefix_call : List ℕ → Call
  separator_call : List ℕ → Call
  ending_call : LineEnding → Call
  flush_call : Call
  ascii_only_call : Bool → Call
  readable_call : Bool → Call

-- whether a writer accepts a call: only good prefixes and separators; every pair, except one with an empty key under a
-- separator of blanks only; and every other call
abbrev pub is_accepted : Settings → Call → Bool
is_accepted s (pair_call key value) = not (is_empty key && is_blanks s.kv_separator)
is_accepted s (prefix_call prefix) = is_good_prefix prefix
is_accepted s (separator_call separator) = is_good_separator separator
is_accepted s call = true

-- the settings after one call, and after a list of calls
abbrev pub settings_after_call : Settings → Call → Settings
settings_after_call s (prefix_call prefix) = if is_good_prefix prefix then record s { comment_prefix = prefix } else s
settings_after_call s (separator_call separator) = if is_good_separator separator then record s { kv_separator = separator } else s
settings_after_call s (ending_call line_ending) = record s { line_ending = line_ending }
settings_after_call s (ascii_only_call on) = record s { ascii_only = on }
settings_after_call s (readable_call on) = record s { readable = on }
settings_after_call s call = s

abbrev pub settings_after : Settings → List Call → Settings
settings_after s [] = s
settings_after s (call ∷ calls) = settings_after (settings_after_call s call) calls

-- the result of each call: whether it was accepted
abbrev pub answers : Settings → List Call → List Bool
answers s [] = []
answers s (call ∷ calls) = is_accepted s call ∷ answers (settings_after_call s call) calls

-- the line that a call writes, if it writes one: an accepted comment or pair
abbrev pub written_line : Settings → Call → Option Content
written_line s (comment_call text) = Some (comment text)
written_line s (pair_call key value) = if is_accepted s (pair_call key value) then Some (pair key value) else None
written_line s call = None

-- the number of lines after a line, if there is one
abbrev pub lines_with : ℕ → Option Content → ℕ
lines_with n None = n
lines_with n (Some line) = n + 1

-- the number of lines after a list of calls, counted from this number
abbrev pub line_count_after : Settings → ℕ → List Call → ℕ
line_count_after s n [] = n
line_count_after s n (call ∷ calls) = line_count_after (settings_after_call s call) (lines_with n (written_line s call)) calls

-- the bytes of a line, if there is one; it is the first if no line was written before it
abbrev pub line_bytes : Encoding → Settings → ℕ → Option Content → List ℕ
line_bytes e s n None = []
line_bytes e s n (Some line) = printed e s (n == 0) line

-- the bytes that a list of calls writes, starting with these settings and this number of lines: the printed lines, each
-- under the settings in force before it
abbrev pub wrote : Encoding → Settings → ℕ → List Call → List ℕ
wrote e s n [] = []
wrote e s n (call ∷ calls) =
    line_bytes e s n (written_line s call) ++ wrote e (settings_after_call s call) (lines_with n (written_line s call)) calls

-- what follows the first comment sign of a prefix
abbrev pub tail_of : List ℕ → List ℕ
tail_of [] = []
tail_of (c ∷ cs) = if is_comment_sign c then cs else tail_of cs

-- what is read back from a line: a pair is read back as itself, a comment as what follows the prefix's first comment
-- sign and the text, without the blanks at both ends
abbrev pub content_read_back : Settings → Content → Content
content_read_back s (comment text) = comment (trimmed (tail_of s.comment_prefix ++ text))
content_read_back s (pair key value) = pair key value

-- the item that is read back from a line, if there is one: the next item after n lines
abbrev pub item_read_back : Settings → ℕ → Option Content → List Entry
item_read_back s n None = []
item_read_back s n (Some line) = item (n + 1) (content_read_back s line) ∷ []

-- the items that are read back from the written lines: one per line, numbered after the lines before
abbrev pub items_read_back : Settings → ℕ → List Call → List Entry
items_read_back s n [] = []
items_read_back s n (call ∷ calls) = item_read_back s n (written_line s call) ++ items_read_back (settings_after_call s call) (lines_with n (written_line s call)) calls

-- ---- Which calls are read back.

-- No character of the text is a backslash.
abbrev pub HoldsNoBackslash : List ℕ → Type 0
HoldsNoBackslash [] = Unit {0}
HoldsNoBackslash (c ∷ cs) = ((c == backslash) ≡ false) × HoldsNoBackslash cs

-- Starting with these settings, no prefix under which a comment is written contains a backslash.
abbrev pub ArePrefixesClean : Settings → List Call → Type 0
ArePrefixesClean s [] = Unit {0}
ArePrefixesClean s (comment_call text ∷ calls) = HoldsNoBackslash s.comment_prefix × ArePrefixesClean s calls
ArePrefixesClean s (call ∷ calls) = ArePrefixesClean (settings_after_call s call) calls

-- Each text of the call consists of scalar values.
abbrev pub IsOfScalars : Call → Type 0
IsOfScalars (comment_call text) = All scalar text
IsOfScalars (pair_call key value) = All scalar key × All scalar value
IsOfScalars (prefix_call prefix) = All scalar prefix
IsOfScalars (separator_call separator) = All scalar separator
IsOfScalars call = Unit {0}

-- Each text of these calls consists of scalar values.
abbrev pub AreOfScalars : List Call → Type 0
AreOfScalars [] = Unit {0}
AreOfScalars (call ∷ calls) = IsOfScalars call × AreOfScalars calls

-- The settings of a writer are good. Those of a new writer are, and calls keep them good.
pub record AreGoodSettings (s : Settings) : Type 0 where
  pub prefix : IsGoodPrefix s.comment_prefix
  pub scalars : All scalar s.comment_prefix
  pub separator : IsGoodSeparator s.kv_separator

-- ---- Lists of pairs: the calls that write them, and the items that are read back.

-- a key and its value
abbrev pub Pair : Type 0
Pair = List ℕ × List ℕ

-- the pairs among these entries, in order
abbrev pub pairs_in : List Entry → List Pair
pairs_in [] = []
pairs_in (item number (pair key value) ∷ entries) = (key, value) ∷ pairs_in entries
pairs_in (entry ∷ entries) = pairs_in entries

-- the calls that write these pairs
abbrev pub calls_of : List Pair → List Call
calls_of [] = []
calls_of (p ∷ pairs) = pair_call p.0 p.1 ∷ calls_of pairs

-- the pairs as items, one per line, after n lines
abbrev pub items_after : ℕ → List Pair → List Entry
items_after n [] = []
items_after n (p ∷ pairs) = item (n + 1) (pair p.0 p.1) ∷ items_after (n + 1) pairs

-- Each pair is accepted, and consists of scalar values.
abbrev pub AreAccepted : Settings → List Pair → Type 0
AreAccepted s [] = Unit {0}
AreAccepted s (p ∷ pairs) = (is_accepted s (pair_call p.0 p.1) ≡ true) × AreAccepted s pairs

abbrev pub ArePairsOfScalars : List Pair → Type 0
ArePairsOfScalars [] = Unit {0}
ArePairsOfScalars (p ∷ pairs) = (All scalar p.0 × All scalar p.1) × ArePairsOfScalars pairs
