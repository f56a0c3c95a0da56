-- What `check` reports of a source, one finding a line.
use Rattle.std.specs.Prelude.{◌≡◌, ℕ, ◌+◌, ◌==◌, ◌&&◌, not, nat_lt, Bool, true, false, if◌then◌else◌, length, List, [], ◌∷◌, ◌++◌, Option, Some, None, Result, Ok, Err, codes, map, string_bytes}
use Rattle.std.specs.Fmt.{decimal, digits}
use Rattle.std.specs.List.{flat_map, list_any}
use Rattle.std.specs.Option.{is_some}
use Rattle.std.specs.List.Sorted.{IsNonDecreasingBy, IsStableByKey}
use Rattle.std.specs.Ordering.{nat_cmp}
use Rattle.std.specs.declared.string.String.{String}
use Rattle.properties_format.specs.Encoding.{Encoding}
use Rattle.properties_format.specs.Windows1252.{windows_1252_character, windows_1252_table}
use Rattle.properties_format.specs.Found as format
use Rattle.properties_format.specs.Found.{AreMalformedEscapes}
use Rattle.properties_format.specs.Text.{line_feed}
use Rattle.java_properties.specs.DisplayTexts.{description}
use Rattle.java_properties.specs.Errors.{IsBareError}
use Rattle.java_properties.specs.Findings.{AreKeyLines, KeyEntry, escape_records}
use Rattle.properties_items.specs.declared.error.ErrorKind.TheVariants as kind
use Rattle.properties_items.specs.declared.error.PropertiesError.{PropertiesError}
use Rattle.properties_items.specs.declared.findings.MalformedEscape.{MalformedEscape}
use Rattle.properties_items.specs.declared.error.ErrorKind.{ErrorKind}
use Rattle.json.specs.Json as json
use Rattle.json.specs.Json.{boolean, member, no_members, object, string, Json, Members}
use Rattle.properties_tables.specs.Messages.{all_shown, escaped}
use Rattle.properties_tables.specs.Failures.{ill_formed_words, ill_formed_by_mark_words, not_utf_16_words, zero_words}
use Rattle.properties_tables.specs.Lines.{starts_with_bom, AreFlawedLines, IsFirstFlawed, IsFirstUtf8}
use Rattle.properties_checking.specs.JsonLines.{text_value, IsReportText}
use Rattle.properties_checking.specs.Kinds.{kind_name, reported}
use Rattle.properties_checking.specs.Misread.{misread_at, misread_kind, misread_mark, misread_words, AreMisread}
use Rattle.properties_tables.specs.Sources.{is_in_utf_16}
use Rattle.properties_checking.specs.declared.check.Words.{Words}
use Rattle.properties_checking.specs.declared.check.Words.TheVariants.{WithEncoding, WithByteOrderMark, NotUtf8, NotUtf16}
use Rattle.properties_tables.specs.declared.ill_formed.Flaw.TheVariants as flaw
use Rattle.properties_checking.specs.declared.kinds.Kind.{Kind}
use Rattle.properties_checking.specs.declared.kinds.Kind.TheVariants.{Zero, IllFormed, LooksLikeUtf8, NonAscii, ReadOtherwise, EscapeInPair, EscapeInComment, RepeatedKey}
use Rattle.properties_checking.specs.declared.misread.Misread.{Misread}
use Rattle.properties_checking.specs.declared.request.Allowed.{Allowed}
use Rattle.properties_checking.specs.declared.request.Allowed.TheVariants.{All, Latin1, Ascii}
use Rattle.properties_checking.specs.declared.request.Check.{Check}

-- ---- what is reported

-- What is wrong: U+0000; an ill-formed line, with these words; UTF-8 that is read as windows-1252; a non-ASCII character; this
-- byte, which ISO 8859-1 reads differently; what Java reads differently; a malformed escape, perhaps in a comment; this key, which
-- a pair in this line has.
pub data What : Type 0 where
  holds_zero : What
  is_ill_formed : Words → What
  looks_like_utf_8 : What
  is_non_ascii : What
  is_read_otherwise : ℕ → What
  is_misread : Misread → What
  is_malformed : ErrorKind → Bool → What
  repeats_key : List ℕ → ℕ → What

-- what is reported of a line
pub record SaidFinding : Type 0 where
  pub line : ℕ
  pub what : What

abbrev pub said : What → ℕ → SaidFinding
said what number = record { line = number; what = what }

-- of the first line with a finding, if there is one
abbrev pub first_of : {X : Type 0} → (ℕ → X) → Option ℕ → List X
first_of of None = []
first_of of (Some number) = of number ∷ []

-- the message for the first ill-formed line of a source: with what helps, if it is not UTF-8 and no line has U+0000
abbrev pub first_words : Encoding → List ℕ → Bool → Words
first_words e source has_zero =
    if is_in_utf_16 e source then NotUtf16 else (if starts_with_bom source then WithByteOrderMark else (if has_zero then NotUtf8 else WithEncoding))

-- and for those after it, which don't say it again
abbrev pub words_after : Words → Words
words_after NotUtf16 = NotUtf16
words_after other = NotUtf8

-- what is reported of the ill-formed lines, if this is the message for the first
abbrev pub ill_formed_of : {X : Type 0} → (Words → ℕ → X) → Words → List ℕ → List X
ill_formed_of of words [] = []
ill_formed_of of words (number ∷ numbers) = of words number ∷ ill_formed_of of (words_after words) numbers

-- whether a text has U+FFFD, as which ill-formed bytes are read
abbrev pub has_replacement : List ℕ → Bool
has_replacement text = list_any (λ c. c == 65533) text

-- ---- words

-- of an ill-formed line
abbrev pub ill_formed_text : Words → List ℕ
ill_formed_text WithEncoding = ill_formed_words
ill_formed_text WithByteOrderMark = ill_formed_by_mark_words
ill_formed_text NotUtf8 = codes "not UTF-8"
ill_formed_text NotUtf16 = not_utf_16_words

-- of a byte that ISO 8859-1 reads as another character, and of its character in windows-1252
abbrev pub otherwise_words : ℕ → ℕ → List ℕ
otherwise_words byte c =
    codes "byte " ++ (digits 16 true byte
    ++ (codes " is '\\u" ++ ((if nat_lt c 0x1000 then codes "0" else []) ++ (digits 16 false c
    ++ (codes "' in windows-1252 and U+00" ++ (digits 16 true byte ++ codes " to Java"))))))

-- what is added where an escape is in a comment
abbrev pub comment_words : Bool → List ℕ
comment_words true = codes " (in a comment, which Java and propedit pass over)"
comment_words false = []

abbrev pub words_of : What → List ℕ
words_of holds_zero = zero_words
words_of (is_ill_formed words) = ill_formed_text words
words_of looks_like_utf_8 = codes "looks like UTF-8; without -e it is read as UTF-8"
words_of is_non_ascii = codes "has a non-ASCII character"
words_of (is_read_otherwise byte) = otherwise_words byte (windows_1252_character byte)
words_of (is_misread m) = misread_words m
words_of (is_malformed kind in_comment) = description kind ++ comment_words in_comment
words_of (repeats_key key first) = codes "repeats the key '" ++ (all_shown key ++ (codes "' of line " ++ decimal first))

abbrev pub finding_kind : What → Kind
finding_kind holds_zero = Zero
finding_kind (is_ill_formed words) = IllFormed
finding_kind looks_like_utf_8 = LooksLikeUtf8
finding_kind is_non_ascii = NonAscii
finding_kind (is_read_otherwise byte) = ReadOtherwise
finding_kind (is_misread m) = misread_kind m
finding_kind (is_malformed kind true) = EscapeInComment
finding_kind (is_malformed kind false) = EscapeInPair
finding_kind (repeats_key key first) = RepeatedKey

-- ---- findings

-- Of a key: that a pair in an earlier line has it. Where a line is ill-formed, a key with U+FFFD repeats no other.
abbrev pub repeats_of : Bool → KeyEntry → List SaidFinding
repeats_of is_well_formed k =
    if k.first == k.number then [] else
    if not is_well_formed && has_replacement k.key then [] else
    said (repeats_key k.key k.first) k.number ∷ []

-- the findings on this mark at the front, this line with U+0000, these ill-formed lines, this line that looks like
-- UTF-8, these lines that aren't ASCII, bytes that are read differently, escapes and keys, one kind after another
abbrev pub all_said : Option Misread → Words → Option ℕ → List ℕ → Option ℕ → List ℕ → List SaidFinding → List MalformedEscape → List KeyEntry
    → List SaidFinding
all_said mark words zero numbers utf_8 refused otherwise escapes keys =
    misread_at (λ m. said (is_misread m)) 1 mark
    ++ (first_of (said holds_zero) zero
    ++ (ill_formed_of (λ w. said (is_ill_formed w)) words numbers
    ++ (first_of (said looks_like_utf_8) utf_8
    ++ (map (said is_non_ascii) refused
    ++ (otherwise
    ++ (map (λ escape. said (is_malformed escape.kind escape.in_comment) escape.line_number) escapes
    ++ flat_map (repeats_of (length numbers == 0)) keys))))))

-- They are in the order of their lines, and those of one line in the order that they have in the others.
pub record ArrangesByLine (all arranged : List SaidFinding) : Type 0 where
  pub in_order : IsNonDecreasingBy (λ s. s.line) arranged
  pub stable : IsStableByKey (λ s. s.line) nat_cmp all arranged

-- the line `NAME:LINE: TEXT`
abbrev pub said_line : List ℕ → SaidFinding → List ℕ
said_line name s = escaped name ++ (codes ":" ++ (decimal s.line ++ (codes ": " ++ (words_of s.what ++ (line_feed ∷ [])))))

-- ---- in JSON

-- what an object says more, before these members
abbrev pub detailed : What → Members → Members
detailed (is_malformed kind in_comment) rest = member (codes "in_comment") (boolean in_comment) rest
detailed (repeats_key key first) rest = member (codes "key") (text_value key) (member (codes "first") (json.number (decimal first)) rest)
detailed other rest = rest

-- The object has the name of the source, the line, and the words of the line that is printed otherwise.
abbrev pub said_value : List ℕ → SaidFinding → Json
said_value name s = object (
    member (codes "file") (string name) (
    member (codes "line") (json.number (decimal s.line)) (
    member (codes "kind") (string (kind_name (finding_kind s.what))) (
    detailed s.what (
    member (codes "message") (string (words_of s.what)) no_members)))))

-- ---- the report

-- These are the numbers of the well-formed lines with a character that isn't allowed.
abbrev pub AreRefused : Allowed → Encoding → List ℕ → List ℕ → Type 0
AreRefused All e source numbers = numbers ≡ []
AreRefused Latin1 e source numbers = numbers ≡ []
AreRefused Ascii e source numbers = AreFlawedLines flaw.NonAscii e source numbers

-- the bytes from this one on, of these characters in windows-1252, that ISO 8859-1 reads as other characters
abbrev pub other_bytes : ℕ → List ℕ → List ℕ
other_bytes byte [] = []
other_bytes byte (c ∷ cs) = if c == byte then other_bytes (byte + 1) cs else byte ∷ other_bytes (byte + 1) cs

module _ {X : Type 0} (of : ℕ → ℕ → X) where
  -- These are the findings on the lines that have one of these bytes, byte by byte.
  abbrev pub AreWithBytes : Encoding → List ℕ → List ℕ → List X → Type 0
  AreWithBytes e source [] findings = findings ≡ []
  AreWithBytes e source (byte ∷ bytes) findings =
      (numbers : List ℕ) × (others : List X) × AreFlawedLines (flaw.Byte byte) e source numbers
      × (findings ≡ map (of byte) numbers ++ others) × AreWithBytes e source bytes others

  -- These are the findings on those with bytes that aren't allowed.
  abbrev pub AreOtherBytes : Allowed → Encoding → List ℕ → List X → Type 0
  AreOtherBytes Latin1 e source findings = AreWithBytes e source (other_bytes 0x80 windows_1252_table) findings
  AreOtherBytes other e source findings = findings ≡ []

-- These are the findings on what Java reads differently than people think, and on bytes that aren't allowed.
pub record AreOtherwise {X : Type 0} (of : Misread → ℕ → X) (of_byte : ℕ → ℕ → X) (allowed : Allowed) (e : Encoding) (source : List ℕ) (findings : List X)
    : Type 0 where
  pub misread : List X
  pub are_misread : AreMisread of e source misread
  pub bytes : List X
  pub are_bytes : AreOtherBytes of_byte allowed e source bytes
  pub is : findings ≡ misread ++ bytes

-- The text has, in the form that is asked for, the mark at the front of a source that Java reads as text, its first line with
-- U+0000, its ill-formed lines, its first non-ASCII line if it is UTF-8 that is read as windows-1252, its well-formed lines with
-- a character that isn't allowed, what else Java reads differently, its malformed escapes and its repeated keys, in the order of
-- the lines, but for those of kinds that are ignored.
pub record IsReport (name : List ℕ) (e : Encoding) (check : Check) (source text : List ℕ) : Type 0 where
  pub zero : Option ℕ
  pub is_zero : IsFirstFlawed flaw.Zero e source zero
  pub numbers : List ℕ
  pub ill_formed : AreFlawedLines flaw.IllFormed e source numbers
  pub utf_8 : Option ℕ
  pub looks_utf_8 : IsFirstUtf8 e source utf_8
  pub refused : List ℕ
  pub are_refused : AreRefused check.allowed e source refused
  pub otherwise : List SaidFinding
  pub are_otherwise : AreOtherwise (λ m. said (is_misread m)) (λ byte. said (is_read_otherwise byte)) check.allowed e source otherwise
  pub escapes : List format.MalformedEscape
  pub malformed : AreMalformedEscapes e source escapes
  pub keys : List KeyEntry
  pub are_keys : AreKeyLines e source keys
  pub all : List SaidFinding
  pub arranged : ArrangesByLine
      (all_said (misread_mark source) (first_words e source (is_some zero)) zero numbers utf_8 refused otherwise (escape_records escapes) keys) all
  pub is : IsReportText check.report (said_line name) (said_value name) (reported check.ignored (λ s. finding_kind s.what) all) text

-- What reporting returns. It fails only if memory runs out.
abbrev pub ReportsFindings : {Z : Type 0} → Encoding → Check → List ℕ → List ℕ → Result (String Z) PropertiesError → Type 0
ReportsFindings e check name source (Ok text) = IsReport name e check source (string_bytes text)
ReportsFindings e check name source (Err error) = IsBareError kind.Memory error
