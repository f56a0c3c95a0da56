-- What the exports write to memory of what they read, find and print.
use Rattle.std.specs.Prelude.{ℕ, List, ◌≡◌, ◌≤◌, ◌==◌, ◌⊎◌, ◌+◌, ◌++◌, [], ◌∷◌, length, map, take, drop, Option, Some, None, Result, Ok, Err, if◌then◌else◌, Bool, true, false, encode_utf8_all}
use Rattle.std.specs.{List.list_any, Global.Vec}
use Rattle.properties_format.specs.{Computed.Encoding.decoded_of, Computed.Items.outcome_of, Computed.Lines.lines_of, Lines.line_endings, Text.line_feed}
use Rattle.properties_format.specs.{Edited.is_editable, Split.Logical, Split.blank, Escapes.Malformed, Encoding.Encoding, Encoding.byte_order_mark}
use Rattle.properties_format.specs.{Encoding.output_encoding, Found.AreMalformedEscapes, Settings.Settings, Settings.IsGoodPrefix, Settings.IsGoodSeparator}
use Rattle.properties_format.specs.Items.{Content, Entry, Outcome, ignored, given, broken, comment, pair}
use Rattle.properties_items.specs.{BorrowedItems.IsNoItem, BorrowedItems.borrowed_content, Errors.IsMalformed, Errors.kind_of}
use Rattle.properties_items.specs.{declared.borrowed.LineRef.LineRef, declared.error.ErrorKind.ErrorKind, declared.error.PropertiesError.PropertiesError}
use Rattle.properties_items.specs.declared.findings.MalformedEscape.{MalformedEscape}
use Rattle.properties_editing.specs.{Views.OpenView, Views.IsViewOf, declared.group.GroupKind.GroupKind}
use Rattle.properties_editing.specs.declared.group.GroupKind.TheVariants as group
use Rattle.properties_c.specs.Items.{AreAsked, GivesAskedLine, IsPackedGroup, ArePacked, key_in, outcome_value}
use Rattle.properties_c.specs.{Parts.IsLineEnd, declared.asked.Asked.Asked, declared.asked.Texts.Texts, declared.items.PackedItems.PackedItems}
use Rattle.properties_c.specs.{Private.Lists.RefusesList, Writing.AreGood, Writing.lines_before, declared.status.Status.Status}
use Rattle.properties_c.specs.Packed.{IsPackedList, lines, end_bytes, item_record, Record, packed, packed_items, reading_line, reading_status, finding_bytes, packed_findings}
use Rattle.properties_c.specs.declared.asked.Texts.TheVariants as texts
use Rattle.properties_format.specs.Found as format
use Rattle.java_properties.specs.{Errors.IsBareError, Findings.AreKeyLines, Findings.KeyEntry, Calls.HasMade, Calls.HasMadeCall, PropertiesWriter.Writing}
use Rattle.java_properties.specs.{PropertiesWriter.call_of, PropertiesWriter.with_settings}
use Rattle.properties_items.specs.declared.error.ErrorKind.TheVariants as kind
use mathlib.Core.Bool.{beq}
use Rattle.properties_format.specs.Writing.{Call, comment_call, answers, wrote}
use Rattle.counted_io.specs.{Counting.counted_inner, Streams.Sink, declared.counted.Counted.Counted}
use Rattle.properties_tables.specs.declared.error.Failure.{Failure}
use Rattle.properties_tables.specs.declared.error.Failure.TheVariants.{Utf32Mark, HoldsZero, NotUtf8, NotUtf8ByMark, NotUtf16}
use Rattle.properties_c.specs.declared.status.Status.TheVariants.{NoMemory, BadPrefix, BadSeparator, EmptyKey}

-- ---- The items of a source.

-- These are the items of the source, packed, with the status and the line of its end or of its malformed escape.
pub record HasItems (a : Asked) (e : Encoding) (source : List ℕ) (items : PackedItems) : Type 0 where
  pub entries : List Entry
  pub asked : AreAsked a e source entries
  pub bytes : items.bytes.items ≡ packed_items entries
  pub status : items.status ≡ reading_status entries
  pub line : items.line ≡ reading_line entries

-- These are the items of the front of a part, and then where it ends.
pub record HasFront (a : Asked) (e : Encoding) (front : List ℕ) (items : PackedItems) : Type 0 where
  pub entries : List Entry
  pub asked : AreAsked a e front entries
  pub bytes : items.bytes.items ≡ packed_items entries ++ end_bytes (reading_status entries) e front (line_endings asked.has_groups.lines)
  pub status : items.status ≡ reading_status entries
  pub line : items.line ≡ reading_line entries

-- The last place of a body where a line ends; or it has none.
abbrev pub TellsLast : Encoding → List ℕ → Option ℕ → Type 0
TellsLast e body None = (before after : List ℕ) → body ≡ before ++ after → IsLineEnd e before after → ⊥
TellsLast e body (Some at) =
    (at ≤ length body) × IsLineEnd e (take at body) (drop at body)
    × ((before after : List ℕ) → body ≡ before ++ after → IsLineEnd e before after → length before ≤ at)

-- This is the encoding in force in a source, and the number of its line endings.
abbrev pub TellsLines : Encoding → List ℕ → Encoding → ℕ → Type 0
TellsLines e source f lines = (f ≡ (byte_order_mark e source).encoding) × (lines ≡ line_endings (lines_of (decoded_of e source)))

-- how many LFs there are
abbrev pub feeds : List ℕ → ℕ
feeds [] = 0
feeds (c ∷ cs) = if c == line_feed then feeds cs + 1 else feeds cs

-- What a logical line gives was appended.
abbrev pub AppendsOutcome : ℕ → Outcome → List ℕ → List ℕ → Type 0
AppendsOutcome number ignored old new = new ≡ old
AppendsOutcome number (given content) old new = new ≡ old ++ packed (item_record number content)
AppendsOutcome number (broken how) old new = ⊥

-- Or an escape of it that is read is malformed, and nothing was; or memory ran out.
abbrev pub PushesLine : Asked → ℕ → List ℕ → List ℕ → Result Unit PropertiesError → List ℕ → Type 0
PushesLine a number x old (Ok done) new = (o : Outcome) × GivesAskedLine a x o × AppendsOutcome number o old new
PushesLine a number x old (Err error) new =
    ((how : Malformed) × GivesAskedLine a x (broken how) × IsMalformed how number error × (new ≡ old)) ⊎ IsBareError kind.Memory error

-- The same of a line that is read.
abbrev pub PushesRead : ℕ → List ℕ → List ℕ → Result Unit PropertiesError → List ℕ → Type 0
PushesRead number x old (Ok done) new = AppendsOutcome number (outcome_of x) old new
PushesRead number x old (Err error) new = IsNoItem number x error × (new ≡ old) ⊎ IsBareError kind.Memory error

-- the record of a logical line with its texts as they stand
abbrev pub standing_record : ℕ → Logical → Record
standing_record number blank = item_record number (comment [])
standing_record number (Logical.comment text) = item_record number (comment text)
standing_record number (Logical.pair key value) = item_record number (pair key value)

-- the record of a content, of this kind, and the kind of an item
abbrev pub content_record : ℕ → ℕ → Content → Record
content_record kind number content = record { kind = kind; line = number; key = encode_utf8_all (key_in (given content)); value = encode_utf8_all (outcome_value (given content)) }

abbrev pub kind_of_content : Content → ℕ
kind_of_content (comment text) = 0
kind_of_content (pair key value) = 1

-- The item of a logical line; or it has none.
abbrev pub Resolves : List ℕ → Option LineRef → Type 0
Resolves x (Some item) = outcome_of x ≡ given (borrowed_content item.content)
Resolves x None = (outcome_of x ≡ ignored) ⊎ ((how : Malformed) × (outcome_of x ≡ broken how))

-- whether texts are passed over, whether they are read, and whether those of a group are
abbrev pub passes : Texts → Bool
passes texts.PassedOver = true
passes other = false

abbrev pub reads : Texts → Bool
reads texts.Read = true
reads other = false

abbrev pub is_read : Asked → GroupKind → Bool
is_read a group.Blank = false
is_read a group.Comment = reads a.comments
is_read a group.Pair = reads a.pairs

-- The group that was given last was appended.
abbrev pub PushesGroup : Asked → OpenView → List ℕ → List ℕ → Type 0
PushesGroup a v old new = (first : List ℕ) × IsPackedGroup a v first × (new ≡ old ++ first)

-- The groups of a source were packed; or it is in UTF-16, or memory ran out.
abbrev pub PacksGroups : Asked → Encoding → List ℕ → Result (Vec ℕ) PropertiesError → Type 0
PacksGroups a e source (Ok bytes) = (view : OpenView) × IsViewOf e source view × ArePacked a view view.to_come bytes.items
PacksGroups a e source (Err error) =
    (is_editable (byte_order_mark e source).encoding ≡ false) × IsBareError kind.Unsupported error ⊎ IsBareError kind.Memory error

-- ---- Why a source isn't text.

-- the line of a failure, if it is one for the bytes of a source
abbrev pub unsound_line : Failure → Option ℕ
unsound_line Utf32Mark = Some 1
unsound_line (HoldsZero number) = Some number
unsound_line (NotUtf8 number) = Some number
unsound_line (NotUtf8ByMark number) = Some number
unsound_line (NotUtf16 number) = Some number
unsound_line other = None

-- ---- What is found in a source that is held whole.

-- the kind of a finding for an error of this kind
abbrev pub kind_of_finding : ErrorKind → ℕ
kind_of_finding kind.NotEnoughDigits = 1
kind_of_finding kind.NotHex = 2
kind_of_finding other = 3

abbrev pub malformed_bytes : MalformedEscape → List ℕ
malformed_bytes escape = finding_bytes (kind_of_finding escape.kind) escape.line_number (if escape.in_comment then 1 else 0) []

-- These are the bytes of what is wrong in a source.
pub record HasFindings (e : Encoding) (source bytes : List ℕ) : Type 0 where
  pub escapes : List format.MalformedEscape
  pub are_escapes : AreMalformedEscapes e source escapes
  pub only_escapes : (others : List format.MalformedEscape) → AreMalformedEscapes e source others → others ≡ escapes
  pub keys : List KeyEntry
  pub are_keys : AreKeyLines e source keys
  pub only_keys : (others : List KeyEntry) → AreKeyLines e source others → others ≡ keys
  pub is : bytes ≡ packed_findings escapes keys

abbrev pub FindsAll : Encoding → List ℕ → Result (Vec ℕ) PropertiesError → Type 0
FindsAll e source (Ok bytes) = HasFindings e source bytes.items
FindsAll e source (Err error) = IsBareError kind.Memory error

-- ---- What a writer with these settings writes.

-- One of the settings is bad, of which the first counts; or memory ran out.
abbrev pub RefusesSettings : Settings → Status → Type 0
RefusesSettings s BadPrefix = IsGoodPrefix s.comment_prefix → ⊥
RefusesSettings s BadSeparator = IsGoodPrefix s.comment_prefix × (IsGoodSeparator s.kv_separator → ⊥)
RefusesSettings s NoMemory = Unit {0}
RefusesSettings s other = ⊥

-- This is the writer with these settings, or they are refused.
abbrev pub SetsSettings : {W : Type 0} → Writing W → Settings → Result (Writing W) Status → Type 0
SetsSettings w s (Ok writer) = AreGood s × (writer ≡ with_settings w s)
SetsSettings w s (Err status) = RefusesSettings s status

-- whether a call is not accepted
abbrev pub has_refused_call : Settings → List Call → Bool
has_refused_call s calls = list_any (λ answer. beq answer false) (answers s calls)

-- Why lines are refused: because of the settings, or because one isn't accepted.
abbrev pub RefusesCalls : Settings → List Call → Status → Type 0
RefusesCalls s calls EmptyKey = AreGood s × (has_refused_call s calls ≡ true)
RefusesCalls s calls status = RefusesSettings s status

-- Why a list is refused whose lines are written with these settings.
abbrev pub RefusesLines : Settings → List ℕ → Status → Type 0
RefusesLines s list status =
    RefusesList lines list status ⊎ ((contents : List Content) × IsPackedList lines list contents × RefusesCalls s (map call_of contents) status)

-- The list is refused with this status; or it isn't, and the status is that of the settings.
abbrev pub RefusesListFirst : List ℕ → Status → Status → Type 0
RefusesListFirst list settings status =
    RefusesList lines list status ⊎ ((contents : List Content) × IsPackedList lines list contents × (status ≡ settings))

-- whether a line was accepted, by the result of writing it to memory
abbrev pub accepted_for : ErrorKind → Result Bool Status
accepted_for kind.EmptyKey = Ok false
accepted_for other = Err NoMemory

abbrev pub acceptance : Result Unit PropertiesError → Result Bool Status
acceptance (Ok done) = Ok true
acceptance (Err error) = accepted_for (kind_of error)

-- A line was written, or the writer didn't accept it; or memory ran out.
abbrev pub WritesContent : {W : Type 0} → Sink W → Content → Writing W → Result Bool Status → Writing W → Type 0
WritesContent sink content old (Ok accepted) new = HasMadeCall sink old (call_of content) accepted new
WritesContent sink content old (Err status) new = status ≡ NoMemory

-- The lines of a list were written that the writer accepts, and this is whether it didn't accept one.
pub record HasAddedAll {W : Type 0} (sink : Sink W) (list : List ℕ) (old : Writing W) (refused : Bool) (new : Writing W) : Type 0 where
  pub contents : List Content
  pub are_lines : IsPackedList lines list contents
  pub made : HasMade sink old (map call_of contents) new
  pub refuses : refused ≡ has_refused_call old.settings (map call_of contents)

abbrev pub AddsLines : {W : Type 0} → Sink W → List ℕ → Writing W → Result Bool Status → Writing W → Type 0
AddsLines sink list old (Ok refused) new = HasAddedAll sink list old refused new
AddsLines sink list old (Err status) new = RefusesList lines list status

-- what a writer with these settings writes before the lines of a call, if lines were written before
abbrev pub opening : Encoding → Settings → Bool → List ℕ
opening e s false = []
opening e s true = wrote (output_encoding e) s 0 (comment_call [] ∷ [])

-- This is the writer with these settings that wrote its opening; or one of them is bad, of which the first counts.
pub record HasOpened (e : Encoding) (s : Settings) (goes_on : Bool) (w : Writing (Counted (Vec ℕ))) : Type 0 where
  pub good : AreGood s
  pub is : w ≡ record { sink = w.sink; encoding = output_encoding e; settings = s; lines = lines_before goes_on; failed = false }
  pub wrote_before : (counted_inner w.sink).items ≡ opening e s goes_on

abbrev pub Opens : Encoding → Settings → Bool → Result (Writing (Counted (Vec ℕ))) Status → Type 0
Opens e s goes_on (Ok writer) = HasOpened e s goes_on writer
Opens e s goes_on (Err status) = RefusesSettings s status

-- These are the opening and the lines of a list, and all were accepted; or this is wrong.
pub record HasWrittenList (e : Encoding) (s : Settings) (goes_on : Bool) (list bytes : List ℕ) : Type 0 where
  pub contents : List Content
  pub are_lines : IsPackedList lines list contents
  pub good : AreGood s
  pub accepted : has_refused_call s (map call_of contents) ≡ false
  pub is : bytes ≡ opening e s goes_on ++ wrote (output_encoding e) s (lines_before goes_on) (map call_of contents)

abbrev pub WritesList : Encoding → Settings → Bool → List ℕ → Result (Vec ℕ) Status → Type 0
WritesList e s goes_on list (Ok bytes) = HasWrittenList e s goes_on list bytes.items
WritesList e s goes_on list (Err status) = RefusesLines s list status

-- The same, with the length of the opening.
abbrev pub WritesOn : Encoding → Settings → Bool → List ℕ → Result (Vec ℕ × ℕ) Status → Type 0
WritesOn e s goes_on list (Ok (bytes, front)) = HasWrittenList e s goes_on list bytes.items × (front ≡ length (opening e s goes_on))
WritesOn e s goes_on list (Err status) = RefusesLines s list status
