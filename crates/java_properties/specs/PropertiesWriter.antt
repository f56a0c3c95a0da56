-- A writer as its callers see it: its settings, and the effects of its setters and of its other calls.
use Rattle.std.specs.Prelude.{◌≡◌, ◌⊎◌, ℕ, Bool, true, List, Option, Some, None, Result, Ok, Err, ◌+◌, ◌^◌, ◌<◌, ◌==◌, false}
use Rattle.std.specs.Str.{chars}
use Rattle.std.specs.String.{string_bytes}
use Rattle.std.specs.declared.string.String.{String}
use Rattle.properties_format.specs.Settings.{Settings, default_settings, IsGoodPrefix, IsGoodSeparator}
use Rattle.properties_format.specs.Text.{is_blanks}
use Rattle.properties_format.specs.Computed.Settings.{is_good_prefix, is_good_separator}
use Rattle.properties_items.specs.Errors.{Refuses, RefusesText, kind_of, cause_of_write, IsError, IsBareError, IsStreamError}
use Rattle.properties_items.specs.declared.error.ErrorKind.{ErrorKind}
use Rattle.properties_items.specs.declared.error.ErrorKind.TheVariants as kind
use Rattle.properties_items.specs.declared.error.PropertiesError.{PropertiesError}
use Rattle.properties_items.specs.declared.line.LineEnding.{LineEnding}
use Rattle.java_properties.specs.declared.writer.settings.Settings.TheInside.{Inside}
use Rattle.properties_items.specs.Line.{ending_of}
use Rattle.std.specs.declared.io.Error.{Error}
use Rattle.counted_io.specs.Streams.{Sink, HasWritten, HasSentPart, HasFlushed, HasFailedFlush}
use Rattle.properties_format.specs.Encoding.{Encoding}
use Rattle.properties_format.specs.Items.{Content, comment, pair}
use Rattle.properties_format.specs.Printing.{printed}
use Rattle.properties_format.specs.Writing.{Call, comment_call, pair_call, is_accepted}

-- the characters of the prefix and of the separator, which have their defaults if none was set
abbrev pub prefix_of : {Z : Type 0} → Option (String Z) → List ℕ
prefix_of None = default_settings.comment_prefix
prefix_of (Some text) = chars (string_bytes text)

abbrev pub separator_of : {Z : Type 0} → Option (String Z) → List ℕ
separator_of None = default_settings.kv_separator
separator_of (Some text) = chars (string_bytes text)

abbrev pub settings_of : Inside → Settings
settings_of s = record {
  comment_prefix = prefix_of s.comment_prefix;
  kv_separator = separator_of s.kv_separator;
  line_ending = ending_of s.line_ending;
  ascii_only = s.ascii_only;
  readable = s.readable;
}

-- The prefix and the separator are always good, and `separator_is_blank` says whether the separator consists only of
-- blanks.
pub record AreGood (s : Inside) : Type 0 where
  pub prefix : is_good_prefix (prefix_of s.comment_prefix) ≡ true
  pub separator : is_good_separator (separator_of s.kv_separator) ≡ true
  pub blank : s.separator_is_blank ≡ is_blanks (separator_of s.kv_separator)

-- ---- setters

-- the settings with another prefix, another separator, another line ending and another mode of each kind
abbrev pub with_prefix : Settings → List ℕ → Settings
with_prefix s prefix = record s { comment_prefix = prefix }

abbrev pub with_separator : Settings → List ℕ → Settings
with_separator s separator = record s { kv_separator = separator }

abbrev pub with_ending : Settings → LineEnding → Settings
with_ending s ending = record s { line_ending = ending_of ending }

abbrev pub with_ascii_only : Settings → Bool → Settings
with_ascii_only s on = record s { ascii_only = on }

abbrev pub with_readable : Settings → Bool → Settings
with_readable s on = record s { readable = on }

-- The text is good and was set. Nothing else changed.
pub record HasSet {S : Type 0} (IsGood : Type 0) (set new : S) : Type 0 where
  pub good : IsGood
  pub after : new ≡ set

-- The text is bad. The error of this kind holds it, and nothing changed.
pub record RefusesBad {S : Type 0} (IsGood : Type 0) (kind : ErrorKind) (text : List ℕ) (old : S) (error : PropertiesError) (new : S) : Type 0 where
  pub bad : IsGood → ⊥
  pub refuses : RefusesText kind text error
  pub same : new ≡ old

-- The effect of setting a text, where success leads from `old` to `set`: a good text is set, a bad one is refused; or
-- memory ran out.
abbrev pub SetsText : {S : Type 0} → Type 0 → ErrorKind → List ℕ → S → S → Result Unit PropertiesError → S → Type 0
SetsText IsGood kind text old set (Ok done) new = HasSet IsGood set new
SetsText IsGood bad text old set (Err error) new = RefusesBad IsGood bad text old error new ⊎ Refuses kind.Memory old error new

abbrev pub TakesPrefix : Settings → List ℕ → Result Unit PropertiesError → Settings → Type 0
TakesPrefix old prefix = SetsText (IsGoodPrefix prefix) kind.BadCommentPrefix prefix old (with_prefix old prefix)

abbrev pub TakesSeparator : Settings → List ℕ → Result Unit PropertiesError → Settings → Type 0
TakesSeparator old separator = SetsText (IsGoodSeparator separator) kind.BadKvSeparator separator old (with_separator old separator)

-- A writer: its sink, the encoding that it writes, its settings, how many lines it wrote, and whether a write failed.
pub record Writing (W : Type 0) : Type 0 where
  pub sink : W
  pub encoding : Encoding
  pub settings : Settings
  pub lines : ℕ
  pub failed : Bool

-- a new writer, before its first line
abbrev pub new_writer : {W : Type 0} → Encoding → W → Writing W
new_writer encoding sink = record { sink = sink; encoding = encoding; settings = default_settings; lines = 0; failed = false }

-- ---- a line

-- the call that writes a line
abbrev pub call_of : Content → Call
call_of (comment text) = comment_call text
call_of (pair key value) = pair_call key value

-- the bytes of a line, if it is the next one written
abbrev pub next_line : {W : Type 0} → Writing W → Content → List ℕ
next_line w line = printed w.encoding w.settings (w.lines == 0) line

-- The writer accepts the line: no write failed before, the settings allow the line, and it has a number.
pub record TakesLine {W : Type 0} (w : Writing W) (line : Content) : Type 0 where
  pub live : w.failed ≡ false
  pub accepted : is_accepted w.settings (call_of line) ≡ true
  pub numbered : w.lines + 1 < 2 ^ 64

-- The line was written after the bytes that the sink had, and was counted. Nothing else changed.
pub record HasWrittenLine {W : Type 0} (sink : Sink W) (old : Writing W) (line : Content) (new : Writing W) : Type 0 where
  pub takes : TakesLine old line
  pub written : HasWritten sink old.sink (next_line old line) new.sink
  pub after : new ≡ record old { sink = new.sink; lines = old.lines + 1 }

-- when a line is refused with an error of this kind: a write failed before, a pair has an empty key and the separator
-- consists only of blanks, there are no more line numbers, or memory ran out
abbrev pub IsRefusedBy : {W : Type 0} → ErrorKind → Writing W → Content → Type 0
IsRefusedBy kind.Failed w line = w.failed ≡ true
IsRefusedBy kind.EmptyKey w line = (w.failed ≡ false) × (is_accepted w.settings (call_of line) ≡ false)
IsRefusedBy kind.TooManyLines w line = (w.failed ≡ false) × (is_accepted w.settings (call_of line) ≡ true) × (w.lines + 1 ≡ 2 ^ 64)
IsRefusedBy kind.Memory w line = TakesLine w line
IsRefusedBy other w line = ⊥

-- The line was refused before any byte of it was sent, and nothing changed.
pub record RefusesLine {W : Type 0} (old : Writing W) (line : Content) (error : PropertiesError) (new : Writing W) : Type 0 where
  pub reason : IsRefusedBy (kind_of error) old line
  pub is : IsBareError (kind_of error) error
  pub same : new ≡ old

-- A write failed. The sink has a proper prefix of the line, the error holds the line number and the sink's error, and
-- the writer has failed. Nothing else changed.
pub record FailsInLine {W : Type 0} (sink : Sink W) (old : Writing W) (line : Content) (error : PropertiesError) (new : Writing W) : Type 0 where
  pub takes : TakesLine old line
  pub cause : Option Error
  pub sent : HasSentPart sink old.sink (next_line old line) cause new.sink
  pub is : IsError kind.Io (Some (old.lines + 1)) (cause_of_write cause) error
  pub after : new ≡ record old { sink = new.sink; failed = true }

-- the effect of writing a line
abbrev pub WritesLine : {W : Type 0} → Sink W → Writing W → Content → Result Unit PropertiesError → Writing W → Type 0
WritesLine sink old line (Ok done) new = HasWrittenLine sink old line new
WritesLine sink old line (Err error) new = RefusesLine old line error new ⊎ FailsInLine sink old line error new

-- ---- a flush

-- The sink was flushed and took no byte. Nothing else changed.
pub record HasFlushedSink {W : Type 0} (sink : Sink W) (old new : Writing W) : Type 0 where
  pub live : old.failed ≡ false
  pub flushed : HasFlushed sink old.sink new.sink
  pub after : new ≡ record old { sink = new.sink }

-- A write failed before, so the call is refused, and nothing changed.
pub record RefusesAsFailed {W : Type 0} (old : Writing W) (error : PropertiesError) (new : Writing W) : Type 0 where
  pub failed : old.failed ≡ true
  pub refuses : Refuses kind.Failed old error new

-- The flush failed. The sink took no byte, the error holds the sink's error, and nothing else changed.
pub record FailsInFlush {W : Type 0} (sink : Sink W) (old : Writing W) (error : PropertiesError) (new : Writing W) : Type 0 where
  pub live : old.failed ≡ false
  pub cause : Error
  pub flushed : HasFailedFlush sink old.sink cause new.sink
  pub is : IsStreamError None cause error
  pub after : new ≡ record old { sink = new.sink }

-- the effect of a flush
abbrev pub Flushes : {W : Type 0} → Sink W → Writing W → Result Unit PropertiesError → Writing W → Type 0
Flushes sink old (Ok done) new = HasFlushedSink sink old new
Flushes sink old (Err error) new = RefusesAsFailed old error new ⊎ FailsInFlush sink old error new

-- ---- settings

-- the writer with these settings
abbrev pub with_settings : {W : Type 0} → Writing W → Settings → Writing W
with_settings w settings = record w { settings = settings }

-- The effects of the setters: a good text is set; a bad one is refused, and the error holds it; if memory runs out,
-- nothing changes either.
abbrev pub SetsPrefix : {W : Type 0} → Writing W → List ℕ → Result Unit PropertiesError → Writing W → Type 0
SetsPrefix old prefix =
    SetsText (IsGoodPrefix prefix) kind.BadCommentPrefix prefix old (with_settings old (with_prefix old.settings prefix))

abbrev pub SetsSeparator : {W : Type 0} → Writing W → List ℕ → Result Unit PropertiesError → Writing W → Type 0
SetsSeparator old separator =
    SetsText (IsGoodSeparator separator) kind.BadKvSeparator separator old (with_settings old (with_separator old.settings separator))

abbrev pub SetsEnding : {W : Type 0} → Writing W → LineEnding → Writing W → Type 0
SetsEnding old ending new = new ≡ with_settings old (with_ending old.settings ending)

abbrev pub SetsAsciiOnly : {W : Type 0} → Writing W → Bool → Writing W → Type 0
SetsAsciiOnly old on new = new ≡ with_settings old (with_ascii_only old.settings on)

abbrev pub SetsReadable : {W : Type 0} → Writing W → Bool → Writing W → Type 0
SetsReadable old on new = new ≡ with_settings old (with_readable old.settings on)
