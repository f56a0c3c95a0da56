-- What a logical line adds to what was found, sought or copied, by its outcome as it is computed.
use Rattle.std.specs.Prelude.{◌≡◌, ◌⊎◌, ℕ, true, false, List, [], ◌∷◌, ◌++◌, Option, Some, None, bytes_eq, Result, Ok, Err}
use Rattle.std.specs.Option.{option_map, unwrap_or}
use Rattle.std.specs.Map.{lookup, update}
use Rattle.std.specs.declared.string.String.{String}
use Rattle.counted_io.specs.Streams.{Reader, HasRead, has_ended}
use Rattle.properties_format.specs.Encoding.{Encoding}
use Rattle.properties_format.specs.Lines.{end, Line, IsGroups, AreWhole, lines_in}
use Rattle.properties_format.specs.Items.{broken, comment, pair, ignored, given}
use Rattle.properties_format.specs.Found.{escapes_from}
use Rattle.properties_format.specs.ItemsToCome.{ReaderState, start}
use Rattle.properties_format.specs.Computed.Items.{outcome_of}
use Rattle.properties_format.specs.Computed.Body.{outcome_key}
use Rattle.properties_lines.specs.LineReader.{Passes}
use Rattle.properties_text.specs.Escaping.{malformed_in}
use Rattle.properties_text.specs.declared.escape.Malformed.{Malformed}
use Rattle.properties_items.specs.Errors.{IsBareError}
use Rattle.properties_items.specs.Texts.{characters}
use Rattle.java_properties.specs.Findings.{escape_records, IsSourceError}
use Rattle.properties_editing.specs.Documents.{HasValueFor}
use Rattle.properties_editing.specs.declared.source.Comments.{Comments}
use Rattle.properties_items.specs.declared.error.ErrorKind.TheVariants as kind
use Rattle.properties_items.specs.declared.error.PropertiesError.{PropertiesError}
use Rattle.properties_items.specs.declared.findings.KeyLine as code
use Rattle.properties_items.specs.declared.findings.MalformedEscape.{MalformedEscape}
use Rattle.properties_format.specs.Writing.{is_accepted, pair_call}
use Rattle.properties_text.specs.declared.escape.UnescapeError.{UnescapeError}
use Rattle.properties_text.specs.declared.escape.UnescapeError.TheVariants as error
use Rattle.properties_items.specs.declared.error.ErrorKind.{ErrorKind}
use Rattle.java_properties.specs.Copying.{HasScalars}
use Rattle.java_properties.specs.Private.Engine.{engine_line_bytes, NumbersLine}
use Rattle.java_properties.specs.declared.copy.Built.{Built}
use Rattle.java_properties.specs.declared.copy.Built.TheVariants.{Nothing, Pair}
use Rattle.java_properties.specs.declared.writer.engine.Engine.{Engine}

-- the key of a logical line, if it is a pair without a malformed escape; or memory ran out
abbrev pub FindsLineKey : {Z : Type 0} → List ℕ → Result (Option (String Z)) PropertiesError → Type 0
FindsLineKey x (Ok answer) = option_map characters answer ≡ outcome_key (outcome_of x)
FindsLineKey x (Err error) = IsBareError kind.Memory error

-- the number recorded for a key, given by its characters
abbrev pub number_at : {Z : Type 0} → List (String Z × ℕ) → List ℕ → Option ℕ
number_at entries key = lookup (λ k. bytes_eq key (characters k)) entries

-- This is the number recorded for a key; if there was none, it is this line's number, which is recorded from now on.
pub record KeepsFirst {Z : Type 0} (number : ℕ) (key : List ℕ) (old new : List (String Z × ℕ)) (first : ℕ) : Type 0 where
  pub is : first ≡ unwrap_or (number_at old key) number
  pub kept : (k : List ℕ) → number_at new k ≡ update bytes_eq (number_at old) key (Some first) k

-- The key was appended, with the number recorded for it.
pub record AddsKeyLine {Z : Type 0} (number : ℕ) (key : List ℕ) (old new : List code.KeyLine) (firsts firsts' : List (String Z × ℕ)) : Type 0 where
  pub line : code.KeyLine
  pub says : (line.line_number ≡ number) × (characters line.key ≡ key)
  pub added : new ≡ old ++ line ∷ []
  pub keeps : KeepsFirst number key firsts firsts' line.first_line_number

abbrev pub AddsIfKey : {Z : Type 0} → ℕ → Option (List ℕ) → List code.KeyLine → List code.KeyLine → List (String Z × ℕ) → List (String Z × ℕ) → Type 0
AddsIfKey number None old new firsts firsts' = (new ≡ old) × (firsts' ≡ firsts)
AddsIfKey number (Some key) old new firsts firsts' = AddsKeyLine number key old new firsts firsts'

-- The key that a logical line with this number and text adds; or memory ran out.
abbrev pub PushesKey : {Z : Type 0} → ℕ → List ℕ → List code.KeyLine → List (String Z × ℕ) → Result Unit PropertiesError → List code.KeyLine
    → List (String Z × ℕ) → Type 0
PushesKey number x old firsts (Ok done) new firsts' = AddsIfKey number (outcome_key (outcome_of x)) old new firsts firsts'
PushesKey number x old firsts (Err error) new firsts' = IsBareError kind.Memory error

-- No escape of a logical line is malformed, or this is how the first one is.
abbrev pub ChecksLine : List ℕ → Result Unit Malformed → Type 0
ChecksLine x (Ok done) = (number : ℕ) → escapes_from number x (outcome_of x) [] ≡ []
ChecksLine x (Err how) = outcome_of x ≡ broken (malformed_in how)

-- The malformed escape of a line with this number and text, if it has one.
abbrev pub FindsLineEscape : ℕ → List ℕ → Option MalformedEscape → Type 0
FindsLineEscape number x None = [] ≡ escape_records (escapes_from number x (outcome_of x) [])
FindsLineEscape number x (Some escape) = escape ∷ [] ≡ escape_records (escapes_from number x (outcome_of x) [])

-- ---- the groups that came

-- These groups came, and no others of what was read.
pub record Collected {R : Type 0} (reader : Reader R) (e : Encoding) (from : R) (groups : List (List Line)) (state : ReaderState) (to : R) : Type 0 where
  pub bytes : List ℕ
  pub read : HasRead reader from bytes to
  pub passes : Passes (start e) bytes (lines_in groups) state
  pub whole : state.is_done ≡ false → AreWhole groups
  pub grouped : IsGroups (lines_in groups) end groups
  pub ended : state.is_done ≡ true → has_ended reader to ≡ true

-- ---- What is built for a logical line that is copied.

-- A line of this text is a pair. The engine built its line, and gives it this number, or refuses it.
pub record HasBuilt (text : List ℕ) (number : Result ℕ ErrorKind) (w : Engine) : Type 0 where
  pub key : List ℕ
  pub value : List ℕ
  pub outcome : outcome_of text ≡ given (pair key value)
  pub scalars : HasScalars (pair key value)
  pub numbers : NumbersLine w (is_accepted w.settings (pair_call key value)) number
  pub built : w.line ≡ engine_line_bytes w (pair key value)

-- A line of this text is no pair: it is blank, or a comment.
abbrev pub IsNoPair : List ℕ → Type 0
IsNoPair text = (outcome_of text ≡ ignored) ⊎ ((raw : List ℕ) × (outcome_of text ≡ given (comment raw)))

-- What the engine built for a line of this text; or how the line is malformed; or memory ran out.
abbrev pub BuildsLine : List ℕ → Result Built UnescapeError → Engine → Type 0
BuildsLine text (Ok Nothing) w = IsNoPair text
BuildsLine text (Ok (Pair number)) w = HasBuilt text number w
BuildsLine text (Err (error.Malformed malformed)) w = outcome_of text ≡ broken (malformed_in malformed)
BuildsLine text (Err error.Memory) w = Unit {0}

-- ---- How the pairs of a source are taken, by what the taker has of the values that keys have by then.

-- the values of the keys after a logical line, given its pair if it is one, and those after the lines before it
abbrev pub values_after : Option (List ℕ × List ℕ) → (List ℕ → Option (List ℕ)) → List ℕ → Option (List ℕ)
values_after None before = before
values_after (Some p) before = update bytes_eq before p.0 (Some p.1)

-- All pairs of the source were taken; or why not.
abbrev pub TakesPairs : {T : Type 0} → (T → (List ℕ → Option (List ℕ)) → Type 0) → Comments → Encoding → List ℕ → Result T PropertiesError → Type 0
TakesPairs Has comments e source (Ok taker) =
    (values : List ℕ → Option (List ℕ)) × Has taker values × ((key : List ℕ) → HasValueFor comments e source key (values key))
TakesPairs Has comments e source (Err error) = IsSourceError comments e source error
