-- What taking a packed list apart returns.
use Rattle.std.specs.Prelude.{◌≡◌, ◌++◌, ℕ, List, [], length, ◌<◌, ◌^◌, Option, Some, None, Result, Ok, Err}
use Rattle.properties_c.specs.Packed.{number_bytes, IsPackedText, Meaning, edits, IsPackedList, IsBadList, LacksText, HasNoRecord, HasNoText, Record, packed, record_in, IsSized}
use Rattle.properties_c.specs.{declared.lists.Line.Line, declared.lists.Line.TheVariants.Comment, declared.lists.Line.TheVariants.Pair}
use Rattle.properties_c.specs.{declared.records.Header.Header, declared.status.Status.Status, declared.status.Status.TheVariants.NoMemory}
use Rattle.properties_c.specs.{declared.status.Status.TheVariants.NotUtf8, declared.status.Status.TheVariants.BadList}
use Rattle.std.specs.{Borrow.Bor, Global.Vec, Str.IsUtf8, Str.chars, declared.string.String.String}
use Rattle.properties_format.specs.Items.{Content, comment, pair}
use Rattle.properties_renaming.specs.{KeyEdits.key_edits_in, declared.key_edits.KeyEdit.KeyEdit}
use Rattle.properties_items.specs.Texts.{characters}
use Rattle.properties_c.specs.declared.records.Record as code

abbrev pub header_bytes : Header → List ℕ
header_bytes h = number_bytes h.kind ++ (number_bytes h.line ++ (number_bytes h.key_length ++ number_bytes h.value_length))

-- the header of a record
abbrev pub header_of : Record → Header
header_of r = record { kind = r.kind; line = r.line; key_length = length r.key; value_length = length r.value }

-- Each number fits in its eight bytes.
pub record IsSizedHeader (h : Header) : Type 0 where
  pub kind : h.kind < 2 ^ 64
  pub line : h.line < 2 ^ 64
  pub key : h.key_length < 2 ^ 64
  pub value : h.value_length < 2 ^ 64

-- The list is this record and these bytes after it.
pub record Splits (list : List ℕ) (first : Record) (rest : List ℕ) : Type 0 where
  pub division : list ≡ packed first ++ rest
  pub sized : IsSized first

-- the result of taking the first record
abbrev pub SplitsRecord : List ℕ → Option (code.Record × Bor (List ℕ)) → Type 0
SplitsRecord list (Some (first, rest)) = Splits list (record_in first) rest.now
SplitsRecord list None = (first : Record) (rest : List ℕ) → Splits list first rest → ⊥

-- The status says that what was given is bad in this way, that it has no text in this way, or that memory ran out.
abbrev pub RefusesFor : Type 0 → Type 0 → Status → Type 0
RefusesFor IsBad Lacks BadList = IsBad
RefusesFor IsBad Lacks NotUtf8 = Lacks
RefusesFor IsBad Lacks NoMemory = Unit {0}
RefusesFor IsBad Lacks other = ⊥

-- why the first thing isn't there, why a record isn't a thing, and why a list isn't taken
abbrev pub RefusesFirst : {A : Type 0} → Meaning A → List ℕ → Status → Type 0
RefusesFirst m list = RefusesFor (HasNoRecord m list) (HasNoText m list)

abbrev pub RefusesRecord : {A : Type 0} → Meaning A → Record → Status → Type 0
RefusesRecord m r = RefusesFor (¬ m.IsKnown r) (m.IsKnown r × (IsUtf8 r.key → IsUtf8 r.value → ⊥))

abbrev pub RefusesList : {A : Type 0} → Meaning A → List ℕ → Status → Type 0
RefusesList m list = RefusesFor (IsBadList m list) (LacksText m list)

-- The first record of the list is that of this thing.
pub record IsFirstThing {A : Type 0} (m : Meaning A) (list : List ℕ) (thing : A) (rest : List ℕ) : Type 0 where
  pub first : Record
  pub splits : Splits list first rest
  pub means : m.Means first thing

-- ---- texts

-- What reading a text gives, and what it is; or it isn't UTF-8.
abbrev pub GivesText : {T : Type 0} → List ℕ → Result T Status → (T → List ℕ) → Type 0
GivesText bytes (Ok given) text = IsPackedText bytes (text given)
GivesText bytes (Err status) text = RefusesFor ⊥ (¬ IsUtf8 bytes) status

-- The same of two texts.
abbrev pub GivesTexts : {T : Type 0} → List ℕ → List ℕ → Result (T × T) Status → (T → List ℕ) → Type 0
GivesTexts key value (Ok (name, given)) text = IsPackedText key (text name) × IsPackedText value (text given)
GivesTexts key value (Err status) text = RefusesFor ⊥ (IsUtf8 key → IsUtf8 value → ⊥) status

-- the result of copying the key of a record that may have no value
abbrev pub CopiesKey : {Z : Type 0} → Record → Result (String Z) Status → Type 0
CopiesKey r (Ok key) = IsPackedText r.key (characters key) × (r.value ≡ [])
CopiesKey r (Err status) = RefusesFor (¬ (r.value ≡ [])) ((r.value ≡ []) × ¬ (IsUtf8 r.key)) status

-- ---- things: edits, and lines to write

-- What a record is made into, and which thing that is.
abbrev pub MakesThing : {A T : Type 0} → Meaning A → Record → Result T Status → (T → A) → Type 0
MakesThing m r (Ok made) thing = m.Means r (thing made)
MakesThing m r (Err status) thing = RefusesRecord m r status

abbrev pub ReadsFirst : {A T : Type 0} → Meaning A → List ℕ → Result (T × Bor (List ℕ)) Status → (T → A) → Type 0
ReadsFirst m list (Ok (made, rest)) thing = IsFirstThing m list (thing made) rest.now
ReadsFirst m list (Err status) thing = RefusesFirst m list status

abbrev pub ReadsEdits : List ℕ → Result (Vec KeyEdit) Status → Type 0
ReadsEdits list (Ok found) = IsPackedList edits list (key_edits_in found.items)
ReadsEdits list (Err status) = RefusesList edits list status

-- what a line holds
abbrev pub line_content : Line → Content
line_content (Comment text) = comment (chars text.now)
line_content (Pair key value) = pair (chars key.now) (chars value.now)
