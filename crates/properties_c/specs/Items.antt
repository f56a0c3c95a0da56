-- What the call for items gives: the items of the logical lines of a source, or its groups with the places of their parts.
use Rattle.std.specs.Prelude.{◌≡◌, ◌≢◌, ◌⊎◌, ℕ, Bool, true, false, List, [], ◌∷◌, ◌++◌, map, Option, Some, None, unwrap_or, encode_utf8_all}
use Rattle.properties_format.specs.Encoding.{Encoding, byte_order_mark}
use Rattle.properties_format.specs.Body.{HeldLine}
use Rattle.properties_format.specs.Edited.{is_editable}
use Rattle.properties_format.specs.Items as items
use Rattle.properties_format.specs.Items.{Entry, Outcome, ignored, given, IsFollowed, IsOutcome}
use Rattle.properties_format.specs.Lines.{Line, HasGroups, end, first_number, joined, line_endings}
use Rattle.properties_format.specs.Split.{Logical, blank, comment, pair, IsSplit}
use Rattle.java_properties.specs.ReadLines.{IsReading}
use Rattle.properties_items.specs.declared.error.ErrorKind.{ErrorKind}
use Rattle.properties_items.specs.declared.error.ErrorKind.TheVariants as error
use Rattle.properties_editing.specs.Views.{OpenView, IsViewOf, IsGroup, ArePlaces, AreOrdered, TellsFlaw, TellsIllFormed, viewed_line, past_group}
use Rattle.properties_editing.specs.declared.group.Flaw.{Flaw}
use Rattle.properties_editing.specs.declared.group.GroupKind.{GroupKind}
use Rattle.properties_editing.specs.declared.group.GroupKind.TheVariants as kind
use Rattle.properties_editing.specs.declared.group.PartPlaces.{PartPlaces}
use Rattle.properties_editing.specs.declared.group.ViewedGroup.{ViewedGroup}
use Rattle.properties_c.specs.Crossing.{Crossing, Delivers, RefusesCall}
use Rattle.properties_c.specs.Inputs.{InEncoding, WithSource, WithAsked}
use Rattle.properties_c.specs.Packed.{end_bytes, packed_items, reading_line, reading_status, spanned}
use Rattle.properties_c.specs.Parts.{IsDivided, followed_by, later_entry}
use Rattle.properties_c.specs.declared.asked.Asked.{Asked}
use Rattle.properties_c.specs.declared.asked.Texts.{Texts}
use Rattle.properties_c.specs.declared.asked.Texts.TheVariants.{PassedOver, Raw, Read}
use Rattle.properties_c.specs.declared.status.Status.TheVariants.{Done, NoMemory, Unsupported}

-- ---- logical lines

-- what a logical line gives as it stands
abbrev pub standing : Logical → Outcome
standing blank = ignored
standing (comment text) = given (items.comment text)
standing (pair key value) = given (items.pair key value)

-- how its texts are given
abbrev pub asked_texts : Asked → Logical → Texts
asked_texts a blank = Raw
asked_texts a (comment text) = a.comments
asked_texts a (pair key value) = a.pairs

-- This is what it gives then: nothing; its texts as they stand; or what it is read as.
abbrev pub TakesOutcome : Texts → List ℕ → Logical → Outcome → Type 0
TakesOutcome PassedOver x what o = o ≡ ignored
TakesOutcome Raw x what o = o ≡ standing what
TakesOutcome Read x what o = IsOutcome x o

abbrev pub GivesAskedLine : Asked → List ℕ → Outcome → Type 0
GivesAskedLine a x o = (what : Logical) × IsSplit x what × TakesOutcome (asked_texts a what) x what o

-- These are the entries of groups, one after another, up to the first malformed escape that is read.
abbrev pub AreAskedEntries : Asked → List (List Line) → List Entry → Type 0
AreAskedEntries a [] entries = entries ≡ []
AreAskedEntries a (group ∷ groups) entries = (o : Outcome) × GivesAskedLine a (joined group) o × IsFollowed (first_number group) o (AreAskedEntries a groups) entries

-- These are the entries of a source. Where all is read, they are its reading.
pub record AreAsked (a : Asked) (e : Encoding) (source : List ℕ) (entries : List Entry) : Type 0 where
  pub groups : List (List Line)
  pub has_groups : HasGroups e source end groups
  pub are_given : AreAskedEntries a groups entries
  pub reading : a.comments ≡ Read → a.pairs ≡ Read → IsReading e source end entries

-- The items among them are given, packed, with the status and the line of the end or of the malformed escape.
pub record GivesItems (a : Asked) (e : Encoding) (source : List ℕ) (x : Crossing) : Type 0 where
  pub entries : List Entry
  pub asked : AreAsked a e source entries
  pub delivered : Delivers (packed_items entries) (reading_status entries) (reading_line entries) x

-- ---- groups with their places

-- what a group shows of what it is read as: its texts, which stand as they are if an escape is malformed
abbrev pub shown : Logical → Outcome → Outcome
shown what (given content) = given content
shown what o = standing what

abbrev pub IsShownAs : Texts → List ℕ → Logical → Outcome → Type 0
IsShownAs Read x what o = (read : Outcome) × IsOutcome x read × (o ≡ shown what read)
IsShownAs other x what o = o ≡ standing what

abbrev pub IsShown : Asked → List ℕ → Outcome → Type 0
IsShown a x o = (what : Logical) × IsSplit x what × IsShownAs (asked_texts a what) x what o

abbrev pub key_in : Outcome → List ℕ
key_in (given (items.pair key value)) = key
key_in o = []

abbrev pub outcome_value : Outcome → List ℕ
outcome_value (given (items.comment text)) = text
outcome_value (given (items.pair key value)) = value
outcome_value o = []

-- 16 and the kind of an item, of which a blank group has its own
abbrev pub kind_number : GroupKind → ℕ
kind_number kind.Blank = 21
kind_number kind.Comment = 16
kind_number kind.Pair = 17

-- the number of the status of a malformed escape
abbrev pub flaw_status : ErrorKind → ℕ
flaw_status error.NotEnoughDigits = 7
flaw_status error.NotHex = 8
flaw_status other = 9

abbrev pub flaw_numbers : Option Flaw → List ℕ
flaw_numbers None = 0 ∷ 0 ∷ 0 ∷ 0 ∷ []
flaw_numbers (Some flaw) = flaw_status flaw.kind ∷ flaw.place ∷ flaw.line_number ∷ flaw.column ∷ []

-- the twelve numbers of a group
abbrev pub span_numbers : ViewedGroup → PartPlaces → Option Flaw → Option ℕ → List ℕ
span_numbers group places flaw ill_formed =
    group.start ∷ places.key_start ∷ places.key_end ∷ places.value_start ∷ places.value_end ∷ group.end ∷ group.next
    ∷ (flaw_numbers flaw ++ unwrap_or ill_formed 0 ∷ [])

-- They are those of the group that a view gave last: where its parts are, and what is wrong in it.
abbrev pub AreNumbersOf : OpenView → ViewedGroup → List ℕ → Type 0
AreNumbersOf v group numbers =
    (places : PartPlaces) × ArePlaces v places × AreOrdered v places
    × ((flaw : Option Flaw) × TellsFlaw v flaw × ((ill_formed : Option ℕ) × TellsIllFormed v ill_formed × (numbers ≡ span_numbers group places flaw ill_formed)))

-- These are the bytes of the group that a view gave last.
pub record IsPackedGroup (a : Asked) (v : OpenView) (bytes : List ℕ) : Type 0 where
  pub group : ViewedGroup
  pub is_group : IsGroup v group
  pub numbers : List ℕ
  pub are_numbers : AreNumbersOf v group numbers
  pub shows : Outcome
  pub is_shown : IsShown a (viewed_line v) shows
  pub is : bytes ≡ spanned (record { kind = kind_number group.kind; line = group.line_number; key = encode_utf8_all (key_in shows); value = encode_utf8_all (outcome_value shows) })
      numbers

-- the view with this group given, and these to come
abbrev pub passed : OpenView → List HeldLine → List (List HeldLine) → OpenView
passed v group groups = record (past_group v) { group = group; to_come = groups }

-- These are the bytes of groups to come.
abbrev pub ArePacked : Asked → OpenView → List (List HeldLine) → List ℕ → Type 0
ArePacked a v [] bytes = bytes ≡ []
ArePacked a v (group ∷ groups) bytes =
    (first : List ℕ) × (rest : List ℕ) × IsPackedGroup a (passed v group groups) first × (bytes ≡ first ++ rest) × ArePacked a (passed v group groups) groups rest

-- The groups of a source are given.
pub record GivesSpans (a : Asked) (e : Encoding) (source : List ℕ) (x : Crossing) : Type 0 where
  pub view : OpenView
  pub is_view : IsViewOf e source view
  pub bytes : List ℕ
  pub packed : ArePacked a view view.to_come bytes
  pub delivered : Delivers bytes Done 0 x

-- Or the source is in UTF-16.
abbrev pub GivesGroups : Asked → Encoding → List ℕ → Crossing → Type 0
GivesGroups a e source x = GivesSpans a e source x ⊎ (is_editable (byte_order_mark e source).encoding ≡ false) × RefusesCall Unsupported 0 x

-- ---- a part of a source

-- The items of the front are given, as those of a source, and then where it ends. Whatever comes after the part, they
-- are the first items of it all; and then come those of the rest and of what follows it, read in the encoding in force,
-- as many lines later as the front has line endings. After a malformed escape nothing comes: its entries are those of it
-- all.
pub record GivesFront (a : Asked) (e : Encoding) (front rest : List ℕ) (x : Crossing) : Type 0 where
  pub entries : List Entry
  pub asked : AreAsked a e front entries
  pub goes_on : (after : List ℕ) (others : List Entry) → AreAsked a (byte_order_mark e front).encoding (rest ++ after) others
      → AreAsked a e (front ++ (rest ++ after)) (followed_by entries (map (later_entry (line_endings asked.has_groups.lines)) others))
  pub stops : reading_status entries ≢ Done → (after : List ℕ) → AreAsked a e (front ++ (rest ++ after)) entries
  pub delivered : Delivers (packed_items entries ++ end_bytes (reading_status entries) e front (line_endings asked.has_groups.lines)) (reading_status entries)
      (reading_line entries) x

abbrev pub GivesPart : Asked → Encoding → List ℕ → Crossing → Type 0
GivesPart a e part x =
    (front : List ℕ) × (rest : List ℕ) × IsDivided e part front rest × WithSource a.is_strict e front (GivesFront a e front rest x ⊎ RefusesCall NoMemory 0 x) x

-- ---- all of these

abbrev pub GivesAsked : Asked → Bool → Encoding → List ℕ → Crossing → Type 0
GivesAsked a false e source x = GivesItems a e source x
GivesAsked a true e source x = GivesGroups a e source x

abbrev pub GivesSource : Asked → Bool → Encoding → List ℕ → Crossing → Type 0
GivesSource a false e source x = WithSource a.is_strict e source (GivesAsked a a.has_spans e source x ⊎ RefusesCall NoMemory 0 x) x
GivesSource a true e source x = GivesPart a e source x

abbrev pub ItemsAcross : List ℕ → ℕ → ℕ → Crossing → Type 0
ItemsAcross source encoding flags x = InEncoding encoding (λ e. WithAsked flags (λ a. GivesSource a a.is_part e source x) x) x
