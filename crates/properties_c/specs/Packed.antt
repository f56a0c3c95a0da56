-- Packed bytes: numbers, lists of records, items and findings.
use Rattle.std.specs.Prelude.{ℕ, List, ◌<◌, ◌^◌, ◌++◌, length, ◌≡◌, ◌≢◌, ◌⊎◌, [], ◌∷◌, encode_utf8_all, ◌==◌, if◌then◌else◌}
use Rattle.std.specs.Int.{w64, to_le_bytes}
use Rattle.std.specs.List.{flat_map}
use Rattle.properties_c.specs.declared.records.Record as code
use Rattle.std.specs.Str.{IsUtf8, chars}
use Rattle.properties_format.specs.Edits.{put, remove, set_value}
use Rattle.properties_format.specs.Encoding.{Encoding, byte_order_mark}
use Rattle.properties_format.specs.Items.{Content, comment, pair, Entry, item, malformed}
use Rattle.properties_c.specs.Crossing.{Crossing, RefusesCall}
use Rattle.properties_c.specs.Inputs.{encoding_number}
use Rattle.properties_c.specs.declared.status.Status.TheVariants.{NoMemory, NotUtf8, BadList, Done}
use Rattle.properties_c.specs.Statuses.{malformed_status}
use Rattle.properties_c.specs.declared.status.Status.{Status}
use Rattle.properties_format.specs.Escapes.{Malformed, not_enough_digits, not_hex, invalid_character}
use Rattle.properties_format.specs.Found.{MalformedEscape}
use Rattle.java_properties.specs.Findings.{KeyEntry}
use Rattle.properties_renaming.specs.KeyEdits.{KeyEdit, edit, rename, remove_with_comment, set_comment}

-- a number as eight bytes, the lowest first
unfoldable pub number_bytes : ℕ → List ℕ
number_bytes n = to_le_bytes w64 n

-- ---- Records.

pub record Record : Type 0 where
  pub kind : ℕ
  pub line : ℕ
  pub key : List ℕ
  pub value : List ℕ

-- the code's record
abbrev pub record_in : code.Record → Record
record_in r = record { kind = r.kind; line = r.line; key = r.key.now; value = r.value.now }

-- the bytes of a record: its kind, its line, the lengths of its key and of its value, its key and its value
unfoldable pub packed : Record → List ℕ
packed r =
    number_bytes r.kind ++ (number_bytes r.line ++ (number_bytes (length r.key) ++ (number_bytes (length r.value) ++ (r.key ++ r.value))))

-- the bytes of a record with numbers before its texts
unfoldable pub spanned : Record → List ℕ → List ℕ
spanned r numbers =
    number_bytes r.kind ++ (number_bytes r.line ++ (number_bytes (length r.key) ++ (number_bytes (length r.value) ++ (flat_map number_bytes numbers ++ (r.key ++ r.value)))))

abbrev pub packed_all : List Record → List ℕ
packed_all records = flat_map packed records

-- Each number fits in its eight bytes.
pub record IsSized (r : Record) : Type 0 where
  pub kind : r.kind < 2 ^ 64
  pub line : r.line < 2 ^ 64
  pub key : length r.key < 2 ^ 64
  pub value : length r.value < 2 ^ 64

-- ---- What a packed list holds, and why it is refused.

-- The bytes are UTF-8, and this is their text.
pub record IsPackedText (bytes text : List ℕ) : Type 0 where
  pub utf8 : IsUtf8 bytes
  pub is : text ≡ chars bytes

-- what a record may be, and which of its kinds mean what
pub record Meaning (A : Type 0) : Type 1 where
  pub IsKnown : Record → Type 0
  pub Means : Record → A → Type 0

-- ---- edits

-- The kind is that of an edit, which no item has, and a key that is removed has no value.
abbrev pub IsKnownEdit : Record → Type 0
IsKnownEdit r =
    (r.kind ≡ 2) ⊎ ((r.kind ≡ 3) × (r.value ≡ []) ⊎ ((r.kind ≡ 4) ⊎ ((r.kind ≡ 7) ⊎ ((r.kind ≡ 8) ⊎ (r.kind ≡ 9) × (r.value ≡ [])))))

abbrev pub MeansEdit : Record → KeyEdit → Type 0
MeansEdit r (edit (put key value)) = (r.kind ≡ 2) × IsPackedText r.key key × IsPackedText r.value value
MeansEdit r (edit (remove key)) = (r.kind ≡ 3) × IsPackedText r.key key × (r.value ≡ [])
MeansEdit r (edit (set_value key value)) = (r.kind ≡ 4) × IsPackedText r.key key × IsPackedText r.value value
MeansEdit r (rename name) = (r.kind ≡ 7) × IsPackedText r.key name.old × IsPackedText r.value name.new
MeansEdit r (set_comment text) = (r.kind ≡ 8) × IsPackedText r.key text.key × IsPackedText r.value text.text
MeansEdit r (remove_with_comment key) = (r.kind ≡ 9) × IsPackedText r.key key × (r.value ≡ [])

abbrev pub edits : Meaning KeyEdit
edits = record { IsKnown = IsKnownEdit; Means = MeansEdit }

-- ---- lines to write

-- The kind is that of a comment, which has no key, or of a pair.
abbrev pub IsKnownLine : Record → Type 0
IsKnownLine r = (r.kind ≡ 0) × (r.key ≡ []) ⊎ (r.kind ≡ 1)

abbrev pub MeansLine : Record → Content → Type 0
MeansLine r (comment text) = (r.kind ≡ 0) × (r.key ≡ []) × IsPackedText r.value text
MeansLine r (pair key value) = (r.kind ≡ 1) × IsPackedText r.key key × IsPackedText r.value value

abbrev pub lines : Meaning Content
lines = record { IsKnown = IsKnownLine; Means = MeansLine }

-- ---- lists

-- The records mean these things, one each.
abbrev pub AreMeant : {A : Type 0} → Meaning A → List Record → List A → Type 0
AreMeant m [] [] = Unit {0}
AreMeant m (r ∷ rs) (thing ∷ things) = IsSized r × m.Means r thing × AreMeant m rs things
AreMeant m records things = ⊥

-- The list begins with the records of these things, and this comes after them.
pub record BeginsList {A : Type 0} (m : Meaning A) (list : List ℕ) (things : List A) (rest : List ℕ) : Type 0 where
  pub records : List Record
  pub division : list ≡ packed_all records ++ rest
  pub meant : AreMeant m records things

-- The list is the records of these things, and of no others.
pub record IsPackedList {A : Type 0} (m : Meaning A) (list : List ℕ) (things : List A) : Type 0 where
  pub begins : BeginsList m list things []
  pub only : (others : List A) → BeginsList m list others [] → others ≡ things

-- No record that is known is at the front of these bytes.
abbrev pub HasNoRecord : {A : Type 0} → Meaning A → List ℕ → Type 0
HasNoRecord m bytes = (r : Record) (rest : List ℕ) → bytes ≡ packed r ++ rest → IsSized r → m.IsKnown r → ⊥

-- A record that is known is at the front of these bytes, and its key or its value isn't UTF-8.
pub record HasNoText {A : Type 0} (m : Meaning A) (bytes : List ℕ) : Type 0 where
  pub record_there : Record
  pub rest : List ℕ
  pub division : bytes ≡ packed record_there ++ rest
  pub sized : IsSized record_there
  pub known : m.IsKnown record_there
  pub no_text : IsUtf8 record_there.key → IsUtf8 record_there.value → ⊥

-- After the records of some things, the list goes on, but not with a record.
pub record IsBadList {A : Type 0} (m : Meaning A) (list : List ℕ) : Type 0 where
  pub things : List A
  pub rest : List ℕ
  pub begins : BeginsList m list things rest
  pub more : rest ≢ []
  pub bad : HasNoRecord m rest

-- After the records of some things comes one with a text that isn't UTF-8.
pub record LacksText {A : Type 0} (m : Meaning A) (list : List ℕ) : Type 0 where
  pub things : List A
  pub rest : List ℕ
  pub begins : BeginsList m list things rest
  pub lacks : HasNoText m rest

-- The list holds things, of which this is true; or the call was refused because of the list, or because memory ran out.
abbrev pub WithList : {A : Type 0} → Meaning A → List ℕ → (List A → Type 0) → Crossing → Type 0
WithList {A} m list Holds x =
    ((things : List A) × IsPackedList m list things × Holds things)
    ⊎ (IsBadList m list × RefusesCall BadList 0 x ⊎ (LacksText m list × RefusesCall NotUtf8 0 x ⊎ RefusesCall NoMemory 0 x))

-- ---- Items.

-- the record of an item: kind 0 for a comment, whose key is empty, and 1 for a pair
abbrev pub item_record : ℕ → Content → Record
item_record number (comment text) = record { kind = 0; line = number; key = []; value = encode_utf8_all text }
item_record number (pair key value) = record { kind = 1; line = number; key = encode_utf8_all key; value = encode_utf8_all value }

-- the items among these entries, packed
abbrev pub packed_items : List Entry → List ℕ
packed_items [] = []
packed_items (item number content ∷ entries) = packed (item_record number content) ++ packed_items entries
packed_items (other ∷ entries) = packed_items entries

-- the status of a reading with these entries, and its line: those of its malformed escape, if it ends in one
abbrev pub reading_status : List Entry → Status
reading_status [] = Done
reading_status (malformed how number ∷ entries) = malformed_status how
reading_status (other ∷ entries) = reading_status entries

abbrev pub reading_line : List Entry → ℕ
reading_line [] = 0
reading_line (malformed how number ∷ entries) = number
reading_line (other ∷ entries) = reading_line entries

-- the bytes of where a front with so many line endings ends, if it was read whole: a record of the line endings, of the
-- bytes of the front, and of the encoding in force
abbrev pub end_record : Encoding → List ℕ → ℕ → Record
end_record e front count =
    record { kind = 6; line = count; key = []; value = number_bytes (length front) ++ number_bytes (encoding_number (byte_order_mark e front).encoding) }

abbrev pub end_bytes : Status → Encoding → List ℕ → ℕ → List ℕ
end_bytes Done e front count = packed (end_record e front count)
end_bytes other e front count = []

-- ---- Findings.

-- the bytes of a finding: its kind, its line, a number that its kind says, the length of the key, the key
unfoldable pub finding_bytes : ℕ → ℕ → ℕ → List ℕ → List ℕ
finding_bytes kind line more key =
    number_bytes kind ++ (number_bytes line ++ (number_bytes more ++ (number_bytes (length key) ++ key)))

-- the kind of a malformed escape; that of a repeated key is 0
abbrev pub escape_kind : Malformed → ℕ
escape_kind not_enough_digits = 1
escape_kind not_hex = 2
escape_kind invalid_character = 3

-- its number is 1 in a comment, and otherwise 0
abbrev pub escape_bytes : MalformedEscape → List ℕ
escape_bytes escape = finding_bytes (escape_kind escape.kind) escape.number (if escape.in_comment then 1 else 0) []

-- a key is a finding if an earlier pair has it, and its number is the line of the first such pair
abbrev pub repeat_bytes : KeyEntry → List ℕ
repeat_bytes key = if key.first == key.number then [] else finding_bytes 0 key.number key.first (encode_utf8_all key.key)

-- the malformed escapes, and then the repeated keys
abbrev pub packed_findings : List MalformedEscape → List KeyEntry → List ℕ
packed_findings escapes keys = flat_map escape_bytes escapes ++ flat_map repeat_bytes keys
