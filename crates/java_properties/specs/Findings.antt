-- What is found in a source: malformed escapes, the lines of keys, and the values of keys.
use Rattle.std.specs.Prelude.{◌≡◌, ◌⊎◌, ℕ, List, [], ◌∷◌, ◌++◌, map, Option, Result, Ok, Err, ◌≢◌}
use Rattle.std.specs.declared.vec.Vec.{Vec}
use Rattle.properties_format.specs.Encoding.{Encoding}
use Rattle.properties_format.specs.Lines.{end}
use Rattle.properties_format.specs.Found.{AreFound, AreMalformedEscapes}
use Rattle.properties_format.specs.Found as format
use Rattle.properties_items.specs.Errors.{IsBareError, malformed_kind, IsMalformed}
use Rattle.properties_items.specs.declared.error.ErrorKind.TheVariants as kind
use Rattle.properties_items.specs.declared.error.PropertiesError.{PropertiesError}
use Rattle.properties_items.specs.declared.findings.MalformedEscape.{MalformedEscape}
use Rattle.properties_format.specs.Items.{pair, Outcome, given}
use Rattle.properties_items.specs.Texts.{characters, value_at}
use Rattle.properties_items.specs.declared.findings.KeyLine as code
use Rattle.std.specs.BTreeMap.{BTreeMap}
use Rattle.std.specs.Option.{option_map}
use Rattle.std.specs.declared.string.String.{String}
use Rattle.properties_format.specs.Edited.{IsFirstMalformed, ItemsAre}
use Rattle.properties_format.specs.Edits.{EscapesAre, HasPairValue, IsFirstInPair}
use Rattle.properties_format.specs.Escapes.{Malformed}
use Rattle.properties_format.specs.Maps.{HasValue}
use Rattle.properties_text.specs.Encoding.{encoding_of}
use Rattle.properties_editing.specs.Documents.{HasValueFor}
use Rattle.properties_editing.specs.declared.source.Comments.{Comments}
use Rattle.properties_editing.specs.declared.source.Comments.TheVariants.{Read, PassedOver}
use Rattle.properties_editing.specs.declared.source.SourceOptions.{SourceOptions}

-- ---- The malformed escapes of a source.

-- an escape of the format, as the code represents it
abbrev pub escape_record : format.MalformedEscape → MalformedEscape
escape_record escape = record { line_number = escape.number; kind = malformed_kind escape.kind; in_comment = escape.in_comment }

abbrev pub escape_records : List format.MalformedEscape → List MalformedEscape
escape_records escapes = map escape_record escapes

-- These are the malformed escapes of a source, and the only ones.
pub record HasMalformed (e : Encoding) (source : List ℕ) (found : List MalformedEscape) : Type 0 where
  pub escapes : List format.MalformedEscape
  pub are : AreMalformedEscapes e source escapes
  pub only : (others : List format.MalformedEscape) → AreMalformedEscapes e source others → others ≡ escapes
  pub is : found ≡ escape_records escapes

-- The result of finding them. It fails only if memory runs out.
abbrev pub FindsMalformedIn : {Z : Type 0} → Encoding → List ℕ → Result (Vec MalformedEscape Z) PropertiesError → Type 0
FindsMalformedIn e source (Ok found) = HasMalformed e source found.items
FindsMalformedIn e source (Err error) = IsBareError kind.Memory error

-- ---- The keys of a source, each with its line and the line where the key comes first.
-- Source: java.util.Properties of Java SE 7, load.

-- the key of a pair, and the number of the pair's first line
pub record KeyPlace : Type 0 where
  pub number : ℕ
  pub key : List ℕ

-- the keys of a logical line with this number and outcome, followed by those of the lines after it: a pair has one,
-- unless one of its escapes is malformed
abbrev pub keys_from : ℕ → Outcome → List KeyPlace → List KeyPlace
keys_from number (given (pair key value)) rest = record { number = number; key = key } ∷ rest
keys_from number other rest = rest

-- These are the keys of an input in an encoding.
abbrev pub ArePlacedKeys : Encoding → List ℕ → List KeyPlace → Type 0
ArePlacedKeys e bytes keys = AreFound (λ number x. keys_from number) e bytes end keys

-- ---- where a key comes first

-- None of the places has this key.
abbrev pub HasNoKeyPlace : List ℕ → List KeyPlace → Type 0
HasNoKeyPlace key [] = Unit {0}
HasNoKeyPlace key (k ∷ ks) = (k.key ≢ key) × HasNoKeyPlace key ks

-- The first of these places with this key has this number.
pub record HasFirstNumber (keys : List KeyPlace) (key : List ℕ) (number : ℕ) : Type 0 where
  pub before : List KeyPlace
  pub after : List KeyPlace
  pub division : keys ≡ before ++ (record { number = number; key = key } ∷ after)
  pub none : HasNoKeyPlace key before

-- a key, the number of its pair's first line, and the number of the first pair with this key
pub record KeyEntry : Type 0 where
  pub number : ℕ
  pub key : List ℕ
  pub first : ℕ

-- These are the keys at some of the places, each with the number of the first place with that key.
abbrev pub AreFirstsOf : List KeyPlace → List KeyPlace → List KeyEntry → Type 0
AreFirstsOf keys [] lines = lines ≡ []
AreFirstsOf keys (k ∷ ks) lines =
    (first : ℕ) × (rest : List KeyEntry) × HasFirstNumber keys k.key first
    × (lines ≡ record { number = k.number; key = k.key; first = first } ∷ rest) × AreFirstsOf keys ks rest

-- The keys of an input, each with its line number and the number of the line where it comes first.
pub record AreKeyLines (e : Encoding) (bytes : List ℕ) (lines : List KeyEntry) : Type 0 where
  pub keys : List KeyPlace
  pub are_keys : ArePlacedKeys e bytes keys
  pub are_firsts : AreFirstsOf keys keys lines

-- ---- the result of finding them

-- the entry of the code's record, whose key is a text
abbrev pub key_line_entry : code.KeyLine → KeyEntry
key_line_entry line = record { number = line.line_number; key = characters line.key; first = line.first_line_number }

abbrev pub key_line_entries : List code.KeyLine → List KeyEntry
key_line_entries lines = map key_line_entry lines

-- These are the keys of a source, each with its line and the line in which it comes first, and the only ones.
pub record HasKeyLines (e : Encoding) (source : List ℕ) (found : List code.KeyLine) : Type 0 where
  pub are : AreKeyLines e source (key_line_entries found)
  pub only : (others : List KeyEntry) → AreKeyLines e source others → others ≡ key_line_entries found

-- The result of finding them. It fails only if memory runs out.
abbrev pub FindsKeysIn : {Z : Type 0} → Encoding → List ℕ → Result (Vec code.KeyLine Z) PropertiesError → Type 0
FindsKeysIn e source (Ok found) = HasKeyLines e source found.items
FindsKeysIn e source (Err error) = IsBareError kind.Memory error

-- ---- The value of a key in a source.

-- The error is that of a malformed escape which is the first in this way, with the line in which its logical line
-- begins.
pub record IsErrorOfFirst (IsFirst : Malformed → ℕ → Type 0) (error : PropertiesError) : Type 0 where
  pub how : Malformed
  pub number : ℕ
  pub first : IsFirst how number
  pub is : IsMalformed how number error

-- The source has a malformed escape, and this is the error of the first.
abbrev pub IsFirstError : Encoding → List ℕ → PropertiesError → Type 0
IsFirstError e source = IsErrorOfFirst (λ how number. ItemsAre e source (IsFirstMalformed how number))

-- No escape of the source is malformed, and this is the value of the key: that of the last pair with it, or none if no
-- pair has it. Otherwise an escape is malformed, or memory ran out.
abbrev pub TellsValue : {Z : Type 0} → Encoding → List ℕ → List ℕ → Result (Option (String Z)) PropertiesError → Type 0
TellsValue e source key (Ok value) = HasValue e source key (option_map characters value)
TellsValue e source key (Err error) = IsFirstError e source error ⊎ IsBareError kind.Memory error

-- ---- where comments are passed over

-- A pair of the source has a malformed escape, and this is the error of the first.
abbrev pub IsFirstPairError : Encoding → List ℕ → PropertiesError → Type 0
IsFirstPairError e source = IsErrorOfFirst (λ how number. EscapesAre e source (IsFirstInPair how number))

-- No escape of a pair is malformed, and this is the value of the key. Otherwise one is, or memory ran out.
abbrev pub TellsPairValue : {Z : Type 0} → Encoding → List ℕ → List ℕ → Result (Option (String Z)) PropertiesError → Type 0
TellsPairValue e source key (Ok value) = HasPairValue e source key (option_map characters value)
TellsPairValue e source key (Err error) = IsFirstPairError e source error ⊎ IsBareError kind.Memory error

-- ---- where options say whether comments are read or passed over

-- the result of looking up a key
abbrev pub TellsValueFor : {Z : Type 0} → Comments → Encoding → List ℕ → List ℕ → Result (Option (String Z)) PropertiesError → Type 0
TellsValueFor Read e source key result = TellsValue e source key result
TellsValueFor PassedOver e source key result = TellsPairValue e source key result

abbrev pub TellsValueWith : {Z : Type 0} → SourceOptions → List ℕ → List ℕ → Result (Option (String Z)) PropertiesError → Type 0
TellsValueWith options source key result = TellsValueFor options.comments (encoding_of options.encoding) source key result

-- An escape that is read is malformed, and this is the error of the first; or memory ran out.
abbrev pub IsSourceError : Comments → Encoding → List ℕ → PropertiesError → Type 0
IsSourceError Read e source error = IsFirstError e source error ⊎ IsBareError kind.Memory error
IsSourceError PassedOver e source error = IsFirstPairError e source error ⊎ IsBareError kind.Memory error

-- The map has each key that some pair has, with the value of the last such pair. No escape that is read is malformed.
abbrev pub TellsMap : {Y Z : Type 0} → SourceOptions → List ℕ → Result (BTreeMap (String Y) (String Z)) PropertiesError → Type 0
TellsMap options source (Ok m) =
    (key : List ℕ) → HasValueFor options.comments (encoding_of options.encoding) source key (value_at m.entries key)
TellsMap options source (Err error) = IsSourceError options.comments (encoding_of options.encoding) source error
