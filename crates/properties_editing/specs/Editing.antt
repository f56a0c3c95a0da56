-- The results of edits.
use Rattle.std.specs.Prelude.{◌≡◌, ◌⊎◌, ℕ, List, Option, Result, Ok, Err, map, string_bytes}
use Rattle.std.specs.Str.{chars}
use Rattle.std.specs.Global.{Vec}
use Rattle.properties_format.specs.Encoding.{Encoding, Repertoire, all_of, ascii_characters, characters_for}
use Rattle.properties_format.specs.Escapes.{Malformed}
use Rattle.properties_format.specs.Items.{Entry}
use Rattle.properties_format.specs.Maps.{IsMap}
use Rattle.properties_format.specs.Body.{HasKey}
use Rattle.properties_format.specs.Edited.{EditResult, edited, unsupported, unreadable, IsSetKeyResult, IsRemoveKeyResult}
use Rattle.properties_format.specs.Edits.{put, remove, set_value, IsEditAllResult, AreInComments, ArePairs, EscapesAre, IsEditPairsResult}
use Rattle.properties_format.specs.Edits as format
use Rattle.properties_format.specs.Valued.{IsSetValueResult, KeepsFront}
use Rattle.properties_format.specs.Changed.{AreLinesEditedInTurn, AreLogicalLines, contents, IsSetIn, IsRemovedIn, AreEditedIn, map_edited, map_after, AreOthersThanLast, AreLeft, ReadsAfter, KeepsOthers, AreKept}
use Rattle.properties_format.specs.AsciiOnly.{IsInAscii}
use Rattle.properties_text.specs.Encoding.{encoding_of}
use Rattle.properties_items.specs.Errors.{IsBareError, IsMalformed}
use Rattle.properties_editing.specs.declared.source.Comments.{Comments}
use Rattle.properties_editing.specs.declared.source.Comments.TheVariants.{Read, PassedOver}
use Rattle.properties_editing.specs.declared.source.SourceOptions.{SourceOptions}
use Rattle.properties_editing.specs.declared.edit.Edit.{Edit}
use Rattle.properties_editing.specs.declared.edit.Edit.TheVariants.{Put, Remove, SetValue}
use Rattle.properties_items.specs.declared.error.ErrorKind.TheVariants as kind
use Rattle.properties_items.specs.declared.error.PropertiesError.{PropertiesError}

-- Why a source isn't edited, given which results are meant: its encoding can't be edited; or it has a first malformed
-- escape; or, in an encoding that can be edited, memory ran out.
abbrev pub IsRefusal : (EditResult → Type 0) → PropertiesError → Type 0
IsRefusal IsMeant e =
    (IsMeant unsupported × IsBareError kind.Unsupported e)
    ⊎ (((how : Malformed) × (n : ℕ) × IsMeant (unreadable how n) × IsMalformed how n e) ⊎ ¬ (IsMeant unsupported) × IsBareError kind.Memory e)

-- These bytes are the result that is meant, and the only one. They read as the source after the edit.
pub record IsEdit (IsMeant : EditResult → Type 0) (Reads : List ℕ → Type 0) (bytes : List ℕ) : Type 0 where
  pub result : IsMeant (edited bytes)
  pub only : (other : EditResult) → IsMeant other → other ≡ edited bytes
  pub reads : Reads bytes

-- ---- a key

-- The source with a key set, in ASCII only or not: its result, how it reads, that it keeps every group but the last
-- pair with the key, and that in ASCII-only form nothing else is put in.
pub record IsSet (r : Repertoire) (source key value bytes : List ℕ) : Type 0 where
  pub edit : IsEdit (IsSetKeyResult r source key value) (ReadsAfter (IsSetIn key value) (map_edited (put key value)) r.encoding source) bytes
  pub keeps : KeepsOthers (AreOthersThanLast key) r.encoding source bytes
  pub ascii : r.characters ≡ ascii_characters → IsInAscii source bytes

abbrev pub MakesSet : Repertoire → List ℕ → List ℕ → List ℕ → Result (Vec ℕ) PropertiesError → Type 0
MakesSet r source key value (Ok bytes) = IsSet r source key value bytes.items
MakesSet r source key value (Err error) = IsRefusal (IsSetKeyResult r source key value) error

abbrev pub SetsKey : Encoding → List ℕ → List ℕ → List ℕ → Result (Vec ℕ) PropertiesError → Type 0
SetsKey e source key value result = MakesSet (all_of e) source key value result

-- The source with the value of a key set, in ASCII only or not: its result, how it reads, that it keeps every group but
-- the last pair with the key, that it keeps every byte outside that pair's value, and that in ASCII-only form nothing
-- else is put in.
pub record HasValueSet (r : Repertoire) (source key value bytes : List ℕ) : Type 0 where
  pub edit : IsEdit (IsSetValueResult r source key value) (ReadsAfter (IsSetIn key value) (map_edited (put key value)) r.encoding source) bytes
  pub keeps : KeepsOthers (AreOthersThanLast key) r.encoding source bytes
  pub keeps_front : KeepsFront r.encoding source key bytes
  pub ascii : r.characters ≡ ascii_characters → IsInAscii source bytes

abbrev pub MakesValueSet : Repertoire → List ℕ → List ℕ → List ℕ → Result (Vec ℕ) PropertiesError → Type 0
MakesValueSet r source key value (Ok bytes) = HasValueSet r source key value bytes.items
MakesValueSet r source key value (Err error) = IsRefusal (IsSetValueResult r source key value) error

abbrev pub SetsValue : Encoding → List ℕ → List ℕ → List ℕ → Result (Vec ℕ) PropertiesError → Type 0
SetsValue e source key value result = MakesValueSet (all_of e) source key value result

-- The source without a key: its result, how it reads, and that it keeps every group that isn't a pair with the key.
pub record IsRemoved (e : Encoding) (source key bytes : List ℕ) : Type 0 where
  pub edit : IsEdit (IsRemoveKeyResult e source key) (ReadsAfter (IsRemovedIn key) (map_edited (remove key)) e source) bytes
  pub keeps : KeepsOthers (AreLeft (HasKey key)) e source bytes

abbrev pub RemovesKey : Encoding → List ℕ → List ℕ → Result (Vec ℕ) PropertiesError → Type 0
RemovesKey e source key (Ok bytes) = IsRemoved e source key bytes.items
RemovesKey e source key (Err error) = IsRefusal (IsRemoveKeyResult e source key) error

-- ---- lists of edits

abbrev pub edit_in : Edit → format.Edit
edit_in (Put key value) = put (chars (string_bytes key)) (chars (string_bytes value))
edit_in (Remove key) = remove (chars (string_bytes key))
edit_in (SetValue key value) = set_value (chars (string_bytes key)) (chars (string_bytes value))

abbrev pub edits_in : List Edit → List format.Edit
edits_in edits = map edit_in edits

-- The source after edits, in ASCII only or not: its result, how it reads, that each edit keeps the rest of what the one
-- before it gave, and that in ASCII-only form nothing else is put in.
pub record AreMade (r : Repertoire) (source : List ℕ) (edits : List format.Edit) (bytes : List ℕ) : Type 0 where
  pub edit : IsEdit (IsEditAllResult r source edits) (ReadsAfter (AreEditedIn edits) (map_after edits) r.encoding source) bytes
  pub keeps : AreKept r source edits bytes
  pub ascii : r.characters ≡ ascii_characters → IsInAscii source bytes

abbrev pub MakesEdits : Repertoire → List ℕ → List format.Edit → Result (Vec ℕ) PropertiesError → Type 0
MakesEdits r source edits (Ok bytes) = AreMade r source edits bytes.items
MakesEdits r source edits (Err error) = IsRefusal (IsEditAllResult r source edits) error

abbrev pub EditsAll : Encoding → List ℕ → List format.Edit → Result (Vec ℕ) PropertiesError → Type 0
EditsAll e source edits result = MakesEdits (all_of e) source edits result

-- The source after edits that ask nothing of comments: its result and that there is no other, that its pairs, their map
-- and its logical lines are those of the source after the same edits, that its malformed escapes are in comments as
-- well, that each edit keeps the rest of what the one before it gave, and that in ASCII-only form nothing else is put
-- in.
pub record ArePairsMade (r : Repertoire) (source : List ℕ) (edits : List format.Edit) (bytes : List ℕ) : Type 0 where
  pub result : IsEditPairsResult r source edits (edited bytes)
  pub only_one : (other : EditResult) → IsEditPairsResult r source edits other → other ≡ edited bytes
  pub reads : (old new : List Entry) → ArePairs r.encoding source old → ArePairs r.encoding bytes new → AreEditedIn edits (contents old) (contents new)
  pub lines : (old new : List (List ℕ)) → AreLogicalLines r.encoding source old → AreLogicalLines r.encoding bytes new → AreLinesEditedInTurn edits old new
  pub mapped : (old new : List Entry) → ArePairs r.encoding source old → ArePairs r.encoding bytes new
      → (value_at : List ℕ → Option (List ℕ)) → IsMap old value_at → IsMap new (map_after edits value_at)
  pub in_comments : EscapesAre r.encoding bytes AreInComments
  pub keeps : AreKept r source edits bytes
  pub ascii : r.characters ≡ ascii_characters → IsInAscii source bytes

abbrev pub EditsPairs : Repertoire → List ℕ → List format.Edit → Result (Vec ℕ) PropertiesError → Type 0
EditsPairs r source edits (Ok bytes) = ArePairsMade r source edits bytes.items
EditsPairs r source edits (Err error) = IsRefusal (IsEditPairsResult r source edits) error

-- what may stand unescaped in what edits with these options put in
abbrev pub asked_for : SourceOptions → Repertoire
asked_for options = record { encoding = encoding_of options.encoding; characters = characters_for options.ascii_only options.latin_1 }

-- The source after edits for which comments are read, or passed over,
abbrev pub MakesEditsFor : Comments → Repertoire → List ℕ → List format.Edit → Result (Vec ℕ) PropertiesError → Type 0
MakesEditsFor Read r source edits result = MakesEdits r source edits result
MakesEditsFor PassedOver r source edits result = EditsPairs r source edits result

-- as these options say.
abbrev pub EditsWith : SourceOptions → List ℕ → List format.Edit → Result (Vec ℕ) PropertiesError → Type 0
EditsWith options source edits result = MakesEditsFor options.comments (asked_for options) source edits result

-- Both are the same edit, with the same texts.
abbrev pub IsSameEdit : Edit → Edit → Type 0
IsSameEdit (Put k v) (Put l w) = (string_bytes k ≡ string_bytes l) × (string_bytes v ≡ string_bytes w)
IsSameEdit (Remove k) (Remove l) = string_bytes k ≡ string_bytes l
IsSameEdit (SetValue k v) (SetValue l w) = (string_bytes k ≡ string_bytes l) × (string_bytes v ≡ string_bytes w)
IsSameEdit edit other = ⊥
