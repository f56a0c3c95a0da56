-- A document: a source that is kept open for edits, and the effects of its calls.
use Rattle.std.specs.Prelude.{◌≡◌, ℕ, Bool, true, false, List, [], ◌∷◌, map, Option, Some, None, Result, Ok, Err}
use Rattle.std.specs.Borrow.{Bor}
use Rattle.std.specs.Str.{chars}
use Rattle.properties_format.specs.Encoding.{Encoding, Repertoire, repertoire, all_of}
use Rattle.properties_format.specs.Maps.{HasKeys, HasValue}
use Rattle.properties_format.specs.Edited.{EditResult}
use Rattle.properties_format.specs.Edits.{Edit, put, remove, set_value, HasPairKeys, HasPairValue, IsEditAllResult, IsEditPairsResult}
use Rattle.properties_editing.specs.Editing.{AreMade, ArePairsMade, HasValueSet, IsRefusal, IsSet, IsRemoved, asked_for}
use Rattle.properties_editing.specs.declared.source.Comments.{Comments}
use Rattle.properties_editing.specs.declared.source.Comments.TheVariants.{Read, PassedOver}
use Rattle.properties_editing.specs.declared.source.SourceOptions.{SourceOptions}
use Rattle.properties_items.specs.declared.error.PropertiesError.{PropertiesError}

-- A document as its callers see it: the requested encoding and which of its characters are put in unescaped, what
-- becomes of comments, and the document's bytes.
pub record OpenDocument : Type 0 where
  pub repertoire : Repertoire
  pub comments : Comments
  pub bytes : List ℕ

-- A source was opened unchanged; or it was refused, as `edit_all` refuses it.
abbrev pub OpensDocument : Encoding → List ℕ → Result OpenDocument PropertiesError → Type 0
OpensDocument e source (Ok d) = (d ≡ record { repertoire = all_of e; comments = Read; bytes = source }) × AreMade (all_of e) source [] source
OpensDocument e source (Err error) = IsRefusal (IsEditAllResult (all_of e) source []) error

-- The source after edits for which comments are read, or passed over; and the results that are meant then.
abbrev pub AreMadeFor : Comments → Repertoire → List ℕ → List Edit → List ℕ → Type 0
AreMadeFor Read r source edits bytes = AreMade r source edits bytes
AreMadeFor PassedOver r source edits bytes = ArePairsMade r source edits bytes

abbrev pub IsResultFor : Comments → Repertoire → List ℕ → List Edit → EditResult → Type 0
IsResultFor Read r source edits result = IsEditAllResult r source edits result
IsResultFor PassedOver r source edits result = IsEditPairsResult r source edits result

-- A source was opened so with options; or it was refused, as `edit_with` refuses it.
abbrev pub OpensDocumentWith : SourceOptions → List ℕ → Result OpenDocument PropertiesError → Type 0
OpensDocumentWith options source (Ok d) =
    (d ≡ record { repertoire = asked_for options; comments = options.comments; bytes = source })
    × AreMadeFor options.comments (asked_for options) source [] source
OpensDocumentWith options source (Err error) = IsRefusal (IsResultFor options.comments (asked_for options) source []) error

-- These are the options of the document.
abbrev pub TellsOptions : OpenDocument → SourceOptions → Type 0
TellsOptions d options = (asked_for options ≡ d.repertoire) × (options.comments ≡ d.comments)

-- What the edits after this put in is written in ASCII only, or in all characters of the encoding. All else is as it was.
abbrev pub TurnsAsciiOnly : Bool → OpenDocument → OpenDocument → Type 0
TurnsAsciiOnly only old new = new ≡ record old { repertoire = repertoire old.repertoire.encoding only }

-- What was requested is as it was.
abbrev pub KeepsRequest : OpenDocument → OpenDocument → Type 0
KeepsRequest old new = (new.repertoire ≡ old.repertoire) × (new.comments ≡ old.comments)

-- The source with a key set, where comments are read, or passed over.
abbrev pub IsSetFor : Comments → Repertoire → List ℕ → List ℕ → List ℕ → List ℕ → Type 0
IsSetFor Read r source key value bytes = IsSet r source key value bytes
IsSetFor PassedOver r source key value bytes = ArePairsMade r source (put key value ∷ []) bytes

-- A key was set to a value; or memory ran out, and the document is unchanged.
abbrev pub PutsInto : {E : Type 0} → List ℕ → List ℕ → OpenDocument → Result Unit E → OpenDocument → Type 0
PutsInto key value old (Ok done) new = KeepsRequest old new × IsSetFor old.comments old.repertoire old.bytes key value new.bytes
PutsInto key value old (Err error) new = new ≡ old

-- The source with the value of a key set, likewise.
abbrev pub HasValueSetFor : Comments → Repertoire → List ℕ → List ℕ → List ℕ → List ℕ → Type 0
HasValueSetFor Read r source key value bytes = HasValueSet r source key value bytes
HasValueSetFor PassedOver r source key value bytes = ArePairsMade r source (set_value key value ∷ []) bytes

-- The value of a key was set; or memory ran out, and the document is unchanged.
abbrev pub SetsValueIn : {E : Type 0} → List ℕ → List ℕ → OpenDocument → Result Unit E → OpenDocument → Type 0
SetsValueIn key value old (Ok done) new = KeepsRequest old new × HasValueSetFor old.comments old.repertoire old.bytes key value new.bytes
SetsValueIn key value old (Err error) new = new ≡ old

-- Read in its encoding, a source has this value for a key: that of the last pair with the key, or none if no pair has
-- it. Comments are read, or passed over.
abbrev pub HasValueFor : Comments → Encoding → List ℕ → List ℕ → Option (List ℕ) → Type 0
HasValueFor Read e source key value = HasValue e source key value
HasValueFor PassedOver e source key value = HasPairValue e source key value

abbrev pub HasValueAt : OpenDocument → List ℕ → Option (List ℕ) → Type 0
HasValueAt d key value = HasValueFor d.comments d.repertoire.encoding d.bytes key value

-- Whether a pair has the key.
abbrev pub ChecksHasKey : OpenDocument → List ℕ → Bool → Type 0
ChecksHasKey d key true = (value : List ℕ) × HasValueAt d key (Some value)
ChecksHasKey d key false = HasValueAt d key None

-- The source without a key, where comments are read, or passed over.
abbrev pub IsRemovedFor : Comments → Repertoire → List ℕ → List ℕ → List ℕ → Type 0
IsRemovedFor Read r source key bytes = IsRemoved r.encoding source key bytes
IsRemovedFor PassedOver r source key bytes = ArePairsMade r source (remove key ∷ []) bytes

-- A key was removed, and the result says whether a pair had it.
pub record RemovesFrom (key : List ℕ) (old : OpenDocument) (was_there : Bool) (new : OpenDocument) : Type 0 where
  pub keeps : KeepsRequest old new
  pub removed : IsRemovedFor old.comments old.repertoire old.bytes key new.bytes
  pub checked : ChecksHasKey old key was_there

-- the characters of borrowed texts
abbrev pub characters_of : List (Bor (List ℕ)) → List (List ℕ)
characters_of texts = map (λ text. chars text.now) texts

-- Read in its encoding, a source has these keys, each once, in the order of their first pairs. Comments are read, or
-- passed over.
abbrev pub HasKeysFor : Comments → Encoding → List ℕ → List (List ℕ) → Type 0
HasKeysFor Read e source keys = HasKeys e source keys
HasKeysFor PassedOver e source keys = HasPairKeys e source keys

abbrev pub HasKeysInOrder : OpenDocument → List (Bor (List ℕ)) → Type 0
HasKeysInOrder d keys = HasKeysFor d.comments d.repertoire.encoding d.bytes (characters_of keys)
