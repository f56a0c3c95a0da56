-- What a source says after a key was renamed to one that isn't empty, after comments of keys were set, and after keys
-- were removed with their comments.
-- Source: java.util.Properties of Java SE 7, load (a later pair takes the place of an earlier one).
use Rattle.std.specs.Prelude.{◌≡◌, ◌≢◌, ◌⊎◌, All, ℕ, bytes_eq, false, true, if◌then◌else◌, List, [], ◌∷◌, ◌++◌, map, Option, None, Result, Ok, Err}
use Rattle.std.specs.Global.{Vec}
use Rattle.properties_format.specs.Text.{scalar}
use Rattle.properties_format.specs.Encoding.{Repertoire, byte_order_mark}
use Rattle.properties_format.specs.Lines.{end}
use Rattle.properties_format.specs.Items.{AreItems, Content, Entry, IsItems, comment, pair}
use Rattle.properties_format.specs.Maps.{IsMap}
use Rattle.properties_format.specs.Changed.{HoldNoPair, contents}
use Rattle.properties_format.specs.Edited.{is_editable}
use Rattle.properties_format.specs.Writing.{HoldsNoBackslash}
use Rattle.properties_editing.specs.declared.source.SourceOptions.{SourceOptions}
use Rattle.properties_renaming.specs.Commented.{IsRemovedWithComments}
use Rattle.properties_renaming.specs.Commenting.{AreCommentsSet, NewText}
use Rattle.properties_renaming.specs.Renaming.{IsRenamed, RenamesKey}
use Rattle.properties_renaming.specs.Sections.{is_among}
use Rattle.properties_renaming.specs.declared.renaming.RenameError.{RenameError}
use Rattle.properties_renaming.specs.declared.renaming.RenameError.TheVariants.{Source, NoKey, KeyTaken}

-- A key with characters, all of them scalar values.
abbrev pub IsName : List ℕ → Type 0
IsName key = (key ≢ []) × All scalar key

-- a content, with the new key if it has the old one
abbrev pub renamed : List ℕ → List ℕ → Content → Content
renamed old new (comment text) = comment text
renamed old new (pair key value) = if bytes_eq key old then pair new value else pair key value

-- The source can be edited, and these are its entries, of which none is malformed.
pub record HasSoundEntries (r : Repertoire) (source : List ℕ) (entries : List Entry) : Type 0 where
  pub editable : is_editable (byte_order_mark r.encoding source).encoding ≡ true
  pub items : IsItems r.encoding source end entries
  pub sound : AreItems entries

-- The encoding in force stays, no entry is malformed, and the contents are those of the source with the new key in each
-- pair that had the old one: comments, and pairs with their values, in order.
abbrev pub RenamingChangesTheKey : Repertoire → List ℕ → List ℕ → List ℕ → Type 0
RenamingChangesTheKey r source old new =
    IsName new → (result : List ℕ) → IsRenamed r source old new result → (before : List Entry) → HasSoundEntries r source before
    → ((byte_order_mark r.encoding result).encoding ≡ (byte_order_mark r.encoding source).encoding)
    × ((after : List Entry) → IsItems r.encoding result end after → AreItems after × (contents after ≡ map (renamed old new) (contents before)))

-- the map with the value of the old key under the new one
abbrev pub renamed_map : List ℕ → List ℕ → (List ℕ → Option (List ℕ)) → List ℕ → Option (List ℕ)
renamed_map old new value_at key = if bytes_eq key new then value_at old else (if bytes_eq key old then None else value_at key)

-- The new key has the value that the old one had, the old one has none, and every other key keeps its value.
abbrev pub RenamingMovesTheValue : Repertoire → List ℕ → List ℕ → List ℕ → Type 0
RenamingMovesTheValue r source old new =
    IsName new → old ≢ new → (result : List ℕ) → IsRenamed r source old new result
    → (before after : List Entry) → HasSoundEntries r source before → IsItems r.encoding result end after
    → (value_at : List ℕ → Option (List ℕ)) → IsMap before value_at → IsMap after (renamed_map old new value_at)

-- A key that is renamed there and back: the contents are those of the source.
abbrev pub RenamingBackGivesTheContents : Repertoire → List ℕ → List ℕ → List ℕ → Type 0
RenamingBackGivesTheContents r source old new =
    IsName old → IsName new → (next result : List ℕ) → IsRenamed r source old new next → IsRenamed r next new old result
    → (before after : List Entry) → HasSoundEntries r source before → IsItems r.encoding result end after → contents after ≡ contents before

-- Nothing is renamed: no pair has the key, or the source has an error.
abbrev pub IsRenameRefused : Result (Vec ℕ) RenameError → Type 0
IsRenameRefused (Ok bytes) = ⊥
IsRenameRefused (Err NoKey) = Unit {0}
IsRenameRefused (Err (KeyTaken number)) = ⊥
IsRenameRefused (Err (Source error)) = Unit {0}

-- A key that is renamed a second time in the same way isn't there.
abbrev pub RenamingAgainIsRefused : SourceOptions → List ℕ → List ℕ → List ℕ → Type 0
RenamingAgainIsRefused options source old new =
    IsName new → old ≢ new → (bytes : Vec ℕ) → RenamesKey options source old new (Ok bytes)
    → (again : Result (Vec ℕ) RenameError) → RenamesKey options bytes.items old new again → IsRenameRefused again

-- ---- the comments of keys

-- Contents that stay, and a pair after them: comments right before it are replaced by others.
pub record ChangedComment : Type 0 where
  pub kept : List Content
  pub old_texts : List (List ℕ)
  pub new_texts : List (List ℕ)
  pub key : List ℕ
  pub value : List ℕ

-- the contents with the old comments, and those with the new ones; the last contents stay in both
abbrev pub with_old_comments : List ChangedComment → List Content → List Content
with_old_comments [] last = last
with_old_comments (c ∷ cs) last = c.kept ++ (map comment c.old_texts ++ pair c.key c.value ∷ with_old_comments cs last)

abbrev pub with_new_comments : List ChangedComment → List Content → List Content
with_new_comments [] last = last
with_new_comments (c ∷ cs) last = c.kept ++ (map comment c.new_texts ++ pair c.key c.value ∷ with_new_comments cs last)

-- Each of these pairs is the last one with its key, which is one of these keys.
abbrev pub AreLastPairs : List (List ℕ) → List ChangedComment → List Content → Type 0
AreLastPairs keys [] last = Unit {0}
AreLastPairs keys (c ∷ cs) last = (is_among keys c.key ≡ true) × HoldNoPair c.key (with_old_comments cs last) × AreLastPairs keys cs last

-- These are among those keys.
abbrev pub AreAmong : List (List ℕ) → List (List ℕ) → Type 0
AreAmong [] keys = Unit {0}
AreAmong (k ∷ ks) keys = (is_among keys k ≡ true) × AreAmong ks keys

-- the keys of these pairs
abbrev pub changed_keys : List ChangedComment → List (List ℕ)
changed_keys changes = map (λ c. let d : ChangedComment = c in d.key) changes

-- Comments right before the last pairs with these keys are replaced by others, and all other contents are unchanged.
-- Contents have no blank lines, so these may be comments beyond one.
pub record AreCommentsChanged (keys : List (List ℕ)) (old new : List Content) : Type 0 where
  pub changes : List ChangedComment
  pub last : List Content
  pub was : old ≡ with_old_comments changes last
  pub now : new ≡ with_new_comments changes last
  pub are_last : AreLastPairs keys changes last
  pub each : AreAmong keys (changed_keys changes)

-- the keys whose comments are set
abbrev pub keys_of : List NewText → List (List ℕ)
keys_of texts = map (λ t. let u : NewText = t in u.key) texts

-- This holds for each text.
abbrev pub OfTexts : (List ℕ → Type 0) → List NewText → Type 0
OfTexts Holds [] = Unit {0}
OfTexts Holds (t ∷ ts) = Holds t.text × OfTexts Holds ts

-- The encoding in force stays. If no entry of the result is malformed, as an escape in a text may be, all contents but
-- comments right before the pairs are those of the source, in order.
abbrev pub SettingCommentsKeepsTheRest : Repertoire → List ℕ → List NewText → Type 0
SettingCommentsKeepsTheRest r source texts =
    OfTexts (All scalar) texts → (result : List ℕ) → AreCommentsSet r source texts result → (before : List Entry) → HasSoundEntries r source before
    → ((byte_order_mark r.encoding result).encoding ≡ (byte_order_mark r.encoding source).encoding)
    × ((after : List Entry) → IsItems r.encoding result end after → AreItems after → AreCommentsChanged (keys_of texts) (contents before) (contents after))

-- No entry is malformed if no text holds a backslash.
abbrev pub SettingPlainCommentsBreaksNothing : Repertoire → List ℕ → List NewText → Type 0
SettingPlainCommentsBreaksNothing r source texts =
    OfTexts (All scalar) texts → OfTexts HoldsNoBackslash texts → (result : List ℕ) → AreCommentsSet r source texts result
    → (before after : List Entry) → HasSoundEntries r source before → IsItems r.encoding result end after → AreItems after

-- Every key keeps its value.
abbrev pub SettingCommentsKeepsTheMap : Repertoire → List ℕ → List NewText → Type 0
SettingCommentsKeepsTheMap r source texts =
    OfTexts (All scalar) texts → (result : List ℕ) → AreCommentsSet r source texts result
    → (before after : List Entry) → HasSoundEntries r source before → IsItems r.encoding result end after → AreItems after
    → (value_at : List ℕ → Option (List ℕ)) → IsMap before value_at → IsMap after value_at

-- Each pair with one of the keys is left out, and comments may be; all other contents are unchanged.
abbrev pub AreOthersIn : List (List ℕ) → List Content → List Content → Type 0
AreOthersIn keys [] others = others ≡ []
AreOthersIn keys (comment text ∷ cs) others =
    AreOthersIn keys cs others ⊎ (more : List Content) × (others ≡ comment text ∷ more) × AreOthersIn keys cs more
AreOthersIn keys (pair name value ∷ cs) others =
    (is_among keys name ≡ true) × AreOthersIn keys cs others
    ⊎ (is_among keys name ≡ false) × (more : List Content) × (others ≡ pair name value ∷ more) × AreOthersIn keys cs more

-- Keys are removed with their comments: the encoding in force stays, no entry is malformed, and pairs with other keys
-- are those of the source, in order.
abbrev pub RemovingWithCommentsKeepsTheRest : Repertoire → List ℕ → List (List ℕ) → Type 0
RemovingWithCommentsKeepsTheRest r source keys =
    (result : List ℕ) → IsRemovedWithComments r.encoding source keys result → (before : List Entry) → HasSoundEntries r source before
    → ((byte_order_mark r.encoding result).encoding ≡ (byte_order_mark r.encoding source).encoding)
    × ((after : List Entry) → IsItems r.encoding result end after → AreItems after × AreOthersIn keys (contents before) (contents after))

-- So these keys have no value, and every other key keeps its own.
abbrev pub RemovingWithCommentsTakesTheValues : Repertoire → List ℕ → List (List ℕ) → Type 0
RemovingWithCommentsTakesTheValues r source keys =
    (result : List ℕ) → IsRemovedWithComments r.encoding source keys result
    → (before after : List Entry) → HasSoundEntries r source before → IsItems r.encoding result end after
    → (value_at : List ℕ → Option (List ℕ)) → IsMap before value_at → IsMap after (λ key. if is_among keys key then None else value_at key)
