-- The comment of a key: the comment lines directly above the last pair with it.
-- Source: java.util.Properties of Java SE 7, load (what a comment line is; a comment line is never continued).
use Rattle.std.specs.Prelude.{◌≡◌, ◌⊎◌, ℕ, true, false, List, map, Option, Some, None, Result, Ok, Err}
use Rattle.std.specs.Option.{option_map}
use Rattle.std.specs.Global.{Global}
use Rattle.std.specs.declared.string.String.{String}
use Rattle.std.specs.declared.vec.Vec.{Vec}
use Rattle.properties_format.specs.Encoding.{Encoding, byte_order_mark}
use Rattle.properties_format.specs.Body.{HeldLine, AreGroupsOf, NoneHasKey}
use Rattle.properties_format.specs.Edited.{is_editable}
use Rattle.properties_format.specs.Edits.{AreInComments, EscapesAre}
use Rattle.properties_items.specs.Errors.{IsBareError}
use Rattle.properties_items.specs.Texts.{characters}
use Rattle.properties_items.specs.declared.error.ErrorKind.TheVariants as kind
use Rattle.properties_items.specs.declared.error.PropertiesError.{PropertiesError}
use Rattle.properties_editing.specs.Documents.{OpenDocument}
use Rattle.properties_renaming.specs.CommentLines.{AreCommentTexts, IsCommentOf}
use Rattle.java_properties.specs.Findings.{IsFirstPairError}

-- The texts of the comment of the key, or none if no pair has the key.
abbrev pub AreTextsOfComment : List (List HeldLine) → List ℕ → Option (List (List ℕ)) → Type 0
AreTextsOfComment groups key None = NoneHasKey key groups
AreTextsOfComment groups key (Some texts) = (is : IsCommentOf groups key) × AreCommentTexts is.run texts

-- ---- what is told of it

-- The comment of the key in a source in whose pairs no escape is malformed.
pub record HasComment (e : Encoding) (source key : List ℕ) (texts : Option (List (List ℕ))) : Type 0 where
  pub editable : is_editable (byte_order_mark e source).encoding ≡ true
  pub escapes : EscapesAre e source AreInComments
  pub groups : List (List HeldLine)
  pub held : AreGroupsOf (byte_order_mark e source).encoding (byte_order_mark e source).body groups
  pub are_texts : AreTextsOfComment groups key texts

-- A pair has a malformed escape, and this is the error of the first; or memory ran out.
abbrev pub IsCommentError : Encoding → List ℕ → PropertiesError → Type 0
IsCommentError e source error = IsFirstPairError e source error ⊎ IsBareError kind.Memory error

-- Why no comment is told: UTF-16 is in force; or else such an error.
abbrev pub RefusesComment : Encoding → List ℕ → PropertiesError → Type 0
RefusesComment e source error =
    (is_editable (byte_order_mark e source).encoding ≡ false) × IsBareError kind.Unsupported error
    ⊎ (is_editable (byte_order_mark e source).encoding ≡ true) × IsCommentError e source error

-- The comment of the key, or why none is told.
abbrev pub TellsComment : {Y Z : Type 0} → Encoding → List ℕ → List ℕ → Result (Option (Vec (String Y) Z)) PropertiesError → Type 0
TellsComment e source key (Ok texts) = HasComment e source key (option_map (λ t. map characters t.items) texts)
TellsComment e source key (Err error) = RefusesComment e source error

-- The same of a document, or memory ran out.
abbrev pub TellsCommentIn : {Y Z : Type 0} → OpenDocument → List ℕ → Result (Option (Vec (String Y) Z)) PropertiesError → Type 0
TellsCommentIn d key (Ok texts) = TellsComment d.repertoire.encoding d.bytes key (Ok texts)
TellsCommentIn d key (Err error) = TellsComment {Y = Global} {Z = Global} d.repertoire.encoding d.bytes key (Err error) ⊎ IsBareError kind.Memory error
