-- A source in parts: what its mark, an LF that guards it, and its parts are together.
use Rattle.std.specs.Prelude.{◌≡◌, ℕ, suc, ◌==◌, ◌&&◌, ◌||◌, Bool, if◌then◌else◌, false, List, [], ◌∷◌, ◌++◌, drop, take, Result, Ok, Err}
use Rattle.properties_format.specs.Text.{line_feed}
use Rattle.properties_format.specs.Encoding.{begins_like_bom}
use Rattle.properties_text.specs.Encoding.{encoding_of}
use Rattle.properties_items.specs.declared.error.PropertiesError.{PropertiesError}
use Rattle.properties_editing.specs.Private.BodyParts.{ReadsParts, is_empty_part, parts_bytes, part_text_bytes}
use Rattle.properties_editing.specs.Private.PartBounds.{AreBounds}
use Rattle.properties_editing.specs.Private.RemovedParts.{RemovesPairs}
use Rattle.properties_editing.specs.declared.source.BodyStart.{BodyStart}
use Rattle.properties_editing.specs.declared.source.Comments.{Comments}
use Rattle.properties_editing.specs.declared.parts.Part.{Part}
use Rattle.properties_editing.specs.declared.parts.NamedKeys.{NamedKeys}
use Rattle.properties_editing.specs.declared.parts.source_parts.SourceParts.{SourceParts}

-- how many parts at the front are empty
abbrev pub empty_front : List Part → ℕ
empty_front [] = 0
empty_front (p ∷ ps) = if is_empty_part p then suc (empty_front ps) else 0

-- the text of the first part that isn't empty
abbrev pub first_text : List ℕ → List Part → List ℕ
first_text d [] = []
first_text d (p ∷ ps) = if is_empty_part p then first_text d ps else part_text_bytes d p.text

-- an LF, if there is to be one
abbrev pub lf_if : Bool → List ℕ
lf_if b = if b then line_feed ∷ [] else []

-- the bytes of a source, which was read as these bytes
abbrev pub source_bytes : List ℕ → SourceParts → List ℕ
source_bytes read source =
    let start = source.opened.start in take start read ++ (lf_if source.guarded ++ parts_bytes (drop start read) source.parts.parts.items)

-- A source was read into parts, of which those at the front that are empty were counted, and its bounds are right; or
-- an error says why not.
abbrev pub ReadsSourceParts : Comments → BodyStart → List ℕ → NamedKeys → Result SourceParts PropertiesError → Type 0
ReadsSourceParts comments opened d keys (Ok source) =
    ReadsParts comments (encoding_of opened.encoding) d keys (Ok source.parts)
    × (source.opened ≡ opened) × (source.empty ≡ empty_front source.parts.parts.items) × (source.guarded ≡ false)
    × AreBounds d source.bounds source.parts.parts.items
ReadsSourceParts comments opened d keys (Err error) = ReadsParts comments (encoding_of opened.encoding) d keys (Err error)

-- The empty parts at the front were counted. An LF comes first if one did, or if the source has no mark and the rest
-- would be taken for one.
pub record GuardsParts (d : List ℕ) (old new : SourceParts) : Type 0 where
  pub opened : new.opened ≡ old.opened
  pub parts : new.parts ≡ old.parts
  pub empty : new.empty ≡ empty_front old.parts.parts.items
  pub guarded : new.guarded ≡ (old.guarded || (old.opened.start == 0) && begins_like_bom (first_text d old.parts.parts.items))
  pub bounds : new.bounds ≡ old.bounds

-- The pairs with a key went, if there were any.
pub record RemovesKeyFromParts (d : List ℕ) (key : List ℕ) (old : SourceParts) (told : Bool) (new : SourceParts) : Type 0 where
  pub removes : RemovesPairs d key old.parts told new.parts
  pub opened : new.opened ≡ old.opened
  pub empty : new.empty ≡ empty_front new.parts.parts.items
  pub guarded : new.guarded ≡ (old.guarded || (old.opened.start == 0) && begins_like_bom (first_text d new.parts.parts.items))
  pub bounds : AreBounds d new.bounds new.parts.parts.items
