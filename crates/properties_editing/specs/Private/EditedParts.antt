-- What edits make of a source in parts.
use Rattle.std.specs.Prelude.{◌≡◌, ◌≤◌, ℕ, ◌++◌, Bool, true, Option, Some, None, List, [], ◌∷◌, Result, Ok, Err, drop, length, take}
use Rattle.std.specs.Option.{is_some}
use Rattle.properties_format.specs.Encoding.{Encoding, Repertoire}
use Rattle.properties_format.specs.Body.{HeldLine, groups_bytes}
use Rattle.properties_format.specs.Computed.Body.{held_groups_of}
use Rattle.properties_format.specs.Computed.Valued.{last_between}
use Rattle.properties_format.proofs.GroupsInTurn.Merged.{AreInTurn}
use Rattle.properties_text.specs.Encoding.{encoding_of}
use Rattle.properties_format.specs.Edits.{Edit, IsEdited, put, remove, set_value}
use Rattle.properties_editing.specs.Private.BodyParts.{StandFor, value_among}
use Rattle.properties_editing.specs.Private.BodyValues.{IsGroupAlone}
use Rattle.properties_editing.specs.Private.PartBounds.{AreBounds}
use Rattle.properties_editing.specs.Private.SourceParts.{empty_front, lf_if}
use Rattle.properties_editing.specs.Private.Sound.{AreSound}
use Rattle.properties_editing.specs.Private.Sources.{IsBodyStartOf}
use Rattle.properties_editing.specs.declared.parts.source_parts.SourceParts.{SourceParts}

-- A source has these bytes. It was read as the other, and the parts stand for the groups behind its mark, and behind
-- the LF that guards them, if there is one.
pub record StandForSource (r : Repertoire) (read now : List ℕ) (named : List ℕ → Bool) (gs : List (List HeldLine)) (p : SourceParts) : Type 0 where
  pub in_force : IsBodyStartOf now r p.opened
  pub within : p.opened.start ≤ length read
  pub mark : take p.opened.start now ≡ take p.opened.start read
  pub body : drop p.opened.start now ≡ lf_if p.guarded ++ groups_bytes gs
  pub turn : AreInTurn (encoding_of p.opened.encoding) gs
  pub stand : StandFor (drop p.opened.start read) named gs p.parts
  pub empty : p.empty ≡ empty_front p.parts.parts.items
  pub bounds : AreBounds (drop p.opened.start read) p.bounds p.parts.parts.items

-- ---- edits

-- the key of an edit
abbrev pub edit_key : Edit → List ℕ
edit_key (put key value) = key
edit_key (remove key) = key
edit_key (set_value key value) = key

-- The source was read with these bytes and has those now; the parts stand for its groups, of which no pair is
-- malformed.
pub record AreParts (r : Repertoire) (read now : List ℕ) (named : List ℕ → Bool) (p : SourceParts) : Type 0 where
  pub groups : List (List HeldLine)
  pub stand : StandForSource r read now named groups p
  pub sound : AreSound groups

-- The parts stand for some bytes of the source, and this key is named.
pub record HaveParts (key read : List ℕ) (p : SourceParts) : Type 0 where
  pub repertoire : Repertoire
  pub now : List ℕ
  pub named : List ℕ → Bool
  pub is_named_key : named key ≡ true
  pub parts : AreParts repertoire read now named p

-- The parts stand for the bytes after the edit.
pub record AreEditedParts (r : Repertoire) (edit : Edit) (read now : List ℕ) (named : List ℕ → Bool) (new : SourceParts) : Type 0 where
  pub result : List ℕ
  pub edited : IsEdited r now edit result
  pub parts : AreParts r read result named new

-- So they do, for whatever bytes they stood before; or memory ran out, and they stand for the same.
abbrev pub EditsParts : {E : Type 0} → Edit → List ℕ → SourceParts → Result Unit E → SourceParts → Type 0
EditsParts edit read old (Ok done) new =
    (r : Repertoire) (now : List ℕ) (named : List ℕ → Bool) → named (edit_key edit) ≡ true → AreParts r read now named old
    → AreEditedParts r edit read now named new
EditsParts edit read old (Err error) new =
    (r : Repertoire) (now : List ℕ) (named : List ℕ → Bool) → AreParts r read now named old → AreParts r read now named new

-- A key was removed, and it was told whether a pair had it.
abbrev pub RemovesFromParts : List ℕ → List ℕ → SourceParts → Bool → SourceParts → Type 0
RemovesFromParts key read old told new =
    (r : Repertoire) (now : List ℕ) (named : List ℕ → Bool) → named key ≡ true → (p : AreParts r read now named old)
    → AreEditedParts r (remove key) read now named new × (told ≡ is_some (value_among key p.groups))

-- ---- the keys of edits

-- The keys of the edits are named.
abbrev pub AreNamed : (List ℕ → Bool) → List Edit → Type 0
AreNamed named [] = Unit {0}
AreNamed named (edit ∷ edits) = (named (edit_key edit) ≡ true) × AreNamed named edits

-- ---- the last pair

-- If there is a pair, its bytes are one group.
abbrev pub IsPairIn : Encoding → Option (List ℕ) → Type 0
IsPairIn e None = Unit {0}
IsPairIn e (Some bytes) = IsGroupAlone e bytes

-- what separates its key from its value
abbrev pub between_last : Encoding → Option (List ℕ) → Option (List ℕ)
between_last e None = None
between_last e (Some bytes) = last_between (held_groups_of e bytes)
