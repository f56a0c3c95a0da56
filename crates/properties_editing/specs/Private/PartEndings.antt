-- What a new pair behind parts looks like: the last pair, and the last line ending.
use Rattle.std.specs.Prelude.{◌≡◌, ◌≤◌, ◌<◌, ℕ, get_or, Bool, true, false, List, [], ◌∷◌, ◌++◌, Option, Some, None}
use Rattle.std.specs.Option.{option_map, option_or}
use Rattle.properties_format.specs.Text as format
use Rattle.properties_format.specs.Text.{is_empty, line_ending_text}
use Rattle.properties_format.specs.Lines.{HoldsNoLineEnding}
use Rattle.properties_format.specs.Computed.Lines.{ends_in_cr}
use Rattle.properties_items.specs.Line.{ending_of}
use Rattle.properties_editing.specs.declared.bytes.BodySpan.{BodySpan}
use Rattle.properties_editing.specs.declared.parts.PartKind.{PartKind}
use Rattle.properties_editing.specs.declared.parts.PartKind.TheVariants as kind
use Rattle.properties_editing.specs.declared.parts.Part.{Part}
use Rattle.properties_editing.specs.declared.parts.endings.FoundEnding.{FoundEnding}
use Rattle.properties_editing.specs.Private.BodyParts.{IsLastWithin, IsTextWithin, part_span_bytes, no_part, part_bytes, part_text_bytes}

-- what the last part has of which this is something
abbrev pub last_some : {X : Type 0} → (Part → Option X) → List Part → Option X
last_some f [] = None
last_some f (p ∷ ps) = option_or (last_some f ps) (f p)

-- ---- the last pair

abbrev pub kind_pair : List ℕ → Part → PartKind → Option (List ℕ)
kind_pair d p kind.Pair = Some (part_text_bytes d p.text)
kind_pair d p (kind.Others last) = option_map (part_span_bytes d p.text) last

-- the last pair of a part, whatever its key
abbrev pub part_pair : List ℕ → Part → Option (List ℕ)
part_pair d p = kind_pair d p p.kind

abbrev pub last_span : PartKind → Option BodySpan
last_span kind.Pair = None
last_span (kind.Others last) = last

-- The spans of a part are in the bytes.
abbrev pub IsPartWithin : List ℕ → Part → Type 0
IsPartWithin d p = IsTextWithin d p.text × IsLastWithin d p.text (last_span p.kind)

abbrev pub ArePartsWithin : List ℕ → List Part → Type 0
ArePartsWithin d [] = Unit {0}
ArePartsWithin d (p ∷ ps) = IsPartWithin d p × ArePartsWithin d ps

-- ---- the last line ending

-- whether bytes end in a CR, if there are any
abbrev pub cr_end : List ℕ → Option Bool
cr_end [] = None
cr_end (b ∷ bs) = Some (ends_in_cr (b ∷ bs))

abbrev pub part_cr_end : List ℕ → Part → Option Bool
part_cr_end d p = cr_end (part_bytes d p)

-- No part from one place up to another has bytes.
abbrev pub HaveNoBytes : List ℕ → ℕ → ℕ → List Part → Type 0
HaveNoBytes d n end ps = (i : ℕ) → n ≤ i → i < end → part_cr_end d (get_or ps i no_part) ≡ None

-- The last line ending of these bytes, and whether it is an LF with nothing before it.
pub record IsEndingIn (bytes : List ℕ) (found : FoundEnding) : Type 0 where
  pub front : List ℕ
  pub rest : List ℕ
  pub division : bytes ≡ front ++ (line_ending_text (ending_of found.ending) ++ rest)
  pub plain : HoldsNoLineEnding rest
  pub alone : ending_of found.ending ≡ format.lf → ends_in_cr front ≡ false
  pub first : ending_of found.ending ≡ format.lf → found.is_first ≡ is_empty front
  pub other : found.is_first ≡ true → ending_of found.ending ≡ format.lf

abbrev pub FindsEnding : List ℕ → Option FoundEnding → Type 0
FindsEnding bytes None = HoldsNoLineEnding bytes
FindsEnding bytes (Some found) = IsEndingIn bytes found
