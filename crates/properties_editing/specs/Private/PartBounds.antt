-- Parts that edits needn't look at: they have no LF at their front that could go, no pair, or no bytes.
use Rattle.std.specs.Prelude.{◌≡◌, ◌≤◌, ◌<◌, ◌-◌, ℕ, true, List, length, get_or, None}
use Rattle.properties_editing.specs.declared.parts.PartKind.TheVariants as kind
use Rattle.properties_editing.specs.declared.parts.Part.{Part}
use Rattle.properties_editing.specs.declared.parts.Bounds.{Bounds}
use Rattle.properties_editing.specs.Private.BodyParts.{is_empty_part, no_part, without_lf}

-- The part has no LF at its front that could go.
abbrev pub IsWithoutLf : List ℕ → Part → Type 0
IsWithoutLf d p = without_lf d p ≡ p

-- No part from this place on has.
abbrev pub ArePlainFrom : List ℕ → ℕ → List Part → Type 0
ArePlainFrom d n ps = (i : ℕ) → n ≤ i → IsWithoutLf d (get_or ps i no_part)

-- The part has no pair.
abbrev pub IsPairless : Part → Type 0
IsPairless p = p.kind ≡ kind.Others None

-- No part from one place up to another has.
abbrev pub HaveNoPair : ℕ → ℕ → List Part → Type 0
HaveNoPair n end ps = (i : ℕ) → n ≤ i → i < end → IsPairless (get_or ps i no_part)

-- No part from this place on has a pair.
abbrev pub AreBehindPairs : ℕ → List Part → Type 0
AreBehindPairs n ps = (n ≤ length ps) × HaveNoPair n (length ps) ps

-- All parts from one place up to another are empty.
abbrev pub AreEmpty : ℕ → ℕ → List Part → Type 0
AreEmpty n end ps = (i : ℕ) → n ≤ i → i < end → is_empty_part (get_or ps i no_part) ≡ true

-- Parts have no pair, or are empty, as the bounds say. The last part isn't among the empty ones: it may get bytes.
pub record AreBoundsIn (b : Bounds) (ps : List Part) : Type 0 where
  pub none : HaveNoPair b.pairs b.end ps
  pub ordered : b.pairs ≤ b.end
  pub within : b.end ≤ length ps
  pub empty : AreEmpty b.empty (b.end - 1) ps
  pub gone : AreEmpty b.gone.start b.gone.end ps
  pub gone_within : b.gone.end ≤ length ps - 1

-- The parts are as the bounds say.
abbrev pub AreBounds : List ℕ → Bounds → List Part → Type 0
AreBounds d b ps = ArePlainFrom d b.feeds ps × AreBoundsIn b ps
