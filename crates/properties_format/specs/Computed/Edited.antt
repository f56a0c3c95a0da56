-- Which groups hold no malformed escape.
use Rattle.properties_format.specs.Items.{Outcome, broken}

-- The outcome isn't malformed.
abbrev pub IsSoundOutcome : Outcome → Type 0
IsSoundOutcome (broken kind) = ⊥
IsSoundOutcome outcome = Unit {0}
