-- How texts are taken that each end with a zero byte.
use Rattle.std.specs.Prelude.{◌≡◌, ◌≢◌, ℕ, List, [], ◌∷◌, ◌++◌, Result, Ok, Err}
use Rattle.std.specs.Borrow.{Bor}
use Rattle.properties_tools.specs.Propedit.Merge.{HasNoZero}
use Rattle.properties_tables.specs.declared.error.TextFlaw.{TextFlaw}
use Rattle.properties_tables.specs.declared.error.TextFlaw.TheVariants as flaw

-- What taking the first text returns: it and what comes after its zero byte; or there is no zero byte, in some bytes or
-- in none.
abbrev pub TakesText : List ℕ → Result (Bor (List ℕ) × Bor (List ℕ)) TextFlaw → Type 0
TakesText rest (Ok parts) = (rest ≡ parts.0.now ++ 0 ∷ parts.1.now) × HasNoZero parts.0.now
TakesText rest (Err flaw.NoValue) = rest ≡ []
TakesText rest (Err flaw.NotEnded) = (rest ≢ []) × HasNoZero rest
TakesText rest (Err flaw.NotUtf8) = ⊥
