-- The status of a failure.
use Rattle.std.proofs.Common.{◌≡◌, ℕ, List, refl, ap, sym, ◌∙◌, inl, inr}
use Rattle.std.specs.Prelude.{◌⊎◌, Err}
use Rattle.counted_io.specs.Streams.{Sink}
use Rattle.properties_format.specs.Encoding.{Encoding}
use Rattle.properties_items.specs.declared.error.PropertiesError.{PropertiesError}
use Rattle.properties_changing.specs.{Change.Changes, InPlace.PrintsRefusal, Private.InPlace.IsCountFailure, declared.request.Change.Change}
use Rattle.properties_tables.specs.{Failures.failure_status, Failures.PrintsFailure, Sources.IsUnsound, declared.error.Failure.Failure}
use Rattle.properties_tables.specs.{declared.error.Failure.TheVariants.Absent, declared.error.Failure.TheVariants.Input}
use Rattle.properties_tables.specs.declared.error.Failure.TheVariants.{KeyTaken}

-- That of a refused source is 2.
unsound-status : (e : Encoding) (bytes : List ℕ) (failure : Failure) → IsUnsound e bytes failure → failure_status failure ≡ 2
unsound-status e bytes (Absent key) h = absurd h
unsound-status e bytes (KeyTaken number key) h = absurd h
unsound-status e bytes failure h = refl

module _ {W : Type 0} (sink : Sink W) (old new : W) (path : List ℕ) (e : Encoding) (change : Change) (failure : Failure) (status : ℕ) where
  -- The status 1 says that a change is refused, since that of the system's errors is 2.
  pub refused-status : ((error : PropertiesError) × (failure ≡ Input error)) ⊎ (IsCountFailure e failure ⊎ ((source : List ℕ) × Changes e source change (Err failure)))
      → status ≡ failure_status failure
      → PrintsFailure sink old path failure new → status ≡ 1 → PrintsRefusal sink old path e change new
  refused-status (inl (error, input)) is prints one = absurd (let k : 1 ≡ 2 = sym one ∙ is ∙ ap failure_status input in cc)
  refused-status (inr (inl (bytes, unsound))) is prints one = absurd (let k : 1 ≡ 2 = sym one ∙ is ∙ unsound-status e bytes failure unsound in cc)
  refused-status (inr (inr (source, refused))) is prints one = record {
    source = source;
    failure = failure;
    status = sym is ∙ one;
    refused = refused;
    prints = prints;
  }
