-- The first line of a source that isn't text.
use Rattle.std.proofs.Common.{ℕ, List, true, refl, inl, inr}
use Rattle.properties_format.specs.Encoding.{Encoding}
use Rattle.properties_tables.specs.{Sources.HasUnsoundBytes, declared.error.Failure.Failure}
use Rattle.properties_tables.specs.declared.error.Failure.TheVariants.{Utf32Mark, HoldsZero, NotUtf8, NotUtf8ByMark, NotUtf16}
use Rattle.properties_c.specs.{Inputs.TellsUnsound, Private.Results.unsound_line}

pub unsound-told : (e : Encoding) (source : List ℕ) (failure : Failure) → HasUnsoundBytes e source failure
    → TellsUnsound true e source (unsound_line failure)
unsound-told e source Utf32Mark h = (refl, inr (inr (h, refl)))
unsound-told e source (HoldsZero number) h = (refl, inl h.0)
unsound-told e source (NotUtf8 number) h = (refl, inr (inl h.0))
unsound-told e source (NotUtf8ByMark number) h = (refl, inr (inl h.0))
unsound-told e source (NotUtf16 number) h = (refl, inr (inl h.0))
unsound-told e source other h = absurd h
