-- The values of some keys of a source.
use Rattle.std.specs.Prelude.{ℕ, List, [], ◌∷◌, Option, ◌≡◌, ◌⊎◌, Result, Ok, Err, map}
use Rattle.properties_format.specs.Edits.{HasPairValue, AreInComments, EscapesAre}
use Rattle.properties_format.specs.Encoding.{Encoding}
use Rattle.std.specs.Global.{Vec}
use Rattle.properties_items.specs.declared.findings.MalformedEscape.{MalformedEscape}
use Rattle.properties_tables.specs.Sources.{HasSoundBytes, IsFirstMalformedEscape}
use Rattle.std.specs.Option.{option_map}
use Rattle.std.specs.declared.string.String.{String}
use Rattle.java_properties.specs.Maps.{characters}
use Rattle.properties_tables.specs.Failures.{IsMemoryFailure}
use Rattle.properties_tables.specs.declared.error.Failure.{Failure}
use Rattle.properties_tables.specs.declared.error.Failure.TheVariants.{Malformed}

-- Each of these keys has its value in the source.
abbrev pub HaveValues : Encoding → List ℕ → List (List ℕ) → List (Option (List ℕ)) → Type 0
HaveValues e source [] [] = Unit {0}
HaveValues e source (key ∷ keys) (value ∷ values) = HasPairValue e source key value × HaveValues e source keys values
HaveValues e source keys values = ⊥

abbrev pub value_texts : {Z : Type 0} → List (Option (String Z)) → List (Option (List ℕ))
value_texts values = map (option_map characters) values

-- The failure says that this escape is malformed, the first one of a pair.
pub record SaysMalformed (e : Encoding) (source : List ℕ) (failure : Failure) : Type 0 where
  pub escape : MalformedEscape
  pub first : HasSoundBytes e source → IsFirstMalformedEscape e source escape
  pub is : failure ≡ Malformed escape

-- What looking keys up returns. A source is refused for a malformed escape of a pair; otherwise memory ran out.
abbrev pub FindsValues : {Y Z : Type 0} → Encoding → List ℕ → List (String Y) → Result (Vec (Option (String Z))) Failure → Type 0
FindsValues e source keys (Ok found) = EscapesAre e source AreInComments × HaveValues e source (map characters keys) (value_texts found.items)
FindsValues e source keys (Err failure) = SaysMalformed e source failure ⊎ IsMemoryFailure failure
