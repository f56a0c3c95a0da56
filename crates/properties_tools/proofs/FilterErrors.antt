-- The errors of filtering hold no text that was refused, so they print some text.
use Rattle.std.proofs.Common.{◌≡◌, ℕ, List, inl, inr, refl}
use Rattle.std.specs.Prelude.{Option, Some, None, Err}
use Rattle.std.specs.Option.{option_map}
use Rattle.counted_io.specs.Streams.{Reader, Sink}
use Rattle.java_properties.specs.{DisplayTexts.error_display, Errors.refused_of}
use Rattle.properties_items.specs.declared.error.PropertiesError.{PropertiesError}
use Rattle.properties_tools.specs.Filter.{Filters, Form}

nothing-of : {A B : Type 0} (f : A → B) (o : Option A) → option_map f o ≡ None → o ≡ None
nothing-of f None h = refl
nothing-of f (Some x) h = cc

shown : (error : PropertiesError) → refused_of error ≡ None → (text : List ℕ) × (error_display error ≡ Some text)
shown error h = let none = nothing-of _ error.refused h in rw none (_, refl)

pub filter-shown : {R W : Type 0} (reader : Reader R) (sink : Sink W) (r : Form) (input input' : R) (output output' : W) (error : PropertiesError)
    → Filters reader sink r input output (Err error) input' output' → (text : List ℕ) × (error_display error ≡ Some text)
filter-shown reader sink r input input' output output' error h = shown error (elim h.1.stops [
  | inl k ↦ elim k.stops [
    | inl m ↦ m.is.its_text
    | inr (inl f) ↦ f.is.its_text
    | inr (inr f) ↦ elim f.is [ inl is ↦ is.0.its_text | inr is ↦ is.its_text ]
  ]
  | inr (inl w) ↦ elim w.fails [ inl f ↦ f.is.its_text | inr f ↦ elim f.is [ inl is ↦ is.its_text | inr is ↦ is.0.its_text ] ]
  | inr (inr w) ↦ w.fails.is.its_text
])
