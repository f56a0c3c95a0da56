-- What the exports give that look up a key and that find what is wrong.
use Rattle.std.specs.Global.{Global}
use Rattle.std.specs.Prelude.{◌≡◌, ◌⊎◌, ℕ, Bool, List, Option, Some, None, Result, Ok, Err, encode_utf8_all}
use Rattle.std.specs.declared.string.String.{String}
use Rattle.properties_format.specs.Encoding.{Encoding}
use Rattle.properties_format.specs.Found.{MalformedEscape, AreMalformedEscapes}
use Rattle.java_properties.specs.Findings.{KeyEntry, AreKeyLines, TellsValueFor}
use Rattle.properties_items.specs.Texts.{characters}
use Rattle.properties_items.specs.declared.error.PropertiesError.{PropertiesError}
use Rattle.properties_c.specs.Crossing.{Crossing, Delivers, Fails, RefusesCall}
use Rattle.properties_c.specs.Inputs.{InEncoding, WithFlags, WithSource, WithText, comments_for, for_keys}
use Rattle.properties_c.specs.Packed.{packed_findings}
use Rattle.properties_c.specs.declared.status.Status.TheVariants.{Done, NoKey, NoMemory}

-- ---- a value

-- What a look-up returned crosses: the value in UTF-8, or that no pair has the key, or its error.
abbrev pub ValueCrosses : Result (Option (String Global)) PropertiesError → Crossing → Type 0
ValueCrosses (Ok (Some value)) x = Delivers (encode_utf8_all (characters value)) Done 0 x
ValueCrosses (Ok None) x = RefusesCall NoKey 0 x
ValueCrosses (Err error) x = Fails error x

-- A look-up that reads comments or doesn't returned a result, and the result crosses.
abbrev pub GivesValueOf : Bool → Encoding → List ℕ → List ℕ → Crossing → Type 0
GivesValueOf read e source key x =
    (outcome : Result (Option (String Global)) PropertiesError) × TellsValueFor (comments_for read) e source key outcome × ValueCrosses outcome x

abbrev pub GetsAcross : List ℕ → ℕ → ℕ → List ℕ → Crossing → Type 0
GetsAcross source encoding flags key x =
    InEncoding encoding (λ e. WithFlags for_keys flags (λ f. WithText key (λ k. WithSource f.strict e source (GivesValueOf f.read_comments e source k x) x) x) x) x

-- ---- findings

-- These are the malformed escapes of the source and the keys of its pairs, and the only ones. What is wrong of them is
-- given, packed.
pub record GivesFindings (e : Encoding) (source : List ℕ) (x : Crossing) : Type 0 where
  pub escapes : List MalformedEscape
  pub are_escapes : AreMalformedEscapes e source escapes
  pub only_escapes : (others : List MalformedEscape) → AreMalformedEscapes e source others → others ≡ escapes
  pub keys : List KeyEntry
  pub are_keys : AreKeyLines e source keys
  pub only_keys : (others : List KeyEntry) → AreKeyLines e source others → others ≡ keys
  pub given : Delivers (packed_findings escapes keys) Done 0 x

abbrev pub FindingsAcross : List ℕ → ℕ → Crossing → Type 0
FindingsAcross source encoding x = InEncoding encoding (λ e. GivesFindings e source x ⊎ RefusesCall NoMemory 0 x) x
