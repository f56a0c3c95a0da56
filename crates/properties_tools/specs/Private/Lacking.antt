-- How the keys that only one of two tables has are computed.
use Rattle.std.specs.Prelude.{ℕ, ◌&&◌, not, bytes_eq, if◌then◌else◌, Bool, true, false, List, [], ◌∷◌, filter, string_bytes}
use Rattle.json.specs.Json.{Json}
use Rattle.java_properties.specs.Findings.{KeyPlace}
use Rattle.properties_tables.specs.Private.Table.{place_keys, table_places, IsKeyTable}
use Rattle.properties_tools.specs.Propedit.Against.{is_compared, missing_line, missing_value, surplus_line, surplus_value, KnownBase}
use Rattle.properties_checking.specs.{Private.Objects.AddsReport, Kinds.reported, declared.kinds.Kind.Kind, declared.kinds.Kind.TheVariants.MissingKey}
use Rattle.properties_checking.specs.declared.kinds.Kind.TheVariants.{SurplusKey}
use Rattle.properties_tools.specs.{declared.propedit.against.LackingKey.LackingKey, declared.propedit.against.LackingKey.TheVariants.Missing}
use Rattle.properties_tools.specs.{declared.propedit.against.LackingKey.TheVariants.Surplus, declared.propedit.against.Sides.Sides}
use Rattle.properties_tools.specs.declared.propedit.against.Base.TheInside.{Inside}
use Rattle.std.specs.{Global.Global, declared.string.String.String}

-- ---- a base

abbrev pub known_base : Inside → KnownBase
known_base b = record { name = string_bytes b.name; keys = table_places b.keys; is_well_formed = b.is_well_formed; is_utf_32 = b.is_utf_32 }

abbrev pub IsBase : Inside → Type 0
IsBase b = IsKeyTable b.keys

-- ---- keys that the other table doesn't have

-- whether a key is among some
abbrev pub is_among : List ℕ → List (List ℕ) → Bool
is_among key [] = false
is_among key (k ∷ ks) = if bytes_eq k key then true else is_among key ks

-- whether a key is compared, and isn't among some
abbrev pub is_lacking : Bool → List (List ℕ) → List ℕ → Bool
is_lacking are_well_formed keys key = not (is_among key keys) && is_compared are_well_formed key

-- the places of the compared keys that aren't among some
abbrev pub lacking : Bool → List (List ℕ) → List KeyPlace → List KeyPlace
lacking are_well_formed keys places = filter (λ p. is_lacking are_well_formed keys p.key) places

-- ---- what is printed of them

pub record HaveTables (s : Sides) : Type 0 where
  pub keys : IsKeyTable s.keys.now
  pub others : IsKeyTable s.others.now

abbrev pub lacking_kind : LackingKey → Kind
lacking_kind Missing = MissingKey
lacking_kind Surplus = SurplusKey

-- the places of the compared keys that aren't among the others, unless that is ignored
abbrev pub lacking_places : Sides → List KeyPlace
lacking_places s =
    reported s.heading.ignored (λ p. lacking_kind s.lacking) (lacking s.are_well_formed (place_keys (table_places s.others.now)) (table_places s.keys.now))

-- the line and the object of a key, under the names of the source and of the base
abbrev pub lacking_line : LackingKey → List ℕ → List ℕ → KeyPlace → List ℕ
lacking_line Missing = missing_line
lacking_line Surplus = surplus_line

abbrev pub lacking_value : LackingKey → List ℕ → List ℕ → KeyPlace → Json
lacking_value Missing = missing_value
lacking_value Surplus = surplus_value

-- The report of these keys was added.
abbrev pub AddsLacking : LackingKey → Sides → List KeyPlace → String Global → String Global → Type 0
AddsLacking lacks s places old new =
    AddsReport s.heading.report (lacking_line lacks s.heading.name.now s.base_name.now) (lacking_value lacks s.heading.name.now s.base_name.now) places old new

abbrev pub key_place : List ℕ → ℕ → KeyPlace
key_place key line = record { key = key; number = line }
