-- What `check` says of the keys of a source, compared with those of another one, its base: which keys only one of the two has a
-- pair of. Comments, layout, spelling, order, values, also malformed ones, and pairs that repeat a key don't count.
use Rattle.std.specs.Prelude.{◌≡◌, ◌↔◌, ℕ, ◌==◌, ◌&&◌, ◌||◌, not, length, Bool, true, false, List, [], ◌∷◌, ◌++◌, codes, map, All, AllPairs, Contains}
use Rattle.std.specs.Fmt.{decimal}
use Rattle.json.specs.Json.{member, no_members, number, object, string, Json}
use Rattle.properties_format.specs.Encoding.{Encoding}
use Rattle.properties_format.specs.Items.{Entry}
use Rattle.properties_format.specs.Text.{line_feed}
use Rattle.properties_format.specs.Maps.{AreKeys, HasNoPair, IsLastValue, PairComesBefore}
use Rattle.java_properties.specs.Findings.{KeyPlace}
use Rattle.properties_tables.specs.Messages.{all_shown, escaped}
use Rattle.properties_checking.specs.Check.{has_replacement, IsReport}
use Rattle.properties_checking.specs.JsonLines.{text_value, IsReportText}
use Rattle.properties_checking.specs.Kinds.{kind_name, reported}
use Rattle.properties_tables.specs.Lines.{starts_with_utf_32_mark, AreFlawedLines}
use Rattle.properties_tables.specs.SoundKeys.{AreKeyedPairs}
use Rattle.properties_tables.specs.Table.{IsFirstLine}
use Rattle.properties_tables.specs.declared.ill_formed.Flaw.TheVariants.{IllFormed}
use Rattle.properties_checking.specs.declared.kinds.Kind.TheVariants.{MissingKey, SurplusKey}
use Rattle.properties_checking.specs.declared.request.Check.{Check}

-- ---- keys that the other source doesn't have

abbrev pub keys_at : List KeyPlace → List (List ℕ)
keys_at places = map (λ p. p.key) places

-- These are the keys of pairs, each once, with the lines of their first pairs.
pub record AreKeyPlaces (pairs : List Entry) (places : List KeyPlace) : Type 0 where
  pub keys : AreKeys pairs (keys_at places)
  pub lines : All (λ p. IsFirstLine pairs p.key p.number) places

-- A key is compared. Where a line is ill-formed, one with U+FFFD isn't: that character may stand for any bytes.
abbrev pub is_compared : Bool → List ℕ → Bool
is_compared are_well_formed key = are_well_formed || not (has_replacement key)

-- Each of these keys is that of some pair, and of none of the other pairs. Each stands once, with the line of its first
-- pair, and in the order of these.
pub record AreLacking (are_well_formed : Bool) (pairs other : List Entry) (lacking : List KeyPlace) : Type 0 where
  pub each : (key : List ℕ) → Contains (keys_at lacking) key
      ↔ ((value : List ℕ) × IsLastValue pairs key value × HasNoPair key other × (is_compared are_well_formed key ≡ true))
  pub in_order : AllPairs (PairComesBefore pairs) (keys_at lacking)
  pub lines : All (λ p. IsFirstLine pairs p.key p.number) lacking

-- ---- a base

-- what is kept of a base: its name, its keys, each once, with the lines of their first pairs, whether it is well-formed, and
-- whether it begins with the byte order mark of UTF-32
pub record KnownBase : Type 0 where
  pub name : List ℕ
  pub keys : List KeyPlace
  pub is_well_formed : Bool
  pub is_utf_32 : Bool

-- No line of the source is ill-formed, or some line is.
pub record TellsWellFormed (e : Encoding) (source : List ℕ) (is_well_formed : Bool) : Type 0 where
  pub numbers : List ℕ
  pub are : AreFlawedLines IllFormed e source numbers
  pub is : is_well_formed ≡ (length numbers == 0)

-- This is kept of a source of this name.
pub record IsBaseOf (name : List ℕ) (e : Encoding) (source : List ℕ) (base : KnownBase) : Type 0 where
  pub named : base.name ≡ name
  pub pairs : List Entry
  pub are : AreKeyedPairs e source pairs
  pub keys : AreKeyPlaces pairs base.keys
  pub well_formed : TellsWellFormed e source base.is_well_formed
  pub utf_32 : base.is_utf_32 ≡ starts_with_utf_32_mark source

-- ---- how they are printed

-- of a key that is missing, and of one that is surplus, under the name of the base
abbrev pub missing_words : List ℕ → KeyPlace → List ℕ
missing_words base p = codes "key '" ++ (all_shown p.key ++ (codes "' is missing (" ++ (escaped base ++ (codes ":" ++ (decimal p.number ++ codes ")")))))

abbrev pub surplus_words : List ℕ → List ℕ → List ℕ
surplus_words base key = codes "key '" ++ (all_shown key ++ (codes "' is not in " ++ escaped base))

-- `NAME: TEXT`
abbrev pub missing_line : List ℕ → List ℕ → KeyPlace → List ℕ
missing_line name base p = escaped name ++ (codes ": " ++ (missing_words base p ++ line_feed ∷ []))

-- `NAME:LINE: TEXT`
abbrev pub surplus_line : List ℕ → List ℕ → KeyPlace → List ℕ
surplus_line name base p = escaped name ++ (codes ":" ++ (decimal p.number ++ (codes ": " ++ (surplus_words base p.key ++ line_feed ∷ []))))

-- as objects: what is missing is in a line of the base
abbrev pub missing_value : List ℕ → List ℕ → KeyPlace → Json
missing_value name base p = object (
    member (codes "file") (string name) (
    member (codes "kind") (string (kind_name MissingKey)) (
    member (codes "key") (text_value p.key) (
    member (codes "base") (string base) (
    member (codes "base_line") (number (decimal p.number)) (
    member (codes "message") (string (missing_words base p)) no_members))))))

abbrev pub surplus_value : List ℕ → List ℕ → KeyPlace → Json
surplus_value name base p = object (
    member (codes "file") (string name) (
    member (codes "line") (number (decimal p.number)) (
    member (codes "kind") (string (kind_name SurplusKey)) (
    member (codes "key") (text_value p.key) (
    member (codes "base") (string base) (
    member (codes "message") (string (surplus_words base p.key)) no_members))))))

-- ---- a report

-- The text has a line or an object for each key of the base that a source doesn't have, in the order of the base, and then one
-- for each key of the source that the base doesn't have, in the order of the source, unless these kinds are ignored.
pub record ComparesKeys (base : KnownBase) (name : List ℕ) (e : Encoding) (check : Check) (source text : List ℕ) : Type 0 where
  pub pairs : List Entry
  pub are : AreKeyedPairs e source pairs
  pub is_well_formed : Bool
  pub well_formed : TellsWellFormed e source is_well_formed
  pub missing : List KeyPlace
  pub are_missing : (base_pairs : List Entry) → AreKeyPlaces base_pairs base.keys
      → AreLacking (base.is_well_formed && is_well_formed) base_pairs pairs missing
  pub surplus : List KeyPlace
  pub are_surplus : (base_pairs : List Entry) → AreKeyPlaces base_pairs base.keys
      → AreLacking (base.is_well_formed && is_well_formed) pairs base_pairs surplus
  pub missing_text : List ℕ
  pub tells_missing : IsReportText check.report (missing_line name base.name) (missing_value name base.name)
      (reported check.ignored (λ p. MissingKey) missing) missing_text
  pub surplus_text : List ℕ
  pub tells_surplus : IsReportText check.report (surplus_line name base.name) (surplus_value name base.name)
      (reported check.ignored (λ p. SurplusKey) surplus) surplus_text
  pub is : text ≡ missing_text ++ surplus_text

-- The text is what a check reports of a source, and then what is said of its keys. If the source or its base begins with the
-- byte order mark of UTF-32, nothing is.
pub record IsReportAgainst (base : KnownBase) (name : List ℕ) (e : Encoding) (check : Check) (source text : List ℕ) : Type 0 where
  pub report : List ℕ
  pub is_report : IsReport name e check source report
  pub compared : List ℕ
  pub if_read : (base.is_utf_32 || starts_with_utf_32_mark source) ≡ false → ComparesKeys base name e check source compared
  pub if_not : (base.is_utf_32 || starts_with_utf_32_mark source) ≡ true → compared ≡ []
  pub is : text ≡ report ++ compared
