-- What is found wrong in a source, line by line.
use Rattle.std.specs.Prelude.{◌≡◌, ℕ, None, List, Result, Ok, Err, ◌+◌, map, ◌++◌, Bool}
use Rattle.properties_format.specs.{Encoding.Encoding, Found.AreMalformedEscapes}
use Rattle.properties_items.specs.{Errors.IsBareError, declared.findings.MalformedEscape.MalformedEscape, declared.error.PropertiesError.PropertiesError}
use Rattle.std.specs.List.{flat_map}
use Rattle.java_properties.specs.Findings.{AreKeyLines, KeyEntry, KeyPlace, escape_records}
use Rattle.properties_checking.specs.{Check.repeats_of, Private.Checking.place_at, Private.Checking.row_findings, Private.Checking.said_of}
use Rattle.properties_checking.specs.declared.line_findings.LineFindings.{LineFindings}
use Rattle.properties_tables.specs.{SoundKeys.AreKeyedPairs, Sources.first_in_pair, Private.Fold.escapes_among, Private.Fold.keys_among}
use Rattle.properties_tables.specs.Private.Fold.{found_pairs}
use Rattle.properties_tables.specs.Private.Table.{table_places, HasPlaces, HoldPlaces, IsKeyTable, PutsKey}
use Rattle.java_properties.proofs.KeyLines.{key_entries}
use Rattle.properties_items.specs.declared.error.ErrorKind.TheVariants as kind
use Rattle.properties_format.specs.Found as meant
use Rattle.properties_tables.specs.Private.Fold as fold

-- The key of a pair in this line has a row from now on. If an earlier line has it, that is a finding.
pub record NotesPair (w : Bool) (number : ℕ) (key : List ℕ) (old new : LineFindings) : Type 0 where
  pub row : ℕ
  pub puts : PutsKey number key (table_places old.keys) row (table_places new.keys)
  pub table : IsKeyTable new.keys
  pub repeats : new.repeats.items ≡ old.repeats.items ++ row_findings w number key row (place_at (table_places new.keys) row).number

-- The findings are those of what was taken, whose keys have rows. What they say stays as more keys come.
pub record TookFindings (first : LineFindings) (findings : List fold.Finding) (new : LineFindings) : Type 0 where
  pub setting : new.is_well_formed ≡ first.is_well_formed
  pub escapes : new.escapes.items ≡ escapes_among findings
  pub table : IsKeyTable new.keys
  pub hold : HoldPlaces (found_pairs findings) (table_places new.keys)
  pub repeats : (more : List KeyPlace)
      → map (said_of (table_places new.keys ++ more)) new.repeats.items ≡ flat_map (repeats_of first.is_well_formed) (key_entries (keys_among findings))

-- These are the malformed escapes of a source, and the findings of its keys, which have rows.
pub record HasLineFindings (e : Encoding) (w : Bool) (source : List ℕ) (found : LineFindings) : Type 0 where
  pub escapes : List meant.MalformedEscape
  pub malformed : AreMalformedEscapes e source escapes
  pub escape_records : found.escapes.items ≡ escape_records escapes
  pub keys : List KeyEntry
  pub are_keys : AreKeyLines e source keys
  pub repeats : map (said_of (table_places found.keys)) found.repeats.items ≡ flat_map (repeats_of w) keys
  pub table : IsKeyTable found.keys
  pub places : first_in_pair found.escapes.items ≡ None → HasPlaces (AreKeyedPairs e source) (table_places found.keys)

-- What finding them returns. It fails only if memory runs out.
abbrev pub FindsInLines : Encoding → Bool → List ℕ → Result LineFindings PropertiesError → Type 0
FindsInLines e w source (Ok found) = HasLineFindings e w source found
FindsInLines e w source (Err error) = IsBareError kind.Memory error
