-- The findings of a check, as the code holds them.
use Rattle.std.specs.Prelude.{◌≡◌, ◌⊎◌, None, ℕ, ◌==◌, ◌&&◌, not, Bool, if◌then◌else◌, get_or, length, List, [], ◌∷◌, Result, Ok, Err, string_bytes}
use Rattle.std.specs.{Global.Vec, List.Sorted.IsNonDecreasingBy, List.Sorted.IsStableByKey, Ordering.nat_cmp}
use Rattle.properties_format.specs.{Encoding.Encoding, Found.AreMalformedEscapes}
use Rattle.properties_format.specs.Found as format
use Rattle.java_properties.specs.{Findings.escape_records, Findings.KeyPlace, Errors.IsBareError}
use Rattle.properties_items.specs.{Errors.IsBareError, declared.error.PropertiesError.PropertiesError, declared.findings.MalformedEscape.MalformedEscape}
use Rattle.properties_items.specs.declared.error.ErrorKind.TheVariants as kind
use Rattle.properties_tables.specs.{Private.Table.table_places, Private.Table.HasPlaces, Private.Table.IsKeyTable, Lines.AreFlawedLines}
use Rattle.properties_tables.specs.{SoundKeys.AreKeyedPairs, Sources.first_in_pair, declared.key_table.KeyTable.KeyTable}
use Rattle.properties_checking.specs.Check.{has_replacement, holds_zero, is_ill_formed, is_malformed, is_misread, is_non_ascii, is_read_otherwise, looks_like_utf_8, repeats_key, IsReport, SaidFinding, What, AreOtherBytes, AreOtherwise, AreRefused, AreWithBytes}
use Rattle.properties_checking.specs.{Misread.AreMisread, declared.check.Reported.Reported, declared.check.FindingKind.FindingKind}
use Rattle.properties_checking.specs.{declared.check.Finding.Finding, declared.check.Words.Words, declared.misread.Misread.Misread as MisreadKind}
use Rattle.properties_checking.specs.{declared.request.Check.Check, declared.request.Allowed.Allowed}
use Rattle.properties_checking.specs.declared.check.FindingKind.TheVariants.{HoldsZero, IllFormedLine, LooksUtf8, NonAscii, ReadOtherwise, Misread, Escape, Repeats}
use Rattle.properties_tables.specs.declared.ill_formed.Flaw.TheVariants as flaw

-- ---- findings

abbrev pub finding_of : FindingKind → ℕ → Finding
finding_of kind number = record { line_number = number; kind = kind }

abbrev pub ill_formed_finding : Words → ℕ → Finding
ill_formed_finding words number = record { line_number = number; kind = IllFormedLine words }

abbrev pub escape_finding : MalformedEscape → Finding
escape_finding escape = record { line_number = escape.line_number; kind = Escape escape }

abbrev pub otherwise_finding : ℕ → ℕ → Finding
otherwise_finding byte number = record { line_number = number; kind = ReadOtherwise byte }

abbrev pub misread_finding : MisreadKind → ℕ → Finding
misread_finding misread number = record { line_number = number; kind = Misread misread }

-- of a pair in this line whose key has this row, and its first pair in this line
abbrev pub row_findings : Bool → ℕ → List ℕ → ℕ → ℕ → List Finding
row_findings is_well_formed number key row first =
    if first == number then [] else
    if not is_well_formed && has_replacement key then [] else
    record { line_number = number; kind = Repeats row } ∷ []

-- ---- what they say

-- the place of a row that isn't there
abbrev pub no_place : KeyPlace
no_place = record { number = 0; key = [] }

abbrev pub place_at : List KeyPlace → ℕ → KeyPlace
place_at places row = get_or places row no_place

-- where these are the keys
abbrev pub what_of : List KeyPlace → FindingKind → What
what_of places HoldsZero = holds_zero
what_of places (IllFormedLine words) = is_ill_formed words
what_of places LooksUtf8 = looks_like_utf_8
what_of places NonAscii = is_non_ascii
what_of places (ReadOtherwise byte) = is_read_otherwise byte
what_of places (Misread m) = is_misread m
what_of places (Escape escape) = is_malformed escape.kind escape.in_comment
what_of places (Repeats row) = repeats_key (place_at places row).key (place_at places row).number

abbrev pub said_of : List KeyPlace → Finding → SaidFinding
said_of places f = record { line = f.line_number; what = what_of places f.kind }

-- Findings are arranged as what they say is to be.
pub record ArrangesFindings (findings arranged : List Finding) : Type 0 where
  pub in_order : IsNonDecreasingBy (λ f. f.line_number) arranged
  pub stable : IsStableByKey (λ f. f.line_number) nat_cmp findings arranged

-- What finding what Java reads differently than people think returns. It fails only if memory runs out.
abbrev pub FindsMisread : Encoding → List ℕ → Result (Vec Finding) PropertiesError → Type 0
FindsMisread e source (Ok findings) = AreMisread misread_finding e source findings.items
FindsMisread e source (Err error) = IsBareError kind.Memory error

-- ---- a report, with the keys of the source and its malformed escapes

pub record IsChecked (name : List ℕ) (e : Encoding) (check : Check) (source : List ℕ) (c : Reported) : Type 0 where
  pub report : IsReport name e check source (string_bytes c.text)
  pub table : IsKeyTable c.keys
  pub places : first_in_pair c.escapes.items ≡ None → HasPlaces (AreKeyedPairs e source) (table_places c.keys)
  pub malformed : List format.MalformedEscape
  pub are_malformed : AreMalformedEscapes e source malformed
  pub escapes : c.escapes.items ≡ escape_records malformed
  pub ill_formed : List ℕ
  pub are_ill_formed : AreFlawedLines flaw.IllFormed e source ill_formed
  pub well_formed : c.is_well_formed ≡ (length ill_formed == 0)

-- What finding the valid keys of a source returns, given those of its pairs and its malformed escapes. It fails only if
-- memory runs out.
abbrev pub FindsSoundKeys : Encoding → List ℕ → KeyTable → List MalformedEscape → Result KeyTable PropertiesError → Type 0
FindsSoundKeys e source keys escapes (Ok t) =
    ((first_in_pair escapes ≡ None) × (t ≡ keys)) ⊎ (IsKeyTable t × HasPlaces (AreKeyedPairs e source) (table_places t))
FindsSoundKeys e source keys escapes (Err error) = IsBareError kind.Memory error

-- What checking returns. It fails only if memory runs out.
abbrev pub ChecksKeys : Encoding → Check → List ℕ → List ℕ → Result Reported PropertiesError → Type 0
ChecksKeys e check name source (Ok c) = IsChecked name e check source c
ChecksKeys e check name source (Err error) = IsBareError kind.Memory error

-- What finding the lines with a character that isn't allowed returns. It fails only if memory runs out.
abbrev pub FindsRefused : Allowed → Encoding → List ℕ → Result (Vec ℕ) PropertiesError → Type 0
FindsRefused allowed e source (Ok numbers) = AreRefused allowed e source numbers.items
FindsRefused allowed e source (Err error) = IsBareError kind.Memory error

-- What finding the lines with these bytes returns, and with those that aren't allowed, likewise.
abbrev pub FindsBytes : List ℕ → Encoding → List ℕ → Result (Vec Finding) PropertiesError → Type 0
FindsBytes bytes e source (Ok findings) = AreWithBytes otherwise_finding e source bytes findings.items
FindsBytes bytes e source (Err error) = IsBareError kind.Memory error

abbrev pub FindsOtherBytes : Allowed → Encoding → List ℕ → Result (Vec Finding) PropertiesError → Type 0
FindsOtherBytes allowed e source (Ok findings) = AreOtherBytes otherwise_finding allowed e source findings.items
FindsOtherBytes allowed e source (Err error) = IsBareError kind.Memory error

-- What finding all that Java reads differently returns, likewise.
abbrev pub FindsOtherwise : Allowed → Encoding → List ℕ → Result (Vec Finding) PropertiesError → Type 0
FindsOtherwise allowed e source (Ok findings) = AreOtherwise misread_finding otherwise_finding allowed e source findings.items
FindsOtherwise allowed e source (Err error) = IsBareError kind.Memory error
