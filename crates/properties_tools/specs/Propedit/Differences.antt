-- What differs in meaning between the pairs of two sources, an old one and a new one: the keys that don't have the same
-- value in both. Comments, layout, spelling, order and pairs that a later one overrules don't count.
use Rattle.std.specs.Prelude.{◌≡◌, ◌≢◌, ◌⊎◌, ◌↔◌, ◌&&◌, ◌||◌, not, ℕ, Bool, true, List, [], ◌∷◌, ◌++◌, Option, codes, map, All, AllPairs, Contains}
use Rattle.std.specs.Char.{is_ascii, is_control}
use Rattle.std.specs.Fmt.{decimal}
use Rattle.std.specs.List.{list_any}
use Rattle.properties_format.specs.Edits.{ArePairs}
use Rattle.properties_format.specs.Encoding.{Encoding, utf_8}
use Rattle.properties_format.specs.Items.{pair, Entry}
use Rattle.properties_format.specs.Maps.{HasNoPair, IsLastValue, IsValue, PairComesBefore}
use Rattle.properties_format.specs.Printing.{printed}
use Rattle.properties_format.specs.Settings.{default_settings}
use Rattle.properties_tables.specs.Messages.{escaped}
use Rattle.properties_tables.specs.Table.{Row, IsRow}

-- a key that went, one that came, and one that has another value
pub data Difference : Type 0 where
  gone : Row → Difference
  came : Row → Difference
  changed : Row → Row → Difference

abbrev pub key_of : Difference → List ℕ
key_of (gone r) = r.key
key_of (came r) = r.key
key_of (changed r s) = r.key

module _ (old new : List Entry) where
  -- The rows are those of the key in the two sources.
  abbrev pub IsDifference : Difference → Type 0
  IsDifference (gone r) = IsRow old r × HasNoPair r.key new
  IsDifference (came r) = HasNoPair r.key old × IsRow new r
  IsDifference (changed r s) = IsRow old r × IsRow new s × (r.key ≡ s.key) × (r.value ≢ s.value)

  -- The key doesn't have the same value in both.
  abbrev pub Differs : List ℕ → Type 0
  Differs key = (v : Option (List ℕ)) × (w : Option (List ℕ)) × IsValue old key v × IsValue new key w × (v ≢ w)

  -- The order: the keys of the old source as they come there, and then those that only the new one has, as they do.
  abbrev pub ComesBefore : List ℕ → List ℕ → Type 0
  ComesBefore key other =
      PairComesBefore old key other
      ⊎ (((value : List ℕ) × IsLastValue old key value × HasNoPair other old)
      ⊎ (HasNoPair key old × HasNoPair other old × PairComesBefore new key other))

  -- These are the differences, each key once.
  pub record AreDifferences (ds : List Difference) : Type 0 where
    pub are : All IsDifference ds
    pub each : (key : List ℕ) → Contains (map key_of ds) key ↔ Differs key
    pub in_order : AllPairs ComesBefore (map key_of ds)

-- These are the differences of two sources. Comments are passed over.
pub record AreDifferencesOf (e : Encoding) (old new : List ℕ) (ds : List Difference) : Type 0 where
  pub old_pairs : List Entry
  pub new_pairs : List Entry
  pub are_old : ArePairs e old old_pairs
  pub are_new : ArePairs e new new_pairs
  pub are : AreDifferences old_pairs new_pairs ds

-- ---- how they are printed

-- a control character past U+007F, which a terminal may obey: those below U+0020 are printed as escapes anyway
abbrev pub is_late_control : ℕ → Bool
is_late_control c = is_control c && not (is_ascii c)

abbrev pub has_late_control : List ℕ → Bool
has_late_control text = list_any is_late_control text

-- a pair as the first line of a properties file in UTF-8, with a readable value, or in ASCII if it has such a character
abbrev pub pair_line : List ℕ → List ℕ → List ℕ
pair_line key value =
    let late = has_late_control key || has_late_control value in
    printed utf_8 (record default_settings { readable = true; ascii_only = late }) true (pair key value)

-- `NAME:LINE: SIGN`
abbrev pub line_front : List ℕ → ℕ → List ℕ → List ℕ
line_front name number sign = escaped name ++ (codes ":" ++ (decimal number ++ (codes ": " ++ sign)))

-- the last pair of a row after its name, its line and a sign
abbrev pub row_line : List ℕ → List ℕ → Row → List ℕ
row_line name sign r = line_front name r.last sign ++ pair_line r.key r.value

-- what went is printed under the name of the old source, and what came under that of the new one
abbrev pub difference_lines : List ℕ → List ℕ → Difference → List ℕ
difference_lines old new (gone r) = row_line old (codes "-") r
difference_lines old new (came r) = row_line new (codes "+") r
difference_lines old new (changed r s) = row_line old (codes "-") r ++ row_line new (codes "+") s

-- the status: 1 if anything differs
abbrev pub difference_status : List Difference → ℕ
difference_status [] = 0
difference_status (d ∷ ds) = 1
