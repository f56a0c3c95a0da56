-- How the differences of two tables are computed.
use Rattle.std.specs.Prelude.{◌≡◌, ◌≢◌, ◌<◌, ◌^◌, ◌++◌, All, get_or, length, ℕ, List, [], ◌∷◌, AllPairs, Option, Some, None, Result, bytes_eq, if◌then◌else◌}
use Rattle.std.specs.List.{flat_map}
use Rattle.properties_format.specs.Encoding.{Encoding}
use Rattle.properties_tools.specs.{Propedit.report_status, Propedit.Diff.DiffsTo, declared.propedit.answer.Answer.Answer}
use Rattle.properties_tools.specs.{declared.propedit.diff.DiffFailure.DiffFailure, declared.propedit.diff.Side.Side}
use Rattle.properties_tools.specs.Propedit.Differences.{changed, came, gone, AreDifferencesOf, Difference}
use Rattle.properties_tables.specs.{Sources.IsSound, Table.row_keys, Table.Row, Private.Table.rows_of, Private.Table.IsTable, declared.table.Table.Table}

-- The keys of the rows can be found, and no two rows have the same.
pub record CanBeCompared (t : Table) : Type 0 where
  pub table : IsTable t
  pub apart : AllPairs (λ k l. k ≢ l) (row_keys (rows_of t))

-- the first row with a key
abbrev pub row_with : List ℕ → List Row → Option Row
row_with key [] = None
row_with key (r ∷ rows) = if bytes_eq r.key key then Some r else row_with key rows

-- what became of a row of the old source, given the row with its key in the new one
abbrev pub became : Row → Option Row → List Difference
became r None = gone r ∷ []
became r (Some s) = if bytes_eq r.value s.value then [] else changed r s ∷ []

-- a row of the new source, if the old one has none with its key
abbrev pub came_if : Option Row → Row → List Difference
came_if None s = came s ∷ []
came_if (Some r) s = []

abbrev pub of_old : List Row → Row → List Difference
of_old news r = became r (row_with r.key news)

abbrev pub of_new : List Row → Row → List Difference
of_new olds s = came_if (row_with s.key olds) s

-- the differences between the rows of the old source and those of the new one
abbrev pub differences : List Row → List Row → List Difference
differences olds news = flat_map (of_old news) olds ++ flat_map (of_new olds) news

-- ---- a row of a table

-- what stands for a row where there is none
abbrev pub no_row : Row
no_row = record { key = []; first = 0; last = 0; value = [] }

abbrev pub row_at : Side → Row
row_at side = get_or (rows_of side.table.now) side.row no_row

pub record IsSide (side : Side) : Type 0 where
  pub can : CanBeCompared side.table.now
  pub within : side.row < length (rows_of side.table.now)

-- ---- what is printed

-- The lines of its rows fit a `usize`.
abbrev pub HasLines : Difference → Type 0
HasLines (gone r) = r.last < 2 ^ 64
HasLines (came r) = r.last < 2 ^ 64
HasLines (changed r s) = (r.last < 2 ^ 64) × (s.last < 2 ^ 64)

-- Both sources are sound, and this is printed of each of their differences. The status is that of the text.
pub record TellsEach (printed : Difference → List ℕ) (e : Encoding) (old new : List ℕ) (answer : Answer) : Type 0 where
  pub old_sound : IsSound e old
  pub new_sound : IsSound e new
  pub differences : List Difference
  pub are : AreDifferencesOf e old new differences
  pub lines : All HasLines differences
  pub text : answer.text.items ≡ flat_map printed differences
  pub status : answer.status ≡ report_status answer.text.items

-- What comparing returns so.
abbrev pub DiffsEach : (Difference → List ℕ) → Encoding → List ℕ → List ℕ → Result Answer DiffFailure → Type 0
DiffsEach printed e old new result = DiffsTo (TellsEach printed e old new) e old new result
