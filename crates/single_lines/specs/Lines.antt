-- What contracts see of lines: cut into natural lines, decoded, and parsed.
use Rattle.std.specs.Prelude.{◌≡◌, ℕ, true, false, List, [], ◌∷◌, Option, Some, None, Result, Ok, Err, string_bytes}
use Rattle.std.specs.Str.{chars}
use Rattle.counted_io.specs.Streams.{Reader, HasRead, IsSameReader, has_ended}
use Rattle.properties_format.specs.Lines as format
use Rattle.properties_format.specs.ItemsToCome.{ReaderState}
use Rattle.properties_lines.specs.LineReader.{Passes, IsLazy, FindsError}
use Rattle.properties_lines.specs.declared.error.LineError.{LineError}
use Rattle.single_lines.specs.declared.natural.NaturalLine.{NaturalLine}
use Rattle.std.specs.declared.borrow.CowStr.{CowStr}
use Rattle.std.specs.declared.borrow.CowStr.TheVariants.{Borrowed, Owned}
use Rattle.properties_format.specs.Split.{Logical, blank, comment, pair}
use Rattle.single_lines.specs.declared.parse.ParsedLine.{ParsedLine}
use Rattle.single_lines.specs.declared.parse.ParsedLine.TheVariants as line

-- the reader, and where the lines stand
pub record NaturalReading (R : Type 0) : Type 0 where
  pub reader : R
  pub state : ReaderState

abbrev pub line_in : NaturalLine → format.Line
line_in line = record { number = line.0; text = chars (string_bytes line.1) }

-- A line came.
pub record GivesLine {R : Type 0} (reader : Reader R) (old : ReaderState) (from : R) (line : format.Line) (new : ReaderState) (to : R) : Type 0 where
  pub bytes : List ℕ
  pub read : HasRead reader from bytes to
  pub live : old.is_done ≡ false
  pub passes : Passes old bytes (line ∷ []) new
  pub ended : new.is_done ≡ true → has_ended reader to ≡ true
  pub lazy : IsLazy old from bytes to

abbrev pub GivesNatural : {R : Type 0} → Reader R → ReaderState → R → Option (Result NaturalLine LineError) → ReaderState → R → Type 0
GivesNatural reader old from None new to = (old.is_done ≡ true) × (new ≡ old) × (to ≡ from)
GivesNatural reader old from (Some (Ok line)) new to = GivesLine reader old from (line_in line) new to
GivesNatural reader old from (Some (Err e)) new to =
    (old.is_done ≡ false) × (new.is_done ≡ true) × FindsError reader old from e new to

abbrev pub NextLineGives : {R : Type 0} → Reader R → NaturalReading R → Option (Result NaturalLine LineError) → NaturalReading R → Type 0
NextLineGives reader old answer new =
    GivesNatural reader old.state old.reader answer new.state new.reader × IsSameReader reader old.reader new.reader

-- the text is borrowed
abbrev pub IsBorrowed : {Z : Type 0} → CowStr Z → Type 0
IsBorrowed (Borrowed text) = Unit {0}
IsBorrowed (Owned text) = ⊥

-- what a line is, in bytes
abbrev pub parsed : Option ParsedLine → Logical
parsed None = blank
parsed (Some (line.Comment text)) = comment text.now
parsed (Some (line.KVPair key value)) = pair key.now value.now
