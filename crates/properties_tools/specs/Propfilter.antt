-- What `propfilter` does, over any streams.
use Rattle.std.specs.Prelude.{◌≡◌, ◌⊎◌, ℕ, Bool, true, false, List, [], ◌∷◌, Option, Some, None, Result, Ok, Err, codes}
use Rattle.counted_io.specs.Streams.{Reader, Sink}
use Rattle.properties_format.specs.Encoding.{Encoding, windows_1252}
use Rattle.properties_format.specs.Names.{name_of}
use Rattle.properties_items.specs.declared.error.PropertiesError.{PropertiesError}
use Rattle.properties_text.specs.Encoding.{encoding_of}
use Rattle.properties_tools.specs.Filter.{Filters, Form, form}
use Rattle.properties_tables.specs.Messages.{printed_line, HasPrintedLine, PrintsErrorOf}
use Rattle.properties_tools.specs.declared.propfilter.Asked.{Asked}

-- what it prints where its arguments are none of its own
abbrev pub usage : List ℕ
usage = codes "usage: propfilter [windows-1252|utf-8|utf-16le|utf-16be [ascii]]"

-- what it prints where an argument isn't UTF-8
abbrev pub not_utf_8 : List ℕ
not_utf_8 = codes "propfilter: an argument is not UTF-8"

-- ---- arguments

-- the argument that asks for ASCII-only output
abbrev pub ascii_word : List ℕ
ascii_word = codes "ascii"

-- the arguments ask for this encoding, and for ASCII-only output or not: none for windows-1252, and one by its name,
-- which the argument for ASCII only may follow
abbrev pub Asks : List (List ℕ) → Form → Type 0
Asks [] r = (r.encoding ≡ windows_1252) × (r.ascii_only ≡ false)
Asks (name ∷ []) r = (name ≡ name_of r.encoding) × (r.ascii_only ≡ false)
Asks (name ∷ (word ∷ [])) r = (name ≡ name_of r.encoding) × (word ≡ ascii_word) × (r.ascii_only ≡ true)
Asks (name ∷ (word ∷ (other ∷ others))) r = ⊥

-- an encoding, and whether ASCII-only output is asked for
abbrev pub asked_of : Asked → Form
asked_of asked = form (encoding_of asked.encoding) asked.ascii_only

-- what they ask for, where they ask for something
abbrev pub IsAsked : List (List ℕ) → Option Form → Type 0
IsAsked arguments None = (r : Form) → Asks arguments r → ⊥
IsAsked arguments (Some r) = Asks arguments r

-- the encoding of this name, where it is one, with ASCII-only output beside it, or not
abbrev pub IsNamedWith : List ℕ → Bool → Option Form → Type 0
IsNamedWith name only None = (e : Encoding) → name ≡ name_of e → ⊥
IsNamedWith name only (Some r) = (name ≡ name_of r.encoding) × (r.ascii_only ≡ only)

-- ---- the program

-- the status of what filtering returned
abbrev pub status_of : Result Unit PropertiesError → ℕ
status_of (Ok done) = 0
status_of (Err error) = 1

-- The input was filtered to the output in the encoding that was asked for, to ASCII only where that was asked for, and
-- an error was printed on `errors`.
pub record HasRunFilter {R W E : Type 0} (reader : Reader R) (sink : Sink W) (error_sink : Sink E) (arguments : List (List ℕ)) (input : R) (output : W) (errors : E)
    (status : ℕ) (input' : R) (output' : W) (errors' : E) : Type 0 where
  pub allowed : Form
  pub asked : Asks arguments allowed
  pub result : Result Unit PropertiesError
  pub filters : Filters reader sink allowed input output result input' output'
  pub answer : status ≡ status_of result
  pub prints : PrintsErrorOf error_sink errors result errors'

-- The arguments ask for nothing that there is: nothing was read or written, and the usage was printed on `errors`.
pub record RefusesArguments {R W E : Type 0} (error_sink : Sink E) (arguments : List (List ℕ)) (input : R) (output : W) (errors : E)
    (status : ℕ) (input' : R) (output' : W) (errors' : E) : Type 0 where
  pub unasked : (r : Form) → Asks arguments r → ⊥
  pub answer : status ≡ 2
  pub unread : input' ≡ input
  pub unwritten : output' ≡ output
  pub prints : HasPrintedLine error_sink errors (printed_line usage) errors'

-- What the program does with these arguments.
abbrev pub RunsFilter : {R W E : Type 0} → Reader R → Sink W → Sink E → List (List ℕ) → R → W → E → ℕ → R → W → E → Type 0
RunsFilter reader sink error_sink arguments input output errors status input' output' errors' =
    HasRunFilter reader sink error_sink arguments input output errors status input' output' errors'
    ⊎ RefusesArguments error_sink arguments input output errors status input' output' errors'
