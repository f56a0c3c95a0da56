-- Hints on arguments that may mean something else.
use Rattle.std.specs.Prelude.{◌≡◌, ◌==◌, ◌⊎◌, ℕ, Bool, true, false, not, List, [], ◌∷◌, ◌++◌, length, Option, Some, None, Result, Ok, Err, codes, map, string_bytes}
use Rattle.std.specs.Fmt.{decimal}
use Rattle.std.specs.Global.{Global}
use Rattle.std.specs.Option.{option_map}
use Rattle.std.specs.Str.{chars}
use Rattle.std.specs.declared.string.String.{String}
use Rattle.counted_io.specs.Streams.{Sink}
use Rattle.properties_format.specs.Encoding.{Encoding, windows_1252}
use Rattle.properties_text.specs.Encoding.{encoding_of}
use Rattle.properties_tables.specs.Messages.{escaped, printed_line, HasPrintedLine}
use Rattle.java_properties.specs.Maps.{characters}
use Rattle.properties_changing.specs.Keys.{HoldsKey, HoldsKeys, HoldsNoKey, IsFirstAbsent}
use Rattle.properties_tables.specs.{Failures.IsMemoryFailure, Lines.IsFirstFlawed, Sources.IsUnsound, Values.SaysMalformed}
use Rattle.properties_tables.specs.declared.error.Failure.{Failure}
use Rattle.properties_tables.specs.declared.ill_formed.Flaw.TheVariants.{Misread}
use Rattle.properties_tools.specs.Propedit.Listing.{listed_keys, AreKeysOf}
use Rattle.properties_tools.specs.declared.propedit.request.Command.{Command}
use Rattle.properties_tools.specs.declared.propedit.request.Command.TheVariants.{Comment, Get, ListJson, ListValues}
use Rattle.properties_tools.specs.declared.propedit.request.Command.TheVariants as command
use Rattle.properties_tools.specs.declared.propedit.request.Doubt.{Doubt}
use Rattle.properties_tools.specs.declared.propedit.request.Doubt.TheVariants.{Key, Prefix, Value}
use Rattle.properties_tools.specs.declared.propedit.request.Job.{Job}
use Rattle.properties_tools.specs.declared.propedit.request.Note.{Note}
use Rattle.properties_tools.specs.declared.propedit.request.Source.{Source}
use Rattle.properties_tools.specs.declared.propedit.request.Source.TheVariants.{Dash, File, StandardInput}

-- ---- before standard input is read

-- the line that is printed in a terminal
abbrev pub reading_line : List ℕ
reading_line = printed_line (codes "propedit: reading standard input; '-f FILE' reads a file")

-- the line on the first line of a source with a byte that Java reads otherwise, if it reads ISO 8859-1
abbrev pub misread_line : List ℕ → ℕ → List ℕ
misread_line name number = codes "propedit: " ++ (escaped name ++ (codes ":" ++ (decimal number ++ (codes ": " ++ printed_line
    (codes "has a byte that Java reads as a control character; 'propedit check -e iso-8859-1 FILE' lists all")))))

abbrev pub PrintsMisreadIn : {W : Type 0} → Sink W → List ℕ → Option ℕ → W → W → Type 0
PrintsMisreadIn sink name None old new = new ≡ old
PrintsMisreadIn sink name (Some number) old new = HasPrintedLine sink old (misread_line name number) new ⊎ (new ≡ old)

-- It is printed if there is such a line, and memory for it.
abbrev pub PrintsMisread : {W : Type 0} → Sink W → List ℕ → List ℕ → W → W → Type 0
PrintsMisread sink name source old new = (first : Option ℕ) × IsFirstFlawed Misread windows_1252 source first × PrintsMisreadIn sink name first old new

-- The line is told where Java reads the source so.
abbrev pub NotesMisread : {W : Type 0} → Sink W → Bool → List ℕ → List ℕ → W → W → Type 0
NotesMisread sink true name source old new = PrintsMisread sink name source old new
NotesMisread sink false name source old new = new ≡ old

abbrev pub without_first : {X : Type 0} → List X → List X
without_first [] = []
without_first (key ∷ keys) = keys

-- the PREFIX of a command that lists keys
abbrev pub prefix_of : Command → List (String Global)
prefix_of (command.List prefix end) = prefix ∷ []
prefix_of (ListValues prefix end) = prefix ∷ []
prefix_of (ListJson prefix) = prefix ∷ []
prefix_of other = []

-- The arguments that may be files by mistake, unless standard input is named: the KEYs of `get`, the KEY of `comment`, and a
-- PREFIX, if a file is named.
abbrev pub possible_files : Source → Command → List (String Global)
possible_files Dash command = []
possible_files source (Get keys default end) = keys.items
possible_files source (Comment key) = key ∷ []
possible_files (File path) command = prefix_of command
possible_files source command = []

-- the arguments that are refused if they are files: of `get` with a default, if no file is named, each KEY after the first
abbrev pub refused_files : Source → Command → List (String Global)
refused_files StandardInput (Get keys (Some default) end) = without_first keys.items
refused_files source command = []

-- ---- of an answer that finds nothing

abbrev pub is_a_file : List ℕ
is_a_file = codes "a file is named by -f"

-- the line of a KEY that no pair has
abbrev pub key_line : List ℕ → List ℕ
key_line key = codes "propedit: no pair has the key '" ++ (escaped key ++ (codes "'; " ++ printed_line is_a_file))

-- the line of a PREFIX that no key begins with
abbrev pub prefix_line : List ℕ → List ℕ
prefix_line prefix = codes "propedit: no key begins with '" ++ (escaped prefix ++ (codes "'; " ++ printed_line is_a_file))

-- the hint on a PREFIX, if no file is named, or if it is one of these files
abbrev pub prefix_hint : Source → List (List ℕ) → List ℕ → Option (List ℕ)
prefix_hint StandardInput files (byte ∷ bytes) = Some (prefix_line (byte ∷ bytes))
prefix_hint source (file ∷ files) prefix = Some (prefix_line prefix)
prefix_hint source files prefix = None

-- The line is that of the first of these files that no pair of the source has as its key.
pub record NamesFile (e : Encoding) (source : List ℕ) (files : List (List ℕ)) (line : List ℕ) : Type 0 where
  pub key : List ℕ
  pub first : IsFirstAbsent e source files (chars key)
  pub is : line ≡ key_line key

-- There is a line if there is such a file.
abbrev pub IsFileHint : Encoding → List ℕ → List (List ℕ) → Option (List ℕ) → Type 0
IsFileHint e source files None = HoldsKeys e source files
IsFileHint e source files (Some line) = NamesFile e source files line

-- the hint on a list that found something, or nothing
abbrev pub list_hint : Bool → Source → List (List ℕ) → List (String Global) → Option (List ℕ)
list_hint false source files (prefix ∷ []) = prefix_hint source files (string_bytes prefix)
list_hint found source files prefixes = None

-- The hint on a command whose answer has this status. These files are there.
abbrev pub IsHintOf : Source → Encoding → Command → List (List ℕ) → List ℕ → ℕ → Option (List ℕ) → Type 0
IsHintOf from e (Get keys default end) files source status hint = IsFileHint e source files hint
IsHintOf from e (Comment key) files source status hint = IsFileHint e source files hint
IsHintOf from e other files source status hint = hint ≡ list_hint (status == 0) from files (prefix_of other)

abbrev pub hint_bytes : Option (String Global) → Option (List ℕ)
hint_bytes hint = option_map string_bytes hint

-- It is printed as a line.
abbrev pub PrintsHint : {W : Type 0} → Sink W → W → Option (List ℕ) → W → Type 0
PrintsHint sink old None new = new ≡ old
PrintsHint sink old (Some line) new = HasPrintedLine sink old line new

-- ---- an argument that may mean something else

-- Whether some of the keys of the source begin with a prefix.
abbrev pub HasPrefix : Encoding → List ℕ → List ℕ → Bool → Type 0
HasPrefix e source prefix found = (keys : List (List ℕ)) × AreKeysOf e source keys × (found ≡ not (length (listed_keys prefix keys) == 0))

-- Whether the source bears it out: no pair has the KEY, and pairs have all that may be meant; or no key begins with the
-- PREFIX, and one does with what it may mean.
abbrev pub Tells : Encoding → List ℕ → Doubt → Bool → Type 0
Tells e source (Key key meant) true = HoldsNoKey e source (characters key) × HoldsKeys e source (map characters meant.items)
Tells e source (Key key meant) false = HoldsKey e source (characters key) ⊎ ((other : List ℕ) × IsFirstAbsent e source (map characters meant.items) other)
Tells e source (Prefix prefix front) true = HasPrefix e source (characters prefix) false × HasPrefix e source (characters front) true
Tells e source (Prefix prefix front) false = HasPrefix e source (characters prefix) true ⊎ HasPrefix e source (characters front) false
Tells e source (Value file) told = told ≡ true

-- Why it isn't known: an escape in a pair is malformed, or the source is refused, or memory ran out.
abbrev pub FailsToTell : Encoding → List ℕ → Failure → Type 0
FailsToTell e source failure = (SaysMalformed e source failure ⊎ IsMemoryFailure failure) ⊎ IsUnsound e source failure

-- What telling a note returns: its line if the source bears it out, and no line if it doesn't, or if there is no note.
abbrev pub TellsNote : Encoding → List ℕ → Option Note → Result (Option (String Global)) Failure → Type 0
TellsNote e source None result = result ≡ Ok None
TellsNote e source (Some note) (Ok (Some line)) = Tells e source note.doubt true × (string_bytes line ≡ string_bytes note.line)
TellsNote e source (Some note) (Ok None) = Tells e source note.doubt false
TellsNote e source (Some note) (Err failure) = FailsToTell e source failure

-- The line is that of this note, which the source bears out.
abbrev pub IsNoteOf : Encoding → List ℕ → Option Note → List ℕ → Type 0
IsNoteOf e source None line = ⊥
IsNoteOf e source (Some note) line = Tells e source note.doubt true × (line ≡ string_bytes note.line)

-- There is no note, or the source doesn't bear it out, or is refused.
abbrev pub IsUntold : Encoding → List ℕ → Option Note → Type 0
IsUntold e source None = Unit {0}
IsUntold e source (Some note) = Tells e source note.doubt false ⊎ ((failure : Failure) × FailsToTell e source failure × (¬ IsMemoryFailure failure))

-- What is printed with an answer of this status: the job's note, if the source bears it out, or else a hint.
abbrev pub IsHint : Job → List (List ℕ) → List ℕ → ℕ → Option (List ℕ) → Type 0
IsHint job files source status hint =
    ((line : List ℕ) × IsNoteOf (encoding_of job.encoding) source job.note line × (hint ≡ Some line))
    ⊎ (IsUntold (encoding_of job.encoding) source job.note × IsHintOf job.source (encoding_of job.encoding) job.command files source status hint)
