-- Laws of whole runs: what a writer's calls wrote reads back, and is ASCII while ASCII-only output is on.
use Rattle.std.specs.Prelude.{◌≡◌, ◌⊎◌, ℕ, Bool, List, ◌∷◌, ◌++◌, Result, Ok, Err}
use Rattle.std.specs.Global.{Vec}
use Rattle.counted_io.specs.Streams.{Sink, HasWritten, HasFaulted}
use Rattle.properties_format.specs.Encoding.{output_encoding}
use Rattle.properties_format.specs.Items.{Entry, IsItems}
use Rattle.properties_format.specs.Lines.{end}
use Rattle.properties_format.specs.AsciiOnly.{AreAsciiOnly, AreAsciiBytes, AreItemsInBoth}
use Rattle.properties_format.specs.Writing as format
use Rattle.properties_format.specs.Writing.{Pair, pairs_in, calls_of, AreAccepted, ArePairsOfScalars}
use Rattle.properties_format.specs.Laws.{wrote_pairs}
use Rattle.java_properties.specs.Calls.{FailsInCall}
use Rattle.properties_items.specs.Errors.{Refuses}
use Rattle.java_properties.specs.PropertiesWriter.{Writing}
use Rattle.properties_items.specs.declared.error.ErrorKind.TheVariants as kind
use Rattle.properties_items.specs.declared.error.PropertiesError.{PropertiesError}

-- This is true of every writer: its encoding can be written, and its settings are good.
pub record IsGoodWriter {W : Type 0} (w : Writing W) : Type 0 where
  pub encoding : output_encoding w.encoding ≡ w.encoding
  pub settings : format.AreGoodSettings w.settings

-- The calls write cleanly: no line was written before, and no prefix under which a comment is written contains a
-- backslash.
pub record IsCleanWriting {W : Type 0} (old : Writing W) (calls : List format.Call) : Type 0 where
  pub first : old.lines ≡ 0
  pub prefixes : format.ArePrefixesClean old.settings calls

-- The bytes that the sink took read back, on their own and in the writer's encoding, as one item for each line, with
-- the line's number: each pair unchanged, and each comment as the part of its prefix after the comment sign followed by
-- its text, without the blanks at the ends. They have no other items.
pub record IsReadBack {W : Type 0} (sink : Sink W) (old : Writing W) (calls : List format.Call) (new : Writing W) : Type 0 where
  pub bytes : List ℕ
  pub written : HasWritten sink old.sink bytes new.sink
  pub items : IsItems old.encoding bytes end (format.items_read_back old.settings 0 calls)
  pub only : (others : List Entry) → IsItems old.encoding bytes end others → others ≡ format.items_read_back old.settings 0 calls

-- A call failed, and what the calls before it wrote reads back. What the sink took after that is determined by the call
-- that failed.
pub record IsReadBackBefore {W : Type 0} (sink : Sink W) (old : Writing W) (calls : List format.Call) (error : PropertiesError) (new : Writing W) : Type 0 where
  pub before : List format.Call
  pub call : format.Call
  pub others : List format.Call
  pub division : calls ≡ before ++ (call ∷ others)
  pub middle : Writing W
  pub read_back : IsReadBack sink old before middle
  pub fails : FailsInCall sink middle call error new

-- Reading inverts writing: if the calls write cleanly, what the calls that were made wrote reads back. If memory for
-- the answers runs out, none is made.
abbrev pub ReadsBack : {W : Type 0} → Sink W → Writing W → List format.Call → Result (Vec Bool) PropertiesError → Writing W → Type 0
ReadsBack sink old calls (Ok answers) new = IsCleanWriting old calls → IsReadBack sink old calls new
ReadsBack sink old calls (Err error) new = IsCleanWriting old calls → Refuses kind.Memory old error new ⊎ IsReadBackBefore sink old calls error new

-- The calls write these pairs and nothing else: no line was written before, and all pairs are accepted.
pub record ArePairsWritten {W : Type 0} (old : Writing W) (calls : List format.Call) (pairs : List Pair) : Type 0 where
  pub first : old.lines ≡ 0
  pub alone : calls ≡ calls_of pairs
  pub accepted : AreAccepted old.settings pairs

-- The sink took bytes that only these pairs write: any other list of accepted pairs that writes them with the same
-- settings is this list. Writing again what reads back from them changes no byte.
pub record IsWritingOf {W : Type 0} (sink : Sink W) (old : Writing W) (pairs : List Pair) (new : Writing W) : Type 0 where
  pub bytes : List ℕ
  pub written : HasWritten sink old.sink bytes new.sink
  pub only : (others : List Pair) → AreAccepted old.settings others → ArePairsOfScalars others
      → wrote_pairs old.encoding old.settings others ≡ bytes → others ≡ pairs
  pub anew : (entries : List Entry) → IsItems old.encoding bytes end entries → wrote_pairs old.encoding old.settings (pairs_in entries) ≡ bytes

-- What calls that write only pairs mean for these pairs, if all were made.
abbrev pub WritesOnlyThese : {W : Type 0} → Sink W → Writing W → List format.Call → Result (Vec Bool) PropertiesError → Writing W → Type 0
WritesOnlyThese sink old calls (Ok answers) new = (pairs : List Pair) → ArePairsWritten old calls pairs → IsWritingOf sink old pairs new
WritesOnlyThese sink old calls (Err error) new = Unit {0}

-- ---- What calls write while ASCII-only output is on.

-- The sink took ASCII bytes only. If the writing was clean, they have the same items in windows-1252 and in UTF-8:
-- those that the calls wrote.
pub record HasWrittenAscii {W : Type 0} (sink : Sink W) (old : Writing W) (calls : List format.Call) (new : Writing W) : Type 0 where
  pub bytes : List ℕ
  pub written : HasWritten sink old.sink bytes new.sink
  pub ascii : AreAsciiBytes bytes
  pub in_both : IsCleanWriting old calls → AreItemsInBoth bytes (format.items_read_back old.settings 0 calls)

-- The sink took ASCII bytes only, and then possibly a write or a flush failed.
pub record TakesAscii {W : Type 0} (sink : Sink W) (old new : W) : Type 0 where
  pub bytes : List ℕ
  pub taken : HasWritten sink old bytes new ⊎ HasFaulted sink old bytes new
  pub ascii : AreAsciiBytes bytes

-- If the first call turns ASCII-only output on and none turns it off, only ASCII is written, even if an error ends the
-- calls.
abbrev pub WritesAscii : {W : Type 0} → Sink W → Writing W → List format.Call → Result (Vec Bool) PropertiesError → Writing W → Type 0
WritesAscii sink old calls (Ok answers) new = AreAsciiOnly calls → HasWrittenAscii sink old calls new
WritesAscii sink old calls (Err error) new = AreAsciiOnly calls → TakesAscii sink old.sink new.sink
