-- The result of reading an input to its end, and the reader afterwards.
use Rattle.std.specs.Prelude.{◌≡◌, ◌⊎◌, ℕ, Bool, true, List, [], ◌∷◌, ◌++◌, map, Some, Result, Ok, Err, Option, None}
use Rattle.std.specs.declared.io.Error.{Error}
use Rattle.std.specs.declared.vec.Vec.{Vec}
use Rattle.counted_io.specs.Streams.{Reader, HasRead, HasFailed, has_ended}
use Rattle.properties_format.specs.Encoding.{Encoding, IsDecoded}
use Rattle.properties_format.specs.Lines.{InputEnd, end, fault, Lines, IsLines}
use Rattle.properties_format.specs.Cut.{IsByline}
use Rattle.properties_format.specs.Escapes.{Malformed}
use Rattle.properties_format.specs.Items.{Entry, malformed, read_fault, NumbersAscend, IsItems}
use Rattle.properties_format.specs.Laws.{HasOneReading}
use Rattle.properties_items.specs.Errors.{IsBareError, IsMalformed, IsStreamError}
use Rattle.properties_format.specs.ItemsToCome.{start, PassesAll, IsItemsToCome}
use Rattle.java_properties.specs.PropertiesIter.{entry_of, Iteration, NextGives}
use Rattle.properties_items.specs.declared.error.ErrorKind.TheVariants as kind
use Rattle.properties_items.specs.declared.error.PropertiesError.{PropertiesError}
use Rattle.java_properties.specs.declared.iter.lines.Stopped.{Stopped}
use Rattle.properties_items.specs.declared.line.Line.{Line}
use Rattle.std.specs.Global.{Global}
use Rattle.std.specs.List.{FoldsTo, flat_map}
use Rattle.std.specs.declared.string.String.{String}
use Rattle.properties_items.specs.Line.{content_of}
use Rattle.properties_items.specs.declared.line.LineContent.{LineContent}
use Rattle.properties_items.specs.declared.line.LineContent.TheVariants.{Comment, KVPair}

abbrev pub entries_in : List Line → List Entry
entries_in lines = map entry_of lines

-- The bytes have these items and no others, with ascending numbers. Each step of their reading exists and is unique.
-- The lines of the bytes, each decoded separately, are those of the decoded text.
pub record IsReading (e : Encoding) (bytes : List ℕ) (ending : InputEnd) (entries : List Entry) : Type 0 where
  pub items : IsItems e bytes ending entries
  pub only : (others : List Entry) → IsItems e bytes ending others → others ≡ entries
  pub ascend : NumbersAscend 0 entries
  pub one : HasOneReading e bytes ending
  pub splitting : (text : List ℕ) (lines : Lines) → IsDecoded e bytes text → (IsByline e bytes lines → IsLines text lines)
      × (IsLines text lines → IsByline e bytes lines)

-- The items or the reading of the bytes begin with these items, whatever comes after the bytes; or the reader is at its
-- end, and those of the bytes as the whole input begin with these.
abbrev pub BeginsWith : (List ℕ → InputEnd → List Entry → Type 0) → List ℕ → List Entry → Bool → Type 0
BeginsWith Are bytes entries at_end =
    ((d : List ℕ) (ending : InputEnd) → (others : List Entry) × Are (bytes ++ d) ending (entries ++ others))
    ⊎ (at_end ≡ true) × ((others : List Entry) × Are bytes end (entries ++ others))

-- The reader was read to its end, and these are its items.
pub record ReadsWhole {R : Type 0} (reader : Reader R) (e : Encoding) (from : R) (entries : List Entry) (to : R) : Type 0 where
  pub bytes : List ℕ
  pub read : HasRead reader from bytes to
  pub ended : has_ended reader to ≡ true
  pub reading : IsReading e bytes end entries

-- After these items, an escape was malformed in the logical line that begins in the line with this number.
pub record StopsMalformed {R : Type 0} (reader : Reader R) (e : Encoding) (from : R) (entries : List Entry) (error : PropertiesError) (to : R) : Type 0 where
  pub bytes : List ℕ
  pub number : ℕ
  pub how : Malformed
  pub read : HasRead reader from bytes to
  pub is : IsMalformed how number error
  pub reading : ((d : List ℕ) (ending : InputEnd) → IsReading e (bytes ++ d) ending (entries ++ malformed how number ∷ []))
      ⊎ (has_ended reader to ≡ true) × IsReading e bytes end (entries ++ malformed how number ∷ [])

-- After these items, a read failed in the line with this number, with the reader's own error.
pub record StopsFailed {R : Type 0} (reader : Reader R) (e : Encoding) (from : R) (entries : List Entry) (error : PropertiesError) (to : R) : Type 0 where
  pub bytes : List ℕ
  pub cause : Error
  pub number : ℕ
  pub failed : HasFailed reader from bytes cause to
  pub is : IsStreamError (Some number) cause error
  pub reading : IsReading e bytes fault (entries ++ read_fault number ∷ [])

-- There was no number for another line after those that were read, or memory ran out. What was read begins with these
-- items.
pub record StopsEarly {R : Type 0} (reader : Reader R) (e : Encoding) (from : R) (entries : List Entry) (error : PropertiesError) (to : R) : Type 0 where
  pub bytes : List ℕ
  pub read : HasRead reader from bytes to
  pub is : IsBareError kind.TooManyLines error × PassesAll (start e) bytes ⊎ IsBareError kind.Memory error
  pub begins : BeginsWith (IsReading e) bytes entries (has_ended reader to)

-- Reading stopped after these items: at a malformed escape, at an I/O error, or because memory or line numbers ran out.
abbrev pub ReadsUpTo : {R : Type 0} → Reader R → Encoding → R → List Entry → PropertiesError → R → Type 0
ReadsUpTo reader e from entries error to =
    StopsMalformed reader e from entries error to ⊎ (StopsFailed reader e from entries error to ⊎ StopsEarly reader e from entries error to)

-- The result of reading a whole input. Ok is returned only at the reader's own end.
abbrev pub ReadsLines : {R Z : Type 0} → Reader R → Encoding → R → Result (Vec Line Z) Stopped → R → Type 0
ReadsLines reader e from (Ok lines) to = ReadsWhole reader e from (entries_in lines.items) to
ReadsLines reader e from (Err stopped) to = ReadsUpTo reader e from (entries_in stopped.lines.items) stopped.error to

-- Reading stopped after some items.
pub record StopsReading {R : Type 0} (reader : Reader R) (e : Encoding) (from : R) (error : PropertiesError) (to : R) : Type 0 where
  pub lines : List Line
  pub stops : ReadsUpTo reader e from (entries_in lines) error to

-- ---- Reading into a closure.

-- a key and its value
abbrev pub KeyAndValue : Type 0
KeyAndValue = String Global × String Global

-- the pair of a line, if it is one
abbrev pub pair_in : LineContent → List KeyAndValue
pair_in (Comment text) = []
pair_in (KVPair key value) = (key, value) ∷ []

-- the pairs among some lines
abbrev pub pairs_among : List Line → List KeyAndValue
pairs_among lines = flat_map (λ line. pair_in (content_of line)) lines

-- These lines were returned, each by one call of `next`.
abbrev pub GivesLines : {R : Type 0} → Reader R → Iteration R → List Line → Iteration R → Type 0
GivesLines reader = FoldsTo (λ before line after. NextGives reader before (Some (Ok line)) after)

-- The closure was called on these pairs, in order, and on nothing else.
abbrev pub IsCalledOn : {F : Type 0} → (F → String Global → String Global → Unit {0} → F → Type 0) → F → List KeyAndValue → F → Type 0
IsCalledOn step = FoldsTo (λ before entry after. step before entry.0 entry.1 tt after)

-- The closure may be called on the next pair, after it was called on the pairs before it and on nothing else.
abbrev pub CallableOnPairs : {R F : Type 0} → Reader R → (F → String Global → String Global → Unit {0} → F → Type 0)
    → (F → String Global → String Global → Type 0)
    → Iteration R → F → Type 0
CallableOnPairs {R} {F} reader step pre old f = (lines : List Line) (line : Line) (before after : Iteration R) (g : F) (key value : String Global)
    → GivesLines reader old lines before → IsCalledOn step f (pairs_among lines) g
    → NextGives reader before (Some (Ok line)) after → content_of line ≡ KVPair key value → pre g key value

-- what `next` returned when no more lines came
abbrev pub last_answer : Result Unit PropertiesError → Option (Result Line PropertiesError)
last_answer (Ok done) = None
last_answer (Err error) = Some (Err error)

-- The bytes were read, and with nothing after them, the items to come were these lines.
pub record HasReadAll {R : Type 0} (reader : Reader R) (old : Iteration R) (lines : List Line) (new : Iteration R) : Type 0 where
  pub bytes : List ℕ
  pub read : HasRead reader old.reader bytes new.reader
  pub items : IsItemsToCome old.state bytes end (entries_in lines)

-- The bytes were read, and these lines were the first of the items to come, whatever came after the bytes.
pub record HasReadFirst {R : Type 0} (reader : Reader R) (old : Iteration R) (lines : List Line) (new : Iteration R) : Type 0 where
  pub bytes : List ℕ
  pub read : HasRead reader old.reader bytes new.reader
  pub items : (d : List ℕ) (ending : InputEnd) (others : List Entry) → IsItemsToCome new.state d ending others
      → IsItemsToCome old.state (bytes ++ d) ending (entries_in lines ++ others)

-- which of the items to come the lines were: all of them, or those before the error, which comes after this state
abbrev pub WereToCome : {R : Type 0} → Reader R → Iteration R → List Line → Iteration R → Result Unit PropertiesError → Iteration R → Type 0
WereToCome reader old lines before_end (Ok done) new = HasReadAll reader old lines new
WereToCome reader old lines before_end (Err error) new = HasReadFirst reader old lines before_end

-- The lines that were returned are all that were to come before the end or an error, and the closure was called on the
-- pairs among them.
pub record ReadsInto {R F : Type 0} (reader : Reader R) (step : F → String Global → String Global → Unit {0} → F → Type 0)
    (old : Iteration R) (f : F) (result : Result Unit PropertiesError) (new : Iteration R) : Type 0 where
  pub lines : List Line
  pub last : F
  pub called : IsCalledOn step f (pairs_among lines) last
  pub before_end : Iteration R
  pub given : GivesLines reader old lines before_end
  pub ended : NextGives reader before_end (last_answer result) new
  pub items : WereToCome reader old lines before_end result new
