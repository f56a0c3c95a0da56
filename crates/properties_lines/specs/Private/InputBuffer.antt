-- The effect of a read into the buffer of undecoded bytes.
use Rattle.std.specs.Prelude.{◌≡◌, ℕ, ◌+◌, ◌*◌, ◌<◌, ◌≤◌, true, List, [], ◌++◌, length, take, drop, Result, Ok, Err, ◌⊎◌, ◌-◌, false, get_or}
use Rattle.std.specs.declared.io.Error.{Error}
use Rattle.counted_io.specs.Streams.{Reader, HasRead, HasFailed, has_ended}
use Rattle.std.specs.Str.{IsUtf8}
use Rattle.properties_format.specs.Encoding.{utf_8}
use Rattle.properties_text.specs.Encoding.{encoding_of}
use Rattle.properties_lines.specs.Scanner.{is_decided, raw_line_bytes}
use Rattle.properties_lines.specs.declared.scanner.Scanner.{Scanner}

-- the bytes that are held, and the size of the free space after them
pub record Buffer : Type 0 where
  pub held : List ℕ
  pub room : ℕ

-- There is free space after the bytes that are held. Some bytes at the front were released, at most `count`. Where there
-- was space before, nothing changed. Otherwise `count` bytes were released if more than half of the bytes are among them,
-- and if not, none were and the buffer grew.
pub record HasRoom (count : ℕ) (old : Buffer) (gone : ℕ) (new : Buffer) : Type 0 where
  pub most : gone ≤ count
  pub held : new.held ≡ drop gone old.held
  pub room : 0 < new.room
  pub stays : 0 < old.room → (gone ≡ 0) × (new.room ≡ old.room)
  pub moves : old.room ≡ 0 → length old.held < 2 * count → (gone ≡ count) × (new.room ≡ count)
  pub grows : old.room ≡ 0 → 2 * count ≤ length old.held → (gone ≡ 0) × (new.room ≡ 0x10000)

-- Space was made, or memory ran out.
abbrev pub MakesRoom : {E : Type 0} → ℕ → Buffer → Result ℕ E → Buffer → Type 0
MakesRoom count old (Ok gone) new = HasRoom count old gone new
MakesRoom count old (Err e) new = new.held ≡ old.held

-- These bytes were read, and are held after the others. If there are none, the reader is at its end.
pub record HasFilled {R : Type 0} (reader : Reader R) (held : List ℕ) (old : R) (held' : List ℕ) (new : R) (count : ℕ) : Type 0 where
  pub bytes : List ℕ
  pub read : HasRead reader old bytes new
  pub added : held' ≡ held ++ bytes
  pub counted : count ≡ length bytes
  pub ended : bytes ≡ [] → has_ended reader new ≡ true

-- One read: its bytes are held after those already held, or it failed.
abbrev pub Fills : {R : Type 0} → Reader R → List ℕ → R → Result ℕ Error → List ℕ → R → Type 0
Fills reader held old (Ok count) held' new = HasFilled reader held old held' new count
Fills reader held old (Err e) held' new = (held' ≡ held) × HasFailed reader old [] e new

-- one read into the space from a place in a buffer on
abbrev pub ReadsAt : {R : Type 0} → Reader R → ℕ → List ℕ → R → Result ℕ Error → List ℕ → R → Type 0
ReadsAt reader place buffer old (Ok count) buffer' new =
    HasFilled reader (take place buffer) old (take (place + count) buffer') new count × (place + count ≤ length buffer)
ReadsAt reader place buffer old (Err e) buffer' new = (take place buffer' ≡ take place buffer) × HasFailed reader old [] e new

-- ---- What a reader knows of the bytes that it holds, if they are in UTF-8.

-- the bytes between two places
abbrev pub between : ℕ → ℕ → List ℕ → List ℕ
between start end bytes = take (end - start) (drop start bytes)

-- From the end of the line on, up to the scanner's place, there is only ASCII: a line ending. Or all bytes are passed.
pub record IsApart (s : Scanner) (held : List ℕ) : Type 0 where
  pub order : s.line.end ≤ s.at
  pub within : s.at ≤ length held
  pub ascii : (k : ℕ) → s.line.end ≤ k → k < s.at → get_or held k 0 < 128
  pub ends : (s.line.end < s.at) ⊎ (s.line.end ≡ length held) × (s.is_done ≡ true)

-- Up to this place, what is held is well-formed, from the line on or from the scanner's place on.
pub record KnowsText (s : Scanner) (held : List ℕ) (well_formed : ℕ) : Type 0 where
  pub ahead : IsUtf8 (between s.at well_formed held)
  pub line : s.line.end ≤ well_formed → IsUtf8 (raw_line_bytes held s.line)
  pub around : (s.line.start ≡ s.line.end) ⊎ IsApart s held

pub record IsTested (s : Scanner) (held : List ℕ) (well_formed : ℕ) : Type 0 where
  pub within : well_formed ≤ length held
  pub known : 0 < well_formed → (is_decided s.front ≡ true) × (encoding_of s.encoding ≡ utf_8)
  pub fresh : is_decided s.front ≡ false → s.line.start ≡ s.line.end
  pub text : is_decided s.front ≡ true → encoding_of s.encoding ≡ utf_8 → KnowsText s held well_formed
