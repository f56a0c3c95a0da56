-- What is known of a stream, as one value, and what calls did to it.
use Rattle.std.specs.Prelude.{◌≡◌, ◌≢◌, ℕ, Bool, true, false, ◌&&◌, List, ◌++◌, [], ◌∷◌, Option, None, Some, Result, Ok, Err}
use Rattle.std.specs.Io.KnownBytes.{Consumes, Appends, Keeps}
use Rattle.std.specs.declared.io.Error.{Error}
use Rattle.std.specs.declared.io.traits.Read as read
use Rattle.std.specs.declared.io.traits.Write as write
use Rattle.counted_io.specs.declared.read.CountedRead as counted_read
use Rattle.counted_io.specs.declared.write.CountedWrite as counted_write
use Rattle.counted_io.specs.Faults.{HasRisen}

-- what is known of a reader: in a clause, `R.CountedRead`
abbrev pub Reader : Type 0 → Type 1
Reader R = record {
  remaining : R → Option (List ℕ);
  faults : R → ℕ;
  at_end : R → Bool;
  identity : R → List ℕ;
  read_gives : R → Result ℕ Error → R → Type 0;
}

-- what is known of a sink: in a clause, `W.CountedWrite`
abbrev pub Sink : Type 0 → Type 1
Sink W = record {
  contents : W → Option (List ℕ);
  faults : W → ℕ;
  is_flushed : W → Bool;
  identity : W → List ℕ;
  write_gives : W → List ℕ → Result ℕ Error → W → Type 0;
  flush_gives : W → Result Unit Error → W → Type 0;
}

-- what is known of a reader or a sink, made of the ghost functions of the two traits that it implements
abbrev pub reader : {R : Type 0} → read.Ghosts R → counted_read.Ghosts R → Reader R
reader r c = record { remaining = r.remaining; faults = c.faults; at_end = c.at_end; identity = c.identity; read_gives = c.read_gives }

abbrev pub sink : {W : Type 0} → write.Ghosts W → counted_write.Ghosts W → Sink W
sink w c = record {
  contents = w.contents;
  faults = c.faults;
  is_flushed = c.is_flushed;
  identity = c.identity;
  write_gives = c.write_gives;
  flush_gives = c.flush_gives;
}

-- ---- readers

-- whether no known byte is left
abbrev pub is_spent : Option (List ℕ) → Bool
is_spent None = true
is_spent (Some []) = true
is_spent (Some (b ∷ bs)) = false

-- whether the reader is at its end by its own word, and no known byte is left
abbrev pub has_ended : {R : Type 0} → Reader R → R → Bool
has_ended reader r = reader.at_end r && is_spent (reader.remaining r)

-- These bytes were read, and no read failed.
pub record HasRead {R : Type 0} (reader : Reader R) (old : R) (bytes : List ℕ) (new : R) : Type 0 where
  pub moved : Consumes (reader.remaining old) (reader.remaining new) bytes
  pub faultless : reader.faults new ≡ reader.faults old

-- These bytes were read, and then a read failed, by this error of the reader's own.
pub record HasFailed {R : Type 0} (reader : Reader R) (old : R) (bytes : List ℕ) (error : Error) (new : R) : Type 0 where
  pub moved : Consumes (reader.remaining old) (reader.remaining new) bytes
  pub risen : HasRisen (reader.faults old) (reader.faults new)
  pub given : (before : R) × reader.read_gives before (Err error) new

-- If it is a reference, it is still the same one, and so is each reference behind it.
abbrev pub IsSameReader : {R : Type 0} → Reader R → R → R → Type 0
IsSameReader reader old new = reader.identity new ≡ reader.identity old

-- ---- sinks

-- These bytes were taken, and no write failed.
pub record HasWritten {W : Type 0} (sink : Sink W) (old : W) (bytes : List ℕ) (new : W) : Type 0 where
  pub moved : Appends (sink.contents old) (sink.contents new) bytes
  pub faultless : sink.faults new ≡ sink.faults old

-- These bytes were taken, and then a write failed.
pub record HasFaulted {W : Type 0} (sink : Sink W) (old : W) (bytes : List ℕ) (new : W) : Type 0 where
  pub moved : Appends (sink.contents old) (sink.contents new) bytes
  pub risen : HasRisen (sink.faults old) (sink.faults new)

-- The sink is flushed, and took no byte.
pub record HasFlushed {W : Type 0} (sink : Sink W) (old new : W) : Type 0 where
  pub kept : Keeps (sink.contents old) (sink.contents new)
  pub faultless : sink.faults new ≡ sink.faults old
  pub flushed : sink.is_flushed new ≡ true

-- A flush failed, by this error of the sink's own, and no byte was taken.
pub record HasFailedFlush {W : Type 0} (sink : Sink W) (old : W) (error : Error) (new : W) : Type 0 where
  pub kept : Keeps (sink.contents old) (sink.contents new)
  pub risen : HasRisen (sink.faults old) (sink.faults new)
  pub same : sink.is_flushed new ≡ sink.is_flushed old
  pub given : (before : W) × sink.flush_gives before (Err error) new

-- If it is a reference, it is still the same one, and so is each reference behind it.
abbrev pub IsSameSink : {W : Type 0} → Sink W → W → W → Type 0
IsSameSink sink old new = sink.identity new ≡ sink.identity old

-- ---- bytes that are sent

-- part is a prefix of the bytes, and not all of them
pub record IsProperPrefix (part bytes : List ℕ) : Type 0 where
  pub others : List ℕ
  pub whole : bytes ≡ part ++ others
  pub some : others ≢ []

-- Why bytes were not sent: a write took no byte of some, or failed by this error. Each was the sink's own.
abbrev pub CameFromWrite : {W : Type 0} → Sink W → Option Error → W → Type 0
CameFromWrite {W} sink Option.None new = (before : W) × (bytes : List ℕ) × (bytes ≢ []) × sink.write_gives before bytes (Ok 0) new
CameFromWrite {W} sink (Option.Some error) new = (before : W) × (bytes : List ℕ) × sink.write_gives before bytes (Err error) new

-- Bytes were sent in part, and then a write failed.
pub record HasSentPart {W : Type 0} (sink : Sink W) (old : W) (bytes : List ℕ) (cause : Option Error) (new : W) : Type 0 where
  pub part : List ℕ
  pub begins : IsProperPrefix part bytes
  pub faulted : HasFaulted sink old part new
  pub given : CameFromWrite sink cause new

-- The bytes were sent: all of them, or at a fault a proper prefix.
abbrev pub Sends : {W : Type 0} → Sink W → W → List ℕ → Result Unit (Option Error) → W → Type 0
Sends sink old bytes (Ok done) new = HasWritten sink old bytes new
Sends sink old bytes (Err cause) new = HasSentPart sink old bytes cause new
