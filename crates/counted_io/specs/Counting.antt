-- What a contract sees of a `Counted`.
use Rattle.std.specs.Prelude.{ℕ, ◌==◌, Bool, false, if◌then◌else◌, List, length, Result, Ok, Err}
use Rattle.counted_io.specs.declared.counted.Counted.{Counted}

-- the stream inside
abbrev pub counted_inner : {T : Type 0} → Counted T → T
counted_inner c = c.inner

-- its faults so far
abbrev pub counted_faults : {T : Type 0} → Counted T → ℕ
counted_faults c = c.faults

-- whether its last read into a buffer with room gave no byte
abbrev pub counted_ended : {T : Type 0} → Counted T → Bool
counted_ended c = c.ended

-- whether it is flushed
abbrev pub counted_flushed : {T : Type 0} → Counted T → Bool
counted_flushed c = c.flushed

-- whether a read into a buffer shows the end, where `ended` said it before
abbrev pub ended_after_read : {E : Type 0} → Bool → Result ℕ E → List ℕ → Bool
ended_after_read ended (Ok n) buffer = if length buffer == 0 then ended else n == 0
ended_after_read ended (Err e) buffer = if length buffer == 0 then ended else false
