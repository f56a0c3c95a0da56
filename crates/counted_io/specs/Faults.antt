-- How a count of faults moves, and what calls show of a reader's end and of a sink's flushing.
use Rattle.std.specs.Prelude.{◌≡◌, ℕ, ◌+◌, ◌-◌, ◌^◌, ◌<◌, ◌==◌, Bool, true, false, if◌then◌else◌, List, length, Result, Ok, Err, MatchResult, IfOk, IsErrAnd}
use Rattle.std.specs.IoError.{error_kind}
use Rattle.std.specs.declared.io.Error.{Error}
use Rattle.std.specs.declared.io.ErrorKind.{ErrorKind}

-- the greatest count, at which it stays: `usize::MAX`
abbrev pub most_faults : ℕ
most_faults = 2 ^ 64 - 1

-- the count after one more fault
abbrev pub one_more : ℕ → ℕ
one_more count = if count == most_faults then count else count + 1

-- The count rose by one. At its greatest value, where a rise can't be seen, it stays.
abbrev pub HasRisen : ℕ → ℕ → Type 0
HasRisen old new = new ≡ one_more old

-- a call that failed is one fault more, and no other call is
abbrev pub CountsFault : {T E : Type 0} → ℕ → ℕ → Result T E → Type 0
CountsFault old new r = MatchResult r (λ _. new ≡ old) (λ _. HasRisen old new)

-- a write that took no byte of some is one fault more, too
abbrev pub count_of_taken : ℕ → ℕ → List ℕ → ℕ
count_of_taken old n bytes = if n == 0 then (if length bytes == 0 then old else one_more old) else old

abbrev pub CountsWrite : {E : Type 0} → ℕ → ℕ → Result ℕ E → List ℕ → Type 0
CountsWrite old new r bytes = MatchResult r (λ n. new ≡ count_of_taken old n bytes) (λ _. HasRisen old new)

-- a read of no byte into a buffer that has room shows the end
abbrev pub ShowsEnd : {E : Type 0} → Bool → Result ℕ E → List ℕ → Type 0
ShowsEnd at_end r buffer = IfOk r (λ n. n ≡ 0 → 0 < length buffer → at_end ≡ true)

-- a write that takes a byte ends that the sink is flushed, and no other write changes it
abbrev pub flushed_after_write : {E : Type 0} → Bool → Result ℕ E → Bool
flushed_after_write flushed (Ok n) = if n == 0 then flushed else false
flushed_after_write flushed (Err e) = flushed

-- a flush that succeeds makes the sink flushed, and one that fails leaves it as it was
abbrev pub flushed_after_flush : {T E : Type 0} → Bool → Result T E → Bool
flushed_after_flush flushed (Ok x) = true
flushed_after_flush flushed (Err e) = flushed

-- a call that failed by an error of this kind
abbrev pub FailsWith : {T : Type 0} → ErrorKind → Result T Error → Type 0
FailsWith kind r = IsErrAnd r (λ e. error_kind e ≡ kind)
