-- What is held of the bytes read ahead of a decoder, and what a read adds to them.
use Rattle.std.specs.Prelude.{◌≡◌, ℕ, List, [], ◌++◌, length, true, Result, Ok, Err}
use Rattle.std.specs.declared.io.Error.{Error}
use Rattle.counted_io.specs.Streams.{Reader, HasRead, HasFailed, has_ended}

-- how many bytes may be held
abbrev pub room : ℕ
room = 8192

-- how many bytes came
abbrev pub count_read : {E : Type 0} → Result ℕ E → ℕ
count_read (Ok n) = n
count_read (Err e) = 0

-- a read after the bytes held: those that came, or a fault
abbrev pub ReadsMore : {R : Type 0} → Reader R → R → List ℕ → Result ℕ Error → R → List ℕ → Type 0
ReadsMore reader old held (Ok n) new left =
    (r : List ℕ) × (left ≡ held ++ r) × (n ≡ length r) × HasRead reader old r new × (n ≡ 0 → has_ended reader new ≡ true)
ReadsMore reader old held (Err e) new left = (left ≡ held) × HasFailed reader old [] e new
