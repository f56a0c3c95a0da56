-- What a contract sees of a `ScriptedReader`.
use Rattle.std.specs.Prelude.{◌≡◌, ℕ, ◌==◌, nat_lt, Bool, true, false, if◌then◌else◌, List, [], ◌∷◌, ◌++◌, length, take, drop, map, filter, Option, None, Some, Result, Ok, MatchOption, IsOk, IfErr, vec_items}
use Rattle.std.specs.declared.io.Error.{Error}
use Rattle.std.specs.declared.io.ErrorKind.{ErrorKind}
use Rattle.std.specs.IoError.{error_kind}
use Rattle.counted_io.specs.Faults.{one_more, FailsWith}
use Rattle.counted_io.specs.declared.scripted_reader.Tail.{Tail}
use Rattle.counted_io.specs.declared.scripted_reader.Tail.TheVariants as tail
use Rattle.counted_io.specs.declared.scripted_reader.ScriptedReader.{ScriptedReader}

abbrev pub has_bytes : List ℕ → Bool
has_bytes piece = nat_lt 0 (length piece)

-- the pieces, the first of them without its first n bytes
abbrev pub drop_from_first : ℕ → List (List ℕ) → List (List ℕ)
drop_from_first n [] = []
drop_from_first n (p ∷ ps) = drop n p ∷ ps

-- the pieces that are left, but for empty ones: the first is without the bytes that were read of it
abbrev pub pieces_left : ScriptedReader → List (List ℕ)
pieces_left r = filter has_bytes (drop_from_first r.place (map vec_items (drop r.index r.pieces.items)))

-- what it answers after the last piece
abbrev pub reader_tail : ScriptedReader → Tail
reader_tail r = r.tail

-- its reads so far, up to `usize::MAX`
abbrev pub reader_reads : ScriptedReader → ℕ
reader_reads r = r.reads

-- its faults so far
abbrev pub reader_faults : ScriptedReader → ℕ
reader_faults r = r.faults

-- whether the end is all that is left
abbrev pub is_at_end : List (List ℕ) → Tail → Bool
is_at_end [] tail.End = true
is_at_end [] (tail.Fault kind) = false
is_at_end (p ∷ ps) t = false

-- the bytes that a read into so much room gives: as many of the first piece as fit
abbrev pub next_bytes : List (List ℕ) → ℕ → List ℕ
next_bytes [] room = []
next_bytes (p ∷ ps) room = take room p

-- the pieces that such a read leaves
abbrev pub pieces_after : List (List ℕ) → ℕ → List (List ℕ)
pieces_after [] room = []
pieces_after (p ∷ ps) room = if nat_lt room (length p) then drop room p ∷ ps else ps

-- the kind of the fault that such a read meets: that of the tail, where there is room and no piece
abbrev pub next_fault : List (List ℕ) → Tail → ℕ → Option ErrorKind
next_fault [] tail.End room = None
next_fault [] (tail.Fault kind) room = if room == 0 then None else Some kind
next_fault (p ∷ ps) t room = None

-- how such a read answers
abbrev pub ReadAnswers : List (List ℕ) → Tail → ℕ → Result ℕ Error → Type 0
ReadAnswers pieces t room r =
    MatchOption (next_fault pieces t room) (r ≡ Ok (length (next_bytes pieces room))) (λ kind. FailsWith kind r)

-- a read fails by the fault of the tail alone
abbrev pub FailsByTail : Tail → Result ℕ Error → Type 0
FailsByTail tail.End r = IsOk r
FailsByTail (tail.Fault kind) r = IfErr r (λ e. error_kind e ≡ kind)

-- what a read of one reader gives, and the reader after it
abbrev pub ScriptGives : ScriptedReader → Result ℕ Error → ScriptedReader → Type 0
ScriptGives before r after =
    FailsByTail (reader_tail before) r × (reader_tail after ≡ reader_tail before) × (reader_reads after ≡ one_more (reader_reads before))

-- the buffer with the bytes at its front
abbrev pub overwritten : List ℕ → List ℕ → List ℕ
overwritten bytes buffer = bytes ++ drop (length bytes) buffer
