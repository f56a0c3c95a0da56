-- The pieces of a script that a read leaves.
use Rattle.std.proofs.Common.{◌≡◌, ℕ, List, [], ◌∷◌, ◌++◌, length, take, drop, refl, sym, ap, arith, true}
use Rattle.std.specs.Prelude.{◌==◌, nat_lt, Bool, false, map, filter, vec_items, if◌then◌else◌, None, Some, Result, Ok, Err, MatchOption}
use Rattle.std.specs.declared.io.Error.{Error}
use Rattle.std.specs.declared.io.ErrorKind.{ErrorKind}
use Rattle.std.specs.List.{concat}
use Rattle.std.proofs.lemmas.Bool.{lt-ltb}
use Rattle.std.proofs.lemmas.Bool.Decides.{nat_tests}
use Rattle.std.proofs.lemmas.List.{take-append-drop}
use Rattle.std.proofs.Math.Seq.{take-append_seam}
use Rattle.std.proofs.lemmas.Grind.{common_steps}
use Rattle.counted_io.specs.ReaderScript.{has_bytes, drop_from_first, pieces_left, next_bytes, overwritten, pieces_after, ReadAnswers, FailsByTail}
use Rattle.counted_io.specs.Faults.{FailsWith}
use Rattle.counted_io.specs.declared.scripted_reader.Tail.{Tail}
use Rattle.counted_io.specs.declared.scripted_reader.Tail.TheVariants as tail
use Rattle.counted_io.specs.declared.scripted_reader.ScriptedReader.{ScriptedReader}

-- no room takes nothing from pieces that have bytes
pieces_after-zero : (ps : List (List ℕ)) → pieces_after (filter has_bytes ps) 0 ≡ filter has_bytes ps
pieces_after-zero [] = refl
pieces_after-zero ([] ∷ ps) = pieces_after-zero ps
pieces_after-zero ((x ∷ p) ∷ ps) =
    let some : nat_lt 0 (length (x ∷ p)) ≡ true = lt-ltb 0 (length (x ∷ p)) (omega arith) in rw (some, some)

pub pieces_left-zero : (r : ScriptedReader) → pieces_left r ≡ pieces_after (pieces_left r) 0
pieces_left-zero r = sym (pieces_after-zero (drop_from_first r.place (map vec_items (drop r.index r.pieces.items))))

-- empty pieces add nothing
concat-has_bytes : (ps : List (List ℕ)) → concat (filter has_bytes ps) ≡ concat ps
concat-has_bytes [] = refl
concat-has_bytes ([] ∷ ps) = concat-has_bytes ps
concat-has_bytes ((x ∷ p) ∷ ps) =
    let some : nat_lt 0 (length (x ∷ p)) ≡ true = lt-ltb 0 (length (x ∷ p)) (omega arith) in
    rw some (ap (λ bytes. (x ∷ p) ++ bytes) (concat-has_bytes ps))

pub concat-drop_zero : (ps : List (List ℕ)) → concat (filter has_bytes (drop_from_first 0 ps)) ≡ concat ps
concat-drop_zero [] = refl
concat-drop_zero (p ∷ ps) = concat-has_bytes (p ∷ ps)

concat-read_first : (p : List ℕ) (ps : List (List ℕ)) (room : ℕ) → p ++ concat ps ≡ take room p ++ concat (if nat_lt room (length p) then drop room p ∷ ps else ps)
concat-read_first p ps room = grind (arith, nat_tests, common_steps, take-append-drop room p)

-- a read takes its bytes from the front, and leaves the others
pub concat-read : (ps : List (List ℕ)) (room : ℕ) → concat ps ≡ next_bytes ps room ++ concat (pieces_after ps room)
concat-read [] room = refl
concat-read (p ∷ ps) room = concat-read_first p ps room

-- a buffer holds the bytes that a read took
pub consumed : (left after : List (List ℕ)) (room n : ℕ) (old new : List ℕ) → n ≡ length (next_bytes left room) → new
    ≡ overwritten (next_bytes left room) old → after ≡ pieces_after left room → concat left ≡ take n new ++ concat after
consumed left after room n old new count buffer pieces =
    rw (count, buffer, pieces, take-append_seam (next_bytes left room) (drop (length (next_bytes left room)) old)) (concat-read left room)

-- ---- how a read fails

ok-fails_by_tail : (t : Tail) (r : Result ℕ Error) (n : ℕ) → r ≡ Ok n → FailsByTail t r
ok-fails_by_tail tail.End r n e = rw e
ok-fails_by_tail (tail.Fault kind) r n e = rw e tt

err-fails_by_tail : (kind : ErrorKind) (r : Result ℕ Error) → FailsWith kind r → FailsByTail (tail.Fault kind) r
err-fails_by_tail kind (Ok n) h = tt
err-fails_by_tail kind (Err e) h = h

-- after the last piece, with room or none
tail-answer : (kind : ErrorKind) (none : Bool) (n : ℕ) (r : Result ℕ Error)
    → MatchOption (if none then None else Some kind) (r ≡ Ok n) (λ k. FailsWith k r) → FailsByTail (tail.Fault kind) r
tail-answer kind true n r h = ok-fails_by_tail (tail.Fault kind) r n h
tail-answer kind false n r h = err-fails_by_tail kind r h

-- a read fails by the fault of the tail alone
pub fails-by-tail : (ps : List (List ℕ)) (t : Tail) (room : ℕ) (r : Result ℕ Error) → ReadAnswers ps t room r → FailsByTail t r
fails-by-tail [] tail.End room r h = ok-fails_by_tail tail.End r 0 h
fails-by-tail [] (tail.Fault kind) room r h = tail-answer kind (room == 0) 0 r h
fails-by-tail (p ∷ ps) t room r h = ok-fails_by_tail t r (length (take room p)) h
