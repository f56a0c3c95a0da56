-- What a read does to the bytes held.
use Rattle.std.proofs.Common.{◌≡◌, ℕ, ◌+◌, ◌-◌, ◌<◌, ◌≤◌, List, ◌++◌, length, take, drop, ap, sym, ◌∙◌, arith, append-nil, zero-add, length-drop}
use Rattle.std.specs.List.{copy_within}
use Rattle.std.proofs.lemmas.List.Edits.{take-paste}
use Rattle.std.specs.Prelude.{Result, Ok, Err}
use Rattle.std.specs.Io.{ReadsAtMost}
use Rattle.std.specs.Io.KnownBytes.{ReadConsumes}
use Rattle.std.specs.declared.io.Error.{Error}
use Rattle.std.proofs.Math.Seq.{take-append-add}
use Rattle.std.proofs.lemmas.List.{take-append-le, length-take-le, drop-take}
use Rattle.counted_io.specs.Faults.{CountsFault, ShowsEnd}
use Rattle.counted_io.specs.Streams.{Reader}
use Rattle.properties_lines.proofs.InputBuffer.{keeps-consumes, ended-by}
use Rattle.single_lines.specs.Private.ReadAhead.{ReadsMore, count_read}

-- what a buffer holds after a read into its end: the bytes before the place, and those that came
pub read-into : (buffer came rest : List ℕ) (place n : ℕ) → place ≤ length buffer → n ≤ length came
    → take (place + n) (take place buffer ++ (came ++ rest)) ≡ take place buffer ++ take n came
read-into buffer came rest place n h k =
    ap (λ v. take (v + n) (take place buffer ++ (came ++ rest))) (sym (length-take-le place buffer h))
    ∙ take-append-add (take place buffer) (came ++ rest) n
    ∙ ap (λ v. take place buffer ++ v) (take-append-le n came rest k)

module _ {R : Type 0} (reader : Reader R) (old new : R) (buffer came rest : List ℕ) (place : ℕ) (within : place ≤ length buffer) (some : 0 < length came) where
  pub reads-more : (r : Result ℕ Error) → ReadsAtMost r came → ReadConsumes (reader.remaining old) (reader.remaining new) r came
      → CountsFault (reader.faults old) (reader.faults new) r → ShowsEnd (reader.at_end new) r came → reader.read_gives old r new
      → ReadsMore reader old (take place buffer) r new (take (place + count_read r) (take place buffer ++ (came ++ rest)))
  reads-more (Ok n) most moved faults ended gives =
      (take n came, read-into buffer came rest place n within most.0, most.1, record { moved = moved.0; faultless = faults }, λ none. ended-by reader new (ended none some) (moved.1 none some))
  reads-more (Err e) most moved faults ended gives =
      let held = read-into buffer came rest place 0 within (omega arith) ∙ append-nil (take place buffer) in
      (held, record { moved = keeps-consumes (reader.remaining old) (reader.remaining new) moved; risen = faults; given = (old, gives) })

-- what a buffer holds at its front after a part of it was copied there
pub copied-down : (buffer : List ℕ) (start end : ℕ) → start ≤ end → end ≤ length buffer
    → take (end - start) (copy_within buffer start end 0) ≡ drop start (take end buffer)
copied-down buffer start end h k =
    let few : end - start ≤ length (drop start buffer) = omega (arith, length-drop start buffer) in
    ap (λ v. take v (copy_within buffer start end 0)) (sym (zero-add (end - start)))
    ∙ take-paste buffer 0 (drop start buffer) (end - start) (omega arith) few
    ∙ sym (drop-take start (end - start) buffer)
    ∙ ap (λ v. drop start (take v buffer)) (let e : start + (end - start) ≡ end = omega arith in e)
