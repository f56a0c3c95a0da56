-- What one read into a buffer does.
use Rattle.std.proofs.Common.{refl, ◌≡◌, ◌<◌, ◌≤◌, ◌+◌, ◌-◌, ℕ, List, [], ◌++◌, take, drop, length, sym, ap, ap₂, ◌∙◌, arith}
use Rattle.std.specs.Prelude.{true, ◌∷◌, Option, Some, None, Result, Ok, Err}
use Rattle.std.specs.declared.io.Error.{Error}
use Rattle.std.specs.Io.{ReadsAtMost}
use Rattle.std.specs.Io.KnownBytes.{ReadConsumes, Consumes, Keeps, IsAtEnd}
use Rattle.std.proofs.Math.Seq.{take-add, take-append_seam, drop-append_seam}
use Rattle.std.proofs.lemmas.List.{take-append-le}
use Rattle.std.proofs.lemmas.Grind.{common_steps}
use Rattle.counted_io.specs.Faults.{CountsFault, ShowsEnd}
use Rattle.counted_io.specs.Streams.{Reader, is_spent, has_ended}
use Rattle.properties_lines.specs.Private.InputBuffer.{ReadsAt}

-- what stands before a place and the first bytes that were put there
taken-front : (place count : ℕ) (buffer part tail : List ℕ) → place < length buffer → count ≤ length part
    → take (place + count) (take place buffer ++ (part ++ tail)) ≡ take place buffer ++ take count part
taken-front place count buffer part tail h k =
    let front = take place buffer in
    let l : length front ≡ place = grind (arith, common_steps) in
    take-add place count (front ++ (part ++ tail))
    ∙ ap₂ (λ v w. v ++ take count w)
    (ap (λ n. take n (front ++ (part ++ tail))) (sym l) ∙ take-append_seam front (part ++ tail))
    (ap (λ n. drop n (front ++ (part ++ tail))) (sym l) ∙ drop-append_seam front (part ++ tail))
    ∙ ap (λ v. front ++ v) (take-append-le count part tail k)

front-kept : (place : ℕ) (buffer part tail : List ℕ) → place < length buffer → take place (take place buffer ++ (part ++ tail)) ≡ take place buffer
front-kept place buffer part tail h = grind (arith, common_steps)

none-taken : (count : ℕ) (part : List ℕ) → count ≤ length part → take count part ≡ [] → count ≡ 0
none-taken count part h e = let k : length (take count part) ≡ 0 = ap length e in grind (arith, common_steps)

pub keeps-consumes : (a b : Option (List ℕ)) → Keeps a b → Consumes a b []
keeps-consumes None b h = tt
keeps-consumes (Some xs) None h = absurd h
keeps-consumes (Some xs) (Some ys) h = sym h

none-known : (known : Option (List ℕ)) → IsAtEnd known → is_spent known ≡ true
none-known None h = refl
none-known (Some []) h = refl
none-known (Some (b ∷ bs)) h = absurd (cc h)

-- A reader has ended if it says so and no known byte is left.
pub ended-by : {R : Type 0} (reader : Reader R) (at : R) → reader.at_end at ≡ true → IsAtEnd (reader.remaining at) → has_ended reader at ≡ true
ended-by reader at said none = rw said (none-known (reader.remaining at) none)

-- one read into the room from a place on
pub reads_at : {R : Type 0} (reader : Reader R) (place : ℕ) (buffer part tail : List ℕ) (old new : R) (result : Result ℕ Error)
    → place < length buffer → length part ≡ length buffer - place → ReadsAtMost result part
    → ReadConsumes (reader.remaining old) (reader.remaining new) result part → CountsFault (reader.faults old) (reader.faults new) result
    → ShowsEnd (reader.at_end new) result part → reader.read_gives old result new
    → ReadsAt reader place buffer old result (take place buffer ++ (part ++ tail)) new
reads_at reader place buffer part tail old new (Ok count) h l most moved same ended given = (
  record {
    bytes = take count part;
    read = record { moved = moved.0; faultless = same };
    added = taken-front place count buffer part tail h most.0;
    counted = grind (arith, common_steps);
    ended = λ e.
        let none : count ≡ 0 = none-taken count part most.0 e in
        let room : 0 < length part = omega arith in
        ended-by reader new (ended none room) (moved.1 none room);
  },
  omega arith,
)
reads_at reader place buffer part tail old new (Err e) h l most moved same ended given =
    (front-kept place buffer part tail h, record { moved = keeps-consumes _ _ moved; risen = same; given = (old, given) })
