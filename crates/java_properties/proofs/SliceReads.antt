-- What was read of a slice.
use Rattle.std.proofs.Common.{◌≡◌, ℕ, ◌+◌, ◌^◌, ◌<◌, List, [], ◌++◌, ap, refl, subst, sym, ◌∙◌, length, length-append, arith}
use Rattle.std.specs.Prelude.{Some, ◌==◌, true}
use Rattle.std.specs.Borrow.{Bor}
use Rattle.std.specs.Io.KnownBytes.{Consumes}
use Rattle.std.specs.declared.io.Error.{Error}
use Rattle.std.proofs.lemmas.List.{nil_from_length, append-nil}
use Rattle.counted_io.specs.Streams.{Reader, HasRead, HasFailed, has_ended}
use Rattle.properties_format.specs.Encoding.{Encoding}
use Rattle.properties_format.specs.ItemsToCome.{ReaderState, start, PassesAll}
use Rattle.properties_format.specs.Lines.{Line}
use Rattle.java_properties.specs.Private.LineByLine.{Collected}
use Rattle.java_properties.proofs.FewLines.{few-passed}

-- what is known of a slice as a reader
abbrev pub slice_reader : Reader (Bor (List ℕ))
slice_reader = record {
  remaining = λ s. Some s.now;
  faults = λ s. 0;
  at_end = λ s. length s.now == 0;
  identity = λ s. [];
  read_gives = λ old result new. Unit {0};
}

-- a slice of these bytes, wherever they are
abbrev pub slice_of : List ℕ → Bor (List ℕ)
slice_of bytes = record { ref_ptr = (0, 0); now = bytes }

module _ {from to : Bor (List ℕ)} {bytes : List ℕ} where
  -- What was read comes first in it, and then what is left.
  pub slice-read : HasRead slice_reader from bytes to → from.now ≡ bytes ++ to.now
  slice-read h = h.moved

  -- What was read to the end is all of it.
  pub slice-whole : HasRead slice_reader from bytes to → has_ended slice_reader to ≡ true → bytes ≡ from.now
  slice-whole h ended =
      let empty : to.now ≡ [] = nil_from_length to.now (grind arith) in
      sym (append-nil bytes) ∙ ap (λ v. bytes ++ v) (sym empty) ∙ sym (slice-read h)

  -- No read of a slice fails.
  pub slice-faultless : {error : Error} → HasFailed slice_reader from bytes error to → ⊥
  slice-faultless h = cc (h.risen)

-- It has a number for each of its lines.
pub slice-numbered : (e : Encoding) (from to : Bor (List ℕ)) (bytes : List ℕ) → length from.now + 1 < 2 ^ 64 → HasRead slice_reader from bytes to
    → PassesAll (start e) bytes → ⊥
slice-numbered e from to bytes small read passes =
    let many = few-passed e bytes passes in
    let whole : length from.now ≡ length (bytes ++ to.now) = ap length (slice-read read) in
    let parts = length-append bytes to.now in
    omega arith

-- Where a slice is doesn't matter.
pub collected-slice : {e : Encoding} {from to next : Bor (List ℕ)} {gs : List (List Line)} {s : ReaderState} → to.now ≡ next.now
    → Collected slice_reader e from gs s to → Collected slice_reader e from gs s next
collected-slice {from = from} same c = record {
  bytes = c.bytes;
  read = record { moved = subst (λ v. Consumes (Some from.now) (Some v) c.bytes) same c.read.moved; faultless = refl };
  passes = c.passes;
  whole = c.whole;
  grouped = c.grouped;
  ended = λ d. subst (λ v. has_ended slice_reader (slice_of v) ≡ true) same (c.ended d);
}
