-- Calls of a stream in turn.
use Rattle.std.proofs.Common.{◌≡◌, ◌≢◌, ◌==◌, ℕ, false, rules, List, [], ◌++◌, refl, ap, sym, ◌∙◌, append_assoc, append-nil}
use Rattle.std.proofs.KnownBytes.{Consumes-trans, Appends-trans, Consumes-nil, Appends-nil}
use borrow.Author.Tests.{tests}
use Rattle.std.specs.Prelude.{Option, Some, None}
use Rattle.std.specs.Io.KnownBytes.{Appends, Keeps}
use Rattle.std.specs.declared.io.Error.{Error}
use Rattle.counted_io.specs.Faults.{one_more, count_of_taken}
use Rattle.counted_io.specs.Streams.{Reader, Sink, HasRead, HasFailed, HasWritten, HasFaulted, HasFlushed, HasFailedFlush}

keeps-appends : (a b : Option (List ℕ)) → Keeps a b → Appends a b []
keeps-appends None b h = tt
keeps-appends (Some xs) None h = absurd h
keeps-appends (Some xs) (Some ys) h = rw h (Appends-nil (Some xs))

-- ---- readers

module _ {R : Type 0} {reader : Reader R} where
  -- no call reads nothing
  pub read-none : (at : R) → HasRead reader at [] at
  read-none at = record { moved = Consumes-nil (reader.remaining at); faultless = refl }

  -- bytes that were read, and then others
  pub read-more : {a b c : R} {r s : List ℕ} → HasRead reader a r b → HasRead reader b s c → HasRead reader a (r ++ s) c
  read-more h k = record { moved = Consumes-trans _ _ _ _ _ h.moved k.moved; faultless = k.faultless ∙ h.faultless }

  -- bytes that were read, and then a fault
  pub failed-more : {a b c : R} {r s : List ℕ} {e : Error} → HasRead reader a r b → HasFailed reader b s e c → HasFailed reader a (r ++ s) e c
  failed-more h k = record { moved = Consumes-trans _ _ _ _ _ h.moved k.moved; risen = k.risen ∙ ap one_more h.faultless; given = k.given }

-- ---- sinks

module _ {W : Type 0} {sink : Sink W} where
  -- no call writes nothing
  pub written-none : (at : W) → HasWritten sink at [] at
  written-none at = record { moved = Appends-nil (sink.contents at); faultless = refl }

  -- bytes that were written, and then others
  pub written-more : {a b c : W} {x y : List ℕ} → HasWritten sink a x b → HasWritten sink b y c → HasWritten sink a (x ++ y) c
  written-more h k = record { moved = Appends-trans _ _ _ _ _ h.moved k.moved; faultless = k.faultless ∙ h.faultless }

  -- bytes that were written, and then a fault
  pub faulted-more : {a b c : W} {x y : List ℕ} → HasWritten sink a x b → HasFaulted sink b y c → HasFaulted sink a (x ++ y) c
  faulted-more h k = record { moved = Appends-trans _ _ _ _ _ h.moved k.moved; risen = k.risen ∙ ap one_more h.faultless }

  -- bytes that were written, and then a flush
  pub written-flushed : {a b c : W} {x : List ℕ} → HasWritten sink a x b → HasFlushed sink b c → HasWritten sink a x c
  written-flushed {x = x} h k = record {
    moved = rw (← append-nil x) (Appends-trans _ _ _ _ _ h.moved (keeps-appends _ _ k.kept));
    faultless = k.faultless ∙ h.faultless;
  }

  -- bytes that were written, and then a flush that failed
  pub written-failed_flush : {a b c : W} {x : List ℕ} {e : Error} → HasWritten sink a x b → HasFailedFlush sink b e c → HasFaulted sink a x c
  written-failed_flush {x = x} h k = record {
    moved = rw (← append-nil x) (Appends-trans _ _ _ _ _ h.moved (keeps-appends _ _ k.kept));
    risen = k.risen ∙ ap one_more h.faultless;
  }

-- ---- bytes that are sent

-- the sink took what stands before the rest
pub record HasSent {W : Type 0} (sink : Sink W) (old : W) (bytes rest : List ℕ) (new : W) : Type 0 where
  pub sent : List ℕ
  pub whole : bytes ≡ sent ++ rest
  pub written : HasWritten sink old sent new

module _ {W : Type 0} {sink : Sink W} {old : W} {bytes : List ℕ} where
  -- a write took a part more
  pub sent-more : {rest : List ℕ} {to next : W} (part others : List ℕ) → HasSent sink old bytes rest to → rest ≡ part ++ others
      → HasWritten sink to part next → HasSent sink old bytes others next
  sent-more part others h e k = record {
    sent = h.sent ++ part;
    whole = h.whole ∙ ap (λ v. h.sent ++ v) e ∙ sym (append_assoc h.sent part others);
    written = written-more h.written k;
  }

-- a write that took a byte is no fault
pub taken-some : (old n : ℕ) (bytes : List ℕ) → n ≢ 0 → count_of_taken old n bytes ≡ old
taken-some old n bytes h = let e : (n == 0) ≡ false = search (rules, tests) in rw e refl
