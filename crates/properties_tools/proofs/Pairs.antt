-- Pairs that are written one after another.
use Rattle.std.proofs.Common.{◌≡◌, ◌⊎◌, ◌+◌, ◌^◌, ◌++◌, ℕ, Bool, true, false, List, [], ◌∷◌, length, refl, ap, sym, ◌∙◌, inl, inr, append-nil, add-zero, zero-add, arith}
use Rattle.std.specs.Prelude.{Result, Ok, Err}
use Rattle.counted_io.specs.Streams.{Sink, HasWritten}
use Rattle.counted_io.proofs.Streams.{faulted-more, written-flushed}
use Rattle.properties_format.specs.Items.{comment, pair, Entry, item, malformed, read_fault}
use Rattle.properties_format.specs.Writing.{Pair, pairs_in, calls_of, pair_call, is_accepted, settings_after, line_count_after}
use Rattle.java_properties.specs.{Calls.HasMade, Errors.kind_of, Errors.IsBareError}
use Rattle.java_properties.specs.PropertiesWriter.{Writing, next_line, HasWrittenLine, RefusesLine, FailsInLine, IsRefusedBy, Flushes, HasFlushedSink, FailsInFlush}
use Rattle.properties_items.specs.{declared.error.ErrorKind.ErrorKind, declared.error.PropertiesError.PropertiesError}
use Rattle.properties_items.specs.declared.error.ErrorKind.TheVariants as kind
use Rattle.java_properties.proofs.Calls.Made.{made-none, pair-made, made-more}
use Rattle.java_properties.specs.WholeSources as source
use Rattle.properties_tools.specs.Filter.{settings_with, pair_writer, pair_calls, pair_count, pair_lines, next_pair_line, TakesAndFlushes, FailsInPair, RefusesPair, Form}

-- the pairs of two lists of entries
pub pair_calls-append : (xs ys : List Entry) → pair_calls (xs ++ ys) ≡ pair_calls xs ++ pair_calls ys
pair_calls-append [] ys = refl
pair_calls-append (item number (comment text) ∷ xs) ys = pair_calls-append xs ys
pair_calls-append (item number (pair key value) ∷ xs) ys = ap (λ v. pair_call key value ∷ v) (pair_calls-append xs ys)
pair_calls-append (malformed kind number ∷ xs) ys = pair_calls-append xs ys
pair_calls-append (read_fault number ∷ xs) ys = pair_calls-append xs ys

-- a new writer takes every pair
pub pair-accepted : (only : Bool) (key value : List ℕ) → is_accepted (settings_with only) (pair_call key value) ≡ true
pair-accepted only [] value = refl
pair-accepted only (c ∷ key) value = refl

-- pairs change no setting
settings-kept : (only : Bool) (ps : List Pair) → settings_after (settings_with only) (calls_of ps) ≡ settings_with only
settings-kept only [] = refl
settings-kept only (p ∷ ps) = settings-kept only ps

-- each pair is one line
lines-counted : (only : Bool) (n : ℕ) (ps : List Pair) → line_count_after (settings_with only) n (calls_of ps) ≡ n + length (calls_of ps)
lines-counted only n [] = sym (add-zero n)
lines-counted only n (([], value) ∷ ps) = rw (lines-counted only (n + 1) ps) (omega arith)
lines-counted only n ((c ∷ key, value) ∷ ps) = rw (lines-counted only (n + 1) ps) (omega arith)

-- a pair is refused by want of line numbers or of memory alone
refused-kind : {W : Type 0} (only : Bool) (w : Writing W) (key value : List ℕ) (k : ErrorKind) → w.failed ≡ false → w.settings ≡ settings_with only
    → IsRefusedBy k w (pair key value) → (k ≡ kind.Memory) ⊎ ((k ≡ kind.TooManyLines) × (w.lines + 1 ≡ 2 ^ 64))
refused-kind only w key value kind.Failed live same reason = absurd (cc)
refused-kind only w key value kind.EmptyKey live same reason = absurd (let yes = pair-accepted only key value in cc)
refused-kind only w key value kind.TooManyLines live same reason = inr (refl, reason.2)
refused-kind only w key value kind.Memory live same reason = inl refl
refused-kind only w key value other live same reason = absurd reason

-- The pairs of these items were written by a new writer, which is now this one.
pub record HasWrittenPairs {W : Type 0} (sink : Sink W) (r : Form) (output : W) (items : List Entry) (w : Writing W) : Type 0 where
  pub made : HasMade sink (pair_writer r output) (pair_calls items) w

bare : {k l : ErrorKind} {error : PropertiesError} → l ≡ k → IsBareError l error → IsBareError k error
bare same is = record { its_kind = is.its_kind ∙ same; its_line = is.its_line; its_cause = is.its_cause; its_text = is.its_text }

module _ {W : Type 0} {sink : Sink W} {r : Form} {output : W} {items : List Entry} {w : Writing W}
    (h : HasWrittenPairs sink r output items w) where
  -- a comment is not written
  pub pairs-comment : (number : ℕ) (text : List ℕ) → HasWrittenPairs sink r output (items ++ (item number (comment text) ∷ [])) w
  pairs-comment number text = record { made = rw (pair_calls-append, append-nil) h.made }

  -- a pair is
  pub pairs-more : {new : Writing W} (number : ℕ) (key value : List ℕ) → HasWrittenLine sink w (pair key value) new
      → HasWrittenPairs sink r output (items ++ (item number (pair key value) ∷ [])) new
  pairs-more number key value k = record { made = rw pair_calls-append (made-more h.made (pair-made key value k)) }

  -- the bytes that the sink took
  pairs-written : HasWritten sink output (pair_lines r items) w.sink
  pairs-written = h.made.written

  -- the writer has not failed, and is set as at first
  pub pairs-live : w.failed ≡ false
  pairs-live = ap (λ (v : Writing W). v.failed) h.made.after

  pairs-settings : w.settings ≡ settings_with r.ascii_only
  pairs-settings = ap (λ (v : Writing W). v.settings) h.made.after ∙ settings-kept r.ascii_only (pairs_in items)

  pairs-lines : w.lines ≡ pair_count items
  pairs-lines = ap (λ (v : Writing W). v.lines) h.made.after ∙ lines-counted r.ascii_only 0 (pairs_in items) ∙ zero-add (pair_count items)

  pairs-next : (key value : List ℕ) → next_line w (pair key value) ≡ next_pair_line r items key value
  pairs-next key value = let encoding = ap (λ (v : Writing W). v.encoding) h.made.after in rw (encoding, pairs-settings, pairs-lines) refl

  -- a write failed
  pub pairs-fail : {new : Writing W} {error : PropertiesError} (key value : List ℕ) → FailsInLine sink w (pair key value) error new
      → FailsInPair sink r output items key value error new.sink
  pairs-fail key value k = record {
    part = k.sent.part;
    begins = rw pairs-next at k.sent.begins;
    faulted = faulted-more pairs-written k.sent.faulted;
    cause = k.cause;
    given = k.sent.given;
    is = rw pairs-lines at k.is;
  }

  -- a pair was refused, and nothing was written
  pub pairs-refused : {new : Writing W} {error : PropertiesError} (key value : List ℕ) → RefusesLine w (pair key value) error new
      → RefusesPair sink r output items error new.sink
  pairs-refused {error = error} key value k = record {
    written = rw k.same pairs-written;
    is = elim (refused-kind r.ascii_only w key value (kind_of error) pairs-live pairs-settings k.reason) [
      | inl is ↦ inl (bare is k.is)
      | inr is ↦ inr (bare is.0 k.is, ap (λ n. n + 1) (sym pairs-lines) ∙ is.1)
    ];
  }

  -- the flush after the last pair
  pub pairs-flushed : {new : Writing W} → HasFlushedSink sink w new
      → HasWritten sink output (pair_lines r items) new.sink × (sink.is_flushed new.sink ≡ true)
  pairs-flushed k = (written-flushed pairs-written k.flushed, k.flushed.flushed)

  pub pairs-flush-failed : {new : Writing W} {error : PropertiesError} → FailsInFlush sink w error new
      → source.FailsInSourceFlush sink output (pair_lines r items) error new.sink
  pairs-flush-failed k = record { middle = w.sink; written = pairs-written; cause = k.cause; flushed = k.flushed; is = k.is }

  -- a flush whose result is dropped
  pub pairs-flush : (new : Writing W) (result : Result Unit PropertiesError) → Flushes sink w result new
      → TakesAndFlushes sink output (pair_lines r items) new.sink
  pairs-flush new (Ok done) k = inl (pairs-flushed k)
  pairs-flush new (Err error) (inl k) = absurd (let live = pairs-live in let failed = k.failed in cc)
  pairs-flush new (Err error) (inr k) = inr (w.sink, pairs-written, (k.cause, k.flushed))

-- before the first pair
pub pairs-none : {W : Type 0} (sink : Sink W) (r : Form) (output : W) → HasWrittenPairs sink r output [] (pair_writer r output)
pairs-none sink r output = record { made = made-none (pair_writer r output) }
