-- What was written while ASCII-only output was on is ASCII-only.
use Rattle.std.proofs.Common.{◌≡◌, ◌++◌, List, [], ◌∷◌, ap, sym, ◌∙◌, inl, inr, subst}
use Rattle.std.specs.Prelude.{◌<◌, Bool, Result, Ok, Err, true}
use Rattle.std.proofs.lemmas.List.Elements.{All-nil}
use Rattle.std.specs.Global.{Vec}
use Rattle.counted_io.specs.Streams.{Sink, HasWritten}
use Rattle.counted_io.proofs.Streams.{written-none, faulted-more, written-failed_flush}
use Rattle.properties_format.specs.Items.{Content, comment, pair}
use Rattle.properties_format.specs.Writing.{Call, comment_call, pair_call, prefix_call, separator_call, flush_call, ascii_only_call, wrote, AreOfScalars}
use Rattle.properties_format.specs.AsciiOnly.{AreAsciiOnly}
use Rattle.properties_format.proofs.AsciiOnly.{wrote-ascii, AreItemsInBoth-wrote, begun-ascii, begun-line_ascii}
use Rattle.java_properties.specs.PropertiesWriter.{Writing, WritesLine, Flushes, next_line}
use Rattle.java_properties.specs.Calls.{HasMade, Fails, RunsCalls}
use Rattle.java_properties.specs.ReadBack.{IsGoodWriter, HasWrittenAscii, TakesAscii, WritesAscii}
use Rattle.properties_items.specs.declared.error.PropertiesError.{PropertiesError}

module _ {W : Type 0} {sink : Sink W} {old new : Writing W} where
  -- calls that were made
  pub made-ascii : {calls : List Call} → IsGoodWriter old → AreOfScalars calls → HasMade sink old calls new → AreAsciiOnly calls
      → HasWrittenAscii sink old calls new
  made-ascii {calls = calls} good scalars made on =
      record {
        bytes = wrote old.encoding old.settings old.lines calls;
        written = made.written;
        ascii = wrote-ascii old.encoding old.settings old.lines calls on good.settings.separator;
        in_both = λ clean. rw clean.first (AreItemsInBoth-wrote old.encoding old.settings calls on good.settings clean.prefixes scalars);
      }

  -- no call was made
  none-ascii : new ≡ old → TakesAscii sink old.sink new.sink
  none-ascii same = record {
    bytes = [];
    taken = inl (subst (λ (v : Writing W). HasWritten sink old.sink [] v.sink) (sym same) (written-none old.sink));
    ascii = All-nil (λ b. b < 0x80);
  }

module _ {W : Type 0} {sink : Sink W} {old middle new : Writing W} (before : List Call) (call : Call) (others : List Call)
    (good : IsGoodWriter old) (made : HasMade sink old before middle) (on : AreAsciiOnly (before ++ (call ∷ others))) where
  -- the call after these changed nothing
  kept-ascii : new ≡ middle → TakesAscii sink old.sink new.sink
  kept-ascii same = record {
    bytes = wrote old.encoding old.settings old.lines before;
    taken = inl (rw same made.written);
    ascii = begun-ascii old.encoding old.settings old.lines before (call ∷ others) on good.settings.separator;
  }

  -- a line failed, or was refused
  line-ascii : (line : Content) (error : PropertiesError) → (call ≡ ascii_only_call true → ⊥) → WritesLine sink middle line (Err error) new
      → TakesAscii sink old.sink new.sink
  line-ascii line error other (inl refused) = kept-ascii refused.same
  line-ascii line error other (inr failed) =
      let part = failed.sent.part in
      let same = ap (λ (w : Writing W). next_line w line) made.after in
      record {
        bytes = wrote old.encoding old.settings old.lines before ++ part;
        taken = inr (faulted-more made.written failed.sent.faulted);
        ascii = begun-line_ascii old.encoding old.settings old.lines before call others _ line part failed.sent.begins.others other on good.settings.separator
            (sym same ∙ failed.sent.begins.whole);
      }

  -- a flush failed, or was refused
  flush-ascii : (error : PropertiesError) → Flushes sink middle (Err error) new → TakesAscii sink old.sink new.sink
  flush-ascii error (inl refused) = kept-ascii refused.refuses.same
  flush-ascii error (inr failed) = record {
    bytes = wrote old.encoding old.settings old.lines before;
    taken = inr (written-failed_flush made.written failed.flushed);
    ascii = begun-ascii old.encoding old.settings old.lines before (call ∷ others) on good.settings.separator;
  }

-- the call that failed
fails-ascii : {W : Type 0} {sink : Sink W} {old middle : Writing W} (new : Writing W) (before : List Call) (call : Call)
    (others : List Call) (error : PropertiesError) → IsGoodWriter old → HasMade sink old before middle
    → AreAsciiOnly (before ++ (call ∷ others)) → Fails sink middle call error new → TakesAscii sink old.sink new.sink
fails-ascii new before (comment_call text) others error good made on f =
    line-ascii before (comment_call text) others good made on (comment text) error (λ q. absurd (cc)) f
fails-ascii new before (pair_call key value) others error good made on f =
    line-ascii before (pair_call key value) others good made on (pair key value) error (λ q. absurd (cc)) f
fails-ascii new before (prefix_call prefix) others error good made on f = kept-ascii before (prefix_call prefix) others good made on f.same
fails-ascii new before (separator_call separator) others error good made on f = kept-ascii before (separator_call separator) others good made on f.same
fails-ascii new before flush_call others error good made on f = flush-ascii before flush_call others good made on error f
fails-ascii new before call others error good made on f = absurd f

-- Whatever running the calls returned.
pub runs-ascii : {W : Type 0} (sink : Sink W) (old new : Writing W) (calls : List Call) (result : Result (Vec Bool) PropertiesError)
    → IsGoodWriter old → AreOfScalars calls → RunsCalls sink old calls result new
    → WritesAscii sink old calls result new
runs-ascii sink old new calls (Ok answers) good scalars runs = λ on. made-ascii good scalars runs.made on
runs-ascii sink old new calls (Err error) good scalars (inl refused) = λ on. none-ascii refused.same
runs-ascii sink old new calls (Err error) good scalars (inr stops) = λ on.
    fails-ascii new stops.before stops.call stops.others error good stops.made (subst AreAsciiOnly stops.division on) stops.fails.fails
