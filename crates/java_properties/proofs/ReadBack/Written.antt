-- What was written is read back.
use Rattle.std.proofs.Common.{◌≡◌, List, [], ◌∷◌, ◌++◌, refl, ◌∙◌, inl, inr, subst}
use Rattle.std.specs.Prelude.{Bool, Result, Ok, Err}
use Rattle.std.specs.Global.{Vec}
use Rattle.counted_io.specs.Streams.{Sink, HasWritten}
use Rattle.properties_format.specs.Encoding.{output_encoding}
use Rattle.properties_format.specs.Settings.{Settings}
use Rattle.properties_format.specs.Writing.{Call, comment_call, settings_after_call, wrote, ArePrefixesClean, AreOfScalars, Pair, calls_of}
use Rattle.properties_format.specs.Writing.{ArePairsOfScalars}
use Rattle.properties_format.specs.Laws.{wrote_pairs, ArePairsReadBack}
use Rattle.properties_format.proofs.Items.Unique.{items_of-only}
use Rattle.properties_format.proofs.Laws.{equal-bytes, writing-anew}
use Rattle.properties_format.proofs.ReadBack.Law.{items_of-wrote, IsItems-wrote}
use Rattle.properties_text.specs.Encoding.{line_of}
use Rattle.java_properties.specs.PropertiesWriter.{Writing}
use Rattle.java_properties.specs.Calls.{HasMade, StopsAtCall, RunsCalls}
use Rattle.java_properties.specs.ReadBack.{IsGoodWriter, IsCleanWriting, IsReadBack, IsReadBackBefore, ReadsBack, ArePairsWritten, IsWritingOf}
use Rattle.properties_items.specs.declared.error.PropertiesError.{PropertiesError}
use Rattle.properties_text.specs.declared.encoding.line_encoding.LineEncoding.{LineEncoding}
use Rattle.properties_text.specs.declared.encoding.line_encoding.LineEncoding.TheVariants.{Windows1252, Utf8}

-- the encoding of a writer is one that is written
pub line_of-own : (e : LineEncoding) → output_encoding (line_of e) ≡ line_of e
line_of-own Windows1252 = refl
line_of-own Utf8 = refl

-- what holds of two lists of calls holds of both together
pub scalars-append : (xs ys : List Call) → AreOfScalars xs → AreOfScalars ys → AreOfScalars (xs ++ ys)
scalars-append [] ys h k = k
scalars-append (x ∷ xs) ys h k = (h.0, scalars-append xs ys h.1 k)

-- what holds of all calls holds of the first of them
scalars-before : (xs ys : List Call) → AreOfScalars (xs ++ ys) → AreOfScalars xs
scalars-before [] ys h = tt
scalars-before (x ∷ xs) ys h = (h.0, scalars-before xs ys h.1)

clean-before : (s : Settings) (xs ys : List Call) → ArePrefixesClean s (xs ++ ys) → ArePrefixesClean s xs
clean-before s [] ys h = tt
clean-before s (comment_call text ∷ xs) ys h = (h.0, clean-before s xs ys h.1)
clean-before s (call ∷ xs) ys h = clean-before (settings_after_call s call) xs ys h

module _ {W : Type 0} {sink : Sink W} where
  -- what calls wrote cleanly is read back
  pub written-read_back : {old new : Writing W} {calls : List Call} → IsGoodWriter old → AreOfScalars calls
      → HasWritten sink old.sink (wrote old.encoding old.settings old.lines calls) new.sink → IsCleanWriting old calls → IsReadBack sink old calls new
  written-read_back {old = old} {new = new} {calls = calls} good scalars written clean =
      record {
        bytes = wrote old.encoding old.settings 0 calls;
        written = rw clean.first at written;
        items = IsItems-wrote old.encoding old.settings calls good.encoding good.settings clean.prefixes scalars;
        only = λ others h.
            items_of-only old.encoding _ _ others h
            ∙ items_of-wrote old.encoding old.settings calls good.encoding good.settings clean.prefixes scalars;
      }

  pub made-read_back : {old new : Writing W} {calls : List Call} → IsGoodWriter old → AreOfScalars calls → HasMade sink old calls new → IsCleanWriting old calls
      → IsReadBack sink old calls new
  made-read_back good scalars made clean = written-read_back good scalars made.written clean

  -- and so are those before one that failed
  pub stops-read_back : {old new : Writing W} {calls : List Call} {error : PropertiesError} → IsGoodWriter old → AreOfScalars calls
      → StopsAtCall sink old calls error new → IsCleanWriting old calls → IsReadBackBefore sink old calls error new
  stops-read_back {old = old} good scalars h clean = record {
    before = h.before;
    call = h.call;
    others = h.others;
    division = h.division;
    middle = h.middle;
    read_back = made-read_back good (scalars-before h.before (h.call ∷ h.others) (rw h.division at scalars)) h.made (record {
      first = clean.first;
      prefixes = clean-before old.settings h.before (h.call ∷ h.others) (rw h.division at clean.prefixes);
    });
    fails = h.fails;
  }

-- the texts of pairs are those of the calls that write them
scalars-pairs : (pairs : List Pair) → AreOfScalars (calls_of pairs) → ArePairsOfScalars pairs
scalars-pairs [] h = tt
scalars-pairs (p ∷ pairs) h = (h.0, scalars-pairs pairs h.1)

-- Pairs that were written are the only ones that write their bytes, and writing again changes none of these.
pub made-only : {W : Type 0} {sink : Sink W} {old new : Writing W} {calls : List Call} → IsGoodWriter old → AreOfScalars calls → HasMade sink old calls new
    → (pairs : List Pair) → ArePairsWritten old calls pairs → IsWritingOf sink old pairs new
made-only {old = old} {calls = calls} good scalars made pairs these =
    let e = old.encoding in
    let s = old.settings in
    let own : ArePairsReadBack e s pairs = record {
      encoding = good.encoding;
      settings = good.settings;
      accepted = these.accepted;
      scalars = scalars-pairs pairs (subst AreOfScalars these.alone scalars);
    } in
    record {
      bytes = wrote_pairs e s pairs;
      written = rw these.alone at (rw these.first at made.written);
      only = λ others accepted texts same.
          (equal-bytes e s others pairs (record { encoding = good.encoding; settings = good.settings; accepted = accepted; scalars = texts }) own).0 same;
      anew = writing-anew e s pairs own;
    }

pub runs-read_back : {W : Type 0} (sink : Sink W) (old new : Writing W) (calls : List Call) (result : Result (Vec Bool) PropertiesError) → IsGoodWriter old
    → AreOfScalars calls
    → RunsCalls sink old calls result new → ReadsBack sink old calls result new
runs-read_back sink old new calls (Ok answers) good scalars h = λ clean. made-read_back good scalars h.made clean
runs-read_back sink old new calls (Err error) good scalars (inl h) = λ clean. inl h
runs-read_back sink old new calls (Err error) good scalars (inr h) = λ clean. inr (stops-read_back good scalars h clean)
