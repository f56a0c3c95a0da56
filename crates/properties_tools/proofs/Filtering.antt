-- Items that go from a reader to a sink, one after another.
use Rattle.std.proofs.Common.{◌≡◌, ◌++◌, ℕ, false, List, [], ◌∷◌, sym, ◌∙◌, inl, inr, subst, append-nil}
use Rattle.std.specs.Prelude.{Bool, Result, Ok, Err}
use Rattle.counted_io.specs.Streams.{Reader, Sink}
use Rattle.properties_format.specs.{Encoding.Encoding, ItemsToCome.ReaderState, ItemsToCome.start, Lines.end, Writing.pairs_in, Writing.ArePairsOfScalars}
use Rattle.properties_format.specs.Computed.ItemsToCome.{items_to_come}
use Rattle.properties_format.specs.Items.{Content, comment, pair, Entry, item, malformed, read_fault, AreItems, IsItems}
use Rattle.properties_format.proofs.Items.Unique.{items_of-meets}
use Rattle.java_properties.specs.PropertiesIter.{Iteration, GivesEntry, GivesNone, GivesError}
use Rattle.java_properties.specs.{PropertiesWriter.Writing, PropertiesWriter.WritesLine, PropertiesWriter.Flushes, ReadLines.BeginsWith, Copying.HasScalars}
use Rattle.java_properties.specs.{Copying.WritesIfPair, Copying.Copies, declared.copy.CopyError.CopyError, declared.copy.CopyError.TheVariants.Read}
use Rattle.java_properties.specs.declared.copy.CopyError.TheVariants.{Write}
use Rattle.properties_items.specs.declared.error.PropertiesError.{PropertiesError}
use Rattle.java_properties.proofs.Readings.{Comes, Collected, collected-start, collected-next, collected-none, collected-error}
use Rattle.properties_tools.specs.Filter.{pair_writer, Filters, Form}
use Rattle.properties_tools.proofs.Pairs.{HasWrittenPairs, pairs-none, pairs-comment, pairs-more, pairs-live, pairs-fail, pairs-refused, pairs-flushed, pairs-flush, pairs-flush-failed}

-- one item more
items-added : (entries : List Entry) (number : ℕ) (content : Content) → AreItems entries → AreItems (entries ++ item number content ∷ [])
items-added [] number content h = tt
items-added (item n c ∷ entries) number content h = items-added entries number content h
items-added (entry ∷ entries) number content h = absurd h

-- the texts of pairs are of scalar values, one more among them
scalars-more : (xs : List Entry) (number : ℕ) (content : Content) → ArePairsOfScalars (pairs_in xs) → HasScalars content
    → ArePairsOfScalars (pairs_in (xs ++ (item number content ∷ [])))
scalars-more [] number (comment text) h q = tt
scalars-more [] number (pair key value) h q = (q, tt)
scalars-more (item n (comment text) ∷ xs) number content h q = scalars-more xs number content h q
scalars-more (item n (pair key value) ∷ xs) number content h q = (h.0, scalars-more xs number content h.1 q)
scalars-more (malformed kind n ∷ xs) number content h q = scalars-more xs number content h q
scalars-more (read_fault n ∷ xs) number content h q = scalars-more xs number content h q

-- The items that came were all that the reader gave so far, and their pairs were written.
pub record HasPassed {R W : Type 0} (reader : Reader R) (sink : Sink W) (r : Form) (input : R) (output : W) (it : Iteration R)
    (w : Writing W) : Type 0 where
  pub items : List Entry
  pub whole : AreItems items
  pub scalars : ArePairsOfScalars (pairs_in items)
  pub bytes : List ℕ
  pub collected : Collected reader r.encoding input bytes items it.state it.reader
  pub pairs : HasWrittenPairs sink r output items w

-- before the first item
passed-none : {R W : Type 0} (reader : Reader R) (sink : Sink W) (r : Form) (it : Iteration R) (w : Writing W) → it.state ≡ start r.encoding
    → w ≡ pair_writer r w.sink → HasPassed reader sink r it.reader w.sink it w
passed-none reader sink r it w fresh new = record {
  items = [];
  whole = tt;
  scalars = tt;
  bytes = [];
  collected = rw fresh (collected-start r.encoding it.reader);
  pairs = subst (λ v. HasWrittenPairs sink r w.sink [] v) (sym new) (pairs-none sink r w.sink);
}

-- what came so far is a beginning of the items
begins : {e : Encoding} {bytes : List ℕ} {items : List Entry} {at_end : Bool} {s : ReaderState} → Comes e bytes items at_end s
    → BeginsWith (IsItems e) bytes items at_end
begins {e} {bytes} {items} {s = s} (Comes.going_on g m) =
    inl (λ d ending. (items_to_come s d ending, subst (IsItems e (bytes ++ d) ending) (m d ending) (items_of-meets e (bytes ++ d) ending)))
begins {e} {bytes} {items} (Comes.at_last d k m) =
    inr (k, ([], subst (IsItems e bytes end) (m ∙ sym (append-nil items)) (items_of-meets e bytes end)))

module _ {R W : Type 0} {reader : Reader R} {sink : Sink W} {r : Form} {input : R} {output : W} {it : Iteration R} {w : Writing W}
    (h : HasPassed reader sink r input output it w) where
  -- An item came, and was written if it is a pair.
  passed-more : {next : Iteration R} (new : Writing W) (number : ℕ) (content : Content)
      → GivesEntry reader it.state it.reader (item number content) next.state next.reader → WritesIfPair sink w content (Ok tt) new
      → HasScalars content → HasPassed reader sink r input output next new
  passed-more new number content n k q = record {
    items = h.items ++ (item number content ∷ []);
    whole = items-added h.items number content h.whole;
    scalars = scalars-more h.items number content h.scalars q;
    bytes = h.bytes ++ n.bytes;
    collected = collected-next h.collected n;
    pairs = written content k;
  }
    where
      written : (c : Content) → WritesIfPair sink w c (Ok tt) new → HasWrittenPairs sink r output (h.items ++ (item number c ∷ [])) new
      written (comment text) k = rw k.1 (pairs-comment h.pairs number text)
      written (pair key value) k = pairs-more h.pairs number key value k

  -- reading stopped, and the sink was flushed
  pub stops-reading : {to : R} {error : PropertiesError} (new : Writing W) (flush : Result Unit PropertiesError)
      → it.state.is_done ≡ false → GivesError reader it.state it.reader error to
      → Flushes sink w flush new → Filters reader sink r input output (Err error) to new.sink
  stops-reading new flush live k f = (
    h.items,
    record {
      scalars = h.scalars;
      stops = inl (record {
        whole = h.whole;
        stops = collected-error h.collected live k;
        written = pairs-flush h.pairs new flush f;
      });
    },
  )

  -- A pair came, and was not written.
  stops-writing : {after : ReaderState} {to : R} {error : PropertiesError} (new : Writing W) (number : ℕ) (key value : List ℕ)
      → GivesEntry reader it.state it.reader (item number (pair key value)) after to → WritesLine sink w (pair key value) (Err error) new
      → Filters reader sink r input output (Err error) to new.sink
  stops-writing new number key value n k =
      let came = collected-next h.collected n in (
        h.items,
        record {
          scalars = h.scalars;
          stops = inr (inl (record {
            number = number;
            key = key;
            value = value;
            whole = h.whole;
            bytes = h.bytes ++ n.bytes;
            read = came.read;
            begins = begins came.comes;
            fails = elim k [ inl refused ↦ inr (pairs-refused h.pairs key value refused) | inr failed ↦ inl (pairs-fail h.pairs key value failed) ];
          }));
        },
      )

  -- no item came any more, and the sink was flushed, or its flush failed
  pub returns : {after : ReaderState} {to : R} (new : Writing W) (result : Result Unit PropertiesError)
      → GivesNone reader it.state it.reader after to → Flushes sink w result new → Filters reader sink r input output result to new.sink
  returns new (Ok done) n f =
      let k = pairs-flushed h.pairs f in
      record { items = h.items; whole = h.whole; scalars = h.scalars; reads = collected-none h.collected n; written = k.0; flushed = k.1 }
  returns new (Err error) n (inl k) = absurd (let live = pairs-live h.pairs in let failed = k.failed in cc)
  returns new (Err error) n (inr k) =
      let stops = inr (inr (record { whole = h.whole; reads = collected-none h.collected n; fails = pairs-flush-failed h.pairs k })) in
      (h.items, record { scalars = h.scalars; stops = stops })

-- ---- items that are copied

-- Copying has stopped: no more items came; or reading the next one failed; or writing it did.
abbrev pub Stops : {R W : Type 0} → Reader R → Sink W → Form → R → W → Result Unit CopyError → Iteration R → Writing W → Type 0
Stops {R} reader sink r input output (Ok done) new written =
    (it : Iteration R) × HasPassed reader sink r input output it written × GivesNone reader it.state it.reader new.state new.reader
Stops {R} reader sink r input output (Err (Read error)) new written =
    (it : Iteration R) × HasPassed reader sink r input output it written × (it.state.is_done ≡ false)
    × GivesError reader it.state it.reader error new.reader
Stops reader sink r input output (Err (Write error)) new written = Filters reader sink r input output (Err error) new.reader written.sink

module _ {R W : Type 0} {reader : Reader R} {sink : Sink W} {r : Form} {input : R} {output : W} where
  -- Items were copied in turn, up to where copying stopped.
  copied : {it new : Iteration R} {w written : Writing W} {result : Result Unit CopyError} → HasPassed reader sink r input output it w
      → Copies reader sink it w result new written → Stops reader sink r input output result new written
  copied h (Copies.goes_on between so_far came rest) =
      copied (passed-more h so_far came.number came.content came.gives came.writes came.scalars) rest
  copied {it} h (Copies.ends is none) = rw (is, none.same) (it, h, none.gives)
  copied {it} h (Copies.stops_reading error is failed) = rw (is, failed.same) (it, h, failed.live, failed.why)
  copied {written = written} h (Copies.stops_writing error is failed) =
      rw is (stops-writing h written failed.number failed.key failed.value failed.gives failed.writes)

-- from the first item on
pub copied-all : {R W : Type 0} {reader : Reader R} {sink : Sink W} {r : Form}
    {it new : Iteration R} {w written : Writing W} {result : Result Unit CopyError}
    → it.state ≡ start r.encoding → w ≡ pair_writer r w.sink → Copies reader sink it w result new written
    → Stops reader sink r it.reader w.sink result new written
copied-all {reader = reader} {sink} {r} {it} {w = w} fresh new h = copied (passed-none reader sink r it w fresh new) h
