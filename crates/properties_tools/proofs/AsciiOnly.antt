-- What filtering with ASCII-only output on writes.
use Rattle.std.proofs.Common.{◌++◌, true, List, [], ◌∷◌, refl, inl, inr, subst, append-nil}
use Rattle.std.specs.Prelude.{Result, Ok, Err}
use Rattle.counted_io.specs.Streams.{Reader, Sink}
use Rattle.properties_format.specs.{Encoding.Encoding, Encoding.output_encoding, Items.Entry, Items.pair, Settings.Settings, AsciiOnly.AllKeepAsciiOnly}
use Rattle.properties_format.specs.{AsciiOnly.AreAsciiBytes, AsciiOnly.AreItemsInBoth}
use Rattle.properties_format.specs.Writing.{AreGoodSettings, Pair, pairs_in, calls_of, AreAccepted}
use Rattle.properties_format.proofs.{AsciiOnly.wrote-on, AsciiOnly.wrote-on_line, AsciiOnly.wrote-on_both, ReadBack.Law.default_settings-good}
use Rattle.properties_format.proofs.{ReadBack.Lists.read_back-pairs, ReadBack.Lists.calls_of-clean, ReadBack.Lists.calls_of-scalars}
use Rattle.java_properties.specs.ReadBack.{TakesAscii}
use Rattle.properties_items.specs.declared.error.PropertiesError.{PropertiesError}
use Rattle.properties_tools.specs.Filter.{settings_with, pair_calls, pair_lines, Filters, FiltersToAscii, form}
use Rattle.properties_tools.proofs.{Pairs.pair-accepted, FilteredTwice.Took, FilteredTwice.took}

-- the settings with it on
abbrev on : Settings
on = settings_with true

on-good : AreGoodSettings on
on-good = record { prefix = default_settings-good.prefix; scalars = default_settings-good.scalars; separator = default_settings-good.separator }

-- no pair turns it off
pairs-keep : (ps : List Pair) → AllKeepAsciiOnly (calls_of ps)
pairs-keep [] = tt
pairs-keep (p ∷ ps) = (tt, pairs-keep ps)

pairs-taken : (ps : List Pair) → AreAccepted on ps
pairs-taken [] = tt
pairs-taken (p ∷ ps) = (pair-accepted true p.0 p.1, pairs-taken ps)

-- the lines of pairs are ASCII
lines-ascii : (e : Encoding) (items : List Entry) → AreAsciiBytes (pair_lines (form e true) items)
lines-ascii e items = wrote-on (output_encoding e) on refl on-good.separator 0 (pair_calls items) (pairs-keep (pairs_in items))

-- and so is a part of one line more
took-ascii : {W : Type 0} {sink : Sink W} (e : Encoding) (items : List Entry) {old new : W} → Took sink (form e true) items old new → TakesAscii sink old new
took-ascii e items h = record {
  bytes = pair_lines (form e true) items ++ h.part;
  taken = h.taken;
  ascii = elim h.begins [
    | inl none ↦ rw (none, append-nil) (lines-ascii e items)
    | inr (key, value, b) ↦ wrote-on_line (output_encoding e) on refl on-good.separator 0 (pair_calls items) on _ (pair key value) h.part b.others
        (pairs-keep (pairs_in items)) refl on-good.separator b.whole
  ];
}

-- Whatever filtering returned.
pub filters_ascii : {R W : Type 0} (reader : Reader R) (sink : Sink W) (e : Encoding) (input input' : R) (output output' : W)
    (result : Result Unit PropertiesError) → Filters reader sink (form e true) input output result input' output'
    → FiltersToAscii reader sink e input output result input' output'
filters_ascii reader sink e input input' output output' (Ok done) h =
    let ps = pairs_in h.items in
    record {
      items = h.items;
      reads = h.reads;
      bytes = pair_lines (form e true) h.items;
      written = h.written;
      ascii = lines-ascii e h.items;
      in_both =
          subst (AreItemsInBoth (pair_lines (form e true) h.items)) (read_back-pairs on 0 ps (pairs-taken ps))
          (wrote-on_both (output_encoding e) on (pair_calls h.items) refl (pairs-keep ps) on-good (calls_of-clean on ps) (calls_of-scalars ps h.scalars));
    }
filters_ascii reader sink e input input' output output' (Err error) h = took-ascii e h.0 (took h.1.stops)
