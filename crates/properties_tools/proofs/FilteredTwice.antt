-- What filtering wrote is read back, and filtering it changes nothing.
use Rattle.std.proofs.Common.{◌≡◌, ◌++◌, ℕ, false, List, [], refl, ◌∙◌, inl, inr, subst, append-nil}
use Rattle.std.specs.Prelude.{◌⊎◌, Result, Ok, Err}
use Rattle.counted_io.specs.Streams.{Reader, Sink, HasWritten, HasFaulted, IsProperPrefix}
use Rattle.counted_io.proofs.Streams.{written-failed_flush}
use Rattle.properties_format.specs.{Encoding.Encoding, Encoding.output_encoding, Items.Entry, Items.IsItems, Lines.end, Computed.Items.items_of}
use Rattle.properties_format.specs.{Settings.default_settings, Writing.pairs_in, Writing.items_after, Writing.ArePairsOfScalars}
use Rattle.properties_format.proofs.{Items.Unique.items_of-meets, Items.Unique.items_of-only, ReadBack.Law.default_settings-good}
use Rattle.properties_format.proofs.{ReadBack.Law.output_encoding-own, ReadBack.Lists.items_of-pairs, ReadBack.Lists.pairs_in-items}
use Rattle.properties_items.specs.declared.error.PropertiesError.{PropertiesError}
use Rattle.java_properties.proofs.TextMaps.ReadBack.{pairs-accepted}
use Rattle.properties_tools.specs.Filter.{pair_lines, next_pair_line, StopsInReading, StopsInWriting, StopsInFlush, Filters, Settles, Form, form}

module _ (e : Encoding) (items : List Entry) where
  -- filtering the lines of pairs writes the same
  lines-same : pair_lines (form (output_encoding e) false) (items_after 0 (pairs_in items)) ≡ pair_lines (form e false) items
  lines-same = rw (output_encoding-own, pairs_in-items) refl

  module _ (scalars : ArePairsOfScalars (pairs_in items)) where
    -- the lines of pairs of scalar values are read back as these pairs
    lines-read : items_of (output_encoding e) (pair_lines (form e false) items) end ≡ items_after 0 (pairs_in items)
    lines-read = items_of-pairs (output_encoding e) default_settings (output_encoding-own e) default_settings-good
        (pairs_in items) (pairs-accepted (pairs_in items)) scalars

    lines-back : IsItems (output_encoding e) (pair_lines (form e false) items) end (items_after 0 (pairs_in items))
    lines-back = subst (IsItems (output_encoding e) (pair_lines (form e false) items) end) lines-read
        (items_of-meets (output_encoding e) (pair_lines (form e false) items) end)

    -- and as nothing else
    lines-only : (others : List Entry) → IsItems (output_encoding e) (pair_lines (form e false) items) end others → others ≡ items_after 0 (pairs_in items)
    lines-only others is = items_of-only (output_encoding e) (pair_lines (form e false) items) end others is ∙ lines-read

-- ---- what the sink took

-- the lines of the pairs, and then at most a part of one line more
pub record Took {W : Type 0} (sink : Sink W) (r : Form) (items : List Entry) (old new : W) : Type 0 where
  pub part : List ℕ
  pub begins : (part ≡ []) ⊎ ((key : List ℕ) × (value : List ℕ) × IsProperPrefix part (next_pair_line r items key value))
  pub taken : HasWritten sink old (pair_lines r items ++ part) new ⊎ HasFaulted sink old (pair_lines r items ++ part) new

module _ {W : Type 0} {sink : Sink W} {r : Form} {items : List Entry} {old new : W} where
  -- no more than the lines
  whole : HasWritten sink old (pair_lines r items) new ⊎ HasFaulted sink old (pair_lines r items) new → Took sink r items old new
  whole h = record { part = []; begins = inl refl; taken = rw append-nil h }

  -- however filtering stopped
  pub took : {R : Type 0} {reader : Reader R} {input input' : R} {error : PropertiesError}
      → StopsInReading reader sink r input old items error input' new
      ⊎ (StopsInWriting reader sink r input old items error input' new ⊎ StopsInFlush reader sink r input old items error input' new)
      → Took sink r items old new
  took (inl h) = elim h.written [ inl k ↦ whole (inl k.0) | inr k ↦ whole (inr (written-failed_flush k.1 k.2.1)) ]
  took (inr (inl h)) = elim h.fails [
    | inl k ↦ record { part = k.part; begins = inr (h.key, h.value, k.begins); taken = inr k.faulted }
    | inr k ↦ whole (inl k.written)
  ]
  took (inr (inr h)) = whole (inr (written-failed_flush h.fails.written h.fails.flushed))

-- What filtering says of its output.
pub filters_settles : {R W : Type 0} (reader : Reader R) (sink : Sink W) (e : Encoding) (input input' : R) (output output' : W)
    (result : Result Unit PropertiesError) → Filters reader sink (form e false) input output result input' output'
    → Settles reader sink e input output result input' output'
filters_settles reader sink e input input' output output' (Ok done) h = record {
  items = h.items;
  reads = h.reads;
  bytes = pair_lines (form e false) h.items;
  written = h.written;
  back = lines-back e h.items h.scalars;
  only = lines-only e h.items h.scalars;
  same = lines-same e h.items;
}
filters_settles reader sink e input input' output output' (Err error) h = record {
  items = h.0;
  stops = h.1;
  takes = let t = took h.1.stops in record { part = t.part; begins = t.begins; taken = t.taken };
  back = lines-back e h.0 h.1.scalars;
  only = lines-only e h.0 h.1.scalars;
  same = lines-same e h.0;
}
