-- What was done to streams that were lent was done to the streams themselves.
use Rattle.std.proofs.Common.{◌≡◌, ◌∷◌, inl, inr, rules}
use Rattle.std.specs.{Borrow.MutBor, declared.io.Error.Error}
use Rattle.std.specs.Prelude.{Bool, Option, Some, None, Result, Ok, Err}
use Rattle.counted_io.specs.Streams.{Reader, Sink, CameFromWrite}
use Rattle.properties_format.specs.Encoding.{Encoding}
use Rattle.properties_items.specs.declared.error.PropertiesError.{PropertiesError}
use Rattle.properties_tools.specs.Filter.{Filters, Form, form}

-- what is known of a lent reader, and of a lent sink
abbrev pub borrowed_reader : {R : Type 0} → Reader R → Reader (MutBor R)
borrowed_reader reader = record {
  remaining = λ r. reader.remaining r.now;
  faults = λ r. reader.faults r.now;
  at_end = λ r. reader.at_end r.now;
  identity = λ r. r.ghost_name ∷ reader.identity r.now;
  read_gives = λ old result new. reader.read_gives old.now result new.now;
}

abbrev pub borrowed_sink : {W : Type 0} → Sink W → Sink (MutBor W)
borrowed_sink sink = record {
  contents = λ w. sink.contents w.now;
  faults = λ w. sink.faults w.now;
  is_flushed = λ w. sink.is_flushed w.now;
  identity = λ w. w.ghost_name ∷ sink.identity w.now;
  write_gives = λ old bytes result new. sink.write_gives old.now bytes result new.now;
  flush_gives = λ old result new. sink.flush_gives old.now result new.now;
}

module _ {R W : Type 0} (reader : Reader R) (sink : Sink W) (r : Form) (input : MutBor R) (output : MutBor W) (input' : MutBor R)
    (output' : MutBor W) where
  came : (cause : Option Error) → CameFromWrite (borrowed_sink sink) cause output' → CameFromWrite sink cause output'.now
  came None h = (h.0.now, h.1, h.2, h.3)
  came (Some error) h = (h.0.now, h.1, h.2)

  -- What filtering did to streams that were lent it did to the streams themselves: each fact is the same fact of them.
  pub filters-borrowed : (result : Result Unit PropertiesError) → Filters (borrowed_reader reader) (borrowed_sink sink) r input output result input' output'
      → Filters reader sink r input.now output.now result input'.now output'.now
  filters-borrowed (Ok done) h = search rules
  filters-borrowed (Err error) (items, h) = (
    items,
    record {
      scalars = h.scalars;
      stops = elim h.stops [
        | inl k ↦ inl (record {
          whole = k.whole;
          stops = elim k.stops [
            | inl m ↦ inl (search rules)
            | inr (inl f) ↦ inr (inl (search rules))
            | inr (inr f) ↦ inr (inr (search rules))
          ];
          written = elim k.written [ inl t ↦ inl (search rules) | inr t ↦ inr (search rules) ];
        })
        | inr (inl k) ↦ inr (inl (record {
          number = k.number;
          key = k.key;
          value = k.value;
          whole = k.whole;
          bytes = k.bytes;
          read = search rules;
          begins = k.begins;
          fails = elim k.fails [
            | inl f ↦ inl (record { part = f.part; begins = f.begins; faulted = search rules; cause = f.cause; given = came f.cause f.given; is = f.is })
            | inr f ↦ inr (search rules)
          ];
        }))
        | inr (inr k) ↦ inr (inr (search rules))
      ];
    },
  )

-- equals stand for equals
pub filters-same : {R W : Type 0} (reader : Reader R) (sink : Sink W) (result : Result Unit PropertiesError) (e e' : Encoding)
    (only only' : Bool) (input input' new new' : R) (output output' to to' : W)
    → Filters reader sink (form e only) input output result new to → e ≡ e' → only ≡ only' → input ≡ input' → output ≡ output' → new ≡ new' → to ≡ to'
    → Filters reader sink (form e' only') input' output' result new' to'
filters-same reader sink result e e' only only' input input' new new' output output' to to' h a m b c d f = rw (← a, ← m, ← b, ← c, ← d, ← f) h
