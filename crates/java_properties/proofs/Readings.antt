-- How a whole input is read, item after item.
use Rattle.std.proofs.Common.{◌≡◌, ℕ, Bool, true, false, List, [], ◌∷◌, ◌++◌, refl, sym, ap, ◌∙◌, inl, inr, subst, append_assoc, append-nil}
use Rattle.std.proofs.lemmas.List.{map-append}
use Rattle.counted_io.specs.Streams.{Reader, HasRead, has_ended}
use Rattle.counted_io.proofs.Streams.{read-none, read-more, failed-more}
use Rattle.properties_format.specs.Encoding.{Encoding}
use Rattle.properties_format.specs.Lines.{InputEnd, end, fault}
use Rattle.properties_format.specs.Items.{Entry}
use Rattle.properties_format.specs.Computed.Items.{items_of}
use Rattle.properties_format.specs.ItemsToCome.{ReaderState, start, PassesSome}
use Rattle.properties_format.specs.Computed.ItemsToCome.{items_to_come}
use Rattle.properties_format.proofs.Items.Unique.{items_of-meets, items_of-only}
use Rattle.properties_format.proofs.Items.Numbers.{items_of-ascend}
use Rattle.properties_format.proofs.Cut.Byline.{byline-is_lines, lines-is_byline}
use Rattle.properties_format.proofs.Laws.{one-reading}
use Rattle.properties_format.proofs.ItemsToCome.Divisions.{to_come_are, first_comes}
use Rattle.properties_format.proofs.ItemsToCome.Unique.{items_to_come-start}
use Rattle.properties_items.specs.Errors.{IsBareError}
use Rattle.properties_lines.proofs.LineJoiner.{some-start, some-on, all-on}
use Rattle.java_properties.specs.PropertiesIter.{entry_of, Gives, BreaksOff, GivesEntry, GivesNone, GivesError}
use Rattle.java_properties.specs.ReadLines.{entries_in, IsReading, BeginsWith, ReadsWhole, ReadsUpTo, StopsEarly}
use Rattle.properties_items.specs.declared.error.ErrorKind.TheVariants as kind
use Rattle.properties_items.specs.declared.error.PropertiesError.{PropertiesError}
use Rattle.properties_items.specs.declared.line.Line.{Line}

-- the items that are computed are a reading
pub reading-of : (e : Encoding) (bytes : List ℕ) (ending : InputEnd) (entries : List Entry) → items_of e bytes ending ≡ entries
    → IsReading e bytes ending entries
reading-of e bytes ending entries h =
    let P : List Entry → Type 0 = IsReading e bytes ending in
    subst P h (record {
      items = items_of-meets e bytes ending;
      only = items_of-only e bytes ending;
      ascend = items_of-ascend e bytes ending;
      one = one-reading e bytes ending;
      splitting = λ text lines d. (λ k. byline-is_lines e bytes text lines k d, λ k. lines-is_byline e bytes text lines k d);
    })

-- After the bytes that were read these items came; and others still come, or the input ended.
pub data Comes (e : Encoding) (bytes : List ℕ) (entries : List Entry) (at_end : Bool) (new : ReaderState) : Type 0 where
  going_on : new.is_done ≡ false → ((d : List ℕ) (ending : InputEnd) → items_of e (bytes ++ d) ending ≡ entries ++ items_to_come new d ending)
      → Comes e bytes entries at_end new
  at_last : new.is_done ≡ true → at_end ≡ true → items_of e bytes end ≡ entries → Comes e bytes entries at_end new

pub record Collected {R : Type 0} (reader : Reader R) (e : Encoding) (from : R) (bytes : List ℕ) (entries : List Entry) (new : ReaderState)
    (to : R) : Type 0 where
  pub read : HasRead reader from bytes to
  pub comes : Comes e bytes entries (has_ended reader to) new
  pub passes : new.is_done ≡ false → PassesSome (start e) bytes new

pub live-on : {e : Encoding} {r : List ℕ} {entries : List Entry} {s : ReaderState} {at_end : Bool} → Comes e r entries at_end s → s.is_done ≡ false
    → (d : List ℕ) (ending : InputEnd) → items_of e (r ++ d) ending ≡ entries ++ items_to_come s d ending
live-on (Comes.going_on g m) h = m
live-on (Comes.at_last d k m) h = absurd (cc)

module _ {R : Type 0} {reader : Reader R} where
  -- what comes after more bytes
  live-after : {e : Encoding} {from to : R} {r : List ℕ} {entries : List Entry} {s : ReaderState}
      → Collected reader e from r entries s to → s.is_done ≡ false → (q d : List ℕ) (ending : InputEnd)
      → items_of e ((r ++ q) ++ d) ending ≡ entries ++ items_to_come s (q ++ d) ending
  live-after {r = r} h g q d ending = rw (append_assoc r q d) (live-on h.comes g (q ++ d) ending)

  pub collected-start : (e : Encoding) (from : R) → Collected reader e from [] [] (start e) from
  collected-start e from = record {
    read = read-none from;
    comes = Comes.going_on refl (λ d ending. sym (items_to_come-start e d ending));
    passes = λ g. some-start (start e);
  }

  -- an item came
  pub collected-next : {e : Encoding} {from to next : R} {r : List ℕ} {entries : List Entry} {s t : ReaderState} {entry : Entry}
      → Collected reader e from r entries s to → (n : GivesEntry reader s to entry t next)
      → Collected reader e from (r ++ n.bytes) (entries ++ entry ∷ []) t next
  collected-next {e} {to = to} {next = next} {r = r} {entries} {s} {t} {entry} h n = record {
    read = read-more h.read n.read;
    comes = elim n.gives [
      | Gives.going_on k first ↦ Comes.going_on k (λ d ending.
          live-after h n.live n.bytes d ending
          ∙ ap (λ v. entries ++ v) ((first_comes first).items d ending)
          ∙ sym (append_assoc entries (entry ∷ []) (items_to_come t d ending)))
      | Gives.at_last k items ↦ Comes.at_last k (n.ended k) (live-on h.comes n.live n.bytes end ∙ ap (λ v. entries ++ v) (to_come_are items))
    ];
    passes = λ g. some-on (h.passes n.live) (n.passes g);
  }

  -- no more came
  pub collected-none : {e : Encoding} {from to next : R} {r : List ℕ} {entries : List Entry} {s t : ReaderState} → Collected reader e from r entries s to
      → GivesNone reader s to t next → ReadsWhole reader e from entries next
  collected-none {e} {from} {to} {next} {r} {entries} {s} h n = by-comes h.comes
    where
      by-comes : Comes e r entries (has_ended reader to) s → ReadsWhole reader e from entries next
      by-comes (Comes.going_on g m) = record {
        bytes = r ++ n.bytes;
        read = read-more h.read n.read;
        ended = n.ended g;
        reading = reading-of e (r ++ n.bytes) end entries (m n.bytes end ∙ ap (λ v. entries ++ v) (to_come_are n.items) ∙ append-nil entries);
      }
      by-comes (Comes.at_last d k m) =
          let i = n.idle d in
          let P : R → Type 0 = λ v. ReadsWhole reader e from entries v in
          subst P (sym i.1) (record { bytes = r; read = h.read; ended = k; reading = reading-of e r end entries m })

  -- what came before a line that was not read
  early : {e : Encoding} {from to : R} {r : List ℕ} {entries : List Entry} {s : ReaderState} → Collected reader e from r entries s to
      → s.is_done ≡ false → (q : List ℕ) {at_end : Bool} → BeginsWith (IsReading e) (r ++ q) entries at_end
  early {e} {s = s} h g q = inl (λ d ending. (items_to_come s (q ++ d) ending, reading-of e _ ending _ (live-after h g q d ending)))

  -- the items begin with those before a line that could not be kept
  pub collected-lost : {e : Encoding} {from to next : R} {r : List ℕ} {entries : List Entry} {s t : ReaderState} {entry : Entry} {error : PropertiesError}
      → Collected reader e from r entries s to → GivesEntry reader s to entry t next → IsBareError kind.Memory error
      → StopsEarly reader e from entries error next
  collected-lost {r = r} h n is = record { bytes = r ++ n.bytes; read = read-more h.read n.read; is = inr is; begins = early h n.live n.bytes }

  -- an error came
  pub collected-error : {e : Encoding} {from to next : R} {r : List ℕ} {entries : List Entry} {s : ReaderState} {error : PropertiesError}
      → Collected reader e from r entries s to → s.is_done ≡ false → GivesError reader s to error next → ReadsUpTo reader e from entries error next
  collected-error {e} {r = r} {entries} h g (inl n) = inl (record {
    bytes = r ++ n.bytes;
    number = n.number;
    how = n.kind;
    read = read-more h.read n.read;
    is = n.is;
    reading = elim n.breaks [
      | BreaksOff.before_all m ↦ inl (λ d ending.
          reading-of e _ ending _ (live-after h g n.bytes d ending ∙ ap (λ v. entries ++ v) (to_come_are (m d ending))))
      | BreaksOff.at_last k m ↦ inr (k, reading-of e _ end _ (live-on h.comes g n.bytes end ∙ ap (λ v. entries ++ v) (to_come_are m)))
    ];
  })
  collected-error {e} {r = r} {entries} h g (inr (inl f)) = inr (inl (record {
    bytes = r ++ f.bytes;
    cause = f.error;
    number = f.number;
    failed = failed-more h.read f.failed;
    is = f.is;
    reading = reading-of e (r ++ f.bytes) fault _ (live-on h.comes g f.bytes fault ∙ ap (λ v. entries ++ v) (to_come_are f.items));
  }))
  collected-error {r = r} h g (inr (inr (inl f))) = inr (inr (record {
    bytes = r ++ f.bytes;
    read = read-more h.read f.read;
    is = inl (f.is, all-on (h.passes g) f.passes);
    begins = early h g f.bytes;
  }))
  collected-error {r = r} h g (inr (inr (inr f))) =
      inr (inr (record { bytes = r ++ f.bytes; read = read-more h.read f.read; is = inr f.is; begins = early h g f.bytes }))

pub entries-more : (lines : List Line) (line : Line) → entries_in lines ++ (entry_of line ∷ []) ≡ entries_in (lines ++ (line ∷ []))
entries-more lines line = sym (map-append entry_of lines (line ∷ []))

-- ---- items that are dropped

-- Some items came.
pub record HasDropped {R : Type 0} (reader : Reader R) (e : Encoding) (from : R) (state : ReaderState) (to : R) : Type 0 where
  pub lines : List Line
  pub bytes : List ℕ
  pub collected : Collected reader e from bytes (entries_in lines) state to

module _ {R : Type 0} {reader : Reader R} {e : Encoding} where
  unfoldable pub dropped-none : (from : R) (s : ReaderState) → s ≡ start e → HasDropped reader e from s from
  dropped-none from s is = record { lines = []; bytes = []; collected = subst (λ v. Collected reader e from [] [] v from) (sym is) (collected-start e from) }

  unfoldable pub dropped-more : {from to next : R} {s t : ReaderState} (line : Line) → HasDropped reader e from s to
      → GivesEntry reader s to (entry_of line) t next → HasDropped reader e from t next
  dropped-more {from = from} {next = next} {t = t} line h g = record {
    lines = h.lines ++ (line ∷ []);
    bytes = h.bytes ++ g.bytes;
    collected = subst (λ v. Collected reader e from (h.bytes ++ g.bytes) v t next) (entries-more h.lines line) (collected-next h.collected g);
  }

pub ruleset dropping = (dropped-none, dropped-more)
