-- How items come of logical lines.
use Rattle.std.proofs.Common.{◌≡◌, ℕ, true, false, List, [], ◌∷◌, ◌++◌, refl, sym, ap, ap₂, subst, ◌∙◌, inl, inr, append_assoc, append-nil}
use Rattle.std.specs.Prelude.{◌⊎◌, Some, None, Result, Ok, Err}
use Rattle.std.specs.Str.{chars, IsUtf8, is_utf8}
use Rattle.std.proofs.lemmas.Str.{IsUtf8-nil, IsUtf8-from_is_utf8, is_utf8-from_IsUtf8, chars-nil}
use Rattle.properties_format.specs.Split.{IsSplit}
use Rattle.properties_text.specs.Parsing.{in_characters, spanned}
use Rattle.std.proofs.lemmas.Bool.{cases_Bool}
use Rattle.properties_format.specs.Items.{Content, item, Outcome, ignored, given, broken}
use Rattle.properties_format.specs.Computed.Items.{outcome_of, followed}
use Rattle.counted_io.specs.Streams.{Reader, HasRead, has_ended}
use Rattle.counted_io.proofs.Streams.{read-none, read-more, failed-more}
use Rattle.properties_format.specs.Lines.{Line, InputEnd, end, fault, more}
use Rattle.properties_format.specs.ItemsToCome.{ReaderState, IsItemsToCome, PassesSome, IsLazyItems}
use Rattle.properties_format.specs.Computed.ItemsToCome.{items_to_come}
use Rattle.properties_format.proofs.ItemsToCome.Unique.{items_to_come-done}
use Rattle.properties_format.proofs.ItemsToCome.Lines.{natural-done}
use Rattle.properties_format.proofs.ItemsToCome.Divisions.{are_to_come, to_come_are, comes_first, lines_come_first, first_lines_come, natural_to_come-meets}
use Rattle.properties_items.specs.Errors.{IsBareError, IsLineError}
use Rattle.properties_items.specs.BorrowedItems.{found_entry, spans_of, IsFoundIn, IsNoItem}
use Rattle.properties_items.specs.declared.found.FoundContent.{FoundContent}
use Rattle.properties_items.specs.declared.found.FoundContent.TheVariants as found
use Rattle.properties_lines.specs.LineReader.{Passes}
use Rattle.properties_lines.proofs.LineJoiner.{some-start, some-on, all-on, passes-on}
use Rattle.properties_lines.specs.LineJoiner.{Joins, JoinsError, JoinsLine, Comes, LineState, LineJoining}
use Rattle.properties_lines.specs.declared.error.LineError.{LineError}
use Rattle.java_properties.specs.PropertiesIter.{ComeNext, IsSpelt, GivesItem, Gives, BreaksOff, GivesEntry, GivesNone, GivesError}
use Rattle.java_properties.specs.Private.GivenItems.{as_text, in_utf_8, Owns}
use Rattle.properties_items.specs.declared.error.ErrorKind.TheVariants.{Memory}
use Rattle.properties_items.specs.declared.found.Found.{Found}
use Rattle.properties_items.specs.declared.error.PropertiesError.{PropertiesError}
use Rattle.properties_items.specs.declared.line.Line as line

-- ---- the line that was read last

-- a line in UTF-8 is kept
pub kept-utf8 : (bytes : List ℕ) → IsUtf8 bytes → in_utf_8 bytes ≡ bytes
unfolding in_utf_8
kept-utf8 bytes u = rw (is_utf8-from_IsUtf8 bytes u) refl

pub ruleset keeping = (kept-utf8, IsUtf8-nil)

-- Nothing comes after something in an empty text.
none-last : (xs ys : List ℕ) → [] ≡ xs ++ ys → ys ≡ []
none-last [] ys h = sym h
none-last (x ∷ xs) ys h = absurd (cc)

-- An empty line has no item.
none-in-nil : (content : FoundContent) → IsSplit (chars []) (in_characters (spanned [] (Some (spans_of content)))) → ⊥
none-in-nil (found.Comment text) h = let last = none-last h.indent (h.sign ∷ h.rest) (sym chars-nil ∙ h.whole) in absurd (cc)
none-in-nil (found.KVPair key value) h = h.not_empty (none-last h.indent _ (sym chars-nil ∙ h.whole))

-- Where an item was found, the line is in UTF-8,
pub is-text : (lines seen : LineState) (found : Found) → as_text lines ≡ seen → IsFoundIn seen.line found → IsUtf8 lines.line
unfolding in_utf_8
is-text lines seen found same h =
    let P : LineState → Type 0 = λ v. IsFoundIn v.line found in
    let here : IsFoundIn (in_utf_8 lines.line) found = subst P (sym same) h in
    elim (cases_Bool (is_utf8 lines.line)) [
      | inl k ↦ IsUtf8-from_is_utf8 lines.line k
      | inr k ↦ let none : IsFoundIn [] found = rw k at here in absurd (none-in-nil found.content none.slices)
    ]

-- and it is the line that the reader shows.
pub shown : (lines seen : LineState) (found : Found) → as_text lines ≡ seen → IsFoundIn seen.line found → lines.line ≡ seen.line
shown lines seen found same h =
    sym (kept-utf8 lines.line (is-text lines seen found same h)) ∙ ap (λ v. let w : LineState = v in w.line) same

pub ruleset shown_lines = (is-text, shown)

-- ---- the lines that were passed

come-next : {old new : ReaderState} {bytes : List ℕ} {lines : List Line} → Passes old bytes lines new → ComeNext old bytes lines new
come-next (Passes.going_on g h) = ComeNext.going_on g (lines_come_first h)
come-next {old} {new} {bytes} {lines} (Passes.at_last d h) =
    let none = natural-done new [] end d in
    let all = h.natural ∙ ap (λ v. lines ++ v) none.0 ∙ append-nil lines in
    ComeNext.at_last d (rw (all, h.last ∙ none.1) at (natural_to_come-meets old bytes end))

-- ---- item after item

-- Only blank lines came so far, after these bytes.
pub record Passed {R : Type 0} (reader : Reader R) (old : ReaderState) (from : R) (bytes : List ℕ) (new : ReaderState) (to : R) : Type 0 where
  pub read : HasRead reader from bytes to
  pub live : old.is_done ≡ true → (new ≡ old) × (to ≡ from) × (bytes ≡ [])
  pub items : (new.is_done ≡ false) × ((d : List ℕ) (ending : InputEnd) → items_to_come old (bytes ++ d) ending ≡ items_to_come new d ending)
      ⊎ (new.is_done ≡ true) × (items_to_come old bytes end ≡ []) × ((old.is_done ≡ true) ⊎ (has_ended reader to ≡ true))
  pub passes : new.is_done ≡ false → PassesSome old bytes new
  pub lazy : IsLazyItems old from bytes to

module _ {R : Type 0} {reader : Reader R} where
  pub passed-start : (s : ReaderState) (from : R) → Passed reader s from [] s from
  passed-start s from = record {
    read = read-none from;
    live = λ h. (refl, refl, refl);
    items = elim (cases_Bool s.is_done) [ inl h ↦ inr (h, items_to_come-done s [] end h, inl h) | inr h ↦ inl (h, λ d ending. refl) ];
    passes = λ g. some-start s;
    lazy = inl (refl, refl);
  }

  passed-live : {s t : ReaderState} {from to : R} {r : List ℕ} → Passed reader s from r t to → t.is_done ≡ false → s.is_done ≡ false
  passed-live {s} h g = elim (cases_Bool s.is_done) [
    | inl e ↦ let k = ap (λ v. let w : ReaderState = v in w.is_done) (h.live e).0 in absurd (cc)
    | inr e ↦ e
  ]

  -- the items of what was read, where there are more
  passed-on : {s t : ReaderState} {from to : R} {r : List ℕ} → Passed reader s from r t to → t.is_done ≡ false
      → (d : List ℕ) (ending : InputEnd) → items_to_come s (r ++ d) ending ≡ items_to_come t d ending
  passed-on h g = elim h.items [ inl k ↦ k.1 | inr k ↦ let d = k.0 in absurd (cc) ]

  -- the items to come where no more than the held bytes come
  passed-more : {s t : ReaderState} {from to : R} {r : List ℕ} → Passed reader s from r t to → t.is_done ≡ false → r ≡ []
      → IsItemsToCome t [] more [] → IsItemsToCome s [] more []
  passed-more {s} h g e none = are_to_come (ap (λ v. items_to_come s (v ++ []) more) (sym e) ∙ passed-on h g [] more ∙ to_come_are none)

  passed-lazy : {s t : ReaderState} {from to next : R} {r q : List ℕ} → Passed reader s from r t to → t.is_done ≡ false
      → IsLazyItems t to q next → IsLazyItems s from (r ++ q) next
  passed-lazy h g (inl k) = elim h.lazy [ inl e ↦ inl (k.0 ∙ e.0, ap₂ (λ v w. v ++ w) e.1 k.1) | inr e ↦ inr e ]
  passed-lazy h g (inr k) = elim h.lazy [ inl e ↦ inr (passed-more h g e.1 k) | inr e ↦ inr e ]

  -- the items of one line more
  passed-after : {s t : ReaderState} {from to next : R} {r : List ℕ} (line : Line) (new : ReaderState) (o : Outcome) → Passed reader s from r t to
      → (n : JoinsLine reader t to line new next) → outcome_of line.text ≡ o
      → (new.is_done ≡ false)
      × ((d : List ℕ) (ending : InputEnd) → items_to_come s ((r ++ n.bytes) ++ d) ending ≡ followed line.number o (items_to_come new d ending))
      ⊎ (new.is_done ≡ true) × (items_to_come s (r ++ n.bytes) end ≡ followed line.number o [])
  passed-after {r = r} line new o h n is = elim n.comes [
    | Comes.going_on k logical ↦ inl (
      k,
      λ d ending.
          rw (append_assoc r n.bytes d, ← is) (passed-on h n.live (n.bytes ++ d) ending ∙ logical.items d ending),
    )
    | Comes.at_last k items ↦ inr (k, rw (← is) (passed-on h n.live n.bytes end ∙ items))
  ]

  -- an item came, in a line that is spelt as in the input
  pub gives-spelt : {s t : ReaderState} {from to next : R} {r : List ℕ} (line : Line) (new : ReaderState) (content : Content) → Passed reader s from r t to
      → JoinsLine reader t to line new next → outcome_of line.text ≡ given content
      → (entry : GivesEntry reader s from (item line.number content) new next) × IsSpelt s entry.bytes line new
  gives-spelt {s} {t} {r = r} line new content h n o = (
    record {
      bytes = r ++ n.bytes;
      read = read-more h.read n.read;
      live = passed-live h n.live;
      gives = elim (passed-after line new (given content) h n o) [
        | inl k ↦ Gives.going_on k.0 (comes_first (record { items = k.1 }))
        | inr k ↦ Gives.at_last k.0 (are_to_come k.1)
      ];
      passes = λ g. some-on (h.passes n.live) (n.passes g);
      ended = n.ended;
      lazy = passed-lazy h n.live n.lazy;
    },
    record {
      before = (h.passes n.live).lines;
      first = n.group.first;
      others = n.group.others;
      come = come-next (passes-on (Passes.going_on n.live (first_lines_come (h.passes n.live).first)) n.live n.group.passes);
      number = n.group.number;
      text = n.group.text;
      ends = n.group.ends;
    },
  )

  -- a blank line came
  pub passed-blank : {s t : ReaderState} {from to next : R} {r : List ℕ} (line : Line) (new : ReaderState) → Passed reader s from r t to
      → (n : JoinsLine reader t to line new next) → outcome_of line.text ≡ ignored → Passed reader s from (r ++ n.bytes) new next
  passed-blank {s} {t} {next = next} {r = r} line new h n o = record {
    read = read-more h.read n.read;
    live = λ e. let l = passed-live h n.live in absurd (cc);
    items = elim (passed-after line new ignored h n o) [ inl k ↦ inl k | inr k ↦ inr (k.0, k.1, inr (n.ended k.0)) ];
    passes = λ g. some-on (h.passes n.live) (n.passes g);
    lazy = passed-lazy h n.live n.lazy;
  }

  -- there was no memory
  no-room : {s : ReaderState} {from to : R} {e : PropertiesError} (bytes : List ℕ) → HasRead reader from bytes to
      → IsLazyItems s from bytes to → IsBareError Memory e → GivesError reader s from e to
  no-room bytes h lazy is = inr (inr (inr (record { bytes = bytes; read = h; is = is; lazy = lazy })))

  -- a line could not be read
  pub passed-error : {s t : ReaderState} {from to next : R} {r : List ℕ} {why : LineError} {last : ReaderState} {e : PropertiesError}
      → Passed reader s from r t to → t.is_done ≡ false → JoinsError reader t to why last next → IsLineError why e
      → (s.is_done ≡ false) × GivesError reader s from e next
  passed-error {s} {t} {from} {to} {next} {r} {why} {last} {e} h g joins is = (passed-live h g, by joins)
    where
      says : {other : LineError} → why ≡ other → IsLineError other e
      says same = subst (λ v. IsLineError v e) same is

      by : JoinsError reader t to why last next → GivesError reader s from e next
      by (inl f) = inr (inl (record {
        bytes = r ++ f.bytes;
        error = f.error;
        number = f.number;
        failed = failed-more h.read f.failed;
        is = says f.is;
        items = are_to_come (passed-on h g f.bytes fault ∙ f.items);
        lazy = elim h.lazy [ inl e ↦ passed-more h g e.1 (are_to_come f.lazy) | inr e ↦ e ];
      }))
      by (inr (inl f)) = inr (inr (inl (record {
        bytes = r ++ f.bytes;
        read = read-more h.read f.read;
        passes = all-on (h.passes g) f.passes;
        is = says f.is;
        lazy = passed-lazy h g f.lazy;
      })))
      by (inr (inr f)) = no-room (r ++ f.bytes) (read-more h.read f.read) (passed-lazy h g f.lazy) (says f.is)

  -- a line gave no item
  pub passed-no_item : {s t : ReaderState} {from to next : R} {r : List ℕ} {e : PropertiesError} (line : Line) (new : ReaderState)
      → Passed reader s from r t to → JoinsLine reader t to line new next → IsNoItem line.number line.text e
      → (s.is_done ≡ false) × GivesError reader s from e next
  passed-no_item {r = r} line new h n (inr is) = (passed-live h n.live, no-room (r ++ n.bytes) (read-more h.read n.read) (passed-lazy h n.live n.lazy) is)
  passed-no_item {s} {t} {next = next} {r = r} line new h n (inl (kind, o, is)) = (
    passed-live h n.live,
    inl (record {
      bytes = r ++ n.bytes;
      number = line.number;
      kind = kind;
      read = read-more h.read n.read;
      is = is;
      breaks = elim (passed-after line new (broken kind) h n o) [
        | inl k ↦ BreaksOff.before_all (λ d ending. are_to_come (k.1 d ending))
        | inr k ↦ BreaksOff.at_last (n.ended k.0) (are_to_come k.1)
      ];
      lazy = passed-lazy h n.live n.lazy;
    }),
  )

  -- no line came
  pub passed-none : {s t u : ReaderState} {from to next : R} {r : List ℕ} → Passed reader s from r t to → t.is_done ≡ true → u ≡ t → next ≡ to
      → GivesNone reader s from u next
  passed-none {s} {t} {from = from} {to} {r = r} h d same kept = rw (same, kept) (elim h.items [
    | inl k ↦ let g = k.0 in absurd (cc)
    | inr k ↦ record {
      bytes = r;
      read = h.read;
      items = are_to_come k.1;
      done = d;
      idle = λ e. h.live e;
      ended = λ f. elim k.2 [ inl e ↦ absurd (cc) | inr e ↦ e ];
    }
  ])

  -- an item came, and is owned now, or there was no memory for that
  pub gives-owned : {s : ReaderState} {from to : R} (found : Found) (old new : LineState) (answer : Result line.Line PropertiesError)
      → GivesEntry reader s from (found_entry old.line found) old.state to → Owns old found answer new
      → GivesItem reader s from (Some answer) new.state to
  gives-owned found old new (Ok line) n k = rw (k.0, k.1) n
  gives-owned found old new (Err e) n k = (n.live, ap (λ v. let w : LineState = v in w.state.is_done) k.1, no-room n.bytes n.read n.lazy k.0)

-- ---- no line came

module _ {R : Type 0} {reader : Reader R} {old new : LineJoining} {from to : R} where
  -- an error is kept, which stopped the reading
  pub stopped : {error : LineError} → Joins reader old from None new to → old.error ≡ None → new.error ≡ Some error
      → (old.at.state.is_done ≡ false) × (new.at.state.is_done ≡ true) × JoinsError reader old.at.state from error new.at.state to
  stopped (inl k) none kept = let quiet = ap (λ (l : LineJoining). l.error) k.1 ∙ none in absurd (cc)
  stopped {error} (inr k) none kept =
      let same : k.error ≡ error = let failed = k.kept in cc in
      (k.live, k.done, subst (λ v. JoinsError reader old.at.state from v new.at.state to) same k.why)

  -- no error is kept, since the reading had ended before
  pub ended : Joins reader old from None new to → new.error ≡ None → (old.at.state.is_done ≡ true) × (new ≡ old) × (to ≡ from)
  ended (inl k) quiet = k
  ended (inr k) quiet = let failed = k.kept in absurd (cc)
