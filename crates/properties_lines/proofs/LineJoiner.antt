-- How natural lines are joined, step by step.
use Rattle.std.proofs.Common.{◌≡◌, ◌+◌, ℕ, Bool, true, false, List, [], ◌∷◌, ◌++◌, refl, sym, ap, ap₂, ◌∙◌, inl, inr, subst, append_assoc, append-nil, rules}
use Rattle.std.specs.Prelude.{◌⊎◌, ◌&&◌, not, Option, Some, None, is_some}
use Rattle.std.specs.Str.{IsAscii}
use Rattle.std.proofs.lemmas.Bool.{cases_Bool, and_parts}
use Rattle.counted_io.specs.Streams.{Reader}
use Rattle.counted_io.proofs.Streams.{read-none, read-more, failed-more}
use Rattle.properties_format.specs.Encoding.{output_encoding}
use Rattle.properties_format.specs.Lines as format
use Rattle.properties_format.specs.Lines.{InputEnd, end, fault, more, is_open, is_comment_line, addition, without_open_backslash, joined, joined_after, AreOpen, EndsClosed, IsWhole, IsUnfinished}
use Rattle.properties_format.specs.Items.{Entry, read_fault}
use Rattle.properties_format.specs.ItemsToCome.{ReaderState, PassesSome, PassesAll, IsLazyItems}
use Rattle.properties_format.specs.Computed.Items.{outcome_of, followed}
use Rattle.properties_format.specs.Computed.ItemsToCome.{items_to_come, natural_to_come, last_to_come, entries_pending, entries_of_logical, logical_pending, Gives, ReadsLines}
use Rattle.properties_format.specs.Computed.Lines.{logical, logical_lines, joins_after}
use Rattle.properties_format.proofs.Groups.Joined.{joined-comment_line, joined-closed, joined-unmarked, joined_after-append}
use Rattle.properties_format.proofs.Groups.Logical.{joins_after-open}
use Rattle.properties_format.proofs.Groups.Only.{groups_of-before, groups_of-unfinished}
use Rattle.properties_format.proofs.ItemsToCome.Divisions.{are_to_come, lines_come_first, first_lines_come}
use Rattle.properties_format.proofs.ItemsToCome.Entries.{gives-on, pending-done, items_to_come-pending}
use Rattle.properties_format.proofs.ItemsToCome.Lines.{natural-done}
use Rattle.properties_format.proofs.ItemsToCome.Steps.{lines-start, lines-on, on-start, on-open}
use Rattle.properties_text.specs.Escaping.{holds_backslash, text_in, IsWell}
use Rattle.properties_lines.specs.LineReader.{LineReading, Finds, FindsNext, Passes, IsLazy, HasRightLineFlags, FindsError, found_line}
use Rattle.properties_text.specs.Encoding.{line_of}
use Rattle.properties_text.specs.declared.encoding.line_encoding.LineEncoding.{LineEncoding}
use Rattle.properties_lines.specs.LogicalLine.{placed_bytes, bytes_with, is_natural, IsLineIn, HasText, IsTextOf, IsNotContinued, OpensJoin, unfinished_text}
use Rattle.properties_lines.specs.declared.logical.Place.{Place}
use Rattle.properties_lines.specs.declared.logical.Place.TheVariants.{Natural, Decoded, Joined}
use Rattle.properties_lines.specs.LineJoiner.{line_text, join_of, numbered_bytes, EndJoin, IsLazyJoin, JoinsLines, JoinsAll, JoinError, JoinsNone, JoinsOn, LineJoining, Comes, Joins, Advances, JoinsNoLine, JoinsBytes, JoinsGroup, JoinsLine, JoinsError, ReadsWholeLine, ReadsNone, ReadsRest}
use Rattle.properties_lines.specs.declared.error.LineError.TheVariants as why
use Rattle.properties_lines.specs.declared.error.LineError.{LineError}
use Rattle.properties_lines.specs.declared.logical.LogicalLine.{LogicalLine}
use Rattle.properties_lines.proofs.LineReaders.{encoding-on}
use Rattle.properties_lines.proofs.LineTexts.{line-in, joins-alike}
use Rattle.properties_lines.proofs.LogicalLines.{holds-in, unescaped-decoded}

-- ---- where no line comes

last-more : (s : ReaderState) (d : List ℕ) → last_to_come s d more ≡ []
unfolding last_to_come
last-more s d = elim (cases_Bool s.is_done) [ inl h ↦ rw h refl | inr h ↦ rw h refl ]

-- what is held gives no line, so that no entry comes yet
pub pending-lazy : (pending : Option format.Line) (s : ReaderState) → natural_to_come s [] more ≡ [] → entries_pending pending s [] more ≡ []
unfolding entries_pending
pending-lazy None s h = ap₂ (λ v w. entries_of_logical (logical_pending None v more) w) h (last-more s [])
pending-lazy (Some join) s h = ap₂ (λ v w. entries_of_logical (logical_pending (Some join) v more) w) h (last-more s [])

-- a fault comes alone, and an open join is lost
pub pending-broken : (pending : Option format.Line) (s : ReaderState) (d : List ℕ) (entry : Entry) → natural_to_come s d fault ≡ []
    → last_to_come s d fault ≡ entry ∷ [] → entries_pending pending s d fault ≡ entry ∷ []
unfolding entries_pending
pending-broken None s d entry h k = ap₂ (λ v w. entries_of_logical (logical_pending None v fault) w) h k
pending-broken (Some join) s d entry h k = ap₂ (λ v w. entries_of_logical (logical_pending (Some join) v fault) w) h k

-- ---- the lines that are passed

pub some-start : (s : ReaderState) → PassesSome s [] s
some-start s = record { lines = []; first = lines_come_first (lines-start s) }

pub some-on : {s t u : ReaderState} {r q : List ℕ} → PassesSome s r t → PassesSome t q u → PassesSome s (r ++ q) u
some-on h k = record { lines = h.lines ++ k.lines; first = lines_come_first (lines-on (first_lines_come h.first) (first_lines_come k.first)) }

-- those that came, where the reading goes on
passes-live : {s t : ReaderState} {r : List ℕ} {lines : List format.Line} → Passes s r lines t → t.is_done ≡ false → ReadsLines s r lines t
passes-live (Passes.going_on f reads) g = reads
passes-live (Passes.at_last f gives) g = absurd (cc)

pub some-come : {s t : ReaderState} {r : List ℕ} {lines : List format.Line} → Passes s r lines t → t.is_done ≡ false → PassesSome s r t
some-come {lines = lines} p g = record { lines = lines; first = lines_come_first (passes-live p g) }

-- no number is left after them
pub all-on : {s t : ReaderState} {r q : List ℕ} → PassesSome s r t → PassesAll t q → PassesAll s (r ++ q)
all-on h k = record { last = k.last; passes = some-on h k.passes; passed = k.passed }

-- ---- the natural lines of a join

pub passes-start : (s : ReaderState) → Passes s [] [] s
passes-start s = elim (cases_Bool s.is_done) [
  | inl h ↦ Passes.at_last h (record { natural = refl; last = refl })
  | inr h ↦ Passes.going_on h (lines-start s)
]

pub passes-on : {s t u : ReaderState} {r q : List ℕ} {ls ms : List format.Line} → Passes s r ls t → t.is_done ≡ false → Passes t q ms u
    → Passes s (r ++ q) (ls ++ ms) u
passes-on (Passes.at_last f gives) h k = absurd (cc)
passes-on (Passes.going_on f reads) h (Passes.going_on g others) = Passes.going_on g (lines-on reads others)
passes-on {q = q} (Passes.going_on f reads) h (Passes.at_last g gives) = Passes.at_last g (gives-on (reads.gives q end) gives)

are-open : (ls : List format.Line) (l : format.Line) → AreOpen ls → is_open l.text ≡ true → AreOpen (ls ++ l ∷ [])
are-open [] l h k = (k, tt)
are-open (m ∷ ls) l h k = (h.0, are-open ls l h.1 k)

ends-closed : (m : format.Line) (ls : List format.Line) (l : format.Line) → is_open m.text ≡ true → AreOpen ls → is_open l.text ≡ false
    → EndsClosed m (ls ++ l ∷ [])
ends-closed m [] l o h k = (o, k)
ends-closed m (n ∷ ls) l o h k = (o, ends-closed n ls l h.0 h.1 k)

-- what one line more adds
added-more : (old text new : List ℕ) (ls : List format.Line) (l : format.Line) → text ≡ old ++ joined_after ls → new ≡ text ++ addition l.text
    → new ≡ old ++ joined_after (ls ++ l ∷ [])
added-more old text new ls l h k =
    k
    ∙ ap (λ v. v ++ addition l.text) h
    ∙ append_assoc old (joined_after ls) (addition l.text)
    ∙ ap (λ v. old ++ v) (sym (joined_after-append ls (l ∷ []) ∙ ap (λ v. joined_after ls ++ v) (append-nil (addition l.text))))

-- the reading ended for good at this line, for this reason
abbrev pub failed : LineReading → LineError → LineReading
failed found e = record found { state = record found.state { is_done = true }; error = Some e }

-- ---- lines are added to a join

-- open lines go on with a join
joins-open : (number : ℕ) (text : List ℕ) (ls rest : List format.Line) (ending : InputEnd) → AreOpen ls
    → joins_after number text (ls ++ rest) ending ≡ joins_after number (text ++ joined_after ls) rest ending
joins-open number text [] rest ending o = rw append-nil refl
joins-open number text (l ∷ ls) rest ending o =
    joins_after-open number text l (ls ++ rest) ending o.0
    ∙ joins-open number (text ++ addition l.text) ls rest ending o.1
    ∙ ap (λ v. joins_after number v rest ending) (append_assoc text (addition l.text) (joined_after ls))

pending-open : {s t : ReaderState} {x y : List ℕ} {ls : List format.Line} {ending : InputEnd} (number : ℕ) (text : List ℕ)
    → AreOpen ls → Gives s x ls t y ending
    → entries_pending (join_of number text) s x ending ≡ entries_pending (join_of number (text ++ joined_after ls)) t y ending
unfolding entries_pending
pending-open {t = t} {y = y} {ls} {ending} number text o g =
    ap₂ (λ v w. entries_of_logical (joins_after number text v ending) w) g.natural g.last
    ∙ ap (λ v. entries_of_logical v (last_to_come t y ending)) (joins-open number text ls (natural_to_come t y ending) ending o)

-- Open lines were joined to an unfinished line.
abbrev pub GoesOn : {R : Type 0} → Reader R → ReaderState → R → (old_text text : List ℕ) → ReaderState → R → Type 0
GoesOn reader old from old_text text new to = JoinsLines reader AreOpen old from old_text text new to

module _ {R : Type 0} {reader : Reader R} where
  pub goes-start : (s : ReaderState) (from : R) (text : List ℕ) → GoesOn reader s from text text s from
  goes-start s from text = record {
    bytes = [];
    read = read-none from;
    lines = [];
    passes = passes-start s;
    are_such = tt;
    is = sym (append-nil text);
    encoding = λ d. (d, refl);
    done = λ e. e;
    ended = λ e. inl e;
    idle = λ e. (refl, refl);
    lazy = inl (refl, refl);
  }

  -- what comes of the join, where the reading goes on
  goes-pending : {s t : ReaderState} {from to : R} {old text : List ℕ} → (h : GoesOn reader s from old text t to) → t.is_done ≡ false
      → (number : ℕ) (d : List ℕ) (ending : InputEnd)
      → entries_pending (join_of number old) s (h.bytes ++ d) ending ≡ entries_pending (join_of number text) t d ending
  goes-pending {old = old} h g number d ending = rw h.is (pending-open number old h.are_such ((passes-live h.passes g).gives d ending))

  -- what was held at first did not close the join, if what is held now gives no line
  lazy-none : {s t : ReaderState} {from to : R} {old text : List ℕ} → GoesOn reader s from old text t to → t.is_done ≡ false
      → natural_to_come t [] more ≡ []
      → (number : ℕ) → entries_pending (join_of number old) s [] more ≡ []
  lazy-none {s} {t} {old = old} {text = text} h g none = elim h.lazy [
    | inl e ↦ (λ number. ap (λ v. entries_pending (join_of number old) s (v ++ []) more) (sym e.1)
        ∙ goes-pending h g number [] more ∙ pending-lazy (join_of number text) t none)
    | inr e ↦ e
  ]

  -- how lazy it stays
  lazy-more : {s t : ReaderState} {from to next : R} {old q text : List ℕ} → (h : GoesOn reader s from old text t to) → t.is_done ≡ false → IsLazy t to q next
      → IsLazyJoin s from old (h.bytes ++ q) next
  lazy-more {s} {t} {from} {to} {next} {old} {q} h g (inr none) = inr (lazy-none h g none)
  lazy-more {s} {t} {from} {to} {next} {old} {q} h g (inl e) = elim h.lazy [
    | inl k ↦ inl (e.0 ∙ k.0, ap₂ (λ v w. v ++ w) k.1 e.1)
    | inr k ↦ inr k
  ]

  -- an open line came
  pub goes-more : {s t : ReaderState} {from to next : R} {old text new : List ℕ} (number : ℕ) (found : LineReading) → GoesOn reader s from old text t to
      → FindsNext reader t to number found next → is_open (line_text found) ≡ true → new ≡ text ++ addition (line_text found)
      → GoesOn reader s from old new found.state next
  goes-more {s} {t} {old = old} {text} {new} number found h n o e = record {
    bytes = h.bytes ++ n.bytes;
    read = read-more h.read n.read;
    lines = h.lines ++ found_line number found ∷ [];
    passes = passes-on h.passes n.live n.passes;
    are_such = are-open h.lines (found_line number found) h.are_such o;
    is = added-more old text new h.lines (found_line number found) h.is e;
    encoding = encoding-on s t found.state h.encoding n.encoding;
    done = λ k. let d = h.done k in let l = n.live in absurd (cc);
    ended = λ k. inr (n.ended k);
    idle = λ k. let d = h.done k in let l = n.live in absurd (cc);
    lazy = lazy-more h n.live n.lazy;
  }

  -- another line came
  pub joins-closed : {s t : ReaderState} {from to next : R} {old text new : List ℕ} (number : ℕ) (found : LineReading) → GoesOn reader s from old text t to
      → FindsNext reader t to number found next → is_open (line_text found) ≡ false → new ≡ text ++ addition (line_text found)
      → JoinsAll reader s from old new found.state next
  joins-closed {s} {t} {old = old} {text} {new} number found h n o e = record {
    bytes = h.bytes ++ n.bytes;
    read = read-more h.read n.read;
    lines = h.lines ++ found_line number found ∷ [];
    passes = passes-on h.passes n.live n.passes;
    are_such = inl (λ m k. ends-closed m h.lines (found_line number found) k h.are_such o);
    is = added-more old text new h.lines (found_line number found) h.is e;
    encoding = encoding-on s t found.state h.encoding n.encoding;
    done = λ k. let d = h.done k in let l = n.live in absurd (cc);
    ended = λ k. inr (n.ended k);
    idle = λ k. let d = h.done k in let l = n.live in absurd (cc);
    lazy = lazy-more h n.live n.lazy;
  }

  -- no line came
  pub joins-done : {s t u : ReaderState} {from to next : R} {old text : List ℕ} → GoesOn reader s from old text t to → t.is_done ≡ true → u ≡ t → next ≡ to
      → JoinsAll reader s from old text u next
  joins-done h d same kept = rw (same, kept) (search rules)

  -- memory ran out
  pub join-no_room : {s t : ReaderState} {from to next : R} {old text : List ℕ} {e : LineError} (number : ℕ) (found : LineReading) (u : ReaderState)
      → GoesOn reader s from old text t to → FindsNext reader t to number found next → e ≡ why.Memory → JoinError reader s from old e u next
  join-no_room number found u h n is =
      inr (inr (record { bytes = h.bytes ++ n.bytes; read = read-more h.read n.read; is = is; lazy = lazy-more h n.live n.lazy }))

  -- a line could not be found
  pub join-refused : {s t u : ReaderState} {from to next : R} {old text : List ℕ} {e : LineError} → GoesOn reader s from old text t to → t.is_done ≡ false
      → FindsError reader t to e u next → JoinError reader s from old e u next
  join-refused {t = t} {text = text} h g (inl f) = inl (record {
    bytes = h.bytes ++ f.bytes;
    error = f.error;
    number = t.passed + 1;
    failed = failed-more h.read f.failed;
    is = f.is;
    items = λ first. goes-pending h g first f.bytes fault
        ∙ pending-broken (join_of first text) t f.bytes (read_fault (t.passed + 1)) f.natural f.last;
    lazy = lazy-none h g f.lazy;
  })
  join-refused {t = t} h g (inr (inl f)) = rw f.untouched (inr (inl (record {
    bytes = h.bytes;
    read = h.read;
    passes = record { last = t; passes = some-come h.passes g; passed = f.passed };
    is = f.is;
    lazy = h.lazy;
  })))
  join-refused h g (inr (inr f)) =
      inr (inr (record { bytes = h.bytes ++ f.bytes; read = read-more h.read f.read; is = f.is; lazy = lazy-more h g f.lazy }))

  -- where lines go on, they went on at first
  pub goes-live : {s t : ReaderState} {from to : R} {old text : List ℕ} → GoesOn reader s from old text t to → t.is_done ≡ false → s.is_done ≡ false
  goes-live {s} h g = elim (cases_Bool s.is_done) [ inl e ↦ let d = h.done e in absurd (cc) | inr e ↦ e ]

  -- and so the join couldn't be read to its end
  pub joins-lost : {from at to : R} {old text : List ℕ} (before lines found after : LineReading) → GoesOn reader before.state from old text lines.state at
      → FindsNext reader lines.state at found.state.passed found to → after ≡ failed found why.Memory → JoinsNone reader before from old after to
  joins-lost before lines found after h n e = rw e (record {
    live = goes-live h n.live;
    done = refl;
    error = why.Memory;
    kept = refl;
    why = join-no_room found.state.passed found (failed found why.Memory).state h n refl;
  })

  -- no more lines came
  pub joins-over : {from at to : R} {old text : List ℕ} (before lines after : LineReading) (failed : Bool)
      → GoesOn reader before.state from old text lines.state at
      → lines.error ≡ None → Finds reader lines at false after to → failed ≡ is_some after.error → JoinsOn reader before from old (not failed) after to text
  joins-over before lines after failed h e (inl n) f =
      let state = ap (λ v. let w : LineReading = v in w.state) n.1 in
      let error = ap (λ v. let w : LineReading = v in w.error) n.1 ∙ e in
      let none : failed ≡ false = f ∙ ap is_some error in
      rw none (joins-done h n.0 state n.2, error)
  joins-over before lines after failed h e (inr n) f =
      let some : failed ≡ true = f ∙ ap is_some n.failed.error in
      rw some (record { live = goes-live h n.live; done = n.failed.done; error = n.error; kept = n.failed.error; why = join-refused h n.live n.why })

-- ---- what is known of a line

-- a line holds no backslash if its flag says so
pub known-plain : (f : LineReading) (has_backslash : Bool) → HasRightLineFlags f → has_backslash ≡ f.has_backslash → has_backslash ≡ false
    → holds_backslash f.line ≡ false
known-plain f has_backslash h told k = sym (h 0 0).backslash ∙ sym told ∙ k

-- ---- logical lines

-- what comes of a whole group
group-comes : {s t : ReaderState} {x y : List ℕ} {ending : InputEnd} (first : format.Line) (others : List format.Line)
    → Gives s x (first ∷ others) t y ending → IsWhole (first ∷ others)
    → items_to_come s x ending ≡ followed first.number (outcome_of (joined (first ∷ others))) (items_to_come t y ending)
unfolding entries_pending
group-comes {s} {t} {x} {y} {ending} first others g w =
    items_to_come-pending s x ending
    ∙ ap₂ (λ v w. entries_of_logical (logical_lines v ending) w) g.natural g.last
    ∙ ap (λ v. entries_of_logical (logical v) (last_to_come t y ending)) (groups_of-before (first ∷ others) (natural_to_come t y ending) ending w)
    ∙ ap (followed first.number (outcome_of (joined (first ∷ others)))) (sym (items_to_come-pending t y ending))

-- and of one in which the input ended
group-ends : {s t : ReaderState} {x : List ℕ} (first : format.Line) (others : List format.Line)
    → Gives s x (first ∷ others) t [] end → t.is_done ≡ true → IsUnfinished (first ∷ others) → items_to_come s x end ≡ followed first.number (outcome_of (joined (first ∷ others))) []
unfolding entries_pending
group-ends {s} {t} {x} first others g d u =
    let none = natural-done t [] end d in
    let all : natural_to_come s x end ≡ first ∷ others = g.natural ∙ rw none.0 (append-nil (first ∷ others)) in
    items_to_come-pending s x end
    ∙ ap₂ (λ v w. entries_of_logical (logical_lines v end) w) all (g.last ∙ none.1)
    ∙ ap (λ v. entries_of_logical (logical v) []) (groups_of-unfinished (first ∷ others) end u)

-- So a group comes as a logical line.
comes-of : {s t : ReaderState} {r : List ℕ} {line : format.Line} → JoinsGroup s r line t → Comes s r line t
comes-of {s} {t} {r} {line} h = by h.passes h.ends
  where
    by : Passes s r (h.first ∷ h.others) t → IsWhole (h.first ∷ h.others) ⊎ (t.is_done ≡ true) × IsUnfinished (h.first ∷ h.others) → Comes s r line t
    by (Passes.going_on f reads) (inl w) =
        Comes.going_on f (record { items = λ d ending. rw (h.number, h.text) (group-comes h.first h.others (reads.gives d ending) w) })
    by (Passes.going_on f reads) (inr u) = absurd (let d = u.0 in cc)
    by (Passes.at_last f gives) (inl w) =
        let none = items_to_come-pending t [] end ∙ pending-done t [] end f in
        Comes.at_last f (rw (h.number, h.text) (group-comes h.first h.others gives w ∙ ap (followed h.first.number _) none))
    by (Passes.at_last f gives) (inr u) = Comes.at_last f (rw (h.number, h.text) (group-ends h.first h.others gives f u.1))

-- a line that is a logical line by itself
alone-group : {s t : ReaderState} {r : List ℕ} (l : format.Line) → Passes s r (l ∷ []) t → (is_comment_line l.text ≡ true) ⊎ (is_open l.text ≡ false)
    → JoinsGroup s r l t
alone-group l p alone = record {
  first = l;
  others = [];
  passes = p;
  number = refl;
  text = elim alone [ inl c ↦ sym (joined-comment_line l [] c) | inr o ↦ sym (joined-closed l o) ];
  ends = inl (elim (cases_Bool (is_comment_line l.text)) [
    | inl c ↦ inl (c, refl)
    | inr c ↦ inr (c, elim alone [ inl k ↦ absurd (cc) | inr o ↦ o ])
  ]);
}

-- an open line and those that it is joined to
join-group : {R : Type 0} {reader : Reader R} {s t u : ReaderState} {to next : R} {r text : List ℕ} (l : format.Line) → Passes s r (l ∷ []) t
    → is_comment_line l.text ≡ false → is_open l.text ≡ true → (j : JoinsAll reader t to (without_open_backslash l.text) text u next)
    → JoinsGroup s (r ++ j.bytes) (record { number = l.number; text = text }) u
join-group {s = s} {t} {u} {r = r} l p c o j = record {
  first = l;
  others = j.lines;
  passes = all-lines p;
  number = refl;
  text = j.is ∙ sym (joined-unmarked l j.lines c);
  ends = by-end j.are_such;
}
  where
    by-end : EndJoin j.lines u → IsWhole (l ∷ j.lines) ⊎ (u.is_done ≡ true) × IsUnfinished (l ∷ j.lines)
    by-end (inl k) = inl (inr (c, k l o))
    by-end (inr k) = inr (k.0, (c, (o, k.1)))

    last-lines : t.is_done ≡ true → Gives s r (l ∷ []) t [] end → Passes t j.bytes j.lines u → Passes s (r ++ j.bytes) (l ∷ j.lines) u
    last-lines f gives (Passes.going_on g reads) = let d = j.done f in absurd (cc)
    last-lines f gives (Passes.at_last g others) =
        let none = (j.idle f).0 in
        let S : List ℕ → Type 0 = λ v. Gives t v j.lines u [] end in
        let P : List ℕ → Type 0 = λ v. Gives s v (l ∷ j.lines) u [] end in
        Passes.at_last g (subst P (sym (ap (λ v. r ++ v) none ∙ append-nil r)) (gives-on gives (subst S none others)))

    all-lines : Passes s r (l ∷ []) t → Passes s (r ++ j.bytes) (l ∷ j.lines) u
    all-lines (Passes.going_on f reads) = passes-on (Passes.going_on f reads) f j.passes
    all-lines (Passes.at_last f gives) = last-lines f gives j.passes

lazy-items : {R : Type 0} {from to : R} {r : List ℕ} (s : ReaderState) → IsLazy s from r to → IsLazyItems s from r to
lazy-items s (inl h) = inl h
lazy-items s (inr h) = inr (are_to_come (items_to_come-pending s [] more ∙ pending-lazy None s h))

module _ {R : Type 0} {reader : Reader R} where
  -- the line is a logical line
  line-alone : {s : ReaderState} {from to : R} (number : ℕ) (found : LineReading) → FindsNext reader s from number found to → IsNotContinued (line_text found)
      → JoinsLine reader s from (found_line number found) found.state to
  line-alone {s} number found n c = record {
    bytes = n.bytes;
    read = n.read;
    live = n.live;
    comes = comes-of (alone-group (found_line number found) n.passes c);
    group = alone-group (found_line number found) n.passes c;
    passes = some-come n.passes;
    ended = n.ended;
    lazy = lazy-items s n.lazy;
  }

  -- what was held when a join began, and gave no item
  lazy-join : {s : ReaderState} {from to next : R} {q : List ℕ} (number : ℕ) (mid : LineReading) (n : FindsNext reader s from number mid to)
      → is_comment_line (line_text mid) ≡ false → is_open (line_text mid) ≡ true → (mid.state.is_done ≡ true → (q ≡ []) × (next ≡ to))
      → IsLazyJoin mid.state to (without_open_backslash (line_text mid)) q next → IsLazyItems s from (n.bytes ++ q) next
  lazy-join {s} {from} {to} {next} {q} number mid n c o idle lazy = by-find n.lazy
    where
      by-passes : n.bytes ≡ [] → to ≡ from → Passes s n.bytes (found_line number mid ∷ []) mid.state
          → ((first : ℕ) → entries_pending (join_of first (without_open_backslash (line_text mid))) mid.state [] more ≡ [])
          → IsLazyItems s from (n.bytes ++ q) next
      by-passes e k (Passes.going_on f reads) none =
          inr (are_to_come (ap (λ v. items_to_come s (v ++ []) more) (sym e) ∙ (on-open (on-start s) reads c o).items [] more ∙ none number))
      by-passes e k (Passes.at_last f gives) none = let i = idle f in inl (i.1 ∙ k, ap₂ (λ v w. v ++ w) e i.0)

      by-find : IsLazy s from n.bytes to → IsLazyItems s from (n.bytes ++ q) next
      by-find (inr none) = lazy-items s (inr none)
      by-find (inl h) = elim lazy [
        | inl k ↦ inl (k.0 ∙ h.0, ap₂ (λ v w. v ++ w) h.1 k.1)
        | inr k ↦ by-passes h.1 h.0 n.passes k
      ]

  -- the line and those after it are one
  joins-joined : {s : ReaderState} {from to next : R} (number : ℕ) (mid : LineReading) (text : List ℕ) (new : ReaderState)
      → FindsNext reader s from number mid to
      → is_comment_line (line_text mid) ≡ false → is_open (line_text mid) ≡ true
      → JoinsAll reader mid.state to (without_open_backslash (line_text mid)) text new next
      → JoinsLine reader s from (record { number = number; text = text }) new next
  joins-joined {next = next} number mid text new n c o j =
      let group = join-group (found_line number mid) n.passes c o j in
      record {
        bytes = n.bytes ++ j.bytes;
        read = read-more n.read j.read;
        live = n.live;
        comes = comes-of group;
        group = group;
        passes = some-come group.passes;
        ended = λ e. elim (j.ended e) [ inl k ↦ rw (j.idle k).1 (n.ended k) | inr k ↦ k ];
        lazy = lazy-join number mid n c o j.idle j.lazy;
      }

  -- no line was found
  pub joins-refused : {s u : ReaderState} {from to : R} {e : LineError} → FindsError reader s from e u to → JoinsError reader s from e u to
  joins-refused {s} (inl f) = inl (record {
    bytes = f.bytes;
    error = f.error;
    number = s.passed + 1;
    failed = f.failed;
    is = f.is;
    items = items_to_come-pending s f.bytes fault ∙ pending-broken None s f.bytes (read_fault (s.passed + 1)) f.natural f.last;
    lazy = items_to_come-pending s [] more ∙ pending-lazy None s f.lazy;
  })
  joins-refused {s} {from = from} (inr (inl f)) = rw f.untouched (inr (inl (record {
    bytes = [];
    read = read-none from;
    passes = record { last = s; passes = some-start s; passed = f.passed };
    is = f.is;
    lazy = inl (refl, refl);
  })))
  joins-refused {s} (inr (inr f)) = inr (inr (record { bytes = f.bytes; read = f.read; is = f.is; lazy = lazy-items s f.lazy }))

  -- a join was not read to its end
  pub joins-broken : {s u : ReaderState} {from to next : R} {e : LineError} (number : ℕ) (mid : LineReading) → FindsNext reader s from number mid to
      → is_comment_line (line_text mid) ≡ false → is_open (line_text mid) ≡ true → mid.state.is_done ≡ false
      → JoinError reader mid.state to (without_open_backslash (line_text mid)) e u next → JoinsError reader s from e u next
  joins-broken {s} number mid n c o g (inl f) =
      let on = on-open (on-start s) (passes-live n.passes g) c o in
      inl (record {
        bytes = n.bytes ++ f.bytes;
        error = f.error;
        number = f.number;
        failed = failed-more n.read f.failed;
        is = f.is;
        items = on.items f.bytes fault ∙ f.items number;
        lazy = elim n.lazy [
          | inl h ↦ ap (λ v. items_to_come s (v ++ []) more) (sym h.1) ∙ on.items [] more ∙ f.lazy number
          | inr h ↦ items_to_come-pending s [] more ∙ pending-lazy None s h
        ];
      })
  joins-broken number mid n c o g (inr (inl f)) =
      inr (inl (record {
        bytes = n.bytes ++ f.bytes;
        read = read-more n.read f.read;
        passes = all-on (some-come n.passes g) f.passes;
        is = f.is;
        lazy = lazy-join number mid n c o (λ e. absurd (cc)) f.lazy;
      }))
  joins-broken number mid n c o g (inr (inr f)) =
      inr (inr (record { bytes = n.bytes ++ f.bytes; read = read-more n.read f.read; is = f.is; lazy = lazy-join number mid n c o (λ e. absurd (cc)) f.lazy }))

  -- there was no memory for it
  pub joins-no_room : {s u : ReaderState} {from to : R} {e : LineError} (number : ℕ) (mid : LineReading) → FindsNext reader s from number mid to
      → e ≡ why.Memory → JoinsError reader s from e u to
  joins-no_room {s} number mid n is = inr (inr (record { bytes = n.bytes; read = n.read; is = is; lazy = lazy-items s n.lazy }))

-- ---- the rest of a logical line

-- the bytes of a borrowed line
natural-bytes : (place : Place) (natural decoded joined : List ℕ) → is_natural place ≡ true → placed_bytes place natural decoded joined ≡ natural
natural-bytes Natural natural decoded joined h = refl
natural-bytes Decoded natural decoded joined h = absurd (cc)
natural-bytes Joined natural decoded joined h = absurd (cc)

-- the bytes of a joined line
joined-bytes : (place : Place) (natural decoded joined : List ℕ) → place ≡ Joined
    → (placed_bytes place natural decoded joined ≡ joined) × (is_natural place ≡ false)
joined-bytes place natural decoded joined h = rw h (refl, refl)

module _ {R : Type 0} {reader : Reader R} where
  -- the line is a logical line
  pub reads-alone : {from : R} (found : LineReading) (line : LogicalLine) (has_backslash : Bool) → IsNotContinued (line_text found)
      → HasText line found.line (line_text found)
      → HasRightLineFlags found → (has_backslash ≡ false → holds_backslash found.line ≡ false) → found.error ≡ None
      → ReadsWholeLine reader found from found.state.passed found line has_backslash from
  reads-alone {from} found line has_backslash c h flags plain error = record {
    number_is = refl;
    error = error;
    well = h.well;
    comes = λ {S} {start} n.
        let P : List ℕ → Type 0 = λ v. JoinsLine reader S start (record { number = found.state.passed; text = v }) found.state from in
        subst P (sym h.is) (line-alone found.state.passed found n c);
    ascii = λ k.
        let both = and_parts found.is_ascii (is_natural line.place) k in
        subst IsAscii (sym (natural-bytes line.place found.line line.decoded line.joined both.1)) ((flags 0 0).ascii.0 both.0).1;
    plain = λ k. sym (holds-in line.encoding (bytes_with line found.line) h.well) ∙ ap holds_backslash h.is
        ∙ unescaped-decoded found.state.encoding found.line (plain k);
  }

  -- and so is it with the lines that are joined to it
  pub reads-joined : {from to : R} (found lines : LineReading) (begun line : LogicalLine) (has_backslash : Bool)
      → OpensJoin found.state.encoding (line_text found) begun
      → JoinsAll reader found.state from (unfinished_text begun) (unfinished_text line) lines.state to → lines.error ≡ None → line.place ≡ Joined
      → IsWell line.encoding line.joined
      → (has_backslash ≡ false → holds_backslash (bytes_with line lines.line) ≡ false)
      → ReadsWholeLine reader found from found.state.passed lines line has_backslash to
  reads-joined {from} {to} found lines begun line has_backslash o j error place well plain =
      let P : List ℕ → Type 0 = λ v. JoinsAll reader found.state from v (unfinished_text line) lines.state to in
      let at = joined-bytes line.place lines.line line.decoded line.joined place in
      record {
        number_is = refl;
        error = error;
        well = subst (IsWell line.encoding) (sym at.0) well;
        comes = λ {S} {start} n.
            let Q : List ℕ → Type 0 = λ v. JoinsLine reader S start (numbered_bytes found.state.passed line.encoding v) lines.state to in
            subst Q (sym at.0) (joins-joined found.state.passed found (unfinished_text line) lines.state n o.other o.opens (subst P o.closed j));
        ascii = λ k. let both = and_parts lines.is_ascii (is_natural line.place) k in let not = at.1 in absurd (cc);
        plain = plain;
      }

  -- these can't be read to their end
  pub reads-broken : {from to : R} (found lines : LineReading) (begun : LogicalLine) → OpensJoin found.state.encoding (line_text found) begun
      → JoinsNone reader found from (unfinished_text begun) lines to → ReadsNone reader found from lines to
  reads-broken {from} {to} found lines begun o j =
      let P : List ℕ → Type 0 = λ v. JoinError reader found.state from v j.error lines.state to in
      record { done = j.done; error = j.error; kept = j.kept; why = λ n. joins-broken found.state.passed found n o.other o.opens j.live (subst P o.closed j.why) }

  -- there was no memory for its text
  pub reads-no_room : {from : R} (found lines : LineReading) → lines ≡ failed found why.Memory → ReadsNone reader found from lines from
  reads-no_room found lines e =
      rw e (record { done = refl; error = why.Memory; kept = refl; why = λ n. joins-no_room found.state.passed found n refl })

-- ---- the next logical line

-- what a contract sees of the joiner of this reader and this line
abbrev pub joining : LineReading → LogicalLine → Bool → LineJoining
joining lines line has_backslash = record {
  at = record { state = lines.state; line = bytes_with line lines.line };
  encoding = line.encoding;
  is_ascii = lines.is_ascii && is_natural line.place;
  has_backslash = has_backslash;
  error = lines.error;
}

module _ {R : Type 0} {reader : Reader R} where
  -- no line was found
  pub joins-none : {from to : R} (before after : LineReading) (line : LogicalLine) (has_backslash : Bool) → Finds reader before from false after to
      → JoinsNoLine reader (joining before line has_backslash) from (joining after line has_backslash) to
  joins-none before after line has_backslash (inl h) = inl (h.0, ap (λ v. joining v line has_backslash) h.1, h.2)
  joins-none before after line has_backslash (inr h) = inr (let why = joins-refused h.why in search rules)

  -- the rest of it was read
  pub joins-rest : {from mid : R} (to : R) (old : LineJoining) (found lines : LineReading) (line : LogicalLine) (result : Option ℕ) (has_backslash : Bool)
      → FindsNext reader old.at.state from found.state.passed found mid → ReadsRest reader found mid result lines line has_backslash to
      → Advances reader old from result (joining lines line has_backslash) to
  joins-rest {from} {mid} to old found lines line (Some number) has_backslash n h =
      let P : ℕ → Type 0 = λ v. FindsNext reader old.at.state from v found mid in
      record { joins = h.comes (subst P (sym h.number_is) n); well = h.well; ascii = h.ascii; plain = h.plain; error = h.error }
  joins-rest to old found lines line None has_backslash n h = inr (record { live = n.live; done = h.done; error = h.error; kept = h.kept; why = h.why n })

  -- the line is borrowed
  pub joins-borrowed : {from to : R} (old : LineJoining) (found : LineReading) (line : LogicalLine) (has_backslash : Bool)
      → FindsNext reader old.at.state from found.state.passed found to × HasRightLineFlags found × (found.error ≡ None)
      → has_backslash ≡ found.has_backslash
      → line.place ≡ Natural → line_of line.encoding ≡ output_encoding found.state.encoding → IsLineIn found.state.encoding found.line
      → is_open found.line ≡ false
      → Advances reader old from (Some found.state.passed) (joining found line has_backslash) to
  joins-borrowed {to = to} old found line has_backslash n same place to_is told closed =
      let b = line-in found.state.encoding line.encoding found.line to_is told in
      let open_text : is_open (line_text found) ≡ false = ap is_open (sym b.is) ∙ (joins-alike line.encoding found.line b.well).opens ∙ closed in
      let here : bytes_with line found.line ≡ found.line = rw place refl in
      let text : HasText line found.line (line_text found) = record { well = subst (IsWell line.encoding) (sym here) b.well; is = ap (text_in line.encoding) here ∙ b.is } in
      joins-rest to old found found line (Some found.state.passed) has_backslash n.0
      (reads-alone found line has_backslash (inr open_text) text n.1 (known-plain found has_backslash n.1 same) n.2)

-- ---- as a text

module _ {R : Type 0} {reader : Reader R} where
  -- these bytes are its text
  pub joins-text : {from to : R} (old new : LineJoining) (number : ℕ) (encoding : LineEncoding) (is_ascii : Bool) (line : List ℕ)
      → JoinsBytes reader old from number new to
      → IsTextOf (text_in new.encoding new.at.line) line
      → Joins reader old from (Some number) (record new { at = record new.at { line = line }; encoding = encoding; is_ascii = is_ascii }) to
  joins-text {from} {to} old new number encoding is_ascii line h text =
      let P : List ℕ → Type 0 = λ v. JoinsLine reader old.at.state from (record { number = number; text = v }) new.at.state to in (
        subst P (sym text.characters) h.joins,
        λ k. ap holds_backslash text.characters ∙ holds-in new.encoding new.at.line h.well ∙ h.plain k,
        h.error,
      )

  -- there was no memory for it
  pub joins-no_text : {from to : R} (old new failed : LineJoining) (number : ℕ) → JoinsBytes reader old from number new to → failed.at.state.is_done ≡ true
      → failed.error ≡ Some why.Memory → JoinsNoLine reader old from failed to
  joins-no_text old new failed number h done error = inr (search rules)
