-- Natural lines of a reader.
use Rattle.std.proofs.Common.{inl, inr, ◌≡◌, ◌≢◌, ◌⊎◌, ◌≤◌, ◌+◌, ◌-◌, ℕ, Bool, true, false, List, [], ◌∷◌, ◌++◌, drop, length, refl, sym, ap, subst, ◌∙◌, append-nil, add-zero, arith, ◌<◌, ◌^◌}
use Rattle.std.specs.Prelude.{Option, Some, None, if◌then◌else◌}
use Rattle.std.proofs.lemmas.Bool.{cases_Bool}
use Rattle.counted_io.specs.Streams.{Reader, HasRead, has_ended}
use Rattle.counted_io.proofs.Streams.{read-none, read-more, failed-more}
use Rattle.properties_format.specs.Lines as format
use Rattle.properties_format.specs.Lines.{Ended, end, fault, more, numbered}
use Rattle.properties_format.specs.Computed.Lines.{lines_of}
use Rattle.properties_format.specs.Items.{read_fault, last_entries}
use Rattle.properties_format.specs.ItemsToCome.{ReaderState}
use Rattle.properties_format.specs.Computed.ItemsToCome.{text_to_come, natural_to_come, last_to_come, Gives, ReadsLines}
use Rattle.properties_format.proofs.ItemsToCome.Entries.{gives-on}
use Rattle.properties_format.proofs.ItemsToCome.Steps.{lines-start, lines-on, lines-then, lines-read}
use Rattle.properties_text.specs.Encoding.{encoding_of}
use Rattle.properties_lines.specs.Scanner.{is_decided, after_cr, scanner_state, raw_line_bytes, Fits, Scans, KeepsEncoding}
use Rattle.properties_lines.specs.LineReader as reading
use Rattle.properties_lines.specs.LineReader.{LineReading, found_line, reads_left, HoldsLine, HoldsNone, ScansHeld, IsLazy, ReleasesOrKeeps, ReadsBytes, HasFailedFor, IsReadError, Finds, FindsNext, FindsError}
use Rattle.properties_lines.specs.declared.error.LineError.{LineError}
use Rattle.properties_lines.specs.declared.error.LineError.TheVariants as why
use Rattle.properties_lines.specs.declared.scanner.Scan.{Scan}
use Rattle.properties_lines.specs.declared.scanner.Scan.TheVariants as scan
use Rattle.properties_lines.specs.declared.scanner.Scan.TheVariants.{Line, More, TooMany}
use Rattle.properties_lines.specs.declared.scanner.Front.{Front}
use Rattle.properties_lines.specs.declared.scanner.Front.TheVariants.{Mark, Feed, Nothing}
use Rattle.properties_lines.specs.declared.scanner.Scanner.{Scanner}
use Rattle.properties_lines.proofs.ScannerFront.{fits-grown, fits-release, release}
use Rattle.properties_lines.proofs.Scans.{kept-encoding}

-- ---- where no line ending is held

none-ended : (n : ℕ) (ls : List Ended) (last : List ℕ) → numbered n ls last more ≡ [] → ls ≡ []
none-ended n [] last h = refl
none-ended n (l ∷ ls) last h = absurd (cc h)

some-at_end : (n : ℕ) (ls : List Ended) (last : List ℕ) → numbered n ls last end ≡ [] → ⊥
some-at_end n [] last h = cc h
some-at_end n (l ∷ ls) last h = cc h

-- a fault is one of the line that the bytes begin
pub fault-held : (s : ReaderState) → s.is_done ≡ false → natural_to_come s [] more ≡ []
    → (natural_to_come s [] fault ≡ []) × (last_to_come s [] fault ≡ read_fault (s.passed + 1) ∷ [])
unfolding natural_to_come last_to_come
fault-held s g h =
    let lines = lines_of (text_to_come s []) in
    let k : numbered s.passed lines.ended lines.last more ≡ [] = rw g at h in
    let none : lines.ended ≡ [] = none-ended s.passed lines.ended lines.last k in
    rw g (
      ap (λ v. numbered s.passed v lines.last fault) none,
      ap (λ v. last_entries (s.passed + length v) fault) none ∙ ap (λ n. read_fault (n + 1) ∷ []) (add-zero s.passed),
    )

-- the end is that of the last line
pub end-held : (s : ReaderState) → s.is_done ≡ false → natural_to_come s [] more ≡ [] → (line : format.Line) × (natural_to_come s [] end ≡ line ∷ [])
unfolding natural_to_come
end-held s g h =
    let lines = lines_of (text_to_come s []) in
    let k : numbered s.passed lines.ended lines.last more ≡ [] = rw g at h in
    (record { number = s.passed + 1; text = lines.last }, rw g (ap (λ v. numbered s.passed v lines.last end) (none-ended s.passed lines.ended lines.last k)))

-- where nothing comes at the end, it is at its end for good
pub done-end : (s : ReaderState) → natural_to_come s [] end ≡ [] → s.is_done ≡ true
unfolding natural_to_come
done-end s h = elim (cases_Bool s.is_done) [
  | inl d ↦ d
  | inr g ↦
      let lines = lines_of (text_to_come s []) in
      let k : numbered s.passed lines.ended lines.last end ≡ [] = rw g at h in
      absurd (some-at_end s.passed lines.ended lines.last k)
]

-- ---- a scanner over the bytes that are held

-- what it is as a reader of lines
abbrev pub reading_of : Scanner → List ℕ → Option LineError → LineReading
reading_of s held error = record {
  state = scanner_state s held;
  line = raw_line_bytes held s.line;
  is_ascii = s.line.is_ascii;
  has_backslash = s.line.has_backslash;
  waiting = length held - s.at;
  error = error;
}

awaits-some : (front : Front) → front ≢ Nothing → (if is_decided front then after_cr front else true) ≡ true
awaits-some Mark h = refl
awaits-some Feed h = refl
awaits-some Nothing h = absurd (h refl)

reads-nearer : (s new : Scanner) (held : List ℕ) (error : Option LineError) → (new.at ≡ s.at) × (new.front ≡ s.front) ⊎ (s.front ≢ Nothing) × (new.front ≡ Nothing)
    → reads_left (reading_of new held error) ≤ reads_left (reading_of s held error)
reads-nearer s new held error h = elim h [
  | inl same ↦ rw (same.0, same.1) (omega arith)
  | inr passed ↦ rw (passed.1, awaits-some s.front passed.0) (omega arith)
]

no-error : (error : Option LineError) (done : Bool) → (error ≢ None → done ≡ true) → done ≡ false → error ≡ None
no-error None done h k = refl
no-error (Some e) done h k = let d = h (λ w. absurd (cc)) in absurd (cc)

pub scans-held : (s new : Scanner) (held : List ℕ) (error : Option LineError) (ended : Bool) (scan : Scan) → (error ≢ None → s.is_done ≡ true)
    → Scans s held ended scan new → ScansHeld (reading_of s held error) ended scan (reading_of new held error)
scans-held s new held error ended Line h g = record {
  live = g.live;
  number = g.number;
  comes = g.comes;
  going = elim g.going [
    | inl x ↦ inl x.0
    | inr x ↦ inr (x.0, x.2)
  ];
  fits = omega (arith, g.number, g.numbered);
  decided = g.decided;
  encoding = λ d. (g.decided, kept-encoding (scanner_state s held) (encoding_of new.encoding) (drop new.line.start held) d g.front);
  flags = λ start end. record { ascii = g.flags.ascii; backslash = g.flags.backslash };
  error = no-error error s.is_done h g.live;
}
scans-held s new held error ended More h (on, g) = (
  on,
  record {
    live = g.live;
    numbered = g.numbered;
    none = g.none;
    alike = g.alike;
    passed = g.passed;
    done = g.done;
    encoding = g.encoding;
    nearer = reads-nearer s new held error g.stays;
    error = refl;
    line = ap (raw_line_bytes held) g.line;
  },
)
scans-held s new held error ended scan.End h (done, same) = (done, ap (λ v. reading_of v held error) same)
scans-held s new held error ended TooMany h (live, last, same) = (live, last, ap (λ v. reading_of v held error) same)

-- bytes at the front were let go
pub fits-left : (s new : Scanner) (held rest : List ℕ) (gone : ℕ) → Fits s held → gone ≤ s.at → new ≡ release s gone → rest ≡ drop gone held → Fits new rest
fits-left s new held rest gone h le is same =
    subst (λ v. Fits new v) (sym same) (subst (λ w. Fits w (drop gone held)) (sym is) (fits-release s held gone le h))

-- bytes were added
pub fits-filled : (s : Scanner) (held all d : List ℕ) → Fits s held → all ≡ held ++ d → Fits s all
fits-filled s held all d h same = subst (Fits s) (sym same) (fits-grown s held d h)

left-done : (s new : Scanner) (gone : ℕ) → new ≡ release s gone → new.is_done ≡ s.is_done
left-done s new gone is = rw is refl

-- one that has failed is at its end for good
pub done-left : (s new : Scanner) (gone : ℕ) (error : Option LineError) → (error ≢ None → s.is_done ≡ true) → new ≡ release s gone → error ≢ None → new.is_done ≡ true
done-left s new gone error h is failed = left-done s new gone is ∙ h failed

pub passed-left : (s new : Scanner) (gone : ℕ) → new ≡ release s gone → new.passed ≡ s.passed
passed-left s new gone is = rw is refl

-- no line is held then
pub line-left : (s new : Scanner) (held : List ℕ) (gone : ℕ) → new ≡ release s gone → raw_line_bytes held new.line ≡ []
line-left s new held gone is = rw is refl

-- ---- reading on

pub fails : (old f new : LineReading) (e : LineError) → new ≡ record f { state = record f.state { is_done = true }; error = Some e } → ReleasesOrKeeps old f → HasFailedFor old e new
fails old f new e is line = rw is (record { done = refl; error = refl; line = line })

pub releases-on : (a b c d : LineReading) → ReleasesOrKeeps a b → c.line ≡ b.line → ReleasesOrKeeps c d → ReleasesOrKeeps a d
releases-on a b c d h e k = elim k [
  | inl same ↦ elim h [
    | inl was ↦ inl (same ∙ e ∙ was)
    | inr none ↦ inr (same ∙ e ∙ none)
  ]
  | inr none ↦ inr none
]

pub encoding-on : (s t u : ReaderState) → KeepsEncoding s t → KeepsEncoding t u → KeepsEncoding s u
encoding-on s t u h k d = let a = h d in let b = k a.0 in (b.0, b.1 ∙ a.1)

-- These bytes were read, and no line was passed.
pub record Along {R : Type 0} (reader : Reader R) (old : ReaderState) (from : R) (bytes : List ℕ) (new : ReaderState) (to : R) : Type 0 where
  pub read : HasRead reader from bytes to
  pub gives : ReadsLines old bytes [] new
  pub passed : new.passed ≡ old.passed
  pub done : new.is_done ≡ old.is_done
  pub encoding : KeepsEncoding old new
  pub lazy : IsLazy old from bytes to

-- The reader is at its end, and no line with a line ending is held.
pub record IsAtEnd {R : Type 0} (reader : Reader R) (state : ReaderState) (at : R) : Type 0 where
  pub ended : has_ended reader at ≡ true
  pub none : natural_to_come state [] more ≡ []
  pub live : state.is_done ≡ false
  pub numbered : state.passed + 1 < 2 ^ 64

module _ {R : Type 0} {reader : Reader R} where
  pub along-start : (s : ReaderState) (from : R) → Along reader s from [] s from
  along-start s from = record { read = read-none from; gives = lines-start s; passed = refl; done = refl; encoding = λ d. (d, refl); lazy = inl (refl, refl) }

  along-none : {s t : ReaderState} {from to : R} {r : List ℕ} → Along reader s from r t to → natural_to_come t [] more ≡ [] → natural_to_come s [] more ≡ []
  along-none {s} {t} h k = elim h.lazy [
    | inl e ↦ let g : ReadsLines s [] [] t = rw e.1 at h.gives in (g.gives [] more).natural ∙ k
    | inr e ↦ e
  ]

  -- what was held gave no line, and bytes were read
  along-held : {s : ReaderState} {t u : LineReading} {from to next : R} {r : List ℕ} (q : List ℕ) → Along reader s from r t.state to → HoldsNone t u → HasRead reader to q next
      → Along reader s from (r ++ q) (record u.state { held = u.state.held ++ q }) next
  along-held {s} {t} {u} q h k m = record {
    read = read-more h.read m;
    gives = lines-on h.gives (lines-on k.alike (lines-read u.state q));
    passed = k.passed ∙ h.passed;
    done = k.done ∙ h.done;
    encoding = encoding-on s t.state u.state h.encoding k.encoding;
    lazy = inr (along-none h k.none);
  }

  pub along-read : {s : ReaderState} {t u v : LineReading} {from to next : R} {r q : List ℕ} → Along reader s from r t.state to → HoldsNone t u → ReadsBytes reader u to q v next
      → Along reader s from (r ++ q) v.state next
  along-read {s} {from = from} {next = next} {r = r} {q = q} h k m =
      let P : ReaderState → Type 0 = λ w. Along reader s from (r ++ q) w next in
      subst P (sym m.state) (along-held q h k m.read)

  -- ---- a line is found

  pub found : {s : ReaderState} {t : LineReading} {from to : R} {r : List ℕ} (ended : Bool) (new : LineReading) → Along reader s from r t.state to → (ended ≡ true → IsAtEnd reader t.state to)
      → HoldsLine t ended new → FindsNext reader s from new.state.passed new to
  found {s} {t} {r = r} false new h last k = record {
    bytes = r;
    read = h.read;
    live = sym h.done ∙ k.live;
    numbered = k.number ∙ ap (λ n. n + 1) h.passed;
    passes = elim k.going [
      | inl x ↦ reading.Passes.going_on x (lines-then h.gives (record { gives = λ d ending. k.comes.gives d ending tt }))
      | inr x ↦ absurd (cc x.1)
    ];
    counted = λ d. refl;
    decided = k.decided;
    encoding = encoding-on s t.state new.state h.encoding k.encoding;
    ended = elim k.going [
      | inl x ↦ λ d. absurd (cc)
      | inr x ↦ absurd (cc x.1)
    ];
    lazy = h.lazy;
  }
  found {s} {t} {r = r} true new h last k =
      let stopped = last refl in
      let gives = k.comes.gives [] end (refl, refl) in
      let one = end-held t.state stopped.live stopped.none in
      let two : one.0 ∷ [] ≡ found_line new.state.passed new ∷ natural_to_come new.state [] end = sym one.1 ∙ gives.natural in
      let none : natural_to_come new.state [] end ≡ [] = cc in
      let done = done-end new.state none in
      let before : Gives s r [] t.state [] end = subst (λ v. Gives s v [] t.state [] end) (append-nil r) (h.gives.gives [] end) in
      record {
        bytes = r;
        read = h.read;
        live = sym h.done ∙ k.live;
        numbered = k.number ∙ ap (λ n. n + 1) h.passed;
        passes = reading.Passes.at_last done (gives-on before gives);
        counted = λ d. refl;
        decided = k.decided;
        encoding = encoding-on s t.state new.state h.encoding k.encoding;
        ended = λ d. stopped.ended;
        lazy = h.lazy;
      }

  -- ---- none is

  pub refused : {s : ReaderState} {t u : LineReading} {from to : R} {r : List ℕ} (next : R) (new : ReaderState) (e : LineError) → Along reader s from r t.state to → HoldsNone t u
      → IsReadError reader u to e next → FindsError reader s from e new next
  refused {r = r} next new why.Memory h k same =
      inr (inr (record {
        bytes = r;
        read = rw same h.read;
        lazy = inr (along-none h k.none);
        numbered = omega (arith, k.numbered, h.passed);
        is = refl;
      }))
  refused next new why.TooManyLines h k none = absurd none
  refused {s} {t} {u} {r = r} next new (why.Io number error) h k (is, failed) =
      let now = fault-held t.state k.live k.none in
      let before : Gives s r [] t.state [] fault = subst (λ v. Gives s v [] t.state [] fault) (append-nil r) (h.gives.gives [] fault) in
      let Failed : List ℕ → Type 0 = λ v. natural_to_come s v fault ≡ [] in
      let Last : List ℕ → Type 0 = λ v. last_to_come s v fault ≡ read_fault (s.passed + 1) ∷ [] in
      inl (record {
        bytes = r ++ [];
        error = error;
        numbered = omega (arith, k.numbered, h.passed);
        failed = failed-more h.read failed;
        is = ap (λ n. why.Io n error) (is ∙ ap (λ n. n + 1) (k.passed ∙ h.passed));
        natural = subst Failed (sym (append-nil r)) (before.natural ∙ now.0);
        last = subst Last (sym (append-nil r)) (before.last ∙ now.1 ∙ ap (λ n. read_fault (n + 1) ∷ []) h.passed);
        lazy = along-none h k.none;
      })
