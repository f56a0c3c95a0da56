-- What is known of the UTF-8 that a reader holds.
use Rattle.std.proofs.Common.{◌≡◌, ◌≢◌, ◌⊎◌, ◌<◌, ◌≤◌, ◌+◌, ◌-◌, ℕ, zero, suc, Bool, true, false, List, [], ◌∷◌, ◌++◌, length, take, drop, get_or, refl, sym, ap, ap₂, subst, ◌∙◌, inl, inr, arith}
use Rattle.std.specs.Prelude.{Option, Some, None}
use Rattle.std.specs.Str.{IsAscii, IsUtf8}
use Rattle.std.proofs.lemmas.Bool.{cases_Bool, cases_lt, eqb-true}
use Rattle.std.proofs.lemmas.List.{get_or-take, get_or-drop, take-take, drop-take, drop-drop, drop-append-le, length-drop, length-take-le, length-append, get_or_append_left, take-append-le, nil_from_length}
use Rattle.std.proofs.Math.Seq.{drop-append_seam}
use Rattle.std.proofs.lemmas.Str.{IsUtf8-take, IsUtf8-drop, IsUtf8-from_ascii, IsCharBoundary-before_ascii, IsCharBoundary-after_ascii}
use Rattle.properties_format.specs.Text as text
use Rattle.properties_format.specs.Encoding.{Encoding, InForce, windows_1252, utf_8, utf_16le, utf_16be}
use Rattle.properties_format.specs.Computed.Lines.{begins_with_lf}
use Rattle.properties_format.proofs.Encodings.WellFormed.{well_formed-from_IsUtf8, IsUtf8-from_well_formed}
use Rattle.properties_text.specs.Encoding.{encoding_of, IsLongestText}
use Rattle.properties_lines.specs.Scanner.{is_decided, after_cr, raw_line_bytes, scanner_state, front_of, feed_size, ending_bytes_in, EndsWhole, Fits, IsCutOff, GivesScannedLine, AsksForMore, Scans}
use Rattle.properties_lines.specs.LineSearch.{unit_size}
use Rattle.properties_lines.specs.LineReader.{LineReading, HasRightLineFlags}
use Rattle.properties_lines.specs.LogicalLine.{IsLineIn, TellsLine}
use Rattle.properties_lines.specs.Private.InputBuffer.{between, IsApart, KnowsText, IsTested}
use Rattle.properties_lines.specs.declared.scanner.RawLine.{RawLine}
use Rattle.properties_lines.specs.declared.scanner.Scanner.{Scanner}
use Rattle.properties_lines.specs.declared.scanner.Scan.{Scan}
use Rattle.properties_lines.specs.declared.scanner.Scan.TheVariants as scan
use Rattle.properties_lines.proofs.Scans.{kept-encoding}
use Rattle.properties_lines.proofs.ScannerFront.{release}

-- ---- parts of well-formed bytes

-- No bytes are well-formed.
no-bytes : IsUtf8 []
no-bytes = ([], (refl, refl))

-- An ASCII byte ends a character and begins one.
before-ascii : (bs : List ℕ) (k : ℕ) → IsUtf8 bs → k < length bs → get_or bs k 0 < 128 → IsUtf8 (take k bs)
before-ascii bs k u l a = IsUtf8-take bs k u (IsCharBoundary-before_ascii bs k l a)

-- What follows it is well-formed.
after-ascii : (bs : List ℕ) (k : ℕ) → IsUtf8 bs → k < length bs → get_or bs k 0 < 128 → IsUtf8 (drop (k + 1) bs)
after-ascii bs k u l a = IsUtf8-drop bs (k + 1) u (IsCharBoundary-after_ascii bs k u l a)

-- Nothing is between a place and one before it.
between-none : (a w : ℕ) (bs : List ℕ) → w ≤ a → between a w bs ≡ []
between-none a w bs h = ap (λ n. take n (drop a bs)) (let e : w - a ≡ 0 = omega arith in e)

-- How many bytes are between two places.
pub between-length : (a w : ℕ) (bs : List ℕ) → w ≤ length bs → length (between a w bs) ≡ w - a
between-length a w bs h = length-take-le (w - a) (drop a bs) (omega (arith, length-drop a bs))

-- One of them.
between-at : (a w k : ℕ) (bs : List ℕ) → a ≤ k → k < w → get_or (between a w bs) (k - a) 0 ≡ get_or bs k 0
between-at a w k bs l h =
    get_or-take (w - a) (drop a bs) (k - a) 0 (omega arith) ∙ get_or-drop a bs (k - a) 0 ∙ ap (λ n. get_or bs n 0) (let e : a + (k - a) ≡ k = omega arith in e)

-- The first of them.
between-take : (a m w : ℕ) (bs : List ℕ) → a ≤ m → m ≤ w → take (m - a) (between a w bs) ≡ between a m bs
between-take a m w bs l h = take-take (m - a) (w - a) (drop a bs) (omega arith)

-- The others.
between-drop : (a m w : ℕ) (bs : List ℕ) → a ≤ m → m ≤ w → drop (m - a) (between a w bs) ≡ between m w bs
between-drop a m w bs l h =
    let sum : w - a ≡ (m - a) + (w - m) = omega arith in
    let place : a + (m - a) ≡ m = omega arith in
    ap (λ n. drop (m - a) (take n (drop a bs))) sum ∙ drop-take (m - a) (w - m) (drop a bs)
    ∙ ap (take (w - m)) (drop-drop (m - a) a bs ∙ ap (λ n. drop n bs) place)

-- ---- a line and what follows it

-- A line, what follows it up to a place, and well-formed bytes from its start on.
pub record IsDivided (held : List ℕ) (start end next well_formed : ℕ) : Type 0 where
  pub line : end ≤ well_formed → IsUtf8 (between start end held)
  pub ahead : IsUtf8 (between next well_formed held)

module _ (held : List ℕ) (start end next w : ℕ) (u : IsUtf8 (between start w held)) (within : w ≤ length held) (order : start ≤ end) (after : end ≤ next)
    (ascii : (k : ℕ) → end ≤ k → k < next → get_or held k 0 < 128) (ends : (end < next) ⊎ (end ≡ length held)) where
  -- A byte of the ending is ASCII.
  byte-at : (k : ℕ) → end ≤ k → k < next → k < w → get_or (between start w held) (k - start) 0 < 128
  byte-at k l h i = let e = between-at start w k held (omega arith) i in let a = ascii k l h in omega (arith, e, a)

  -- The line is well-formed.
  line-text : end ≤ w → IsUtf8 (between start end held)
  line-text l = elim (cases_lt end w) [
    | inl less ↦ elim ends [
      | inl some ↦
          let inside : end - start < length (between start w held) = omega (arith, between-length start w held within) in
          subst IsUtf8 (between-take start end w held order l) (before-ascii (between start w held) (end - start) u inside (byte-at end (omega arith) some less))
      | inr all ↦ absurd (omega (arith, all))
    ]
    | inr most ↦ let same : w ≡ end = omega arith in subst (λ n. IsUtf8 (between start n held)) same u
  ]

  -- So is what follows its ending.
  rest-text : IsUtf8 (between next w held)
  rest-text = elim (cases_lt next w) [
    | inl less ↦ elim ends [
      | inl some ↦
          let last = next - 1 in
          let inside : last - start < length (between start w held) = omega (arith, between-length start w held within) in
          let place : last - start + 1 ≡ next - start = omega arith in
          let cut = after-ascii (between start w held) (last - start) u inside (byte-at last (omega arith) (omega arith) (omega arith)) in
          subst IsUtf8 (ap (λ n. drop n (between start w held)) place ∙ between-drop start next w held (omega arith) (omega arith)) cut
      | inr all ↦ absurd (omega (arith, all))
    ]
    | inr most ↦ subst IsUtf8 (sym (between-none next w held most)) no-bytes
  ]

  -- Both together.
  pub divided : IsDivided held start end next w
  divided = record { line = line-text; ahead = rest-text }

-- One ASCII byte may be skipped.
past-one : (held : List ℕ) (at w : ℕ) → IsUtf8 (between at w held) → w ≤ length held → get_or held at 0 < 128 → IsUtf8 (between (at + 1) w held)
past-one held at w u within a = elim (cases_lt at w) [
  | inl less ↦
      let e = between-at at w at held (omega arith) less in
      let zero : at - at ≡ 0 = omega arith in
      let first : get_or (between at w held) 0 0 < 128 = omega (arith, ap (λ n. get_or (between at w held) n 0) zero, e, a) in
      let some : 0 < length (between at w held) = omega (arith, between-length at w held within) in
      let one : at + 1 - at ≡ 1 = omega arith in
      subst IsUtf8 (ap (λ n. drop n (between at w held)) (sym one) ∙ between-drop at (at + 1) w held (omega arith) (omega arith)) (after-ascii (between at w held) 0 u some first)
  | inr most ↦ subst IsUtf8 (sym (between-none (at + 1) w held (omega arith))) no-bytes
]

-- ---- the ending of a line

-- An ending has a byte.
some-bytes : (ending : Option text.LineEnding) → ending ≢ None → 0 < length (ending_bytes_in utf_8 ending)
some-bytes None h = absurd (h refl)
some-bytes (Some text.lf) h = omega arith
some-bytes (Some text.cr) h = omega arith
some-bytes (Some text.crlf) h = omega arith

-- Its bytes are ASCII.
small-bytes : (ending : Option text.LineEnding) (k : ℕ) → get_or (ending_bytes_in utf_8 ending) k 0 < 128
small-bytes None k = omega arith
small-bytes (Some text.lf) zero = omega arith
small-bytes (Some text.lf) (suc k) = omega arith
small-bytes (Some text.cr) zero = omega arith
small-bytes (Some text.cr) (suc k) = omega arith
small-bytes (Some text.crlf) zero = omega arith
small-bytes (Some text.crlf) (suc zero) = omega arith
small-bytes (Some text.crlf) (suc (suc k)) = omega arith

module _ (e : Encoding) (is : e ≡ utf_8) (held : List ℕ) (line : RawLine) (next : ℕ) (cut : IsCutOff e held line next) where
  -- The ending comes after the line.
  after-line : drop line.end held ≡ ending_bytes_in utf_8 cut.ending ++ drop next held
  after-line =
      let place : line.start + (line.end - line.start) ≡ line.end = omega (arith, cut.ordered.0) in
      let size : length (raw_line_bytes held line) ≡ line.end - line.start = between-length line.start line.end held (omega (arith, cut.ordered.1, cut.ordered.2)) in
      ap (λ n. drop n held) (sym place)
      ∙ sym (drop-drop (line.end - line.start) line.start held)
      ∙ ap (drop (line.end - line.start)) cut.division
      ∙ ap (λ n. drop n (raw_line_bytes held line ++ (ending_bytes_in e cut.ending ++ drop next held))) (sym size)
      ∙ drop-append_seam (raw_line_bytes held line) (ending_bytes_in e cut.ending ++ drop next held)
      ∙ ap (λ v. ending_bytes_in v cut.ending ++ drop next held) is

  -- How long it is.
  ending-size : length (ending_bytes_in utf_8 cut.ending) ≡ next - line.end
  ending-size =
      let all = ap length after-line in
      omega (arith, all, length-append (ending_bytes_in utf_8 cut.ending) (drop next held), length-drop line.end held, length-drop next held, cut.ordered.1, cut.ordered.2)

  -- Its bytes are ASCII.
  pub ascii-after : (k : ℕ) → line.end ≤ k → k < next → get_or held k 0 < 128
  ascii-after k l h =
      let place : line.end + (k - line.end) ≡ k = omega arith in
      let at : get_or held k 0 ≡ get_or (ending_bytes_in utf_8 cut.ending) (k - line.end) 0 =
      ap (λ n. get_or held n 0) (sym place)
      ∙ sym (get_or-drop line.end held (k - line.end) 0)
      ∙ ap (λ v. get_or v (k - line.end) 0) after-line
      ∙ get_or_append_left (ending_bytes_in utf_8 cut.ending) (drop next held) 0 (k - line.end) (omega (arith, ending-size)) in
      omega (arith, at, small-bytes cut.ending (k - line.end))

  -- An ending ends later than the line.
  pub some-ending : cut.ending ≢ None → line.end < next
  some-ending h = omega (arith, ending-size, some-bytes cut.ending h)

  -- A line without one is the last.
  pub no-ending : cut.ending ≡ None → line.end ≡ length held
  no-ending h =
      let rest : drop next held ≡ [] = subst (λ v. EndsWhole e v (drop next held)) h cut.whole in
      let none : length (ending_bytes_in utf_8 cut.ending) ≡ 0 = ap (λ v. length (ending_bytes_in utf_8 v)) h in
      omega (arith, ending-size, none, ap length rest, length-drop next held, cut.ordered.1, cut.ordered.2)

-- ---- where the next line begins

-- The place stays, or one ASCII byte is skipped.
abbrev Moves : List ℕ → ℕ → ℕ → Type 0
Moves held at to = (to ≡ at) ⊎ (to ≡ at + 1) × (get_or held at 0 < 128)

-- Equal rests begin at one place.
same-place : (held : List ℕ) (at to : ℕ) → at ≤ length held → to ≤ length held → drop at held ≡ drop to held → to ≡ at
same-place held at to l h e = omega (arith, ap length e, length-drop at held, length-drop to held)

-- An LF at the front is skipped.
past-feed : (held : List ℕ) (at to : ℕ) → at ≤ length held → to ≤ length held
    → drop (feed_size utf_8 (drop at held)) (drop at held) ≡ drop to held → Moves held at to
past-feed held at to l h e = elim (cases_Bool (begins_with_lf (drop at held))) [
  | inl t ↦
      let one : drop 1 (drop at held) ≡ drop to held = rw t at e in
      let some = feed (drop at held) t in
      let first : get_or held at 0 ≡ 10 = sym (get_or-drop at held 0 0 ∙ ap (λ n. get_or held n 0) (let z : at + 0 ≡ at = omega arith in z)) ∙ some.1 in
      inr (omega (arith, ap length one, length-drop 1 (drop at held), length-drop at held, length-drop to held, some.0), omega (arith, first))
  | inr f ↦ inl (same-place held at to l h (rw f at e))
]
  where
    feed : (bs : List ℕ) → begins_with_lf bs ≡ true → (0 < length bs) × (get_or bs 0 0 ≡ 10)
    feed [] t = absurd (cc)
    feed (b ∷ bs) t = (omega arith, eqb-true b 10 t)

-- The LF of the line ending before may be skipped.
moves : (s : Scanner) (held : List ℕ) (to : ℕ) (e : Encoding) → is_decided s.front ≡ true → encoding_of s.encoding ≡ utf_8
    → front_of (scanner_state s held) ≡ record { encoding = e; body = drop to held } → s.at ≤ length held → to ≤ length held → Moves held s.at to
moves s held to e d is h l m =
    let body = ap (λ v. let w : InForce = v in w.body) (rw d at h) in
    elim (cases_Bool (after_cr s.front)) [
      | inl t ↦ past-feed held s.at to l m (subst (λ v. drop (feed_size v (drop s.at held)) (drop s.at held) ≡ drop to held) is (rw t at body))
      | inr f ↦ inl (same-place held s.at to l m (rw f at body))
    ]

-- What follows is still well-formed.
moved-text : (held : List ℕ) (at to w : ℕ) → IsUtf8 (between at w held) → w ≤ length held → Moves held at to → IsUtf8 (between to w held)
moved-text held at to w u l (inl same) = subst (λ n. IsUtf8 (between n w held)) (sym same) u
moved-text held at to w u l (inr more) = subst (λ n. IsUtf8 (between n w held)) (sym more.0) (past-one held at w u l more.1)

-- ---- a line was found

-- What is known after a line was found.
found-text : (old new : Scanner) (held : List ℕ) (ended : Bool) (w : ℕ) → Fits old held → IsTested old held w → GivesScannedLine old held ended new
    → encoding_of new.encoding ≡ utf_8
    → KnowsText new held w
found-text old new held ended w f t g is =
    let e = encoding_of new.encoding in
    let line = new.line in
    let start : line.start ≤ length held = omega (arith, g.fits.line.0, g.fits.line.1) in
    let u : IsUtf8 (between line.start w held) = elim (cases_lt 0 w) [
      | inl some ↦
          let k = t.known some in
          moved-text held old.at line.start w (t.text k.0 k.1).ahead t.within (moves old held line.start e k.0 k.1 g.front f.within start)
      | inr none ↦ subst IsUtf8 (sym (between-none line.start w held (omega arith))) no-bytes
    ] in
    let ends : (line.end < new.at) ⊎ (line.end ≡ length held) × (new.is_done ≡ true) = elim g.going [
      | inl x ↦ inl (some-ending e is held line new.at g.cut x.1)
      | inr x ↦ inr (no-ending e is held line new.at g.cut x.1, x.0)
    ] in
    let either : (line.end < new.at) ⊎ (line.end ≡ length held) = elim ends [ inl x ↦ inl x | inr x ↦ inr x.0 ] in
    let ascii = ascii-after e is held line new.at g.cut in
    let d = divided held line.start line.end new.at w u t.within g.cut.ordered.0 g.cut.ordered.1 ascii either in
    record {
      ahead = d.ahead;
      line = d.line;
      around = inr (record { order = g.cut.ordered.1; within = g.cut.ordered.2; ascii = ascii; ends = ends });
    }

-- The invariant after that.
tested-line : (old new : Scanner) (held : List ℕ) (ended : Bool) (w : ℕ) → Fits old held → IsTested old held w → GivesScannedLine old held ended new
    → IsTested new held w
tested-line old new held ended w f t g = record {
  within = t.within;
  known = λ some.
      let k = t.known some in
      (g.decided, kept-encoding (scanner_state old held) (encoding_of new.encoding) (drop new.line.start held) k.0 g.front ∙ k.1);
  fresh = λ u. let d = g.decided in absurd (cc);
  text = λ d is. found-text old new held ended w f t g is;
}

-- ---- no line was found yet

-- What is known after an LF was skipped.
more-text : (s new : Scanner) (held : List ℕ) (w : ℕ) → KnowsText s held w → w ≤ length held → new.at ≤ length held → new.line ≡ s.line
    → new.is_done ≡ s.is_done → Moves held s.at new.at
    → KnowsText new held w
more-text s new held w t l m line done moved = record {
  ahead = moved-text held s.at new.at w t.ahead l moved;
  line = subst (λ v. let x : RawLine = v in x.end ≤ w → IsUtf8 (raw_line_bytes held x)) (sym line) t.line;
  around = elim t.around [
    | inl empty ↦ inl (subst (λ v. let x : RawLine = v in x.start ≡ x.end) (sym line) empty)
    | inr apart ↦ inr (further apart moved)
  ];
}
  where
    end-is : new.line.end ≡ s.line.end
    end-is = ap (λ v. let x : RawLine = v in x.end) line

    further : IsApart s held → Moves held s.at new.at → IsApart new held
    further a (inl same) = record {
      order = omega (arith, a.order, same, end-is);
      within = m;
      ascii = λ k h i. a.ascii k (omega (arith, h, end-is)) (omega (arith, i, same));
      ends = elim a.ends [ inl x ↦ inl (omega (arith, x, same, end-is)) | inr x ↦ inr (end-is ∙ x.0, done ∙ x.1) ];
    }
    further a (inr more) = record {
      order = omega (arith, a.order, more.0, end-is);
      within = m;
      ascii = λ k h i. elim (cases_lt k s.at) [
        | inl less ↦ a.ascii k (omega (arith, h, end-is)) less
        | inr last ↦ let same : k ≡ s.at = omega (arith, i, more.0) in subst (λ n. get_or held n 0 < 128) (sym same) more.1
      ];
      ends = inl (omega (arith, a.order, more.0, end-is));
    }

-- Before anything was tested, and before a line.
empty-text : (s : Scanner) (held : List ℕ) (w : ℕ) → w ≡ 0 → s.line.start ≡ s.line.end → KnowsText s held w
empty-text s held w none empty = record {
  ahead = subst IsUtf8 (sym (between-none s.at w held (omega (arith, none)))) no-bytes;
  line = λ l. subst IsUtf8 (sym (between-none s.line.start s.line.end held (omega (arith, empty)))) no-bytes;
  around = inl empty;
}

-- The invariant where more bytes are asked for.
tested-more : (old new : Scanner) (held : List ℕ) (w : ℕ) → Fits old held → IsTested old held w → AsksForMore old held new → IsTested new held w
tested-more old new held w f t g = record {
  within = t.within;
  known = λ some. let k = t.known some in let e = g.encoding k.0 in (e.0, e.1 ∙ k.1);
  fresh = λ u. elim (cases_Bool (is_decided old.front)) [
    | inl d ↦ let e = (g.encoding d).0 in absurd (cc)
    | inr n ↦ subst (λ v. let x : RawLine = v in x.start ≡ x.end) (sym g.line) (t.fresh n)
  ];
  text = λ d is. elim (cases_Bool (is_decided old.front)) [
    | inl was ↦
        let before : encoding_of old.encoding ≡ utf_8 = sym (g.encoding was).1 ∙ is in
        let moved : Moves held old.at new.at = elim g.front [
          | inl same ↦ inl same
          | inr front ↦ moves old held new.at (encoding_of new.encoding) was before front f.within g.fits.within
        ] in
        more-text old new held w (t.text was before) t.within g.fits.within g.line g.done moved
    | inr n ↦
        let none : w ≡ 0 = elim (cases_lt 0 w) [ inl some ↦ (let k = (t.known some).0 in absurd (cc)) | inr h ↦ omega arith ] in
        empty-text new held w none (subst (λ v. let x : RawLine = v in x.start ≡ x.end) (sym g.line) (t.fresh n))
  ];
}

-- The invariant after any scan.
pub tested-scan : (old new : Scanner) (held : List ℕ) (ended : Bool) (w : ℕ) (answer : Scan) → Fits old held → IsTested old held w
    → Scans old held ended answer new
    → IsTested new held w
tested-scan old new held ended w scan.Line f t g = tested-line old new held ended w f t g
tested-scan old new held ended w scan.More f t g = tested-more old new held w f t g.1
tested-scan old new held ended w scan.End f t g = subst (λ v. IsTested v held w) (sym g.1) t
tested-scan old new held ended w scan.TooMany f t g = subst (λ v. IsTested v held w) (sym g.2) t

-- ---- the end, and reading on

-- Bytes at the front were let go.
pub tested-left : (s new : Scanner) (held rest : List ℕ) (gone w : ℕ) → IsTested s held w → gone ≤ s.at → new ≡ release s gone → rest ≡ drop gone held
    → IsTested new rest (w - gone)
tested-left s new held rest gone w t l is same =
    subst (λ v. IsTested v rest (w - gone)) (sym is) (subst (λ v. IsTested (release s gone) v (w - gone)) (sym same) (record {
      within = omega (arith, t.within, length-drop gone held);
      known = λ some. t.known (omega arith);
      fresh = λ u. refl;
      text = λ d e.
          let place : gone + (s.at - gone) ≡ s.at = omega arith in
          let size : (w - gone) - (s.at - gone) ≡ w - s.at = omega arith in
          let kept : between (s.at - gone) (w - gone) (drop gone held) ≡ between s.at w held =
          ap₂ take size (drop-drop (s.at - gone) gone held ∙ ap (λ n. drop n held) place) in
          record { ahead = subst IsUtf8 (sym kept) (t.text d e).ahead; line = λ h. no-bytes; around = inl refl };
    }))

-- Bytes were added after those that are held.
pub tested-filled : (s : Scanner) (held all more : List ℕ) (w : ℕ) → IsTested s held w → s.at ≤ length held → s.line.start ≡ s.line.end
    → all ≡ held ++ more → IsTested s all w
tested-filled s held all more w t l empty same = subst (λ v. IsTested s v w) (sym same) (record {
  within = omega (arith, t.within, length-append held more);
  known = t.known;
  fresh = t.fresh;
  text = λ d e. record {
    ahead = elim (cases_lt s.at w) [
      | inl less ↦
          let kept : between s.at w (held ++ more) ≡ between s.at w held =
          ap (take (w - s.at)) (drop-append-le s.at held more l)
          ∙ take-append-le (w - s.at) (drop s.at held) more (omega (arith, length-drop s.at held, t.within)) in
          subst IsUtf8 (sym kept) (t.text d e).ahead
      | inr past ↦ subst IsUtf8 (sym (between-none s.at w (held ++ more) past)) no-bytes
    ];
    line = λ h. subst IsUtf8 (sym (between-none s.line.start s.line.end (held ++ more) (omega (arith, empty)))) no-bytes;
    around = inl empty;
  };
})

-- ---- testing

module _ (s : Scanner) (held : List ℕ) (w most n : ℕ) (t : IsTested s held w) (d : is_decided s.front ≡ true) (e : encoding_of s.encoding ≡ utf_8) (some : s.line.start < s.line.end)
    (long : s.line.end ≤ length held) (within : most ≤ length held) (reaches : s.line.end ≤ most) (found : IsLongestText (between s.line.start most held) n) where
  -- How many bytes are tested.
  size : length (between s.line.start most held) ≡ most - s.line.start
  size = between-length s.line.start most held within

  -- The well-formed front ends within them.
  below : s.line.start + n ≤ most
  below = omega (arith, found.within, size)

  -- It is well-formed.
  whole : IsUtf8 (between s.line.start (s.line.start + n) held)
  whole =
      let count : s.line.start + n - s.line.start ≡ n = omega arith in
      subst IsUtf8 (ap (λ m. take m (between s.line.start most held)) (sym count) ∙ between-take s.line.start (s.line.start + n) most held (omega arith) below) found.text

  -- The line has a byte, so it is a line that was found.
  apart : IsApart s held
  apart = elim (t.text d e).around [ inl empty ↦ absurd (omega (arith, empty)) | inr a ↦ a ]

  -- The line, and what follows its ending.
  parts : IsDivided held s.line.start s.line.end s.at (s.line.start + n)
  parts =
      let either : (s.line.end < s.at) ⊎ (s.line.end ≡ length held) = elim apart.ends [ inl x ↦ inl x | inr x ↦ inr x.0 ] in
      divided held s.line.start s.line.end s.at (s.line.start + n) whole (omega (arith, below)) (omega arith) apart.order apart.ascii either

  -- The invariant after a test.
  pub tested-now : IsTested s held (s.line.start + n)
  tested-now = record {
    within = omega (arith, below);
    known = λ h. (d, e);
    fresh = t.fresh;
    text = λ x y. record { ahead = parts.ahead; line = parts.line; around = inr apart };
  }

  -- A line within the front is well-formed.
  pub reached : s.line.end ≤ (s.line.start + n) → IsUtf8 (raw_line_bytes held s.line)
  reached = parts.line

  -- A line beyond it is not.
  pub not-reached : (s.line.start + n) < s.line.end → IsUtf8 (raw_line_bytes held s.line) → ⊥
  not-reached less u =
      let line : IsUtf8 (take (s.line.end - s.line.start) (between s.line.start most held)) =
      subst IsUtf8 (sym (between-take s.line.start s.line.end most held (omega arith) reaches)) u in
      let h = found.longest (s.line.end - s.line.start) (omega (arith, size)) line in
      omega (arith, h)

  -- The test says whether the line is well-formed.
  pub tells-text : (b : Bool) → (b ≡ true → s.line.end ≤ s.line.start + n) → (b ≡ false → s.line.start + n < s.line.end)
      → TellsLine utf_8 (raw_line_bytes held s.line) b
  tells-text true h k = well_formed-from_IsUtf8 (raw_line_bytes held s.line) (reached (h refl))
  tells-text false h k = λ w. not-reached (k refl) (IsUtf8-from_well_formed (raw_line_bytes held s.line) w)

-- ---- a line that needs no test

-- ASCII needs no decoding.
pub ascii-line : (e : Encoding) (bytes : List ℕ) → unit_size e ≡ 1 → IsAscii bytes → IsLineIn e bytes
ascii-line windows_1252 bytes h a = tt
ascii-line utf_8 bytes h a = well_formed-from_IsUtf8 bytes (IsUtf8-from_ascii bytes a)
ascii-line utf_16le bytes h a = absurd (omega (arith, h))
ascii-line utf_16be bytes h a = absurd (omega (arith, h))

-- A line that isn't ASCII has a byte.
pub some-byte : (f : LineReading) → HasRightLineFlags f → f.state.encoding ≡ utf_8 → f.is_ascii ≡ false → 0 < length f.line
some-byte f flags e not = elim (cases_lt 0 (length f.line)) [
  | inl some ↦ some
  | inr none ↦
      let size : unit_size f.state.encoding ≡ 1 = ap unit_size e in
      let empty : f.line ≡ [] = nil_from_length f.line (omega arith) in
      let ascii = (flags 0 0).ascii.1 (size, subst IsAscii (sym empty) (λ i. omega arith)) in
      absurd (let a : f.is_ascii ≡ true = ascii in cc)
]

-- A line within what was tested before.
pub known-text : (s : Scanner) (held : List ℕ) (w : ℕ) (e : Encoding) (b : Bool) → IsTested s held w → is_decided s.front ≡ true
    → encoding_of s.encoding ≡ utf_8 → e ≡ utf_8 → s.line.end ≤ w
    → (b ≡ false → w < s.line.end) → TellsLine e (raw_line_bytes held s.line) b
known-text s held w e true t d is same l h =
    subst (λ v. IsLineIn v (raw_line_bytes held s.line)) (sym same) (well_formed-from_IsUtf8 (raw_line_bytes held s.line) ((t.text d is).line l))
known-text s held w e false t d is same l h = absurd (omega (arith, l, h refl))

-- ---- the invariant of a reader

-- A scan leaves a scanner that fits.
pub fits-scan : (old new : Scanner) (held : List ℕ) (ended : Bool) (answer : Scan) → Fits old held → Scans old held ended answer new → Fits new held
fits-scan old new held ended scan.Line f g = g.fits
fits-scan old new held ended scan.More f g = g.1.fits
fits-scan old new held ended scan.End f g = subst (λ v. Fits v held) (sym g.1) f
fits-scan old new held ended scan.TooMany f g = subst (λ v. Fits v held) (sym g.2) f

-- An ended scan stays at its end.
pub done-scan : (old new : Scanner) (held : List ℕ) (ended : Bool) (answer : Scan) → old.is_done ≡ true → Scans old held ended answer new → new.is_done ≡ true
done-scan old new held ended scan.Line d g = let l = g.live in absurd (cc)
done-scan old new held ended scan.More d g = let l = g.1.live in absurd (cc)
done-scan old new held ended scan.End d g = ap (λ v. let x : Scanner = v in x.is_done) g.1 ∙ d
done-scan old new held ended scan.TooMany d g = let l = g.0 in absurd (cc)

-- Without the bytes of the last line it is empty.
pub released-empty : (s new : Scanner) (gone : ℕ) → new ≡ release s gone → new.line.start ≡ new.line.end
released-empty s new gone is = rw is refl
