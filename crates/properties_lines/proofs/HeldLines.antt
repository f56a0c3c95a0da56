-- The natural lines of a body that is held whole, as a scanner gives them.
use Rattle.std.proofs.Common.{inl, inr, ◌≡◌, ℕ, true, false, List, [], ◌∷◌, ◌++◌, drop, length, refl, sym, ap, subst, ◌∙◌, append-nil, length-drop, arith}
use Rattle.std.specs.Prelude.{Option, Some, None}
use Rattle.properties_format.specs.Text as text
use Rattle.properties_format.specs.Encoding.{Encoding, InForce, IsAligned}
use Rattle.properties_format.specs.Cut.{units}
use Rattle.properties_format.specs.Computed.Lines.{begins_with_lf}
use Rattle.properties_format.specs.Body.{HeldLine}
use Rattle.properties_format.specs.Computed.Body.{held_lines_of}
use Rattle.properties_format.proofs.Edited.Steps.{held_lines-line, held_lines-last}
use Rattle.properties_text.specs.Encoding.{encoding_of}
use Rattle.properties_lines.specs.Private.HeldLines.{held_line, IsInBody, held_lines_left}
use Rattle.properties_lines.specs.Scanner.{is_decided, scanner_state, front_of, raw_line_bytes, EndsWhole, IsCutOff, GivesScannedLine}
use Rattle.properties_lines.specs.declared.scanner.Front.{Front}
use Rattle.properties_lines.specs.declared.scanner.Front.TheVariants.{Mark, Feed, Nothing}
use Rattle.properties_lines.specs.declared.scanner.RawLine.{RawLine}
use Rattle.properties_lines.specs.declared.scanner.Scanner.{Scanner}
use Rattle.properties_lines.proofs.ScannerSearch.{short-feed}

-- ---- a line that is cut off

-- the lines after one with this ending: none where it is the last
abbrev lines_after : Encoding → Option text.LineEnding → List ℕ → List HeldLine
lines_after e None rest = []
lines_after e (Some by) rest = held_lines_of e rest

alone-cr : (e : Encoding) (by : text.LineEnding) (rest : List ℕ) → EndsWhole e (Some by) rest → by ≡ text.cr → begins_with_lf (units e rest) ≡ false
alone-cr e text.cr rest h k = h
alone-cr e text.lf rest h k = absurd (cc k)
alone-cr e text.crlf rest h k = absurd (cc k)

-- it comes first
pub cut-lines : (e : Encoding) (body : List ℕ) (line : RawLine) (next : ℕ) (h : IsCutOff e body line next)
    → held_lines_of e (drop line.start body) ≡ held_line e body line h.ending ∷ lines_after e h.ending (drop next body)
cut-lines e body line next h = by h.ending refl
  where
    by : (ending : Option text.LineEnding) → h.ending ≡ ending
        → held_lines_of e (drop line.start body) ≡ held_line e body line h.ending ∷ lines_after e h.ending (drop next body)
    by None k =
        let rest : drop next body ≡ [] = subst (λ v. EndsWhole e v (drop next body)) k h.whole in
        let same : drop line.start body ≡ raw_line_bytes body line = h.division ∙ rw k (ap (λ v. raw_line_bytes body line ++ v) rest ∙ append-nil (raw_line_bytes body line)) in
        ap (held_lines_of e) same ∙ held_lines-last e (raw_line_bytes body line) h.none ∙ rw k refl
    by (Some end) k =
        let whole : EndsWhole e (Some end) (drop next body) = subst (λ v. EndsWhole e v (drop next body)) k h.whole in
        let aligned : IsAligned e (raw_line_bytes body line) = elim h.aligned [ inl n ↦ absurd (cc (n, k)) | inr a ↦ a ] in
        ap (held_lines_of e) (h.division ∙ rw k refl)
        ∙ held_lines-line e (raw_line_bytes body line) end (drop next body) h.none aligned (alone-cr e end (drop next body) whole)
        ∙ rw k refl

-- ---- a scanner in a body

-- it goes on where it stands
body-front : (s : Scanner) (body : List ℕ) → IsInBody s body → front_of (scanner_state s body) ≡ record { encoding = encoding_of s.encoding; body = drop s.at body }
body-front s body h = by s.front refl
  where
    by : (front : Front) → s.front ≡ front → front_of (scanner_state s body) ≡ record { encoding = encoding_of s.encoding; body = drop s.at body }
    by Mark k = absurd (h.decided k)
    by Feed k = let none = h.alone k in rw (k, none) refl
    by Nothing k = rw k refl

-- the next line is of the same encoding, and starts there
pub body-next : (s new : Scanner) (body : List ℕ) → IsInBody s body → GivesScannedLine s body true new → (encoding_of new.encoding ≡ encoding_of s.encoding) × (new.line.start ≡ s.at)
body-next s new body h g =
    let front = sym (body-front s body h) ∙ g.front in
    let here : drop s.at body ≡ drop new.line.start body = ap (λ v. let w : InForce = v in w.body) front in
    let encoding = ap (λ v. let w : InForce = v in w.encoding) (sym front) in
    (encoding, omega (arith, ap length here, length-drop s.at body, length-drop new.line.start body, g.cut.ordered, h.fits.within))

-- it stands in the body after the line, too
pub body-after : (s new : Scanner) (body : List ℕ) → GivesScannedLine s body true new → IsInBody new body
body-after s new body g = record {
  fits = g.fits;
  decided = λ w. let x : is_decided Mark ≡ true = subst (λ v. is_decided v ≡ true) w g.decided in absurd (cc);
  alone = λ w. short-feed (encoding_of new.encoding) (drop new.at body) (g.short w);
}

-- the line is the first of them
pub body-line : (s new : Scanner) (body : List ℕ) → IsInBody s body → (g : GivesScannedLine s body true new)
    → held_lines_of (encoding_of s.encoding) (drop s.at body) ≡ held_line (encoding_of s.encoding) body new.line g.cut.ending ∷ held_lines_left body new
body-line s new body h g =
    let next = body-next s new body h g in
    let e = encoding_of new.encoding in
    let P : Encoding → Type 0 = λ v. held_lines_of v (drop s.at body) ≡ held_line v body new.line g.cut.ending ∷ held_lines_left body new in
    let first : P e =
    ap (λ n. held_lines_of e (drop n body)) (sym next.1)
    ∙ cut-lines e body new.line new.at g.cut
    ∙ ap (λ v. held_line e body new.line g.cut.ending ∷ v) (after g.cut.ending refl) in
    subst P next.0 first
  where
    after : (ending : Option text.LineEnding) → g.cut.ending ≡ ending → lines_after (encoding_of new.encoding) g.cut.ending (drop new.at body) ≡ held_lines_left body new
    after None k = elim g.going [
      | inl x ↦ absurd (x.1 k)
      | inr x ↦ rw (k, x.0) refl
    ]
    after (Some by) k = elim g.going [
      | inl x ↦ rw (k, x.0) refl
      | inr x ↦ absurd (cc (x.1, k))
    ]

-- as the lines left
pub body-lines_left : (s new : Scanner) (body : List ℕ) → IsInBody s body → (g : GivesScannedLine s body true new)
    → held_lines_left body s ≡ held_line (encoding_of s.encoding) body new.line g.cut.ending ∷ held_lines_left body new
body-lines_left s new body h g = let live = g.live in rw live (body-line s new body h g)
