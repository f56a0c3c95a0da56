-- How many line endings a source has, by its LFs or by a scan of its body.
use Rattle.std.proofs.Common.{◌≡◌, ◌≤◌, ℕ, suc, ◌+◌, ◌==◌, true, false, inl, inr, List, [], ◌∷◌, ◌++◌, length, None, refl, ap, sym, ◌∙◌, arith}
use Rattle.std.proofs.lemmas.Bool.{cases_Bool, false_from_ne_true}
use Rattle.memchr.specs.Find.{IsFirstByte, is_byte}
use Rattle.properties_format.specs.{Text.carriage_return, Text.piece_characters, Text.line_feed, Encoding.Encoding, Encoding.InForce, Encoding.byte_order_mark}
use Rattle.properties_format.specs.{ItemsToCome.ReaderState, ItemsToCome.start, Lines.Ended, Lines.line_endings, Computed.Body.held_lines_of}
use Rattle.properties_format.specs.{Computed.Body.held_of, Computed.Cut.cut_of, Computed.Encoding.decoded_of, Computed.Encoding.pieces_of}
use Rattle.properties_format.specs.{Computed.Lines.character_before, Computed.Lines.lines_of}
use Rattle.properties_format.proofs.Cut.Byline.{decoded_ended, decoded_lines-cut}
use Rattle.properties_text.specs.Encoding.{encoding_of}
use Rattle.properties_text.specs.declared.encoding.Encoding as code
use Rattle.properties_lines.specs.{Private.HeldLines.held_lines_left, Scanner.Fits, Scanner.GivesScannedLine, Scanner.scanner_state}
use Rattle.properties_lines.specs.declared.scanner.Scanner.{Scanner}
use Rattle.properties_lines.proofs.HeldLines.{body-lines_left}
use Rattle.properties_c.specs.Private.Results.{feeds}
use Rattle.properties_tables.specs.{Private.Flawed.IsScanning, declared.ill_formed.Flaw.TheVariants.NonAscii}
use Rattle.properties_tables.proofs.FlawedLines.{found-scanning, lines-body, scanning-start}

-- The lines before the scanner's place and those to come are the lines of the body.
pub record IsCounting (e : Encoding) (body : List ℕ) (s : Scanner) : Type 0 where
  pub scanning : IsScanning body s
  pub count : s.passed + length (held_lines_left body s) ≡ length (held_lines_of e body)

-- at the start
pub count-start : (e : Encoding) (source body : List ℕ) (s : Scanner) (f : code.Encoding)
    → byte_order_mark e source ≡ record { encoding = encoding_of f; body = body } → s.encoding ≡ f → Fits s body → s.at ≡ 0
    → scanner_state s body ≡ record (start (encoding_of f)) { is_decided = true; held = body } → IsCounting (encoding_of f) body s
count-start e source body s f in_force same fits at stands =
    let passed : s.passed ≡ 0 = ap (λ v. let w : ReaderState = v in w.passed) stands in
    let going : s.is_done ≡ false = ap (λ v. let w : ReaderState = v in w.is_done) stands in
    record {
      scanning = (scanning-start NonAscii body s f (lines-body NonAscii e source _ _ in_force refl) same fits at stands).0;
      count = rw (passed, going, at, same) (omega arith);
    }

-- after a line
pub count-next : {e : Encoding} {body : List ℕ} (s new : Scanner) → IsCounting e body s → GivesScannedLine s body true new → IsCounting e body new
count-next {e} {body} s new h g = record {
  scanning = found-scanning body s new h.scanning g;
  count = omega (arith, h.count, g.number, ap length (body-lines_left s new body h.scanning.in_body g));
}

-- ---- lines that LFs end

pub feeds-append : (xs ys : List ℕ) → feeds (xs ++ ys) ≡ feeds xs + feeds ys
feeds-append [] ys = omega arith
feeds-append (c ∷ xs) ys = elim (cases_Bool (c == line_feed)) [
  | inl k ↦ rw k (omega (arith, feeds-append xs ys))
  | inr k ↦ rw k (feeds-append xs ys)
]

pub feeds-bound : (xs : List ℕ) → feeds xs ≤ length xs
feeds-bound [] = omega arith
feeds-bound (c ∷ xs) = elim (cases_Bool (c == line_feed)) [
  | inl k ↦ rw k (omega (arith, feeds-bound xs))
  | inr k ↦ rw k (omega (arith, feeds-bound xs))
]

length-character_before : (c : ℕ) (ls : List Ended) (last : List ℕ) → line_endings (character_before c ls last) ≡ length ls
length-character_before c [] last = refl
length-character_before c (l ∷ ls) last = refl

pub feeds-lines : (d : List ℕ) → IsFirstByte (is_byte carriage_return) d None → feeds d ≡ line_endings (lines_of d)
feeds-lines [] h = refl
feeds-lines (c ∷ d) h =
    let later = feeds-lines d (λ k low high passes. h (suc k) (omega arith) (omega (arith, high)) passes) in
    let no_cr : (c == carriage_return) ≡ false = false_from_ne_true (c == carriage_return) (λ k. h 0 (omega arith) (omega arith) k) in
    elim (cases_Bool (c == line_feed)) [
      | inl k ↦ rw k (omega (arith, later))
      | inr k ↦ rw (k, no_cr) (omega (arith, later, length-character_before c (lines_of d).ended (lines_of d).last))
    ]

pub ruleset feeding = (feeds-append, feeds-bound, feeds-lines)

-- at the end
held-length : (e : Encoding) (ls : List Ended) (last : List ℕ) → length (held_of e ls last) ≡ length ls + 1
held-length e [] last = refl
held-length e (l ∷ ls) last = omega (arith, held-length e ls last)

decoded-length : (e : Encoding) (ls : List Ended) → length (decoded_ended e ls) ≡ length ls
decoded-length e [] = refl
decoded-length e (l ∷ ls) = omega (arith, decoded-length e ls)

-- The lines of a source are those that its body is cut into.
pub cut-lines : (e f : Encoding) (source body : List ℕ) → byte_order_mark e source ≡ record { encoding = f; body = body }
    → line_endings (lines_of (decoded_of e source)) ≡ line_endings (cut_of f body)
cut-lines e f source body in_force =
    ap (λ v. let w : InForce = v in line_endings (lines_of (piece_characters (pieces_of w.encoding w.body)))) in_force
    ∙ ap line_endings (sym (decoded_lines-cut f body)) ∙ decoded-length f (cut_of f body).ended

pub count-end : (e f : Encoding) (source body : List ℕ) (s : Scanner) → byte_order_mark e source ≡ record { encoding = f; body = body } → IsCounting f body s
    → s.is_done ≡ true → s.passed ≡ line_endings (lines_of (decoded_of e source)) + 1
count-end e f source body s in_force h done =
    let all : s.passed + 0 ≡ length (held_lines_of f body) = rw done at h.count in
    let lines : line_endings (lines_of (decoded_of e source)) ≡ length (cut_of f body).ended = cut-lines e f source body in_force in
    omega (arith, all, lines, held-length f (cut_of f body).ended (cut_of f body).last)
