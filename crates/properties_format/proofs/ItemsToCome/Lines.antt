-- The natural lines to come, step by step: bytes are read, the byte order mark is determined, an LF is skipped, a line
-- is taken, the input ends.
use Rattle.std.proofs.Common.{rules, arith, ◌≡◌, ◌==◌, ℕ, ◌+◌, ◌<◌, Bool, true, false, List, [], ◌∷◌, ◌++◌, length, refl, ap, ap₂, sym, ◌∙◌, inl, inr, append_assoc, append-nil, eqb-true, add-zero}
use Rattle.std.proofs.lemmas.Bool.{or_cases}
use Rattle.properties_format.specs.Text.{line_feed, carriage_return, is_line_ending, LineEnding, lf, piece_characters}
use Rattle.properties_format.specs.Encoding.{InForce, ascii_bytes, byte_order_mark, IsAligned}
use Rattle.properties_format.specs.Computed.Encoding.{pieces_of, awaits_bom}
use Rattle.properties_format.specs.Computed.Cut.{decoded_line}
use Rattle.properties_format.specs.Lines.{HoldsNoLineEnding, InputEnd, end, more, numbered}
use Rattle.properties_format.specs.Computed.Lines.{begins_with_lf, rest_of_end, lines_of}
use Rattle.properties_format.specs.Items.{last_entries}
use Rattle.properties_format.specs.ItemsToCome.{ReaderState, in_force}
use Rattle.properties_format.specs.Computed.ItemsToCome.{text_to_come, natural_to_come, last_to_come, Gives, after_decided, after_passed, next_line, HoldsNoEnd}
use Rattle.properties_format.proofs.Encodings.ByteOrderMarks.{byte_order_mark-append, followed}
use Rattle.properties_format.proofs.Lines.Only.{lines_of-plain}
use Rattle.properties_format.proofs.Lines.Plain.{one-more, plain-no_lf, without_leading_lf-none}
use Rattle.properties_format.proofs.Cut.Units.{lf_first-append}
use Rattle.properties_format.proofs.Cut.Byline.{no_end-decoded, end-ascii}
use Rattle.properties_format.proofs.Cut.Steps.{line_in_front}
use Rattle.properties_format.proofs.Cut.ToCome.{decoded-no_lf}
use Rattle.properties_format.specs.Cut.{units, HoldsNoLineEndingUnit}
use Rattle.properties_format.proofs.Lines.Steps.{lines_of-line, lines_of-cr, cr_end}
use Rattle.properties_format.proofs.Encodings.Cuts.{characters-cut_ascii}
use Rattle.properties_format.proofs.Encodings.Characters.{pieces_of-ascii}

-- ---- the steps

-- the state after a line was taken that this character ended, with these bytes left
abbrev pub after_line : ReaderState → ℕ → List ℕ → ReaderState
after_line s c rest = record s { held = rest; passed = s.passed + 1; after_cr = c == carriage_return }

-- The bytes that are held are the line l, the line ending c, and the rest.
pub record HoldsLine (s : ReaderState) (l : List ℕ) (c : ℕ) (rest : List ℕ) : Type 0 where
  pub going : s.is_done ≡ false
  pub decided : s.is_decided ≡ true
  pub passed : s.after_cr ≡ false
  pub held : s.held ≡ l ++ (ascii_bytes s.encoding c ++ rest)
  pub ends : is_line_ending c ≡ true
  pub aligned : IsAligned s.encoding l
  pub none : HoldsNoLineEndingUnit s.encoding l

-- ---- states with equal text to come

-- If the text to come is equal in two states, so is what the reader returns.
gives-text : (s t : ReaderState) (x y : List ℕ) (ending : InputEnd) → s.is_done ≡ t.is_done → s.passed ≡ t.passed → text_to_come s x ≡ text_to_come t y
    → Gives s x [] t y ending
unfolding natural_to_come last_to_come
gives-text s t x y ending h k m = grind (arith)

-- the text of some bytes in an encoding, after a line ending
abbrev text_of : Bool → InForce → List ℕ
text_of after_cr m = rest_of_end after_cr (piece_characters (pieces_of m.encoding m.body))

-- The text to come once the encoding is determined.
text-decided : (s : ReaderState) (d : List ℕ) → s.is_decided ≡ true → text_to_come s d ≡ rest_of_end s.after_cr (decoded_line s.encoding (s.held ++ d))
text-decided s d h = rw h refl

-- ---- reading, and the byte order mark

-- Bytes that are read are held, and come before those to come.
pub gives-read : (s : ReaderState) (r d : List ℕ) (ending : InputEnd) → Gives s (r ++ d) [] (record s { held = s.held ++ r }) d ending
gives-read s r d ending = search (append_assoc, gives-text)

-- Held bytes that don't wait for more determine the byte order mark.
pub gives-decided : (s : ReaderState) (d : List ℕ) (ending : InputEnd) → s.is_decided ≡ false → awaits_bom s.held ≡ false
    → Gives s d [] (after_decided s) d ending
gives-decided s d ending h k =
    let e : in_force s d ≡ byte_order_mark s.encoding (s.held ++ d) = rw h refl in
    gives-text s (after_decided s) d d ending refl refl (ap (text_of s.after_cr) (e ∙ byte_order_mark-append s.encoding s.held d k))

-- If nothing more comes, any held bytes determine it.
pub gives-decided_last : (s : ReaderState) (ending : InputEnd) → s.is_decided ≡ false → Gives s [] [] (after_decided s) [] ending
gives-decided_last s ending h =
    let m = byte_order_mark s.encoding s.held in
    let e : in_force s [] ≡ byte_order_mark s.encoding (s.held ++ []) = rw h refl in
    let f : byte_order_mark s.encoding (s.held ++ []) ≡ followed m [] =
    ap (byte_order_mark s.encoding) (append-nil s.held) ∙ ap (λ v. let r : InForce = record { encoding = m.encoding; body = v } in r) (sym (append-nil m.body)) in
    gives-text s (after_decided s) [] [] ending refl refl (ap (text_of s.after_cr) (e ∙ f))

-- ---- after a CR

-- An LF unit after a CR is skipped.
pub gives-passed_lf : (s : ReaderState) (rest d : List ℕ) (ending : InputEnd) → s.is_decided ≡ true → s.after_cr ≡ true
    → s.held ≡ ascii_bytes s.encoding line_feed ++ rest → Gives s d [] (after_passed s rest) d ending
gives-passed_lf s rest d ending h k m =
    let e : s.held ++ d ≡ ascii_bytes s.encoding line_feed ++ (rest ++ d) = ap (λ v. v ++ d) m ∙ append_assoc (ascii_bytes s.encoding line_feed) rest d in
    let f : decoded_line s.encoding (s.held ++ d) ≡ line_feed ∷ decoded_line s.encoding (rest ++ d) = grind (arith, pieces_of-ascii) in
    let g : text_to_come s d ≡ decoded_line s.encoding (rest ++ d) = text-decided s d h ∙ ap₂ rest_of_end k f in
    gives-text s (after_passed s rest) d d ending refl refl (g ∙ sym (text-decided (after_passed s rest) d h))

-- If no LF comes first, none is left out.
rest_of_end-none : (after_cr : Bool) (x : List ℕ) → begins_with_lf x ≡ false → rest_of_end after_cr x ≡ x
rest_of_end-none after_cr x h1 = grind (arith, without_leading_lf-none)

-- If no LF unit comes first, a CR before it doesn't matter.
gives-passed : (s : ReaderState) (d : List ℕ) (ending : InputEnd) → s.is_decided ≡ true → begins_with_lf (units s.encoding (s.held ++ d)) ≡ false
    → Gives s d [] (after_passed s s.held) d ending
gives-passed s d ending h k = search (rest_of_end-none, decoded-no_lf, gives-text, text-decided)

-- Bytes with a whole unit that isn't an LF show that none has to be skipped.
pub gives-passed_none : (s : ReaderState) (d : List ℕ) (ending : InputEnd) → s.is_decided ≡ true → 0 < length (units s.encoding s.held)
    → begins_with_lf (units s.encoding s.held) ≡ false → Gives s d [] (after_passed s s.held) d ending
gives-passed_none s d ending h k m = gives-passed s d ending h (lf_first-append s.encoding s.held d k ∙ m)

-- If nothing more comes, any bytes that don't begin with an LF unit show it.
pub gives-passed_last : (s : ReaderState) (ending : InputEnd) → s.is_decided ≡ true → begins_with_lf (units s.encoding s.held) ≡ false
    → Gives s [] [] (after_passed s s.held) [] ending
gives-passed_last s ending h m = gives-passed s [] ending h (ap (λ v. begins_with_lf (units s.encoding v)) (append-nil s.held) ∙ m)

-- ---- a line

-- A line and the character that ends it, before any text.
pub lines_of-ended : (text : List ℕ) (c : ℕ) (y : List ℕ) → HoldsNoLineEnding text → is_line_ending c ≡ true
    → (by : LineEnding)
    × (lines_of (text ++ c ∷ y) ≡ line_in_front text by (lines_of (rest_of_end (c == carriage_return) y)))
lines_of-ended text c y h k = elim (or_cases (c == line_feed) (c == carriage_return) k) [
  | inl e ↦ rw (eqb-true c line_feed e) (lf, lines_of-line text lf y h (λ e. absurd (cc)))
  | inr e ↦ rw (eqb-true c carriage_return e) (cr_end y, lines_of-cr text y h)
]

-- The first line of the text to come is known.
gives-lines : (s t : ReaderState) (d : List ℕ) (ending : InputEnd) (text : List ℕ) (by : LineEnding) → s.is_done ≡ false → t.is_done ≡ false
    → t.passed ≡ s.passed + 1 → lines_of (text_to_come s d) ≡ line_in_front text by (lines_of (text_to_come t d))
    → Gives s d (record { number = s.passed + 1; text = text } ∷ []) t d ending
unfolding natural_to_come last_to_come
gives-lines s t d ending text by h k m e = grind (arith, one-more)

-- The decoded line is known to contain no line ending.
line-plain : (s : ReaderState) (l : List ℕ) (c : ℕ) (rest d : List ℕ) (ending : InputEnd) → HoldsLine s l c rest → HoldsNoLineEnding (decoded_line s.encoding l)
    → Gives s d (next_line s l ∷ []) (after_line s c rest) d ending
line-plain s l c rest d ending h plain =
    let text = decoded_line s.encoding l in
    let t : ReaderState = after_line s c rest in
    let y = decoded_line s.encoding (rest ++ d) in
    let e : s.held ++ d ≡ l ++ (ascii_bytes s.encoding c ++ (rest ++ d)) = grind (arith, append_assoc) in
    let f : text_to_come s d ≡ text ++ c ∷ y = grind (arith, text-decided, characters-cut_ascii, end-ascii) in
    let g : rest_of_end (c == carriage_return) y ≡ text_to_come t d = sym (text-decided t d h.decided) in
    let k = lines_of-ended text c y plain h.ends in
    gives-lines s t d ending text k.0 h.going h.going refl (ap lines_of f ∙ k.1 ∙ ap (λ v. line_in_front text k.0 (lines_of v)) g)

-- A line among the held bytes comes next, followed by what comes of the rest.
pub gives-line : (s : ReaderState) (l : List ℕ) (c : ℕ) (rest d : List ℕ) (ending : InputEnd) → HoldsLine s l c rest
    → Gives s d (next_line s l ∷ []) (after_line s c rest) d ending
gives-line s l c rest d ending h = line-plain s l c rest d ending h (no_end-decoded s.encoding l h.none)

-- ---- nothing comes

-- What is returned if nothing more comes.
at-last : (s : ReaderState) (ending : InputEnd) → HoldsNoEnd s → HoldsNoLineEnding (decoded_line s.encoding s.held)
    → (natural_to_come s [] ending ≡ numbered s.passed [] (next_line s s.held).text ending) × (last_to_come s [] ending ≡ last_entries s.passed ending)
unfolding natural_to_come last_to_come
at-last s ending h plain = search (rules, add-zero, text-decided, append-nil, rest_of_end-none, plain-no_lf, lines_of-plain)

-- If the reader is permanently at its end, no line comes.
pub natural-done : (s : ReaderState) (d : List ℕ) (ending : InputEnd) → s.is_done ≡ true → (natural_to_come s d ending ≡ []) × (last_to_come s d ending ≡ [])
unfolding natural_to_come last_to_come
natural-done s d ending h = rw h (refl, refl)

-- If the input ends, the held bytes are the last line, and then the reader is at its end.
pub gives-last : (s t : ReaderState) (y : List ℕ) → HoldsNoEnd s → t.is_done ≡ true → Gives s [] (next_line s s.held ∷ []) t y end
gives-last s t y h k =
    let now = at-last s end h (no_end-decoded s.encoding s.held h.none) in
    let after = natural-done t y end k in
    record { natural = now.0 ∙ ap (λ v. next_line s s.held ∷ v) (sym after.0); last = now.1 ∙ sym after.1 }

-- If more may come, the held bytes aren't a line yet.
pub natural-more : (s : ReaderState) → HoldsNoEnd s → (natural_to_come s [] more ≡ []) × (last_to_come s [] more ≡ [])
natural-more s h = at-last s more h (no_end-decoded s.encoding s.held h.none)
