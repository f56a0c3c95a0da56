-- Steps of a reader, one after the other, from natural lines to logical lines.
use Rattle.std.proofs.Common.{arith, ◌≡◌, ℕ, true, false, List, [], ◌∷◌, ◌++◌, length, ◌<◌, Some, None, refl, ap, ◌∙◌, append_assoc, Option}
use Rattle.properties_format.specs.Text.{line_feed}
use Rattle.properties_format.specs.Encoding.{ascii_bytes}
use Rattle.properties_format.specs.Cut.{units}
use Rattle.properties_format.specs.Computed.Lines.{begins_with_lf}
use Rattle.properties_format.specs.Lines.{InputEnd, Line, is_open, is_comment_line, without_open_backslash}
use Rattle.properties_format.specs.Items.{Entry}
use Rattle.properties_format.specs.ItemsToCome.{ReaderState}
use Rattle.properties_format.specs.Computed.ItemsToCome.{items_to_come, after_passed, next_line, ReadsLines, entries_pending}
use Rattle.properties_format.proofs.ItemsToCome.Lines.{gives-read, gives-passed_lf, gives-passed_none, gives-line, HoldsLine, after_line}
use Rattle.properties_format.proofs.ItemsToCome.Entries.{items_to_come-pending, gives-on, pending-open}

-- ---- natural lines

-- Reading nothing returns no line.
pub lines-start : (s : ReaderState) → ReadsLines s [] [] s
lines-start s = record { gives = λ d ending. record { natural = refl; last = refl } }

-- One step after another.
pub lines-on : {s t u : ReaderState} {r q : List ℕ} {ls ms : List Line} → ReadsLines s r ls t → ReadsLines t q ms u → ReadsLines s (r ++ q) (ls ++ ms) u
lines-on {s} {t} {u} {r} {q} {ls} {ms} h k = grind (arith, append_assoc, gives-on)

-- A step followed by one that reads nothing.
pub lines-then : {s t u : ReaderState} {r : List ℕ} {ls ms : List Line} → ReadsLines s r ls t → ReadsLines t [] ms u → ReadsLines s r (ls ++ ms) u
lines-then h k = record { gives = λ d ending. gives-on (h.gives d ending) (k.gives d ending) }

-- Bytes are read and held.
pub lines-read : (s : ReaderState) (r : List ℕ) → ReadsLines s r [] (record s { held = s.held ++ r })
lines-read s r = record { gives = λ d ending. gives-read s r d ending }

-- An LF unit after a CR is skipped.
pub lines-passed_lf : (s : ReaderState) (rest : List ℕ) → s.is_decided ≡ true → s.after_cr ≡ true → s.held ≡ ascii_bytes s.encoding line_feed ++ rest
    → ReadsLines s [] [] (after_passed s rest)
lines-passed_lf s rest h k m = record { gives = λ d ending. gives-passed_lf s rest d ending h k m }

-- Bytes with a whole unit that isn't an LF show that none has to be skipped.
pub lines-passed_none : (s : ReaderState) → s.is_decided ≡ true → 0 < length (units s.encoding s.held) → begins_with_lf (units s.encoding s.held) ≡ false
    → ReadsLines s [] [] (after_passed s s.held)
lines-passed_none s h k m = record { gives = λ d ending. gives-passed_none s d ending h k m }

-- A line among the held bytes is taken.
pub lines-take : (s : ReaderState) (l : List ℕ) (c : ℕ) (rest : List ℕ) → HoldsLine s l c rest → ReadsLines s [] (next_line s l ∷ []) (after_line s c rest)
lines-take s l c rest h = record { gives = λ d ending. gives-line s l c rest d ending h }

-- ---- logical lines that are started

-- Reading r, the reader doesn't return an item yet, and a logical line may have been started.
pub record ReadsOn (before : ReaderState) (r : List ℕ) (pending : Option Line) (after : ReaderState) : Type 0 where
  pub items : (d : List ℕ) (ending : InputEnd) → items_to_come before (r ++ d) ending ≡ entries_pending pending after d ending

-- At first, no logical line has been started.
pub on-start : (s : ReaderState) → ReadsOn s [] None s
on-start s = record { items = λ d ending. items_to_come-pending s d ending }

-- What comes of two parts, one after the other.
regroup : (s : ReaderState) (r q d : List ℕ) (ending : InputEnd) (entries : List Entry) → items_to_come s (r ++ (q ++ d)) ending ≡ entries
    → items_to_come s ((r ++ q) ++ d) ending ≡ entries
regroup s r q d ending entries h = ap (λ v. items_to_come s v ending) (append_assoc r q d) ∙ h

-- An open line that isn't a comment line starts a logical line.
pub on-open : {s t u : ReaderState} {r q : List ℕ} {l : Line} → ReadsOn s r None t → ReadsLines t q (l ∷ []) u → is_comment_line l.text ≡ false
    → is_open l.text ≡ true → ReadsOn s (r ++ q) (Some (record { number = l.number; text = without_open_backslash l.text })) u
on-open {s} {t} {u} {r} {q} h k m o = record { items = λ d ending. regroup s r q d ending _ (h.items (q ++ d) ending ∙ pending-open (k.gives d ending) m o) }
