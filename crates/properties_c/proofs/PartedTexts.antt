-- The lines and the groups of a text in two parts, the second of which begins with a line ending.
use Rattle.std.proofs.Common.{arith, ◌≡◌, ℕ, suc, ◌+◌, ◌==◌, Bool, true, false, List, [], ◌∷◌, ◌++◌, length, refl, ap, ap₂, sym, ◌∙◌, inl, inr, append-nil}
use Rattle.std.specs.Prelude.{map}
use Rattle.std.proofs.{lemmas.Bool.cases_Bool, lemmas.Bool.Decides.eqb_tells}
use Rattle.properties_format.specs.Text.{line_feed, carriage_return, is_line_ending, LineEnding, lf, cr, crlf, line_ending_text}
use Rattle.properties_format.specs.Lines.{Ended, InputEnd, end, more, Line, is_open, joined, joined_after, line_endings, numbered, numbered_lines}
use Rattle.properties_format.specs.Computed.Lines.{begins_with_lf, ends_in_cr, closes, groups_after, groups_of, lines_of, lines_to_come}
use Rattle.properties_format.proofs.Groups.Steps.{closes-closed, groups_after-close, groups_after-leave, groups_of-closed}
use Rattle.properties_format.proofs.{Lines.Append.lines_to_come-append, Lines.Plain.last-plain, Lines.Steps.lines_to_come-line, Lines.Steps.lines_to_come-no_lf}

-- ---- numbers

-- a line that comes after this many line endings more
abbrev pub later : ℕ → Line → Line
later k l = record { number = k + l.number; text = l.text }

numbered-later : (k n : ℕ) (ls : List Ended) (last : List ℕ) (e : InputEnd) → numbered (k + n) ls last e ≡ map (later k) (numbered n ls last e)
numbered-later k n [] last end = ap (λ m. record { number = m; text = last } ∷ []) (omega arith)
numbered-later k n [] last e = refl
numbered-later k n (l ∷ ls) last e =
    let next : k + n + 1 ≡ k + (n + 1) = omega arith in
    rw next (ap (λ v. record { number = k + (n + 1); text = l.text } ∷ v) (numbered-later k (n + 1) ls last e))

-- Neither what closes a group nor what a group is joined to depends on them.
closes-later : (k : ℕ) (p : List Line) (l : Line) → closes (map (later k) p) (later k l) ≡ closes p l
closes-later k [] l = refl
closes-later k (m ∷ p) l = refl

map-push : (k : ℕ) (p : List Line) (l : Line) → map (later k) (p ++ l ∷ []) ≡ map (later k) p ++ later k l ∷ []
map-push k [] l = refl
map-push k (m ∷ p) l = ap (λ v. later k m ∷ v) (map-push k p l)

groups-later : (k : ℕ) (p ls : List Line) (e : InputEnd) → groups_after (map (later k) p) (map (later k) ls) e ≡ map (map (later k)) (groups_after p ls e)
groups-later k [] [] e = refl
groups-later k (m ∷ p) [] end = refl
groups-later k (m ∷ p) [] e = refl
groups-later k p (l ∷ ls) e = elim (cases_Bool (closes p l)) [
  | inl c ↦
      groups_after-close (map (later k) p) (later k l) (map (later k) ls) e (closes-later k p l ∙ c)
      ∙ ap₂ (λ v w. v ∷ w) (sym (map-push k p l)) (groups-later k [] ls e)
      ∙ sym (ap (map (map (later k))) (groups_after-close p l ls e c))
  | inr c ↦
      groups_after-leave (map (later k) p) (later k l) (map (later k) ls) e (closes-later k p l ∙ c)
      ∙ ap (λ v. groups_after v (map (later k) ls) e) (sym (map-push k p l))
      ∙ groups-later k (p ++ l ∷ []) ls e
      ∙ sym (ap (map (map (later k))) (groups_after-leave p l ls e c))
]

joined_after-later : (k : ℕ) (ls : List Line) → joined_after (map (later k) ls) ≡ joined_after ls
joined_after-later k [] = refl
joined_after-later k (l ∷ ls) = rw (joined_after-later k ls) refl

pub joined-later : (k : ℕ) (g : List Line) → joined (map (later k) g) ≡ joined g
joined-later k [] = refl
joined-later k (l ∷ ls) = rw (joined_after-later k ls) refl

-- ---- groups

-- A line that isn't open ends the last group of those before it.
parted-after : (p ls : List Line) (l : Line) (ms : List Line) (e : InputEnd) → is_open l.text ≡ false
    → groups_after p (ls ++ l ∷ ms) e ≡ groups_after p (ls ++ l ∷ []) e ++ groups_of ms e
parted-after p [] l ms e h =
    let c = closes-closed p l h in
    groups_after-close p l ms e c ∙ sym (ap (λ v. v ++ groups_of ms e) (groups_after-close p l [] e c))
parted-after p (m ∷ ls) l ms e h = elim (cases_Bool (closes p m)) [
  | inl c ↦
      groups_after-close p m (ls ++ l ∷ ms) e c
      ∙ ap (λ v. (p ++ m ∷ []) ∷ v) (parted-after [] ls l ms e h)
      ∙ sym (ap (λ v. v ++ groups_of ms e) (groups_after-close p m (ls ++ l ∷ []) e c))
  | inr c ↦
      groups_after-leave p m (ls ++ l ∷ ms) e c
      ∙ parted-after (p ++ m ∷ []) ls l ms e h
      ∙ sym (ap (λ v. v ++ groups_of ms e) (groups_after-leave p m (ls ++ l ∷ []) e c))
]

-- ---- lines

-- A text that begins with a CR or an LF begins with a line ending.
record BeginsWithEnding (x : List ℕ) : Type 0 where
  by : LineEnding
  rest : List ℕ
  whole : x ≡ line_ending_text by ++ rest
  alone : by ≡ cr → begins_with_lf rest ≡ false

begins-with-ending : (c : ℕ) (y : List ℕ) → is_line_ending c ≡ true → BeginsWithEnding (c ∷ y)
begins-with-ending c y h = elim (eqb_tells c line_feed) [
  | inl k ↦ rw k.1 (record { by = lf; rest = y; whole = refl; alone = λ e. absurd (cc) })
  | inr k ↦ elim (eqb_tells c carriage_return) [
    | inl m ↦ rw m.1 (after-cr y)
    | inr m ↦ absurd (grind (arith))
  ]
]
  where
    after-cr : (y : List ℕ) → BeginsWithEnding (carriage_return ∷ y)
    after-cr [] = record { by = cr; rest = []; whole = refl; alone = λ e. refl }
    after-cr (d ∷ y) = elim (eqb_tells d line_feed) [
      | inl k ↦ rw k.1 (record { by = crlf; rest = y; whole = refl; alone = λ e. absurd (cc) })
      | inr k ↦ record { by = cr; rest = d ∷ y; whole = refl; alone = λ e. k.0 }
    ]

-- The last line is one that the end of the input ends.
numbered-end : (n : ℕ) (ls : List Ended) (last : List ℕ)
    → numbered n ls last end ≡ numbered n ls last more ++ record { number = n + length ls + 1; text = last } ∷ []
numbered-end n [] last = ap (λ m. record { number = m; text = last } ∷ []) (omega arith)
numbered-end n (l ∷ ls) last =
    let next : n + suc (length ls) + 1 ≡ n + 1 + length ls + 1 = omega arith in
    rw next (ap (λ v. record { number = n + 1; text = l.text } ∷ v) (numbered-end (n + 1) ls last))

-- An LF after a CR is the rest of a line ending, and here there is none.
whole-ending : (n : ℕ) (after_cr : Bool) (held : List ℕ) (c : ℕ) (y : List ℕ) → (after_cr ≡ true → (c == line_feed) ≡ false)
    → lines_to_come n after_cr held (c ∷ y) end ≡ lines_to_come n false held (c ∷ y) end
whole-ending n true held c y h = lines_to_come-no_lf n true held (c ∷ y) end (h refl)
whole-ending n false held c y h = refl

-- The groups of a text in two parts: those of its front, whose last line isn't open, and those of the second part but
-- the first, which is empty.
pub record ArePartGroups (x y : List ℕ) : Type 0 where
  pub groups : List (List Line)
  pub second : groups_of (numbered_lines (lines_of y) end) end ≡ (record { number = 1; text = [] } ∷ []) ∷ groups
  pub together : groups_of (numbered_lines (lines_of (x ++ y)) end) end
      ≡ groups_of (numbered_lines (lines_of x) end) end ++ map (map (later (line_endings (lines_of x)))) groups

pub part-groups : (x : List ℕ) (c : ℕ) (y : List ℕ) → is_line_ending c ≡ true → (ends_in_cr x ≡ true → (c == line_feed) ≡ false)
    → is_open (lines_of x).last ≡ false → ArePartGroups x (c ∷ y)
part-groups x c y h whole closed =
    let b = begins-with-ending c y h in
    let k = line_endings (lines_of x) in
    let last = (lines_of x).last in
    let ms = lines_to_come 1 false [] b.rest end in
    let front = numbered 0 (lines_of x).ended last more in
    let l : Line = record { number = k + 1; text = last } in
    let second : numbered_lines (lines_of (c ∷ y)) end ≡ record { number = 1; text = [] } ∷ ms =
    ap (λ v. lines_to_come 0 false [] v end) b.whole ∙ lines_to_come-line 0 [] [] b.by b.rest end tt tt b.alone in
    let none : 0 + k ≡ k = omega arith in
    let first : numbered_lines (lines_of x) end ≡ front ++ l ∷ [] =
    numbered-end 0 (lines_of x).ended last ∙ ap (λ m. front ++ record { number = m + 1; text = last } ∷ []) none in
    let line : lines_to_come k false last (c ∷ y) end ≡ l ∷ map (later k) ms =
    ap (λ v. lines_to_come k false last v end) b.whole ∙ lines_to_come-line k last [] b.by b.rest end (last-plain x) tt b.alone
    ∙ ap₂ (λ t v. record { number = k + 1; text = t } ∷ v) (append-nil last) (numbered-later k 1 (lines_of b.rest).ended (lines_of b.rest).last end) in
    let both : numbered_lines (lines_of (x ++ c ∷ y)) end ≡ front ++ l ∷ map (later k) ms =
    lines_to_come-append 0 x (c ∷ y) end ∙ ap (λ m. front ++ lines_to_come m (ends_in_cr x) last (c ∷ y) end) none
    ∙ ap (λ v. front ++ v) (whole-ending k (ends_in_cr x) last c y whole ∙ line) in
    record {
      groups = groups_of ms end;
      second = ap (λ v. groups_of v end) second ∙ groups_of-closed (record { number = 1; text = [] }) ms end refl;
      together = ap (λ v. groups_of v end) both ∙ parted-after [] front l (map (later k) ms) end closed
          ∙ ap₂ (λ v w. v ++ w) (ap (λ v. groups_of v end) (sym first)) (groups-later k [] ms end);
    }
