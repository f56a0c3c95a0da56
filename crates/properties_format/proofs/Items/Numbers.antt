-- The numbers of the items ascend strictly.
use Rattle.std.proofs.Common.{ℕ, ◌+◌, ◌<◌, ◌≤◌, List, [], ◌∷◌, ◌++◌, length, arith, append_assoc, subst, zero-add}
use Rattle.properties_format.specs.Encoding.{Encoding}
use Rattle.properties_format.specs.Computed.Encoding.{decoded_of}
use Rattle.properties_format.specs.Lines.{InputEnd, end, Ended, Line, Lines, line_endings, numbered, AreWhole, lines_in, last_group, IsGroups, first_number}
use Rattle.properties_format.specs.Computed.Lines.{lines_of, groups_of, groups_in}
use Rattle.properties_format.specs.Items.{Entry, NumbersAscend, last_entries}
use Rattle.properties_format.specs.Computed.Items.{entries_of, items_of}
use Rattle.properties_format.proofs.Groups.Meets.{groups_of-meets}

-- the numbers of the lines ascend, start above low, and are at most high
abbrev LinesWithin : ℕ → ℕ → List Line → Type 0
LinesWithin low high [] = low ≤ high
LinesWithin low high (l ∷ ls) = (low < l.number) × LinesWithin l.number high ls

-- the numbers of the groups' first lines ascend, start above low, and are at most high
abbrev FirstsWithin : ℕ → ℕ → List (List Line) → Type 0
FirstsWithin low high [] = low ≤ high
FirstsWithin low high (g ∷ gs) = (low < first_number g) × FirstsWithin (first_number g) high gs

-- 1 if the ending adds a last line, otherwise 0
abbrev last_line : InputEnd → ℕ
last_line end = 1
last_line ending = 0

-- ---- lines

-- The numbers of the lines after n line endings ascend, start above n, and are at most n plus their count.
numbered-within : (n : ℕ) (ls : List Ended) (last : List ℕ) (ending : InputEnd) (high : ℕ) → n + length ls + last_line ending ≤ high
    → LinesWithin n high (numbered n ls last ending)
numbered-within n [] last end high h = (omega arith, omega arith)
numbered-within n (l ∷ ls) last ending high h = (omega arith, numbered-within (n + 1) ls last ending high (omega arith))
numbered-within n [] last ending high h = omega arith

-- If lines lie within two numbers, the first number isn't above the second.
lines-bounded : (low high : ℕ) (ls : List Line) → LinesWithin low high ls → low ≤ high
lines-bounded low high [] h = h
lines-bounded low high (l ∷ ls) h = let k = lines-bounded l.number high ls h.1 in let b = h.0 in omega arith

-- Lines above a number are above any lower number.
lines-lower : (low less high : ℕ) (ls : List Line) → less < low → LinesWithin low high ls → LinesWithin less high ls
lines-lower low less high [] k h = omega arith
lines-lower low less high (l ∷ ls) k h = (let b = h.0 in omega arith, h.1)

-- Without the first lines, the others still lie within the same numbers.
lines-after : (low high : ℕ) (xs ys : List Line) → LinesWithin low high (xs ++ ys) → LinesWithin low high ys
lines-after low high [] ys h = h
lines-after low high (x ∷ xs) ys h = lines-lower x.number low high ys h.0 (lines-after x.number high xs ys h.1)

-- Without the first lines of a first part, the others still lie within the same numbers.
lines-behind_first : (low high : ℕ) (xs ys zs : List Line) → LinesWithin low high ((xs ++ ys) ++ zs) → LinesWithin low high (ys ++ zs)
lines-behind_first low high xs ys zs h = lines-after low high xs (ys ++ zs) (subst (λ v. LinesWithin low high v) (append_assoc xs ys zs) h)

-- ---- groups

-- The number of a last group lies within the numbers that its lines lie within.
firsts-of_last : (low high : ℕ) (ls : List Line) (ending : InputEnd) → LinesWithin low high ls → FirstsWithin low high (last_group ls ending)
firsts-of_last low high ls ending h = grind (arith, lines-bounded)

-- The numbers of whole groups and of a last one lie within those that their lines lie within.
firsts-of : (low high : ℕ) (whole : List (List Line)) (unfinished : List Line) (ending : InputEnd) → AreWhole whole
    → LinesWithin low high (lines_in whole ++ unfinished) → FirstsWithin low high (whole ++ last_group unfinished ending)
firsts-of low high [] unfinished ending w h = firsts-of_last low high unfinished ending h
firsts-of low high ([] ∷ gs) unfinished ending w h = absurd w.0
firsts-of low high ((l ∷ ls) ∷ gs) unfinished ending w h =
    (h.0, firsts-of l.number high gs unfinished ending w.1 (lines-behind_first l.number high ls (lines_in gs) unfinished h.1))

-- The numbers of the groups of lines lie within those that the lines lie within.
groups-within : (low high : ℕ) (ls : List Line) (ending : InputEnd) (gs : List (List Line)) → IsGroups ls ending gs → LinesWithin low high ls
    → FirstsWithin low high gs
groups-within low high ls ending gs g h = rw g.are_groups (firsts-of low high g.whole g.unfinished ending g.are_whole (rw g.are_lines at h))

-- ---- entries

-- Numbers that ascend from above one number ascend from above any lower one.
ascend-lower : (low less : ℕ) (entries : List Entry) → less < low → NumbersAscend low entries → NumbersAscend less entries
ascend-lower low less [] k h = tt
ascend-lower low less (x ∷ xs) k h = (let b = h.0 in omega arith, h.1)

-- A read that fails after n line endings has a number above n, and above those of the lines before it.
last-ascend : (low high n : ℕ) (ending : InputEnd) → high ≤ n + last_line ending → low ≤ high → NumbersAscend low (last_entries n ending)
last-ascend low high n ending h k = grind (arith)

-- The numbers of the entries of groups ascend if those of the groups' first lines do.
entries-ascend : (low high n : ℕ) (ending : InputEnd) (gs : List (List Line)) → high ≤ n + last_line ending → FirstsWithin low high gs
    → NumbersAscend low (entries_of n ending gs)
entries-ascend low high n ending [] h k = last-ascend low high n ending h k
entries-ascend low high n ending (g ∷ gs) h k =
    grind (arith, ascend-lower, entries-ascend (first_number g) high n ending gs h k.1)

-- The numbers of the entries of lines after n line endings ascend strictly, and are at least n + 1.
pub lines-ascend : (n : ℕ) (lines : Lines) (ending : InputEnd)
    → NumbersAscend n (entries_of (n + line_endings lines) ending (groups_of (numbered n lines.ended lines.last ending) ending))
lines-ascend n lines ending =
    let high = n + line_endings lines + last_line ending in
    let numbers = numbered n lines.ended lines.last ending in
    entries-ascend n high (n + line_endings lines) ending (groups_of numbers ending) (omega arith)
    (groups-within n high numbers ending (groups_of numbers ending) (groups_of-meets numbers ending)
    (numbered-within n lines.ended lines.last ending high (omega arith)))

-- The numbers of the computed items ascend strictly, and are at least 1.
pub items_of-ascend : (e : Encoding) (bytes : List ℕ) (ending : InputEnd) → NumbersAscend 0 (items_of e bytes ending)
unfolding items_of
items_of-ascend e bytes ending =
    let lines = lines_of (decoded_of e bytes) in
    subst (λ v. NumbersAscend 0 (entries_of v ending (groups_in e bytes ending))) (zero-add (line_endings lines)) (lines-ascend 0 lines ending)
