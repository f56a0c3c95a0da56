-- Which groups are comment lines.
use Rattle.std.proofs.Common.{◌≡◌, ℕ, true, false, List, [], ◌∷◌, ◌++◌, length, refl, sym, ap, ap₂, ◌∙◌, subst, inl, inr, append-nil, arith}
use Rattle.std.specs.Prelude.{Bool, ◌==◌, ◌&&◌}
use Rattle.std.proofs.lemmas.Bool.{cases_Bool}
use Rattle.properties_format.specs.Text.{is_blank, is_comment_sign, begins, without_leading_blanks}
use Rattle.properties_format.specs.Lines.{is_comment_line, is_open, joined, without_last, without_open_backslash}
use Rattle.properties_format.specs.Split.{AreBlanks, IsComment, IsPair}
use Rattle.properties_format.specs.Body.{HeldLine, HasKey, as_lines}
use Rattle.properties_format.proofs.Groups.Joined.{joined-comment_line, joined-one}
use Rattle.properties_format.proofs.Split.Blanks.{without_leading_blanks-blanks, without_leading_blanks-only}
use Rattle.properties_format.proofs.Split.Unique.{sign-full}
use Rattle.properties_format.proofs.Valued.Parts.{comment_line-no_pair}
use Rattle.properties_renaming.specs.CommentLines.{AreCommentGroups, IsCommentGroup, IsCommentIn, lines_in_text}
use Rattle.properties_format.specs.Separators.{AreSeparated}
use Rattle.properties_renaming.specs.FoundSeparators.{PassesGroup}
use Rattle.properties_renaming.specs.declared.separators.LastRun.{LastRun}
use Rattle.properties_renaming.proofs.SeparatedRuns.{EndIn, above_if, below_if, line-passed, other-passed}
use Rattle.properties_format.proofs.Separators.{one-separated}

-- ---- comment lines

pub line-blank : (x : List ℕ) → AreBlanks x → is_comment_line x ≡ false
line-blank x h = ap (begins is_comment_sign) (without_leading_blanks-blanks x h)

pub line-comment : (x text : List ℕ) → IsComment x text → is_comment_line x ≡ true
line-comment x text h =
    ap (begins is_comment_sign) (ap without_leading_blanks h.whole ∙ without_leading_blanks-only h.indent (h.sign ∷ h.rest) h.indent_blank (sign-full h.sign h.is_sign))
    ∙ h.is_sign

pub line-pair : (x key value : List ℕ) → IsPair x key value → is_comment_line x ≡ false
line-pair x key value h = elim (cases_Bool (is_comment_line x)) [
  | inl c ↦ absurd (comment_line-no_pair x key value c h)
  | inr c ↦ c
]

-- A line that begins with no sign doesn't either without its last character.
last-unmarked : (x : List ℕ) → is_comment_line x ≡ false → is_comment_line (without_last x) ≡ false
last-unmarked [] h = refl
last-unmarked (c ∷ []) h = refl
last-unmarked (c ∷ d ∷ ds) h = elim (cases_Bool (is_blank c)) [
  | inl b ↦ rw b (last-unmarked (d ∷ ds) (rw b at h))
  | inr b ↦ rw b (rw b at h)
]

open-unmarked : (x : List ℕ) → is_comment_line x ≡ false → is_comment_line (without_open_backslash x) ≡ false
open-unmarked x h = elim (cases_Bool (is_open x)) [
  | inl o ↦ rw o (last-unmarked x h)
  | inr o ↦ rw o h
]

-- A line by itself makes a comment if it is a comment line.
one-comment : (l : HeldLine) → is_comment_line (joined (as_lines (l ∷ []))) ≡ is_comment_line l.text
one-comment l = elim (cases_Bool (is_comment_line l.text)) [
  | inl c ↦ ap is_comment_line (joined-comment_line (record { number = 0; text = l.text }) [] c)
  | inr c ↦ ap is_comment_line (joined-one (record { number = 0; text = l.text }) c) ∙ open-unmarked l.text c ∙ sym c
]

-- A group is a comment line if it is one line and makes a comment,
pub group-comment : (g : List HeldLine) → (is_comment_line (joined (as_lines g)) && (length g == 1)) ≡ true → IsCommentGroup g
group-comment [] h = absurd (grind (arith))
group-comment (l ∷ []) h = sym (one-comment l) ∙ grind (arith)
group-comment (l ∷ m ∷ g) h = absurd (grind (arith))

-- and not otherwise.
pub group-other : (g : List HeldLine) → (is_comment_line (joined (as_lines g)) && (length g == 1)) ≡ false → ¬ (IsCommentGroup g)
group-other [] h = λ c. c
group-other (l ∷ []) h = λ c. let y = one-comment l ∙ c in absurd (grind (arith))
group-other (l ∷ m ∷ g) h = λ c. c

pub comment-no_key : (key : List ℕ) (g : List HeldLine) → IsCommentGroup g → ¬ (HasKey key g)
comment-no_key key [] c = absurd c
comment-no_key key (l ∷ []) c = λ h. let m = h.1 in comment_line-no_pair (joined (as_lines (l ∷ []))) m.raw_key m.raw_value (one-comment l ∙ c) m.split
comment-no_key key (l ∷ m ∷ g) c = absurd c

pub comments-more : (gs : List (List HeldLine)) (g : List HeldLine) → AreCommentGroups gs → IsCommentGroup g → AreCommentGroups (gs ++ g ∷ [])
comments-more [] g c h = (h, tt)
comments-more (f ∷ gs) g c h = (c.0, comments-more gs g c.1 h)

pub comments-parts : (fs gs : List (List HeldLine)) → AreCommentGroups (fs ++ gs) → AreCommentGroups fs × AreCommentGroups gs
comments-parts [] gs c = (tt, c)
comments-parts (f ∷ fs) gs c = let m = comments-parts fs gs c.1 in ((c.0, m.0), m.1)

pub comments-join : (fs gs : List (List HeldLine)) → AreCommentGroups fs → AreCommentGroups gs → AreCommentGroups (fs ++ gs)
comments-join [] gs c k = k
comments-join (f ∷ fs) gs c k = (c.0, comments-join fs gs c.1 k)

-- ---- their texts

pub texts-append : (fs gs : List (List HeldLine)) → lines_in_text (fs ++ gs) ≡ lines_in_text fs ++ lines_in_text gs
texts-append [] gs = refl
texts-append (f ∷ fs) gs = ap (λ w. joined (as_lines f) ∷ w) (texts-append fs gs)

pub whole-if : (found : Bool) (fs gs : List (List HeldLine)) → fs ++ gs ≡ above_if found fs gs ++ below_if found gs
whole-if true fs gs = sym (append-nil (fs ++ gs))
whole-if false fs gs = refl

-- One more comment line was passed,
pub end-more : (found : Bool) (above comment : List (List HeldLine)) (g : List HeldLine) {old new : LastRun} → is_comment_line (joined (as_lines g)) ≡ true
    → PassesGroup true (joined (as_lines g)) old found new → EndIn (lines_in_text above) (lines_in_text comment) old
    → EndIn (lines_in_text (above_if found above comment)) (lines_in_text (below_if found comment ++ g ∷ [])) new
end-more found above comment g {new = new} line passes h = by found (line-passed found (joined (as_lines g)) line passes h)
  where
    by : (b : Bool) → EndIn (above_if b (lines_in_text above) (lines_in_text comment)) (below_if b (lines_in_text comment) ++ joined (as_lines g) ∷ []) new
        → EndIn (lines_in_text (above_if b above comment)) (lines_in_text (below_if b comment ++ g ∷ [])) new
    by true k = subst (λ w. EndIn w (joined (as_lines g) ∷ []) new) (sym (texts-append above comment)) k
    by false k = subst (λ w. EndIn (lines_in_text above) w new) (sym (texts-append comment (g ∷ []))) k

-- or another group, which has a comment.
pub comment-ended : (found : Bool) (above comment : List (List HeldLine)) (x : List ℕ) {old new : LastRun} → PassesGroup false x old found new
    → EndIn (lines_in_text above) (lines_in_text comment) old → IsCommentIn (above ++ comment) (above_if found above comment) (below_if found comment)
comment-ended found above comment x passes h = by found (other-passed found x passes h)
  where
    by : (b : Bool) → AreSeparated (above_if b (lines_in_text above) (lines_in_text comment)) (below_if b (lines_in_text comment))
        → IsCommentIn (above ++ comment) (above_if b above comment) (below_if b comment)
    by true k = record { division = sym (append-nil (above ++ comment)); separated = subst (λ w. AreSeparated w []) (sym (texts-append above comment)) k }
    by false k = record { division = refl; separated = k }

texts-length : (gs : List (List HeldLine)) → length (lines_in_text gs) ≡ length gs
texts-length [] = refl
texts-length (g ∷ gs) = let more = texts-length gs in omega arith

-- Comment lines have one comment.
pub comment_in-only : (lines above comment above' comment' : List (List HeldLine)) → IsCommentIn lines above comment → IsCommentIn lines above' comment'
    → (above ≡ above') × (comment ≡ comment')
comment_in-only lines above comment above' comment' h k =
    let both : lines_in_text above ++ lines_in_text comment ≡ lines_in_text above' ++ lines_in_text comment' =
    sym (texts-append above comment) ∙ ap lines_in_text (sym h.division ∙ k.division) ∙ texts-append above' comment' in
    let same = one-separated (lines_in_text above) (lines_in_text comment) (lines_in_text above') (lines_in_text comment') h.separated k.separated both in
    parts above above' comment comment' (sym (texts-length above) ∙ ap length same.0 ∙ texts-length above') (sym h.division ∙ k.division)
  where
    parts : (fs gs hs ks : List (List HeldLine)) → length fs ≡ length gs → fs ++ hs ≡ gs ++ ks → (fs ≡ gs) × (hs ≡ ks)
    parts [] [] hs ks n q = (refl, q)
    parts [] (g ∷ gs) hs ks n q = absurd (omega arith)
    parts (f ∷ fs) [] hs ks n q = absurd (omega arith)
    parts (f ∷ fs) (g ∷ gs) hs ks n q =
        let rest : fs ++ hs ≡ gs ++ ks = cc in
        let first : f ≡ g = cc in
        let m = parts fs gs hs ks (omega arith) rest in (ap₂ (λ w ws. w ∷ ws) first m.0, m.1)
