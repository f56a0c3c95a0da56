-- How the comment of a key is found, group by group.
use Rattle.std.proofs.Common.{◌≡◌, ℕ, true, false, List, [], ◌∷◌, ◌++◌, refl, ap, sym, ◌∙◌, subst, inl, inr, append-nil, append_assoc, arith}
use Rattle.std.specs.Prelude.{Bool, ◌&&◌, ◌==◌, Option, Some, None}
use Rattle.std.proofs.lemmas.Bool.{cases_Bool}
use Rattle.properties_format.specs.Lines.{is_comment_line, joined}
use Rattle.properties_format.specs.Body.{HeldLine, HasKey, NoneHasKey, as_lines}
use Rattle.properties_format.specs.Edited.{final_group}
use Rattle.properties_format.specs.Computed.Body.{has_key, is_pair_with}
use Rattle.properties_format.specs.Computed.Items.{outcome_of}
use Rattle.properties_format.proofs.Edited.Made.{has_key-true, has_key-false}
use Rattle.properties_format.proofs.Edited.Steps.{final_group-push}
use Rattle.properties_editing.specs.Private.Sound.{AreSound}
use Rattle.properties_editing.specs.Views.{IsGroup, OpenView, viewed_line}
use Rattle.properties_editing.specs.declared.group.ViewedGroup.{ViewedGroup}
use Rattle.properties_editing.specs.declared.source.Comments.TheVariants.{PassedOver}
use Rattle.properties_editing.proofs.PassedOver.{sound-join}
use Rattle.properties_renaming.specs.CommentLines.{AreCommentGroups, AreCommentTexts, IsCommentGroup, is_comment, is_line_of_comment, lines_in_text}
use Rattle.properties_renaming.specs.FoundSeparators.{IsRunOf}
use Rattle.properties_renaming.specs.declared.separators.LastRun.{LastRun}
use Rattle.properties_renaming.proofs.SeparatedRuns.{EndIn, above_if, below_if, none-yet}
use Rattle.properties_renaming.proofs.CommentGroups.{comment-ended, comment-no_key, comments-more, end-more, whole-if}
use Rattle.properties_renaming.proofs.CommentedKeys.{kind-comment, told-comment, told-line, told-other}
use Rattle.properties_renaming.proofs.FoundComments.{line-more}
use Rattle.java_properties.specs.Commented.{AreTextsOfComment}
use Rattle.java_properties.specs.Private.PassedGroups.{AddsPassedLine, AreAfter, ArePassed, IsKindOf, IsSoundLine, LeavesOut, PassedTexts, after_other}

-- ---- comment lines

-- A logical line that is shown as a comment line is one.
pub shown-line : (group : ViewedGroup) (x : List ℕ) → IsKindOf group.kind x → is_line_of_comment group ≡ true → is_comment_line x ≡ true
shown-line group x (what, s, is) line =
    let both : (is_comment group.kind && (group.line_count == 1)) ≡ true = line in
    let c : is_comment group.kind ≡ true = grind (arith) in
    kind-comment x what s ∙ sym (ap is_comment is) ∙ c

-- ---- one group more

none-more : (key : List ℕ) (gs : List (List HeldLine)) (g : List HeldLine) → NoneHasKey key gs → ¬ (HasKey key g) → NoneHasKey key (gs ++ g ∷ [])
none-more key [] g n h = (h, tt)
none-more key (f ∷ gs) g n h = (n.0, none-more key gs g n.1 h)

-- A group that isn't a pair with the key leaves its comment as it is.
pub texts-more : (key : List ℕ) (gs : List (List HeldLine)) (g : List HeldLine) (texts : Option (List (List ℕ))) → ¬ (HasKey key g) → AreTextsOfComment gs key texts
    → AreTextsOfComment (gs ++ g ∷ []) key texts
texts-more key gs g None h t = none-more key gs g t h
texts-more key gs g (Some texts) h (is, t) = (
  record {
    before = is.before;
    lines = is.lines;
    group = is.group;
    after = is.after ++ g ∷ [];
    division = ap (λ v. v ++ g ∷ []) is.division ∙ append_assoc is.before (is.lines ++ is.group ∷ is.after) (g ∷ [])
        ∙ ap (λ v. is.before ++ v) (append_assoc is.lines (is.group ∷ is.after) (g ∷ []));
    has_key = is.has_key;
    no_later = none-more key is.after g is.no_later h;
    are_comments = is.are_comments;
    no_earlier = is.no_earlier;
    above = is.above;
    run = is.run;
    is_comment = is.is_comment;
  },
  t,
)

-- ---- the groups that were passed

-- These texts are what is known after these groups, in the pairs of which no escape is malformed.
pub record HavePassed (key : List ℕ) (passed : List (List HeldLine)) (texts : PassedTexts) : Type 0 where
  pub before : List (List HeldLine)
  pub above : List (List HeldLine)
  pub run : List (List HeldLine)
  pub division : passed ≡ before ++ (above ++ run)
  pub are_comments : AreCommentGroups (above ++ run)
  pub no_earlier : ¬ (IsCommentGroup (final_group before))
  pub ends : EndIn (lines_in_text above) (lines_in_text run) texts.last
  pub are_above : AreCommentTexts run texts.above
  pub are_texts : AreTextsOfComment passed key texts.comment
  pub sound : AreSound passed

pub passed-none : (key : List ℕ) (last : LastRun) → IsRunOf [] last → HavePassed key [] (record { above = []; last = last; comment = None })
passed-none key last none = record {
  before = [];
  above = [];
  run = [];
  division = refl;
  are_comments = tt;
  no_earlier = λ c. c;
  ends = none-yet last none;
  are_above = refl;
  are_texts = tt;
  sound = tt;
}

below-said : (found : Bool) (gs : List (List HeldLine)) (texts : List (List ℕ)) → AreCommentTexts gs texts → AreCommentTexts (below_if found gs) (below_if found texts)
below-said true gs texts h = refl
below-said false gs texts h = h

-- a comment line
passed-line : {key : List ℕ} {passed : List (List HeldLine)} {old left : PassedTexts} (g : List HeldLine) (new : PassedTexts) → HavePassed key passed old → IsCommentGroup g
    → is_comment_line (joined (as_lines g)) ≡ true → LeavesOut true (joined (as_lines g)) old left → AddsPassedLine (joined (as_lines g)) left new → HavePassed key (passed ++ g ∷ []) new
passed-line {key} {passed} {old} {left} g new h c line (found, passes, said, comment) (text, is, made) =
    let up = above_if found h.above h.run in
    let low = below_if found h.run in
    let whole : h.above ++ h.run ≡ up ++ low = whole-if found h.above h.run in
    let more : HavePassed key (passed ++ g ∷ []) (record left { above = left.above ++ text ∷ [] }) = record {
      before = h.before;
      above = up;
      run = low ++ g ∷ [];
      division = ap (λ v. v ++ g ∷ []) (h.division ∙ ap (λ w. h.before ++ w) whole) ∙ append_assoc h.before (up ++ low) (g ∷ [])
          ∙ ap (λ w. h.before ++ w) (append_assoc up low (g ∷ []));
      are_comments = subst AreCommentGroups (append_assoc up low (g ∷ [])) (comments-more (up ++ low) g (subst AreCommentGroups whole h.are_comments) c);
      no_earlier = h.no_earlier;
      ends = end-more found h.above h.run g line passes h.ends;
      are_above = line-more low g left.above text (subst (AreCommentTexts low) (sym said) (below-said found h.run old.above h.are_above)) is;
      are_texts = subst (AreTextsOfComment (passed ++ g ∷ []) key) (sym comment) (texts-more key passed g old.comment (comment-no_key key g c) h.are_texts);
      sound = sound-join PassedOver passed (g ∷ []) h.sound (inr line, tt);
    } in
    subst (HavePassed key (passed ++ g ∷ [])) (sym made) more

-- another group
passed-other : {key : List ℕ} {passed : List (List HeldLine)} {old : PassedTexts} (g : List HeldLine) (last : LastRun) (comment : Option (List (List ℕ)))
    → HavePassed key passed old → ¬ (IsCommentGroup g) → IsSoundLine (joined (as_lines g)) → IsRunOf [] last → AreTextsOfComment (passed ++ g ∷ []) key comment
    → HavePassed key (passed ++ g ∷ []) (record { above = []; last = last; comment = comment })
passed-other {key} {passed} {old} g last comment h other sound none are = record {
  before = passed ++ g ∷ [];
  above = [];
  run = [];
  division = sym (append-nil (passed ++ g ∷ []));
  are_comments = tt;
  no_earlier = subst (λ l. ¬ (IsCommentGroup l)) (sym (final_group-push passed g)) other;
  ends = none-yet last none;
  are_above = refl;
  are_texts = are;
  sound = sound-join PassedOver passed (g ∷ []) h.sound (sound, tt);
}

-- A pair with the key has the comment lines directly above it, back to the last separator.
texts-above : {key : List ℕ} {passed : List (List HeldLine)} {old left : PassedTexts} (g : List HeldLine) → HavePassed key passed old
    → LeavesOut false (joined (as_lines g)) old left → HasKey key g → AreTextsOfComment (passed ++ g ∷ []) key (Some left.above)
texts-above {key} {passed} {old} {left} g h (found, passes, said, comment) k = (
  record {
    before = h.before;
    lines = h.above ++ h.run;
    group = g;
    after = [];
    division = ap (λ v. v ++ g ∷ []) h.division ∙ append_assoc h.before (h.above ++ h.run) (g ∷ []);
    has_key = k;
    no_later = tt;
    are_comments = h.are_comments;
    no_earlier = h.no_earlier;
    above = above_if found h.above h.run;
    run = below_if found h.run;
    is_comment = comment-ended found h.above h.run (joined (as_lines g)) passes h.ends;
  },
  subst (AreCommentTexts (below_if found h.run)) (sym said) (below-said found h.run old.above h.are_above),
)

-- One more group was passed.
pub passed-more : {key : List ℕ} {passed : List (List HeldLine)} {old : PassedTexts} (w : OpenView) (group : ViewedGroup) (new : PassedTexts) → HavePassed key passed old
    → IsGroup w group → ArePassed (is_line_of_comment group) (viewed_line w) key old new → HavePassed key (passed ++ w.group ∷ []) new
passed-more {key} {passed} {old} w group new h is p = elim (cases_Bool (is_line_of_comment group)) [
  | inl l ↦
      let q = subst (λ b. ArePassed b (viewed_line w) key old new) l p in
      passed-line w.group new h (told-comment w group is l) (told-line w group is l) q.1 q.2
  | inr l ↦
      let q = subst (λ b. ArePassed b (viewed_line w) key old new) l p in
      let g = w.group in
      let left = q.0 in
      let none = q.1.1.0 in
      let other = told-other w group is l in
      elim (cases_Bool (has_key key g)) [
        | inl has ↦ subst (HavePassed key (passed ++ g ∷ [])) (sym (q.2.1 ∙ ap (λ b. after_other b left) has))
            (passed-other g left.last (Some left.above) h other q.2.0 none (texts-above g h q.1 (has_key-true key g has)))
        | inr has ↦ subst (HavePassed key (passed ++ g ∷ [])) (sym (q.2.1 ∙ ap (λ b. after_other b left) has))
            (passed-other g left.last left.comment h other q.2.0 none
            (subst (AreTextsOfComment (passed ++ g ∷ []) key) (sym q.1.3) (texts-more key passed g old.comment (has_key-false key g has) h.are_texts)))
      ]
]

-- A comment line,
pub passed-added : (key x : List ℕ) (is_line : Bool) (old left new : PassedTexts) → is_line ≡ true → LeavesOut is_line x old left → AddsPassedLine x left new
    → ArePassed is_line x key old new
passed-added key x is_line old left new l leaves adds = (left, leaves, rw l adds)

-- or a group that isn't one, given whether it is a pair with the key.
pub passed-pair : (key x : List ℕ) (is_line has : Bool) (left new : PassedTexts) → is_line ≡ false → (has ≡ is_pair_with key (outcome_of x)) × IsSoundLine x
    → new ≡ after_other has left → AreAfter is_line x key left new
passed-pair key x is_line has left new l h n = rw l (h.1, n ∙ ap (λ b. after_other b left) h.0)
