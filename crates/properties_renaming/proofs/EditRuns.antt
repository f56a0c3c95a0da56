-- Edits of a kind among others, and lists of edits in runs.
use Rattle.std.proofs.Common.{◌≡◌, ◌<◌, ◌+◌, ◌-◌, ℕ, List, [], ◌∷◌, ◌++◌, length, drop, get_or, take, refl, sym, ap, ◌∙◌, add-one, arith}
use Rattle.std.specs.List.{slice_get}
use Rattle.std.specs.Prelude.{true, Some, Result, Ok, Err}
use Rattle.std.proofs.lemmas.List.{take_all}
use Rattle.properties_editing.specs.Editing.{IsSameEdit, edit_in}
use Rattle.properties_editing.specs.declared.edit.Edit.{Edit}
use Rattle.properties_editing.specs.declared.edit.Edit.TheVariants as code
use Rattle.std.specs.Global.{Global, Vec}
use Rattle.std.specs.declared.string.String.{String}
use Rattle.properties_editing.specs.declared.source.SourceOptions.{SourceOptions}
use Rattle.properties_renaming.specs.Commented.{RemovesWithComments}
use Rattle.properties_renaming.specs.KeyEdits.{AreLike, BeginUnlike, KeyEdit, comments_among, edit, edits_among, key_edit_in, key_edits_in, removals_among, remove_with_comment, rename, renames_among, same_kind, set_comment}
use Rattle.properties_renaming.specs.Private.KeyEdits.{GivesOrFails, HasRunSize, RunsOrFails}
use Rattle.properties_renaming.specs.declared.commenting.NewComment.{NewComment}
use Rattle.properties_renaming.specs.declared.key_edits.KeyEdit as given
use Rattle.properties_renaming.specs.declared.key_edits.KeyEdit.TheVariants as variant
use Rattle.properties_renaming.specs.declared.renames.Rename.{Rename}
use Rattle.properties_renaming.specs.declared.renames.RenamesError.{RenamesError}

-- ---- one more edit

pub edits-more : (es : List KeyEdit) (e : KeyEdit) → edits_among (es ++ e ∷ []) ≡ edits_among es ++ edits_among (e ∷ [])
edits-more [] e = refl
edits-more (edit x ∷ es) e = ap (λ r. x ∷ r) (edits-more es e)
edits-more (rename n ∷ es) e = edits-more es e
edits-more (set_comment t ∷ es) e = edits-more es e
edits-more (remove_with_comment k ∷ es) e = edits-more es e

pub renames-more : (es : List KeyEdit) (e : KeyEdit) → renames_among (es ++ e ∷ []) ≡ renames_among es ++ renames_among (e ∷ [])
renames-more [] e = refl
renames-more (edit x ∷ es) e = renames-more es e
renames-more (rename n ∷ es) e = ap (λ r. n ∷ r) (renames-more es e)
renames-more (set_comment t ∷ es) e = renames-more es e
renames-more (remove_with_comment k ∷ es) e = renames-more es e

pub comments-more : (es : List KeyEdit) (e : KeyEdit) → comments_among (es ++ e ∷ []) ≡ comments_among es ++ comments_among (e ∷ [])
comments-more [] e = refl
comments-more (edit x ∷ es) e = comments-more es e
comments-more (rename n ∷ es) e = comments-more es e
comments-more (set_comment t ∷ es) e = ap (λ r. t ∷ r) (comments-more es e)
comments-more (remove_with_comment k ∷ es) e = comments-more es e

pub removals-more : (es : List KeyEdit) (e : KeyEdit) → removals_among (es ++ e ∷ []) ≡ removals_among es ++ removals_among (e ∷ [])
removals-more [] e = refl
removals-more (edit x ∷ es) e = removals-more es e
removals-more (rename n ∷ es) e = removals-more es e
removals-more (set_comment t ∷ es) e = removals-more es e
removals-more (remove_with_comment k ∷ es) e = ap (λ r. k ∷ r) (removals-more es e)

-- An edit that has the texts of another is the same edit.
pub same-edit : (x y : Edit) → IsSameEdit x y → edit_in x ≡ edit_in y
same-edit (code.Put k v) (code.Put l w) h = cc
same-edit (code.Remove k) (code.Remove l) h = cc
same-edit (code.SetValue k v) (code.SetValue l w) h = cc
same-edit x y h = absurd h

-- ---- an edit of another kind

pub no-edit : (e : given.KeyEdit) → ((x : Edit) → e ≡ variant.Edit x → ⊥) → edits_among (key_edit_in e ∷ []) ≡ []
no-edit (variant.Edit x) h = absurd (h x refl)
no-edit (variant.Rename r) h = refl
no-edit (variant.SetComment c) h = refl
no-edit (variant.RemoveWithComment k) h = refl

pub no-rename : (e : given.KeyEdit) → ((x : Rename) → e ≡ variant.Rename x → ⊥) → renames_among (key_edit_in e ∷ []) ≡ []
no-rename (variant.Edit x) h = refl
no-rename (variant.Rename r) h = absurd (h r refl)
no-rename (variant.SetComment c) h = refl
no-rename (variant.RemoveWithComment k) h = refl

pub no-comment : (e : given.KeyEdit) → ((x : NewComment) → e ≡ variant.SetComment x → ⊥) → comments_among (key_edit_in e ∷ []) ≡ []
no-comment (variant.Edit x) h = refl
no-comment (variant.Rename r) h = refl
no-comment (variant.SetComment c) h = absurd (h c refl)
no-comment (variant.RemoveWithComment k) h = refl

pub no-removal : (e : given.KeyEdit) → ((x : String Global) → e ≡ variant.RemoveWithComment x → ⊥) → removals_among (key_edit_in e ∷ []) ≡ []
no-removal (variant.Edit x) h = refl
no-removal (variant.Rename r) h = refl
no-removal (variant.SetComment c) h = refl
no-removal (variant.RemoveWithComment k) h = absurd (h k refl)

-- ---- runs

pub like-more : (e : KeyEdit) (fs : List KeyEdit) (f : KeyEdit) → AreLike e fs → same_kind e f ≡ true → AreLike e (fs ++ f ∷ [])
like-more e [] f h same = (same, tt)
like-more e (g ∷ gs) f h same = (h.0, like-more e gs f h.1 same)

-- A slice in its first element and the others.
pub first-others : {X : Type 0} (es : List X) (x : X) → 0 < length es → x ≡ get_or es 0 x → es ≡ x ∷ take (length es - 1) (drop 1 es)
first-others [] x h is = absurd (omega arith)
first-others (e ∷ es) x h is = ap (λ y. y ∷ es) (sym is) ∙ ap (λ r. x ∷ r) (sym (take_all (length (e ∷ es) - 1) es (omega arith)))

pub run-ends : (e : KeyEdit) (fs : List KeyEdit) (i : ℕ) → i < length fs → AreLike e (take i fs) → BeginUnlike e (drop i fs) → HasRunSize (e ∷ fs) (i + 1)
run-ends e fs i below like unlike = rw add-one ((omega arith), (like, unlike))

-- A run whose first edit removes a key with its comments.
pub removals-run : (o : SourceOptions) (source : List ℕ) (run : List given.KeyEdit) (first : given.KeyEdit) (key : String Global) (result : Result (Vec ℕ) RenamesError)
    → Some first ≡ slice_get run 0 → first ≡ variant.RemoveWithComment key
    → GivesOrFails (RemovesWithComments o source (removals_among (key_edits_in run))) result → RunsOrFails o source (key_edits_in run) result
removals-run o source [] first key result is kind h = absurd (cc)
removals-run o source (variant.Edit x ∷ xs) first key result is kind h = absurd (cc)
removals-run o source (variant.Rename x ∷ xs) first key result is kind h = absurd (cc)
removals-run o source (variant.SetComment x ∷ xs) first key result is kind h = absurd (cc)
removals-run o source (variant.RemoveWithComment x ∷ xs) first key (Ok bytes) is kind h = h
removals-run o source (variant.RemoveWithComment x ∷ xs) first key (Err error) is kind h = h
