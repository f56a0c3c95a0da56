-- The comment lines above a group, one after another, and their texts.
use Rattle.std.proofs.Common.{◌≡◌, ℕ, ◌+◌, ◌-◌, Bool, true, false, List, [], ◌∷◌, ◌++◌, length, refl, sym, ap, ◌∙◌, subst, append_assoc, length-append, arith}
use Rattle.std.specs.Prelude.{if◌then◌else◌, map, Option, Some, None}
use Rattle.std.specs.Global.{Global}
use Rattle.std.specs.Option.{unwrap_or}
use Rattle.std.specs.declared.string.String.{String}
use Rattle.std.proofs.lemmas.List.{map-append}
use Rattle.properties_format.specs.Lines.{joined}
use Rattle.properties_format.specs.Body.{HeldLine, as_lines, ending_bytes, group_bytes, groups_bytes, last_ending}
use Rattle.properties_format.proofs.Body.Groups.{groups_bytes-append}
use Rattle.properties_items.specs.Texts.{characters}
use Rattle.properties_editing.specs.Views.{OpenView, TakesNext, viewed_line, past_group}
use Rattle.properties_editing.specs.declared.group.ViewedGroup.{ViewedGroup}
use Rattle.properties_renaming.specs.CommentLines.{AreCommentGroups, AreCommentTexts, IsCommentLine, is_line_of_comment, lines_in_text}
use Rattle.properties_renaming.specs.Commenting.{HaveNoText}
use Rattle.properties_format.specs.Separators.{last_sign}
use Rattle.properties_renaming.specs.Private.Commented.{TakesHeaded}
use Rattle.properties_renaming.specs.Private.Commenting.{GivesComment, IsGroupAt, IsModel, TakesComment, TellsModel, first_model, texts_above}
use Rattle.properties_renaming.specs.FoundSeparators.{IsRunOf, PassesGroup}
use Rattle.properties_renaming.specs.declared.comments.Headed.{Headed}
use Rattle.properties_renaming.specs.declared.commenting.Comment.{Comment}
use Rattle.properties_renaming.specs.declared.separators.LastRun.{LastRun}
use Rattle.properties_renaming.proofs.CommentGroups.{texts-append, whole-if}
use Rattle.properties_renaming.proofs.SeparatedRuns.{above_if, below_if}
use Rattle.properties_renaming.proofs.CommentedKeys.{ArePassed, headed-next, moved, none-passed, one-passed, same-start}

-- ---- one comment line more

pub line-more : (gs : List (List HeldLine)) (g : List HeldLine) (texts : List (List ℕ)) (text : List ℕ) → AreCommentTexts gs texts → IsCommentLine (joined (as_lines g)) text
    → AreCommentTexts (gs ++ g ∷ []) (texts ++ text ∷ [])
line-more [] g texts text none h = (text, [], h, ap (λ v. v ++ text ∷ []) none, refl)
line-more (f ∷ gs) g texts text (first, more, is, whole, rest) h =
    (first, more ++ text ∷ [], is, ap (λ v. v ++ text ∷ []) whole, line-more gs g more text rest h)

no_text-more : (gs : List (List HeldLine)) (g : List HeldLine) → HaveNoText gs → IsCommentLine (joined (as_lines g)) [] → HaveNoText (gs ++ g ∷ [])
no_text-more [] g h k = (k, tt)
no_text-more (f ∷ gs) g h k = (h.0, no_text-more gs g h.1 k)

model-later : (start : ℕ) (gs : List (List HeldLine)) (g : List HeldLine) (model : ViewedGroup) → IsModel start gs model → IsModel start (gs ++ g ∷ []) model
model-later start gs g model h = record {
  before = h.before;
  line = h.line;
  after = h.after ++ g ∷ [];
  division = ap (λ w. w ++ g ∷ []) h.division ∙ append_assoc h.before (h.line ∷ h.after) (g ∷ []);
  none_before = h.none_before;
  text = h.text;
  is_line = h.is_line;
  some = h.some;
  at = h.at;
}

-- It is the first that has a text, or none has one yet, or another is the first.
model-more : (start : ℕ) (gs : List (List HeldLine)) (g : List HeldLine) (text : List ℕ) (model : Option ViewedGroup) (line : ViewedGroup) → TellsModel start gs model
    → IsCommentLine (joined (as_lines g)) text → IsGroupAt (start + length (groups_bytes gs)) g line → TellsModel start (gs ++ g ∷ []) (first_model model line text)
model-more start gs g [] (Some model) line h is at = model-later start gs g model h
model-more start gs g (c ∷ cs) (Some model) line h is at = model-later start gs g model h
model-more start gs g [] None line h is at = no_text-more gs g h is
model-more start gs g (c ∷ cs) None line h is at = record {
  before = gs;
  line = g;
  after = [];
  division = refl;
  none_before = h;
  text = c ∷ cs;
  is_line = is;
  some = λ same. cc;
  at = at;
}

-- ---- the comment lines above a group

-- Comment lines alone were passed, and these are the texts of the comment so far.
pub record AreGathered {Z : Type 0} (v now : OpenView) (begun : Option ℕ) (last : LastRun) (texts : List (String Z)) (model : Option ViewedGroup) (separator : ℕ) : Type 0 where
  pub above : List (List HeldLine)
  pub comment : List (List HeldLine)
  pub passed : ArePassed v now above comment begun last
  pub are_texts : AreCommentTexts comment (map characters texts)
  pub tells_model : TellsModel ((past_group v).start + length (groups_bytes above)) comment model
  pub separator_is : separator ≡ last_sign (lines_in_text above)

pub none-gathered : {Z : Type 0} (v : OpenView) (last : LastRun) (texts : List (String Z)) → IsRunOf [] last → texts ≡ [] → AreGathered v v None last texts None 0
none-gathered v last texts no_lines none =
    record { above = []; comment = []; passed = none-passed v last no_lines; are_texts = ap (map characters) none; tells_model = tt; separator_is = refl }

at-group : {now next : OpenView} (group : ViewedGroup) → TakesNext now group next → IsGroupAt (past_group now).start next.group group
at-group {now} {next} group t =
    let start = moved t in
    let g = t.is_group in
    record {
      start_is = g.start ∙ start;
      end_is = g.end ∙ ap (λ n. n + (length (group_bytes next.group) - length (ending_bytes (last_ending next.group)))) start;
      next_is = g.next ∙ ap (λ n. n + length (group_bytes next.group)) start;
    }

-- The comment begins anew if a separator with this sign is directly above the next group.
pub record IsBegun {Z : Type 0} (found : Bool) (sign : ℕ) (begun begun' : Option ℕ) (texts texts' : List (String Z)) (model model' : Option ViewedGroup) (separator separator' : ℕ)
    : Type 0 where
  pub start_is : begun' ≡ (if found then None else begun)
  pub texts_are : texts' ≡ below_if found texts
  pub model_is : model' ≡ (if found then None else model)
  pub separator_is : separator' ≡ (if found then sign else separator)

module _ {v now : OpenView} {begun begun' : Option ℕ} {old : LastRun} (group : ViewedGroup) (start : ℕ) (found : Bool)
    {Z : Type 0} {texts texts' : List (String Z)} {model model' : Option ViewedGroup} {separator separator' : ℕ}
    (h : AreGathered v now begun old texts model separator) (is : IsBegun found old.sign begun begun' texts texts' model model' separator separator') where
  texts-begun : AreCommentTexts (below_if found h.comment) (map characters texts')
  texts-begun = subst (λ w. AreCommentTexts (below_if found h.comment) (map characters w)) (sym is.texts_are) (by found)
    where
      by : (b : Bool) → AreCommentTexts (below_if b h.comment) (map characters (below_if b texts))
      by true = refl
      by false = h.are_texts

  model-begun : TellsModel ((past_group v).start + length (groups_bytes (above_if found h.above h.comment))) (below_if found h.comment) model'
  model-begun = subst (TellsModel ((past_group v).start + length (groups_bytes (above_if found h.above h.comment))) (below_if found h.comment)) (sym is.model_is) (by found)
    where
      by : (b : Bool) → TellsModel ((past_group v).start + length (groups_bytes (above_if b h.above h.comment))) (below_if b h.comment) (if b then None else model)
      by true = tt
      by false = h.tells_model

  separator-begun : separator' ≡ last_sign (lines_in_text (above_if found h.above h.comment))
  separator-begun = is.separator_is ∙ by found
    where
      by : (b : Bool) → (if b then old.sign else separator) ≡ last_sign (lines_in_text (above_if b h.above h.comment))
      by true = h.passed.ends.run.0 ∙ ap last_sign (sym (texts-append h.above h.comment))
      by false = h.separator_is

  pub one-gathered : {next : OpenView} {last : LastRun} (new : List (String Z)) (made : String Z) (text : List ℕ) → TakesNext now group next
      → PassesGroup (is_line_of_comment group) (viewed_line next) old found last → start ≡ unwrap_or begun' group.start → is_line_of_comment group ≡ true
      → IsCommentLine (viewed_line next) text → characters made ≡ text → new ≡ texts' ++ made ∷ []
      → AreGathered v next (Some start) last new (first_model model' group text) separator'
  one-gathered {next} new made text t p at line says copied pushed =
      let g = next.group in
      let n = (past_group v).start in
      let up = above_if found h.above h.comment in
      let low = below_if found h.comment in
      let all : map characters new ≡ map characters texts' ++ text ∷ [] =
      ap (map characters) pushed ∙ map-append characters texts' (made ∷ []) ∙ ap (λ w. map characters texts' ++ w ∷ []) copied in
      let size = length-append (groups_bytes up) (groups_bytes low) in
      let both = ap length (ap groups_bytes (whole-if found h.above h.comment) ∙ groups_bytes-append up low) in
      let at_end = h.passed.place in
      let place : n + length (groups_bytes up) + length (groups_bytes low) ≡ (past_group now).start = omega arith in
      record {
        above = up;
        comment = low ++ g ∷ [];
        passed = one-passed group start found h.passed t p is.start_is at line;
        are_texts = subst (AreCommentTexts (low ++ g ∷ [])) (sym all) (line-more low g (map characters texts') text texts-begun says);
        tells_model = model-more (n + length (groups_bytes up)) low g text model' group model-begun says
            (subst (λ k. IsGroupAt k g group) (sym place) (at-group group t));
        separator_is = separator-begun;
      }

  -- Another group comes after them.
  pub comment-next : {next : OpenView} (last : LastRun) (comment : Comment) → TakesNext now group next → PassesGroup (is_line_of_comment group) (viewed_line next) old found last
      → start ≡ unwrap_or begun' group.start → is_line_of_comment group ≡ false → map characters texts' ≡ texts_above comment
      → TakesComment v (record comment { headed = record { start = start; group = group }; model = model'; separator = separator' }) next
  comment-next last comment t p at other said = (
    headed-next group start found last h.passed t p is.start_is at other,
    subst (AreCommentTexts (below_if found h.comment)) said texts-begun,
    subst (λ n. TellsModel n (below_if found h.comment) model') (sym (same-start group start found h.passed t is.start_is at)) model-begun,
    separator-begun,
  )

-- No other group is to come.
pub comment-none : (old new : OpenView) (answer : Option Comment) → GivesComment old answer new → ((comment : Comment) → answer ≡ Some comment → ⊥)
    → AreCommentGroups old.to_come
comment-none old new None h none = h
comment-none old new (Some comment) h none = absurd (none comment refl)
