use Rattle.std.proofs.Common.{◌∙◌, ◌≡◌, ap, sym, ◌∷◌, []}
use Rattle.std.specs.Str.{chars}
use Rattle.std.proofs.lemmas.Result.{IfOk-weaker}
use Rattle.properties_format.specs.Text.{equals_sign}
use Rattle.properties_format.specs.Valued.{separator_after}
use Rattle.properties_text.proofs.Printing.Values.{none-left}
use Rattle.properties_editing.proofs.NewPairs.{equals-text, separator_for-none, separator_for-indent, separator_for-other, text-some}
use Rattle.properties_editing.proofs.new_pair.separator_for.Goals as goal
use Rattle.properties_editing.proofs.new_pair.separator_for.Goals.{then-is_empty-via-then-is_empty, then-is_empty-via-else-is_empty+then-is_indent}

pub returns-then-is_empty : goal.returns-then-is_empty
returns-then-is_empty c =
    let key = chars c.args.key.now in
    let separator = chars c.args.separator.now in
    let is : equals_sign ∷ [] ≡ separator_after key separator =
    elim c.then-is_empty.branch [
      | then-is_empty-via-then-is_empty w ↦ separator_for-none key separator (none-left c.args.separator.now (sym w.if-is_empty.ensures))
      | then-is_empty-via-else-is_empty+then-is_indent w ↦ separator_for-indent key separator (sym w.if-is_indent.ensures)
    ] in
    IfOk-weaker c.from_str.result _ _ (λ text h. ap chars h ∙ equals-text ∙ is) c.from_str.ensures.ok

pub returns : goal.returns
returns c =
    IfOk-weaker c.shortened.result _ _
    (λ text h. h ∙ separator_for-other (chars c.args.key.now) (chars c.args.separator.now) (text-some c.args.separator.now c.utf8.separator c.if-is_empty.ensures) (sym c.if-is_indent.ensures))
    c.shortened.ensures
