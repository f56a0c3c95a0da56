use Rattle.std.proofs.Common.{◌∙◌, ◌++◌, ap, append_assoc, codes}
use Rattle.properties_tools.specs.{Propedit.Differences.row_line, Private.Differing.row_at}
use Rattle.properties_tools.proofs.propedit.diff.NamedLinesDiffForm.changed.Goals as goal

pub returns : goal.returns
returns c =
    let old = row_line c.args.self.now.old_name.now (codes "-") (row_at c.args.old) in
    let new = row_line c.args.self.now.new_name.now (codes "+") (row_at c.args.new) in
    c.in_ok-push_row-2.ensures ∙ ap (λ v. v ++ new) c.in_ok-push_row.ensures ∙ append_assoc c.args.text.now.items old new
