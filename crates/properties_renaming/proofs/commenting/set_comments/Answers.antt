use Rattle.properties_renaming.proofs.commenting.set_comments.Goals as goal

pub returns-in-Bytes : goal.returns-in-Bytes
returns-in-Bytes c = ((c.in_ok-edit_with.field-0, c.in_ok-edit_with.ensures.edits), rw c.in-Bytes.is at c.in_ok-bytes.ensures)

pub returns-in-NoKey : goal.returns-in-NoKey
returns-in-NoKey c = ((c.in_ok-edit_with.field-0, c.in_ok-edit_with.ensures.edits), rw c.in-NoKey.is at c.in_ok-bytes.ensures)
