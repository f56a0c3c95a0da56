use Rattle.properties_editing.proofs.NewPairs.{indent-empty, indent-full}
use Rattle.properties_editing.proofs.new_pair.is_indent.Goals as goal

pub returns-then-is_empty : goal.returns-then-is_empty
returns-then-is_empty c = indent-empty c.args.key.now c.args.separator.now c.are_blanks.result c.utf8.key c.if-is_empty.ensures c.are_blanks.ensures

pub returns-else-is_empty : goal.returns-else-is_empty
returns-else-is_empty c = indent-full c.args.key.now c.args.separator.now c.utf8.key c.if-is_empty.ensures
