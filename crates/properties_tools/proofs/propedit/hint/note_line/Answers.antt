use Rattle.std.proofs.Common.{sym, ◌∙◌}
use Rattle.properties_text.specs.Encoding.{encoding_of}
use Rattle.properties_tools.proofs.Hinting.{line-lost, line-told, line-untold}
use Rattle.properties_tools.proofs.propedit.hint.note_line.Goals as goal

pub returns-in-Ok : goal.returns-in-Ok
returns-in-Ok c = line-told (encoding_of c.args.encoding) c.args.source.now c.args.note.now _ c.in-Ok.ensures

pub returns-then-is_memory : goal.returns-then-is_memory
returns-then-is_memory c =
    line-lost (encoding_of c.args.encoding) c.args.source.now c.args.note.now _ c.in-Err.ensures (sym c.is_memory.ensures ∙ c.if-is_memory.true)

pub returns-else-is_memory : goal.returns-else-is_memory
returns-else-is_memory c =
    line-untold (encoding_of c.args.encoding) c.args.source.now c.args.note.now _ c.in-Err.ensures (sym c.is_memory.ensures ∙ c.if-is_memory.false)
