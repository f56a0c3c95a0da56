use Rattle.std.proofs.Common.{take, sym, ◌∙◌}
use Rattle.properties_text.proofs.Printing.Characters.{escape_wide}
use Rattle.properties_text.proofs.print.escapes.put_surrogates.Goals as goal

pub returns-clause-put : goal.returns-clause-put
returns-clause-put c =
    let middle = c.put_unit-middle in
    c.put_unit.ensures.put
    ∙ sym (escape_wide c.args.code (take c.args.at c.args.out.now) (take middle.result middle.new.out) c.requires.wide middle.ensures.put)
