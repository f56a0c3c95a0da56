use Rattle.std.specs.Str.{chars}
use Rattle.std.proofs.lemmas.Result.{on_ok_weaker}
use Rattle.properties_editing.specs.Private.Sources.{printed_repertoire}
use Rattle.properties_editing.proofs.Editing.{pair-appended}
use Rattle.properties_editing.proofs.new_pair.print_new.Goals as goal

pub returns : goal.returns
returns c =
    let prints = c.repertoire_of.ensures in
    let printed = rw (prints.keys c.args.first (chars c.args.key.now), prints.texts (chars c.args.value.now)) at c.print_texts.ensures.appended in
    on_ok_weaker c.print_texts.result
    (λ h. pair-appended (printed_repertoire c.args.opened) c.args.first (chars c.args.key.now) (chars c.args.value.now) c.args.line.now c.print_texts.new.line h)
    printed
