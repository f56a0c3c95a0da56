use Rattle.properties_text.proofs.PrintedTexts.Runs.{reads-itself}
use Rattle.properties_text.proofs.print.runs.first_character.Goals as goal

pub returns : goal.returns
returns g c =
    reads-itself _ c.args.encoding c.args.text.now c.first_character.result c.requires.well (c.begins_escape.ensures.no c.if-begins_escape.false)
    c.first_character.ensures
