use Rattle.std.proofs.lemmas.List.{map-id}
use Rattle.std.proofs.lemmas.Iterator.{YieldsList-from_chars}
use Rattle.std.proofs.lemmas.Iterator.Consumers.{YieldsList-end}
use Rattle.properties_text.specs.Printing.{in_format, place_of}
use Rattle.properties_text.proofs.Printing.Characters.{printed_more}
use Rattle.properties_text.proofs.print.print_text.Goals as goal

pub loop-character-preserved : goal.loop-character-preserved
loop-character-preserved c =
    rw (c.in_ok-print_character.ensures, c.loop-character.invariant)
    (printed_more (in_format c.args.repertoire) (place_of c.args.place) c.args.line.now c.loop-character.yielded c.in-Some.character)

pub returns : goal.returns
returns c =
    let loop = c.loop-character in
    let yields = YieldsList-from_chars c.args.text.now c.utf8.text cc in
    let last = YieldsList-end yields loop.yielded _ loop.yielded_by _ _ c.in-None.is c.next.ensures.steps in
    rw (← last.0, map-id loop.yielded) loop.invariant
