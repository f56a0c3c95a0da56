use Rattle.std.proofs.Common.{take, ap, ◌∙◌}
use Rattle.std.proofs.lemmas.List.{with_items_is}
use Rattle.properties_format.specs.Text.{backslash}
use Rattle.properties_text.proofs.PrintedTexts.Runs.{stops-room}
use Rattle.properties_text.proofs.print.runs.print_stops.Goals as goal

pub returns-clause-put : goal.returns-clause-put
returns-clause-put g c =
    let back = with_items_is c.make_room.new.bytes c.put_stops.new.out (c.put_stops.ensures.same_room ∙ c.deref_mut.ensures.len) in
    let same = ap (take c.args.start.end) c.deref_mut.ensures.value ∙ c.in_ok-make_room.ensures.same in
    rw back (stops-room c.args.encoding c.args.repertoire (g.Stops.ByteClass.holds backslash) c.args.out.now.items c.deref_mut.result.now c.args.start.end
    c.args.text.now c.args.start.read c.put_stops.new.out c.put_stops.result same c.put_stops.ensures.put)

pub returns-clause-same : goal.returns-clause-same
returns-clause-same g c =
    let back = with_items_is c.make_room.new.bytes c.put_stops.new.out (c.put_stops.ensures.same_room ∙ c.deref_mut.ensures.len) in
    ap (take c.args.start.end) back ∙ c.put_stops.ensures.same ∙ ap (take c.args.start.end) c.deref_mut.ensures.value ∙ c.in_ok-make_room.ensures.same
