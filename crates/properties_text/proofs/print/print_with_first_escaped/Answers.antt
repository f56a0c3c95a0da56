use Rattle.std.proofs.Common.{◌++◌, take, length, sym, ap, subst, ◌∙◌, arith}
use Rattle.std.proofs.lemmas.List.{length-take-le, with_items_is}
use Rattle.properties_format.specs.Printing.{unicode_escape}
use Rattle.properties_text.specs.Escaping.{IsWell}
use Rattle.properties_text.proofs.PrintedTexts.Keys.{escaped-rest, rest-at}
use Rattle.properties_text.proofs.PrintedTexts.Runs.{front-kept, fewer-kept}
use Rattle.properties_text.proofs.print.print_with_first_escaped.Goals as goal

pub returns-clause-printed : goal.returns-clause-printed
returns-clause-printed g c =
    let read = c.in-Ok.ensures in
    let size = length-take-le c.args.part.size c.args.part.bytes.now c.args.part.within in
    let put = c.put_escape-end in
    let back = with_items_is c.make_room.new.bytes put.new.out (put.ensures.same_room ∙ c.deref_mut.ensures.len) in
    let same = ap (take c.args.at) c.deref_mut.ensures.value ∙ c.in_ok-make_room.ensures.same in
    escaped-rest c.args.repertoire c.args.out.now.items c.print_bytes.new.out.items c.args.at put.result c.print_bytes.result read
    (rest-at c.args.part.bytes.now c.args.part.size c.in-Ok.first.length (omega (arith, read.within, size))) back
    (put.ensures.put ∙ ap (λ v. v ++ unicode_escape c.in-Ok.first.character) same) c.print_bytes.ensures.printed

pub print_bytes-requires-clause-well : goal.print_bytes-requires-clause-well
print_bytes-requires-clause-well g c =
    let read = c.in-Ok.ensures in
    let size = length-take-le c.args.part.size c.args.part.bytes.now c.args.part.within in
    subst (IsWell c.args.encoding) (sym (rest-at c.args.part.bytes.now c.args.part.size c.in-Ok.first.length (omega (arith, read.within, size)))) read.well

pub returns-clause-same : goal.returns-clause-same
returns-clause-same g c =
    let put = c.put_escape-end in
    let back = with_items_is c.make_room.new.bytes put.new.out (put.ensures.same_room ∙ c.deref_mut.ensures.len) in
    let wide = c.in_ok-make_room.ensures.room in
    let value = ap length c.deref_mut.ensures.value in
    let kept = front-kept c.deref_mut.result.now put.new.out (unicode_escape c.in-Ok.first.character) c.args.at c.args.at put.result (omega arith)
    (omega (arith, wide, value)) (omega (arith, put.ensures.within, put.ensures.same_room, wide, value)) put.ensures.put in
    fewer-kept c.print_bytes.new.out.items _ c.args.at put.result kept.0 c.print_bytes.ensures.same
    ∙ rw (back, kept.1, c.deref_mut.ensures.value) c.in_ok-make_room.ensures.same
