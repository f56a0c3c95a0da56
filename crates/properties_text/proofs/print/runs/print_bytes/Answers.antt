use Rattle.std.proofs.Common.{◌≤◌, List, ℕ, length, take, sym, subst, ◌∙◌, arith}
use Rattle.std.specs.Vec.{with_items}
use Rattle.std.proofs.lemmas.List.{length-take-le, with_items_is}
use Rattle.properties_format.specs.Text.{backslash}
use Rattle.properties_text.specs.Escaping.{IsWell}
use Rattle.properties_text.specs.PrintedTexts.{ArePut, from_on, IsRunPut}
use Rattle.properties_text.proofs.PrintedTexts.Runs.{put-all, put-none, put-run, rest-printed, run-kept, fewer-kept, small-take}
use Rattle.properties_text.proofs.PrintedTexts.Steps.{past-well}
use Rattle.properties_text.proofs.print.runs.print_bytes.Goals as goal
use Rattle.properties_text.proofs.print.runs.print_bytes.Given.{Over}
use Rattle.properties_text.proofs.print.runs.print_bytes.Goals.{After-put_if_room-put}

-- the bytes after the run at the front was put
abbrev after-run : (g : Over) → After-put_if_room-put g → List ℕ
after-run g c = (with_items c.args.out.now c.put_if_room-put.new.out).items

-- that run
run : (g : Over) (c : After-put_if_room-put g) → let put = c.put_if_room-put.result in
    IsRunPut g.Stops.ByteClass.holds c.args.out.now.items c.args.at (take c.args.part.size c.args.part.bytes.now) 0 put (after-run g c) × put.end ≤ length
    (after-run g c)
run g c =
    let own = c.put_if_room-put.ensures in
    let back = with_items_is c.args.out.now c.put_if_room-put.new.out (own.same_room ∙ c.deref_mut.ensures.len) in
    (rw back (rw c.deref_mut.ensures.value at own.run), rw back own.within)

-- what it put
run-put : (g : Over) (c : After-put_if_room-put g) → let text = take c.args.part.size c.args.part.bytes.now in
    let escaped = g.Stops.ByteClass.holds backslash in
    ArePut c.args.encoding c.args.repertoire escaped (from_on c.args.encoding c.args.repertoire escaped c.args.out.now.items c.args.at text 0) text
    c.put_if_room-put.result (after-run g c)
run-put g c =
    let text = take c.args.part.size c.args.part.bytes.now in
    let put = run g c in
    let well = subst (IsWell c.args.encoding) (sym (past-well c.args.encoding c.args.repertoire text c.requires.well)) c.requires.well in
    put-run c.requires.stops (put-none (omega arith) c.requires.at well) put.1
    (small-take c.args.part.size c.args.part.bytes.now c.args.part.small) put.0

pub print_rest-requires-clause-well : goal.print_rest-requires-clause-well
print_rest-requires-clause-well g c = (run-put g (goal.at.print_rest-requires-clause-well g c).After-put_if_room-put).well

pub returns-then-put-size-clause-printed : goal.returns-then-put-size-clause-printed
returns-then-put-size-clause-printed g c =
    rest-printed c.args.out.now.items c.args.at c.print_rest.new.out.items c.print_rest.result c.requires.well
    (run-put g (goal.at.returns-then-put-size-clause-printed g c).After-put_if_room-put) c.print_rest.ensures.printed

pub returns-clause-printed : goal.returns-clause-printed
returns-clause-printed g c =
    let size = length-take-le c.args.part.size c.args.part.bytes.now c.args.part.within in
    put-all c.requires.well (omega (arith, size, c.if-put-size.false)) (run-put g (goal.at.returns-clause-printed g c).After-put_if_room-put)

pub returns-clause-same : goal.returns-clause-same
returns-clause-same g c =
    let put = run g (goal.at.returns-clause-same g c).After-put_if_room-put in
    (run-kept c.args.at (omega arith) c.requires.at put.0 put.1).1

pub returns-then-put-size-clause-same : goal.returns-then-put-size-clause-same
returns-then-put-size-clause-same g c =
    let before = (goal.at.returns-then-put-size-clause-same g c).After-put_if_room-put in
    let put = run g before in
    let kept = run-kept c.args.at (omega arith) c.requires.at put.0 put.1 in
    fewer-kept c.print_rest.new.out.items (after-run g before) c.args.at c.put_if_room-put.result.end kept.0 c.print_rest.ensures.same ∙ kept.1
