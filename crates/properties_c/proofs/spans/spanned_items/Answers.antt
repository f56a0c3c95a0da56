use Rattle.properties_c.proofs.PackedGroups.{none-left, spanned-next, spanned-all}
use Rattle.properties_c.proofs.spans.spanned_items.Goals as goal

pub loop-bytes-preserved : goal.loop-bytes-preserved
loop-bytes-preserved c =
    let takes = rw c.in-Some.is at c.in_ok-group.ensures.gives in
    spanned-next c.args.asked c.in_ok-view.view c.loop-bytes.view c.next.new.self c.loop-bytes.bytes.items c.push_group.new.bytes.items c.in-Some.group
    c.loop-bytes.invariant takes c.in_ok-push_group.ensures

pub returns : goal.returns
returns c =
    let none = none-left c.loop-bytes.view c.next.new.self c.in_ok-group.field-0 c.in_ok-group.ensures.gives c.in_default.not-Some in (
      c.in_ok-view.view,
      c.in_ok-view.ensures,
      spanned-all c.args.asked c.in_ok-view.view c.loop-bytes.view c.loop-bytes.bytes.items c.loop-bytes.invariant none,
    )
