use Rattle.std.proofs.Common.{subst}
use Rattle.properties_text.specs.Encoding.{encoding_of}
use Rattle.properties_editing.specs.Private.BodyGroups.{IsFirstGroup}
use Rattle.properties_editing.proofs.BodyValues.{first-group}
use Rattle.properties_editing.proofs.groups.first_group.Goals as goal

pub returns : goal.returns
returns c =
    let takes = rw c.in-Some.is at c.in_ok-group.ensures in
    let new = c.new-groups.ensures in
    subst (λ e. IsFirstGroup (encoding_of e) c.args.body.now c.in-Some.group c.next.new.self) new.encoding (first-group new.start new.going takes)
