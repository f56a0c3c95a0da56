use Rattle.std.proofs.Common.{◌∙◌, ap, refl, rules, sym}
use Rattle.properties_lines.specs.LineJoiner.{LineState}
use Rattle.java_properties.proofs.Items.{ended}
use Rattle.properties_c.proofs.GivenItems.{packed-start, packed-next, packed-failed, packed-all}
use Rattle.properties_c.proofs.items.items_in.Goals as goal

pub loop-number-init : goal.loop-number-init
loop-number-init c = record {
  packed = rw c.new-bytes.ensures.items (packed-start _ (ap (λ v. let w : LineState = v in w.state) c.new-lines.ensures.at));
  error = c.new-lines.ensures.error;
}

pub loop-number-preserved : goal.loop-number-preserved
loop-number-preserved c =
    let pushed = rw c.line-line.ensures at c.in-Ok.ensures in
    record {
      packed = packed-next c.in-Some.number c.next_text.new.self.at _ pushed.0 c.loop-number.invariant.packed c.in-Some.ensures.joins.0 pushed.1 pushed.2;
      error = c.in-Some.ensures.joins.2;
    }

pub returns-in_default-status_of : goal.returns-in_default-status_of
returns-in_default-status_of c =
    let failed = rw c.line-line.ensures at c.in-Err.ensures in
    packed-failed c.in-Some.number c.next_text.new.self.at c.push_line.new.bytes.items c.in-Err.error _ c.loop-number.invariant.packed
    c.in-Some.ensures.joins.0 failed refl (c.status_of.ensures ∙ search rules) c.in_default-status_of.not-NoMemory refl

pub returns-in-Ok-finish : goal.returns-in-Ok-finish
returns-in-Ok-finish c =
    let end = ended c.in_default.ensures.joins (sym c.in-Ok-finish.ensures.error) in
    packed-all _ c.loop-number.invariant.packed end.0 refl refl refl
