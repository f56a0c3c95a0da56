use Rattle.std.proofs.Common.{◌++◌, ◌∷◌, ◌∙◌, [], ap, refl, inr}
use Rattle.properties_text.specs.Encoding.{encoding_of}
use Rattle.java_properties.specs.ReadLines.{entries_in}
use Rattle.java_properties.specs.PropertiesIter.{entry_of}
use Rattle.std.proofs.lemmas.List.{map-append}
use Rattle.java_properties.proofs.Readings.{collected-start, collected-next, collected-none, collected-lost, collected-error}
use Rattle.java_properties.proofs.iter.lines.read_lines.Goals as goal

pub loop-item-init : goal.loop-item-init
loop-item-init g c = record {
  collected = ([], rw (c.new-lines.ensures.items, c.new-items.ensures) (collected-start (encoding_of c.args.encoding) c.args.input.now));
  same_reader = refl;
}

pub loop-item-preserved : goal.loop-item-preserved
loop-item-preserved g c =
    let next = rw c.in-Ok.is at c.in-Some.ensures.gives in
    let bytes = c.loop-item.invariant.collected.0 ++ next.bytes in
    let added = ap entries_in c.in_default-push.ensures.items ∙ map-append entry_of c.loop-item.lines.items (c.in-Ok.line ∷ []) in
    record {
      collected = (bytes, rw added (collected-next c.loop-item.invariant.collected.1 next));
      same_reader = c.next_item.ensures.same_reader ∙ c.loop-item.invariant.same_reader;
    }

pub returns-in-Err-push-clause-reads : goal.returns-in-Err-push-clause-reads
returns-in-Err-push-clause-reads g c =
    let next = rw c.in-Ok.is at c.in-Some.ensures.gives in
    let lost = collected-lost c.loop-item.invariant.collected.1 next c.from-error.ensures in
    inr (inr (rw c.in-Err-push.ensures.items lost))

pub returns-in-Err-clause-reads : goal.returns-in-Err-clause-reads
returns-in-Err-clause-reads g c =
    let refused = rw c.in-Err.is at c.in-Some.ensures.gives in
    collected-error c.loop-item.invariant.collected.1 refused.0 refused.2

pub returns-clause-reads : goal.returns-clause-reads
returns-clause-reads g c = collected-none c.loop-item.invariant.collected.1 c.in_default.ensures.gives
