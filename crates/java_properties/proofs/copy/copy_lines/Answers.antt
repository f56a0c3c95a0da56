use Rattle.std.proofs.Common.{refl, sym, ap, ◌∙◌}
use Rattle.properties_lines.specs.LineJoiner.{LineJoining}
use Rattle.java_properties.specs.PropertiesWriter.{Writing}
use Rattle.java_properties.specs.Private.Engine.{writing}
use Rattle.java_properties.specs.declared.writer.engine.Engine.{Engine}
use Rattle.java_properties.specs.Private.GivenItems.{in_utf_8}
use Rattle.java_properties.proofs.CopiedLines.{unbuilt-no_item}
use Rattle.java_properties.proofs.Copying.{built-sent, built-unsent, built-refused, copied-start, copied-same, copied-no_pair, copied-pair, copied-unwritten}
use Rattle.java_properties.proofs.Copying.{copied-unread, copied-all, copied-error}
use Rattle.java_properties.proofs.copy.copy_lines.Goals as goal

pub loop-number-init : goal.loop-number-init
loop-number-init g c = record { copied = copied-start; error = c.requires.error; readable = c.requires.readable; same_reader = refl; same_sink = refl }

pub loop-number-preserved-in-Ok-Nothing : goal.loop-number-preserved-in-Ok-Nothing
loop-number-preserved-in-Ok-Nothing g c =
    let advances = c.in-Some.ensures.advances in
    let h = copied-same c.loop-number.engine c.build_line.new.engine c.build_line.ensures.same c.loop-number.invariant.copied in
    record {
      copied = copied-no_pair h advances.joins (rw c.in-Ok-Nothing.field-0-is at c.in-Ok-Nothing.ensures.builds);
      error = advances.error;
      readable = ap (λ (w : Engine). w.settings.readable) c.build_line.ensures.same ∙ c.loop-number.invariant.readable;
      same_reader = c.next_line.ensures.same_reader ∙ c.loop-number.invariant.same_reader;
      same_sink = c.loop-number.invariant.same_sink;
    }

pub loop-number-preserved : goal.loop-number-preserved
loop-number-preserved g c =
    let advances = c.in-Some.ensures.advances in
    let w = c.build_line.new.engine in
    let h = copied-same c.loop-number.engine w c.build_line.ensures.same c.loop-number.invariant.copied in
    let built = rw c.in-Ok-Pair-Ok.field-0-0-is at rw c.in-Ok-Pair-Ok.field-0-is at c.in-Ok-Pair-Ok.ensures.builds in
    let after = writing c.send_line.new.self c.send_line.new.sink in
    let writes = built-sent w c.loop-number.sink c.in-Ok-Pair-Ok.line after built c.send_line.ensures.fits c.in_default-send_line.ensures.sends in
    record {
      copied = copied-pair h advances.joins built.key built.value after built.outcome built.scalars writes;
      error = advances.error;
      readable = ap (λ (w : Writing _). w.settings.readable) c.in_default-send_line.ensures.sends.1 ∙ ap (λ (w : Engine). w.settings.readable)
          c.build_line.ensures.same ∙ c.loop-number.invariant.readable;
      same_reader = c.next_line.ensures.same_reader ∙ c.loop-number.invariant.same_reader;
      same_sink = c.send_line.ensures.same_sink ∙ c.loop-number.invariant.same_sink;
    }

pub returns-in-Err-send_line-clause-copies : goal.returns-in-Err-send_line-clause-copies
returns-in-Err-send_line-clause-copies g c =
    let w = c.build_line.new.engine in
    let h = copied-same c.loop-number.engine w c.build_line.ensures.same c.loop-number.invariant.copied in
    let built = rw c.in-Ok-Pair-Ok.field-0-0-is at rw c.in-Ok-Pair-Ok.field-0-is at c.in-Ok-Pair-Ok.ensures.builds in
    let after = writing c.send_line.new.self c.send_line.new.sink in
    let writes =
    built-unsent w c.loop-number.sink c.in-Ok-Pair-Ok.line after built c.send_line.ensures.fits c.in-Err-send_line.fault c.write_fault-error.result
    c.in-Err-send_line.ensures.sends c.write_fault-error.ensures in
    copied-unwritten h c.in-Some.ensures.advances.joins built.key built.value (in_utf_8 c.next_line.new.self.at.line) c.write_fault-error.result after
    built.outcome built.scalars writes

pub returns-in-Ok-Pair-Err-clause-copies : goal.returns-in-Ok-Pair-Err-clause-copies
returns-in-Ok-Pair-Err-clause-copies g c =
    let w = c.build_line.new.engine in
    let h = copied-same c.loop-number.engine w c.build_line.ensures.same c.loop-number.invariant.copied in
    let built = rw c.in-Ok-Pair-Err.field-0-0-is at rw c.in-Ok-Pair-Err.field-0-is at c.in-Ok-Pair-Err.ensures.builds in
    copied-unwritten h c.in-Some.ensures.advances.joins built.key built.value (in_utf_8 c.next_line.new.self.at.line) c.bare.result
    (writing w c.loop-number.sink) built.outcome built.scalars (built-refused w c.loop-number.sink c.in-Ok-Pair-Err.why c.bare.result built c.bare.ensures)

pub returns-in-Err-clause-copies : goal.returns-in-Err-clause-copies
returns-in-Err-clause-copies g c =
    let w = c.build_line.new.engine in
    let h = copied-same c.loop-number.engine w c.build_line.ensures.same c.loop-number.invariant.copied in
    let error = c.unresolved.result in
    let last = c.end.new.self.at in
    let done = ap (λ (l : LineJoining). l.at.state.is_done) c.end.ensures in
    copied-unread h c.in-Some.ensures.advances.joins (in_utf_8 last.line) error last.state done
    (unbuilt-no_item _ _ c.in-Err.error w error c.in-Err.ensures.builds c.unresolved.ensures)

pub returns-in-Ok-clause-copies : goal.returns-in-Ok-clause-copies
returns-in-Ok-clause-copies g c =
    let new = c.next_line.new.self in
    let next = c.next_line.new.reader in
    let held = c.loop-number.invariant in
    let quiet = sym c.in-Ok.ensures.error in
    rw c.finish.ensures.taken (copied-all c.loop-number.lines new next held.copied held.error c.in_default.ensures.advances (in_utf_8 new.at.line) quiet)

pub returns-in-Err-finish-clause-copies : goal.returns-in-Err-finish-clause-copies
returns-in-Err-finish-clause-copies g c =
    let new = c.next_line.new.self in
    let held = c.loop-number.invariant in
    let kept = sym c.in-Err-finish.ensures.error in
    rw c.finish.ensures.taken
    (copied-error c.loop-number.lines new c.next_line.new.reader held.copied held.error c.in_default.ensures.advances (in_utf_8 new.at.line)
    c.in-Err-finish.error c.from.result kept c.from.ensures)
