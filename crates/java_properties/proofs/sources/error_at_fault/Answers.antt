use Rattle.std.proofs.Common.{[], refl, ◌∙◌}
use Rattle.java_properties.specs.declared.sources.Broken.{Broken}
use Rattle.java_properties.proofs.WholeSources.{error-at-fault}
use Rattle.java_properties.proofs.sources.error_at_fault.Goals as goal

pub returns-in_default : goal.returns-in_default
returns-in_default c =
    let from : Broken = record { left = c.args.bytes; faults = 0 } in
    rw c.caused_by.ensures (error-at-fault (λ b. let w : Broken = b in w.left.now) (λ b. let w : Broken = b in w.faults) (λ b. []) c.args.fault from
    c.read_all_items.new.reader
    refl (λ same. c.in_default.not-Memory (c.kind.ensures ∙ same)) c.in-Err.ensures)
