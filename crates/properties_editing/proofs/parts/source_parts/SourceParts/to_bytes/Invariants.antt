use Rattle.std.proofs.Common.{◌≡◌, ◌++◌, drop, take}
use Rattle.properties_editing.specs.Private.BodyParts.{parts_bytes}
use Rattle.properties_editing.specs.Private.SourceParts.{lf_if}
use Rattle.properties_editing.proofs.parts.source_parts.SourceParts.to_bytes.Given as goal

abbrev pub invariant-loop-part : goal.invariant-loop-part
invariant-loop-part l =
    let start = l.self.opened.start in
    let d = drop start l.source in
    l.bytes.items ++ parts_bytes d (drop l.part-index l.part-items)
    ≡ take start l.source ++ (lf_if l.self.guarded ++ parts_bytes d l.self.parts.parts.items)
