use Rattle.std.proofs.Common.{◌++◌, ap, ap₂, sym, ◌∙◌, append_assoc}
use Rattle.properties_items.specs.Line.{ending_of}
use Rattle.properties_editing.specs.Private.BodyParts.{ended_bytes, part_text_bytes}
use Rattle.properties_editing.proofs.NewPairs.{ending-bytes}
use Rattle.properties_editing.proofs.parts.source_parts.push_part.Goals as goal

pub returns-in_ok-extend_from_slice-2 : goal.returns-in_ok-extend_from_slice-2
returns-in_ok-extend_from_slice-2 c =
    let d = c.args.body.now in
    let part = c.args.part.now in
    let old = c.args.bytes.now.items in
    let text = c.in_ok-extend_from_slice.ensures.items ∙ ap (λ v. old ++ v) c.bytes_of.ensures in
    let ending = c.as_bytes.ensures.value ∙ ending-bytes c.ending_text.result.now (ending_of c.in-Some.ending) c.ending_text.utf8 c.ending_text.ensures
    ∙ ap ended_bytes (sym c.in-Some.is) in
    c.in_ok-extend_from_slice-2.ensures.items ∙ ap₂ (λ x y. x ++ y) text ending ∙ append_assoc old (part_text_bytes d part.text) (ended_bytes part.ending)
