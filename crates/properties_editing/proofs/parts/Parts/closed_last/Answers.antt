use Rattle.std.proofs.Common.{◌≡◌, ◌-◌, [], Some, length, refl, subst, ◌∙◌}
use Rattle.std.specs.Prelude.{get_or}
use Rattle.properties_items.specs.Line.{ending_of}
use Rattle.properties_editing.specs.Private.BodyParts.{ended_bytes, no_part}
use Rattle.properties_editing.specs.Private.ChangedParts.{ClosesPart}
use Rattle.properties_editing.proofs.NewPairs.{ending-bytes}
use Rattle.properties_editing.proofs.PartLists.{in-end}
use Rattle.properties_editing.proofs.parts.Parts.closed_last.Goals as goal

pub returns-in_ok-closed_part-in-OneEnding : goal.returns-in_ok-closed_part-in-OneEnding
returns-in_ok-closed_part-in-OneEnding c =
    let ps = c.args.self.now.parts.items in
    let e = in-end ps c.len-size.result c.index-part.result.now no_part c.if-size-eq0.false (c.len-size.ensures ∙ c.args.self.now.parts.ok.0) in
    rw c.in-OneEnding.is (
      refl,
      e.0,
      subst (λ p. ClosesPart c.args.body.now [] c.args.by p c.in_ok-closed_part-in-OneEnding.field-0)
          (c.index-part.ensures ∙ e.1) c.in_ok-closed_part-in-OneEnding.ensures,
    )

pub returns-in_ok-closed_part-in-TwoEndings : goal.returns-in_ok-closed_part-in-TwoEndings
returns-in_ok-closed_part-in-TwoEndings c =
    let ps = c.args.self.now.parts.items in
    let e = in-end ps c.len-size.result c.index-part.result.now no_part c.if-size-eq0.false (c.len-size.ensures ∙ c.args.self.now.parts.ok.0) in
    let opened : c.as_bytes-opened.result.now ≡ ended_bytes (Some c.args.by) =
    c.as_bytes-opened.ensures.value ∙ ending-bytes c.ending_text.result.now (ending_of c.args.by) c.ending_text.utf8 c.ending_text.ensures in
    rw c.in-TwoEndings.is (
      refl,
      e.0,
      subst (λ v. ClosesPart c.args.body.now v c.args.by (get_or ps (length ps - 1) no_part) c.in_ok-closed_part-in-TwoEndings.field-0) opened
          (subst (λ p. ClosesPart c.args.body.now c.as_bytes-opened.result.now c.args.by p c.in_ok-closed_part-in-TwoEndings.field-0)
          (c.index-part.ensures ∙ e.1) c.in_ok-closed_part-in-TwoEndings.ensures),
    )
