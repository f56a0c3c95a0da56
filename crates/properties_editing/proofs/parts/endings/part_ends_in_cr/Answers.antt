use Rattle.properties_format.specs.Text.{line_ending_text}
use Rattle.properties_items.specs.Line.{ending_of}
use Rattle.properties_editing.specs.Private.BodyParts.{part_text_bytes}
use Rattle.properties_editing.proofs.PartEndings.{ends-behind}
use Rattle.properties_editing.proofs.parts.endings.part_ends_in_cr.Goals as goal

pub returns-in-Some : goal.returns-in-Some
returns-in-Some c =
    rw c.in-Some.is (ends-behind (part_text_bytes c.args.body.now c.args.part.now.text) (line_ending_text (ending_of c.in-Some.ending)) c.is_cr.result c.is_cr.ensures)
