use Rattle.std.proofs.Common.{subst}
use Rattle.properties_text.proofs.Texts.Spans.{AreFound}
use Rattle.properties_text.proofs.parse.parse_spans.Goals as goal

pub returns : goal.returns
returns c =
    let p : AreFound c.args.line.now c.parse_bytes.result =
    subst (λ v. AreFound v c.parse_bytes.result) c.as_bytes.ensures.value
    (record { slices = c.parse_bytes.ensures.slices; places = c.parse_bytes.ensures.places; text = c.parse_bytes.ensures.text }) in
    record { slices = p.slices; places = p.places; meets = (p.text c.utf8.line).meets; spans = (p.text c.utf8.line).spans }
