use Rattle.std.proofs.Common.{sym}
use Rattle.properties_text.specs.Encoding.{encoding_of}
use Rattle.properties_text.proofs.ByteOrderMarks.{unmarked, like-bom, unlike-bom}
use Rattle.properties_text.proofs.encoding.byte_order_mark.begins_like_byte_order_mark.Goals as goal

pub returns-in-Present : goal.returns-in-Present
returns-in-Present c = sym (like-bom c.args.bytes.now (encoding_of c.in-Present.field-0) c.in-Present.field-1 c.in-Present.ensures.0)

pub returns-in_default : goal.returns-in_default
returns-in_default c = sym (unlike-bom c.args.bytes.now (unmarked c.args.bytes.now c.byte_order_mark.result c.byte_order_mark.ensures
    c.in_default.not-Present))
