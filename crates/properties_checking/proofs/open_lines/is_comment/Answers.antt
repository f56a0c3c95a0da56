use Rattle.std.proofs.Common.{sym}
use Rattle.properties_format.specs.Computed.Cut.{decoded_line}
use Rattle.properties_text.specs.Encoding.{encoding_of}
use Rattle.properties_checking.proofs.OpenLines.{no-comment}
use Rattle.properties_checking.proofs.open_lines.is_comment.Goals as goal

pub returns : goal.returns
returns c =
    let e = encoding_of c.args.encoding in
    sym (no-comment (decoded_line e c.args.bytes.now) (decoded_line e c.loop-first.rest.now) c.in_default.ensures c.loop-first.invariant.same)
