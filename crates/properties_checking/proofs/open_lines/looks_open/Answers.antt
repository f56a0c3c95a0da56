use Rattle.std.proofs.Common.{reverse, sym}
use Rattle.properties_format.specs.Computed.Cut.{decoded_line}
use Rattle.properties_text.specs.Encoding.{encoding_of}
use Rattle.properties_checking.proofs.OpenLines.{looks-shut, unblanked-same}
use Rattle.properties_checking.proofs.open_lines.looks_open.Goals as goal

pub returns : goal.returns
returns c =
    let e = encoding_of c.args.encoding in
    let text = decoded_line e c.args.bytes.now in
    let rest = decoded_line e c.loop-last.rest.now in
    sym (looks-shut text rest c.in_default.ensures (unblanked-same (reverse text) (reverse rest) c.loop-last.is_blank_last c.loop-last.invariant.unblanked))
