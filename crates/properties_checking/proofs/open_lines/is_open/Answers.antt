use Rattle.std.proofs.Common.{sym, ◌∙◌}
use Rattle.properties_format.specs.Computed.Cut.{decoded_line}
use Rattle.properties_text.specs.Encoding.{encoding_of}
use Rattle.properties_checking.proofs.OpenLines.{shut-other, turned}
use Rattle.properties_checking.proofs.open_lines.is_open.Goals as goal

pub returns : goal.returns
returns c =
    let e = encoding_of c.args.encoding in
    sym (c.loop-last.invariant.same ∙ turned c.loop-last.odd _ (shut-other (decoded_line e c.loop-last.rest.now) c.in_default.ensures))
