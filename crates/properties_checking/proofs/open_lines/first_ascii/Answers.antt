use Rattle.std.proofs.Common.{arith}
use Rattle.properties_text.specs.Encoding.{encoding_of}
use Rattle.properties_checking.proofs.OpenLines.{first-short, first-told}
use Rattle.properties_checking.proofs.open_lines.first_ascii.Goals as goal

pub returns-then-bytes-size : goal.returns-then-bytes-size
returns-then-bytes-size c = first-short (encoding_of c.args.encoding) c.args.bytes.now (omega (arith, c.unit_size-size.ensures, c.if-bytes-size.true))

pub returns : goal.returns
returns c =
    let size = c.unit_size-size.ensures in
    first-told (encoding_of c.args.encoding) c.args.bytes.now c.ascii_unit.result (omega (arith, size, c.if-bytes-size.false)) (rw size at c.ascii_unit.ensures)
