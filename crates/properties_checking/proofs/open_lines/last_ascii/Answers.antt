use Rattle.std.proofs.lemmas.List.{take_rest}
use Rattle.properties_text.specs.Encoding.{encoding_of}
use Rattle.properties_checking.proofs.{OpenLines.last-odd, OpenLines.last-short, OpenLines.last-told}
use Rattle.properties_checking.proofs.open_lines.last_ascii.Goals.{then-end-size-via-then-end-size}
use Rattle.properties_checking.proofs.open_lines.last_ascii.Goals.{then-end-size-via-else-end-size+then-end-size-ne0}
use Rattle.properties_checking.proofs.open_lines.last_ascii.Goals as goal

pub returns-then-end-size : goal.returns-then-end-size
returns-then-end-size c =
    let e = encoding_of c.args.encoding in
    let d = c.args.bytes.now in
    let size = c.unit_size-size.ensures in
    elim c.then-end-size.branch [
      | then-end-size-via-then-end-size w ↦ last-short e d (rw size at w.if-end-size.true)
      | then-end-size-via-else-end-size+then-end-size-ne0 w ↦ last-odd e d (rw size at w.if-end-size-ne0.true)
    ]

pub returns : goal.returns
returns c =
    let e = encoding_of c.args.encoding in
    let d = c.args.bytes.now in
    let size = c.unit_size-size.ensures in
    last-told e d c.ascii_unit.result (rw size at c.if-end-size.false) (rw size at c.if-end-size-ne0.false) (rw (size, take_rest) at c.ascii_unit.ensures)
