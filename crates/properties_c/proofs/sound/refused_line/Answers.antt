use Rattle.std.proofs.Common.{◌≡◌, true, rules}
use Rattle.properties_text.specs.Encoding.{encoding_of}
use Rattle.properties_c.proofs.IllFormedLines.{unsound-told}
use Rattle.properties_c.proofs.sound.refused_line.Goals as goal

pub returns-in-Err : goal.returns-in-Err
returns-in-Err c =
    let strict : c.args.strict ≡ true = search rules in
    rw (strict, c.line_of.ensures) (unsound-told (encoding_of c.args.encoding) c.args.source.now c.in-Err.failure c.in-Err.ensures)
