use Rattle.std.proofs.Common.{eqb-true, sym}
use Rattle.std.specs.Str.{chars}
use Rattle.properties_text.specs.Encoding.{encoding_of}
use Rattle.properties_text.proofs.TextFronts.{decoded-all}
use Rattle.properties_text.proofs.encoding.text_buffer.TextBuffer.push_decoded.Goals as goal

pub returns-clause-appended : goal.returns-clause-appended
returns-clause-appended c =
    let none = eqb-true _ _ (sym c.loop-rest-test.ensures) in
    decoded-all (encoding_of c.args.encoding) (chars c.loop-rest.self) c.loop-rest.rest.now _ c.loop-rest.invariant.text none
