use Rattle.std.proofs.Common.{inl, arith, ◌∙◌}
use Rattle.properties_format.proofs.Encodings.WellFormed.{char-from_scalar}
use Rattle.properties_text.proofs.SpeltTexts.Escapes.{reads-ascii}
use Rattle.properties_text.proofs.escape.read.read_escape.Goals as goal

pub returns-then-text-lt128 : goal.returns-then-text-lt128
returns-then-text-lt128 c =
    let code = c.escaped_byte.ensures in
    reads-ascii c.requires.well (omega arith) c.requires.escape c.if-text-eq117.false c.if-text-lt128.true (c.from.ensures ∙ code)
    (char-from_scalar c.from.result (inl (omega (arith, c.from.ensures, c.escaped_byte.type_inv))))
