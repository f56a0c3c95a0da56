use Rattle.std.proofs.Common.{◌∙◌}
use Rattle.properties_text.specs.Encoding.{encoding_of}
use Rattle.properties_tables.specs.Private.Flawed.{unit_at}
use Rattle.properties_tables.proofs.PairedUnits.{paired-more}
use Rattle.properties_tables.proofs.ill_formed.is_utf_16.Goals as goal

pub loop-rest-preserved : goal.loop-rest-preserved
loop-rest-preserved c =
    c.loop-rest.invariant
    ∙ paired-more (unit_at (encoding_of c.args.encoding)) c.loop-rest.after_high c.loop-rest.rest.now c.unit-unit.result c.is_low.result
    c.is_high-after_high.result
    c.in-len2-up.len_at_least c.unit-unit.ensures c.is_low.ensures c.if-is_low-after_high.false c.is_high-after_high.ensures
