use Rattle.std.proofs.Common.{◌∙◌, ap, not, map}
use Rattle.std.proofs.lemmas.Simd.{map-map}
use Rattle.byte_blocks.proofs.classes.ExceptByteClass.marks.Goals as goal

pub returns : goal.returns
returns g c = c.complement.ensures ∙ ap (map not) c.marks.ensures ∙ map-map not g.C.ByteClass.holds c.args.block
