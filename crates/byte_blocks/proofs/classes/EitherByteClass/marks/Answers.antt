use Rattle.std.proofs.Common.{◌∙◌, ◌||◌, ap₂}
use Rattle.std.specs.Simd.Lanes.{zip2}
use Rattle.std.proofs.lemmas.Simd.{zip2-map}
use Rattle.byte_blocks.proofs.classes.EitherByteClass.marks.Goals as goal

pub returns : goal.returns
returns g c =
    c.or.ensures ∙ ap₂ (zip2 (λ a b. a || b)) c.marks.ensures c.marks-2.ensures ∙ zip2-map (λ a b. a || b) g.A.ByteClass.holds g.B.ByteClass.holds c.args.block
