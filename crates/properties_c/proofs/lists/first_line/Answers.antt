use Rattle.std.proofs.Common.{arith}
use Rattle.properties_c.proofs.{Packing.sizes, ListFronts.first-texts}
use Rattle.properties_c.proofs.lists.first_line.Goals as goal

pub slice_bounds-texts-count : goal.slice_bounds-texts-count
slice_bounds-texts-count c =
    grind (arith, sizes, c.in-Some.ensures.division)

pub slice_bounds-texts-start : goal.slice_bounds-texts-start
slice_bounds-texts-start c =
    grind (arith, sizes, c.in-Some.ensures.division)

pub line_of-requires : goal.line_of-requires
line_of-requires c = first-texts c.in-Some.ensures
