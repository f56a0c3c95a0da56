use Rattle.std.proofs.Common.{[], ◌∷◌, append-nil, ◌∙◌}
use Rattle.std.specs.Str.{chars}
use Rattle.properties_tables.specs.Private.Fold.{found_escape, found_pairs}
use Rattle.properties_tables.proofs.SourceFindings.{pairs-append}
use Rattle.properties_changing.proofs.Counting.{compared-same}
use Rattle.properties_changing.proofs.counts.ComparisonTaker.malformed.Goals as goal

pub returns : goal.returns
returns c = λ first findings took.
    let same = pairs-append findings (found_escape c.args._escape (chars c.args._line.now) ∷ []) ∙ append-nil (found_pairs findings) in
    compared-same first _ _ _ same took
