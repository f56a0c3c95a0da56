use Rattle.properties_text.specs.Encoding.{encoding_of}
use Rattle.properties_tools.specs.{Propedit.Diff.IsDifferenceText, Propedit.Differences.difference_lines}
use Rattle.properties_tools.proofs.TableDifferences.{some-line, told-so}
use Rattle.properties_tools.proofs.propedit.diff.diff.Goals as goal

pub returns : goal.returns
returns c =
    let old = c.args.old.name.now in
    let new = c.args.new.name.now in
    told-so (difference_lines old new) (IsDifferenceText old new) (encoding_of c.args.encoding) c.args.old.bytes.now c.args.new.bytes.now c.diff_in.result
    (some-line old new) (λ ds text is lines. is) c.diff_in.ensures
