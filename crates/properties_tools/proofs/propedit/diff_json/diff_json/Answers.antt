use Rattle.properties_text.specs.Encoding.{encoding_of}
use Rattle.properties_tools.proofs.{TableDifferences.told-so, Objects.are-objects, Objects.some-object}
use Rattle.properties_tools.specs.{Propedit.Diff.AreObjects, Private.Json.difference_line}
use Rattle.properties_tools.proofs.propedit.diff_json.diff_json.Goals as goal

pub returns : goal.returns
returns c =
    told-so difference_line AreObjects (encoding_of c.args.encoding) c.args.old.now c.args.new.now c.diff_in.result some-object are-objects c.diff_in.ensures
