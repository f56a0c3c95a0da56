use Rattle.std.specs.Str.{chars}
use Rattle.properties_checking.proofs.LineFindings.{took-result, took-table}
use Rattle.properties_checking.proofs.line_findings.LineFindingsTaker.pair.Goals as goal

pub add_key-requires : goal.add_key-requires
add_key-requires c = took-table c.args.self.now c.requires

pub returns : goal.returns
returns c =
    took-result c.args.self.now c.add_key.new.self c.add_key.ensures.setting c.args.line_number (chars c.args.key.now) (chars c.args._value.now) c.add_key.result
    c.add_key.ensures.adds c.add_key.ensures.kept
