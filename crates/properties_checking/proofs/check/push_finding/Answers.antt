use Rattle.std.proofs.lemmas.Result.{on_ok_weaker}
use Rattle.properties_checking.specs.{Private.Checking.said_of, Check.said_line, Check.said_value}
use Rattle.properties_tables.specs.Private.Table.{table_places}
use Rattle.properties_checking.proofs.Json.{adds-line, adds-object}
use Rattle.properties_checking.proofs.check.push_finding.Goals as goal

pub returns-in-Lines : goal.returns-in-Lines
returns-in-Lines c =
    let name = c.args.heading.name.now in
    rw c.in-Lines.is (on_ok_weaker c.push_line.result
    (adds-line (said_line name) (said_value name) (said_of (table_places c.args.keys.now) c.args.finding.now)) c.push_line.ensures)

pub returns-in-Json : goal.returns-in-Json
returns-in-Json c =
    let name = c.args.heading.name.now in
    rw c.in-Json.is (on_ok_weaker c.push_value.result
    (adds-object (said_line name) (said_value name) (said_of (table_places c.args.keys.now) c.args.finding.now)) c.push_value.ensures)
