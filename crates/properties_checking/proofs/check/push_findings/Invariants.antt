use Rattle.std.proofs.Common.{map, take}
use Rattle.properties_checking.specs.{Private.Checking.said_of, Private.Objects.AddsReport, Check.finding_kind, Check.said_line, Check.said_value}
use Rattle.properties_checking.specs.Kinds.{reported}
use Rattle.properties_tables.specs.Private.Table.{table_places}
use Rattle.properties_checking.proofs.check.push_findings.Given as goal

abbrev pub invariant-loop-finding : goal.invariant-loop-finding
invariant-loop-finding l =
    let name = l.heading.name.now in
    AddsReport l.heading.report (said_line name) (said_value name)
    (reported l.heading.ignored (λ s. finding_kind s.what) (map (said_of (table_places l.keys)) (take l.finding-index l.findings))) l.fn.text l.text
