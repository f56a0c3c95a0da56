use Rattle.std.proofs.Common.{rules}
use Rattle.properties_tables.proofs.FlawedLines.{scanning-start}
use Rattle.properties_tables.proofs.ill_formed.flawed_lines.Goals as goal

pub loop-number-init : goal.loop-number-init
loop-number-init c =
    let found = c.body_to_search-in_force in
    let body = found.result.1.now in
    let at = c.in_body-scanner.ensures in
    let h = scanning-start c.args.flaw body c.in_body-scanner.result found.result.0 found.ensures at.encoding (at.fits body) at.place (at.state body) in
    let all = h.1 in
    record { scanning = h.0; all = search rules }
