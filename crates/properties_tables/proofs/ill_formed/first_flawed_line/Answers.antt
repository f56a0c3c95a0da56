use Rattle.properties_tables.proofs.FlawedLines.{scanning-start, found-first}
use Rattle.properties_tables.proofs.ill_formed.first_flawed_line.Goals as goal

pub next_flawed-requires : goal.next_flawed-requires
next_flawed-requires c =
    let found = c.body_to_search-in_force in
    let body = found.result.1.now in
    let at = c.in_body-scanner.ensures in
    (scanning-start c.args.flaw body c.in_body-scanner.result found.result.0 found.ensures at.encoding (at.fits body) at.place (at.state body)).0

pub returns : goal.returns
returns c =
    let flaw = c.args.flaw in
    let found = c.body_to_search-in_force in
    let body = found.result.1.now in
    let s = c.in_body-scanner.result in
    let at = c.in_body-scanner.ensures in
    let h = scanning-start flaw body s found.result.0 found.ensures at.encoding (at.fits body) at.place (at.state body) in
    found-first flaw body s c.next_flawed.new.scanner c.next_flawed.result h.1 c.next_flawed.ensures
