use Rattle.std.proofs.Common.{arith, ◌+◌}
use Rattle.std.specs.Prelude.{None, Some}
use Rattle.properties_lines.proofs.LineSearch.{first-from, searched-hit, searched-last, searched-all, found-unit, searched-past}
use Rattle.properties_lines.proofs.search.find_in_units.Goals as goal

pub returns-then-bytes-at-lt2 : goal.returns-then-bytes-at-lt2
returns-then-bytes-at-lt2 c =
    let hit = first-from c.args.bytes.now c.hits.searched (Some c.in-Some.first) c.in-Some.ensures c.hits.invariant.within in
    let s = searched-hit _ c.args.bytes.now c.hits.searched (c.hits.searched + c.in-Some.first) c.requires.size c.hits.invariant hit.0 in
    searched-last _ c.args.bytes.now _ c.requires.size s c.if-bytes-at-lt2.true

pub returns-in-Some-line_ending_unit : goal.returns-in-Some-line_ending_unit
returns-in-Some-line_ending_unit c =
    let hit = first-from c.args.bytes.now c.hits.searched (Some c.in-Some.first) c.in-Some.ensures c.hits.invariant.within in
    let s = searched-hit _ c.args.bytes.now c.hits.searched (c.hits.searched + c.in-Some.first) c.requires.size c.hits.invariant hit.0 in
    found-unit _ c.args.bytes.now _ s (omega (arith, hit.0.high)) c.in-Some-line_ending_unit.ensures

pub hits-preserved : goal.hits-preserved
hits-preserved c =
    let hit = first-from c.args.bytes.now c.hits.searched (Some c.in-Some.first) c.in-Some.ensures c.hits.invariant.within in
    let s = searched-hit _ c.args.bytes.now c.hits.searched (c.hits.searched + c.in-Some.first) c.requires.size c.hits.invariant hit.0 in
    searched-past _ c.args.bytes.now _ c.requires.size s (omega (arith, hit.0.high)) c.in_default-line_ending_unit.ensures

pub returns : goal.returns
returns c =
    searched-all _ c.args.bytes.now c.hits.searched c.hits.invariant
    (first-from c.args.bytes.now c.hits.searched None c.in_default.ensures c.hits.invariant.within)
