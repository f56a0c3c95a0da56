use Rattle.std.proofs.Common.{◌+◌, ◌<◌, ◌^◌, Bool, sym, subst, arith}
use Rattle.properties_lines.specs.Scanner.{GivesScannedLine, IsAlike}
use Rattle.properties_lines.proofs.Scans.{ready-searched, gives-ended_line, gives-last_line, asks-for_more}
use Rattle.properties_lines.proofs.scanner.Scanner.next.Goals as goal

pub returns-then-search : goal.returns-then-search
returns-then-search c =
    let numbered : c.args.self.now.passed + 1 < 2 ^ 64 = omega (arith, c.if-self-2.false) in
    gives-ended_line c.args.self.now c.skip_front.new.self c.search.new.self c.args.held.now c.args.ended c.if-self.false numbered c.if-not-skip_front.ensures c.if-search.ensures

pub returns-then-not-ended : goal.returns-then-not-ended
returns-then-not-ended c =
    let s = c.args.self.now in
    let P : Bool → Type 0 = λ v. IsAlike s c.args.held.now v c.skip_front.new.self in
    let numbered : s.passed + 1 < 2 ^ 64 = omega (arith, c.if-self-2.false) in
    let alike = subst P c.if-not-ended.true c.if-not-skip_front.ensures in
    (c.if-not-ended.true, asks-for_more s c.skip_front.new.self c.search.new.self c.args.held.now c.requires c.if-self.false numbered alike c.if-search.ensures)

pub take_last-requires : goal.take_last-requires
take_last-requires c =
    let s = c.args.self.now in
    let numbered : s.passed + 1 < 2 ^ 64 = omega (arith, c.if-self-2.false) in
    ready-searched s c.skip_front.new.self c.search.new.self c.args.held.now c.args.ended c.if-self.false numbered c.if-not-skip_front.ensures c.if-search.ensures

pub returns : goal.returns
returns c =
    let s = c.args.self.now in
    let P : Bool → Type 0 = λ v. IsAlike s c.args.held.now v c.skip_front.new.self in
    let numbered : s.passed + 1 < 2 ^ 64 = omega (arith, c.if-self-2.false) in
    let Q : Bool → Type 0 = λ v. GivesScannedLine s c.args.held.now v c.take_last.new.self in
    subst Q (sym c.if-not-ended.false)
    (gives-last_line s c.skip_front.new.self c.search.new.self c.take_last.new.self c.args.held.now c.if-self.false numbered (subst P c.if-not-ended.false c.if-not-skip_front.ensures) c.if-search.ensures
    c.take_last.ensures)
