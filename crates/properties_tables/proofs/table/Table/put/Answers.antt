use Rattle.std.proofs.Common.{arith, refl}
use Rattle.std.specs.Str.{chars}
use Rattle.properties_tables.proofs.Tables.{put-last, put-there}
use Rattle.properties_tables.specs.declared.table.LastPair.{LastPair}
use Rattle.properties_tables.proofs.table.Table.put.Goals as goal

pub returns-then-row-rows : goal.returns-then-row-rows
returns-then-row-rows c =
    let last : LastPair = record { value = c.in_ok-value.value; line = c.args.line_number } in
    let e = c.in_ok-value.ensures in
    let done = put-there c.args.self.now _ c.requires c.args.line_number (chars c.args.key.now) c.args.value.now c.in_ok-row.row last
    c.in_ok-row.ensures.puts c.in_ok-row.ensures.table e.appends e.holds e.is refl c.ranges.line_number.fits (omega arith) refl in
    record { puts = done.0; table = done.1 }

pub returns : goal.returns
returns c =
    let last : LastPair = record { value = c.in_ok-value.value; line = c.args.line_number } in
    let e = c.in_ok-value.ensures in
    let done = put-last c.args.self.now _ c.requires c.args.line_number (chars c.args.key.now) c.args.value.now c.in_ok-row.row last
    c.in_ok-row.ensures.puts c.in_ok-row.ensures.table e.appends e.holds e.is refl c.ranges.line_number.fits (λ below. omega (arith, below)) c.in_ok-push.ensures.items in
    record { puts = done.0; table = done.1 }
