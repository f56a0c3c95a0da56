use Rattle.std.proofs.Common.{◌∙◌, ◌++◌, ◌-◌, ap, map, take, drop, length}
use Rattle.std.specs.Prelude.{Some, None}
use Rattle.byte_blocks.proofs.Marking.{first-byte}
use Rattle.byte_blocks.proofs.Searching.{none-in_ends, first-in_first, first-in_last}
use Rattle.byte_blocks.proofs.search.find_in_ends.Goals as goal

pub returns-in_err-first : goal.returns-in_err-first
returns-in_err-first g c =
    let test = g.C.ByteClass.holds in
    let bytes = c.args.bytes.now in
    let found = first-byte test (take 8 bytes ++ drop (length bytes - 8) bytes) c.marks.result None (c.marks.ensures ∙ ap (map test) c.ends.ensures) c.in_err-first.ensures in
    rw c.from_residual.ensures (none-in_ends test bytes c.requires.least c.requires.most found)

pub returns-then-first-lt8 : goal.returns-then-first-lt8
returns-then-first-lt8 g c =
    let test = g.C.ByteClass.holds in
    let bytes = c.args.bytes.now in
    let first = c.in_ok-first.first in
    let found = first-byte test (take 8 bytes ++ drop (length bytes - 8) bytes) c.marks.result (Some first) (c.marks.ensures ∙ ap (map test) c.ends.ensures) c.in_ok-first.ensures in
    first-in_first test bytes first c.requires.least c.if-first-lt8.true found

pub returns-else-first-lt8 : goal.returns-else-first-lt8
returns-else-first-lt8 g c =
    let test = g.C.ByteClass.holds in
    let bytes = c.args.bytes.now in
    let first = c.in_ok-first.first in
    let found = first-byte test (take 8 bytes ++ drop (length bytes - 8) bytes) c.marks.result (Some first) (c.marks.ensures ∙ ap (map test) c.ends.ensures) c.in_ok-first.ensures in
    first-in_last test bytes first c.requires.least c.requires.most c.if-first-lt8.false found
