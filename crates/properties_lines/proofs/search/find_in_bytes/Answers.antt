use Rattle.std.proofs.Common.{◌+◌}
use Rattle.std.specs.Prelude.{None, Some}
use Rattle.properties_lines.proofs.LineSearch.{first-from, searched-bytes, searched-all, found-byte}
use Rattle.properties_lines.proofs.search.find_in_bytes.Goals as goal

pub returns-in_err-offset : goal.returns-in_err-offset
returns-in_err-offset c e size =
    let s = searched-bytes e c.args.bytes.now c.args.from size c.requires.within c.requires.none_before in
    rw c.from_residual.ensures (searched-all e c.args.bytes.now c.args.from s (first-from c.args.bytes.now c.args.from None c.in_err-offset.ensures c.requires.within))

pub returns : goal.returns
returns c e size =
    let s = searched-bytes e c.args.bytes.now c.args.from size c.requires.within c.requires.none_before in
    let hit = first-from c.args.bytes.now c.args.from (Some c.in_ok-offset.offset) c.in_ok-offset.ensures c.requires.within in
    found-byte e c.args.bytes.now c.args.from (c.args.from + c.in_ok-offset.offset) size s hit.0 hit.1
