use Rattle.std.proofs.Common.{◌≡◌, [], ◌∷◌, ◌++◌, rules}
use Rattle.std.specs.Str.{chars}
use Rattle.counted_io.specs.Counting.{counted_inner}
use Rattle.properties_format.specs.Writing.{comment_call, wrote}
use Rattle.properties_c.proofs.WrittenLines.{has-opened}
use Rattle.properties_c.proofs.write.opened_writer.Goals as goal

pub returns-in-Ok : goal.returns-in-Ok
unfolding chars
returns-in-Ok c =
    let w = c.in_ok-writer.writer in
    let k = c.in-Ok.ensures in
    let moved : (counted_inner c.write_line.new.writer.sink).items ≡ (counted_inner w.sink).items ++ wrote w.encoding w.settings w.lines (comment_call [] ∷ []) = k.made.written.moved in
    has-opened c.in_ok-writer.ensures.0 c.in_ok-writer.ensures.1 (search rules) c.if-not-flags.false k.made moved
