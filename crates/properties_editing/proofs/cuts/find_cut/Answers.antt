use Rattle.std.proofs.Common.{◌≡◌, ◌∙◌}
use Rattle.properties_text.specs.Encoding.{encoding_of}
use Rattle.properties_editing.proofs.Editing.{editable-bytes}
use Rattle.properties_editing.proofs.BodyCuts.{cutting-found, cutting-on}
use Rattle.properties_editing.proofs.cuts.find_cut.Goals as goal

pub returns-then-passed-wanted : goal.returns-then-passed-wanted
returns-then-passed-wanted c =
    let e = encoding_of c.args.lines.scanner.encoding in
    let new = c.find_line.new.self in
    let takes = rw c.if-branch.true at c.in_ok-find_line.ensures in
    let same : encoding_of new.scanner.encoding ≡ e = takes.encoding ∙ c.loop-lines.invariant.encoding in
    let passed = rw (c.added.ensures, c.encoding.ensures, c.raw_line-line.ensures, same) at c.pass_characters-passed.ensures in
    let size = rw c.raw_line-line.ensures at c.indent_size.ensures in
    rw (c.number.ensures, c.raw_line-line.ensures, size.size)
    (cutting-found c.pass_characters-passed.result.count c.pass_characters-passed.result.size (editable-bytes e c.requires.bytes) c.loop-lines.invariant takes
    passed.count c.if-passed-wanted.true passed.size)

pub loop-lines-preserved : goal.loop-lines-preserved
loop-lines-preserved c =
    let e = encoding_of c.args.lines.scanner.encoding in
    let new = c.find_line.new.self in
    let takes = rw c.if-branch.true at c.in_ok-find_line.ensures in
    let same : encoding_of new.scanner.encoding ≡ e = takes.encoding ∙ c.loop-lines.invariant.encoding in
    let passed = rw (c.added.ensures, c.encoding.ensures, c.raw_line-line.ensures, same) at c.pass_characters-passed.ensures in
    cutting-on c.pass_characters-passed.result.count (editable-bytes e c.requires.bytes) c.loop-lines.invariant takes passed.count c.if-passed-wanted.false
