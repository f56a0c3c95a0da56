use Rattle.std.proofs.Common.{◌≡◌, ◌-◌, arith}
use Rattle.std.specs.Str.{chars}
use Rattle.properties_format.proofs.Edited.Pair.{editable-own}
use Rattle.properties_text.specs.Encoding.{encoding_of}
use Rattle.properties_editing.proofs.Editing.{editable-bytes}
use Rattle.properties_editing.proofs.BodyValues.{before-value, value-new}
use Rattle.properties_editing.proofs.new_value.new_value.Goals as goal

pub front_size-requires-clause-before : goal.front_size-requires-clause-before
front_size-requires-clause-before c =
    let all : c.in-Some.separator.end - 0 ≡ c.in-Some.separator.end = omega arith in
    rw (c.range.ensures.value, all)
    (before-value c.line-line.result.now c.in-Some.separator c.line-line.ensures c.in_ok-groups.ensures c.requires.alone c.in-Some.ensures)

pub returns : goal.returns
returns c =
    let ok = editable-bytes (encoding_of c.args.opened.encoding) c.requires.bytes in
    let other = rw c.if-branch.false at c.in_ok-has_value.ensures in
    let printed = rw (editable-own (encoding_of c.args.opened.encoding) ok, c.new-bytes.ensures) at c.in_ok-print_value_after.ensures in
    value-new (chars c.args.value.now) c.line-line.result.now c.cut.result.now c.print_value_after.new.line c.in_ok-front_size.front_size c.in-Some.separator ok
    c.line-line.ensures c.in_ok-groups.ensures c.requires.alone c.in-Some.ensures other c.in_ok-front_size.ensures c.cut.ensures printed
