use Rattle.std.proofs.Common.{◌≡◌, ◌-◌, length, take, sym, ap, ◌∙◌, arith}
use Rattle.std.specs.Str.{chars}
use Rattle.properties_text.proofs.Texts.Joins.{cut_open}
use Rattle.single_lines.proofs.join.without_open_backslash.Goals as goal

pub overflow_sub-text : goal.overflow_sub-text
overflow_sub-text c = (cut_open c.args.text.now c.utf8.text (sym c.is_open.ensures ∙ c.if-is_open.true)).some

pub range-requires-clause-end_boundary : goal.range-requires-clause-end_boundary
range-requires-clause-end_boundary c = (cut_open c.args.text.now c.utf8.text (sym c.is_open.ensures ∙ c.if-is_open.true)).boundary

pub returns-then-is_open : goal.returns-then-is_open
returns-then-is_open c =
    let text = c.args.text.now in
    let last : length text - 1 - 0 ≡ length text - 1 = omega arith in
    ap chars (c.range.ensures.value ∙ ap (λ n. take n text) last)
    ∙ (cut_open text c.utf8.text (sym c.is_open.ensures ∙ c.if-is_open.true)).rest
