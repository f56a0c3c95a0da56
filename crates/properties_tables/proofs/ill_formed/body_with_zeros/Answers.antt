use Rattle.std.proofs.{Common.sym, Common.◌∙◌, lemmas.List.take_rest}
use Rattle.properties_format.specs.Encoding.{utf_8}
use Rattle.properties_text.specs.Encoding.{encoding_of}
use Rattle.properties_tables.specs.declared.ill_formed.Flaw.TheVariants.{Zero}
use Rattle.properties_tables.proofs.FlawedLines.{lines-body, lines-flawless, lines-unsought, none-zero, sought-unmarked, unsought-marked, unsought-other}
use Rattle.properties_tables.proofs.ill_formed.body_with_zeros.Goals as goal

pub returns-in_default : goal.returns-in_default
returns-in_default c =
    let e = encoding_of c.args.encoding in
    let found = c.encoding_in_force-in_force in
    lines-unsought Zero e c.args.source.now _ (unsought-other e c.args.source.now _ found.result.0 found.ensures.in_force c.in_default.not-UTF_8)

pub returns-then-has_byte_order_mark : goal.returns-then-has_byte_order_mark
returns-then-has_byte_order_mark c =
    let e = encoding_of c.args.encoding in
    let in_force = rw c.in-UTF_8.is at c.encoding_in_force-in_force.ensures.in_force in
    lines-unsought Zero e c.args.source.now _ (unsought-marked e c.args.source.now _ in_force (sym c.has_byte_order_mark.ensures ∙ c.if-has_byte_order_mark.true))

pub returns-then-not-holds_zero : goal.returns-then-not-holds_zero
returns-then-not-holds_zero c =
    let e = encoding_of c.args.encoding in
    let source = c.args.source.now in
    let in_force = rw c.in-UTF_8.is at c.encoding_in_force-in_force.ensures.in_force in
    let none = rw (take_rest source c.encoding_in_force-in_force.result.1) at c.holds_zero.ensures in
    rw c.in-UTF_8.is
    (lines-flawless Zero e source _ utf_8 in_force (sought-unmarked e source _ in_force (sym c.has_byte_order_mark.ensures ∙ c.if-has_byte_order_mark.false))
    (none-zero _ (sym none ∙ c.if-not-holds_zero.true)))

pub returns : goal.returns
returns c =
    let e = encoding_of c.args.encoding in
    let source = c.args.source.now in
    let in_force = rw c.in-UTF_8.is at c.encoding_in_force-in_force.ensures.in_force in
    rw (c.in-UTF_8.is, take_rest source c.encoding_in_force-in_force.result.1)
    (lines-body Zero e source _ utf_8 in_force (sought-unmarked e source _ in_force (sym c.has_byte_order_mark.ensures ∙ c.if-has_byte_order_mark.false)))
