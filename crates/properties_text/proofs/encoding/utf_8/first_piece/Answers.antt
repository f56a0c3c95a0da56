use Rattle.std.proofs.Common.{sym, ◌∙◌}
use Rattle.std.proofs.lemmas.List.{length-map}
use Rattle.properties_text.specs.Encoding.{range_of}
use Rattle.properties_text.proofs.FirstPieces.{shows-whole, shows-broken}
use Rattle.properties_text.proofs.encoding.utf_8.first_piece.Goals as goal

pub returns-then-fitting-ranges : goal.returns-then-fitting-ranges
returns-then-fitting-ranges c =
    let fitting = c.fitting_length-fitting in
    let all = c.if-fitting-ranges.true ∙ sym (length-map c.in-Some.ranges.now range_of) in
    rw (c.whole.ensures, c.sequence_character.ensures)
    (shows-whole c.args.first _ c.args.rest.now fitting.result c.in-Some.ensures fitting.ensures.value all)

pub returns-else-fitting-ranges : goal.returns-else-fitting-ranges
returns-else-fitting-ranges c =
    let fitting = c.fitting_length-fitting in
    rw c.broken-else-fitting-ranges.ensures (shows-broken c.args.first _ c.args.rest.now fitting.result c.in-Some.ensures fitting.ensures.value
    (λ e. c.if-fitting-ranges.false (e ∙ length-map c.in-Some.ranges.now range_of)))
