use Rattle.std.proofs.Common.{◌≡◌, ◌<◌, ◌≤◌, true, false, length, get_or, sym, ap, ◌∙◌}
use Rattle.std.proofs.lemmas.List.{get_or_read, take_rest, drop_all}
use borrow.Author.Tests.{ltb-true, ltb-false}
use Rattle.properties_format.specs.Text.{is_comment_sign}
use Rattle.properties_text.proofs.Texts.Spans.{found-blank, found-comment, found-pair}
use Rattle.properties_text.proofs.parse.parse_bytes.Goals as goal

pub returns-then-is_comment_sign : goal.returns-then-is_comment_sign
returns-then-is_comment_sign c =
    let bytes = c.args.line.now in
    let start = c.past_blanks-start.result in
    let inside : start < length bytes = ltb-true start (length bytes) (sym c.in_ok-first.ensures.lookup.0) in
    let first : c.in_ok-first.field-0.now ≡ get_or bytes start 0 = get_or_read bytes start c.in_ok-first.field-0.now inside c.in_ok-first.ensures.lookup.1 0 in
    let sign : is_comment_sign (get_or bytes start 0) ≡ true =
    ap is_comment_sign (sym (c.from.ensures ∙ first)) ∙ sym c.is_comment_sign.ensures ∙ c.if-is_comment_sign.true in
    let p = found-comment bytes start c.trimmed_span.result inside c.past_blanks-start.ensures.rest sign
    c.trimmed_span.ensures.ordered c.trimmed_span.ensures.within c.trimmed_span.ensures.start c.trimmed_span.ensures.text in
    record { slices = p.slices; places = p.places; text = p.text }

pub returns-in_err-first : goal.returns-in_err-first
returns-in_err-first c =
    let bytes = c.args.line.now in
    let start = c.past_blanks-start.result in
    let over : length bytes ≤ start = ltb-false start (length bytes) (sym c.in_err-first.ensures.lookup.0) in
    let p = found-blank bytes (sym c.past_blanks-start.ensures.rest ∙ drop_all start bytes over) in
    rw c.from_residual.ensures (record { slices = p.slices; places = p.places; text = p.text })

pub returns : goal.returns
returns c =
    let bytes = c.args.line.now in
    let start = c.past_blanks-start.result in
    let n = c.key_length.result in
    let inside : start < length bytes = ltb-true start (length bytes) (sym c.in_ok-first.ensures.lookup.0) in
    let first : c.in_ok-first.field-0.now ≡ get_or bytes start 0 = get_or_read bytes start c.in_ok-first.field-0.now inside c.in_ok-first.ensures.lookup.1 0 in
    let sign : is_comment_sign (get_or bytes start 0) ≡ false =
    ap is_comment_sign (sym (c.from.ensures ∙ first)) ∙ sym c.is_comment_sign.ensures ∙ c.if-is_comment_sign.false in
    let p = found-pair bytes _ start n c.value_start-value_start.result (take_rest bytes start)
    inside c.past_blanks-start.ensures.rest sign c.key_length.ensures.within c.key_length.ensures.key c.key_length.ensures.rest
    c.value_start-value_start.ensures.within c.value_start-value_start.ensures.rest in
    record { slices = p.slices; places = p.places; text = p.text }
