use Rattle.std.proofs.Common.{◌≡◌, ◌++◌, ◌∙◌, ap, sym, refl, false}
use Rattle.std.specs.{Prelude.◌&&◌, Prelude.Some, Str.chars}
use Rattle.properties_text.specs.Parsing.{in_characters, spanned}
use Rattle.properties_c.specs.{Packed.packed, Private.Results.reads}
use Rattle.properties_c.proofs.{GivenLines.is-read, GivenLines.read-line, GivenLines.standing-line}
use Rattle.properties_c.proofs.items.push_line.Goals.{else-is_escaped-via-then-is_escaped+else-are_read}
use Rattle.properties_c.proofs.items.push_line.Goals.{else-is_escaped-via-else-is_escaped}
use Rattle.properties_c.proofs.items.push_line.Goals as goal

pub returns-then-are_read : goal.returns-then-are_read
returns-then-are_read c =
    read-line c.args.asked c.args.number (chars c.args.line.now) c.args.bytes.now.items _ (in_characters (spanned c.args.line.now (Some c.in-Some.spans)))
    c.push_read.result c.in-Some.ensures.meets
    (c.texts_for-texts.ensures c.args.line.now ∙ is-read c.texts_for-texts.result (sym c.are_read.ensures ∙ c.if-are_read.true)) c.push_read.ensures

pub returns : goal.returns
returns c =
    let texts = c.texts_for-texts.result in
    let unread : (c.args.is_escaped && reads texts) ≡ false = elim c.else-is_escaped.branch [
      | else-is_escaped-via-then-is_escaped+else-are_read w ↦ rw (w.if-is_escaped.true) (sym w.are_read.ensures ∙ w.if-are_read.false)
      | else-is_escaped-via-else-is_escaped w ↦ rw (w.if-is_escaped.false) refl
    ] in
    standing-line c.args.asked c.args.number c.args.line.now c.args.bytes.now.items _ c.in-Some.spans texts c.args.is_escaped c.in-Some.ensures.meets
    (c.texts_for-texts.ensures c.args.line.now) (sym c.are_passed_over.ensures ∙ c.if-are_passed_over.false) unread c.requires
    (c.in_ok-push_record.ensures ∙ ap (λ r. c.args.bytes.now.items ++ packed r) c.line_record.ensures)
