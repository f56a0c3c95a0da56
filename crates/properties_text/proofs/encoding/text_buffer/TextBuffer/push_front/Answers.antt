use Rattle.std.proofs.Common.{append_assoc, refl}
use Rattle.properties_format.proofs.Encodings.WellFormed.{characters-text}
use Rattle.properties_text.proofs.encoding.text_buffer.TextBuffer.push_front.Goals as goal

pub returns-in_ok-push_text-in-UTF_8-clause-text : goal.returns-in_ok-push_text-in-UTF_8-clause-text
returns-in_ok-push_text-in-UTF_8-clause-text c =
    let front = c.text_front.result.0.now in
    let rest = c.text_front.result.1.now in
    let text = c.text_front.ensures in
    let appended = c.in_ok-push_text-in-UTF_8.ensures.appended in
    rw (c.in-UTF_8.is, appended, append_assoc, text.whole, characters-text front rest text.text) refl
