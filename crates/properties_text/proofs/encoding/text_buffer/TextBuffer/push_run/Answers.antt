use Rattle.std.proofs.Common.{◌∙◌, ap, take, refl}
use Rattle.std.proofs.lemmas.List.{with_items_is}
use Rattle.properties_text.proofs.encoding.text_buffer.TextBuffer.push_run.Goals as goal

pub returns-clause-text : goal.returns-clause-text
returns-clause-text c =
    let run = c.decode_run-decoded in
    let room = c.deref_mut.ensures in
    let bytes = with_items_is c.make_room.new.bytes run.new.run (run.ensures.front.same_room ∙ room.len) in
    let before = ap (take c.self-inside.inside.0.0.filled) room.value ∙ c.in_ok-make_room.ensures.same ∙ ap (λ s. s.line) c.self-inside.view_is
    ∙ c.self.view_is in
    rw (bytes, run.ensures.front.text, before) refl
