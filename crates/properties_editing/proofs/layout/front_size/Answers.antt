use Rattle.std.proofs.Common.{◌∙◌, ap, length}
use Rattle.std.specs.Str.{chars}
use Rattle.properties_text.specs.Encoding.{encoding_of}
use Rattle.properties_editing.proofs.BodyValues.{front-found}
use Rattle.properties_editing.proofs.layout.front_size.Goals as goal

pub find_cut-requires : goal.find_cut-requires
find_cut-requires c =
    let new = c.new-lines.ensures in
    record { bytes = rw new.encoding c.requires.bytes; within_body = new.within_body c.args.pair.now }

pub returns : goal.returns
returns c =
    let new = c.new-lines.ensures in
    let before = c.as_bytes.ensures.value in
    front-found c.new-lines.result.scanner c.count_characters-count.result c.in_ok-cut.cut new.start new.going (ap encoding_of new.encoding) c.requires.before
    (c.count_characters-count.ensures.count ∙ ap (λ v. length (chars v)) before) c.in_ok-cut.ensures
