use Rattle.std.proofs.{Common.◌∙◌, Common.ap, Common.sym, lemmas.Result.on_ok_weaker, lemmas.Str.encodes-chars}
use Rattle.std.specs.Prelude.{encode_utf8_all}
use Rattle.properties_tools.specs.{Propedit.Differences.gone, Private.Differing.row_at}
use Rattle.properties_tools.proofs.Objects.{object-written}
use Rattle.properties_tools.proofs.propedit.diff_json.ObjectsDiffForm.gone.Goals as goal

pub returns : goal.returns
returns c =
    let name = sym (encodes-chars c.key.result.now c.key.utf8) ∙ ap encode_utf8_all c.key.ensures in
    on_ok_weaker c.end.result
    (object-written (gone (row_at c.args.old)) c.args.text.now.items c.key.result.now c.end.new.text.items c.in_ok-writer.writer c.write_side.new.writer
    c.in_ok-writer.ensures.before c.in_ok-writer.ensures.tokens name c.in_ok-write_side.ensures) c.end.ensures
