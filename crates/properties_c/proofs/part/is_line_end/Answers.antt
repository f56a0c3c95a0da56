use Rattle.std.proofs.{Common.rules, lemmas.Bool.Decides.Decides-at}
use Rattle.properties_format.specs.Text.{backslash, carriage_return, line_feed}
use Rattle.properties_text.specs.Encoding.{encoding_of}
use Rattle.properties_c.proofs.PartedFronts.{begins-decides, ends-decides, line-end-decides}
use Rattle.properties_c.proofs.part.is_line_end.Goals as goal

pub returns : goal.returns
returns c =
    let e = encoding_of c.args.encoding in
    let before = c.args.before.now in
    let after = c.args.after.now in
    let cr = c.carriage_return_in-carriage_return in
    Decides-at _ _ c.is_end.ensures
    (line-end-decides e before after _ _ _ _ _ (begins-decides e carriage_return after cr.result.now _ cr.ensures c.starts_with-is_cr.ensures.value)
    (begins-decides e line_feed after c.line_feed_in.result.now _ c.line_feed_in.ensures c.starts_with-is_lf.ensures.value)
    (ends-decides e carriage_return before cr.result.now _ cr.ensures c.ends_with-after_cr.ensures.value)
    (ends-decides e backslash before c.backslash_in.result.now _ c.backslash_in.ensures c.ends_with-is_open.ensures.value) (search rules))
