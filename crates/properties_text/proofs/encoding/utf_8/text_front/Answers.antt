use Rattle.std.proofs.Common.{length, sym, subst, ap, ◌∙◌}
use Rattle.properties_text.specs.Encoding.{IsLongestText}
use Rattle.properties_text.proofs.encoding.utf_8.text_front.Goals as goal

pub returns-clause-longest : goal.returns-clause-longest
returns-clause-longest c =
    let same = ap length c.from_utf8_unchecked.ensures ∙ c.split_at.ensures.front_len in
    subst (IsLongestText c.args.bytes.now) (sym same) c.well_formed_length.ensures
