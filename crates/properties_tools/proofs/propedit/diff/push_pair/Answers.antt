use Rattle.std.proofs.Common.{◌≡◌, ◌++◌, ◌||◌, true, ap, subst, ◌∙◌}
use Rattle.std.specs.{Prelude.OnOk, Prelude.codes, Str.chars}
use Rattle.properties_format.specs.Text.{is_blanks}
use Rattle.properties_text.specs.Printing.{key_bytes, value_bytes}
use Rattle.properties_tools.specs.Propedit.Differences.{has_late_control}
use Rattle.properties_tools.proofs.TableDifferences.{pair-printed}
use Rattle.properties_tools.proofs.propedit.diff.push_pair.Goals as goal

pub returns : goal.returns
returns c =
    let prints = c.print_readable_texts in
    let key = chars c.args.key.now in
    let value = chars c.args.value.now in
    let bytes = ap (λ r. key_bytes r true key ++ (codes "=" ++ (value_bytes r (is_blanks (chars (codes "="))) value ++ codes "\n"))) c.repertoire_for-repertoire.ensures in
    subst (λ v. OnOk prints.result (prints.new.line ≡ c.args.line.now ++ v)) (bytes ∙ pair-printed (has_late_control key || has_late_control value) key value) prints.ensures
