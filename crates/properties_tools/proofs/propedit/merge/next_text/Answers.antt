use Rattle.std.proofs.Common.{◌≢◌, [], arith}
use Rattle.std.proofs.lemmas.Grind.{common_steps}
use Rattle.std.proofs.lemmas.Str.Pattern.{split_parts}
use Rattle.properties_tools.proofs.Merging.{no-zero}
use Rattle.properties_tools.proofs.propedit.merge.next_text.Goals as goal

pub returns-in-Some : goal.returns-in-Some
returns-in-Some c =
    let parts = rw c.in-Some.is at (split_parts 0 c.args.rest.now c.split_once.result c.split_once.ensures.cases (omega arith)) in
    (parts.0, no-zero c.in-Some.text.now parts.1)

pub returns-else-is_empty : goal.returns-else-is_empty
returns-else-is_empty c =
    let none = rw c.in-None.is at (split_parts 0 c.args.rest.now c.split_once.result c.split_once.ensures.cases (omega arith)) in
    let some : c.args.rest.now ≢ [] = λ e. grind (arith, common_steps) in
    (some, no-zero c.args.rest.now none)
