use Rattle.std.proofs.Common.{◌≢◌, [], arith, rules}
use Rattle.std.proofs.{lemmas.Grind.common_steps, lemmas.Str.Pattern.split_parts}
use Rattle.propedit_arguments.proofs.Assignments.{tells, tells-unsigned}
use Rattle.propedit_arguments.proofs.edits.is_assignment.Goals as goal

pub returns-then-not-is_empty : goal.returns-then-not-is_empty
returns-then-not-is_empty c =
    let parts = rw c.in-Some.is at (split_parts 0x3D c.args.text.now c.split_once.result c.split_once.ensures.cases (omega arith)) in
    let some : c.in-Some.name.now ≢ [] = λ e. grind (arith, common_steps) in
    tells c.args.text.now c.in-Some.name.now c.in-Some.field-0-1.now c.has_blank.result parts.0 parts.1 some (search rules)

pub returns-in-None : goal.returns-in-None
returns-in-None c =
    let parts = rw c.in-None.is at (split_parts 0x3D c.args.text.now c.split_once.result c.split_once.ensures.cases (omega arith)) in
    tells-unsigned c.args.text.now parts
