use Rattle.std.proofs.Common.{◌∙◌}
use Rattle.java_properties.proofs.KeyLines.{outcome_key-found, outcome_key-broken}
use Rattle.java_properties.proofs.iter.keys.key_in.Goals as goal

pub returns-in_ok-item_key-in-Ok-Some : goal.returns-in_ok-item_key-in-Ok-Some
returns-in_ok-item_key-in-Ok-Some c =
    let found = rw c.in-Ok-Some.field-0-is at c.in-Ok-Some.ensures in
    c.in_ok-item_key-in-Ok-Some.ensures ∙ outcome_key-found c.args.line.now c.args.line_number c.in-Ok-Some.found found

pub returns-in-Err-Malformed : goal.returns-in-Err-Malformed
returns-in-Err-Malformed c =
    let broken = rw c.in-Err-Malformed.field-0-is at rw c.in-Err-Malformed.is at c.find_escaped.ensures in
    outcome_key-broken c.args.line.now c.args.line_number c.in-Err-Malformed.field-0-0 broken
