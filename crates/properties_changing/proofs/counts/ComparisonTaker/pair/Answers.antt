use Rattle.std.proofs.Common.{[], ◌∷◌, ap, ◌∙◌}
use Rattle.std.specs.{Prelude.Some, Str.chars}
use Rattle.std.proofs.Math.ListN.{set}
use Rattle.properties_tables.specs.Private.Fold.{found_pair, found_pairs}
use Rattle.properties_tables.proofs.SourceFindings.{pairs-append}
use Rattle.properties_changing.specs.Private.Counting.{state_of}
use Rattle.properties_changing.proofs.Counting.{no_row, compared-known, compared-new, compared-same}
use Rattle.properties_changing.proofs.counts.ComparisonTaker.pair.Goals as goal

pub returns-in_default : goal.returns-in_default
returns-in_default c = λ first findings took.
    let key = chars c.args.key.now in
    let value = chars c.args.value.now in
    compared-same first _ _ _ (pairs-append findings (found_pair c.args.line_number key value ∷ []))
    (compared-new first c.args.self.now (found_pairs findings) c.args.line_number key value took c.in_ok-put.field-0 c.put.new.self
    (rw c.in_default.is at c.find_near.ensures) c.in_ok-put.ensures.puts c.in_ok-put.ensures.table)

pub returns : goal.returns
returns c = λ first findings took.
    let key = chars c.args.key.now in
    let value = chars c.args.value.now in
    let is = c.state_of.ensures ∙ ap (λ v. state_of v (Some value)) (c.value.ensures no_row) in
    compared-same first _ _ _ (pairs-append findings (found_pair c.args.line_number key value ∷ []))
    (compared-known first c.args.self.now (found_pairs findings) c.args.line_number key value took c.in-Some.row _ _
    (rw c.in-Some.is at c.find_near.ensures) (ap (set c.args.self.now.states.items c.in-Some.row) is))
