use Rattle.std.proofs.Common.{◌≡◌, ◌≢◌, ◌⊎◌, ◌<◌, ◌≤◌, arith, get_or, inl, inr, length, subst, take, true}
use Rattle.std.specs.Prelude.{Err, Ok, Some}
use Rattle.std.proofs.lemmas.List.{length-map, length-take-le}
use Rattle.properties_renaming.specs.Renames.{NewName, name_in, names_in}
use Rattle.properties_renaming.specs.Private.Renames.{TellsRefusal}
use Rattle.properties_renaming.proofs.RenamesInTurn.{all-made, makeable-run, none-made, some-of-front}
use Rattle.properties_renaming.proofs.renames.+rename_some.Goals as goal
use Rattle.properties_renaming.proofs.renames.+rename_some.Goals.{else-not-is_makeable-via-then-not-is_makeable+else-run-gt1, else-not-is_makeable-via-else-not-is_makeable}

pub returns-in-None : goal.returns-in-None
returns-in-None t c =
    let renames = c.args.renames.now in
    let n = c.in_ok-run.field-0 in
    let run = take n renames in
    let roles = c.in_ok-names.field-0 in
    let pass = c.in_ok-bytes.field-0 in
    let size = length-take-le n renames c.in_ok-run.ensures.some.1 in
    let positive = c.in_ok-run.ensures.some.0 in
    let some : 0 < length run = omega arith in
    let way : (roles.is_makeable ≡ true) ⊎ (length run ≤ 1) = elim c.else-not-is_makeable.branch [
      | else-not-is_makeable-via-then-not-is_makeable+else-run-gt1 w ↦ inr (w.if-run-gt1.false)
      | else-not-is_makeable-via-else-not-is_makeable w ↦ inl (w.if-not-is_makeable.false)
    ] in
    let makeable = makeable-run run roles some c.in_ok-names.ensures.are way in
    let met = c.in-None.ensures in
    some-of-front c.args.options c.args.source.now renames n (Ok (record { bytes = pass.bytes; count = length run })) positive c.in_ok-run.ensures.some.1
    (all-made c.args.options c.args.source.now run pass c.requires.read some makeable c.in_ok-bytes.ensures met)

pub returns-in-Some-eq0-default : goal.returns-in-Some-eq0-default
returns-in-Some-eq0-default t c =
    let renames = c.args.renames.now in
    let n = c.in_ok-run.field-0 in
    let run = take n renames in
    let pass = c.in_ok-bytes.field-0 in
    let error = c.in-Some-eq0-default.error in
    let source = c.args.source.now in
    let within = c.in_ok-run.ensures.some in
    let told = λ (d : NewName).
    subst (λ i. TellsRefusal (names_in run) pass.lines.entries (get_or (names_in run) i d) (Some error)) c.in-Some-eq0-default.field-0-0-test
    (c.in-Some-eq0-default.ensures.1 d) in
    some-of-front c.args.options source renames n (Err error) within.0 within.1
    (none-made c.args.options source run pass error c.in_ok-bytes.ensures told)

pub returns : goal.returns
returns t c =
    let renames = c.args.renames.now in
    let n = c.in_ok-run.field-0 in
    let run = take n renames in
    let index = c.in-Some.index in
    let within = c.in_ok-run.ensures.some in
    let below : index < length (names_in run) = c.in-Some.ensures.0 in
    let size = length-map run name_in in
    let other : index ≢ 0 = c.in-Some.index-test.1 in
    some-of-front c.args.options c.args.source.now renames n c.rename_some-in-Some.result within.0 within.1
    (some-of-front c.args.options c.args.source.now run index c.rename_some-in-Some.result (omega arith) (omega arith) c.rename_some-in-Some.ensures)
