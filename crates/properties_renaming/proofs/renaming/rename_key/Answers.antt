use Rattle.std.proofs.Common.{subst}
use Rattle.std.specs.Prelude.{Err, Ok}
use Rattle.std.specs.Str.{chars}
use Rattle.properties_renaming.specs.Private.Renames.{IsRefusedFor, RenamesSome}
use Rattle.properties_renaming.proofs.RenamesInTurn.{is-read, one-made, one-refused}
use Rattle.properties_renaming.proofs.renaming.rename_key.Goals as goal

pub rename_some-requires-clause-read : goal.rename_some-requires-clause-read
rename_some-requires-clause-read c = is-read c.args.options c.args.source.now (c.in_ok-edit_with.field-0, c.in_ok-edit_with.ensures.edits)

pub returns : goal.returns
returns c =
    let options = c.args.options in
    let source = c.args.source.now in
    let run = c.in_ok-bytes.field-0 in
    let made = subst (λ rs. RenamesSome options source rs (Ok run)) c.from_ref.ensures.value c.in_ok-bytes.ensures in (
      (c.in_ok-edit_with.field-0, c.in_ok-edit_with.ensures.edits),
      one-made options source (chars c.args.old.now) (chars c.args.new.now) c.in_ok-rename.rename run c.in_ok-rename.ensures.same made,
    )

pub returns-in_err-bytes : goal.returns-in_err-bytes
returns-in_err-bytes c =
    let options = c.args.options in
    let source = c.args.source.now in
    let error = c.in_err-bytes.field-0.0 in
    let refused = subst (λ rs. RenamesSome options source rs (Err error)) c.from_ref.ensures.value c.in_err-bytes.ensures in
    one-refused options source (chars c.args.old.now) (chars c.args.new.now) error c.from_residual-in_err-bytes.result
    (c.in_ok-edit_with.field-0, c.in_ok-edit_with.ensures.edits)
    (subst (λ n. IsRefusedFor options source n error) c.in_ok-rename.ensures.same refused) c.from_residual-in_err-bytes.ensures.1
