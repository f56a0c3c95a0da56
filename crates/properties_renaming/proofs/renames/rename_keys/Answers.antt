use Rattle.properties_renaming.specs.Renames.{names_in}
use Rattle.properties_renaming.proofs.RenamesInTurn.{is-read, keys-source}
use Rattle.properties_renaming.proofs.renames.rename_keys.Goals as goal

pub rename_in_turn-requires : goal.rename_in_turn-requires
rename_in_turn-requires c = is-read c.args.options c.args.source.now (c.in_ok-edit_with.field-0, c.in_ok-edit_with.ensures.edits)

pub returns : goal.returns
returns c =
    keys-source c.args.options c.args.source.now (names_in c.args.renames.now) c.rename_in_turn.result
    (c.in_ok-edit_with.field-0, c.in_ok-edit_with.ensures.edits) c.rename_in_turn.ensures
