use Rattle.std.proofs.{Common.inl, Common.inr, lemmas.Result.err_from_is_err_and}
use Rattle.properties_changing.proofs.in_place.change_line.Goals as goal

pub returns-in_err-counts-in-Some-clause-fails : goal.returns-in_err-counts-in-Some-clause-fails
returns-in_err-counts-in-Some-clause-fails c =
    let error = err_from_is_err_and c.from_residual.result c.from_residual.ensures.1 in
    rw (error.1, error.2) (elim c.in_err-counts-in-Some.ensures [ inl refused ↦ (c.args.source.now, refused) | inr refused ↦ (c.deref.result.now, refused) ])

pub returns-in_ok-format-in-None-clause-line : goal.returns-in_ok-format-in-None-clause-line
returns-in_ok-format-in-None-clause-line c = rw c.in-None.is c.in_ok-format-in-None.ensures.ok
