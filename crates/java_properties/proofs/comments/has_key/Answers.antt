use Rattle.std.proofs.Common.{ap, sym, ◌∙◌}
use Rattle.std.specs.Str.{chars}
use Rattle.std.proofs.lemmas.Result.{err_from_is_err_and}
use Rattle.properties_items.specs.BorrowedItems.{found_content, outcome_pair}
use Rattle.properties_items.proofs.FoundItems.{found-item}
use Rattle.java_properties.proofs.CommentTexts.{found-none, found-pair, no-pair, pair-line}
use Rattle.java_properties.proofs.comments.has_key.Goals as goal

pub returns-in_default : goal.returns-in_default
returns-in_default c = no-pair (chars c.args.key.now) c.args.group.kind (chars c.args.line.now) c.requires c.in_default.not-Pair

pub returns-in_err-found : goal.returns-in_err-found
returns-in_err-found c =
    let error = err_from_is_err_and c.from_residual.result c.from_residual.ensures.1 in
    rw (error.1, error.2) (pair-line c.args.group.kind (chars c.args.line.now) c.requires c.in-Pair.is, c.in_err-found.ensures)

pub returns-in-Some-pair_texts : goal.returns-in-Some-pair_texts
returns-in-Some-pair_texts c =
    let found = rw c.in-Some.is at c.in_ok-found.ensures in
    let item = found-item c.args.line.now c.in-Some.found found.1 in
    found-pair (chars c.args.key.now) _ _ (chars c.args.line.now) c.is_same.result (c.in-Some-pair_texts.ensures ∙ ap outcome_pair (sym item)) c.is_same.ensures

pub returns : goal.returns
returns c =
    let found = rw c.in-Some.is at c.in_ok-found.ensures in
    let item = found-item c.args.line.now c.in-Some.found found.1 in
    found-none (chars c.args.key.now) (chars c.args.line.now) (found_content c.args.line.now c.in-Some.found.content) item (c.in-None.ensures ∙ ap outcome_pair (sym item))
