use Rattle.std.proofs.Common.{◌∷◌, ◌++◌, [], map, refl, ap, append-nil, sym, ◌∙◌}
use Rattle.std.specs.Prelude.{string_bytes}
use Rattle.std.proofs.lemmas.Result.{err_from_is_err_and}
use Rattle.propedit_arguments.specs.Private.Edits.{asked_edits, borrowed_edit, written_words}
use Rattle.propedit_arguments.proofs.Words.{made-none, made-more, no-words, refused, shorter, some-words}
use Rattle.propedit_arguments.proofs.edits.edits_in.Goals as goal

pub returns-in_err-first : goal.returns-in_err-first
returns-in_err-first c =
    let words = c.args.command.now ∷ map string_bytes c.args.words.now in
    let error = err_from_is_err_and c.from_residual.result c.from_residual.ensures.1 in
    rw (error.1, error.2)
    (λ _. refused words (asked_edits []) words c.in_err-first.field-0.0 (made-none words [] refl) (λ e. cc) c.in_err-first.ensures)

pub loop-rest-init : goal.loop-rest-init
loop-rest-init c =
    let words = c.args.command.now ∷ map string_bytes c.args.words.now in
    let (form, may, next) = c.in_ok-first.ensures in
    made-more words c.new-edits.result.items words (map string_bytes c.in_ok-first.rest.now) form (borrowed_edit c.in_ok-first.first) c.in_ok-into_edit.field-0
    (made-none words c.new-edits.result.items c.new-edits.ensures.items) may next c.in_ok-into_edit.ensures c.in_ok-push.ensures.items

pub returns-in_err-edit : goal.returns-in_err-edit
returns-in_err-edit c =
    let words = c.args.command.now ∷ map string_bytes c.args.words.now in
    let rest = c.loop-rest.rest.now in
    let some = some-words rest (sym c.is_empty.ensures ∙ c.loop-rest-test.true) in
    let error = err_from_is_err_and c.from_residual-in_err-edit.result c.from_residual-in_err-edit.ensures.1 in
    let mistake = c.in_err-edit.field-0.0 in
    rw (error.1, error.2)
    (λ _. refused words (asked_edits c.loop-rest.edits.items) (map string_bytes rest) mistake c.loop-rest.invariant some c.in_err-edit.ensures)

pub loop-rest-preserved : goal.loop-rest-preserved
loop-rest-preserved c =
    let words = c.args.command.now ∷ map string_bytes c.args.words.now in
    let (form, may, next) = c.in_ok-edit.ensures in
    made-more words c.loop-rest.edits.items (map string_bytes c.loop-rest.rest.now) (map string_bytes c.in_ok-edit.others.now)
    form (borrowed_edit c.in_ok-edit.edit) c.in_ok-into_edit-2.field-0 c.loop-rest.invariant may next c.in_ok-into_edit-2.ensures c.in_ok-push-2.ensures.items

pub loop-rest-smaller : goal.loop-rest-smaller
loop-rest-smaller c =
    let (form, may, next) = c.in_ok-edit.ensures in
    shorter c.loop-rest.rest.now c.in_ok-edit.others.now form (borrowed_edit c.in_ok-edit.edit) next

pub returns : goal.returns
returns c =
    let h = c.loop-rest.invariant in
    let none = no-words c.loop-rest.rest.now (sym c.is_empty.ensures ∙ c.loop-rest-test.false) in
    record { asked = h.done; is = h.is ∙ ap (λ r. written_words h.done ++ r) none ∙ append-nil (written_words h.done); made = h.made }
