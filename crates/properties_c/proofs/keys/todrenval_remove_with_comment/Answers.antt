use Rattle.std.proofs.Common.{◌≡◌, ◌∷◌, [], refl, subst, rules, to_z, of_z, w32}
use Rattle.std.specs.Str.{chars}
use Rattle.properties_renaming.specs.Commented.{RemovesWithComments}
use Rattle.properties_c.specs.Keys.{GivesRemoved}
use Rattle.properties_c.proofs.AnsweredCalls.{key-answered, key-refused}
use Rattle.properties_c.proofs.keys.todrenval_remove_with_comment.Goals as goal

pub returns-in-Err : goal.returns-in-Err
returns-in-Err c =
    let plain : to_z w32 (of_z w32 c.refuse_call.result) ≡ c.refuse_call.result = search rules in
    rw plain (key-refused _ _ _ (λ x e f k. GivesRemoved e f c.args.source.now k x) c.in-Err.refusal c.in-Err.ensures (record { answers = c.refuse_call.ensures; kept = refl }) refl)

pub returns : goal.returns
returns c =
    let a = c.in-Ok.asked in
    let h = c.in-Ok.ensures in
    let outcome = c.remove_with_comment-removed.result in
    let gives = subst (λ o. RemovesWithComments o c.args.source.now (chars a.key.now ∷ []) outcome) h.options c.remove_with_comment-removed.ensures in
    let plain : to_z w32 (of_z w32 c.write_result.result) ≡ c.write_result.result = search rules in
    rw plain (key-answered _ _ _ (λ x e f k. GivesRemoved e f c.args.source.now k x) a h (outcome, (h.encoding, refl, gives), c.write_result.ensures))
