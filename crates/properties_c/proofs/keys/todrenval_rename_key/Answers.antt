use Rattle.std.proofs.Common.{◌≡◌, refl, subst, rules, to_z, of_z, w32}
use Rattle.std.specs.Str.{chars}
use Rattle.properties_renaming.specs.Renaming.{RenamesKey}
use Rattle.properties_c.specs.Keys.{GivesRenamed}
use Rattle.properties_c.proofs.AnsweredCalls.{texts-answered, texts-refused}
use Rattle.properties_c.proofs.keys.todrenval_rename_key.Goals as goal

pub returns-in-Err : goal.returns-in-Err
returns-in-Err c =
    let plain : to_z w32 (of_z w32 c.refuse_call.result) ≡ c.refuse_call.result = search rules in
    rw plain (texts-refused _ _ _ (λ x e f k t. GivesRenamed e f c.args.source.now k t x) c.in-Err.refusal c.in-Err.ensures (record { answers = c.refuse_call.ensures; kept = refl }))

pub returns : goal.returns
returns c =
    let a = c.in-Ok.asked in
    let h = c.in-Ok.ensures in
    let outcome = c.rename_key-renamed.result in
    let gives = subst (λ o. RenamesKey o c.args.source.now (chars a.key.now) (chars a.text.now) outcome) h.options c.rename_key-renamed.ensures in
    let plain : to_z w32 (of_z w32 c.write_changed.result) ≡ c.write_changed.result = search rules in
    rw plain (texts-answered _ _ _ (λ x e f k t. GivesRenamed e f c.args.source.now k t x) a h (outcome, (h.encoding, refl, gives), c.write_changed.ensures))
