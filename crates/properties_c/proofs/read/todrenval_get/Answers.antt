use Rattle.std.proofs.Common.{◌≡◌, refl, subst, rules, to_z, of_z, w32}
use Rattle.std.specs.{Global.Global, Str.chars}
use Rattle.java_properties.specs.Findings.{TellsValueWith}
use Rattle.properties_c.specs.Reading.{GivesValueOf}
use Rattle.properties_c.proofs.AnsweredCalls.{key-answered, key-refused}
use Rattle.properties_c.proofs.read.todrenval_get.Goals as goal

pub returns-in-Err : goal.returns-in-Err
returns-in-Err c =
    let plain : to_z w32 (of_z w32 c.refuse_call.result) ≡ c.refuse_call.result = search rules in
    rw plain (key-refused _ _ _ (λ x e f k. GivesValueOf f.read_comments e c.args.source.now k x) c.in-Err.refusal c.in-Err.ensures (record { answers = c.refuse_call.ensures; kept = refl }) refl)

pub returns : goal.returns
returns c =
    let a = c.in-Ok.asked in
    let h = c.in-Ok.ensures in
    let outcome = c.value_with-value.result in
    let tells = subst (λ o. TellsValueWith {Z = Global} o c.args.source.now (chars a.key.now) outcome) h.options c.value_with-value.ensures in
    let plain : to_z w32 (of_z w32 c.write_value.result) ≡ c.write_value.result = search rules in
    rw plain (key-answered _ _ _ (λ x e f k. GivesValueOf f.read_comments e c.args.source.now k x) a h (outcome, tells, c.write_value.ensures))
