use Rattle.std.proofs.Common.{◌≡◌, ◌≢◌, ◌||◌, ◌==◌, true, false, rules, eq-eqb, refl, ap, sym}
use borrow.Author.Tests.{tests}
use Rattle.std.specs.{Str.chars, Str.Iter.chars_rest}
use Rattle.std.proofs.lemmas.Str.{IsUtf8-past_char}
use Rattle.java_properties.proofs.Settings.Tests.{past_first, past_last}
use Rattle.properties_checking.specs.Check.{has_replacement}
use Rattle.properties_checking.proofs.line_findings.may_stand_for_bytes.Goals as goal

pub returns-then-character-eq65533 : goal.returns-then-character-eq65533
returns-then-character-eq65533 c =
    let here = c.in-Some.character in
    let rest = chars (chars_rest c.next.new.self) in
    let parts = c.in-Some.ensures.steps.0 in
    let held = c.loop-character.invariant in
    let is : (here == 65533) ≡ true = eq-eqb here 65533 c.if-character-eq65533.true in
    sym (past_first has_replacement _ true _ _ here held.utf8 parts held.same (ap (λ v. v || has_replacement rest) is))

pub loop-character-preserved : goal.loop-character-preserved
loop-character-preserved c =
    let here = c.in-Some.character in
    let rest = chars (chars_rest c.next.new.self) in
    let parts = c.in-Some.ensures.steps.0 in
    let held = c.loop-character.invariant in
    let other : here ≢ 65533 = c.if-character-eq65533.false in
    let is : (here == 65533) ≡ false = search (rules, tests) in
    record {
      utf8 = IsUtf8-past_char _ _ here held.utf8 parts;
      same = past_first has_replacement _ _ _ _ here held.utf8 parts held.same (ap (λ v. v || has_replacement rest) is);
    }

pub returns : goal.returns
returns c = past_last has_replacement _ false _ c.in-None.ensures.steps.0.0 c.loop-character.invariant.same refl
