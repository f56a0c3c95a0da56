use Rattle.std.proofs.Common.{◌≡◌, ◌||◌, true, false, ap, sym, refl, ◌∙◌}
use Rattle.std.specs.{Str.chars, Str.Iter.chars_rest}
use Rattle.std.proofs.lemmas.Str.{IsUtf8-past_char}
use Rattle.java_properties.proofs.Settings.Tests.{past_first, past_last}
use Rattle.properties_tools.specs.Propedit.Differences.{has_late_control, is_late_control}
use Rattle.properties_tools.proofs.propedit.diff.has_late_control.Goals as goal

pub returns-then-is_late_control : goal.returns-then-is_late_control
returns-then-is_late_control c =
    let here = c.in-Some.character in
    let rest = chars (chars_rest c.next.new.self) in
    let parts = c.in-Some.ensures.steps.0 in
    let held = c.loop-character.invariant in
    let is : is_late_control here ≡ true = sym c.is_late_control.ensures ∙ c.if-is_late_control.true in
    sym (past_first has_late_control _ true _ _ here held.utf8 parts held.same (ap (λ v. v || has_late_control rest) is))

pub loop-character-preserved : goal.loop-character-preserved
loop-character-preserved c =
    let here = c.in-Some.character in
    let rest = chars (chars_rest c.next.new.self) in
    let parts = c.in-Some.ensures.steps.0 in
    let held = c.loop-character.invariant in
    let is : is_late_control here ≡ false = sym c.is_late_control.ensures ∙ c.if-is_late_control.false in
    record {
      utf8 = IsUtf8-past_char _ _ here held.utf8 parts;
      same = past_first has_late_control _ _ _ _ here held.utf8 parts held.same (ap (λ v. v || has_late_control rest) is);
    }

pub returns : goal.returns
returns c = past_last has_late_control _ false _ c.in-None.ensures.steps.0.0 c.loop-character.invariant.same refl
