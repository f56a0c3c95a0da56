use Rattle.std.proofs.Common.{◌≡◌, ◌∷◌, ◌&&◌, Bool, not, false, refl, sym, ap, ◌∙◌, subst}
use Rattle.std.proofs.Math.Bool.{and-true, and-false}
use Rattle.std.specs.Str.{IsUtf8, chars}
use Rattle.std.specs.Str.Iter.{chars_rest}
use Rattle.std.proofs.lemmas.Str.{IsUtf8-past_char}
use Rattle.properties_format.specs.Text.{is_separator}
use Rattle.properties_format.specs.Computed.Settings.{is_good_separator}
use Rattle.properties_text.proofs.Texts.Characters.{is_empty-chars}
use Rattle.java_properties.proofs.Settings.Tests.{holds_some, separator_left, past_first, past_last, separator_left-end, separator_left-sign}
use Rattle.java_properties.proofs.Settings.Tests.{separator_left-blank, separator_left-other}
use Rattle.java_properties.proofs.writer.settings.is_good_separator.Goals as goal
use Rattle.java_properties.proofs.writer.settings.is_good_separator.Goals.{In-Some, else-is_separator-via-then-is_separator+else-not-signed}
use Rattle.java_properties.proofs.writer.settings.is_good_separator.Goals.{else-is_separator-via-else-is_separator}

-- what is to hold of the separator, by the character at hand and by those after it
past : (c : In-Some) (signed last : Bool) → c.loop-character.signed ≡ signed
    → separator_left signed (c.in-Some.character ∷ chars (chars_rest c.next.new.self)) ≡ last
    → is_good_separator (chars c.args.text.now) ≡ (holds_some (chars c.args.text.now) && last)
past c signed last is left =
    let some = holds_some (chars c.args.text.now) in
    let held = c.loop-character.invariant in
    let same = subst (λ v. is_good_separator (chars c.args.text.now) ≡ (some && separator_left v (chars (chars_rest c.loop-character.character-iterator)))) is
    held.same in
    past_first (λ cs. some && separator_left signed cs) _ _ _ _ c.in-Some.character held.utf8 c.in-Some.ensures.steps.0 same (ap (λ v. some && v) left)

past-utf8 : (c : In-Some) → IsUtf8 (chars_rest c.next.new.self)
past-utf8 c = IsUtf8-past_char _ _ c.in-Some.character c.loop-character.invariant.utf8 c.in-Some.ensures.steps.0

pub loop-character-preserved-then-not-signed : goal.loop-character-preserved-then-not-signed
loop-character-preserved-then-not-signed c =
    let at = (goal.at.loop-character-preserved-then-not-signed c).In-Some in
    let sign = sym c.is_separator.ensures ∙ c.if-is_separator.true in
    let left = separator_left-sign c.in-Some.character (chars (chars_rest c.next.new.self)) sign in
    record { utf8 = past-utf8 at; same = past at false _ c.if-not-signed.true left }

pub returns-then-not-is_blank : goal.returns-then-not-is_blank
returns-then-not-is_blank c =
    let here = c.in-Some.character in
    let signed = c.loop-character.signed in
    let sign : (is_separator here && not signed) ≡ false =
    elim c.else-is_separator.branch [
      | else-is_separator-via-then-is_separator+else-not-signed w ↦ ap (λ v. is_separator here && not v) w.if-not-signed.false ∙ and-false (is_separator here)
      | else-is_separator-via-else-is_separator w ↦ ap (λ v. v && not signed) (sym c.is_separator.ensures ∙ w.if-is_separator.false)
    ] in
    let blank = sym c.is_blank.ensures ∙ c.if-not-is_blank.true in
    sym (past (goal.at.returns-then-not-is_blank c).In-Some signed false refl (separator_left-other signed here (chars (chars_rest c.next.new.self)) sign blank)
    ∙ and-false (holds_some (chars c.args.text.now)))

pub loop-character-preserved : goal.loop-character-preserved
loop-character-preserved c =
    let at = (goal.at.loop-character-preserved c).In-Some in
    let signed = c.loop-character.signed in
    let blank = sym c.is_blank.ensures ∙ c.if-not-is_blank.false in
    record { utf8 = past-utf8 at; same = past at signed _ refl (separator_left-blank signed c.in-Some.character (chars (chars_rest c.next.new.self)) blank) }

pub returns : goal.returns
returns c =
    let signed = c.loop-character.signed in
    let some = holds_some (chars c.args.text.now) in
    past_last (λ cs. some && separator_left signed cs) _ (not c.is_empty.result) _ c.in-None.ensures.steps.0.0 c.loop-character.invariant.same
    (ap (λ v. some && v) (separator_left-end signed) ∙ and-true some ∙ ap not (is_empty-chars c.args.text.now c.utf8.text ∙ sym c.is_empty.ensures))
