use Rattle.std.proofs.Common.{◌≡◌, ◌∷◌, Bool, true, false, sym, ◌∙◌}
use Rattle.std.specs.Str.{IsUtf8, chars}
use Rattle.std.specs.Str.Iter.{chars_rest}
use Rattle.std.proofs.lemmas.Str.{IsUtf8-past_char}
use Rattle.properties_format.specs.Computed.Settings.{is_good_prefix}
use Rattle.properties_format.proofs.Split.Unique.{sign-full}
use Rattle.java_properties.proofs.Settings.Tests.{prefix_left, past_first, past_last, prefix_left-end}
use Rattle.java_properties.proofs.writer.settings.is_good_prefix.Goals as goal
use Rattle.java_properties.proofs.writer.settings.is_good_prefix.Goals.{In-Some}

-- what is to hold of the prefix, by the character at hand and by those after it
past : (c : In-Some) (signed last : Bool) → c.loop-character.signed ≡ signed
    → prefix_left signed (c.in-Some.character ∷ chars (chars_rest c.next.new.self)) ≡ last
    → is_good_prefix (chars c.args.text.now) ≡ last
past c signed last is left =
    let held = c.loop-character.invariant in
    past_first (prefix_left signed) _ last _ _ c.in-Some.character held.utf8 c.in-Some.ensures.steps.0 (rw is at held.same) left

past-utf8 : (c : In-Some) → IsUtf8 (chars_rest c.next.new.self)
past-utf8 c = IsUtf8-past_char _ _ c.in-Some.character c.loop-character.invariant.utf8 c.in-Some.ensures.steps.0

pub returns-then-is_line_ending : goal.returns-then-is_line_ending
returns-then-is_line_ending c =
    let ends = sym c.is_line_ending.ensures ∙ c.if-is_line_ending.true in
    sym (past (goal.at.returns-then-is_line_ending c).In-Some true false c.if-signed.true (rw ends))

pub loop-character-preserved-else-is_line_ending : goal.loop-character-preserved-else-is_line_ending
loop-character-preserved-else-is_line_ending c =
    let at = (goal.at.loop-character-preserved-else-is_line_ending c).In-Some in
    let stays = sym c.is_line_ending.ensures ∙ c.if-is_line_ending.false in
    record { utf8 = past-utf8 at; same = rw c.if-signed.true (past at true _ c.if-signed.true (rw stays)) }

pub loop-character-preserved-then-is_comment_sign : goal.loop-character-preserved-then-is_comment_sign
loop-character-preserved-then-is_comment_sign c =
    let at = (goal.at.loop-character-preserved-then-is_comment_sign c).In-Some in
    let marks = sym c.is_comment_sign.ensures ∙ c.if-is_comment_sign.true in
    record { utf8 = past-utf8 at; same = past at false _ c.if-signed.false (rw (sign-full c.in-Some.character marks, marks)) }

pub returns-then-not-is_blank : goal.returns-then-not-is_blank
returns-then-not-is_blank c =
    let marks = sym c.is_comment_sign.ensures ∙ c.if-is_comment_sign.false in
    let blank = sym c.is_blank.ensures ∙ c.if-not-is_blank.true in
    sym (past (goal.at.returns-then-not-is_blank c).In-Some false false c.if-signed.false (rw (blank, marks)))

pub loop-character-preserved : goal.loop-character-preserved
loop-character-preserved c =
    let at = (goal.at.loop-character-preserved c).In-Some in
    let blank = sym c.is_blank.ensures ∙ c.if-not-is_blank.false in
    record { utf8 = past-utf8 at; same = rw c.if-signed.false (past at false _ c.if-signed.false (rw blank)) }

pub returns : goal.returns
returns c =
    let signed = c.loop-character.signed in
    past_last (prefix_left signed) _ _ _ c.in-None.ensures.steps.0.0 c.loop-character.invariant.same (prefix_left-end signed)
