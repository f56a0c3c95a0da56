use Rattle.std.proofs.Common.{◌≡◌, false, ap, sym}
use Rattle.std.specs.Prelude.{◌&&◌}
use Rattle.std.proofs.lemmas.Str.{IsUtf8-string_bytes}
use Rattle.std.specs.String.{string_bytes}
use Rattle.properties_format.specs.Text.{is_blank}
use Rattle.properties_editing.proofs.NewPairs.{pushed-shortened}
use Rattle.properties_editing.proofs.new_pair.push_shortened.Goals as goal
use Rattle.properties_editing.proofs.new_pair.push_shortened.Goals.{else-was_blank-via-then-was_blank+else-is_blank, else-was_blank-via-else-was_blank}

pub returns : goal.returns
returns c =
    let none : (c.args.was_blank && is_blank c.args.character) ≡ false =
    elim c.else-was_blank.branch [
      | else-was_blank-via-then-was_blank+else-is_blank w ↦ rw (w.if-was_blank.true, sym w.is_blank.ensures) w.if-is_blank.false
      | else-was_blank-via-else-was_blank w ↦ ap (λ b. b && is_blank c.args.character) w.if-was_blank.false
    ] in
    pushed-shortened (string_bytes c.args.short.now) (string_bytes c.push.new.self) c.args.character c.args.was_blank (IsUtf8-string_bytes c.args.short.now) c.ranges.character.0
    c.in_ok-push.ensures.bytes none
