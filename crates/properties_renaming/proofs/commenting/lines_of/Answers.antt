use Rattle.std.proofs.Common.{◌≡◌, ◌++◌, ◌∙◌, [], ◌∷◌, ap, ap₂, false, true, rules, subst, sym, append-nil, length}
use Rattle.std.specs.Prelude.{◌==◌, map}
use Rattle.std.specs.Str.{chars}
use Rattle.std.specs.String.{string_bytes}
use Rattle.std.proofs.lemmas.Iterator.{YieldsList-from_chars}
use Rattle.std.proofs.lemmas.Iterator.Consumers.{YieldsList-end}
use Rattle.std.proofs.lemmas.List.{map-append, map-id}
use Rattle.std.proofs.lemmas.Str.{IsUtf8-string_bytes, chars-nil}
use Rattle.properties_format.specs.Lines.{HoldsNoLineEnding}
use Rattle.properties_format.specs.Text.{is_empty}
use Rattle.properties_text.proofs.Texts.Characters.{is_empty-chars}
use Rattle.properties_renaming.specs.Commenting.{texts_of}
use Rattle.properties_items.specs.Texts.{characters}
use Rattle.properties_renaming.specs.Private.Commenting.{texts_with}
use Rattle.properties_renaming.proofs.TextLines.{lines-end, text-lines}
use Rattle.properties_renaming.proofs.commenting.lines_of.Goals as goal
use Rattle.properties_renaming.proofs.commenting.lines_of.Goals.{then-not-is_empty+in_ok-push-2, else-not-is_empty}

pub loop-character-init : goal.loop-character-init
loop-character-init c =
    let last : characters c.new-2.result ≡ [] = ap chars c.new-2.ensures.bytes ∙ chars-nil in
    record {
      same = λ rest. sym (ap₂ (λ e l. texts_with e l false rest) (ap (map characters) c.new.ensures.items) last);
      plain = subst HoldsNoLineEnding (sym last) tt;
    }

pub returns : goal.returns
returns c =
    let loop = c.loop-character in
    let yields = YieldsList-from_chars c.args.text.now c.utf8.text cc in
    let end = YieldsList-end yields loop.yielded _ loop.yielded_by _ _ c.in-None.is c.next.ensures.steps in
    let all : loop.yielded ++ [] ≡ chars c.args.text.now = append-nil loop.yielded ∙ sym (map-id loop.yielded) ∙ end.0 in
    let last = loop.lines.last in
    let ended = map characters loop.lines.ended.items in
    let tail : ended ++ texts_of [] (characters last) ≡ map characters c.if-not-is_empty.ended.items =
    elim c.if-not-is_empty.branch [
      | then-not-is_empty+in_ok-push-2 w ↦
          let off : c.is_empty.result ≡ false = search rules in
          let some : is_empty (characters last) ≡ false = is_empty-chars (string_bytes last) (IsUtf8-string_bytes last) ∙ ap (λ b. length b == 0) (sym c.as_str.ensures.value) ∙ sym c.is_empty.ensures ∙ off in
          rw (some, w.ended-is) (sym (ap (map characters) w.in_ok-push-2.ensures.items ∙ map-append characters loop.lines.ended.items (last ∷ [])))
      | else-not-is_empty w ↦
          let on : c.is_empty.result ≡ true = search rules in
          let none : is_empty (characters last) ≡ true = is_empty-chars (string_bytes last) (IsUtf8-string_bytes last) ∙ ap (λ b. length b == 0) (sym c.as_str.ensures.value) ∙ sym c.is_empty.ensures ∙ on in
          rw (none, w.ended-is) (append-nil ended)
    ] in
    text-lines (chars c.args.text.now) (map characters c.if-not-is_empty.ended.items)
    (ap (texts_with [] [] false) (sym all) ∙ loop.invariant.same [] ∙ lines-end ended (characters last) loop.lines.after_cr loop.invariant.plain ∙ tail)
