use Rattle.std.proofs.Common.{◌≡◌, ◌++◌, ◌∙◌, [], ◌∷◌, ap, ap₂, false, true, refl, rules, subst, sym}
use Rattle.std.specs.Prelude.{◌&&◌, ◌==◌, map}
use Rattle.std.specs.Str.{chars}
use Rattle.std.specs.String.{string_bytes}
use Rattle.std.proofs.lemmas.List.{map-append}
use Rattle.std.proofs.lemmas.Str.{IsUtf8-string_bytes, chars-nil}
use Rattle.properties_format.specs.Lines.{HoldsNoLineEnding}
use Rattle.properties_format.specs.Text.{is_line_ending, line_feed}
use Rattle.properties_text.proofs.TextFronts.{chars-more}
use Rattle.properties_items.specs.Texts.{characters}
use Rattle.properties_renaming.specs.Private.Commenting.{texts_with}
use Rattle.properties_renaming.proofs.TextLines.{line-ends, line-more, plain-more}
use Rattle.properties_renaming.proofs.commenting.TextLines.push.Goals as goal
use Rattle.properties_renaming.proofs.commenting.TextLines.push.Goals.{then-after_cr, else-after_cr}

pub returns-in_ok-push : goal.returns-in_ok-push
returns-in_ok-push c =
    let old = c.args.self.now in
    let off : c.is_ending.result ≡ false = search rules in
    let other : is_line_ending c.args.character ≡ false = sym c.is_ending.ensures ∙ off in
    let text : characters c.push.new.self ≡ characters old.last ++ c.args.character ∷ [] =
    chars-more (string_bytes old.last) (string_bytes c.push.new.self) c.args.character (IsUtf8-string_bytes old.last) c.ranges.character.0 c.in_ok-push.ensures.bytes in
    let ended = map characters old.ended.items in
    record {
      same = λ plain rest.
          line-more ended (characters old.last) old.after_cr c.args.character rest other
          ∙ sym (ap₂ (λ l b. texts_with ended l b rest) text c.replace-after_cr.ensures.after);
      no_ending = λ plain. subst HoldsNoLineEnding (sym text) (plain-more (characters old.last) c.args.character plain other);
    }

pub returns-in_ok-push-2 : goal.returns-in_ok-push-2
returns-in_ok-push-2 c =
    let old = c.args.self.now in
    let on : c.is_ending.result ≡ true = search rules in
    let ends : is_line_ending c.args.character ≡ true = sym c.is_ending.ensures ∙ on in
    let off : c.if-after_cr.value ≡ false = search rules in
    let none : (old.after_cr && (c.args.character == line_feed)) ≡ false =
    elim c.if-after_cr.branch [
      | then-after_cr w ↦ ap (λ a. a && (c.args.character == line_feed)) (sym c.replace-after_cr.ensures.value ∙ w.if-after_cr.true) ∙ sym w.value-is ∙ off
      | else-after_cr w ↦ ap (λ a. a && (c.args.character == line_feed)) (sym c.replace-after_cr.ensures.value ∙ w.if-after_cr.false)
    ] in
    let text : characters c.replace-line.new.dest ≡ [] = ap characters c.replace-line.ensures.after ∙ ap chars c.new.ensures.bytes ∙ chars-nil in
    let line : characters c.replace-line.result ≡ characters old.last = ap characters c.replace-line.ensures.value in
    let items : map characters c.push-then-not-character.new.self.items ≡ map characters old.ended.items ++ characters old.last ∷ [] =
    ap (map characters) c.in_ok-push-2.ensures.items
    ∙ map-append characters old.ended.items (c.replace-line.result ∷ [])
    ∙ ap (λ l. map characters old.ended.items ++ l ∷ []) line in
    record {
      same = λ plain rest.
          line-ends (map characters old.ended.items) (characters old.last) old.after_cr c.args.character rest plain ends none
          ∙ sym (ap₂ (λ e l. texts_with e l (c.args.character == 13) rest) items text
          ∙ refl)
          ∙ sym (ap (λ b. texts_with (map characters c.push-then-not-character.new.self.items) (characters c.replace-line.new.dest) b rest) c.replace-after_cr.ensures.after);
      no_ending = λ plain. subst HoldsNoLineEnding (sym text) tt;
    }
