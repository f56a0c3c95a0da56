use Rattle.std.proofs.Common.{◌≡◌, ◌==◌, ◌&&◌, true, false, refl, sym, subst, ne_eqb, arith}
use Rattle.properties_format.specs.Text.{space}
use Rattle.properties_format.specs.Printing.{is_free}
use Rattle.properties_text.specs.Printing.{AppendsOnOk}
use Rattle.properties_text.proofs.Printing.Values.{inside-free}
use Rattle.properties_text.proofs.print.print_inside_value.Goals as goal
use Rattle.properties_text.proofs.print.print_inside_value.Goals.{else-is_last-via-then-is_last+else-character-eq32, else-is_last-via-else-is_last, then-character-eq32-2-via-then-character-eq32-2, then-character-eq32-2-via-else-character-eq32-2+then-is_separator, then-character-eq32-2-via-else-character-eq32-2+else-is_separator+then-is_comment_sign}

pub returns-then-character-eq32-2 : goal.returns-then-character-eq32-2
returns-then-character-eq32-2 c =
    let inside : (c.args.is_last && c.args.character == space) ≡ false = elim c.else-is_last.branch [
      | else-is_last-via-then-is_last+else-character-eq32 w ↦ rw w.if-is_last.true (ne_eqb c.args.character space w.if-character-eq32.false)
      | else-is_last-via-else-is_last w ↦ rw w.if-is_last.false refl
    ] in
    let free : is_free c.args.character ≡ true = elim c.then-character-eq32-2.branch [
      | then-character-eq32-2-via-then-character-eq32-2 w ↦ rw w.if-character-eq32-2.true refl
      | then-character-eq32-2-via-else-character-eq32-2+then-is_separator w ↦ let h = w.is_separator.ensures in let k = w.if-is_separator.true in grind (arith)
      | then-character-eq32-2-via-else-character-eq32-2+else-is_separator+then-is_comment_sign w ↦
          let h = w.is_comment_sign.ensures in let k = w.if-is_comment_sign.true in grind (arith)
    ] in
    subst (λ v. AppendsOnOk c.args.line.now v c.print_literal.result c.print_literal.new.line)
    (sym (inside-free c.args.repertoire c.args.is_last c.args.character inside free)) c.print_literal.ensures
