use Rattle.std.proofs.Common.{◌≡◌, ◌∙◌, refl, sym, true, false, rules}
use Rattle.std.specs.Prelude.{◌&&◌}
use Rattle.std.specs.Str.{chars}
use Rattle.properties_renaming.specs.CommentLines.{is_line_of_comment}
use Rattle.properties_format.specs.Separators.{has_shape}
use Rattle.properties_renaming.proofs.SeparatedRuns.{passes-new, passes-same}
use Rattle.properties_renaming.proofs.separators.LastRun.pass.Goals as goal
use Rattle.properties_renaming.proofs.separators.LastRun.pass.Goals.{then-self, else-self}

pub returns-then-not-is_comment_line : goal.returns-then-not-is_comment_line
returns-then-not-is_comment_line c =
    let off : is_line_of_comment c.args.group ≡ false = search rules in
    rw off (c.new.ensures, λ lines h. h.1)

pub returns-then-sign-self : goal.returns-then-sign-self
returns-then-sign-self c =
    let on : is_line_of_comment c.args.group ≡ true = search rules in
    let both : c.if-self.self ≡ (c.args.self.now.separates && has_shape (chars c.args.line.now)) = elim c.if-self.branch [
      | then-self w ↦ rw w.if-self.true (w.self-is ∙ w.has_shape-self.ensures)
      | else-self w ↦ rw w.if-self.false (w.self-is ∙ w.if-self.false)
    ] in
    rw on (passes-same (chars c.args.line.now) c.args.self.now _ (c.requires on) (sym c.sign_of-sign.ensures.sign ∙ c.if-sign-self.true) refl both)

pub returns : goal.returns
returns c =
    let on : is_line_of_comment c.args.group ≡ true = search rules in
    rw on (passes-new (chars c.args.line.now) c.args.self.now _ (λ same. c.if-sign-self.false (c.sign_of-sign.ensures.sign ∙ same)) c.sign_of-sign.ensures.sign c.has_shape.ensures)
