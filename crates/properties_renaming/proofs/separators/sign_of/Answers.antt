use Rattle.std.proofs.Common.{◌∙◌, ap}
use Rattle.std.specs.Str.{chars}
use Rattle.properties_format.specs.Text.{is_comment_sign}
use Rattle.properties_renaming.proofs.CommentTexts.{comment-text}
use Rattle.properties_format.proofs.Separators.{sign-marks}
use Rattle.properties_renaming.proofs.separators.sign_of.Goals as goal

pub bounds-bytes-leading_blanks : goal.bounds-bytes-leading_blanks
bounds-bytes-leading_blanks c =
    let blanks = rw c.as_bytes-bytes.ensures.value at c.leading_blanks.ensures in
    rw c.as_bytes-bytes.ensures.value (comment-text c.args.line.now c.leading_blanks.result c.utf8.line c.requires blanks.within blanks.rest).within

pub returns-clause-sign : goal.returns-clause-sign
returns-clause-sign c =
    let blanks = rw c.as_bytes-bytes.ensures.value at c.leading_blanks.ensures in
    rw c.as_bytes-bytes.ensures.value (comment-text c.args.line.now c.leading_blanks.result c.utf8.line c.requires blanks.within blanks.rest).same

pub returns-clause-marks : goal.returns-clause-marks
returns-clause-marks c =
    let blanks = rw c.as_bytes-bytes.ensures.value at c.leading_blanks.ensures in
    let same = (comment-text c.args.line.now c.leading_blanks.result c.utf8.line c.requires blanks.within blanks.rest).same in
    rw c.as_bytes-bytes.ensures.value (ap is_comment_sign same ∙ sign-marks (chars c.args.line.now) c.requires)
