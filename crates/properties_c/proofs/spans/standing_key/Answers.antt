use Rattle.std.proofs.{Common.◌∙◌, Common.ap, Common.sym, lemmas.Str.chars-nil}
use Rattle.properties_format.proofs.Split.Laws.{split-unique}
use Rattle.properties_editing.specs.Views.{group_kind, viewed_line}
use Rattle.properties_c.proofs.PackedGroups.{no-key, raw-key}
use Rattle.properties_c.proofs.spans.standing_key.Goals as goal

pub returns-in-Comment : goal.returns-in-Comment
returns-in-Comment c = λ what split.
    let same = split-unique (viewed_line c.args.view.now) what c.requires.what split c.requires.is_split in
    chars-nil ∙ sym (no-key what (ap group_kind same ∙ sym c.requires.kind_is ∙ c.in-Comment.is))

pub returns-in_default : goal.returns-in_default
returns-in_default c = λ what split.
    let same = split-unique (viewed_line c.args.view.now) what c.requires.what split c.requires.is_split in
    raw-key (viewed_line c.args.view.now) _ what split c.raw_key.ensures (λ h. c.in_default.not-Comment (c.requires.kind_is ∙ ap group_kind (sym same) ∙ h))
