use Rattle.std.proofs.Common.{◌≡◌, ◌∙◌, ◌∷◌, [], ap, subst}
use Rattle.std.specs.Str.{chars}
use Rattle.properties_text.specs.Encoding.{encoding_of}
use Rattle.properties_editing.specs.Editing.{asked_for}
use Rattle.properties_renaming.specs.Commenting.{AreCommentsSet, HasNoPairFor, new_text, texts_in}
use Rattle.properties_renaming.proofs.LastLines.{only-lacks}
use Rattle.properties_renaming.proofs.commenting.set_comment.Goals as goal

pub returns-in-Bytes : goal.returns-in-Bytes
returns-in-Bytes c =
    let text = new_text (chars c.args.key.now) (chars c.args.text.now) in
    let one : texts_in c.from_ref.result.now ≡ text ∷ [] = ap texts_in c.from_ref.ensures.value ∙ ap (λ t. t ∷ []) c.in_ok-comment.ensures.same in
    let set = rw c.in-Bytes.is at c.in_ok-bytes.ensures in
    ((c.in_ok-edit_with.field-0, c.in_ok-edit_with.ensures.edits), subst (λ ts. AreCommentsSet (asked_for c.args.options) c.args.source.now ts c.in-Bytes.bytes.items) one set)

pub returns : goal.returns
returns c =
    let text = new_text (chars c.args.key.now) (chars c.args.text.now) in
    let one : texts_in c.from_ref.result.now ≡ text ∷ [] = ap texts_in c.from_ref.ensures.value ∙ ap (λ t. t ∷ []) c.in_ok-comment.ensures.same in
    let none = rw c.in-NoKey.is at c.in_ok-bytes.ensures in (
      (c.in_ok-edit_with.field-0, c.in_ok-edit_with.ensures.edits),
      only-lacks text c.in-NoKey.field-0
          (subst (λ ts. HasNoPairFor (encoding_of c.args.options.encoding) c.args.source.now ts c.in-NoKey.field-0) one none),
    )
