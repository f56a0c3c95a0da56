use Rattle.std.proofs.Common.{◌≡◌, ◌∙◌, ◌∷◌, [], ap, subst}
use Rattle.std.specs.Prelude.{map}
use Rattle.std.specs.Str.{chars}
use Rattle.properties_items.specs.Texts.{characters}
use Rattle.properties_text.specs.Encoding.{encoding_of}
use Rattle.properties_renaming.specs.Commented.{IsRemovedWithComments}
use Rattle.properties_renaming.proofs.CommentedKeys.{one-removed}
use Rattle.properties_renaming.proofs.comments.remove_with_comment.Goals as goal

pub returns : goal.returns
returns c =
    let e = encoding_of c.args.options.encoding in
    let source = c.args.source.now in
    let key = chars c.args.key.now in
    let bytes = c.in_ok-bytes.bytes.items in
    let one : map characters c.from_ref.result.now ≡ key ∷ [] =
    ap (map characters) c.from_ref.ensures.value ∙ ap (λ k. chars k ∷ []) c.in_ok-key.ensures.ok in
    let removed = subst (λ keys. IsRemovedWithComments e source keys bytes) one c.in_ok-bytes.ensures in
    ((c.in_ok-edit_with.field-0, c.in_ok-edit_with.ensures.edits), removed, λ other is. one-removed e source (key ∷ []) bytes other removed is)
