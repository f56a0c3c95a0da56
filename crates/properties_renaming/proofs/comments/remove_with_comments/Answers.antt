use Rattle.std.specs.Prelude.{map}
use Rattle.properties_items.specs.Texts.{characters}
use Rattle.properties_text.specs.Encoding.{encoding_of}
use Rattle.properties_renaming.proofs.CommentedKeys.{one-removed}
use Rattle.properties_renaming.proofs.comments.remove_with_comments.Goals as goal

pub returns : goal.returns
returns c =
    let bytes = c.in_ok-bytes.bytes.items in
    let removed = c.in_ok-bytes.ensures in (
      (c.in_ok-edit_with.field-0, c.in_ok-edit_with.ensures.edits),
      removed,
      λ other is. one-removed (encoding_of c.args.options.encoding) c.args.source.now (map characters c.args.keys.now) bytes other removed is,
    )
