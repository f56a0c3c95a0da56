use Rattle.std.proofs.Common.{◌∙◌, ap, ap₂, sym, inl, inr}
use Rattle.properties_format.specs.Items.{given}
use Rattle.properties_text.specs.Escaping.{holds_backslash}
use Rattle.properties_text.proofs.Texts.Resolving.{holds_backslash-text}
use Rattle.properties_items.specs.BorrowedItems.{borrowed_content}
use Rattle.properties_editing.specs.Views.{viewed_line}
use Rattle.properties_c.specs.{Items.standing, Packed.record_in, Packed.spanned, Private.Results.content_record}
use Rattle.properties_c.proofs.GivenLines.{no-item, shown-read, shown-standing}
use Rattle.properties_c.proofs.PackedGroups.{group-packed, is-not-read, raw-value, read-texts, standing-record}
use Rattle.properties_c.proofs.spans.push_group.Goals as goal
use Rattle.properties_c.proofs.spans.push_group.Goals.{then-is_group_read+then-has_backslash+in_ok-item+in_default, else-is_group_read, else-is_group_read-via-then-is_group_read+else-has_backslash, else-is_group_read-via-else-is_group_read}

pub returns-in-Some : goal.returns-in-Some
returns-in-Some c =
    let v = c.args.view.now in
    let content = borrowed_content c.in-Some.item.content in
    let resolved = rw (c.in-Some.is, c.line-line.ensures) at c.in_ok-item.ensures in
    let reads = rw c.requires.kind_is at (sym c.is_group_read.ensures ∙ c.if-is_group_read.true) in
    let same = c.item_record.ensures ∙ ap₂ (λ k o. content_record k c.args.group.line_number o) c.spanned_kind-kind.ensures (ap borrowed_content c.content.ensures) in (
      spanned (record_in c.item_record.result) c.in_ok-numbers.numbers,
      group-packed c.args.asked v c.args.group c.in_ok-numbers.numbers (record_in c.item_record.result) (given content) c.requires c.in_ok-numbers.ensures
          (shown-read c.args.asked (viewed_line v) c.requires.what content c.requires.is_split (read-texts c.args.asked c.requires.what reads) resolved) same,
      c.in_ok-push_spanned.ensures,
    )

pub returns : goal.returns
returns c =
    let v = c.args.view.now in
    let what = c.requires.what in
    let key = c.standing_key.ensures what c.requires.is_split in
    let value = raw-value (viewed_line v) _ what c.requires.is_split c.raw_value.ensures in
    let shows = shown-standing c.args.asked (viewed_line v) what c.requires.is_split (elim c.if-is_group_read.branch [
      | then-is_group_read+then-has_backslash+in_ok-item+in_default w ↦
          λ reads. inr (rw c.line-line.ensures at (no-item _ _ w.in_ok-item.ensures w.in_default.not-Some))
      | else-is_group_read w ↦ elim w.else-is_group_read.branch [
        | else-is_group_read-via-then-is_group_read+else-has_backslash w' ↦
            λ reads. inl (rw c.line-line.ensures at (holds_backslash-text c.line-line.result.now c.line-line.utf8
            ∙ ap holds_backslash (sym w'.as_bytes.ensures.value) ∙ sym w'.has_backslash.ensures ∙ w'.if-has_backslash.false))
        | else-is_group_read-via-else-is_group_read w' ↦
            λ reads. absurd (is-not-read c.args.asked what (rw c.requires.kind_is at (sym c.is_group_read.ensures ∙ w'.if-is_group_read.false)) reads)
      ]
    ]) in
    let same = standing-record c.args.group what _ _ _ _ _ c.spanned_kind-kind.ensures c.as_bytes-2.ensures.value c.standing_key.utf8 key
    c.as_bytes-3.ensures.value c.raw_value.utf8 value in (
      _,
      group-packed c.args.asked v c.args.group c.in_ok-numbers.numbers _ (standing what) c.requires c.in_ok-numbers.ensures shows same,
      c.in_ok-push_spanned-2.ensures,
    )
