use Rattle.std.proofs.Common.{refl, ap, ◌∙◌, subst}
use Rattle.std.specs.Str.{chars}
use Rattle.properties_text.specs.Encoding.{encoding_of}
use Rattle.properties_lines.specs.LineSearch.{unit_size}
use Rattle.properties_items.specs.BorrowedItems.{outcome_pair}
use Rattle.properties_format.specs.Computed.Items.{outcome_of}
use Rattle.properties_editing.specs.Private.BodyGroups.{IsWithin, group_text}
use Rattle.properties_editing.specs.Private.BodyParts.{no_gap}
use Rattle.properties_editing.specs.declared.parts.Parts.{Parts}
use Rattle.properties_editing.specs.declared.groups.Closing.TheVariants.{Nothing}
use Rattle.properties_editing.proofs.Editing.{editable-bytes}
use Rattle.properties_editing.proofs.PartsRead.{HasParted, parted-none, parted-more, parted-all, group-within}
use Rattle.properties_editing.proofs.parts.Parts.read.Goals as goal

pub loop-parts-init : goal.loop-parts-init
loop-parts-init c =
    let body = c.args.body.now in
    let reader = c.new-groups.result in
    let new = c.new-groups.ensures in
    let same = ap encoding_of new.encoding in
    let within : IsWithin body reader = record { bytes = ap unit_size same ∙ c.requires.bytes; within_body = new.within_body body } in
    let parts : Parts = record { parts = c.new.result; keys = c.args.keys; closing = Nothing } in
    rw c.empty-gap.ensures (subst (λ e. HasParted c.args.comments e body c.args.keys reader parts Nothing (no_gap 0)) same
    (parted-none c.args.comments body c.args.keys reader parts Nothing new.start new.none new.going within c.requires.unplaced refl c.new.ensures.items))

pub read_group-requires-clause-within : goal.read_group-requires-clause-within
read_group-requires-clause-within c =
    let came = rw c.in-Some.is at c.in_ok-group.ensures in
    rw c.place.ensures (group-within came)

pub loop-parts-preserved : goal.loop-parts-preserved
loop-parts-preserved c =
    let came = rw c.in-Some.is at c.in_ok-group.ensures in
    let reads = rw (c.line-line.ensures, c.place.ensures) at c.in_ok-gap.ensures in
    parted-more c.loop-parts.parts c.read_group.new.self c.loop-parts.gap c.in_ok-gap.gap c.loop-parts.invariant came reads.0 _ c.closing_after-closing.ensures
    (outcome_pair (outcome_of (chars (group_text c.args.body.now c.next.new.self c.in-Some.group))))
    (editable-bytes (encoding_of c.args.encoding) c.requires.bytes) reads.1 (ap (λ v. outcome_pair (outcome_of v)) came.text)

pub returns : goal.returns
returns c =
    let none = rw c.in_default.is at c.in_ok-group.ensures in
    let closed = c.in_ok-close_gap.ensures in
    let parts : Parts = record c.close_gap.new.self { closing = c.loop-parts.closing } in
    parted-all c.loop-parts.parts parts c.loop-parts.gap c.loop-parts.invariant none.0
    (editable-bytes (encoding_of c.args.encoding) c.requires.bytes) (record { parts = closed.parts; keys = closed.keys }) refl
