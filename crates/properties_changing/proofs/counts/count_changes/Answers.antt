use Rattle.std.proofs.Common.{ap, ◌∙◌}
use Rattle.std.proofs.Math.ListN.{replicate}
use Rattle.properties_text.specs.Encoding.{encoding_of}
use Rattle.properties_changing.specs.declared.counts.State.TheVariants.{Gone}
use Rattle.properties_changing.proofs.Counting.{counts-are, compared-none}
use Rattle.properties_changing.proofs.counts.count_changes.Goals as goal

pub take_sound-requires : goal.take_sound-requires
take_sound-requires c =
    let old = c.in_ok-old.ensures in
    let added = c.in_ok-for_source.ensures in
    compared-none _ old.1 (λ i j d l m. (old.2.have.keys.in_order i j d l m).differ) added.table added.empty
    (c.in_ok-vec.ensures.items_if_clones_equal (λ y same. same) ∙ ap (λ n. replicate n Gone) c.len.ensures)

pub returns : goal.returns
returns c =
    let old = c.in_ok-old.ensures in
    let new = c.in_ok-compared.ensures in
    counts-are (encoding_of c.args.encoding) c.args.source.now c.args.bytes.now old.0 new.0 _ c.in_ok-compared.compared new.1.0 old.2 new.1.1 new.1.3
    c.counts.result c.counts.ensures.changed c.counts.ensures.added c.counts.ensures.removed
