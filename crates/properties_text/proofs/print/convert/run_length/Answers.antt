use Rattle.properties_text.proofs.Converted.{stops-stay, trimmed-stay}
use Rattle.properties_text.proofs.print.convert.run_length.Goals as goal

pub returns-then-readable-clause-stays : goal.returns-then-readable-clause-stays
returns-then-readable-clause-stays c = stops-stay c.args.readable c.args.text.now c.first_of.result c.first_of.ensures.before

pub returns-else-text-count-eq92-clause-stays : goal.returns-else-text-count-eq92-clause-stays
returns-else-text-count-eq92-clause-stays c =
    let p = c.first_of-past in
    rw c.if-readable.false (trimmed-stay c.args.text.now c.loop-count.count p.result c.loop-count.invariant.within p.ensures.within p.ensures.before
    p.ensures.at c.loop-count.invariant.back c.if-text-count-eq92.false)
