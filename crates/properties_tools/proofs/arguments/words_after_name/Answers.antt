use Rattle.std.proofs.{lemmas.Iterator.items_from_collect, lemmas.Iterator.Adapters.YieldsList-from_vec}
use Rattle.properties_tools.proofs.TakenArguments.{after-next, len-items}
use Rattle.properties_tools.proofs.arguments.words_after_name.Goals as goal

pub returns : goal.returns
returns c =
    let rest = c.next.new.self in
    let after = after-next c.args.arguments c.next.result rest c.next.ensures.cases in
    items_from_collect c.collect.result c.collect.ensures.ran (YieldsList-from_vec _ after (len-items rest after))
