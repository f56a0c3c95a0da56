use Rattle.std.proofs.{lemmas.Bool.false≢true, lemmas.List.take-append-drop, lemmas.Str.IsCharBoundary-from_take, lemmas.Str.IsUtf8-append}
use Rattle.properties_c.proofs.lists.sound_texts.Goals as goal

pub returns-in_default : goal.returns-in_default
returns-in_default c = λ key value.
    c.in_default.ensures (rw (take-append-drop c.args.at c.args.bytes.now) at (IsUtf8-append _ _ key value))

pub returns-in-None : goal.returns-in-None
returns-in-None c = λ key value.
    let text = c.in-Some.ensures in
    let boundary = IsCharBoundary-from_take c.args.bytes.now c.args.at text.1 c.requires key in
    false≢true (c.in-None.ensures.variant.1 (rw text.0 boundary))
