use Rattle.std.proofs.Common.{◌∙◌, ◌++◌, ap, sym, false, [], append-nil}
use Rattle.std.proofs.lemmas.List.{map-id}
use Rattle.std.proofs.lemmas.Iterator.{YieldsList-from_chars}
use Rattle.std.proofs.lemmas.Iterator.Consumers.{YieldsList-end}
use Rattle.std.proofs.lemmas.Str.{chars-nil}
use Rattle.std.specs.Str.{chars}
use Rattle.properties_format.specs.Valued.{shortened_after}
use Rattle.properties_items.specs.Texts.{characters}
use Rattle.properties_editing.proofs.NewPairs.{shortened-more}
use Rattle.properties_editing.proofs.new_pair.shortened.Goals as goal

pub loop-character-init : goal.loop-character-init
loop-character-init c = λ rest. ap (λ v. v ++ shortened_after false rest) (sym (ap chars c.new-short.ensures.bytes ∙ chars-nil))

pub loop-character-preserved : goal.loop-character-preserved
loop-character-preserved c =
    let loop = c.loop-character in
    λ rest. rw c.is_blank-was_blank.ensures (shortened-more loop.was_blank loop.yielded (characters loop.short) (characters c.push_shortened.new.short) c.in-Some.character
    loop.invariant c.in_ok-push_shortened.ensures rest)

pub returns : goal.returns
returns c =
    let loop = c.loop-character in
    let yields = YieldsList-from_chars c.args.text.now c.utf8.text cc in
    let last = YieldsList-end yields loop.yielded _ loop.yielded_by _ _ c.in-None.is c.next.ensures.steps in
    let all = sym (map-id loop.yielded) ∙ last.0 in
    sym (ap (shortened_after false) (sym (append-nil loop.yielded ∙ all)) ∙ loop.invariant [] ∙ append-nil (characters loop.short))
