use Rattle.std.proofs.Common.{◌-◌, sym, subst}
use Rattle.std.specs.Str.{chars}
use Rattle.properties_editing.specs.Private.PartBounds.{ArePlainFrom}
use Rattle.properties_editing.proofs.PartBounds.{empty-removed, front-removed, none-removed, plain-removed}
use Rattle.properties_editing.proofs.PartsLeft.{removed-within}
use Rattle.properties_editing.proofs.parts.source_parts.SourceParts.remove.Goals as goal

pub remove-told-requires-clause-plain : goal.remove-told-requires-clause-plain
remove-told-requires-clause-plain c = c.feeds_end-self.ensures

pub narrowed-self-requires-clause-pairs : goal.narrowed-self-requires-clause-pairs
narrowed-self-requires-clause-pairs c =
    let b = c.args.self.now.bounds in
    none-removed c.args.body.now (chars c.args.key.now) b.pairs b.end c.args.self.now.parts c.remove-told.new.self c.remove-told.result
    c.remove-told.ensures.parts c.requires.bounds.1.none

pub narrowed-self-requires-clause-empty : goal.narrowed-self-requires-clause-empty
narrowed-self-requires-clause-empty c =
    let b = c.args.self.now.bounds in
    empty-removed c.args.body.now (chars c.args.key.now) b.empty (b.end - 1) c.args.self.now.parts c.remove-told.new.self c.remove-told.result
    c.remove-told.ensures.parts c.requires.bounds.1.empty

pub guard_front-requires-clause-within : goal.guard_front-requires-clause-within
guard_front-requires-clause-within c =
    let left = c.remove-told in
    removed-within c.args.body.now (chars c.args.key.now) c.args.self.now.parts left.new.self left.result c.requires.within left.ensures.parts

pub guard_front-requires-clause-front : goal.guard_front-requires-clause-front
guard_front-requires-clause-front c =
    let left = c.remove-told in
    rw c.requires.front (front-removed c.args.body.now (chars c.args.key.now) c.args.self.now.parts left.new.self left.result left.ensures.parts)

pub returns : goal.returns
returns c =
    let d = c.args.body.now in
    let made = c.guard_front.ensures in
    let new = c.guard_front.new.self in
    let left = c.remove-told.new.self in
    let plain : ArePlainFrom d c.narrowed-self.result.feeds left.parts.items =
    subst (λ n. ArePlainFrom d n left.parts.items) (sym c.narrowed-self.ensures.feeds)
    (plain-removed d (chars c.args.key.now) c.feeds_end-self.result c.args.self.now.parts left c.remove-told.result c.remove-told.ensures.parts
    c.feeds_end-self.ensures) in
    rw (made.parts, made.bounds) (record {
      removes = c.remove-told.ensures.parts;
      opened = made.opened;
      empty = made.empty;
      guarded = made.guarded;
      bounds = (plain, c.narrowed-self.ensures.bounds);
    })
