use Rattle.std.proofs.Common.{Some, sym, ◌∙◌, subst, arith}
use Rattle.std.specs.Prelude.{map}
use Rattle.std.specs.Map.Iter.{deref_pair}
use Rattle.std.proofs.lemmas.List.{length-set}
use Rattle.std.proofs.lemmas.Map.Iter.{rest_all}
use Rattle.properties_editing.specs.Private.KeyOrder.{key_at}
use Rattle.properties_editing.proofs.KeyOrder.{IsPlacing, only-none, placing-all, placing-next, placing-none, placing-over}
use Rattle.properties_editing.proofs.parts.Parts.keys_by_first_place.Goals as goal

pub loop-key-init : goal.loop-key-init
loop-key-init c =
    let made = c.in_ok-firsts.ensures in
    let none = made.items_if_clones_equal (only-none _ (λ x never. never)) in
    let size = c.len.ensures in (
      sym c.in_ok-firsts.firsts.ok.0 ∙ made.len ∙ size ∙ c.args.self.now.parts.ok.0,
      placing-none c.args.self.now.keys.places.entries c.into_iter-key-iterator.result c.len.result c.in_ok-firsts.firsts.items
          c.into_iter-key-iterator.ensures.into_iter_gives.0 none,
    )

-- the entry at hand is placed
pub index_mut-requires : goal.index_mut-requires
index_mut-requires c =
    let at = subst (λ v. IsPlacing c.args.self.now.keys.places.entries v (map key_at c.loop-key.firsts.items)) c.in-Some.ensures.steps
    c.loop-key.invariant.1 in
    let next = placing-next c.args.self.now c.next.new.self c.loop-key.firsts.items c.in-Some.key.now c.in-Some.places.now
    c.in-Some-first_place.place c.as_str.result
    c.requires at c.in-Some-first_place.ensures c.as_str.ensures.value c.loop-key.invariant.0 in
    omega arith

pub loop-key-preserved-in-Some-first_place : goal.loop-key-preserved-in-Some-first_place
loop-key-preserved-in-Some-first_place c =
    let at = subst (λ v. IsPlacing c.args.self.now.keys.places.entries v (map key_at c.loop-key.firsts.items)) c.in-Some.ensures.steps
    c.loop-key.invariant.1 in
    let next = placing-next c.args.self.now c.next.new.self c.loop-key.firsts.items c.in-Some.key.now c.in-Some.places.now
    c.in-Some-first_place.place c.as_str.result
    c.requires at c.in-Some-first_place.ensures c.as_str.ensures.value c.loop-key.invariant.0 in (
      length-set c.loop-key.firsts.items c.in-Some-first_place.place (Some c.as_str.result) ∙ c.loop-key.invariant.0,
      next.1,
    )

pub loop-key-preserved : goal.loop-key-preserved
loop-key-preserved c =
    let entries = c.args.self.now.keys.places.entries in
    let firsts = map key_at c.loop-key.firsts.items in
    let at = subst (λ v. IsPlacing entries v firsts) c.in-Some.ensures.steps c.loop-key.invariant.1 in (
      c.loop-key.invariant.0,
      placing-over entries c.next.new.self firsts c.in-Some.key.now c.in-Some.places.now at (sym c.in_default.is ∙ c.first_place.ensures),
    )

pub returns : goal.returns
returns c =
    let none = rest_all deref_pair c.loop-key.key-iterator c.next.new.self c.next.result c.in-None.is c.next.ensures.steps in
    placing-all c.args.self.now.keys.places.entries c.loop-key.firsts.items
    (subst (λ v. IsPlacing c.args.self.now.keys.places.entries v (map key_at c.loop-key.firsts.items)) none c.loop-key.invariant.1)
