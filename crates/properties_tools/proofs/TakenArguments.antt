-- What is left of arguments after the first.
use Rattle.std.proofs.Common.{◌≡◌, List, [], length, ap, sym, ◌∙◌}
use Rattle.std.proofs.lemmas.List.{nil_from_length}
use Rattle.std.specs.{Prelude.Option, Prelude.Some, Prelude.None, Vec.Iter.into_iter_items, Vec.Iter.into_iter_len, Vec.Iter.into_iter_steps}
use Rattle.std.specs.declared.vec.IntoIter.{IntoIter}
use Rattle.properties_tools.specs.Arguments.{after_first}

module _ {X Z : Type 0} where
  len-is : (s : IntoIter X Z) → into_iter_len s ≡ length (into_iter_items s)
  len-is s = s.rest.ok.0

  pub len-items : (s : IntoIter X Z) {xs : List X} → into_iter_items s ≡ xs → into_iter_len s ≡ length xs
  len-items s h = len-is s ∙ ap length h

  no-items : (s : IntoIter X Z) → into_iter_len s ≡ 0 → into_iter_items s ≡ []
  no-items s h = nil_from_length (into_iter_items s) (sym (len-is s) ∙ h)

  pub after-next : (s : IntoIter X Z) (next : Option X) (t : IntoIter X Z) → into_iter_steps s next t → into_iter_items t ≡ after_first (into_iter_items s)
  after-next s None t h = no-items t h.1 ∙ sym (ap after_first (no-items s h.0))
  after-next s (Some x) t h = sym (ap after_first h.0)
