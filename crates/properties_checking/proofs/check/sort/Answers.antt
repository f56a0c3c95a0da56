use Rattle.std.proofs.{Common.◌≡◌, Common.rules, lemmas.Fn.always_returns_same, lemmas.List.Sorted.IsNonDecreasingBy-from_sort_by_key}
use Rattle.properties_checking.proofs.check.sort.Goals as goal

pub returns : goal.returns
returns c = record {
  in_order = IsNonDecreasingBy-from_sort_by_key (λ f. f.line_number) _ c.in_ok-sort_by_key.ensures.sorted (λ a r q k. search rules);
  stable = c.in_ok-sort_by_key.ensures.stable (λ f. f.line_number) (always_returns_same _ (λ a r. r ≡ a.0.now.line_number) _ (λ a r q k. search rules));
}
