-- What is reported, as one after another comes, and of one kind.
use Rattle.std.proofs.Common.{◌≡◌, Bool, true, false, List, [], ◌∷◌, ◌++◌, refl, ap, ◌∙◌, append-nil}
use Rattle.std.specs.Prelude.{cond, not}
use Rattle.std.proofs.lemmas.List.Elements.{filter-append}
use Rattle.properties_checking.specs.{Kinds.is_ignored, Kinds.reported, declared.kinds.Ignored.Ignored, declared.kinds.Kind.Kind}

module _ {X : Type 0} (ignored : Ignored) where
  one-more : (kind : X → Kind) (xs : List X) (x : X) (is : Bool) → is_ignored ignored (kind x) ≡ is
      → reported ignored kind (xs ++ x ∷ []) ≡ reported ignored kind xs ++ cond (not is) (x ∷ []) []
  one-more kind xs x is told =
      filter-append (λ y. not (is_ignored ignored (kind y))) xs (x ∷ []) ∙ ap (λ b. reported ignored kind xs ++ cond (not b) (x ∷ []) []) told

  -- One that isn't ignored comes last;
  pub one-reported : (kind : X → Kind) (xs : List X) (x : X) → is_ignored ignored (kind x) ≡ false
      → reported ignored kind (xs ++ x ∷ []) ≡ reported ignored kind xs ++ x ∷ []
  one-reported kind xs x is = one-more kind xs x false is

  -- one that is ignored doesn't.
  pub one-ignored : (kind : X → Kind) (xs : List X) (x : X) → is_ignored ignored (kind x) ≡ true
      → reported ignored kind (xs ++ x ∷ []) ≡ reported ignored kind xs
  one-ignored kind xs x is = one-more kind xs x true is ∙ append-nil (reported ignored kind xs)

  -- All of a kind are reported, or none.
  pub all-reported : (k : Kind) (xs : List X) → is_ignored ignored k ≡ false → reported ignored (λ x. k) xs ≡ xs
  all-reported k [] is = refl
  all-reported k (x ∷ xs) is = rw is (ap (λ v. x ∷ v) (all-reported k xs is))

  pub none-reported : (k : Kind) (xs : List X) → is_ignored ignored k ≡ true → reported ignored (λ x. k) xs ≡ []
  none-reported k [] is = refl
  none-reported k (x ∷ xs) is = rw is (none-reported k xs is)
