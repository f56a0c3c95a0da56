-- The keys of a list, each once and in the order of their first places, as one after another comes.
use Rattle.std.proofs.Common.{◌≡◌, ℕ, zero, suc, ◌<◌, List, [], ◌∷◌, ◌++◌, length, refl, ap, ◌∙◌, inl, inr, subst, arith, append_assoc}
use Rattle.std.specs.Prelude.{◌⊎◌, All, AllPairs}
use Rattle.std.proofs.{Math.ListN.get_or, lemmas.List.Elements.All-append, lemmas.List.Kept.AllPairs-cons}
use Rattle.properties_format.specs.Computed.Maps.{Has, HasNot, ComesBefore, AreFirstOf}
use Rattle.properties_format.proofs.Keys.{contained}

-- ---- keys in a list

pub has-left : (key : List ℕ) (ks ls : List (List ℕ)) → Has key ks → Has key (ks ++ ls)
has-left key [] ls h = absurd h
has-left key (k ∷ ks) ls (inl e) = inl e
has-left key (k ∷ ks) ls (inr h) = inr (has-left key ks ls h)

pub has-last : (key : List ℕ) (ks : List (List ℕ)) → Has key (ks ++ key ∷ [])
has-last key [] = inl refl
has-last key (k ∷ ks) = inr (has-last key ks)

-- one of them, or the last
pub has-split : (key last : List ℕ) (ks : List (List ℕ)) → Has key (ks ++ last ∷ []) → Has key ks ⊎ (last ≡ key)
has-split key last [] (inl e) = inr e
has-split key last [] (inr h) = absurd h
has-split key last (k ∷ ks) (inl e) = inl (inl e)
has-split key last (k ∷ ks) (inr h) = elim (has-split key last ks h) [ inl l ↦ inl (inr l) | inr e ↦ inr e ]

-- what isn't one of them is none of the first
has_not-left : (key : List ℕ) (ks ls : List (List ℕ)) → HasNot key (ks ++ ls) → HasNot key ks
has_not-left key [] ls h = tt
has_not-left key (k ∷ ks) ls h = (h.0, has_not-left key ks ls h.1)

pub has_not : (key : List ℕ) (ks : List (List ℕ)) → (Has key ks → ⊥) → HasNot key ks
has_not key [] never = tt
has_not key (k ∷ ks) never = ((λ e. never (inl e)), has_not key ks (λ h. never (inr h)))

pub no-both : (key : List ℕ) (ks : List (List ℕ)) → HasNot key ks → Has key ks → ⊥
no-both key [] n h = h
no-both key (k ∷ ks) n (inl e) = n.0 e
no-both key (k ∷ ks) n (inr h) = no-both key ks n.1 h

-- a place within a list has the same whatever is beyond its end
same-at : {X : Type 0} (xs : List X) (i : ℕ) (d : X) → i < length xs → get_or xs i (get_or xs i d) ≡ get_or xs i d
same-at [] i d m = absurd (omega arith)
same-at (x ∷ xs) zero d m = refl
same-at (x ∷ xs) (suc i) d m = same-at xs i d (omega arith)

-- where it is
divides : (key : List ℕ) (ks : List (List ℕ)) → Has key ks → (before : List (List ℕ)) × (after : List (List ℕ)) × (ks ≡ before ++ key ∷ after)
divides key [] h = absurd h
divides key (k ∷ ks) (inl e) = ([], ks, ap (λ v. v ∷ ks) e)
divides key (k ∷ ks) (inr h) = let d = divides key ks h in (k ∷ d.0, d.1, ap (λ v. k ∷ v) d.2)

-- ---- one key more

grown : {all : List (List ℕ)} {one other : List ℕ} (key : List ℕ) → ComesBefore all one other → ComesBefore (all ++ key ∷ []) one other
grown {all} {one} key h = record {
  before = h.before;
  after = h.after ++ key ∷ [];
  division = ap (λ v. v ++ key ∷ []) h.division ∙ append_assoc h.before (one ∷ h.after) (key ∷ []);
  none_before = h.none_before;
  differ = h.differ;
}

-- a key that is there
pub first-same : (all ks : List (List ℕ)) (key : List ℕ) → AreFirstOf all ks → Has key ks → AreFirstOf (all ++ key ∷ []) ks
first-same all ks key h there = record {
  only = λ k m. has-left k all (key ∷ []) (h.only k m);
  every = λ k m. elim (has-split k key all m) [ inl l ↦ h.every k l | inr e ↦ subst (λ v. Has v ks) e there ];
  in_order = λ i j d l m. grown key (h.in_order i j d l m);
}

AllPairs-last : {X : Type 0} (R : X → X → Type 0) (xs : List X) (y : X) → AllPairs R xs → All (λ x. R x y) xs → AllPairs R (xs ++ y ∷ [])
AllPairs-last R [] y h all = λ i j d l m. absurd (omega arith)
AllPairs-last R (x ∷ xs) y h all =
    AllPairs-cons R x (xs ++ y ∷ [])
    (All-append (R x) xs (y ∷ []) (λ j d m. h zero (suc j) d (omega arith) (omega arith)) (λ j d m. last j d m))
    (AllPairs-last R xs y (λ i j d l m. h (suc i) (suc j) d (omega arith) (omega arith)) (λ j d m. all (suc j) d (omega arith)))
  where
    last : All (R x) (y ∷ [])
    last zero d m = all zero y (omega arith)
    last (suc j) d m = absurd (omega arith)

-- a new key
pub first-new : (all ks : List (List ℕ)) (key : List ℕ) → AreFirstOf all ks → HasNot key ks → AreFirstOf (all ++ key ∷ []) (ks ++ key ∷ [])
first-new all ks key h new = record {
  only = λ k m. elim (has-split k key ks m) [
    | inl l ↦ has-left k all (key ∷ []) (h.only k l)
    | inr e ↦ subst (λ v. Has v (all ++ key ∷ [])) e (has-last key all)
  ];
  every = λ k m. elim (has-split k key all m) [
    | inl l ↦ has-left k ks (key ∷ []) (h.every k l)
    | inr e ↦ subst (λ v. Has v (ks ++ key ∷ [])) e (has-last key ks)
  ];
  in_order = AllPairs-last (ComesBefore (all ++ key ∷ [])) ks key (λ i j d l m. grown key (h.in_order i j d l m))
      (λ i d m. before (get_or ks i d) (contained (get_or ks i d) ks (i, m, same-at ks i d m)));
}
  where
    none : HasNot key all
    none = has_not key all (λ m. no-both key ks new (h.every key m))

    before : (k : List ℕ) → Has k ks → ComesBefore (all ++ key ∷ []) k key
    before k m =
        let d = divides k all (h.only k m) in
        record {
          before = d.0;
          after = d.1 ++ key ∷ [];
          division = ap (λ v. v ++ key ∷ []) d.2 ∙ append_assoc d.0 (k ∷ d.1) (key ∷ []);
          none_before = has_not-left key d.0 (k ∷ d.1) (subst (HasNot key) d.2 none);
          differ = λ e. no-both key ks new (subst (λ v. Has v ks) e m);
        }
