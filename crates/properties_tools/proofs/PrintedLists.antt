-- What is printed of things that are listed, as one after another comes.
use Rattle.std.proofs.Common.{◌≡◌, ℕ, Bool, true, false, ◌+◌, ◌<◌, List, [], ◌∷◌, ◌++◌, length, refl, ap, sym, ◌∙◌, append-nil}
use Rattle.std.specs.Prelude.{cond, filter, get_or, take}
use Rattle.std.specs.List.{flat_map}
use Rattle.std.proofs.{lemmas.Grind.flat_map-append, lemmas.List.Elements.filter_more}

module _ {X : Type 0} (listed : X → Bool) (xs : List X) (i : ℕ) (x : X) (below : i < length xs) (is : get_or xs i x ≡ x) where
  next : filter listed (take (i + 1) xs) ≡ filter listed (take i xs) ++ cond (listed x) (x ∷ []) []
  next = filter_more listed xs i x below ∙ ap (λ v. filter listed (take i xs) ++ cond (listed v) (v ∷ []) []) is

  -- It is listed, and comes last;
  pub kept : listed x ≡ true → filter listed (take (i + 1) xs) ≡ filter listed (take i xs) ++ x ∷ []
  kept is_listed = next ∙ ap (λ b. filter listed (take i xs) ++ cond b (x ∷ []) []) is_listed

  -- or it isn't.
  pub left_out : listed x ≡ false → filter listed (take (i + 1) xs) ≡ filter listed (take i xs)
  left_out isn_t = next ∙ ap (λ b. filter listed (take i xs) ++ cond b (x ∷ []) []) isn_t ∙ append-nil (filter listed (take i xs))

module _ {X : Type 0} (listed : X → Bool) (bytes_of : X → List ℕ) (xs : List X) (i : ℕ) (x : X) (below : i < length xs) (is : get_or xs i x ≡ x)
    (text : List ℕ) (before : text ≡ flat_map bytes_of (filter listed (take i xs))) where
  -- Its bytes come last, or nothing does.
  pub printed : listed x ≡ true → text ++ bytes_of x ≡ flat_map bytes_of (filter listed (take (i + 1) xs))
  printed is_listed =
      sym (ap (flat_map bytes_of) (kept listed xs i x below is is_listed) ∙ flat_map-append bytes_of (filter listed (take i xs)) (x ∷ [])
      ∙ ap (λ v. v ++ flat_map bytes_of (x ∷ [])) (sym before) ∙ ap (λ v. text ++ v) (append-nil (bytes_of x)))

  pub passed : listed x ≡ false → text ≡ flat_map bytes_of (filter listed (take (i + 1) xs))
  passed isn_t = before ∙ ap (flat_map bytes_of) (sym (left_out listed xs i x below is isn_t))
