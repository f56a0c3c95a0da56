-- Lists of parts: one is taken out or replaced, the empty ones at the end are dropped, the last one is closed, and places
-- are found.
use Rattle.std.proofs.Common.{◌≡◌, ◌<◌, ℕ, zero, suc, ◌+◌, true, false, List, [], ◌∷◌, ◌++◌, take, drop, length, refl, ap, arith, ◌≤◌, ◌-◌, sym, ◌∙◌, ◌≢◌, Option, Some, None, inl, inr}
use Rattle.std.specs.Prelude.{get_or, slice_set, bytes_eq}
use Rattle.std.proofs.lemmas.List.{set_split, get_or_default}
use Rattle.properties_editing.specs.declared.parts.Part.{Part}
use Rattle.properties_editing.specs.Private.BodyParts.{IsTextWithin, AreTextsWithin, is_empty_part, without_lf, without_lf_first, listed, listed_places}
use Rattle.properties_editing.proofs.PartsLeft.{plus-one}
use Rattle.std.proofs.Math.Seq.{take-suc}
use Rattle.properties_editing.specs.Private.RemovedParts.{before_end, without_empty_end}
use Rattle.properties_editing.specs.Private.ChangedParts.{with_last, last_place}
use Rattle.std.specs.Option.{option_map, option_or}
use Rattle.std.specs.Map.{update}
use Rattle.std.proofs.lemmas.Bool.{cases_Bool, cond-true, cond-false}
use Rattle.std.proofs.lemmas.Slice.Eq.{bytes_eq-Decides}
use Rattle.properties_editing.specs.declared.parts.KeyPlaces.{KeyPlaces}
use Rattle.properties_editing.specs.declared.parts.Places.{Places}

pub within_at : (d : List ℕ) (ps : List Part) (i : ℕ) (p : Part) → AreTextsWithin d ps → i < length ps → IsTextWithin d (get_or ps i p).text
within_at d [] i p h k = absurd (omega arith)
within_at d (s ∷ ss) zero p h k = h.0
within_at d (s ∷ ss) (suc i) p h k = within_at d ss i p h.1 (omega arith)

-- The first part that isn't empty.
pub first_cut : (d : List ℕ) (ps : List Part) (i : ℕ) (p : Part) → i < length ps → is_empty_part (get_or ps i p) ≡ false
    → slice_set ps i (without_lf d (get_or ps i p)) ≡ take i ps ++ without_lf_first d (drop i ps)
first_cut d [] i p k n = absurd (omega arith)
first_cut d (s ∷ ss) zero p k n = rw n refl
first_cut d (s ∷ ss) (suc i) p k n = ap (λ v. s ∷ v) (first_cut d ss i p (omega arith) n)

-- A part is replaced.
set-next : (ps : List Part) (i : ℕ) (q : Part) (xs : List Part) → i < length ps → slice_set (take (suc i) ps ++ xs) i q ≡ take i ps ++ q ∷ xs
set-next [] i q xs k = absurd (omega arith)
set-next (s ∷ ss) zero q xs k = refl
set-next (s ∷ ss) (suc i) q xs k = ap (λ v. s ∷ v) (set-next ss i q xs (omega arith))

pub set_behind : (ps : List Part) (i : ℕ) (q : Part) (xs : List Part) → i < length ps → slice_set (take (i + 1) ps ++ xs) i q ≡ take i ps ++ q ∷ xs
set_behind ps i q xs k = rw (plus-one i) (set-next ps i q xs k)

pub set_alone : (ps : List Part) (i : ℕ) (q : Part) → i < length ps → slice_set ps i q ≡ take i ps ++ q ∷ drop (i + 1) ps
set_alone ps i q k = rw (plus-one i) (set_split ps i q k)

empty-push : (ps : List Part) (p : Part) → is_empty_part p ≡ true → without_empty_end (ps ++ p ∷ []) ≡ without_empty_end ps
empty-push [] p e = rw e refl
empty-push (s ∷ ss) p e = ap (before_end s) (empty-push ss p e)

some-push : (ps : List Part) (p : Part) → is_empty_part p ≡ false → without_empty_end (ps ++ p ∷ []) ≡ ps ++ p ∷ []
some-push [] p n = rw n refl
some-push (s ∷ []) p n = ap (before_end s) (some-push [] p n)
some-push (s ∷ t ∷ ss) p n = ap (before_end s) (some-push (t ∷ ss) p n)

minus-one : (i : ℕ) → suc i - 1 ≡ i
minus-one i = omega arith

-- The last of the first parts is empty,
pub empty_end : (ps : List Part) (n : ℕ) (p : Part) → 0 < n → n ≤ length ps → is_empty_part (get_or ps (n - 1) p) ≡ true
    → without_empty_end (take n ps) ≡ without_empty_end (take (n - 1) ps)
empty_end ps zero p k w e = absurd (omega arith)
empty_end ps (suc i) p k w e =
    rw (minus-one i) (ap without_empty_end (take-suc ps i p w) ∙ empty-push (take i ps) (get_or ps i p) (rw (minus-one i) at e))

-- or it isn't.
pub some_end : (ps : List Part) (n : ℕ) (p : Part) → 0 < n → n ≤ length ps → is_empty_part (get_or ps (n - 1) p) ≡ false
    → without_empty_end (take n ps) ≡ take n ps
some_end ps zero p k w e = absurd (omega arith)
some_end ps (suc i) p k w e =
    ap without_empty_end (take-suc ps i p w) ∙ some-push (take i ps) (get_or ps i p) (rw (minus-one i) at e) ∙ sym (take-suc ps i p w)

-- ---- another last part

pub set_in_end : (ps : List Part) (n : ℕ) (p : Part) → 0 < n → n ≡ length ps → slice_set ps (n - 1) p ≡ with_last (Some p) ps
set_in_end [] n p some is = absurd (omega arith)
set_in_end (q ∷ []) n p some is = let z : n - 1 ≡ 0 = omega arith in ap (λ i. slice_set (q ∷ []) i p) z
set_in_end (q ∷ r ∷ qs) n p some is =
    let next : n - 1 ≡ suc ((n - 1) - 1) = omega arith in
    ap (λ i. slice_set (q ∷ r ∷ qs) i p) next ∙ ap (λ v. q ∷ v) (set_in_end (r ∷ qs) (n - 1) p (omega arith) (omega arith))

pub none_in_end : (ps : List Part) (p : Option Part) → length ps ≡ 0 → ps ≡ with_last p ps
none_in_end [] None is = refl
none_in_end [] (Some p) is = refl
none_in_end (q ∷ qs) p is = absurd (omega arith)

-- The part in the last place.
pub in-end : (ps : List Part) (n : ℕ) (p q : Part) → n ≢ 0 → n ≡ length ps
    → (0 < length ps) × (get_or ps (n - 1) p ≡ get_or ps (length ps - 1) q)
in-end [] n p q some is = absurd (some is)
in-end (r ∷ ps) n p q some is =
    let end : n - 1 ≡ length ps = omega arith in
    let same : suc (length ps) - 1 ≡ length ps = omega arith in
    (omega arith, ap (λ i. get_or (r ∷ ps) i p) end ∙ get_or_default (r ∷ ps) (length ps) p q (omega arith) ∙ sym (ap (λ i. get_or (r ∷ ps) i q) same))

pub last_pushed : (xs : List ℕ) (i : ℕ) → last_place (xs ++ i ∷ []) ≡ Some i
last_pushed [] i = refl
last_pushed (x ∷ xs) i = ap (λ o. option_or o (Some x)) (last_pushed xs i)

-- Without a last place there is none.
pub no-last : (p : KeyPlaces) → last_place (listed_places p) ≡ None → p.places ≡ None
no-last p none = of-places p.places none
  where
    of-places : (o : Option Places) → last_place (listed o) ≡ None → o ≡ None
    of-places None q = refl
    of-places (Some a) q = let t : Some a.last ≡ None = sym (last_pushed a.earlier.items a.last) ∙ q in absurd (cc)

-- ---- what is stored, after a change of one key

-- Where a key isn't stored, nothing changes.
pub none-changed : {X : Type 0} (f : List ℕ → Option X) (key : List ℕ) (g : X → X) (k : List ℕ) → f key ≡ None
    → f k ≡ update bytes_eq f key (option_map g (f key)) k
none-changed f key g k none = elim (cases_Bool (bytes_eq key k)) [
  | inl b ↦
      ap f (sym ((bytes_eq-Decides key k).0 b)) ∙ none ∙ sym (ap (option_map g) none)
      ∙ sym (cond-true (bytes_eq key k) (option_map g (f key)) (f k) b)
  | inr b ↦ sym (cond-false (bytes_eq key k) (option_map g (f key)) (f k) b)
]
