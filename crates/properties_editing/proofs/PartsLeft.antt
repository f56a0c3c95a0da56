-- Parts that are left after the pairs with a key went: they stay in their places and their texts within the body; and the
-- empty ones at the front.
use Rattle.std.proofs.Common.{◌≡◌, ◌≢◌, ◌<◌, ◌==◌, ℕ, zero, suc, ◌+◌, List, [], ◌∷◌, ◌++◌, Option, Some, None, length, take, drop, refl, ap, ◌∙◌, inl, inr, length-append, arith, ◌≤◌, Bool, true, false, sym, subst}
use Rattle.std.specs.Prelude.{get_or}
use Rattle.std.proofs.lemmas.Bool.{cases_Bool}
use Rattle.std.proofs.lemmas.Bool.Decides.{nat_tests}
use Rattle.properties_items.specs.declared.line.LineEnding as declared
use Rattle.properties_items.specs.declared.line.LineEnding.TheVariants.{CR, LF, CRLF}
use Rattle.properties_editing.specs.Private.BodyParts.{AreTextsWithin, IsTextWithin, all_places, cut_text, begins_so, is_empty_part, no_part, parts_behind, taken_all, taken_out, without_lf_first, part_text_bytes}
use Rattle.properties_editing.specs.Private.RemovedParts.{AreBelow, RemovesPairs, before_end, key_places, without_empty_end}
use Rattle.properties_editing.specs.declared.parts.PartText.{PartText}
use Rattle.properties_editing.specs.declared.parts.PartText.TheVariants as text
use Rattle.properties_editing.specs.declared.parts.Part.{Part}
use Rattle.properties_editing.specs.declared.parts.Places.{Places}
use Rattle.properties_editing.specs.declared.parts.Parts.{Parts}
use Rattle.properties_editing.specs.Private.SourceParts.{empty_front, first_text}

-- ---- texts stay within the body, and parts in their places

within-append : (d : List ℕ) (ps qs : List Part) → AreTextsWithin d ps → AreTextsWithin d qs → AreTextsWithin d (ps ++ qs)
within-append d [] qs h k = k
within-append d (p ∷ ps) qs h k = (h.0, within-append d ps qs h.1 k)

within-take : (d : List ℕ) (i : ℕ) (ps : List Part) → AreTextsWithin d ps → AreTextsWithin d (take i ps)
within-take d zero ps h = tt
within-take d (suc i) [] h = tt
within-take d (suc i) (p ∷ ps) h = (h.0, within-take d i ps h.1)

within-drop : (d : List ℕ) (i : ℕ) (ps : List Part) → AreTextsWithin d ps → AreTextsWithin d (drop i ps)
within-drop d zero ps h = h
within-drop d (suc i) [] h = tt
within-drop d (suc i) (p ∷ ps) h = within-drop d i ps h.1

within-cut : (d : List ℕ) (t : PartText) → IsTextWithin d t → IsTextWithin d (cut_text d t)
within-cut d (text.Own v) h = tt
within-cut d (text.Span s) h = elim (cases_Bool (s.start == s.end)) [
  | inl q ↦ rw q h
  | inr q ↦
      let n : s.start < s.end = grind (arith, nat_tests) in
      elim (cases_Bool (begins_so d s)) [ inl b ↦ rw b (n, h.1) | inr b ↦ rw b h ]
]

within-first : (d : List ℕ) (ps : List Part) → AreTextsWithin d ps → AreTextsWithin d (without_lf_first d ps)
within-first d [] h = tt
within-first d (p ∷ ps) h = elim (cases_Bool (is_empty_part p)) [
  | inl e ↦ rw e (h.0, within-first d ps h.1)
  | inr e ↦ rw e (within-cut d p.text h.0, h.1)
]

first-length : (d : List ℕ) (ps : List Part) → length (without_lf_first d ps) ≡ length ps
first-length d [] = refl
first-length d (p ∷ ps) = elim (cases_Bool (is_empty_part p)) [ inl e ↦ rw e (ap suc (first-length d ps)) | inr e ↦ rw e refl ]

within-behind : (d : List ℕ) (o : Option declared.LineEnding) (ps : List Part) → AreTextsWithin d ps → AreTextsWithin d (parts_behind d o ps)
within-behind d None ps h = h
within-behind d (Some CR) ps h = within-first d ps h
within-behind d (Some LF) ps h = h
within-behind d (Some CRLF) ps h = h

behind-length : (d : List ℕ) (o : Option declared.LineEnding) (ps : List Part) → length (parts_behind d o ps) ≡ length ps
behind-length d None ps = refl
behind-length d (Some CR) ps = first-length d ps
behind-length d (Some LF) ps = refl
behind-length d (Some CRLF) ps = refl

pub within_taken : (d : List ℕ) (i : ℕ) (ps : List Part) → AreTextsWithin d ps → AreTextsWithin d (taken_out d i ps)
within_taken d i ps h =
    within-append d (take i ps) _ (within-take d i ps h)
    (((omega arith), (omega arith)), within-behind d (get_or ps i no_part).ending (drop (i + 1) ps) (within-drop d (i + 1) ps h))

split-length : (i : ℕ) (ps : List Part) → i < length ps → length (take i ps) + suc (length (drop (suc i) ps)) ≡ length ps
split-length i [] k = absurd (omega arith)
split-length zero (p ∷ ps) k = omega arith
split-length (suc i) (p ∷ ps) k = let m = split-length i ps (omega arith) in omega arith

pub plus-one : (i : ℕ) → i + 1 ≡ suc i
plus-one i = omega arith

pub taken_length : (d : List ℕ) (i : ℕ) (ps : List Part) → i < length ps → length (taken_out d i ps) ≡ length ps
taken_length d i ps k =
    let o = (get_or ps i no_part).ending in
    length-append (take i ps) (no_part ∷ parts_behind d o (drop (i + 1) ps))
    ∙ ap (λ n. length (take i ps) + suc n) (behind-length d o (drop (i + 1) ps))
    ∙ ap (λ n. length (take i ps) + suc (length (drop n ps))) (plus-one i) ∙ split-length i ps k

-- Parts are taken out, one after another, and those in these places are left to take out.
pub record IsTaking (d : List ℕ) (places : List ℕ) (ps : List Part) (left : List ℕ) (now : List Part) : Type 0 where
  pub within : AreTextsWithin d now
  pub below : AreBelow (length now) left
  pub same : taken_all d left now ≡ taken_all d places ps

pub taking-next : (d : List ℕ) (places : List ℕ) (ps : List Part) (i : ℕ) (left : List ℕ) (now : List Part)
    → IsTaking d places ps (i ∷ left) now → IsTaking d places ps left (taken_out d i now)
taking-next d places ps i left now t = record {
  within = within_taken d i now t.within;
  below = rw (taken_length d i now t.below.0) t.below.1;
  same = t.same;
}

-- ---- whether there are places

pub have-places : (p : Places) → all_places p ≢ []
have-places p none = of-list p.earlier.items none
  where
    of-list : (xs : List ℕ) → xs ++ p.last ∷ [] ≢ []
    of-list [] q = cc
    of-list (x ∷ xs) q = cc

-- Parts that were counted are in front of the others.
pub front_from : (ps : List Part) (i : ℕ) → i ≤ empty_front ps → empty_front ps ≡ i + empty_front (drop i ps)
front_from ps zero k = omega arith
front_from [] (suc i) k = absurd (omega arith)
front_from (p ∷ ps) (suc i) k = elim (cases_Bool (is_empty_part p)) [
  | inl e ↦ let m = front_from ps i (let h = rw e at k in omega arith) in rw e (omega arith)
  | inr e ↦ let h = rw e at k in absurd (omega arith)
]

-- One more is empty,
pub front_next : (ps : List Part) (i : ℕ) (p : Part) → i < length ps → is_empty_part (get_or ps i p) ≡ true
    → i + empty_front (drop i ps) ≡ (i + 1) + empty_front (drop (i + 1) ps)
front_next [] i p k e = absurd (omega arith)
front_next (s ∷ ss) zero p k e = rw e (omega arith)
front_next (s ∷ ss) (suc i) p k e =
    let m = front_next ss i p (omega arith) e in
    let same : (suc i + 1) ≡ suc (i + 1) = omega arith in
    rw same (omega arith)

-- or it isn't, and its text comes first.
pub front_ends : (ps : List Part) (i : ℕ) (p : Part) → i < length ps → is_empty_part (get_or ps i p) ≡ false → i + empty_front (drop i ps) ≡ i
front_ends [] i p k e = absurd (omega arith)
front_ends (s ∷ ss) zero p k e = rw e refl
front_ends (s ∷ ss) (suc i) p k e = let m = front_ends ss i p (omega arith) e in omega arith

pub front_all : (ps : List Part) → length ps + empty_front (drop (length ps) ps) ≡ length ps
front_all [] = refl
front_all (p ∷ ps) = let m = front_all ps in omega arith

-- ---- the text that comes first

pub front_text : (d : List ℕ) (ps : List Part) (p : Part) → empty_front ps < length ps → first_text d ps ≡ part_text_bytes d (get_or ps (empty_front ps) p).text
front_text d [] p k = absurd (omega arith)
front_text d (s ∷ ss) p k = elim (cases_Bool (is_empty_part s)) [
  | inl e ↦ let h = rw e at k in rw e (front_text d ss p (omega arith))
  | inr e ↦ rw e refl
]

pub front_none : (d : List ℕ) (ps : List Part) → length ps ≤ empty_front ps → first_text d ps ≡ []
front_none d [] k = refl
front_none d (s ∷ ss) k = elim (cases_Bool (is_empty_part s)) [
  | inl e ↦ let h = rw e at k in rw e (front_none d ss (omega arith))
  | inr e ↦ let h = rw e at k in absurd (omega arith)
]

-- ---- texts after a removal

within-before : (d : List ℕ) (p : Part) (ps : List Part) → IsTextWithin d p.text → AreTextsWithin d ps → AreTextsWithin d (before_end p ps)
within-before d p (s ∷ ss) h k = (h, k)
within-before d p [] h k = elim (cases_Bool (is_empty_part p)) [ inl e ↦ rw e tt | inr e ↦ rw e (h, tt) ]

within-end : (d : List ℕ) (ps : List Part) → AreTextsWithin d ps → AreTextsWithin d (without_empty_end ps)
within-end d [] h = tt
within-end d (p ∷ ps) h = within-before d p (without_empty_end ps) h.0 (within-end d ps h.1)

within-all : (d : List ℕ) (is : List ℕ) (ps : List Part) → AreTextsWithin d ps → AreTextsWithin d (taken_all d is ps)
within-all d [] ps h = h
within-all d (i ∷ is) ps h = within-all d is (taken_out d i ps) (within_taken d i ps h)

-- After the pairs with a key went, the texts are in the body.
pub removed-within : (d key : List ℕ) (old new : Parts) (told : Bool) → AreTextsWithin d old.parts.items → RemovesPairs d key old told new
    → AreTextsWithin d new.parts.items
removed-within d key old new true w r =
    let is = key_places old key in subst (AreTextsWithin d) (sym r.1.1.items) (within-end d (taken_all d is old.parts.items) (within-all d is old.parts.items w))
removed-within d key old new false w r = subst (λ v. AreTextsWithin d v.items) (sym r.1.parts) w
