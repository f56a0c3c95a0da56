-- What bounds say of parts stays after edits.
use Rattle.std.proofs.Common.{◌≡◌, ◌<◌, ◌≤◌, ◌-◌, ◌+◌, ℕ, zero, suc, Bool, true, false, List, [], ◌∷◌, ◌++◌, Option, Some, None, take, drop, length, length-append, refl, ap, sym, ◌∙◌, subst, inl, inr, arith}
use Rattle.std.specs.Prelude.{get_or, min}
use Rattle.std.specs.Global.{Vec}
use Rattle.std.proofs.Math.Nat.{eq-or-lt_of_le}
use Rattle.std.proofs.Math.Seq.{take-length}
use Rattle.std.proofs.lemmas.Bool.{cases_Bool, cases_lt}
use Rattle.std.proofs.lemmas.List.{get_or_append_left, get_or_default, get_or_past}
use Rattle.properties_items.specs.declared.line.LineEnding as declared
use Rattle.properties_items.specs.declared.line.LineEnding.TheVariants.{CR, LF, CRLF}
use Rattle.properties_editing.specs.declared.groups.Closing.{Closing}
use Rattle.properties_editing.specs.declared.parts.Bounds.{Bounds}
use Rattle.properties_editing.specs.declared.parts.PartKind.{PartKind}
use Rattle.properties_editing.specs.declared.parts.PartKind.TheVariants as kind
use Rattle.properties_editing.specs.declared.parts.Part.{Part}
use Rattle.properties_editing.specs.declared.parts.Parts.{Parts}
use Rattle.properties_editing.specs.Private.BodyParts.{is_empty_part, no_part, parts_behind, taken_all, taken_out, without_lf, without_lf_first}
use Rattle.properties_editing.specs.Private.ChangedParts.{ClosesLast, ClosesPart, HasAdded, closed_as, part_with_bytes, with_last}
use Rattle.properties_editing.specs.Private.PartBounds.{AreBounds, AreEmpty, ArePlainFrom, IsPairless, HaveNoPair, IsWithoutLf}
use Rattle.properties_editing.specs.Private.PartEndings.{kind_pair, last_some, part_pair}
use Rattle.properties_editing.specs.Private.RemovedParts.{RemovesPairs, before_end, key_places, without_empty_end}
use Rattle.properties_editing.specs.Private.SourceParts.{empty_front}
use Rattle.properties_editing.proofs.PartEndings.{last-passed}
use Rattle.properties_editing.proofs.PartsLeft.{plus-one}

-- ---- pairs that went

-- A part that is left in the place of another. If the one has no LF at its front, no pair, or no bytes, nor has the other.
record Leaves (d : List ℕ) (p q : Part) : Type 0 where
  plain : IsWithoutLf d p → IsWithoutLf d q
  none : IsPairless p → IsPairless q
  empty : is_empty_part p ≡ true → is_empty_part q ≡ true

abbrev LeavesAll : List ℕ → List Part → List Part → Type 0
LeavesAll d ps qs = (i : ℕ) → Leaves d (get_or ps i no_part) (get_or qs i no_part)

same : (d : List ℕ) (p : Part) → Leaves d p p
same d p = record { plain = λ h. h; none = λ h. h; empty = λ h. h }

gone : (d : List ℕ) (p : Part) → Leaves d p no_part
gone d p = record { plain = λ h. refl; none = λ h. refl; empty = λ h. refl }

both : {d : List ℕ} {p q r : Part} → Leaves d p q → Leaves d q r → Leaves d p r
both m n = record { plain = λ h. n.plain (m.plain h); none = λ h. n.none (m.none h); empty = λ h. n.empty (m.empty h) }

leaves-first : (d : List ℕ) (ps : List Part) → LeavesAll d ps (without_lf_first d ps)
leaves-first d [] i = same d no_part
leaves-first d (p ∷ ps) zero = elim (cases_Bool (is_empty_part p)) [
  | inl e ↦ rw e (same d p)
  | inr e ↦ rw e (record { plain = λ h. ap (without_lf d) h; none = λ h. h; empty = λ h. absurd (cc) })
]
leaves-first d (p ∷ ps) (suc i) = elim (cases_Bool (is_empty_part p)) [
  | inl e ↦ rw e (leaves-first d ps i)
  | inr e ↦ rw e (same d (get_or ps i no_part))
]

leaves-behind : (d : List ℕ) (o : Option declared.LineEnding) (ps : List Part) → LeavesAll d ps (parts_behind d o ps)
leaves-behind d None ps i = same d (get_or ps i no_part)
leaves-behind d (Some CR) ps i = leaves-first d ps i
leaves-behind d (Some LF) ps i = same d (get_or ps i no_part)
leaves-behind d (Some CRLF) ps i = same d (get_or ps i no_part)

-- One part is another, and those behind it are others.
around : (P : Part → Part → Type 0) → ((p : Part) → P p p) → (j : ℕ) (ps : List Part) (q : Part) (qs : List Part) → P (get_or ps j no_part) q
    → ((i : ℕ) → P (get_or (drop (suc j) ps) i no_part) (get_or qs i no_part)) → (i : ℕ) → P (get_or ps i no_part) (get_or (take j ps ++ q ∷ qs) i no_part)
around P same j [] q qs this behind i = of-front j i this behind
  where
    of-front : (j i : ℕ) → P no_part q → ((i : ℕ) → P (get_or (drop (suc j) []) i no_part) (get_or qs i no_part))
        → P no_part (get_or (take j [] ++ q ∷ qs) i no_part)
    of-front zero zero this behind = this
    of-front zero (suc i) this behind = behind i
    of-front (suc j) zero this behind = this
    of-front (suc j) (suc i) this behind = behind i
around P same zero (p ∷ ps) q qs this behind zero = this
around P same zero (p ∷ ps) q qs this behind (suc i) = behind i
around P same (suc j) (p ∷ ps) q qs this behind zero = same p
around P same (suc j) (p ∷ ps) q qs this behind (suc i) = around P same j ps q qs this behind i

leaves-taken : (d : List ℕ) (j : ℕ) (ps : List Part) → LeavesAll d ps (taken_out d j ps)
leaves-taken d j ps =
    let o = (get_or ps j no_part).ending in
    let rest = parts_behind d o (drop (suc j) ps) in
    rw (plus-one j) (around (Leaves d) (same d) j ps no_part rest (gone d (get_or ps j no_part)) (leaves-behind d o (drop (suc j) ps)))

leaves-all : (d : List ℕ) (is : List ℕ) (ps : List Part) → LeavesAll d ps (taken_all d is ps)
leaves-all d [] ps i = same d (get_or ps i no_part)
leaves-all d (j ∷ is) ps i = both (leaves-taken d j ps i) (leaves-all d is (taken_out d j ps) i)

leaves-before : (d : List ℕ) (p : Part) (ps w : List Part) → LeavesAll d ps w → LeavesAll d (p ∷ ps) (before_end p w)
leaves-before d p ps (q ∷ w) k zero = same d p
leaves-before d p ps (q ∷ w) k (suc i) = k i
leaves-before d p ps [] k zero = elim (cases_Bool (is_empty_part p)) [ inl e ↦ rw e (gone d p) | inr e ↦ rw e (same d p) ]
leaves-before d p ps [] k (suc i) =
    let g = gone d (get_or ps i no_part) in elim (cases_Bool (is_empty_part p)) [ inl e ↦ rw e g | inr e ↦ rw e g ]

leaves-trimmed : (d : List ℕ) (ps : List Part) → LeavesAll d ps (without_empty_end ps)
leaves-trimmed d [] i = same d no_part
leaves-trimmed d (p ∷ ps) i = leaves-before d p ps (without_empty_end ps) (leaves-trimmed d ps) i

leaves-removed : (d key : List ℕ) (old new : Parts) (told : Bool) → RemovesPairs d key old told new → LeavesAll d old.parts.items new.parts.items
leaves-removed d key old new false r = subst (λ v. LeavesAll d old.parts.items v.items) (sym r.1.parts) (λ i. same d (get_or old.parts.items i no_part))
leaves-removed d key old new true r =
    let ps = old.parts.items in
    let is = key_places old key in
    subst (LeavesAll d ps) (sym r.1.1.items) (λ i. both (leaves-all d is ps i) (leaves-trimmed d (taken_all d is ps) i))

pub plain-taken : (d : List ℕ) (n i : ℕ) (ps : List Part) → ArePlainFrom d n ps → ArePlainFrom d n (taken_out d i ps)
plain-taken d n i ps h = λ k from. (leaves-taken d i ps k).plain (h k from)

pub plain-removed : (d key : List ℕ) (n : ℕ) (old new : Parts) (told : Bool) → RemovesPairs d key old told new
    → ArePlainFrom d n old.parts.items → ArePlainFrom d n new.parts.items
plain-removed d key n old new told r h = λ i from. (leaves-removed d key old new told r i).plain (h i from)

pub none-removed : (d key : List ℕ) (n end : ℕ) (old new : Parts) (told : Bool) → RemovesPairs d key old told new
    → HaveNoPair n end old.parts.items → HaveNoPair n end new.parts.items
none-removed d key n end old new told r h = λ i from before. (leaves-removed d key old new told r i).none (h i from before)

pub empty_taken : (d : List ℕ) (n end i : ℕ) (ps : List Part) → AreEmpty n end ps → AreEmpty n end (taken_out d i ps)
empty_taken d n end i ps h = λ k from before. (leaves-taken d i ps k).empty (h k from before)

-- The part that went is empty too.
pub empty_from : (d : List ℕ) (i end : ℕ) (ps : List Part) → i < length ps → AreEmpty (i + 1) end ps → AreEmpty i end (taken_out d i ps)
empty_from d i end ps inside h = λ k from before. elim (eq-or-lt_of_le from) [
  | inl at ↦ subst (λ n. is_empty_part (get_or (taken_out d i ps) n no_part) ≡ true) at (ap is_empty_part (at-gone i ps _ inside))
  | inr behind ↦ empty_taken d (i + 1) end i ps h k (omega arith) before
]
  where
    at-gone : (i : ℕ) (ps qs : List Part) → i < length ps → get_or (take i ps ++ no_part ∷ qs) i no_part ≡ no_part
    at-gone i [] qs k = absurd (omega arith)
    at-gone zero (p ∷ ps) qs k = refl
    at-gone (suc i) (p ∷ ps) qs k = at-gone i ps qs (omega arith)

pub empty-trimmed : (d : List ℕ) (n end : ℕ) (ps : List Part) → AreEmpty n end ps → AreEmpty n end (without_empty_end ps)
empty-trimmed d n end ps h = λ i from before. (leaves-trimmed d ps i).empty (h i from before)

pub empty-removed : (d key : List ℕ) (n end : ℕ) (old new : Parts) (told : Bool) → RemovesPairs d key old told new
    → AreEmpty n end old.parts.items → AreEmpty n end new.parts.items
empty-removed d key n end old new told r h = λ i from before. (leaves-removed d key old new told r i).empty (h i from before)

-- Parts at the front that were empty still are.
front-left : (d : List ℕ) (ps qs : List Part) → LeavesAll d ps qs → min (empty_front ps) (length qs) ≤ empty_front qs
front-left d [] qs k = omega arith
front-left d (p ∷ ps) [] k = omega arith
front-left d (p ∷ ps) (q ∷ qs) k = elim (cases_Bool (is_empty_part p)) [
  | inl e ↦ let m = front-left d ps qs (λ i. k (suc i)) in let f = (k zero).empty e in rw (e, f) (omega arith)
  | inr e ↦ rw e (omega arith)
]

pub front-removed : (d key : List ℕ) (old new : Parts) (told : Bool) → RemovesPairs d key old told new
    → min (empty_front old.parts.items) (length new.parts.items) ≤ empty_front new.parts.items
front-removed d key old new told r = front-left d old.parts.items new.parts.items (leaves-removed d key old new told r)

-- ---- a part that got other bytes

-- A part in the place of another. If the one has no LF at its front, or no pair, nor has the other.
record Keeps (d : List ℕ) (p q : Part) : Type 0 where
  plain : IsWithoutLf d p → IsWithoutLf d q
  none : IsPairless p → IsPairless q

abbrev KeepAll : List ℕ → List Part → List Part → Type 0
KeepAll d ps qs = (i : ℕ) → Keeps d (get_or ps i no_part) (get_or qs i no_part)

-- Where parts were empty, but for the last one, these are.
abbrev KeepEmpty : List Part → List Part → Type 0
KeepEmpty ps qs = (i : ℕ) → suc i < length ps → is_empty_part (get_or ps i no_part) ≡ true → is_empty_part (get_or qs i no_part) ≡ true

kept : (d : List ℕ) (p : Part) → Keeps d p p
kept d p = record { plain = λ h. h; none = λ h. h }

keep-set : (d : List ℕ) (bytes : Vec ℕ) (j : ℕ) (ps : List Part) → KeepAll d ps (take j ps ++ part_with_bytes bytes (get_or ps j no_part) ∷ drop (suc j) ps)
keep-set d bytes j ps =
    around (Keeps d) (kept d) j ps (part_with_bytes bytes (get_or ps j no_part)) (drop (suc j) ps) (record { plain = λ h. refl; none = λ h. h })
    (λ i. kept d (get_or (drop (suc j) ps) i no_part))

-- If the part wasn't empty, those that are still are.
empty-set : (bytes : Vec ℕ) (j : ℕ) (ps : List Part) → is_empty_part (get_or ps j no_part) ≡ false
    → KeepEmpty ps (take j ps ++ part_with_bytes bytes (get_or ps j no_part) ∷ drop (suc j) ps)
empty-set bytes j ps full i inside =
    around (λ p q. is_empty_part p ≡ true → is_empty_part q ≡ true) (λ p h. h) j ps (part_with_bytes bytes (get_or ps j no_part)) (drop (suc j) ps)
    (λ h. absurd (cc)) (λ i h. h) i

set-length : (j : ℕ) (q : Part) (ps : List Part) → length ps ≤ length (take j ps ++ q ∷ drop (suc j) ps)
set-length j q [] = omega arith
set-length zero q (p ∷ ps) = omega arith
set-length (suc j) q (p ∷ ps) = let m = set-length j q ps in omega arith

-- Bounds of parts are bounds of these.
bounds-kept : (d : List ℕ) (b : Bounds) (ps qs : List Part) → KeepAll d ps qs → KeepEmpty ps qs → length ps ≤ length qs → AreBounds d b ps
    → AreBounds d b qs
bounds-kept d b ps qs k e more h =
    let w = h.1.within in
    let v = h.1.gone_within in (
      λ i from. (k i).plain (h.0 i from),
      record {
        none = λ i from before. (k i).none (h.1.none i from before);
        ordered = h.1.ordered;
        within = omega arith;
        empty = λ i from before. e i (omega arith) (h.1.empty i from before);
        gone = λ i from before. e i (omega arith) (h.1.gone i from before);
        gone_within = omega arith;
      },
    )

pub bounds-set : (d : List ℕ) (b : Bounds) (place : ℕ) (bytes : Vec ℕ) (ps qs : List Part) → is_empty_part (get_or ps place no_part) ≡ false
    → qs ≡ take place ps ++ part_with_bytes bytes (get_or ps place no_part) ∷ drop (suc place) ps → AreBounds d b ps → AreBounds d b qs
bounds-set d b place bytes ps qs full is h =
    let p = part_with_bytes bytes (get_or ps place no_part) in
    subst (AreBounds d b) (sym is) (bounds-kept d b ps _ (keep-set d bytes place ps) (empty-set bytes place ps full) (set-length place p ps) h)

-- ---- a part that is added

keep-last : (d : List ℕ) (p : Part) (ps : List Part) → Keeps d (get_or ps (length ps - 1) no_part) p → KeepAll d ps (with_last (Some p) ps)
keep-last d p [] k i = kept d no_part
keep-last d p (q ∷ []) k zero = k
keep-last d p (q ∷ []) k (suc i) = kept d no_part
keep-last d p (q ∷ r ∷ qs) k zero = kept d q
keep-last d p (q ∷ r ∷ qs) k (suc i) =
    let n : length (q ∷ r ∷ qs) - 1 ≡ suc (length (r ∷ qs) - 1) = omega arith in
    keep-last d p (r ∷ qs) (subst (λ n. Keeps d (get_or (q ∷ r ∷ qs) n no_part) p) n k) i

empty-last : (p : Part) (ps : List Part) → KeepEmpty ps (with_last (Some p) ps)
empty-last p [] i inside h = absurd (omega arith)
empty-last p (q ∷ []) i inside h = absurd (omega arith)
empty-last p (q ∷ r ∷ qs) zero inside h = h
empty-last p (q ∷ r ∷ qs) (suc i) inside h = empty-last p (r ∷ qs) i (omega arith) h

last-length : (p : Part) (ps : List Part) → length (with_last (Some p) ps) ≡ length ps
last-length p [] = refl
last-length p (q ∷ []) = refl
last-length p (q ∷ r ∷ qs) = ap suc (last-length p (r ∷ qs))

keep-closed : (d opened : List ℕ) (by : declared.LineEnding) (p q : Part) → ClosesPart d opened by p q → Keeps d p q
keep-closed d opened by p q c = subst (Keeps d p) (sym c.part) (record { plain = λ h. plain-as p.kind; none = λ h. rw h refl })
  where
    plain-as : (k : PartKind) → IsWithoutLf d (closed_as c.bytes by k)
    plain-as kind.Pair = refl
    plain-as (kind.Others last) = refl

bounds-closed : (d : List ℕ) (b : Bounds) (by : declared.LineEnding) (closing : Closing) (ps : List Part) (closed : Option Part) → ClosesLast d by closing ps closed → AreBounds d b ps
    → AreBounds d b (with_last closed ps)
bounds-closed d b by closing ps None c h = h
bounds-closed d b by closing ps (Some p) c h =
    bounds-kept d b ps (with_last (Some p) ps) (keep-last d p ps (keep-closed d _ by _ p c.2)) (empty-last p ps) (let m = last-length p ps in omega arith) h

at-push : (d : List ℕ) (q : Part) → IsWithoutLf d q → (ps : List Part) (i : ℕ) → IsWithoutLf d (get_or ps i no_part) → IsWithoutLf d (get_or (ps ++ q ∷ []) i no_part)
at-push d q is [] zero h = is
at-push d q is [] (suc i) h = refl
at-push d q is (p ∷ ps) zero h = h
at-push d q is (p ∷ ps) (suc i) h = at-push d q is ps i h

bounds-push : (d : List ℕ) (b : Bounds) (ps : List Part) (q : Part) → IsWithoutLf d q → AreBounds d b ps → AreBounds d b (ps ++ q ∷ [])
bounds-push d b ps q is h = (
  λ i from. at-push d q is ps i (h.0 i from),
  record {
    none = λ i from before.
        let n : i < length ps = (let w = h.1.within in omega arith) in
        subst IsPairless (sym (get_or_append_left ps (q ∷ []) no_part i n)) (h.1.none i from before);
    ordered = h.1.ordered;
    within = (let w = h.1.within in let m = length-append ps (q ∷ []) in omega arith);
    empty = λ i from before. still i (let w = h.1.within in omega arith) (h.1.empty i from before);
    gone = λ i from before. still i (let w = h.1.gone_within in omega arith) (h.1.gone i from before);
    gone_within = (let w = h.1.gone_within in let m = length-append ps (q ∷ []) in omega arith);
  },
)
  where
    still : (i : ℕ) → i < length ps → is_empty_part (get_or ps i no_part) ≡ true → is_empty_part (get_or (ps ++ q ∷ []) i no_part) ≡ true
    still i n e = ap is_empty_part (get_or_append_left ps (q ∷ []) no_part i n) ∙ e

pub bounds-added : (d key value : List ℕ) (b : Bounds) (by ending : declared.LineEnding) (bytes : Vec ℕ) (old new : Parts)
    → HasAdded d key value by bytes ending old new → AreBounds d b old.parts.items → AreBounds d b new.parts.items
bounds-added d key value b by ending bytes old new a h =
    subst (AreBounds d b) (sym a.parts)
    (bounds-push d b (with_last a.closed old.parts.items) _ refl (bounds-closed d b by old.closing old.parts.items a.closed a.closes h))

-- ---- parts that are passed over

-- From a place on where none has an LF at its front, nothing changes.
pub plain-rest : (d : List ℕ) (n m : ℕ) (ps : List Part) → ArePlainFrom d n ps → min n (length ps) ≤ m
    → take m ps ++ without_lf_first d (drop m ps) ≡ ps
plain-rest d n m [] h k = nil m
  where
    nil : (m : ℕ) → take m [] ++ without_lf_first d (drop m []) ≡ []
    nil zero = refl
    nil (suc m) = refl
plain-rest d n (suc m) (p ∷ ps) h k = ap (λ v. p ∷ v) (plain-rest d (n - 1) m ps (λ i from. h (suc i) (omega arith)) (omega arith))
plain-rest d n zero (p ∷ ps) h k = elim (cases_Bool (is_empty_part p)) [
  | inl e ↦ rw e (ap (λ v. p ∷ v) (plain-rest d n zero ps (λ i from. h (suc i) (omega arith)) (omega arith)))
  | inr e ↦ rw e (ap (λ v. v ∷ ps) (h zero (omega arith)))
]

-- Where none has a pair, the last pair is in front.
pub none-behind : (d : List ℕ) (n : ℕ) (ps : List Part) → n ≤ length ps → HaveNoPair n (length ps) ps
    → last_some (part_pair d) ps ≡ last_some (part_pair d) (take n ps)
none-behind d n ps within h =
    sym (last-passed (part_pair d) n (length ps) ps within (λ i from before. ap (kind_pair d (get_or ps i no_part)) (h i from before))
    ∙ ap (last_some (part_pair d)) (take-length ps))

-- Empty parts are passed over.
pub empty_passed : (d : List ℕ) (n m : ℕ) (ps : List Part) → n ≤ m → AreEmpty n m ps
    → take n ps ++ without_lf_first d (drop n ps) ≡ take m ps ++ without_lf_first d (drop m ps)
empty_passed d n m [] k h = nil n ∙ sym (nil m)
  where
    nil : (n : ℕ) → take n [] ++ without_lf_first d (drop n []) ≡ []
    nil zero = refl
    nil (suc n) = refl
empty_passed d zero zero (p ∷ ps) k h = refl
empty_passed d (suc n) zero (p ∷ ps) k h = absurd (omega arith)
empty_passed d (suc n) (suc m) (p ∷ ps) k h =
    ap (λ v. p ∷ v) (empty_passed d n m ps (omega arith) (λ i from before. h (suc i) (omega arith) (omega arith)))
empty_passed d zero (suc m) (p ∷ ps) k h =
    let e = h zero (omega arith) (omega arith) in
    rw e (ap (λ v. p ∷ v) (empty_passed d zero m ps (omega arith) (λ i from before. h (suc i) (omega arith) (omega arith))))

-- ---- bounds that are made narrower

-- Behind the parts there is nothing.
pub plain-within : (d : List ℕ) (n m : ℕ) (ps : List Part) → ArePlainFrom d n ps → min n (length ps) ≤ m → ArePlainFrom d m ps
plain-within d n m ps h k = λ i from. elim (cases_lt i (length ps)) [
  | inl inside ↦ h i (omega arith)
  | inr past ↦ rw (get_or_past ps i no_part past) refl
]

-- One part more.
pub plain-before : (d : List ℕ) (n : ℕ) (ps : List Part) (p : Part) → 0 < n → n ≤ length ps → p ≡ get_or ps (n - 1) p → IsWithoutLf d p → ArePlainFrom d n ps
    → ArePlainFrom d (n - 1) ps
plain-before d n ps p some within is one h = λ i from. elim (eq-or-lt_of_le from) [
  | inl at ↦ subst (IsWithoutLf d) (is ∙ get_or_default ps (n - 1) p no_part (omega arith) ∙ ap (λ k. get_or ps k no_part) at) one
  | inr behind ↦ h i (omega arith)
]

pub all-before : (P : Part → Type 0) (n end : ℕ) (ps : List Part) (p : Part) → 0 < n → n ≤ length ps → p ≡ get_or ps (n - 1) p → P p
    → ((i : ℕ) → n ≤ i → i < end → P (get_or ps i no_part)) → (i : ℕ) → n - 1 ≤ i → i < end → P (get_or ps i no_part)
all-before P n end ps p some within is one h = λ i from before. elim (eq-or-lt_of_le from) [
  | inl at ↦ subst P (is ∙ get_or_default ps (n - 1) p no_part (omega arith) ∙ ap (λ k. get_or ps k no_part) at) one
  | inr behind ↦ h i (omega arith) before
]
