-- The last line ending of parts, and what their bytes end in.
use Rattle.std.proofs.Common.{◌≡◌, ◌<◌, ◌≤◌, ◌-◌, ◌==◌, ℕ, zero, suc, Bool, true, false, List, [], ◌∷◌, ◌++◌, Option, Some, None, length, take, drop, refl, ap, ap₂, sym, ◌∙◌, subst, append-nil, append_assoc, arith, get_or}
use Rattle.std.specs.Prelude.{get_or, ◌&&◌, true, false}
use Rattle.std.specs.Option.{option_or}
use Rattle.std.proofs.lemmas.Bool.Decides.{nat_tests}
use Rattle.std.proofs.Math.Seq.{take-suc}
use Rattle.properties_format.specs.Text.{lf, crlf, carriage_return, line_feed, is_empty, line_ending_text}
use Rattle.properties_format.specs.Lines.{HoldsNoLineEnding}
use Rattle.properties_format.specs.Computed.Lines.{ends_in_cr}
use Rattle.properties_format.proofs.Lines.Plain.{ends_in_cr-append, plain-append}
use Rattle.properties_items.specs.Line.{ending_of}
use Rattle.properties_items.specs.declared.line.LineEnding.TheVariants.{LF, CRLF}
use Rattle.properties_editing.specs.Private.BodyParts.{no_part, part_bytes, parts_bytes}
use Rattle.properties_editing.specs.Private.BodyValues.{IsLastEnding}
use Rattle.properties_editing.specs.Private.PartEndings.{ArePartsWithin, HaveNoBytes, IsEndingIn, IsPartWithin, cr_end, last_some, part_cr_end}
use Rattle.properties_editing.specs.declared.parts.Part.{Part}
use Rattle.properties_editing.specs.declared.parts.endings.FoundEnding.{FoundEnding}
use Rattle.properties_editing.proofs.LastPairs.{cr-last, last-by, last-none}
use Rattle.properties_editing.proofs.PartsAt.{or-assoc, or-none}

-- ---- the last part with something

pub last-push : {X : Type 0} (f : Part → Option X) (ps : List Part) (p : Part) → last_some f (ps ++ p ∷ []) ≡ option_or (f p) (last_some f ps)
last-push f [] p = sym (or-none (f p))
last-push f (q ∷ ps) p = ap (λ o. option_or o (f q)) (last-push f ps p) ∙ or-assoc (f p) (last_some f ps) (f q)

-- One more part was looked at, from the end.
pub step-back : {X : Type 0} (f : Part → Option X) (ps : List Part) (m : ℕ) (p : Part) (x : Option X) → 0 < m → m ≤ length ps → f (get_or ps (m - 1) p) ≡ x
    → last_some f (take m ps) ≡ option_or x (last_some f (take (m - 1) ps))
step-back f ps m p x some within is =
    let n = m - 1 in
    let size : m ≡ suc n = omega arith in
    let inside : n < length ps = omega arith in
    ap (λ i. last_some f (take i ps)) size
    ∙ ap (last_some f) (take-suc ps n p inside)
    ∙ last-push f (take n ps) (get_or ps n p)
    ∙ ap (λ o. option_or o (last_some f (take n ps))) is

-- Those without it are passed over.
pub last-passed : {X : Type 0} (f : Part → Option X) (n m : ℕ) (ps : List Part) → n ≤ m → ((i : ℕ) → n ≤ i → i < m → f (get_or ps i no_part) ≡ None)
    → last_some f (take n ps) ≡ last_some f (take m ps)
last-passed f n m [] k h = nil n ∙ sym (nil m)
  where
    nil : (n : ℕ) → last_some f (take n []) ≡ None
    nil zero = refl
    nil (suc n) = refl
last-passed f zero zero (p ∷ ps) k h = refl
last-passed f (suc n) zero (p ∷ ps) k h = absurd (omega arith)
last-passed f (suc n) (suc m) (p ∷ ps) k h =
    ap (λ o. option_or o (f p)) (last-passed f n m ps (omega arith) (λ i from before. h (suc i) (omega arith) (omega arith)))
last-passed f zero (suc m) (p ∷ ps) k h =
    let none = h zero (omega arith) (omega arith) in
    let behind = last-passed f zero m ps (omega arith) (λ i from before. h (suc i) (omega arith) (omega arith)) in
    sym (ap₂ option_or (sym behind) none)

-- ---- what bytes end in

cr-push : (x y : List ℕ) → cr_end (x ++ y) ≡ option_or (cr_end y) (cr_end x)
cr-push x [] = ap cr_end (append-nil x)
cr-push [] (c ∷ y) = refl
cr-push (b ∷ x) (c ∷ y) = ap Some (ends_in_cr-append (b ∷ x) c y)

abbrev some-or : (o : Option Bool) → Bool
some-or None = false
some-or (Some b) = b

ends-some : (x : List ℕ) (o : Option Bool) → cr_end x ≡ o → ends_in_cr x ≡ some-or o
ends-some [] None q = refl
ends-some [] (Some b) q = absurd (cc)
ends-some (c ∷ x) None q = absurd (cc)
ends-some (c ∷ x) (Some b) q = cc

pub parts-cr : (d : List ℕ) (ps : List Part) → cr_end (parts_bytes d ps) ≡ last_some (part_cr_end d) ps
parts-cr d [] = refl
parts-cr d (p ∷ ps) = cr-push (part_bytes d p) (parts_bytes d ps) ∙ ap (λ o. option_or o (part_cr_end d p)) (parts-cr d ps)

pub ends-found : (d : List ℕ) (ps : List Part) (b : Bool) → last_some (part_cr_end d) ps ≡ Some b → b ≡ ends_in_cr (parts_bytes d ps)
ends-found d ps b is = sym (ends-some (parts_bytes d ps) (Some b) (parts-cr d ps ∙ is))

pub ends-none : (d : List ℕ) (ps : List Part) → last_some (part_cr_end d) ps ≡ None → false ≡ ends_in_cr (parts_bytes d ps)
ends-none d ps is = sym (ends-some (parts_bytes d ps) None (parts-cr d ps ∙ is))

pub ends-passed : (d : List ℕ) (n m : ℕ) (ps : List Part) → n ≤ m → HaveNoBytes d n m ps
    → ends_in_cr (parts_bytes d (take n ps)) ≡ ends_in_cr (parts_bytes d (take m ps))
ends-passed d n m ps k h =
    ends-some (parts_bytes d (take n ps)) _ (parts-cr d (take n ps) ∙ last-passed (part_cr_end d) n m ps k h)
    ∙ sym (ends-some (parts_bytes d (take m ps)) _ (parts-cr d (take m ps)))

-- Bytes behind others, if there are any.
pub ends-behind : (x y : List ℕ) (b : Bool) → Some b ≡ cr_end y → Some b ≡ cr_end (x ++ y)
ends-behind x y b is = sym (cr-push x y ∙ ap (λ o. option_or o (cr_end x)) (sym is))

-- ---- the last line ending of parts

pub feed-last : (front : List ℕ) (found : FoundEnding) → ends_in_cr front ≡ true → ending_of found.ending ≡ crlf → found.is_first ≡ is_empty front
    → IsEndingIn (front ++ line_feed ∷ []) found
feed-last front found ends is first =
    let m = cr-last front ends in
    record {
      front = m.0;
      rest = [];
      division = ap (λ v. v ++ line_feed ∷ []) m.1 ∙ append_assoc m.0 (carriage_return ∷ []) (line_feed ∷ [])
          ∙ ap (λ by. m.0 ++ (line_ending_text by ++ [])) (sym is);
      plain = tt;
      alone = λ q. absurd (cc);
      first = λ q. absurd (cc);
      other = λ q. absurd (some front ends (sym first ∙ q));
    }
  where
    some : (x : List ℕ) → ends_in_cr x ≡ true → is_empty x ≡ true → ⊥
    some [] e q = let t = e in absurd (cc)
    some (c ∷ x) e q = absurd (cc)

pub feed-alone : (front : List ℕ) (found : FoundEnding) → ends_in_cr front ≡ false → ending_of found.ending ≡ lf → found.is_first ≡ is_empty front
    → IsEndingIn (front ++ line_feed ∷ []) found
feed-alone front found ends is first = record {
  front = front;
  rest = [];
  division = ap (λ by. front ++ (line_ending_text by ++ [])) (sym is);
  plain = tt;
  alone = λ q. ends;
  first = λ q. first;
  other = λ q. is;
}

-- Bytes without a line ending behind it.
pub ending-before : (bytes more : List ℕ) (found : FoundEnding) → HoldsNoLineEnding more → IsEndingIn bytes found → IsEndingIn (bytes ++ more) found
ending-before bytes more found plain k = record {
  front = k.front;
  rest = k.rest ++ more;
  division = ap (λ v. v ++ more) k.division
      ∙ append_assoc k.front (line_ending_text (ending_of found.ending) ++ k.rest) more
      ∙ ap (λ v. k.front ++ v) (append_assoc (line_ending_text (ending_of found.ending)) k.rest more);
  plain = plain-append k.rest more k.plain plain;
  alone = k.alone;
  first = k.first;
  other = k.other;
}

-- Bytes of which the last ones have a line ending.
module _ (a b : List ℕ) (found : FoundEnding) (k : IsEndingIn b found) where
  pub found-both : found.is_first ≡ true → ends_in_cr a ≡ true → IsLastEnding (a ++ b) CRLF
  found-both first ends =
      let by = k.other first in
      let m = cr-last a ends in
      let none : k.front ≡ [] = no-front k.front (sym (k.first by) ∙ first) in
      last-by (a ++ b) m.0 CRLF k.rest
      (ap₂ (λ v w. v ++ w) m.1 (k.division ∙ ap₂ (λ v w. v ++ (line_ending_text w ++ k.rest)) none by)
      ∙ append_assoc m.0 (carriage_return ∷ []) (line_feed ∷ k.rest))
      k.plain (λ q. absurd (cc))
    where
      no-front : (x : List ℕ) → is_empty x ≡ true → x ≡ []
      no-front [] q = refl
      no-front (c ∷ x) q = absurd (cc)

  pub found-one : (found.is_first && ends_in_cr a) ≡ false → IsLastEnding (a ++ b) found.ending
  found-one n =
      last-by (a ++ b) (a ++ k.front) found.ending k.rest
      (ap (λ v. a ++ v) k.division ∙ sym (append_assoc a k.front (line_ending_text (ending_of found.ending) ++ k.rest)))
      k.plain (λ q. of-front k.front (k.alone q) (k.first q))
    where
      of-front : (x : List ℕ) → ends_in_cr x ≡ false → found.is_first ≡ is_empty x → ends_in_cr (a ++ x) ≡ false
      of-front [] e f = ap ends_in_cr (append-nil a) ∙ sym (ap (λ v. v && ends_in_cr a) f) ∙ n
      of-front (c ∷ x) e f = ends_in_cr-append a c x ∙ e

-- The bytes of parts, around one.
pub bytes-around : (d : List ℕ) (ps : List Part) (n : ℕ) (p : Part) → n < length ps
    → parts_bytes d ps ≡ parts_bytes d (take n ps) ++ (part_bytes d (get_or ps n p) ++ parts_bytes d (drop (suc n) ps))
bytes-around d [] n p k = absurd (omega arith)
bytes-around d (q ∷ ps) zero p k = refl
bytes-around d (q ∷ ps) (suc n) p k =
    ap (λ v. part_bytes d q ++ v) (bytes-around d ps n p (omega arith))
    ∙ sym (append_assoc (part_bytes d q) (parts_bytes d (take n ps)) (part_bytes d (get_or ps n p) ++ parts_bytes d (drop (suc n) ps)))

pub bytes-from : (d : List ℕ) (ps : List Part) (n : ℕ) (p : Part) → n < length ps
    → parts_bytes d (drop n ps) ≡ part_bytes d (get_or ps n p) ++ parts_bytes d (drop (suc n) ps)
bytes-from d [] n p k = absurd (omega arith)
bytes-from d (q ∷ ps) zero p k = refl
bytes-from d (q ∷ ps) (suc n) p k = bytes-from d ps n p (omega arith)

-- ---- spans in the bytes

pub part_within : (d : List ℕ) (ps : List Part) (i : ℕ) (p : Part) → ArePartsWithin d ps → i < length ps → IsPartWithin d (get_or ps i p)
part_within d [] i p h k = absurd (omega arith)
part_within d (s ∷ ss) zero p h k = h.0
part_within d (s ∷ ss) (suc i) p h k = part_within d ss i p h.1 (omega arith)

-- ---- the parts, from the end

module _ (d : List ℕ) (ps : List Part) (m : ℕ) (p : Part) (some : 0 < m) (within : m ≤ length ps) (is : p ≡ get_or ps (m - 1) p)
    (plain : HoldsNoLineEnding (parts_bytes d (drop m ps))) where
  next : suc (m - 1) ≡ m
  next = omega arith

  behind : HoldsNoLineEnding (parts_bytes d (drop (suc (m - 1)) ps))
  behind = subst (λ n. HoldsNoLineEnding (parts_bytes d (drop n ps))) (sym next) plain

  around : parts_bytes d ps ≡ parts_bytes d (take (m - 1) ps) ++ (part_bytes d p ++ parts_bytes d (drop (suc (m - 1)) ps))
  around = bytes-around d ps (m - 1) p (omega arith)
      ∙ ap (λ q. parts_bytes d (take (m - 1) ps) ++ (part_bytes d q ++ parts_bytes d (drop (suc (m - 1)) ps))) (sym is)

  -- A part without a line ending.
  pub none-in : HoldsNoLineEnding (part_bytes d p) → HoldsNoLineEnding (parts_bytes d (drop (m - 1) ps))
  none-in none =
      let from = bytes-from d ps (m - 1) p (omega arith)
      ∙ ap (λ q. part_bytes d q ++ parts_bytes d (drop (suc (m - 1)) ps)) (sym is) in
      subst HoldsNoLineEnding (sym from) (plain-append (part_bytes d p) (parts_bytes d (drop (suc (m - 1)) ps)) none behind)

  -- A part with one.
  module _ (found : FoundEnding) (k : IsEndingIn (part_bytes d p) found) where
    all : IsEndingIn (part_bytes d p ++ parts_bytes d (drop (suc (m - 1)) ps)) found
    all = ending-before (part_bytes d p) (parts_bytes d (drop (suc (m - 1)) ps)) found behind k

    pub is-both : found.is_first ≡ true → ends_in_cr (parts_bytes d (take (m - 1) ps)) ≡ true → IsLastEnding (parts_bytes d ps) CRLF
    is-both first ends = subst (λ v. IsLastEnding v CRLF) (sym around)
        (found-both (parts_bytes d (take (m - 1) ps)) (part_bytes d p ++ parts_bytes d (drop (suc (m - 1)) ps)) found all first ends)

    pub is-one : (found.is_first && ends_in_cr (parts_bytes d (take (m - 1) ps))) ≡ false → IsLastEnding (parts_bytes d ps) found.ending
    is-one n = subst (λ v. IsLastEnding v found.ending) (sym around)
        (found-one (parts_bytes d (take (m - 1) ps)) (part_bytes d p ++ parts_bytes d (drop (suc (m - 1)) ps)) found all n)

pub none-at-all : (d : List ℕ) (ps : List Part) (m : ℕ) → m ≡ 0 → HoldsNoLineEnding (parts_bytes d (drop m ps)) → IsLastEnding (parts_bytes d ps) LF
none-at-all d ps m is plain = last-none (parts_bytes d ps) 0 refl (subst (λ n. HoldsNoLineEnding (parts_bytes d (drop n ps))) is plain)

-- ---- the last byte

pub last-cr : (xs : List ℕ) → (length xs == 0) ≡ false → (get_or xs (length xs - 1) 0 == carriage_return) ≡ ends_in_cr xs
last-cr [] h = absurd (cc)
last-cr (c ∷ []) h = refl
last-cr (c ∷ d ∷ ds) h =
    let n : length (c ∷ d ∷ ds) - 1 ≡ suc (length ds) = omega arith in
    let m : length ds ≡ length (d ∷ ds) - 1 = omega arith in
    ap (λ k. get_or (c ∷ d ∷ ds) k 0 == carriage_return) n
    ∙ ap (λ k. get_or (d ∷ ds) k 0 == carriage_return) m
    ∙ last-cr (d ∷ ds) (grind (arith, nat_tests))
