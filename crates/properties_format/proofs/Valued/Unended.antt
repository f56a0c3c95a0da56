-- A group with another last line ending, or without one: it has the same parts, and its bytes without one are one group.
use Rattle.std.proofs.Common.{◌≡◌, ℕ, ◌≤◌, true, false, List, [], ◌∷◌, ◌++◌, length, drop, Option, None, refl, ap, ◌∙◌, inl, inr, append-nil, arith, length-append, length-drop}
use Rattle.std.specs.Prelude.{Bool, nat_le}
use Rattle.std.proofs.lemmas.Bool.{cases_Bool, le-leb, leb-false}
use Rattle.properties_format.specs.Text.{LineEnding}
use Rattle.properties_format.specs.Encoding.{Encoding}
use Rattle.properties_format.specs.Lines.{joined}
use Rattle.properties_format.specs.Split.{IsPair}
use Rattle.properties_format.specs.Body.{HeldLine, as_lines, ending_bytes, group_bytes}
use Rattle.properties_format.specs.Computed.Body.{unended_bytes}
use Rattle.properties_format.specs.Computed.Valued.{added_by, before_value, between_in, front_in, value_front, between_of, is_pair_to, has_value}
use Rattle.properties_format.specs.Computed.Items.{outcome_of}
use Rattle.properties_format.proofs.GroupsInTurn.Lines.{texts-with, with_ending}
use Rattle.properties_format.proofs.Valued.Fronts.{joined_by, joined-by, pair-unmarked, front-here, front-later}
use Rattle.properties_format.proofs.Valued.Parts.{pair-line, before_value-pair}

-- the lines without the last line ending
abbrev pub without_ending : List HeldLine → List HeldLine
without_ending g = with_ending None g

-- Their bytes are those up to the last line ending.
pub unended-bytes : (g : List HeldLine) → group_bytes (without_ending g) ≡ unended_bytes g
unended-bytes (h ∷ i ∷ g) = ap (λ v. h.bytes ++ (ending_bytes h.ending ++ v)) (unended-bytes (i ∷ g))
unended-bytes g = grind (arith, append-nil)

-- ---- its parts

-- The logical line is the same,
pub joined-with : (o : Option LineEnding) (g : List HeldLine) → joined (as_lines (with_ending o g)) ≡ joined (as_lines g)
joined-with o g = ap joined (texts-with o g)

-- and with it what separates the key from the value,
pub between-with : (o : Option LineEnding) (g : List HeldLine) → between_of (with_ending o g) ≡ between_of g
between-with o g = ap between_in (joined-with o g)

-- and whether the group has a value.
pub has-with : (o : Option LineEnding) (value : List ℕ) (g : List HeldLine) → has_value value (with_ending o g) ≡ has_value value g
has-with o value g = ap (λ v. is_pair_to value (outcome_of v)) (joined-with o g)

-- The front ends before the last line ending.
front_in-with : (e : Encoding) (o : Option LineEnding) (first : Bool) (p : List ℕ) (g : List HeldLine) → length p ≤ length (joined_by first g)
    → front_in e first p (with_ending o g) ≡ front_in e first p g
front_in-with e o first p [] n = refl
front_in-with e o first p (h ∷ []) n =
    let k : nat_le (length p) (length (added_by first h.text)) ≡ true = le-leb (length p) _ (rw append-nil at n) in
    rw (k, front_in) refl
front_in-with e o first p (h ∷ i ∷ hs) n = elim (cases_Bool (nat_le (length p) (length (added_by first h.text)))) [
  | inl k ↦ rw (front-here e first p h (with_ending o (i ∷ hs)) k, front-here e first p h (i ∷ hs) k) refl
  | inr k ↦
      let a = added_by first h.text in
      let more = leb-false (length p) (length a) k in
      let size = length-append a (joined_by false (i ∷ hs)) in
      let rest = length-drop (length a) p in
      rw (front-later e first p h (with_ending o (i ∷ hs)) k, front-later e first p h (i ∷ hs) k)
      (ap (λ v. h.bytes ++ (ending_bytes h.ending ++ v)) (front_in-with e o false (drop (length a) p) (i ∷ hs) (omega arith)))
]

pub front-with : (e : Encoding) (o : Option LineEnding) (g : List HeldLine) (key value : List ℕ) → IsPair (joined (as_lines g)) key value
    → value_front e (with_ending o g) ≡ value_front e g
front-with e o [] key value h = refl
front-with e o (i ∷ is) key value h =
    let line = joined (as_lines (i ∷ is)) in
    let p = before_value line in
    let size = ap length (pair-line line key value h) in
    let parts = length-append (h.indent ++ (key ++ h.between)) value in
    let before = ap length (before_value-pair line key value h) in
    let all = ap length (joined-by i is (pair-unmarked i is key value h)) in
    ap (λ v. front_in e true (before_value v) (with_ending o (i ∷ is))) (joined-with o (i ∷ is)) ∙ front_in-with e o true p (i ∷ is) (omega arith)

-- All of this holds without a last line ending.
pub unended-joined : (g : List HeldLine) → joined (as_lines (without_ending g)) ≡ joined (as_lines g)
unended-joined g = joined-with None g
