-- A pair that gets another value is one group, and is that pair.
use Rattle.std.proofs.Common.{◌≡◌, ◌≢◌, ℕ, Bool, true, false, List, [], ◌∷◌, ◌++◌, All, Option, Some, None, refl, ap, sym, ◌∙◌, inl, inr, append_assoc, append-nil, subst, arith}
use Rattle.std.proofs.lemmas.Bool.{cases_Bool}
use Rattle.properties_format.specs.Text.{scalar, LineEnding}
use Rattle.properties_format.specs.Encoding.{Encoding, Repertoire}
use Rattle.properties_format.specs.Lines.{HoldsNoLineEnding}
use Rattle.properties_format.specs.Printing.{encoded_text}
use Rattle.properties_format.specs.Body.{HeldLine, HasKey, ending_bytes, group_bytes}
use Rattle.properties_format.specs.Edited.{is_editable}
use Rattle.properties_format.specs.Valued.{value_text, IsFrontOf}
use Rattle.properties_format.specs.Plan.{become, value_change}
use Rattle.properties_format.specs.Computed.Lines.{begins_with_lf, ends_in_cr}
use Rattle.properties_format.specs.Computed.Cut.{decoded_line}
use Rattle.properties_format.specs.Computed.Body.{held_lines_of, has_key}
use Rattle.properties_format.specs.Computed.Valued.{value_front, between_of, has_value}
use Rattle.properties_format.proofs.Lines.Plain.{plain-no_cr, plain-no_lf, ends_in_cr-append}
use Rattle.properties_format.proofs.Body.Groups.{IsLastFit, group_bytes-append}
use Rattle.properties_format.proofs.Edited.Made.{has_key-true}
use Rattle.properties_format.proofs.GroupsInTurn.Lines.{AreLinesBy, first-none, lines-last, with_ending}
use Rattle.properties_format.proofs.Valued.Fronts.{AreDecoded, front_of-meets, front_of-only}
use Rattle.properties_format.proofs.Valued.Made.{has_value-true, one-value, raw-pair}
use Rattle.properties_format.proofs.Valued.Pair.{after-bytes, new_line, new_bytes, IsChangedPair, changed-pair}
use Rattle.properties_format.proofs.Valued.Revalued.{between_after, value_after}
use Rattle.properties_format.proofs.Valued.Unended.{front-with, between-with, has-with}
use Rattle.properties_format.proofs.Plan.Slots.{IsGroupText, SayPair, IsPairAfter, IsFitChange, group_of, said-group, Becomes}

-- ---- a group's last line ending doesn't matter

pub decoded-by : (e : Encoding) (o : Option LineEnding) (g : List HeldLine) → AreLinesBy e o g → AreDecoded e g
decoded-by e o [] a = tt
decoded-by e o (h ∷ []) (p, s, t) = (sym s, tt)
decoded-by e o (h ∷ i ∷ hs) (p, s, n, a) = (sym s, decoded-by e o (i ∷ hs) a)

pub value-with : (r : Repertoire) (key value : List ℕ) (first : Bool) (p o : Option LineEnding) (g : List HeldLine) → is_editable r.encoding ≡ true
    → AreLinesBy r.encoding p g → has_key key g ≡ true → value_change r value first (with_ending o g) ≡ value_change r value first g
value-with r key value first p o g ok a h =
    let m = raw-pair key g (has_key-true key g h) in
    rw (has-with o value g, front-with r.encoding o g m.0 m.1 m.2, between-with o g) refl

-- ---- the pair with another value is a group

-- Bytes with a line ending in front of others begin as these do.
some-left : (d y z : List ℕ) → d ≢ [] → begins_with_lf (d ++ y) ≡ false → begins_with_lf (d ++ z) ≡ false
some-left [] y z n h = absurd (n refl)
some-left (c ∷ d) y z n h = h

line-left : (b : List ℕ) (by : LineEnding) (y z : List ℕ) → begins_with_lf (b ++ (ending_bytes (Some by) ++ y)) ≡ false
    → begins_with_lf (b ++ (ending_bytes (Some by) ++ z)) ≡ false
line-left b by y z h =
    rw (← append_assoc b (ending_bytes (Some by)) z)
    (some-left (b ++ ending_bytes (Some by)) y z (some b by) (rw (← append_assoc b (ending_bytes (Some by)) y) at h))
  where
    some : (b : List ℕ) (by : LineEnding) → b ++ ending_bytes (Some by) ≢ []
    some (c ∷ b) by q = cc
    some [] by q = grind (arith)

-- The kept lines, and another line behind them.
kept-lines : (e : Encoding) (o : Option LineEnding) (kept : List HeldLine) (line : HeldLine) (more : List HeldLine) (x : List ℕ)
    → AreLinesBy e o (kept ++ line ∷ more) → HoldsNoLineEnding x
    → AreLinesBy e None (kept ++ record { bytes = x; text = decoded_line e x; ending = None } ∷ [])
kept-lines e o [] line more x a p = (p, refl, refl)
kept-lines e o (h ∷ []) line more x (q, s, (by, t, k), a) p = (q, s, (by, t, λ c. first-none x [] (plain-no_lf x p) (λ z. refl)), (p, refl, refl))
kept-lines e o (h ∷ i ∷ []) line more x (q, s, (by, t, k), a) p =
    (q, s, (by, t, λ c. rw a.2.1 (line-left i.bytes a.2.0 (group_bytes (line ∷ more)) _ (rw a.2.1 at (k c)))), kept-lines e o (i ∷ []) line more x a p)
kept-lines e o (h ∷ i ∷ j ∷ kept) line more x (q, s, (by, t, k), a) p =
    let rest = kept-lines e o (i ∷ j ∷ kept) line more x a p in
    (q, s, (by, t, λ c. rw a.2.1 (line-left i.bytes a.2.0 (group_bytes (j ∷ kept ++ line ∷ more)) _ (rw a.2.1 at (k c)))), rest)

plain-line : (e : Encoding) (o : Option LineEnding) (kept : List HeldLine) (line : HeldLine) (more : List HeldLine) → AreLinesBy e o (kept ++ line ∷ more)
    → HoldsNoLineEnding line.bytes
plain-line e o [] line [] a = a.0
plain-line e o [] line (m ∷ more) a = a.0
plain-line e o (h ∷ []) line more a = plain-line e o [] line more a.3
plain-line e o (h ∷ i ∷ kept) line more a = plain-line e o (i ∷ kept) line more a.3

-- Lines that end in a plain one that isn't empty don't end in a CR.
last-no_cr : (kept : List HeldLine) (x : List ℕ) → HoldsNoLineEnding x → x ≢ [] → ends_in_cr (group_bytes kept ++ x) ≡ false
last-no_cr kept [] p n = absurd (n refl)
last-no_cr kept (c ∷ x) p n = rw (ends_in_cr-append (group_bytes kept) c x) (plain-no_cr (c ∷ x) p)

-- the bytes of a pair with another value, up to its last line ending
abbrev pub new_text : Repertoire → List HeldLine → List ℕ → List ℕ
new_text r g value = value_front r.encoding g ++ encoded_text r.encoding (value_text r (between_of g) value)

-- They are one whole group, which is the pair. Its front is the old one, with what is missing.
module _ (r : Repertoire) (key value : List ℕ) (p : Option LineEnding) (g : List HeldLine) (ok : is_editable r.encoding ≡ true) (v : All scalar value)
    (a : AreLinesBy r.encoding p g) (w : IsLastFit g) (has : HasKey key g) where
  abbrev between : List ℕ
  between = between_of g

  front : IsFrontOf r.encoding g between (value_front r.encoding g)
  front = let m = raw-pair key g has in front_of-meets r.encoding g m.0 m.1 ok (decoded-by r.encoding p g a) m.2

  abbrev lines : List HeldLine
  lines = front.kept ++ new_line r front.head between value None ∷ []

  whole : AreLinesBy r.encoding p (front.kept ++ front.line ∷ front.more)
  whole = subst (AreLinesBy r.encoding p) front.division a

  changed : IsChangedPair r key between (value_front r.encoding g) value front.kept front.head None
  changed =
      changed-pair r g key between (value_front r.encoding g) value None front ok v w
      (plain-line r.encoding p front.kept front.line front.more whole) has

  are : AreLinesBy r.encoding None lines
  are = kept-lines r.encoding p front.kept front.line front.more (new_bytes r front.head between value) whole changed.plain

  kept-bytes : group_bytes lines ≡ group_bytes front.kept ++ new_bytes r front.head between value
  kept-bytes =
      group_bytes-append front.kept (new_line r front.head between value None ∷ [])
      ∙ ap (λ y. group_bytes front.kept ++ y) (append-nil (new_bytes r front.head between value))

  bytes : group_bytes lines ≡ new_text r g value
  bytes =
      kept-bytes
      ∙ sym (append_assoc (group_bytes front.kept) front.head (encoded_text r.encoding (value_text r between value)))
      ∙ ap (λ y. y ++ encoded_text r.encoding (value_text r between value)) (sym front.bytes)

  held : held_lines_of r.encoding (new_text r g value) ≡ lines
  held = ap (held_lines_of r.encoding) (sym bytes) ∙ lines-last r.encoding lines ok are

  pub new-fit : IsGroupText r.encoding (new_text r g value)
  new-fit = record {
    whole = rw held changed.whole;
    no_cr =
        ap ends_in_cr (sym bytes ∙ kept-bytes) ∙ last-no_cr front.kept (new_bytes r front.head between value) changed.plain changed.some;
  }

  pub new-said : SayPair r.encoding key value (new_text r g value)
  new-said = rw held changed.has_pair

  -- With another value again, it becomes what it would have become at once.
  pub new-again : (second : List ℕ) (first : Bool) (o : Option LineEnding)
      → Becomes (new_text r g value) (new_text r g second) (value_change r second first (group_of r.encoding (new_text r g value) o))
  new-again second first o =
      let x = new_text r g value in
      let m = raw-pair key lines (value, changed.has_pair) in
      let f = front_of-only r.encoding lines _ _ ok (decoded-by r.encoding None lines are) changed.is_front in
      elim (cases_Bool (has_value second (group_of r.encoding x o))) [
        | inl k ↦
            let same = one-value key value second (group_of r.encoding x o) (said-group r.encoding key value x o new-said) k in
            rw k (inr (refl, ap (new_text r g) (sym same)))
        | inr k ↦
            let after = after-bytes r between second in
            rw k (inl (ap become
            (rw (held, front-with r.encoding o lines m.0 m.1 m.2, between-with o lines, ← f.0, ← f.1, after-missing r between second, after)
            (append_assoc (value_front r.encoding g) _ _))))
      ]
    where
      after-missing : (r : Repertoire) (between value : List ℕ) → value_text r (between_after between) value ≡ value_after r between value
      after-missing r between value = grind (arith)

-- The group of a pair with the key may become one with the value.
pub value-fit : (r : Repertoire) (key value : List ℕ) (first : Bool) (p : Option LineEnding) (g : List HeldLine) → is_editable r.encoding ≡ true
    → All scalar value
    → AreLinesBy r.encoding p g → IsLastFit g → has_key key g ≡ true → IsFitChange r.encoding (value_change r value first g)
value-fit r key value first p g ok v a w h = elim (cases_Bool (has_value value g)) [
  | inl k ↦ rw k tt
  | inr k ↦ rw k (new-fit r key value p g ok v a w (has_key-true key g h))
]

-- It is that pair then.
pub value-said : (r : Repertoire) (key value : List ℕ) (first : Bool) (p : Option LineEnding) (g : List HeldLine) → is_editable r.encoding ≡ true
    → All scalar value
    → AreLinesBy r.encoding p g → IsLastFit g → HasKey key g → IsPairAfter r.encoding key value g (value_change r value first g)
value-said r key value first p g ok v a w h = elim (cases_Bool (has_value value g)) [
  | inl k ↦ rw k (has_value-true key value g h k)
  | inr k ↦ rw k (new-said r key value p g ok v a w h)
]
