-- The logical lines of an edited body, given those of the body, whatever they are.
use Rattle.std.proofs.Common.{◌≡◌, ℕ, true, false, List, [], ◌∷◌, ◌++◌, refl, sym, ◌∙◌, inl, inr, append-nil, arith}
use Rattle.properties_format.specs.Lines.{Line, EndsClosed, AreOpen, IsWhole, joined}
use Rattle.properties_format.specs.Computed.Lines.{ends_in_cr}
use Rattle.properties_format.specs.Items.{pair, given}
use Rattle.properties_format.specs.Computed.Items.{outcome_of}
use Rattle.properties_format.specs.Body.{HeldLine, as_lines, as_groups, HasKey, NoneHasKey}
use Rattle.properties_format.specs.Edited.{is_last_open, is_left_open}
use Rattle.properties_format.specs.Valued.{HoldsPair}
use Rattle.properties_format.specs.Changed.{NoneIsPair, AreLinesSet}
use Rattle.properties_format.proofs.Lines.Plain.{ends_in_cr-append}
use Rattle.properties_format.proofs.Groups.Steps.{closes-closed}
use Rattle.properties_format.proofs.Groups.Meets.{close-whole}
use Rattle.properties_format.proofs.Groups.Joined.{joined-push}
use Rattle.properties_format.proofs.Items.Unique.{outcome_of-only}
use Rattle.properties_format.proofs.Edited.Fronts.{with_line, logical_lines}
use Rattle.properties_format.proofs.Body.Groups.{EndsOpen, IsLastFit}

-- ---- which last groups are left open

-- A CR at the end of the last part is at the end of the whole.
pub ends-right : (x y : List ℕ) → ends_in_cr y ≡ true → ends_in_cr (x ++ y) ≡ true
ends-right x [] h = absurd (cc)
ends-right x (c ∷ y) h = ends_in_cr-append x c y ∙ h

-- If all lines but the last are open and the last isn't, the last isn't open.
last-closed : (h : HeldLine) (hs : List HeldLine) → EndsClosed (record { number = 0; text = h.text }) (as_lines hs) → is_last_open (h ∷ hs) ≡ false
last-closed h [] k = k
last-closed h (i ∷ hs) k = last-closed i hs k.1

-- If all lines are open, the last is open.
last-open : (h : HeldLine) (hs : List HeldLine) → AreOpen (as_lines (h ∷ hs)) → is_last_open (h ∷ hs) ≡ true
last-open h [] k = k.0
last-open h (i ∷ hs) k = last-open i hs k.1

-- A last group that isn't left open is whole.
pub fit-closed : (g : List HeldLine) → IsLastFit g → is_left_open g ≡ false → IsWhole (as_lines g)
fit-closed g (inl h) k = h
fit-closed [] (inr h) k = absurd h
fit-closed (h ∷ hs) (inr u) k = grind (arith, last-open h hs u.1)

-- A last group that is left open doesn't begin with a comment line, and ends open.
pub fit-open : (g : List HeldLine) → IsLastFit g → is_left_open g ≡ true → EndsOpen (as_lines g)
fit-open g (inr h) k = h
fit-open [] (inl h) k = absurd h
fit-open (h ∷ hs) (inl w) k = grind (arith, last-closed)

-- An empty line after a group that is left open ends the group, and adds nothing to it.
pub closed-by_empty : (x : List Line) → EndsOpen x
    → IsWhole (x ++ record { number = 0; text = [] } ∷ []) × (joined (x ++ record { number = 0; text = [] } ∷ []) ≡ joined x)
closed-by_empty [] h = absurd h
closed-by_empty (l ∷ ls) h =
    let z : Line = record { number = 0; text = [] } in
    (close-whole (l ∷ ls) z h (closes-closed (l ∷ ls) z refl), joined-push l ls z h.0 ∙ append-nil (joined (l ∷ ls)))

-- ---- groups

-- The outcome of a group with the key is a pair with it.
pub key-outcome : (key : List ℕ) (g : List HeldLine) → HasKey key g → (old : List ℕ) × (outcome_of (joined (as_lines g)) ≡ given (pair key old))
key-outcome key g (old, h) = (old, sym (outcome_of-only (joined (as_lines g)) (given (pair key old)) h))

-- The logical lines of two lists of groups.
pub lines-append : (gs hs : List (List HeldLine)) → logical_lines (as_groups (gs ++ hs)) ≡ logical_lines (as_groups gs) ++ logical_lines (as_groups hs)
lines-append [] hs = refl
lines-append (g ∷ gs) hs = grind (arith, lines-append gs hs)

-- A pair has a logical line.
pub lines-pair : (key : List ℕ) (g : List HeldLine) (xs : List (List ℕ)) → HasKey key g → with_line (joined (as_lines g)) xs ≡ joined (as_lines g) ∷ xs
lines-pair key g xs h = rw (key-outcome key g h).1

-- If no group has the key, no logical line is a pair with it.
pub none-lines : (key : List ℕ) (gs : List (List HeldLine)) → NoneHasKey key gs → NoneIsPair key (logical_lines (as_groups gs))
none-lines key [] h = tt
none-lines key (g ∷ gs) h = grind (arith, none-lines key gs h.1)

-- If the last pair with a key has a value, or gets it, the other logical lines are unchanged.
pub pair-lines : (before : List (List HeldLine)) (g h : List HeldLine) (after : List (List HeldLine)) (key value : List ℕ) → HasKey key g → NoneHasKey key after
    → HoldsPair key value h → AreLinesSet key value (logical_lines (as_groups (before ++ g ∷ after))) (logical_lines (as_groups (before ++ h ∷ after)))
pair-lines before g h after key value k n p = inl (record {
  before = logical_lines (as_groups before);
  line = joined (as_lines g);
  after = logical_lines (as_groups after);
  changed = joined (as_lines h);
  was = rw (lines-append, lines-pair key g (logical_lines (as_groups after)) k);
  has_key = k;
  no_later = none-lines key after n;
  now = rw (lines-append, lines-pair key h (logical_lines (as_groups after)) (value, p));
  has_value = p;
})
