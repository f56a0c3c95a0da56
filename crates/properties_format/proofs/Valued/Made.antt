-- Groups that are pairs, their values, and the separator of the last of them.
use Rattle.std.proofs.Common.{arith, rules, ◌≡◌, ℕ, true, List, [], ◌∷◌, ◌++◌, Some, None, refl, ap, sym, ◌∙◌, inl, inr}
use Rattle.std.proofs.lemmas.Slice.Eq.{bytes_eq-Decides}
use Rattle.properties_format.specs.Encoding.{Encoding}
use Rattle.properties_format.specs.Lines.{Ended, joined}
use Rattle.properties_format.specs.Split.{Logical, IsPair}
use Rattle.properties_format.specs.Computed.Split.{split_of}
use Rattle.properties_format.specs.Items.{pair, given}
use Rattle.properties_format.specs.Computed.Items.{outcome_of}
use Rattle.properties_format.specs.Body.{HeldLine, AreHeld, AreGroupsOf, as_lines, held_in, HasKey}
use Rattle.properties_format.specs.Valued.{HoldsPair, NoPairs, IsNewSeparator}
use Rattle.properties_format.specs.Computed.Valued.{between_if_pair, last_between, separator_by, is_pair_to, has_value}
use Rattle.properties_format.proofs.Items.Unique.{outcome_of-meets, outcome_of-only}
use Rattle.properties_format.proofs.Split.Unique.{split_of-meets, split_of-only}
use Rattle.properties_format.proofs.Cut.Byline.{decoded_line-only}
use Rattle.properties_format.proofs.Valued.Parts.{between_in-pair}
use Rattle.properties_format.proofs.Valued.Fronts.{AreDecoded}

-- ---- the lines of a body are decoded

-- The lines of a body are decoded to their texts.
held-decoded : (e : Encoding) (ls : List Ended) (last : List ℕ) (held : List HeldLine) → AreHeld e ls last held → AreDecoded e held
held-decoded e [] last held (x, h, s) = rw s (sym (decoded_line-only e last x h), tt)
held-decoded e (l ∷ ls) last held (x, rest, h, s, k) = rw s (sym (decoded_line-only e l.text x h), held-decoded e ls last rest k)

-- So are those of each part,
decoded-parts : (e : Encoding) (a b : List HeldLine) → AreDecoded e (a ++ b) → AreDecoded e a × AreDecoded e b
decoded-parts e [] b h = (tt, h)
decoded-parts e (l ∷ a) b h = let m = decoded-parts e a b h.1 in ((h.0, m.0), m.1)

-- and of each group.
decoded-group : (e : Encoding) (before : List (List HeldLine)) (g : List HeldLine) (after : List (List HeldLine))
    → AreDecoded e (held_in (before ++ g ∷ after)) → AreDecoded e g
decoded-group e [] g after h = (decoded-parts e g (held_in after) h).0
decoded-group e (f ∷ before) g after h = decoded-group e before g after (decoded-parts e f (held_in (before ++ g ∷ after)) h).1

-- The lines of a group of a body are decoded to their texts.
pub group-decoded : (e : Encoding) (body : List ℕ) (groups before : List (List HeldLine)) (g : List HeldLine) (after : List (List HeldLine))
    → AreGroupsOf e body groups → groups ≡ before ++ g ∷ after → AreDecoded e g
group-decoded e body groups before g after h s = grind (arith, decoded-group, held-decoded)

-- ---- whether a pair has the value

-- A group with the key that passes the test is the pair.
pub has_value-true : (key value : List ℕ) (g : List HeldLine) → HasKey key g → has_value value g ≡ true → HoldsPair key value g
has_value-true key value g (old, k) h =
    let line = joined (as_lines g) in
    let s : outcome_of line ≡ given (pair key old) = sym (outcome_of-only line (given (pair key old)) k) in
    search (rules, outcome_of-meets)

-- The pair passes the test.
pub HasPair-test : (key value : List ℕ) (g : List HeldLine) → HoldsPair key value g → has_value value g ≡ true
HasPair-test key value g h =
    ap (is_pair_to value) (sym (outcome_of-only (joined (as_lines g)) (given (pair key value)) h)) ∙ (bytes_eq-Decides value value).1 refl

-- A group that is a pair has exactly one value.
pub one-value : (key value second : List ℕ) (g : List HeldLine) → HoldsPair key value g → has_value second g ≡ true → value ≡ second
one-value key value second g h k =
    let s = sym (outcome_of-only (joined (as_lines g)) (given (pair key value)) h) in
    let t = sym (outcome_of-only (joined (as_lines g)) (given (pair key second)) (has_value-true key second g (value, h) k)) in
    grind (arith)

-- The group of a pair is a pair as it is written.
pub raw-pair : (key : List ℕ) (g : List HeldLine) → HasKey key g → (k : List ℕ) × (v : List ℕ) × IsPair (joined (as_lines g)) k v
raw-pair key g (value, h) = (h.raw_key, h.raw_value, h.split)

-- ---- the separator of a new pair

-- If no group is a pair, there is no last one.
last_between-none : (gs : List (List HeldLine)) → NoPairs gs → last_between gs ≡ None
last_between-none [] h = refl
last_between-none (g ∷ gs) h = grind (arith, last_between-none gs h.1, split_of-meets)

-- What separates the key from the value of a pair.
between-parsed_pair : (line key value : List ℕ) (h : IsPair line key value) → between_if_pair (split_of line) line ≡ Some h.between
between-parsed_pair line key value h =
    ap (λ v. between_if_pair v line) (sym (split_of-only line (Logical.pair key value) h)) ∙ ap Some (between_in-pair line key value h)

-- The last pair is one that no other pair follows.
last_between-some : (before : List (List HeldLine)) (g : List HeldLine) (after : List (List HeldLine)) (key value : List ℕ)
    (h : IsPair (joined (as_lines g)) key value) → NoPairs after → last_between (before ++ g ∷ after) ≡ Some h.between
last_between-some [] g after key value h k = rw (last_between-none after k, between-parsed_pair (joined (as_lines g)) key value h)
last_between-some (f ∷ before) g after key value h k = simp (last_between-some before g after key value h k)

-- The separator is the computed one.
pub new_separator-only : (groups : List (List HeldLine)) (key separator : List ℕ) → IsNewSeparator groups key separator
    → separator ≡ separator_by key (last_between groups)
new_separator-only groups key separator (inl h) =
    h.separator_is ∙ ap (separator_by key) (sym (ap last_between h.division ∙ last_between-some h.before h.group h.after h.key h.value h.is_pair h.no_later))
new_separator-only groups key separator (inr h) = h.1 ∙ ap (separator_by key) (sym (last_between-none groups h.0))

-- The computed separator is the separator.
pub new_separator-meets : (groups : List (List HeldLine)) (key : List ℕ) → IsNewSeparator groups key (separator_by key (last_between groups))
new_separator-meets [] key = inr (tt, refl)
new_separator-meets (g ∷ gs) key = in-front (new_separator-meets gs key)
  where
    last-is : (before : List (List HeldLine)) (h : List HeldLine) (after : List (List HeldLine)) (k value : List ℕ) → g ∷ gs ≡ before ++ h ∷ after
        → IsPair (joined (as_lines h)) k value → NoPairs after → IsNewSeparator (g ∷ gs) key (separator_by key (last_between (g ∷ gs)))
    last-is before h after k value s m n = inl (record {
      before = before;
      group = h;
      after = after;
      division = s;
      key = k;
      value = value;
      is_pair = m;
      no_later = n;
      separator_is = ap (separator_by key) (ap last_between s ∙ last_between-some before h after k value m n);
    })

    of-split : (l : Logical) → split_of (joined (as_lines g)) ≡ l → NoPairs gs → IsNewSeparator (g ∷ gs) key (separator_by key (last_between (g ∷ gs)))
    of-split (Logical.pair k value) s n = last-is [] g gs k value refl (rw s at (split_of-meets (joined (as_lines g)))) n
    of-split l s n =
        let none : NoPairs (g ∷ gs) = ((λ k value m. let q = sym s ∙ sym (split_of-only (joined (as_lines g)) (Logical.pair k value) m) in absurd (cc)), n) in
        inr (none, ap (separator_by key) (last_between-none (g ∷ gs) none))

    in-front : IsNewSeparator gs key (separator_by key (last_between gs)) → IsNewSeparator (g ∷ gs) key (separator_by key (last_between (g ∷ gs)))
    in-front (inl h) = last-is (g ∷ h.before) h.group h.after h.key h.value (ap (λ v. g ∷ v) h.division) h.is_pair h.no_later
    in-front (inr h) = of-split (split_of (joined (as_lines g))) refl h.0
