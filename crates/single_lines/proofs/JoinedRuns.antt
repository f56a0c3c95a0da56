-- All that the calls of an iterator over logical lines give.
use Rattle.std.proofs.Common.{◌≡◌, true, false, List, [], ◌∷◌, ◌++◌, refl, ap, sym, ◌∙◌, subst, inl, inr}
use Rattle.std.specs.Prelude.{map, Option, Some, None, Result, Ok, Err}
use Rattle.std.specs.Iterator.{Yields}
use Rattle.std.proofs.lemmas.List.{map-append}
use Rattle.properties_format.specs.Lines.{Line, InputEnd, end, fault, joined, first_number, IsWhole, IsUnfinished, last_group}
use Rattle.properties_format.specs.Computed.Lines.{logical, logical_lines}
use Rattle.properties_format.proofs.Groups.Only.{groups_of-before, groups_of-unfinished}
use Rattle.single_lines.specs.Joining.{Steps, natural_line, logical_line, natural_lines, GivesLines, GivesThen, EndsGroup, TakesGroup, GivesLogicalLine, JoinsUpTo, JoinsEach}
use Rattle.properties_lines.specs.declared.error.LineError.{LineError}
use Rattle.single_lines.specs.declared.natural.NaturalLine.{NaturalLine}
use Rattle.single_lines.specs.declared.logical.LogicalLine.{LogicalLine}
use Rattle.single_lines.specs.declared.logical.LogicalLines.{LogicalLines}

-- ---- the logical lines after a group

-- a whole group is a logical line
logical_lines-whole : (g ls : List Line) (e : InputEnd) → IsWhole g
    → logical_lines (g ++ ls) e ≡ record { number = first_number g; text = joined g } ∷ logical_lines ls e
logical_lines-whole g ls e h = ap logical (groups_of-before g ls e h)

-- one that stands open at the end is the last
logical_lines-last : (g : List Line) → IsUnfinished g → logical_lines g end ≡ logical (last_group g end)
logical_lines-last g h = ap logical (groups_of-unfinished g end h)

-- at a fault it is lost
logical_lines-lost : (g : List Line) → IsUnfinished g → logical_lines g fault ≡ []
logical_lines-lost [] h = refl
logical_lines-lost (l ∷ ls) h = ap logical (groups_of-unfinished (l ∷ ls) fault h)

-- ---- calls one after another

-- calls after calls
yields-after : {S A : Type 0} (steps : S → Option A → S → Type 0) (s t u : S) (xs ys : List A) → Yields steps s xs t → Yields steps t ys u
    → Yields steps s (xs ++ ys) u
yields-after steps s t u [] ys h k = subst (λ v. Yields steps v ys u) (sym h) k
yields-after steps s t u (x ∷ xs) ys h k = (h.0, h.1, yields-after steps h.0 t u xs ys h.2 k)

module _ {I : Type 0} (steps : Steps I) where
  given-after : (from to after : I) (lines others : List NaturalLine) → GivesLines steps from lines to → GivesLines steps to others after
      → GivesLines steps from (lines ++ others) after
  given-after from to after lines others h k =
      let P : List (Result NaturalLine LineError) → Type 0 = λ v. Yields steps from v after in
      subst P (sym (map-append Ok lines others)) (yields-after steps from to after (map Ok lines) (map Ok others) h k)

  natural-after : (lines others : List NaturalLine) → natural_lines (lines ++ others) ≡ natural_lines lines ++ natural_lines others
  natural-after lines others = map-append natural_line lines others

  -- a line is the joined group
  line-joined : (from : I) (line : LogicalLine) (to : LogicalLines I) (t : TakesGroup steps from line to)
      → logical_line line ≡ record { number = first_number (natural_lines (t.first ∷ t.others)); text = joined (natural_lines (t.first ∷ t.others)) }
  line-joined from line to t = rw (t.number, t.text) refl

  -- the logical lines after a whole group, with its line in front
  joins-before : (from : I) (line : LogicalLine) (mid : LogicalLines I) (given : List LogicalLine) (t : TakesGroup steps from line mid)
      → IsWhole (natural_lines (t.first ∷ t.others)) → (lines : List NaturalLine) (e : InputEnd)
      → map logical_line given ≡ logical_lines (natural_lines lines) e
      → map logical_line (line ∷ given) ≡ logical_lines (natural_lines (t.first ∷ t.others ++ lines)) e
  joins-before from line mid given t whole lines e k =
      let group = t.first ∷ t.others in
      ap (λ v. logical_line line ∷ v) k
      ∙ ap (λ v. v ∷ logical_lines (natural_lines lines) e) (line-joined from line mid t)
      ∙ sym (ap (λ v. logical_lines v e) (natural-after group lines) ∙ logical_lines-whole (natural_lines group) (natural_lines lines) e whole)

  -- a whole group before all that is given
  group-before : (from : I) (line : LogicalLine) (mid : LogicalLines I) (given : List LogicalLine) (answer : Option (Result LogicalLine LineError)) (to : I)
      (t : TakesGroup steps from line mid) → IsWhole (natural_lines (t.first ∷ t.others)) → GivesLines steps from (t.first ∷ t.others) mid.lines
      → JoinsUpTo steps mid.lines given answer to → JoinsUpTo steps from (line ∷ given) answer to
  group-before from line mid given None to t whole h k = record {
    lines = t.first ∷ t.others ++ k.lines;
    drained = (k.drained.0, (k.drained.1.0, given-after from mid.lines k.drained.1.0 (t.first ∷ t.others) k.lines h k.drained.1.1, k.drained.1.2));
    joins = joins-before from line mid given t whole k.lines end k.joins;
  }
  group-before from line mid given (Some (Ok other)) to t whole h k = tt
  group-before from line mid given (Some (Err error)) to t whole h (inl k) = inl (record {
    lines = t.first ∷ t.others ++ k.lines;
    given_lines = (k.given_lines.0, given-after from mid.lines k.given_lines.0 (t.first ∷ t.others) k.lines h k.given_lines.1, k.given_lines.2);
    joins = joins-before from line mid given t whole k.lines fault k.joins;
  })
  group-before from line mid given (Some (Err error)) to t whole h (inr k) = inr k

  -- after the end there is nothing more
  only-none : (s : LogicalLines I) (answer : Option (Result LogicalLine LineError)) (to : LogicalLines I) → s.is_done ≡ true → GivesLogicalLine steps s answer to
      → answer ≡ None
  only-none s None to d h = refl
  only-none s (Some answer) to d h = absurd (cc (d, h.0))

  nothing-after : (s t to : LogicalLines I) (given : List LogicalLine) (answer : Option (Result LogicalLine LineError)) → s.is_done ≡ true
      → Yields (GivesLogicalLine steps) s (map Ok given) t → GivesLogicalLine steps t answer to → (given ≡ []) × (answer ≡ None)
  nothing-after s t to [] answer d h k = (refl, only-none s answer to d (subst (λ v. GivesLogicalLine steps v answer to) (sym h) k))
  nothing-after s t to (line ∷ given) answer d h k = absurd (cc (d, h.1.0))

  -- a group that stands open at the end is the last
  group-last : (from : I) (line : LogicalLine) (mid : LogicalLines I) (to : I) (t : TakesGroup steps from line mid) → IsUnfinished (natural_lines (t.first ∷ t.others))
      → GivesThen steps from (t.first ∷ t.others) None mid.lines → JoinsUpTo steps from (line ∷ []) None to
  group-last from line mid to t unfinished h = record {
    lines = t.first ∷ t.others;
    drained = (mid.lines, h);
    joins = ap (λ v. v ∷ []) (line-joined from line mid t) ∙ sym (logical_lines-last (natural_lines (t.first ∷ t.others)) unfinished);
  }

  -- ---- all that is given

  -- where no line is given before the end or an error
  first-end : (s : LogicalLines I) (answer : Option (Result LogicalLine LineError)) (to : LogicalLines I) → s.is_done ≡ false → GivesLogicalLine steps s answer to
      → JoinsUpTo steps s.lines [] answer to.lines
  first-end s None to d (e, inl h) = absurd (cc (d, h.0))
  first-end s None to d (e, inr h) = record { lines = []; drained = (to.lines, (s.lines, refl, h.1)); joins = refl }
  first-end s (Some (Ok line)) to d h = tt
  first-end s (Some (Err error)) to d (e, (f, inl h)) =
      inl (record { lines = h.lines; given_lines = h.given; joins = sym (logical_lines-lost (natural_lines h.lines) h.unfinished) })
  first-end s (Some (Err error)) to d (e, (f, inr h)) = inr h.plain

  -- before the others, where the natural lines did not end
  line-first : (s : LogicalLines I) (line : LogicalLine) (mid t to : LogicalLines I) (given : List LogicalLine) (answer : Option (Result LogicalLine LineError))
      → (mid.is_done ≡ false → JoinsUpTo steps mid.lines given answer to.lines) → Yields (GivesLogicalLine steps) mid (map Ok given) t → GivesLogicalLine steps t answer to
      → (taken : TakesGroup steps s.lines line mid) → EndsGroup steps s.lines (taken.first ∷ taken.others) mid → JoinsUpTo steps s.lines (line ∷ given) answer to.lines
  line-first s line mid t to given answer rest h k taken (inl e) = group-before s.lines line mid given answer to.lines taken e.1 e.2 (rest e.0)
  line-first s line mid t to given answer rest h k taken (inr e) =
      let p = nothing-after mid t to given answer e.0 h k in
      rw (p.0, p.1) (group-last s.lines line mid to.lines taken e.1 e.2)

  -- Whatever is given is what the natural lines are joined to.
  pub joins_all : (s : LogicalLines I) → s.is_done ≡ false → JoinsEach steps s
  joins_all s d [] answer to (t, h, k) = first-end s answer to d (subst (λ v. GivesLogicalLine steps v answer to) (sym h) k)
  joins_all s d (line ∷ given) answer to (t, h, k) =
      line-first s line h.0 t to given answer (λ e. joins_all h.0 e given answer to (t, h.2, k)) h.2 k h.1.1 h.1.1.ends
