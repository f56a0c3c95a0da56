-- How lines that an iterator gives are joined, one at a time.
use Rattle.std.proofs.Common.{◌≡◌, ℕ, ◌<◌, ◌-◌, ◌⊎◌, true, false, List, [], ◌∷◌, ◌++◌, length, take, get_or, refl, ap, sym, ◌∙◌, subst, inl, inr, arith}
use Rattle.std.specs.Prelude.{map, Option, Some, None, Result, Ok, Err}
use Rattle.std.specs.Iterator.{Yields}
use Rattle.std.specs.Str.{IsUtf8, chars}
use Rattle.std.specs.String.{string_bytes}
use Rattle.std.proofs.lemmas.List.{map-append}
use Rattle.std.proofs.lemmas.Str.{chars-append}
use Rattle.properties_format.specs.Lines.{is_comment_line, is_open, addition, without_open_backslash, joined, IsWhole, IsUnfinished}
use Rattle.properties_format.specs.Computed.Lines.{closes}
use Rattle.properties_format.proofs.Groups.Joined.{joined-comment_line, joined-one, joined-closed, joined-push}
use Rattle.properties_format.proofs.Groups.Meets.{close-whole, leave-unfinished}
use Rattle.properties_format.proofs.Groups.Steps.{closes-comment_line, closes-closed, closes-goes_on}
use Rattle.properties_text.proofs.Texts.Joins.{cut_open}
use Rattle.single_lines.specs.Joining.{Steps, natural_line, natural_lines, GivesLines, TakesGroup, TakesError, LacksMemory}
use Rattle.properties_lines.specs.declared.error.LineError.TheVariants as why
use Rattle.properties_lines.specs.declared.error.LineError.{LineError}
use Rattle.single_lines.specs.declared.natural.NaturalLine.{NaturalLine}
use Rattle.single_lines.specs.declared.logical.LogicalLine.{LogicalLine}
use Rattle.single_lines.specs.declared.logical.LogicalLines.{LogicalLines}

-- one call more
pub yields-push : {S A : Type 0} (steps : S → Option A → S → Type 0) (s t u : S) (xs : List A) (x : A)
    → Yields steps s xs t → steps t (Some x) u → Yields steps s (xs ++ x ∷ []) u
yields-push steps s t u [] x h k = (u, subst (λ v. steps v (Some x) u) (sym h) k, refl)
yields-push steps s t u (y ∷ ys) x h k = (h.0, h.1, yields-push steps h.0 t u ys x h.2 k)

-- a text to which the addition of a line was put
pub text-added : (old new added line shown : List ℕ) → IsUtf8 old → new ≡ old ++ added → chars added ≡ addition (chars shown) → shown ≡ line
    → chars new ≡ chars old ++ addition (chars line)
text-added old new added line shown u e a s = ap chars e ∙ chars-append old added u ∙ ap (λ v. chars old ++ v) (a ∙ ap (λ v. addition (chars v)) s)

-- what is left where the last character of an open text was taken off
pub popped : (bs rest : List ℕ) (n : ℕ) → IsUtf8 bs → is_open (chars bs) ≡ true → n ≡ length bs
    → (0 < n → get_or bs (n - 1) 0 < 128 → rest ≡ take (n - 1) bs) → chars rest ≡ without_open_backslash (chars bs)
popped bs rest n u h e taken =
    let cut = cut_open bs u h in
    let same : n - 1 ≡ length bs - 1 = ap (λ m. m - 1) e in
    let some : 0 < n = omega (arith, cut.some) in
    let ascii : get_or bs (n - 1) 0 < 128 = subst (λ m. get_or bs m 0 < 128) (sym same) (subst (λ c. c < 128) (sym cut.last) (omega arith)) in
    ap chars (taken some ascii ∙ ap (λ m. take m bs) same) ∙ cut.rest

module _ {I : Type 0} (steps : Steps I) where
  -- A join so far: the lines after the first, with which the group stands open, and the text that they gave.
  pub record JoinsSoFar (from : I) (first : NaturalLine) (text : List ℕ) (to : I) : Type 0 where
    pub others : List NaturalLine
    pub given : GivesLines steps from others to
    pub unfinished : IsUnfinished (natural_lines (first ∷ others))
    pub joins : text ≡ joined (natural_lines (first ∷ others))

  -- an open line that is no comment line begins one
  pub join-begins : (from : I) (first : NaturalLine) (text : List ℕ) → is_comment_line (chars (string_bytes first.1)) ≡ false
      → is_open (chars (string_bytes first.1)) ≡ true → text ≡ without_open_backslash (chars (string_bytes first.1)) → JoinsSoFar from first text from
  join-begins from first text h k e = record {
    others = [];
    given = refl;
    unfinished = (h, (k, tt));
    joins = e ∙ sym (joined-one (natural_line first) h);
  }

  natural-push : (first : NaturalLine) (others : List NaturalLine) (next : NaturalLine)
      → natural_lines (first ∷ others ++ next ∷ []) ≡ natural_lines (first ∷ others) ++ natural_line next ∷ []
  natural-push first others next = ap (λ v. natural_line first ∷ v) (map-append natural_line others (next ∷ []))

  given-push : (from to after : I) (others : List NaturalLine) (next : NaturalLine) → GivesLines steps from others to → steps to (Some (Ok next)) after
      → GivesLines steps from (others ++ next ∷ []) after
  given-push from to after others next h k =
      let P : List (Result NaturalLine LineError) → Type 0 = λ v. Yields steps from v after in
      subst P (sym (map-append Ok others (next ∷ []))) (yields-push steps from to after (map Ok others) (Ok next) h k)

  text-push : (from to : I) (first next : NaturalLine) (text : List ℕ) (s : JoinsSoFar from first text to)
      → text ++ addition (chars (string_bytes next.1)) ≡ joined (natural_lines (first ∷ s.others ++ next ∷ []))
  text-push from to first next text s =
      ap (λ v. v ++ addition (chars (string_bytes next.1))) s.joins
      ∙ sym (ap joined (natural-push first s.others next) ∙ joined-push (natural_line first) (natural_lines s.others) (natural_line next) s.unfinished.0)

  -- an open line goes on with it
  pub join-goes_on : (from to after : I) (first next : NaturalLine) (text : List ℕ) → JoinsSoFar from first text to → steps to (Some (Ok next)) after
      → is_open (chars (string_bytes next.1)) ≡ true → JoinsSoFar from first (text ++ addition (chars (string_bytes next.1))) after
  join-goes_on from to after first next text s k h =
      let open_lines = natural_lines (first ∷ s.others) in
      record {
        others = s.others ++ next ∷ [];
        given = given-push from to after s.others next s.given k;
        unfinished = subst IsUnfinished (sym (natural-push first s.others next))
            (leave-unfinished open_lines (natural_line next) s.unfinished (closes-goes_on (natural_line first) (natural_lines s.others) (natural_line next) h));
        joins = text-push from to first next text s;
      }

  -- a line that is not open closes it
  pub join-closes : (before from to : I) (first next : NaturalLine) (text : List ℕ) (line : LogicalLine) (after : LogicalLines I)
      → steps before (Some (Ok first)) from → JoinsSoFar from first text to → steps to (Some (Ok next)) after.lines
      → is_open (chars (string_bytes next.1)) ≡ false → after.is_done ≡ false → line.0 ≡ first.0
      → chars (string_bytes line.1) ≡ text ++ addition (chars (string_bytes next.1)) → TakesGroup steps before line after
  join-closes before from to first next text line after b s k h d n e = record {
    first = first;
    others = s.others ++ next ∷ [];
    number = n;
    text = e ∙ text-push from to first next text s;
    ends = inl (
      d,
      subst IsWhole (sym (natural-push first s.others next))
          (close-whole (natural_lines (first ∷ s.others)) (natural_line next) s.unfinished
          (closes-closed (natural_lines (first ∷ s.others)) (natural_line next) h)),
      (from, b, given-push from to after.lines s.others next s.given k),
    );
  }

  -- so does the end
  pub join-ends : (before from to : I) (first : NaturalLine) (text : List ℕ) (line : LogicalLine) (after : LogicalLines I)
      → steps before (Some (Ok first)) from → JoinsSoFar from first text to → steps to None after.lines
      → after.is_done ≡ true → line.0 ≡ first.0 → chars (string_bytes line.1) ≡ text → TakesGroup steps before line after
  join-ends before from to first text line after b s k d n e = record {
    first = first;
    others = s.others;
    number = n;
    text = e ∙ s.joins;
    ends = inr (d, s.unfinished, (to, (from, b, s.given), k));
  }

  -- an error breaks it off
  pub join-fails : (before from to after : I) (first : NaturalLine) (text : List ℕ) (error : LineError)
      → steps before (Some (Ok first)) from → JoinsSoFar from first text to → steps to (Some (Err error)) after → TakesError steps before error after
  join-fails before from to after first text error b s k = record {
    lines = first ∷ s.others;
    unfinished = s.unfinished;
    given = (to, (from, b, s.given), k);
  }

  -- so does running out of memory
  pub join-lacks : (before from to after : I) (first next : NaturalLine) (text : List ℕ) (error : LineError)
      → steps before (Some (Ok first)) from → JoinsSoFar from first text to → steps to (Some (Ok next)) after → error ≡ why.Memory
      → LacksMemory steps before error after
  join-lacks before from to after first next text error b s k p = record {
    lines = first ∷ s.others ++ next ∷ [];
    given = (from, b, given-push from to after s.others next s.given k);
    plain = p;
  }

  -- a line that no other is joined to
  pub stands-alone : (before : I) (first : NaturalLine) (after : LogicalLines I) → steps before (Some (Ok first)) after.lines → after.is_done ≡ false
      → (is_comment_line (chars (string_bytes first.1)) ≡ true) ⊎ (is_open (chars (string_bytes first.1)) ≡ false)
      → TakesGroup steps before (record { 0 = first.0; 1 = first.1 }) after
  stands-alone before first after b d h = record {
    first = first;
    others = [];
    number = refl;
    text = alone h;
    ends = inl (d, close-whole [] (natural_line first) tt (closing h), (after.lines, b, refl));
  }
    where
      alone : (is_comment_line (chars (string_bytes first.1)) ≡ true) ⊎ (is_open (chars (string_bytes first.1)) ≡ false)
          → chars (string_bytes first.1) ≡ joined (natural_line first ∷ [])
      alone (inl k) = sym (joined-comment_line (natural_line first) [] k)
      alone (inr k) = sym (joined-closed (natural_line first) k)

      closing : (is_comment_line (chars (string_bytes first.1)) ≡ true) ⊎ (is_open (chars (string_bytes first.1)) ≡ false)
          → closes [] (natural_line first) ≡ true
      closing (inl k) = closes-comment_line (natural_line first) k
      closing (inr k) = closes-closed [] (natural_line first) k
