-- The findings of a source, taken line by line.
use Rattle.std.proofs.Common.{◌≡◌, ◌≢◌, ℕ, ◌+◌, ◌^◌, ◌<◌, Bool, true, false, List, [], ◌∷◌, ◌++◌, length, refl, sym, inl, inr, subst, append-nil}
use Rattle.std.specs.Prelude.{Option, Some, None, Ok, Err}
use Rattle.std.specs.{Borrow.Bor, Str.chars}
use Rattle.properties_format.specs.{Encoding.Encoding, Items.Content, Items.given, ItemsToCome.ReaderState, ItemsToCome.start, Computed.Items.outcome_of}
use Rattle.properties_format.specs.Computed.Found.{found_in}
use Rattle.properties_format.specs.Lines.{Line, first_number, is_comment_line, joined}
use Rattle.properties_format.proofs.Found.{found-in_groups, found_in-append}
use Rattle.properties_lines.specs.{LineJoiner.LineState, LineJoiner.JoinsNext, LineJoiner.JoinsError, declared.error.LineError.LineError}
use Rattle.properties_items.specs.{Errors.kind_of, Errors.malformed_kind, Errors.IsLineError, BorrowedItems.IsNoItem}
use Rattle.properties_items.specs.declared.error.PropertiesError.{PropertiesError}
use Rattle.properties_items.specs.declared.error.ErrorKind.TheVariants as kind
use Rattle.java_properties.specs.Private.LineByLine.{Collected}
use Rattle.java_properties.proofs.MalformedEscapes.{collected-lines, collected-next, collected-start, collected-error}
use Rattle.java_properties.proofs.SliceReads.{collected-slice, slice_of, slice_reader, slice-whole}
use Rattle.java_properties.proofs.SourceFindings.{slice-error}
use Rattle.properties_tables.specs.Private.Fold.{before_some, content_finding, findings_from, found_escape, outcome_finding, AreFindings, Finding, Takes, TakesAll, TakesLine, TakesSome}

-- ---- the findings of groups

abbrev pub findings_in : List (List Line) → List Finding
findings_in groups = found_in findings_from groups

some-append : (o : Option Finding) (xs ys : List Finding) → before_some o (xs ++ ys) ≡ before_some o xs ++ ys
some-append None xs ys = refl
some-append (Some x) xs ys = refl

-- those of one group more come last
findings-push : (gs : List (List Line)) (g : List Line)
    → findings_in (gs ++ g ∷ []) ≡ findings_in gs ++ before_some (outcome_finding (first_number g) (joined g) (outcome_of (joined g))) []
findings-push gs g = found_in-append findings_from (λ n x o xs ys. some-append (outcome_finding n x o) xs ys) gs (g ∷ [])

-- ---- the reading

module _ {T : Type 0} (Took : T → List Finding → T → Type 0) (first : T) (e : Encoding) (source : List ℕ) where
  -- The taker took the findings of the groups that came.
  pub record HasTaken (taker : T) (state : ReaderState) (to : Bor (List ℕ)) : Type 0 where
    pub groups : List (List Line)
    pub collected : Collected slice_reader e (slice_of source) groups state to
    pub took : Took first (findings_in groups) taker

module _ {T : Type 0} {Took : T → List Finding → T → Type 0} {first : T} {e : Encoding} {source : List ℕ} where
  -- before the first line
  pub taken-none : (state : ReaderState) → state ≡ start e → Took first [] first → HasTaken Took first e source first state (slice_of source)
  taken-none state is took = rw is (record { groups = []; collected = collected-start e (slice_of source); took = took })

  -- a logical line came
  pub taken-more : {to next : Bor (List ℕ)} {s : ReaderState} {old taker : T} (number : ℕ) (new : LineState) → HasTaken Took first e source old s to
      → JoinsNext slice_reader s to number new next → TakesLine Took number (chars new.line) old (Ok tt) taker → HasTaken Took first e source taker new.state next
  taken-more {next = next} {old = old} {taker = taker} number new h n takes = record {
    groups = h.groups ++ g ∷ [];
    collected = collected-next number new h.collected n;
    took = subst (λ v. Took first v taker) (sym (findings-push h.groups g)) (by (outcome_finding (first_number g) (joined g) (outcome_of (joined g))) here);
  }
    where
      g : List Line
      g = n.group.first ∷ n.group.others

      here : TakesSome Took old (outcome_finding (first_number g) (joined g) (outcome_of (joined g))) taker
      here =
          subst (λ m. TakesSome Took old (outcome_finding m (joined g) (outcome_of (joined g))) taker) n.group.number
          (subst (λ x. TakesSome Took old (outcome_finding number x (outcome_of x)) taker) n.group.text takes)

      by : (o : Option Finding) → TakesSome Took old o taker → Took first (findings_in h.groups ++ before_some o []) taker
      by None same = rw (same, append-nil) h.took
      by (Some finding) more = more first (findings_in h.groups) h.took

  -- no line came
  pub taken-failed : {to next : Bor (List ℕ)} {s t : ReaderState} {taker : T} {why : LineError} {error : PropertiesError} → length source + 1 < 2 ^ 64
      → HasTaken Took first e source taker s to → s.is_done ≡ false → JoinsError slice_reader s to why t next → IsLineError why error
      → TakesAll Took first e source (Err error)
  taken-failed {next = next} small h live f says = slice-error e (slice_of source) next _ small (collected-error h.collected live f says)

  -- no more came
  pub taken-all : {to : Bor (List ℕ)} {s : ReaderState} {taker : T} → HasTaken Took first e source taker s to → s.is_done ≡ true → TakesAll Took first e source (Ok taker)
  taken-all h d = (
    findings_in h.groups,
    subst (λ v. AreFindings e v (findings_in h.groups)) (slice-whole h.collected.read (h.collected.ended d))
        (found-in_groups findings_from (collected-lines h.collected d)),
    h.took,
  )

  -- Where a slice is doesn't matter.
  pub taken-at : {to next : Bor (List ℕ)} {s : ReaderState} {taker : T} → to.now ≡ next.now → HasTaken Took first e source taker s to
      → HasTaken Took first e source taker s next
  taken-at same h = record { groups = h.groups; collected = collected-slice same h.collected; took = h.took }

-- ---- a logical line

module _ {T : Type 0} (Took : T → List Finding → T → Type 0) (number : ℕ) (x : List ℕ) (old new : T) where
  -- an item
  pub takes-item : (content : Content) → outcome_of x ≡ given content → TakesSome Took old (content_finding number content) new
      → TakesLine Took number x old (Ok tt) new
  takes-item content is takes = subst (λ o. TakesSome Took old (outcome_finding number x o) new) (sym is) takes

  -- a malformed escape
  pub takes-malformed : (error : PropertiesError) (in_comment : Bool) → IsNoItem number x error → kind_of error ≢ kind.Memory
      → in_comment ≡ is_comment_line x
      → Takes Took old (found_escape (record { line_number = number; kind = kind_of error; in_comment = in_comment }) x) new
      → TakesLine Took number x old (Ok tt) new
  takes-malformed error in_comment (inl (how, is, says)) other same takes =
      subst (λ o. TakesSome Took old (outcome_finding number x o) new) (sym is)
      (subst (λ b. Takes Took old (found_escape (record { line_number = number; kind = malformed_kind how; in_comment = b }) x) new) same
      (subst (λ k. Takes Took old (found_escape (record { line_number = number; kind = k; in_comment = in_comment }) x) new) says.its_kind takes))
  takes-malformed error in_comment (inr is) other same takes = absurd (other is.its_kind)
