-- The sections of a view, one after another: what was copied of them, and which are left out with keys.
use Rattle.std.proofs.Common.{inl, inr, ◌≡◌, ◌≤◌, ◌<◌, ℕ, ◌+◌, ◌-◌, Bool, true, false, List, [], ◌∷◌, ◌++◌, length, take, drop, refl, sym, ap, ap₂, ◌∙◌, subst, arith, append_assoc, append-nil, length-append}
use Rattle.std.specs.Prelude.{bytes_eq, is_some, ◌&&◌, ◌||◌, ◌==◌, not, if◌then◌else◌, Option, Some, None}
use Rattle.std.specs.Map.{update}
use Rattle.std.specs.Option.{unwrap_or}
use Rattle.std.specs.declared.string.String.{String}
use Rattle.std.proofs.Math.Seq.{drop-append_seam, take-append_seam}
use Rattle.std.proofs.lemmas.Bool.{cases_Bool}
use Rattle.std.proofs.lemmas.List.{drop-drop, length-drop}
use Rattle.properties_format.specs.Text.{line_feed}
use Rattle.properties_format.specs.Encoding.{Encoding, InForce, begins_like_bom, byte_order_mark}
use Rattle.properties_format.specs.Items.{IsOutcome, Outcome, broken, given, ignored}
use Rattle.properties_format.specs.Items as items
use Rattle.properties_format.specs.Lines.{is_comment_line, joined}
use Rattle.properties_format.specs.Split.{Logical, blank, comment, pair, IsSplit}
use Rattle.properties_format.specs.Body.{HeldLine, as_lines, group_bytes, groups_bytes, held_in}
use Rattle.properties_format.specs.Edited.{bom_of, guarding_lf}
use Rattle.properties_format.specs.Computed.Body.{held_groups_of}
use Rattle.properties_format.specs.Computed.Items.{outcome_of}
use Rattle.properties_format.proofs.Body.Groups.{groups_bytes-append, held_groups_of-only}
use Rattle.properties_format.proofs.Items.Unique.{outcome_of-meets, outcome_of-only}
use Rattle.properties_editing.specs.Views.{AreGiven, IsGroup, IsViewOf, OpenView, TakesNext, group_kind, viewed_line, past_group, with_bytes}
use Rattle.properties_editing.specs.declared.group.ViewedGroup.{ViewedGroup}
use Rattle.properties_renaming.specs.CommentLines.{AreCommentGroups, IsCommentGroup, is_comment, is_line_of_comment, lines_in_text}
use Rattle.properties_renaming.specs.Commented.{HasOneOf, IsLeftOf, IsRemovedWithComments}
use Rattle.properties_renaming.specs.Renaming.{AreIn}
use Rattle.properties_renaming.specs.Sections.{AreDivided, AreMadeOf, AreSections, Section, groups_of, is_among}
use Rattle.properties_renaming.specs.Private.Commented.{AreListed, GivesHeaded, TakesHeaded}
use Rattle.properties_renaming.specs.Private.Copied.{IsNew, IsReplacedIn, copied_to}
use Rattle.properties_renaming.specs.Private.Keyed.{GivesValue, value_at, value_of}
use Rattle.properties_renaming.specs.FoundSeparators.{IsRunOf, PassesGroup}
use Rattle.properties_renaming.specs.declared.comments.Headed.{Headed}
use Rattle.properties_renaming.specs.declared.copied.Copied.{Copied}
use Rattle.properties_renaming.specs.declared.separators.LastRun.{LastRun}
use Rattle.properties_renaming.proofs.CommentGroups.{comment-ended, comment_in-only, comments-more, end-more, group-comment, group-other, line-blank, line-comment, line-pair, whole-if}
use Rattle.properties_renaming.proofs.RenamedKeys.{copied-more, held-push, mark-front}
use Rattle.properties_renaming.proofs.SeparatedRuns.{EndIn, above_if, below_if, none-yet}
use Rattle.properties_renaming.proofs.SectionedGroups.{groups-append, groups-push, one-division, one-made, sections-push}

-- ---- what is told of a group

-- What a line is says whether it is a comment line.
pub kind-comment : (x : List ℕ) (what : Logical) → IsSplit x what → is_comment_line x ≡ is_comment (group_kind what)
kind-comment x blank s = line-blank x s
kind-comment x (comment text) s = line-comment x text s
kind-comment x (pair key value) s = line-pair x key value s

told : (v : OpenView) (group : ViewedGroup) → IsGroup v group
    → is_line_of_comment group ≡ (is_comment_line (joined (as_lines v.group)) && (length v.group == 1))
told v group h =
    ap₂ (λ c n. c && (n == 1)) (ap is_comment h.kind_is ∙ sym (kind-comment (viewed_line v) h.what h.is_split)) h.line_count

pub told-comment : (v : OpenView) (group : ViewedGroup) → IsGroup v group → is_line_of_comment group ≡ true → IsCommentGroup v.group
told-comment v group h k = group-comment v.group (sym (told v group h) ∙ k)

pub told-other : (v : OpenView) (group : ViewedGroup) → IsGroup v group → is_line_of_comment group ≡ false → ¬ (IsCommentGroup v.group)
told-other v group h k = group-other v.group (sym (told v group h) ∙ k)

-- The logical line of a comment line is one.
pub told-line : (v : OpenView) (group : ViewedGroup) → IsGroup v group → is_line_of_comment group ≡ true → is_comment_line (viewed_line v) ≡ true
told-line v group h k = let c = sym (told v group h) ∙ k in grind (arith)

-- ---- the next group that isn't a comment line

-- Comment lines alone were passed; those above are known to go up to a separator.
pub record ArePassed (v now : OpenView) (above comment : List (List HeldLine)) (begun : Option ℕ) (last : LastRun) : Type 0 where
  pub are_comments : AreCommentGroups (above ++ comment)
  pub division : v.to_come ≡ (above ++ comment) ++ now.to_come
  pub place : (past_group now).start ≡ (past_group v).start + length (groups_bytes (above ++ comment))
  pub passed : (past_group now).passed ≡ (past_group v).passed + length (held_in (above ++ comment))
  pub ends : EndIn (lines_in_text above) (lines_in_text comment) last
  pub start : unwrap_or begun (past_group now).start ≡ (past_group v).start + length (groups_bytes above)
  pub nearer : length now.to_come ≤ length v.to_come

pub none-passed : (v : OpenView) (last : LastRun) → IsRunOf [] last → ArePassed v v [] [] None last
none-passed v last none = record {
  are_comments = tt;
  division = refl;
  place = omega arith;
  passed = omega arith;
  ends = none-yet last none;
  start = omega arith;
  nearer = omega arith;
}

pub moved : {now next : OpenView} {group : ViewedGroup} → TakesNext now group next → next.start ≡ (past_group now).start
moved t = ap (λ w. let o : OpenView = w in o.start) t.moves

pub numbered : {now next : OpenView} {group : ViewedGroup} → TakesNext now group next → next.passed ≡ (past_group now).passed
numbered t = ap (λ w. let o : OpenView = w in o.passed) t.moves

-- The comment begins anew if a separator is directly above the next group.
begun-start : {v now : OpenView} {above comment : List (List HeldLine)} {begun begun' : Option ℕ} {last : LastRun} (found : Bool)
    → ArePassed v now above comment begun last → begun' ≡ (if found then None else begun)
    → unwrap_or begun' (past_group now).start ≡ (past_group v).start + length (groups_bytes (above_if found above comment))
begun-start {now = now} true h is = ap (λ b. unwrap_or b (past_group now).start) is ∙ h.place
begun-start {now = now} false h is = ap (λ b. unwrap_or b (past_group now).start) is ∙ h.start

module _ {v now next : OpenView} {above comment : List (List HeldLine)} {begun begun' : Option ℕ} {old : LastRun} (group : ViewedGroup) (start : ℕ)
    (found : Bool) where
  pub same-start : ArePassed v now above comment begun old → TakesNext now group next → begun' ≡ (if found then None else begun)
      → start ≡ unwrap_or begun' group.start → start ≡ (past_group v).start + length (groups_bytes (above_if found above comment))
  same-start h t is at = at ∙ ap (unwrap_or begun') (t.is_group.start ∙ moved t) ∙ begun-start found h is

  -- One more was passed,
  pub one-passed : {new : LastRun} → ArePassed v now above comment begun old → TakesNext now group next → PassesGroup (is_line_of_comment group) (viewed_line next) old found new
      → begun' ≡ (if found then None else begun) → start ≡ unwrap_or begun' group.start → is_line_of_comment group ≡ true
      → ArePassed v next (above_if found above comment) (below_if found comment ++ next.group ∷ []) (Some start) new
  one-passed {new} h t p is at line =
      let g = next.group in
      let up = above_if found above comment in
      let low = below_if found comment in
      let all = above ++ comment in
      let run : all ++ g ∷ [] ≡ up ++ (low ++ g ∷ []) = ap (λ w. w ++ g ∷ []) (whole-if found above comment) ∙ append_assoc up low (g ∷ []) in
      let bytes : groups_bytes (up ++ (low ++ g ∷ [])) ≡ groups_bytes all ++ group_bytes g =
      ap groups_bytes (sym run) ∙ groups_bytes-append all (g ∷ []) ∙ ap (λ w. groups_bytes all ++ w) (append-nil (group_bytes g)) in
      let size : length (groups_bytes (up ++ (low ++ g ∷ []))) ≡ length (groups_bytes all) + length (group_bytes g) =
      ap length bytes ∙ length-append (groups_bytes all) (group_bytes g) in
      let place = h.place in
      let at_start = moved t in
      let numbers = h.passed in
      let number = numbered t in
      let lines : length (held_in (up ++ (low ++ g ∷ []))) ≡ length (held_in all) + length g = ap (λ gs. length (held_in gs)) (sym run) ∙ held-push all g in
      let counted : length now.to_come ≡ length (g ∷ next.to_come) = ap length t.takes in
      let nearer = h.nearer in
      record {
        are_comments = subst AreCommentGroups run (comments-more all g h.are_comments (told-comment next group t.is_group line));
        division = h.division ∙ ap (λ w. all ++ w) t.takes ∙ sym (append_assoc all (g ∷ []) next.to_come) ∙ ap (λ w. w ++ next.to_come) run;
        place = omega arith;
        passed = omega arith;
        ends = end-more found above comment g (told-line next group t.is_group line) (subst (λ b. PassesGroup b (viewed_line next) old found new) line p) h.ends;
        start = same-start h t is at;
        nearer = omega arith;
      }

  -- and another group comes;
  abbrev pub headed-next : (new : LastRun) → ArePassed v now above comment begun old → TakesNext now group next → PassesGroup (is_line_of_comment group) (viewed_line next) old found new
      → begun' ≡ (if found then None else begun) → start ≡ unwrap_or begun' group.start → is_line_of_comment group ≡ false
      → TakesHeaded v (record { start = start; group = group }) next
  headed-next new h t p is at other = record {
    run = above ++ comment;
    are_comments = h.are_comments;
    other = told-other next group t.is_group other;
    takes = h.division ∙ ap (λ w. (above ++ comment) ++ w) t.takes;
    above = above_if found above comment;
    comment = below_if found comment;
    is_comment = comment-ended found above comment (viewed_line next) (subst (λ b. PassesGroup b (viewed_line next) old found new) other p) h.ends;
    start = same-start h t is at;
    group_start = moved t ∙ h.place;
    passed = numbered t ∙ h.passed;
    is_group = t.is_group;
  }

pub headed-nearer : {v now next : OpenView} {above comment : List (List HeldLine)} {begun : Option ℕ} {last : LastRun} {group : ViewedGroup}
    → ArePassed v now above comment begun last → TakesNext now group next → length next.to_come < length v.to_come
headed-nearer {now = now} {next} h t =
    let counted : length now.to_come ≡ length (next.group ∷ next.to_come) = ap length t.takes in
    let nearer = h.nearer in
    omega arith

-- or none is to come.
pub passed-all : {v now : OpenView} {above comment : List (List HeldLine)} {begun : Option ℕ} {last : LastRun} → ArePassed v now above comment begun last
    → now.to_come ≡ [] → AreCommentGroups v.to_come
passed-all {above = above} {comment} h none =
    subst AreCommentGroups (sym (h.division ∙ ap (λ w. (above ++ comment) ++ w) none ∙ append-nil (above ++ comment))) h.are_comments

-- No other group is to come.
pub headed-none : (old new : OpenView) (answer : Option Headed) → GivesHeaded old answer new → ((headed : Headed) → answer ≡ Some headed → ⊥)
    → AreCommentGroups old.to_come
headed-none old new None h none = h
headed-none old new (Some headed) h none = absurd (none headed refl)

-- ---- group after group

-- What was copied of the sections that a view gave so far, given what is made of a section.
pub record IsMadeUpTo (Makes : Section → List (List HeldLine) → List ℕ → Type 0) (source : List ℕ) (v now : OpenView) (c : Copied) : Type 0 where
  pub passed : List Section
  pub are_sections : AreSections passed
  pub division : v.to_come ≡ groups_of passed now.to_come
  pub rest : groups_bytes now.to_come ≡ drop (past_group now).start source
  pub within : (past_group now).start ≤ length source
  pub number : (past_group now).passed ≡ length (held_in (groups_of passed []))
  pub source_is : c.source.now ≡ source
  pub done : c.done ≤ (past_group now).start
  pub made : List ℕ
  pub copied : copied_to c (past_group now).start ≡ take v.start source ++ made
  pub goes_on : (ss : List Section) (last : List (List HeldLine)) (more : List ℕ) → now.to_come ≡ groups_of ss last → AreMadeOf Makes ss last more
      → AreMadeOf Makes (passed ++ ss) last (made ++ more)

-- Nothing was copied yet.
pub none-made : {Makes : Section → List (List HeldLine) → List ℕ → Type 0} {requested : Encoding} {source : List ℕ} {v : OpenView} {c : Copied}
    → IsViewOf requested source v → IsNew source c → IsMadeUpTo Makes source v v c
none-made {source = source} {v = v} {c = c} h k =
    let none : length (group_bytes v.group) ≡ 0 = ap (λ g. length (group_bytes g)) h.none_given in
    let place : (past_group v).start ≡ v.start = omega arith in
    let none_given : length v.group ≡ 0 = ap length h.none_given in
    let none_passed = h.none_passed in
    let within = h.within in
    let zero_off : v.start - 0 ≡ v.start = omega arith in
    record {
      passed = [];
      are_sections = tt;
      division = refl;
      rest = h.given.together ∙ ap (λ n. drop n source) (sym place);
      within = omega arith;
      number = omega arith;
      source_is = k.source_is;
      done = let d = k.done in omega arith;
      made = [];
      copied = ap₂ (λ b s. b ++ take ((past_group v).start - c.done) (drop c.done s)) k.nothing k.source_is
          ∙ ap₂ (λ n d. take (n - d) (drop d source)) place k.done
          ∙ ap (λ n. take n source) zero_off
          ∙ sym (append-nil (take v.start source));
      goes_on = λ ss last more is k. k;
    }

-- The comment lines above a group, and the group, are a part of the source.
pub record IsRun (source : List ℕ) (start : ℕ) (all rest : List ℕ) (end : ℕ) : Type 0 where
  pub size : start + length all ≡ end
  pub bytes : take (length all) (drop start source) ≡ all
  pub after : rest ≡ drop end source
  pub within : end ≤ length source

run-in : (source : List ℕ) (start : ℕ) (all rest : List ℕ) (end : ℕ) → start ≤ length source → start + length all ≡ end
    → drop start source ≡ all ++ rest → IsRun source start all rest end
run-in source start all rest end within size parts =
    let counted : length (drop start source) ≡ length all + length rest = ap length parts ∙ length-append all rest in
    let left = length-drop start source in
    record {
      size = size;
      bytes = ap (take (length all)) parts ∙ take-append_seam all rest;
      after = sym (ap (λ k. drop k source) (sym size) ∙ sym (drop-drop (length all) start source) ∙ ap (drop (length all)) parts ∙ drop-append_seam all rest);
      within = omega arith;
    }

-- the section that was given
abbrev pub given_section : {now next : OpenView} {headed : Headed} → TakesHeaded now headed next → Section
given_section {next = next} t = record { run = t.run; group = next.group }

-- the same with its comment alone
abbrev pub given_comment : {now next : OpenView} {headed : Headed} → TakesHeaded now headed next → Section
given_comment {next = next} t = record { run = t.comment; group = next.group }

pub run-size : {now next : OpenView} {headed : Headed} (t : TakesHeaded now headed next)
    → length (groups_bytes t.run) ≡ length (groups_bytes t.above) + length (groups_bytes t.comment)
run-size t =
    ap (λ gs. length (groups_bytes gs)) t.is_comment.division ∙ ap length (groups_bytes-append t.above t.comment)
    ∙ length-append (groups_bytes t.above) (groups_bytes t.comment)

pub start-ordered : {now next : OpenView} {headed : Headed} → TakesHeaded now headed next → headed.start ≤ headed.group.next
start-ordered t =
    let size = run-size t in
    let start = t.start in
    let group_start = t.group_start in
    let next = t.is_group.next in
    omega arith

held-append : (gs hs : List (List HeldLine)) → length (held_in (gs ++ hs)) ≡ length (held_in gs) + length (held_in hs)
held-append [] hs = omega arith
held-append (f ∷ gs) hs =
    let more = held-append gs hs in
    let a = length-append f (held_in (gs ++ hs)) in
    let b = length-append f (held_in gs) in
    omega arith

module _ {Makes : Section → List (List HeldLine) → List ℕ → Type 0} {source : List ℕ} {v now next : OpenView} {c : Copied} (headed : Headed) where
  pub next-run : (h : IsMadeUpTo Makes source v now c) → (t : TakesHeaded now headed next)
      → IsRun source (past_group now).start (groups_bytes t.run ++ group_bytes next.group) (groups_bytes next.to_come) (past_group next).start
  next-run h t =
      let sizes = length-append (groups_bytes t.run) (group_bytes next.group) in
      let at = t.group_start in
      run-in source (past_group now).start (groups_bytes t.run ++ group_bytes next.group) (groups_bytes next.to_come) (past_group next).start h.within (omega arith)
      (sym h.rest
      ∙ ap groups_bytes t.takes
      ∙ groups_bytes-append t.run (next.group ∷ next.to_come)
      ∙ sym (append_assoc (groups_bytes t.run) (group_bytes next.group) (groups_bytes next.to_come)))

  -- the groups before it, and its line
  pub section-line : (h : IsMadeUpTo Makes source v now c) → (t : TakesHeaded now headed next)
      → (v.to_come ≡ (groups_of h.passed [] ++ t.run) ++ next.group ∷ next.to_come)
      × (headed.group.line_number ≡ length (held_in (groups_of h.passed [] ++ t.run)) + 1)
  section-line h t =
      let numbers = h.number in
      let counted = t.passed in
      let number = t.is_group.line_number in
      let sizes = held-append (groups_of h.passed []) t.run in (
        h.division
            ∙ ap (groups_of h.passed) t.takes
            ∙ groups-append h.passed [] (t.run ++ next.group ∷ next.to_come)
            ∙ sym (append_assoc (groups_of h.passed []) t.run (next.group ∷ next.to_come)),
        omega arith,
      )

  -- This was made of the next section.
  pub next-made : {c' : Copied} (made : List ℕ) → (h : IsMadeUpTo Makes source v now c) → (t : TakesHeaded now headed next) → c'.source.now ≡ c.source.now
      → c'.done ≤ (past_group next).start → copied_to c' (past_group next).start ≡ copied_to c (past_group now).start ++ made
      → Makes (given_section t) next.to_come made → IsMadeUpTo Makes source v next c'
  next-made {c'} made h t same done copied makes =
      let span = next-run h t in
      let s = given_section t in
      let numbers = h.number in
      let counted = t.passed in
      let flat : groups_of (h.passed ++ s ∷ []) [] ≡ groups_of h.passed [] ++ (t.run ++ next.group ∷ []) =
      groups-push h.passed s [] ∙ groups-append h.passed [] (t.run ++ next.group ∷ []) in
      let lines : length (held_in (groups_of (h.passed ++ s ∷ []) [])) ≡ length (held_in (groups_of h.passed [])) + (length (held_in t.run) + length next.group) =
      ap (λ gs. length (held_in gs)) flat
      ∙ held-append (groups_of h.passed []) (t.run ++ next.group ∷ [])
      ∙ ap (λ n. length (held_in (groups_of h.passed [])) + n) (held-push t.run next.group) in
      record {
        passed = h.passed ++ s ∷ [];
        are_sections = sections-push h.passed s h.are_sections t.are_comments t.other;
        division = h.division ∙ ap (groups_of h.passed) t.takes ∙ sym (groups-push h.passed s next.to_come);
        rest = span.after;
        within = span.within;
        number = omega arith;
        source_is = same ∙ h.source_is;
        done = done;
        made = h.made ++ made;
        copied = copied ∙ ap (λ w. w ++ made) h.copied ∙ append_assoc (take v.start source) h.made made;
        goes_on = λ ss last more is k.
            subst (λ w. AreMadeOf Makes w last ((h.made ++ made) ++ more)) (sym (append_assoc h.passed (s ∷ []) ss))
            (subst (AreMadeOf Makes (h.passed ++ s ∷ ss) last) (sym (append_assoc h.made made more))
            (h.goes_on (s ∷ ss) last (made ++ more) (t.takes ∙ ap (λ w. t.run ++ next.group ∷ w) is)
            (made, more, subst (λ w. Makes s w made) is makes, refl, k)));
      }

  -- It stays,
  pub section-kept : (h : IsMadeUpTo Makes source v now c) → (t : TakesHeaded now headed next)
      → Makes (given_section t) next.to_come (groups_bytes t.run ++ group_bytes next.group) → IsMadeUpTo Makes source v next c
  section-kept h t makes =
      let span = next-run h t in
      let all = groups_bytes t.run ++ group_bytes next.group in
      let done = h.done in
      let size = span.size in
      next-made all h t refl (omega arith)
      (ap (copied_to c) (sym size)
      ∙ copied-more c (past_group now).start (length all) h.done
      ∙ ap (λ w. copied_to c (past_group now).start ++ w) (ap (λ s. take (length all) (drop (past_group now).start s)) h.source_is ∙ span.bytes))
      makes

  -- The lines above its comment are copied.
  above-copied : (h : IsMadeUpTo Makes source v now c) → (t : TakesHeaded now headed next)
      → copied_to c headed.start ≡ copied_to c (past_group now).start ++ groups_bytes t.above
  above-copied h t =
      let n = (past_group now).start in
      let above = groups_bytes t.above in
      let parts : drop n source ≡ above ++ groups_bytes (t.comment ++ next.group ∷ next.to_come) =
      sym h.rest
      ∙ ap groups_bytes (t.takes ∙ ap (λ w. w ++ next.group ∷ next.to_come) t.is_comment.division ∙ append_assoc t.above t.comment (next.group ∷ next.to_come))
      ∙ groups_bytes-append t.above (t.comment ++ next.group ∷ next.to_come) in
      ap (copied_to c) t.start
      ∙ copied-more c n (length above) h.done
      ∙ ap (λ w. copied_to c n ++ w)
      (ap (λ s. take (length above) (drop n s)) h.source_is ∙ ap (take (length above)) parts ∙ take-append_seam above (groups_bytes (t.comment ++ next.group ∷ next.to_come)))

  -- or it is left out with its comment,
  pub section-left_out : {c' : Copied} → (h : IsMadeUpTo Makes source v now c) → (t : TakesHeaded now headed next)
      → IsReplacedIn c headed.start headed.group.next [] c' → Makes (given_section t) next.to_come (groups_bytes t.above) → IsMadeUpTo Makes source v next c'
  section-left_out {c'} h t r makes =
      let end = (past_group next).start in
      let done : c'.done ≡ end = r.done ∙ t.is_group.next in
      let none_off : end - end ≡ 0 = omega arith in
      next-made (groups_bytes t.above) h t r.source_is (omega arith)
      (ap (λ d. c'.bytes.items ++ take (end - d) (drop d c'.source.now)) done
      ∙ ap (λ n. c'.bytes.items ++ take n (drop end c'.source.now)) none_off
      ∙ append-nil c'.bytes.items
      ∙ r.bytes_are
      ∙ append-nil (copied_to c headed.start)
      ∙ above-copied h t)
      makes

  -- or it has another comment.
  pub section-headed : {c' : Copied} (head : List ℕ) → (h : IsMadeUpTo Makes source v now c) → (t : TakesHeaded now headed next) → c'.source.now ≡ c.source.now
      → c'.done ≤ headed.group.start → copied_to c' headed.group.start ≡ copied_to c headed.start ++ head
      → Makes (given_section t) next.to_come (groups_bytes t.above ++ (head ++ group_bytes next.group)) → IsMadeUpTo Makes source v next c'
  section-headed {c'} head h t same done copied makes =
      let span = next-run h t in
      let run = groups_bytes t.run in
      let g = group_bytes next.group in
      let place : headed.group.start ≡ (past_group now).start + length run = t.is_group.start ∙ t.group_start in
      let start = t.is_group.start in
      let sizes = length-append run g in
      let size = span.size in
      let within : c'.done ≤ next.start = subst (λ n. c'.done ≤ n) start done in
      let bytes : take (length g) (drop next.start source) ≡ g =
      ap (λ n. take (length g) (drop n source)) t.group_start
      ∙ ap (take (length g)) (sym (drop-drop (length run) (past_group now).start source) ∙ ap (drop (length run)) (sym h.rest
      ∙ ap groups_bytes t.takes ∙ groups_bytes-append t.run (next.group ∷ next.to_come)) ∙ drop-append_seam run (g ++ groups_bytes next.to_come))
      ∙ take-append_seam g (groups_bytes next.to_come) in
      next-made (groups_bytes t.above ++ (head ++ g)) h t same (omega arith)
      (copied-more c' next.start (length g) within
      ∙ ap₂ (λ a b. a ++ b) (ap (copied_to c') (sym start) ∙ copied ∙ ap (λ w. w ++ head) (above-copied h t))
      (ap (λ s. take (length g) (drop next.start s)) (same ∙ h.source_is) ∙ bytes)
      ∙ simp (append_assoc))
      makes

-- Comment lines alone are to come.
pub record AreAllMadeOf (Makes : Section → List (List HeldLine) → List ℕ → Type 0) (e : Encoding) (source bytes : List ℕ) (groups : List (List HeldLine)) : Type 0 where
  pub held : AreIn e source groups
  pub sections : List Section
  pub last : List (List HeldLine)
  pub divided : AreDivided groups sections last
  pub body : List ℕ
  pub made : AreMadeOf Makes sections last body
  pub whole : bytes ≡ bom_of source ++ body

pub all-made : {Makes : Section → List (List HeldLine) → List ℕ → Type 0} {requested : Encoding} {source : List ℕ} {v now : OpenView} {c : Copied} (bytes : List ℕ)
    → IsViewOf requested source v → IsMadeUpTo Makes source v now c → AreCommentGroups now.to_come → bytes ≡ copied_to c (length c.source.now)
    → AreAllMadeOf Makes requested source bytes v.to_come
all-made {Makes} {requested} {source} {v} {now} {c} bytes o h comments is =
    let last = groups_bytes now.to_come in
    let counted : length last ≡ length (drop (past_group now).start source) = ap length h.rest in
    let left = length-drop (past_group now).start source in
    let within = h.within in
    let place : length c.source.now ≡ (past_group now).start + length last = ap length h.source_is ∙ omega arith in
    let all : take (length last) (drop (past_group now).start source) ≡ last = ap (take (length last)) (sym h.rest ∙ sym (append-nil last)) ∙ take-append_seam last [] in
    record {
      held = subst (λ w. let f : InForce = w in AreGiven f.encoding f.body v.to_come) (sym o.in_force) o.given;
      sections = h.passed;
      last = now.to_come;
      divided = record { division = h.division; are_sections = h.are_sections; last_comments = comments };
      body = h.made ++ last;
      made = subst (λ ss. AreMadeOf Makes ss now.to_come (h.made ++ last)) (append-nil h.passed) (h.goes_on [] now.to_come last refl refl);
      whole = is
          ∙ ap (copied_to c) place
          ∙ copied-more c (past_group now).start (length last) h.done
          ∙ ap₂ (λ a b. a ++ b) h.copied (ap (λ s. take (length last) (drop (past_group now).start s)) h.source_is ∙ all)
          ∙ append_assoc (take v.start source) h.made last
          ∙ ap (λ w. w ++ (h.made ++ last)) (sym (mark-front o));
    }

-- ---- keys that are left out

pub none-listed : {V Y : Type 0} (listed : List (String Y × V)) → listed ≡ [] → AreListed [] listed
none-listed listed none = λ key. ap (λ w. is_some (value_at w key)) none

among-push : (keys : List (List ℕ)) (key k : List ℕ) → is_among (keys ++ key ∷ []) k ≡ (if bytes_eq key k then true else is_among keys k)
among-push [] key k = either (bytes_eq key k)
  where
    either : (b : Bool) → (b || false) ≡ (if b then true else false)
    either true = refl
    either false = refl
among-push (l ∷ keys) key k = ap (λ w. bytes_eq l k || w) (among-push keys key k) ∙ either (bytes_eq l k) (bytes_eq key k)
  where
    either : (a b : Bool) → (a || (if b then true else is_among keys k)) ≡ (if b then true else (a || is_among keys k))
    either true true = refl
    either true false = refl
    either false b = refl

pub one-listed : {V Y : Type 0} (keys : List (List ℕ)) (old new : List (String Y × V)) (key : List ℕ) (value : V) → AreListed keys old
    → GivesValue old key value new → AreListed (keys ++ key ∷ []) new
one-listed keys old new key value h gives = λ k.
    ap is_some (gives k) ∙ of k ∙ sym (among-push keys key k)
  where
    of : (k : List ℕ) → is_some (update bytes_eq (value_at old) key (Some value) k) ≡ (if bytes_eq key k then true else is_among keys k)
    of k = elim (cases_Bool (bytes_eq key k)) [
      | inl t ↦ rw t refl
      | inr t ↦ rw t (h k)
    ]

-- Whether the key of a group is one of a list.
pub listed-one : {V Y : Type 0} (keys : List (List ℕ)) (listed : List (String Y × V)) (g : List HeldLine) → AreListed keys listed
    → is_some (value_of listed (outcome_of (joined (as_lines g)))) ≡ true → HasOneOf keys g
listed-one keys listed g h k = by (outcome_of (joined (as_lines g))) (outcome_of-meets (joined (as_lines g))) k
  where
    by : (o : Outcome) → IsOutcome (joined (as_lines g)) o → is_some (value_of listed o) ≡ true → HasOneOf keys g
    by (given (items.pair key value)) m k = (key, sym (h key) ∙ k, (value, m))
    by (given (items.comment text)) m k = absurd (cc)
    by ignored m k = absurd (cc)
    by (broken kind) m k = absurd (cc)

pub listed-none : {V Y : Type 0} (keys : List (List ℕ)) (listed : List (String Y × V)) (g : List HeldLine) → AreListed keys listed
    → is_some (value_of listed (outcome_of (joined (as_lines g)))) ≡ false → ¬ (HasOneOf keys g)
listed-none keys listed g h k (key, among, (value, m)) =
    let is = outcome_of-only (joined (as_lines g)) (given (items.pair key value)) m in
    let some : is_some (value_at listed key) ≡ false = ap (λ o. is_some (value_of listed o)) is ∙ k in
    absurd (let t = sym (h key) ∙ some in cc)

-- ---- a line feed before what would begin like a byte order mark

no-mark : (source : List ℕ) → begins_like_bom source ≡ false → bom_of source ≡ []
no-mark source h = grind (arith)

guard-none : (mark like : Bool) → mark ≡ true → (if not mark && like then line_feed ∷ [] else []) ≡ []
guard-none mark like h = rw h refl

pub guarded-whole : (source bytes body all : List ℕ) → bytes ≡ bom_of source ++ body → all ≡ guarding_lf source bytes ++ bytes
    → all ≡ bom_of source ++ (guarding_lf source body ++ body)
guarded-whole source bytes body all whole is = elim (cases_Bool (begins_like_bom source)) [
  | inl m ↦
      let none : (w : List ℕ) → guarding_lf source w ≡ [] = λ w. guard-none (begins_like_bom source) (begins_like_bom w) m in
      is ∙ ap (λ w. w ++ bytes) (none bytes) ∙ whole ∙ ap (λ w. bom_of source ++ (w ++ body)) (sym (none body))
  | inr m ↦
      let none = no-mark source m in
      is ∙ ap (λ w. guarding_lf source w ++ w) (whole ∙ ap (λ w. w ++ body) none) ∙ sym (ap (λ w. w ++ (guarding_lf source body ++ body)) none)
]

pub removed-all : {e : Encoding} {source bytes all : List ℕ} {keys : List (List ℕ)} {groups : List (List HeldLine)}
    → AreAllMadeOf (IsLeftOf keys) e source bytes groups → all ≡ guarding_lf source bytes ++ bytes → IsRemovedWithComments e source keys all
removed-all {e} {source} {bytes} {all} {keys} {groups} h is = record {
  groups = groups;
  held = h.held;
  sections = h.sections;
  last = h.last;
  divided = h.divided;
  rest = h.body;
  others = h.made;
  whole = guarded-whole source bytes h.body all h.whole is;
}

-- ---- one result

one-given : (e : Encoding) (body : List ℕ) (gs : List (List HeldLine)) → AreGiven e body gs → gs ≡ with_bytes (held_groups_of e body)
one-given e body gs h = h.are ∙ ap with_bytes (held_groups_of-only e body h.all h.division)

one-left : (keys : List (List ℕ)) (s : Section) (after : List (List HeldLine)) (a b : List ℕ) → IsLeftOf keys s after a → IsLeftOf keys s after b → a ≡ b
one-left keys s after a b (inl (has, (up, low, is, left))) (inl (has', (up', low', is', left'))) =
    left ∙ ap groups_bytes (comment_in-only s.run up low up' low' is is').0 ∙ sym left'
one-left keys s after a b (inl h) (inr k) = absurd (k.0 h.0)
one-left keys s after a b (inr h) (inl k) = absurd (h.0 k.0)
one-left keys s after a b (inr h) (inr k) = h.1 ∙ sym k.1

-- A source has the same groups always.
pub one-groups : (e : Encoding) (source : List ℕ) (gs hs : List (List HeldLine)) → AreIn e source gs → AreIn e source hs → gs ≡ hs
one-groups e source gs hs h k =
    let f = byte_order_mark e source in one-given f.encoding f.body gs h ∙ sym (one-given f.encoding f.body hs k)

pub one-removed : (e : Encoding) (source : List ℕ) (keys : List (List ℕ)) (a b : List ℕ) → IsRemovedWithComments e source keys a
    → IsRemovedWithComments e source keys b → b ≡ a
one-removed e source keys a b h k =
    let same : k.groups ≡ h.groups = one-groups e source k.groups h.groups k.held h.held in
    let d = one-division h.groups k.sections h.sections k.last h.last (subst (λ g. AreDivided g k.sections k.last) same k.divided) h.divided in
    let others = subst (λ l. AreMadeOf (IsLeftOf keys) h.sections l k.rest) d.1 (subst (λ ss. AreMadeOf (IsLeftOf keys) ss k.last k.rest) d.0 k.others) in
    let rest : k.rest ≡ h.rest = one-made (IsLeftOf keys) (one-left keys) h.sections h.last k.rest h.rest others h.others in
    k.whole ∙ ap (λ w. bom_of source ++ (guarding_lf source w ++ w)) rest ∙ sym h.whole
