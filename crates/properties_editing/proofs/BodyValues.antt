-- How the value of a key is set in a body that is held in memory.
use Rattle.std.proofs.Common.{◌≡◌, ◌≤◌, ℕ, ◌+◌, ◌-◌, true, false, List, [], ◌∷◌, ◌++◌, length, take, drop, refl, ap, ap₂, sym, ◌∙◌, subst, arith, append-nil, append_assoc, length-append}
use Rattle.std.specs.Prelude.{Some, None, bytes_eq}
use Rattle.std.proofs.lemmas.List.{take_rest, take-append-drop}
use Rattle.std.proofs.lemmas.Str.{chars-append, IsUtf8-take, IsUtf8-between}
use Rattle.properties_editing.specs.Private.BodyGroups.{TakesHeldGroup, IsFirstGroup, group_text}
use Rattle.properties_editing.specs.declared.groups.Group.{Group}
use Rattle.properties_editing.specs.declared.groups.GroupReader.{GroupReader}
use Rattle.properties_format.specs.Encoding.{Encoding, Repertoire}
use Rattle.properties_format.specs.Lines.{Lines, joined}
use Rattle.properties_format.specs.Body.{HeldLine, as_lines, held_in, ending_bytes, AreGroupsOf, group_bytes, last_ending}
use Rattle.properties_format.specs.Edited.{is_editable}
use Rattle.properties_format.specs.Computed.Body.{held_of, held_lines_of, held_groups_of, unended_bytes}
use Rattle.properties_format.specs.Computed.Valued.{added_by, value_front, last_between, between_of, is_pair_to, after_key, value_as_written, between_in, before_value, between_if_pair, without_end}
use Rattle.properties_format.proofs.Body.Groups.{held_groups_of-meets, held_of-only, held-body}
use Rattle.properties_format.proofs.Cut.Only.{cut_of-only}
use Rattle.properties_format.proofs.Valued.Fronts.{front_of-meets, no_lines-no_pair, pair-unmarked}
use Rattle.properties_lines.specs.declared.scanner.Scanner.{Scanner}
use Rattle.properties_editing.specs.declared.cuts.Cut as code
use Rattle.properties_editing.specs.Private.BodyCuts.{adds, cut_at, cut_size, placed}
use Rattle.properties_editing.proofs.CutMeanings.{front-cut}
use Rattle.properties_format.proofs.Valued.Made.{group-decoded}
use Rattle.properties_text.specs.Encoding.{encoding_of}
use Rattle.properties_lines.specs.Private.HeldLines.{held_lines_left}
use Rattle.properties_format.specs.Printing.{encoded_text}
use Rattle.properties_format.specs.Valued.{value_text}
use Rattle.properties_format.specs.Escapes.{Malformed, Means, Breaks, Meaning, means, breaks}
use Rattle.properties_format.specs.Computed.Escapes.{meaning_of}
use Rattle.properties_format.specs.Computed.Items.{outcome_of, pair_outcome, split_outcome}
use Rattle.properties_format.specs.Computed.Edited.{IsSoundOutcome}
use Rattle.properties_format.proofs.Escapes.Unique.{means-only, meaning_of-only}
use Rattle.properties_format.proofs.GroupsInTurn.Lines.{bytes-unended}
use Rattle.properties_format.proofs.Valued.Read.{front-unended}
use Rattle.properties_editing.specs.Private.BodyValues.{IsBeforeValue, IsFrontSize, IsPairAlone, IsNewValue, IsGroupAlone, IsBetweenAt}
use Rattle.std.specs.Str.{IsUtf8, chars}
use Rattle.std.proofs.Math.Seq.{take-append_seam, drop-append_seam}
use Rattle.properties_format.specs.Text.{without_leading_blanks}
use Rattle.properties_format.specs.Split as split
use Rattle.properties_format.specs.Split.{IsSplit, IsPair}
use Rattle.properties_format.specs.Computed.Split.{split_of}
use Rattle.properties_format.proofs.Split.Unique.{split_of-only}
use Rattle.properties_format.proofs.Valued.Parts.{without_end-append, written_value-pair, after_key-pair}
use Rattle.properties_text.specs.Parsing.{bytes_in, IsSpan, IsPairAt}
use Rattle.properties_text.specs.declared.parse.Span.{Span}
use Rattle.properties_text.proofs.Texts.Split.{rest_of, rest_of-part, without_leading_blanks-part}

-- ---- what separates key and value

-- the characters after the key are those of the bytes after it
pub after_key-text : (line : List ℕ) → IsUtf8 line → chars (after_key line) ≡ after_key (chars line)
after_key-text line u =
    let front = without_leading_blanks-part line u in
    (rest_of-part (without_leading_blanks line) front.utf8).same ∙ ap rest_of front.same

-- the bytes between two parts of a text
pub middle-of : (a b c : List ℕ) (start end : ℕ) → start ≡ length a → end ≡ start + length b → take (end - start) (drop start (a ++ (b ++ c))) ≡ b
middle-of a b c start end s e =
    let n : end - start ≡ length b = omega arith in
    ap₂ (λ v d. take v d) n (ap (λ v. drop v (a ++ (b ++ c))) s ∙ drop-append_seam a (b ++ c)) ∙ take-append_seam b c

-- The span between key and value of a pair.
pub between-pair : (line : List ℕ) (key value : Span) → IsUtf8 line → IsPairAt line key value → IsSpan line key → IsSpan line value
    → IsSplit (chars line) (split.pair (chars (bytes_in line key)) (chars (bytes_in line value)))
    → IsBetweenAt line (record { start = key.end; end = value.start })
between-pair line key value u at k v meets =
    let span : Span = record { start = key.end; end = value.start } in
    let x = chars line in
    let key_bytes = bytes_in line key in
    let rest = bytes_in line value in
    let d = at.division in
    let starts = at.value_start in
    let parts : line ≡ (d.indent ++ key_bytes) ++ (d.between ++ rest) = d.whole ∙ sym (append_assoc d.indent key_bytes (d.between ++ rest)) in
    let front = length-append d.indent key_bytes in
    let is : bytes_in line span ≡ d.between =
    ap (λ w. take (value.start - key.end) (drop key.end w)) parts
    ∙ middle-of (d.indent ++ key_bytes) d.between rest key.end value.start (omega arith) starts in
    let ordered : key.end ≤ value.start = omega arith in
    let between_utf8 : IsUtf8 (bytes_in line span) = IsUtf8-between line key.end value.start u ordered k.ends_whole v.starts_whole in
    let value_is : drop value.start line ≡ rest =
    sym (ap (λ n. take (n - value.start) (drop value.start line)) at.value_end ∙ take_rest line value.start) in
    let after : after_key x ≡ chars (bytes_in line span) ++ chars rest =
    sym (after_key-text line u)
    ∙ ap chars (after_key-pair line key_bytes rest d ∙ ap (λ w. w ++ rest) (sym is))
    ∙ chars-append (bytes_in line span) rest between_utf8 in
    let written : value_as_written x ≡ chars rest = written_value-pair x (chars key_bytes) (chars rest) meets in
    let whole : x ≡ chars (take value.start line) ++ chars rest =
    ap chars (sym (take-append-drop value.start line) ∙ ap (λ w. take value.start line ++ w) value_is)
    ∙ chars-append (take value.start line) rest (IsUtf8-take line value.start u v.starts_whole) in
    record {
      is_span = record {
        ordered = ordered;
        within = let o = v.ordered in let w = v.within in omega arith;
        starts_whole = k.ends_whole;
        ends_whole = v.starts_whole;
      };
      key = chars key_bytes;
      is_pair = subst (λ w. IsPair x (chars key_bytes) (chars w)) (sym value_is) meets;
      of_pair = ap (λ s. between_if_pair s x) (sym (split_of-only x (split.pair (chars key_bytes) (chars rest)) meets))
          ∙ ap Some (ap₂ without_end after written ∙ without_end-append (chars (bytes_in line span)) (chars rest));
      before = sym (ap₂ without_end whole written ∙ without_end-append (chars (take value.start line)) (chars rest));
    }

-- no pair separates a key and a value
pub between-none : (line : List ℕ) (what : split.Logical) → IsSplit (chars line) what → between_if_pair what (chars line) ≡ None
    → between_if_pair (split_of (chars line)) (chars line) ≡ None
between-none line what h none = ap (λ s. between_if_pair s (chars line)) (sym (split_of-only (chars line) what h)) ∙ none

-- ---- the first group

pub first-group : {body : List ℕ} {s t : GroupReader} {group : Group} → s.scanner.at ≡ 0 → s.scanner.is_done ≡ false → TakesHeldGroup body s group t
    → IsFirstGroup (encoding_of s.scanner.encoding) body group t
first-group {body} {s} {t} {group} at going k = record {
  held = k.held;
  more = _;
  groups = (rw (going, at) refl) ∙ k.groups;
  starts = k.starts ∙ at;
  span = k.span;
  held_text = k.held_text;
  text = k.text;
}

-- ---- the front of a pair by itself

-- The lines of a body that is one group are those of the group.
one-group : (e : Encoding) (body : List ℕ) (g : List HeldLine) → held_groups_of e body ≡ g ∷ [] → AreGroupsOf e body (g ∷ [])
one-group e body g h = subst (AreGroupsOf e body) h (held_groups_of-meets e body)

one-lines : (e : Encoding) (body : List ℕ) (g : List HeldLine) → held_groups_of e body ≡ g ∷ [] → held_lines_of e body ≡ g
one-lines e body g h =
    let are = one-group e body g h in
    sym (sym (append-nil g)
    ∙ held_of-only e are.cut.ended are.cut.last (held_in (g ∷ [])) are.are_held
    ∙ ap (λ v. let w : Lines = v in held_of e w.ended w.last) (cut_of-only e body are.cut are.is_cut))

-- The front of a pair ends at the cut behind what comes before its value.
front-before : (e : Encoding) (g : List HeldLine) (key value : List ℕ) → IsPair (joined (as_lines g)) key value
    → length (value_front e g) ≡ cut_size (cut_at e true (length (before_value (joined (as_lines g)))) g)
front-before e [] key value h = absurd (no_lines-no_pair key value h)
front-before e (h ∷ hs) key value p =
    let add : adds true h.text ≡ added_by true h.text = rw (pair-unmarked h hs key value p) refl in
    front-cut e true (before_value (joined (as_lines (h ∷ hs)))) (h ∷ hs) add

-- This cut was found among the bytes of the pair.
pub front-found : {e : Encoding} {body before : List ℕ} (s : Scanner) (count : ℕ) (cut : code.Cut) → s.at ≡ 0 → s.is_done ≡ false
    → encoding_of s.encoding ≡ e → IsBeforeValue e body before → count ≡ length before
    → cut ≡ placed s.at s.passed (cut_at (encoding_of s.encoding) true count (held_lines_left body s)) → IsFrontSize e body cut.at
front-found {e} {body} {before} s count cut at going same b n is =
    let x = joined (as_lines b.group) in
    let lines : held_lines_left body s ≡ b.group = (rw (going, at, same) refl) ∙ one-lines e body b.group b.is_group in
    let found : cut_size (cut_at (encoding_of s.encoding) true count (held_lines_left body s)) ≡ cut_size (cut_at e true (length (before_value x)) b.group) =
    ap₂ (λ d g. cut_size (cut_at d true count g)) same lines ∙ ap (λ m. cut_size (cut_at e true m b.group)) (n ∙ ap length (sym b.text)) in
    let placed_at : cut.at ≡ s.at + cut_size (cut_at (encoding_of s.encoding) true count (held_lines_left body s)) = ap (λ v. let w : code.Cut = v in w.at) is in
    let front = front-before e b.group b.key b.value b.is_pair in
    record { group = b.group; is_group = b.is_group; is_size = omega arith }

-- ---- whether a pair has a value

outcome-spelt : (x key spelt : List ℕ) → IsPair x key spelt → outcome_of x ≡ pair_outcome (meaning_of key) (meaning_of spelt)
outcome-spelt x key spelt h = ap split_outcome (sym (split_of-only x (split.pair key spelt) h))

-- It has the value that is meant.
pub value-told : (x key spelt meant value : List ℕ) → IsPair x key spelt → IsSoundOutcome (outcome_of x) → Means spelt meant
    → is_pair_to value (outcome_of x) ≡ bytes_eq meant value
value-told x key spelt meant value h sound m =
    let is = outcome-spelt x key spelt h ∙ ap (pair_outcome (meaning_of key)) (sym (means-only spelt meant m)) in
    ap (is_pair_to value) is ∙ told (meaning_of key) (subst IsSoundOutcome is sound)
  where
    told : (k : Meaning) → IsSoundOutcome (pair_outcome k (means meant)) → is_pair_to value (pair_outcome k (means meant)) ≡ bytes_eq meant value
    told (means k) s = refl
    told (breaks kind) s = absurd s

-- No escape of its value is malformed.
pub value-unbroken : (x key spelt : List ℕ) (kind : Malformed) → IsPair x key spelt → IsSoundOutcome (outcome_of x) → Breaks spelt kind → ⊥
value-unbroken x key spelt kind h sound b =
    none (meaning_of key) (subst IsSoundOutcome (outcome-spelt x key spelt h ∙ ap (pair_outcome (meaning_of key)) (sym (meaning_of-only spelt (breaks kind) b))) sound)
  where
    none : (k : Meaning) → IsSoundOutcome (pair_outcome k (breaks kind)) → ⊥
    none (means k) s = s
    none (breaks why) s = s

-- ---- a pair with another value

-- what separates key and value of a line, and that it is a pair
pub line-pair : (line x : List ℕ) (span : Span) → chars line ≡ x → IsBetweenAt line span
    → ((key value : List ℕ) × IsPair x key value) × (between_in x ≡ chars (bytes_in line span))
line-pair line x span h at =
    let value = chars (drop span.end line) in
    let told = ap (λ s. between_if_pair s (chars line)) (split_of-only (chars line) (split.pair at.key value) at.is_pair) ∙ at.of_pair in
    ((at.key, value, subst (λ v. IsPair v at.key value) h at.is_pair), ap between_in (sym h) ∙ cc)

-- The first group of a body that is one group is that one.
pub same-group : {e : Encoding} {body : List ℕ} {group : Group} {s : GroupReader} (f : IsFirstGroup e body group s) (a : IsPairAlone e body) → f.held ≡ a.group
same-group f a = let q = sym f.groups ∙ a.is_group in cc

-- The logical line of the first group is that of the pair.
alone-line : {e : Encoding} {body : List ℕ} {group : Group} {s : GroupReader} (line : List ℕ) → line ≡ group_text body s group
    → IsFirstGroup e body group s → (a : IsPairAlone e body)
    → chars line ≡ joined (as_lines a.group)
alone-line line is f a = ap chars is ∙ f.text ∙ ap (λ g. joined (as_lines g)) (same-group f a)

-- What comes before the value in the logical line of a pair by itself.
pub before-value : {e : Encoding} {body : List ℕ} {group : Group} {s : GroupReader} (line : List ℕ) (span : Span) → line ≡ group_text body s group
    → IsFirstGroup e body group s → IsPairAlone e body → IsBetweenAt line span → IsBeforeValue e body (chars (take span.end line))
before-value {e} {body} {group} {s} line span is f a at =
    let x = joined (as_lines a.group) in
    let same = alone-line line is f a in
    let m = line-pair line x span same at in
    record {
      group = a.group;
      is_group = a.is_group;
      key = m.0.0;
      value = m.0.1;
      is_pair = m.0.2;
      text = ap before_value (sym same) ∙ sym at.before;
    }

-- the front of a pair by itself is at the front of its bytes
front-first : (e : Encoding) (body : List ℕ) (g : List HeldLine) (key value : List ℕ) → is_editable e ≡ true → held_groups_of e body ≡ g ∷ []
    → IsPair (joined (as_lines g)) key value
    → (take (length (value_front e g)) body ≡ value_front e g) × (length (value_front e g) ≤ length body)
front-first e body g key value ok h pair =
    let are = one-group e body g h in
    let decoded = group-decoded e body (g ∷ []) [] g [] are refl in
    let whole : body ≡ unended_bytes g ++ ending_bytes (last_ending g) =
    sym (held-body e body (g ∷ []) ok are) ∙ append-nil (group_bytes g) ∙ bytes-unended g in
    let front = value_front e g in
    let parts = front-unended e g (between_of g) front (front_of-meets e g key value ok decoded pair) in
    let all = whole ∙ ap (λ v. v ++ ending_bytes (last_ending g)) parts ∙ append_assoc front _ (ending_bytes (last_ending g)) in
    let sizes = ap length parts ∙ length-append front _ in
    let size : length body ≡ length (unended_bytes g) + length (ending_bytes (last_ending g)) =
    ap length whole ∙ length-append (unended_bytes g) (ending_bytes (last_ending g)) in
    (ap (take (length front)) all ∙ take-append_seam front _, (omega arith))

-- A pair by itself with another value.
pub value-new : {r : Repertoire} {body : List ℕ} {group : Group} {s : GroupReader} (value line separator bytes : List ℕ) (size : ℕ) (span : Span)
    → is_editable r.encoding ≡ true
    → line ≡ group_text body s group → IsFirstGroup r.encoding body group s → (a : IsPairAlone r.encoding body) → IsBetweenAt line span
    → false ≡ is_pair_to value (outcome_of (chars line)) → IsFrontSize r.encoding body size → separator ≡ bytes_in line span
    → bytes ≡ encoded_text r.encoding (value_text r (chars separator) value)
    → IsNewValue r body value (record { front_size = size; bytes = bytes })
value-new {r} {body} {group} {s} value line separator bytes size span ok is f a at other front cut printed =
    let x = joined (as_lines a.group) in
    let same = alone-line line is f a in
    let m = line-pair line x span same at in
    let one : front.group ≡ a.group = let q = sym front.is_group ∙ a.is_group in cc in
    let sized : size ≡ length (value_front r.encoding a.group) = front.is_size ∙ ap (λ g. length (value_front r.encoding g)) one in
    let first = front-first r.encoding body a.group m.0.0 m.0.1 ok a.is_group m.0.2 in
    record {
      group = a.group;
      is_group = a.is_group;
      other = sym (other ∙ ap (λ v. is_pair_to value (outcome_of v)) same);
      within = subst (λ n. n ≤ length body) (sym sized) first.1;
      front = ap (λ n. take n body) sized ∙ first.0;
      bytes_are = printed ∙ ap (λ v. encoded_text r.encoding (value_text r v value)) (ap chars cut ∙ sym m.1);
    }

-- ---- a separator

-- what separates key and value in a group by itself
pub alone-between : {e : Encoding} {body : List ℕ} {group : Group} {s : GroupReader} (line : List ℕ) → line ≡ group_text body s group → IsFirstGroup e body group s
    → IsGroupAlone e body → last_between (held_groups_of e body) ≡ between_if_pair (split_of (chars line)) (chars line)
alone-between line is f a =
    let one : f.held ≡ a.0 = let q = sym f.groups ∙ a.1 in cc in
    let text : chars line ≡ joined (as_lines a.0) = ap chars is ∙ f.text ∙ ap (λ g. joined (as_lines g)) one in
    ap last_between a.1 ∙ ap (λ x. between_if_pair (split_of x) x) (sym text)
