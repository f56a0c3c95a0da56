-- The items of an input exist and are unique.
use Rattle.std.proofs.Common.{◌≡◌, ℕ, List, [], ◌∷◌, refl, ap, ap₂, ◌∙◌, inl, inr}
use Rattle.properties_format.specs.Encoding.{Encoding}
use Rattle.properties_format.specs.Computed.Encoding.{decoded_of}
use Rattle.properties_format.specs.Lines.{InputEnd, Line, line_endings, joined, first_number}
use Rattle.properties_format.specs.Computed.Lines.{lines_of, groups_in}
use Rattle.properties_format.specs.Split.{Logical, IsSplit}
use Rattle.properties_format.specs.Computed.Split.{split_of}
use Rattle.properties_format.specs.Escapes.{Meaning, means, breaks, IsMeaning}
use Rattle.properties_format.specs.Computed.Escapes.{meaning_of}
use Rattle.properties_format.specs.Items.{comment, pair, Entry, item, Outcome, ignored, given, broken, IsOutcome, IsFollowed, AreEntries, IsItems}
use Rattle.properties_format.specs.Computed.Items.{comment_outcome, pair_outcome, split_outcome, outcome_of, followed, entries_of, items_of}
use Rattle.properties_format.proofs.Groups.Input.{groups_in-meets, lines_in-only, groups_in-only}
use Rattle.properties_format.proofs.Split.Unique.{split_of-meets, split_of-only}
use Rattle.properties_format.proofs.Escapes.Unique.{meaning_of-meets, meaning_of-only}

-- ---- the outcome of a logical line

-- The outcome of a comment, given what its text resolves to.
comment-meets : (x raw : List ℕ) → IsSplit x (Logical.comment raw) → (m : Meaning) → IsMeaning raw m → IsOutcome x (comment_outcome m)
comment-meets x raw split (means text) h = record { raw = raw; split = split; means = h }
comment-meets x raw split (breaks kind) h = inl (record { raw = raw; split = split; breaks = h })

-- The outcome of a pair, given what its key and its value resolve to.
pair-meets : (x raw_key raw_value : List ℕ) → IsSplit x (Logical.pair raw_key raw_value) → (k v : Meaning) → IsMeaning raw_key k → IsMeaning raw_value v
    → IsOutcome x (pair_outcome k v)
pair-meets x rk rv split (breaks kind) v h i = inr (inl (record { raw_key = rk; raw_value = rv; split = split; breaks = h }))
pair-meets x rk rv s (means key) (breaks kind) h i = inr (inr (record { raw_key = rk; raw_value = rv; key = key; split = s; key_means = h; breaks = i }))
pair-meets x rk rv split (means key) (means value) h i = record { raw_key = rk; raw_value = rv; split = split; key_means = h; value_means = i }

-- The outcome of a line is the one computed from what the line is.
split-meets : (x : List ℕ) (what : Logical) → IsSplit x what → IsOutcome x (split_outcome what)
split-meets x Logical.blank h = h
split-meets x (Logical.comment raw) h = comment-meets x raw h (meaning_of raw) (meaning_of-meets raw)
split-meets x (Logical.pair rk rv) h = pair-meets x rk rv h (meaning_of rk) (meaning_of rv) (meaning_of-meets rk) (meaning_of-meets rv)

-- The computed outcome is an outcome of the line.
pub outcome_of-meets : (x : List ℕ) → IsOutcome x (outcome_of x)
outcome_of-meets x = split-meets x (split_of x) (split_of-meets x)

-- The outcome of a comment is the one computed from what its text resolves to.
comment-only : (x raw : List ℕ) (m : Meaning) → IsSplit x (Logical.comment raw) → IsMeaning raw m → comment_outcome m ≡ outcome_of x
comment-only x raw m split h = ap comment_outcome (meaning_of-only raw m h) ∙ ap split_outcome (split_of-only x (Logical.comment raw) split)

-- The outcome of a pair is the one computed from what its texts resolve to.
pair-only : (x rk rv : List ℕ) (k v : Meaning) → IsSplit x (Logical.pair rk rv) → IsMeaning rk k → IsMeaning rv v → pair_outcome k v ≡ outcome_of x
pair-only x rk rv k v split h i = ap₂ pair_outcome (meaning_of-only rk k h) (meaning_of-only rv v i) ∙ ap split_outcome (split_of-only x (Logical.pair rk rv) split)

-- A line has no outcome but the computed one.
pub outcome_of-only : (x : List ℕ) (outcome : Outcome) → IsOutcome x outcome → outcome ≡ outcome_of x
outcome_of-only x ignored h = ap split_outcome (split_of-only x Logical.blank h)
outcome_of-only x (given (comment text)) h = comment-only x h.raw (means text) h.split h.means
outcome_of-only x (given (pair key value)) h = pair-only x h.raw_key h.raw_value (means key) (means value) h.split h.key_means h.value_means
outcome_of-only x (broken kind) (inl h) = comment-only x h.raw (breaks kind) h.split h.breaks
outcome_of-only x (broken kind) (inr (inl h)) =
    pair-only x h.raw_key h.raw_value (breaks kind) (meaning_of h.raw_value) h.split h.breaks (meaning_of-meets h.raw_value)
outcome_of-only x (broken kind) (inr (inr h)) = pair-only x h.raw_key h.raw_value (means h.key) (breaks kind) h.split h.key_means h.breaks

-- ---- the entries of groups

-- The entries computed for an outcome and for entries that may follow it are its entries.
followed-meets : (number : ℕ) (outcome : Outcome) (Rest : List Entry → Type 0) (rest : List Entry) → Rest rest
    → IsFollowed number outcome Rest (followed number outcome rest)
followed-meets number ignored Rest rest h = h
followed-meets number (given content) Rest rest h = (rest, refl, h)
followed-meets number (broken kind) Rest rest h = refl

-- There are no others, if no other entries may follow it.
followed-only : (number : ℕ) (outcome : Outcome) (Rest : List Entry → Type 0) (rest entries : List Entry) → ((ys : List Entry) → Rest ys → ys ≡ rest)
    → IsFollowed number outcome Rest entries → entries ≡ followed number outcome rest
followed-only number ignored Rest rest entries one h = one entries h
followed-only number (given content) Rest rest entries one h = h.1 ∙ ap (λ v. item number content ∷ v) (one h.0 h.2)
followed-only number (broken kind) Rest rest entries one h = h

module _ (n : ℕ) (ending : InputEnd) where
  -- The computed entries are the entries of the groups.
  pub entries_of-meets : (groups : List (List Line)) → AreEntries n ending groups (entries_of n ending groups)
  entries_of-meets [] = refl
  entries_of-meets (group ∷ groups) = (
    outcome_of (joined group),
    outcome_of-meets (joined group),
    followed-meets (first_number group) (outcome_of (joined group)) (AreEntries n ending groups) (entries_of n ending groups) (entries_of-meets groups),
  )

  -- The groups have no other entries.
  pub entries_of-only : (groups : List (List Line)) (entries : List Entry) → AreEntries n ending groups entries → entries ≡ entries_of n ending groups
  entries_of-only [] entries h = h
  entries_of-only (group ∷ groups) entries (outcome, is, follows) =
      followed-only (first_number group) outcome (AreEntries n ending groups) (entries_of n ending groups) entries (entries_of-only groups) follows
      ∙ ap (λ v. followed (first_number group) v (entries_of n ending groups)) (outcome_of-only (joined group) outcome is)

-- ---- the items of an input

module _ (e : Encoding) (bytes : List ℕ) (ending : InputEnd) where
  -- The computed items are the items of the input.
  pub items_of-meets : IsItems e bytes ending (items_of e bytes ending)
  unfolding items_of
  items_of-meets =
      let groups = groups_in e bytes ending in
      let h = groups_in-meets e bytes ending in
      let entries = entries_of-meets (line_endings (lines_of (decoded_of e bytes))) ending groups in
      record { groups = groups; has_groups = h; are_entries = rw (lines_in-only e bytes ending h) entries }

  -- The input has no other items.
  pub items_of-only : (entries : List Entry) → IsItems e bytes ending entries → entries ≡ items_of e bytes ending
  unfolding items_of
  items_of-only entries h =
      entries_of-only (line_endings h.has_groups.lines) ending h.groups entries h.are_entries
      ∙ ap₂ (λ v w. entries_of (line_endings v) ending w) (lines_in-only e bytes ending h.has_groups) (groups_in-only e bytes ending h.groups h.has_groups)
