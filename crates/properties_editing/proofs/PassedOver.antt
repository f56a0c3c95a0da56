-- What is asked of comments: which lines are read past, and the result of an edit by that.
use Rattle.std.proofs.Common.{◌≡◌, ℕ, ◌+◌, true, false, List, [], ◌∷◌, ◌++◌, length, refl, ap, sym, ◌∙◌, inl, inr, subst, append-nil, length-append, arith}
use Rattle.std.specs.Prelude.{None}
use Rattle.std.proofs.lemmas.Bool.{cond-true, cond-false}
use Rattle.properties_format.specs.Encoding.{Encoding, byte_order_mark}
use Rattle.properties_format.specs.Lines.{is_comment_line, joined}
use Rattle.properties_format.specs.Escapes.{Malformed, Meaning, means, breaks}
use Rattle.properties_format.specs.Items.{Outcome, ignored, given, broken, AreItems}
use Rattle.properties_format.specs.Split.{Logical, IsSplit}
use Rattle.properties_format.specs.Body.{HeldLine, as_lines, held_in}
use Rattle.properties_format.specs.Found.{MalformedEscape, escapes_from}
use Rattle.properties_format.specs.Edited.{EditResult, edited, unsupported, unreadable, is_editable, IsEditResult}
use Rattle.properties_format.specs.Edits.{IsPairsResult}
use Rattle.properties_format.specs.Computed.Items.{comment_outcome, followed, outcome_of, split_outcome}
use Rattle.properties_format.specs.Computed.Escapes.{meaning_of}
use Rattle.properties_format.specs.Computed.Split.{split_of}
use Rattle.properties_format.specs.Computed.Body.{held_groups_of, outcome_key}
use Rattle.properties_format.specs.Computed.Edited.{IsSoundOutcome}
use Rattle.properties_format.proofs.Body.Numbers.{items_of-groups, entries_in}
use Rattle.properties_format.proofs.Edited.Results.{result_of-meets, result-editable, result_by, result_of, result-after}
use Rattle.properties_format.proofs.Edits.Escapes.{escapes_of_body, malformed_escapes_of-groups}
use Rattle.properties_format.proofs.Edits.PairResults.{pairs_result_of, pairs_result_of-meets, pairs_result-editable, result_by_pairs}
use Rattle.properties_format.proofs.Split.Unique.{split_of-meets}
use Rattle.properties_format.proofs.Valued.Parts.{comment_line-no_pair}
use Rattle.properties_items.specs.BorrowedItems.{outcome_pair}
use Rattle.properties_editing.specs.Private.Sound.{AreSound, AreSoundFor, IsResult, IsSoundFor, passes_over}
use Rattle.properties_editing.specs.declared.source.Comments.{Comments}
use Rattle.properties_editing.specs.declared.source.Comments.TheVariants.{Read, PassedOver}

-- ---- one line

-- Where comments are read, nothing in a sound line is malformed.
pub read-line : (x : List ℕ) → IsSoundFor Read x → IsSoundOutcome (outcome_of x)
read-line x (inl s) = s
read-line x (inr h) = absurd (cc)

passed-comment : (comments : Comments) (x : List ℕ) → passes_over comments x ≡ true → is_comment_line x ≡ true
passed-comment Read x h = absurd (cc)
passed-comment PassedOver x h = h

-- A sound line is sound where comments are passed over.
pub line-weaker : (comments : Comments) (x : List ℕ) → IsSoundFor comments x → IsSoundFor PassedOver x
line-weaker comments x (inl s) = inl s
line-weaker comments x (inr h) = inr (passed-comment comments x h)

-- A comment is no pair.
not-pair : (x : List ℕ) → is_comment_line x ≡ true → (outcome_key (outcome_of x) ≡ None) × (outcome_pair (outcome_of x) ≡ None)
not-pair x c = of-split (split_of x) (split_of-meets x)
  where
    of-comment : (m : Meaning) → (outcome_key (comment_outcome m) ≡ None) × (outcome_pair (comment_outcome m) ≡ None)
    of-comment (means text) = (refl, refl)
    of-comment (breaks kind) = (refl, refl)

    of-split : (l : Logical) → IsSplit x l → (outcome_key (split_outcome l) ≡ None) × (outcome_pair (split_outcome l) ≡ None)
    of-split Logical.blank h = (refl, refl)
    of-split (Logical.comment raw) h = of-comment (meaning_of raw)
    of-split (Logical.pair key value) h = absurd (comment_line-no_pair x key value c h)

pub passed-no_pair : (comments : Comments) (x : List ℕ) → passes_over comments x ≡ true → (outcome_key (outcome_of x) ≡ None) × (outcome_pair (outcome_of x) ≡ None)
passed-no_pair comments x h = not-pair x (passed-comment comments x h)

-- ---- groups

pub sound-weaker : (comments : Comments) (gs : List (List HeldLine)) → AreSoundFor comments gs → AreSound gs
sound-weaker comments [] h = tt
sound-weaker comments (g ∷ gs) h = (line-weaker comments (joined (as_lines g)) h.0, sound-weaker comments gs h.1)

pub sound-join : (comments : Comments) (gs hs : List (List HeldLine)) → AreSoundFor comments gs → AreSoundFor comments hs → AreSoundFor comments (gs ++ hs)
sound-join comments [] hs h k = k
sound-join comments (g ∷ gs) hs h k = (h.0, sound-join comments gs hs h.1 k)

-- The entries of groups without malformed escapes are items.
pub items-sound : (n : ℕ) (gs : List (List HeldLine)) → AreSoundFor Read gs → AreItems (entries_in n gs)
items-sound n [] s = tt
items-sound n (g ∷ gs) s = of-outcome (outcome_of (joined (as_lines g))) (read-line _ s.0) (items-sound (n + length g) gs s.1)
  where
    of-outcome : (o : Outcome) → IsSoundOutcome o → AreItems (entries_in (n + length g) gs) → AreItems (followed n o (entries_in (n + length g) gs))
    of-outcome ignored s h = h
    of-outcome (given content) s h = h
    of-outcome (broken kind) s h = absurd s

-- ---- the first malformed escape that isn't passed over

-- the result of an edit that makes these bytes of a source
abbrev pub result_for : Comments → Encoding → List ℕ → List ℕ → EditResult
result_for Read e source made = result_of e source made
result_for PassedOver e source made = pairs_result_of e source made

-- the same of the groups of its body, whose lines are numbered from this number on
abbrev pub result_from : Comments → ℕ → List (List HeldLine) → List ℕ → EditResult
result_from Read n gs made = result_by (entries_in n gs) made
result_from PassedOver n gs made = result_by_pairs (escapes_of_body n gs) made

-- a line that is sound, before malformed escapes
pairs-step : (n : ℕ) (x : List ℕ) (o : Outcome) (ms : List MalformedEscape) (made : List ℕ) → o ≡ outcome_of x → IsSoundFor PassedOver x
    → result_by_pairs (escapes_from n x o ms) made ≡ result_by_pairs ms made
pairs-step n x ignored ms made s h = refl
pairs-step n x (given content) ms made s h = refl
pairs-step n x (broken kind) ms made s (inl h) = absurd (subst IsSoundOutcome (sym s) h)
pairs-step n x (broken kind) ms made s (inr h) = cond-true (is_comment_line x) _ _ h

pairs-after : (n : ℕ) (gs hs : List (List HeldLine)) (made : List ℕ) → AreSound gs
    → result_by_pairs (escapes_of_body n (gs ++ hs)) made ≡ result_by_pairs (escapes_of_body (n + length (held_in gs)) hs) made
pairs-after n [] hs made h = let same : n ≡ n + 0 = omega arith in ap (λ m. result_by_pairs (escapes_of_body m hs) made) same
pairs-after n (g ∷ gs) hs made h =
    let size : n + length g + length (held_in gs) ≡ n + length (held_in (g ∷ gs)) = let s = length-append g (held_in gs) in omega arith in
    pairs-step n (joined (as_lines g)) (outcome_of (joined (as_lines g))) (escapes_of_body (n + length g) (gs ++ hs)) made refl h.0
    ∙ pairs-after (n + length g) gs hs made h.1
    ∙ ap (λ m. result_by_pairs (escapes_of_body m hs) made) size

-- After sound groups, the result is that of the groups that follow.
pub from-after : (comments : Comments) (n : ℕ) (gs hs : List (List HeldLine)) (made : List ℕ) → AreSoundFor comments gs
    → result_from comments n (gs ++ hs) made ≡ result_from comments (n + length (held_in gs)) hs made
from-after Read n gs hs made h = result-after n gs hs made (items-sound n gs h)
from-after PassedOver n gs hs made h = pairs-after n gs hs made h

-- A group with a malformed escape that isn't passed over.
pub from-fault : (comments : Comments) (n : ℕ) (g : List HeldLine) (gs : List (List HeldLine)) (made : List ℕ) (how : Malformed)
    → outcome_of (joined (as_lines g)) ≡ broken how → passes_over comments (joined (as_lines g)) ≡ false
    → result_from comments n (g ∷ gs) made ≡ unreadable how n
from-fault Read n g gs made how b p = ap (λ o. result_by (followed n o (entries_in (n + length g) gs)) made) b
from-fault PassedOver n g gs made how b p =
    ap (λ o. result_by_pairs (escapes_from n (joined (as_lines g)) o (escapes_of_body (n + length g) gs)) made) b
    ∙ cond-false (is_comment_line (joined (as_lines g))) _ _ p

-- ---- the result of an edit

-- It is that of the groups of the body,
pub result-groups : (comments : Comments) (e : Encoding) (source made : List ℕ) → is_editable (byte_order_mark e source).encoding ≡ true
    → result_for comments e source made
    ≡ result_from comments 1 (held_groups_of (byte_order_mark e source).encoding (byte_order_mark e source).body) made
result-groups Read e source made ok = result-editable e source made ok ∙ ap (λ v. result_by v made) (items_of-groups e source)
result-groups PassedOver e source made ok = pairs_result-editable e source made ok ∙ ap (λ v. result_by_pairs v made) (malformed_escapes_of-groups e source)

from-none : (comments : Comments) (n : ℕ) (made : List ℕ) → result_from comments n [] made ≡ edited made
from-none Read n made = refl
from-none PassedOver n made = refl

-- and these bytes if the groups are sound.
pub from-sound : (comments : Comments) (gs : List (List HeldLine)) (made : List ℕ) → AreSoundFor comments gs → result_from comments 1 gs made ≡ edited made
from-sound comments gs made h =
    ap (λ v. result_from comments 1 v made) (sym (append-nil gs)) ∙ from-after comments 1 gs [] made h ∙ from-none comments (1 + length (held_in gs)) made

strict-result : (e : Encoding) (source : List ℕ) (Makes : List ℕ → Type 0) (r : EditResult) → IsEditResult e source Makes r → IsResult Read e source Makes r
strict-result e source Makes unsupported h = h
strict-result e source Makes (unreadable kind n) h = h
strict-result e source Makes (edited made) h = h

pairs-result : (e : Encoding) (source : List ℕ) (Makes : List ℕ → Type 0) (r : EditResult) → IsPairsResult e source Makes r → IsResult PassedOver e source Makes r
pairs-result e source Makes unsupported h = h
pairs-result e source Makes (unreadable kind n) h = h
pairs-result e source Makes (edited made) h = h

-- It is a result of the edit.
pub result_for-meets : (comments : Comments) (e : Encoding) (source made : List ℕ) (Makes : List ℕ → Type 0) → Makes made
    → IsResult comments e source Makes (result_for comments e source made)
result_for-meets Read e source made Makes m = strict-result e source Makes (result_of e source made) (result_of-meets e source made Makes (λ ok. m))
result_for-meets PassedOver e source made Makes m = pairs-result e source Makes (pairs_result_of e source made) (pairs_result_of-meets e source made Makes (λ ok. m))
