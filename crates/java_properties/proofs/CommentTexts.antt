-- What a group says of a key.
use Rattle.std.proofs.Common.{◌≡◌, ℕ, true, false, List, [], refl, ap, sym, ◌∙◌, subst, inl, inr}
use Rattle.std.specs.Prelude.{Bool, ◌⊎◌, Option, Some, None, bytes_eq}
use Rattle.std.proofs.lemmas.Bool.{cases_Bool}
use Rattle.properties_format.specs.Lines.{is_comment_line}
use Rattle.properties_format.specs.Items.{Outcome, broken, given, ignored}
use Rattle.properties_format.specs.Items as content
use Rattle.properties_format.specs.Split.{Logical, IsSplit}
use Rattle.properties_format.specs.Computed.Body.{is_pair_with, outcome_key}
use Rattle.properties_format.specs.Computed.Edited.{IsSoundOutcome}
use Rattle.properties_format.specs.Computed.Items.{outcome_of}
use Rattle.properties_format.proofs.Items.Unique.{outcome_of-only}
use Rattle.properties_format.proofs.Valued.Parts.{comment_line-no_pair}
use Rattle.properties_items.specs.BorrowedItems.{outcome_pair}
use Rattle.properties_editing.specs.Views.{group_kind}
use Rattle.properties_editing.specs.declared.group.GroupKind.{GroupKind}
use Rattle.properties_editing.specs.declared.group.GroupKind.TheVariants as kind
use Rattle.properties_editing.specs.declared.source.Comments.TheVariants.{PassedOver}
use Rattle.properties_editing.proofs.PassedOver.{passed-no_pair}
use Rattle.properties_renaming.proofs.CommentGroups.{line-comment}
use Rattle.java_properties.specs.Private.PassedGroups.{IsKindOf, IsSoundLine}

-- ---- what a group says of a key

no-key : (key : List ℕ) (o : Outcome) → outcome_key o ≡ None → false ≡ is_pair_with key o
no-key key ignored h = refl
no-key key (given (content.comment t)) h = refl
no-key key (given (content.pair k v)) h = absurd (cc)
no-key key (broken why) h = refl

-- A group that isn't shown as a pair has no key, and is sound.
pub no-pair : (key : List ℕ) (k : GroupKind) (x : List ℕ) → IsKindOf k x → (k ≡ kind.Pair → ⊥) → (false ≡ is_pair_with key (outcome_of x)) × IsSoundLine x
no-pair key k x (what, s, is) other = by what s is
  where
    by : (w : Logical) → IsSplit x w → k ≡ group_kind w → (false ≡ is_pair_with key (outcome_of x)) × IsSoundLine x
    by Logical.blank s is =
        let o : outcome_of x ≡ ignored = sym (outcome_of-only x ignored s) in
        (sym (ap (is_pair_with key) o), inl (subst IsSoundOutcome (sym o) tt))
    by (Logical.comment text) s is =
        let line = line-comment x text s in
        (no-key key (outcome_of x) (passed-no_pair PassedOver x line).0, inr line)
    by (Logical.pair name value) s is = absurd (other is)

-- A line that is shown as a pair isn't a comment.
pub pair-line : (k : GroupKind) (x : List ℕ) → IsKindOf k x → k ≡ kind.Pair → is_comment_line x ≡ false
pair-line k x (what, s, is) pair = by what s (sym is ∙ pair)
  where
    by : (w : Logical) → IsSplit x w → group_kind w ≡ kind.Pair → is_comment_line x ≡ false
    by Logical.blank s h = absurd (cc)
    by (Logical.comment text) s h = absurd (cc)
    by (Logical.pair name value) s h = elim (cases_Bool (is_comment_line x)) [
      | inl c ↦ absurd (comment_line-no_pair x name value c s)
      | inr c ↦ c
    ]

abbrev first_text : Option (List ℕ × List ℕ) → List ℕ
first_text None = []
first_text (Some p) = p.0

-- What a pair's key and value say of a key; and what it says that there is none.
pub found-pair : (key k v : List ℕ) (x : List ℕ) (same : Bool) → Some (k, v) ≡ outcome_pair (outcome_of x) → same ≡ bytes_eq k key
    → (same ≡ is_pair_with key (outcome_of x)) × IsSoundLine x
found-pair key k v x same is eq = by (outcome_of x) is
  where
    by : (o : Outcome) → Some (k, v) ≡ outcome_pair o → (same ≡ is_pair_with key o) × (IsSoundOutcome o ⊎ (is_comment_line x ≡ true))
    by ignored h = absurd (cc)
    by (given (content.comment t)) h = absurd (cc)
    by (given (content.pair l w)) h = (eq ∙ ap (λ u. bytes_eq u key) (ap first_text h), inl tt)
    by (broken why) h = absurd (cc)

pub found-none : (key x : List ℕ) (c : content.Content) → outcome_of x ≡ given c → None ≡ outcome_pair (outcome_of x)
    → (false ≡ is_pair_with key (outcome_of x)) × IsSoundLine x
found-none key x (content.comment t) o none = (sym (ap (is_pair_with key) o), inl (subst IsSoundOutcome (sym o) tt))
found-none key x (content.pair k v) o none = let h = none ∙ ap outcome_pair o in absurd (cc)
