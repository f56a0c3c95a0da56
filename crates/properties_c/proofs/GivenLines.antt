-- What a logical line gives, by how its texts are given.
use Rattle.std.proofs.Common.{◌≡◌, ℕ, false, true, List, ◌∷◌, [], ◌++◌, refl, sym, ap, ap₂, ◌∙◌, subst, inl, inr, append_assoc, append-nil}
use Rattle.std.specs.Prelude.{◌⊎◌, ◌&&◌, Bool, Option, Some, None, Result, Ok, Err}
use Rattle.std.specs.Str.{chars}
use Rattle.properties_format.specs.{Escapes.Malformed, Escapes.means, Split.Logical, Split.blank, Split.IsSplit, Computed.Escapes.meaning_of}
use Rattle.properties_format.specs.Items.{Content, Outcome, ignored, given, broken, IsOutcome}
use Rattle.properties_format.specs.Computed.Items.{comment_outcome, pair_outcome, split_outcome, outcome_of}
use Rattle.properties_format.proofs.{Escapes.Laws.meaning_of-plain, Items.Unique.outcome_of-meets, Split.Unique.split_of-only}
use Rattle.properties_text.specs.{Escaping.holds_backslash, Parsing.in_characters, Parsing.spanned, declared.parse.ParsedSpans.ParsedSpans}
use Rattle.properties_text.specs.declared.parse.ParsedSpans.TheVariants as spans
use Rattle.properties_text.proofs.Texts.Resolving.{holds-part, no_backslash}
use Rattle.properties_items.specs.BorrowedItems.{IsFoundIn, borrowed_content, borrowed_entry, found_content, found_entry}
use Rattle.properties_items.specs.{declared.borrowed.LineRef.LineRef, declared.error.PropertiesError.PropertiesError, declared.found.Found.Found}
use Rattle.properties_items.proofs.FoundItems.{found-item}
use Rattle.properties_c.specs.Items.{standing, asked_texts, IsShown, IsShownAs, TakesOutcome, shown}
use Rattle.properties_c.specs.{Packed.packed, declared.asked.Asked.Asked, declared.asked.Texts.Texts, declared.asked.Texts.TheVariants.PassedOver}
use Rattle.properties_c.specs.{declared.asked.Texts.TheVariants.Raw, declared.asked.Texts.TheVariants.Read}
use Rattle.properties_c.specs.Private.Results.{PushesLine, PushesRead, Resolves, passes, reads, standing_record}

-- ---- how it is read

read-outcome : (x : List ℕ) (what : Logical) → IsSplit x what → outcome_of x ≡ split_outcome what
read-outcome x what h = ap split_outcome (sym (split_of-only x what h))

meant : (raw : List ℕ) → holds_backslash raw ≡ false → meaning_of raw ≡ means raw
meant raw h = meaning_of-plain raw (no_backslash raw h)

-- Without a backslash it is read as it stands.
plain-split : (x : List ℕ) (what : Logical) → IsSplit x what → holds_backslash x ≡ false → split_outcome what ≡ standing what
plain-split x Logical.blank h none = refl
plain-split x (Logical.comment raw) h none =
    let before = h.indent ++ (h.sign ∷ h.trimmed.before) in
    let whole = h.whole ∙ ap (λ v. h.indent ++ (h.sign ∷ v)) h.trimmed.whole ∙ sym (append_assoc h.indent (h.sign ∷ h.trimmed.before) _) in
    ap comment_outcome (meant raw (holds-part before raw h.trimmed.after (rw whole at none)))
plain-split x (Logical.pair key value) h none =
    let before = h.indent ++ (key ++ h.between) in
    let whole : x ≡ before ++ (value ++ []) = h.whole ∙ simp (append_assoc, append-nil) in
    ap₂ pair_outcome (meant key (holds-part h.indent key (h.between ++ value) (rw h.whole at none)))
    (meant value (holds-part before value [] (rw whole at none)))

plain-outcome : (x : List ℕ) (what : Logical) → IsSplit x what → holds_backslash x ≡ false → outcome_of x ≡ standing what
plain-outcome x what h none = read-outcome x what h ∙ plain-split x what h none

-- ---- what it gives

pub is-read : (t : Texts) → reads t ≡ true → t ≡ Read
is-read Read h = refl
is-read Raw h = absurd (cc)
is-read PassedOver h = absurd (cc)

-- One that is read gives what it is read as,
pub read-line : (a : Asked) (number : ℕ) (x old new : List ℕ) (what : Logical) (result : Result Unit PropertiesError) → IsSplit x what → asked_texts a what ≡ Read
    → PushesRead number x old result new → PushesLine a number x old result new
read-line a number x old new what (Ok done) h reads p = (outcome_of x, (what, h, rw reads (outcome_of-meets x)), p)
read-line a number x old new what (Err e) h reads (inl (inl broke, same)) =
    inl (broke.0, (what, h, rw reads (subst (IsOutcome x) broke.1 (outcome_of-meets x))), broke.2, same)
read-line a number x old new what (Err e) h reads (inl (inr memory, same)) = inr memory
read-line a number x old new what (Err e) h reads (inr memory) = inr memory

-- and so does one without a backslash, as it stands.
taken : (a : Asked) (x : List ℕ) (what : Logical) (t : Texts) (escaped : Bool) → asked_texts a what ≡ t → IsSplit x what → passes t ≡ false
    → (escaped && reads t) ≡ false → (escaped ≡ false → holds_backslash x ≡ false) → TakesOutcome (asked_texts a what) x what (standing what)
taken a x what PassedOver escaped is h other plain none = absurd (cc)
taken a x what Raw escaped is h other plain none = rw is refl
taken a x what Read true is h other plain none = absurd (cc)
taken a x what Read false is h other plain none = rw is (subst (IsOutcome x) (plain-outcome x what h (none refl)) (outcome_of-meets x))

pub standing-line : (a : Asked) (number : ℕ) (line old new : List ℕ) (parts : ParsedSpans) (t : Texts) (escaped : Bool)
    → IsSplit (chars line) (in_characters (spanned line (Some parts))) → asked_texts a (in_characters (spanned line (Some parts))) ≡ t → passes t ≡ false
    → (escaped && reads t) ≡ false → (escaped ≡ false → holds_backslash (chars line) ≡ false)
    → new ≡ old ++ packed (standing_record number (in_characters (spanned line (Some parts)))) → PushesLine a number (chars line) old (Ok tt) new
standing-line a number line old new (spans.Comment text) t escaped h is other plain none same =
    let what = in_characters (spanned line (Some (spans.Comment text))) in
    (standing what, (what, h, taken a (chars line) what t escaped is h other plain none), same)
standing-line a number line old new (spans.KVPair key value) t escaped h is other plain none same =
    let what = in_characters (spanned line (Some (spans.KVPair key value))) in
    (standing what, (what, h, taken a (chars line) what t escaped is h other plain none), same)

-- An item that was found is what the line is read as.
pub item-outcome : (line : List ℕ) (f : Found) (item : LineRef) → IsFoundIn line f → borrowed_entry item ≡ found_entry line f
    → outcome_of (chars line) ≡ given (borrowed_content item.content)
item-outcome line f item h same =
    let content : borrowed_content item.content ≡ found_content line f.content = cc in
    found-item line f h ∙ ap given (sym content)

-- ---- what it shows

-- A line that isn't resolved shows its texts as they stand.
pub shown-standing : (a : Asked) (x : List ℕ) (what : Logical) → IsSplit x what
    → (asked_texts a what ≡ Read → (holds_backslash x ≡ false) ⊎ ((outcome_of x ≡ ignored) ⊎ ((how : Malformed) × (outcome_of x ≡ broken how))))
    → IsShown a x (standing what)
shown-standing a x what h why = (what, h, by (asked_texts a what) refl)
  where
    unread : (o : Outcome) → outcome_of x ≡ o → shown what o ≡ standing what → IsShownAs Read x what (standing what)
    unread o is same = (o, subst (IsOutcome x) is (outcome_of-meets x), sym same)

    plain : (what : Logical) → shown what (standing what) ≡ standing what
    plain Logical.blank = refl
    plain (Logical.comment text) = refl
    plain (Logical.pair key value) = refl

    by : (t : Texts) → asked_texts a what ≡ t → IsShownAs t x what (standing what)
    by PassedOver is = refl
    by Raw is = refl
    by Read is = unresolved (why is)
      where
        unresolved : (holds_backslash x ≡ false) ⊎ ((outcome_of x ≡ ignored) ⊎ ((how : Malformed) × (outcome_of x ≡ broken how))) → IsShownAs Read x what (standing what)
        unresolved (inl none) = unread (standing what) (plain-outcome x what h none) (plain what)
        unresolved (inr (inl none)) = unread ignored none refl
        unresolved (inr (inr (how, broke))) = unread (broken how) broke refl

-- What has no item is blank or broken.
pub no-item : (x : List ℕ) (answer : Option LineRef) → Resolves x answer → ((item : LineRef) → answer ≡ Some item → ⊥)
    → (outcome_of x ≡ ignored) ⊎ ((how : Malformed) × (outcome_of x ≡ broken how))
no-item x None h none = h
no-item x (Some item) h none = absurd (none item refl)

-- An item that was resolved is shown.
pub shown-read : (a : Asked) (x : List ℕ) (what : Logical) (content : Content) → IsSplit x what → asked_texts a what ≡ Read → outcome_of x ≡ given content
    → IsShown a x (given content)
shown-read a x what content h reads is =
    let by : IsShownAs Read x what (given content) = (given content, subst (IsOutcome x) is (outcome_of-meets x), refl) in
    (what, h, subst (λ t. IsShownAs t x what (given content)) (sym reads) by)
