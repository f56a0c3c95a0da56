-- The groups of a source, packed one after another.
use Rattle.std.proofs.Common.{◌≡◌, ℕ, List, [], ◌∷◌, ◌++◌, ap, sym, ◌∙◌, subst, refl, true, false, append_assoc, append-nil}
use Rattle.std.specs.Prelude.{Option, Some, None, Ok, encode_utf8_all}
use Rattle.std.specs.Str.{IsUtf8, chars}
use Rattle.std.proofs.lemmas.Str.{encodes-chars}
use Rattle.properties_format.specs.Items.{Outcome}
use Rattle.properties_format.specs.Split.{Logical, blank, comment, pair, IsSplit}
use Rattle.properties_format.proofs.Split.Laws.{split-unique}
use Rattle.properties_editing.specs.Views.{OpenView, GivesNext, TakesNext, IsGroup, IsRawKey, IsRawValue, group_kind, viewed_line, text_or_value}
use Rattle.properties_editing.specs.declared.group.GroupKind.TheVariants as group
use Rattle.properties_editing.specs.declared.group.ViewedGroup.{ViewedGroup}
use Rattle.properties_c.specs.Items.{AreNumbersOf, ArePacked, IsPackedGroup, IsShown, key_in, kind_number, standing, asked_texts}
use Rattle.properties_c.specs.Items as given
use Rattle.properties_c.specs.{Private.Results.PushesGroup, Private.Results.is_read, Private.Results.reads, declared.asked.Asked.Asked}
use Rattle.properties_c.specs.{declared.asked.Texts.TheVariants.Read, Packed.Record, Packed.spanned}
use Rattle.properties_c.proofs.GivenLines.{is-read}

-- ---- group after group

-- These bytes are packed of the groups before the view, and others of those after it.
abbrev pub HasSpanned : Asked → OpenView → List ℕ → OpenView → Type 0
HasSpanned a v bytes now = (rest : List ℕ) → ArePacked a now now.to_come rest → ArePacked a v v.to_come (bytes ++ rest)

-- one more
pub spanned-next : (a : Asked) (v now new : OpenView) (old bytes : List ℕ) (group : ViewedGroup) → HasSpanned a v old now → TakesNext now group new
    → PushesGroup a new old bytes → HasSpanned a v bytes new
spanned-next a v now new old bytes group before takes pushes = λ rest h.
    let first = pushes.0 in
    let here : ArePacked a now (new.group ∷ new.to_come) (first ++ rest) = (
      first,
      rest,
      subst (λ w. IsPackedGroup a w first) takes.moves pushes.1,
      refl,
      subst (λ w. ArePacked a w new.to_come rest) takes.moves h,
    ) in
    subst (ArePacked a v v.to_come) (sym (append_assoc old first rest) ∙ ap (λ w. w ++ rest) (sym pushes.2))
    (before (first ++ rest) (subst (λ w. ArePacked a now w (first ++ rest)) (sym takes.takes) here))

-- no more
pub spanned-all : (a : Asked) (v now : OpenView) (bytes : List ℕ) → HasSpanned a v bytes now → now.to_come ≡ [] → ArePacked a v v.to_come bytes
spanned-all a v now bytes before none =
    subst (ArePacked a v v.to_come) (append-nil bytes) (before [] (subst (λ w. ArePacked a now w []) (sym none) refl))

pub none-left : (old new : OpenView) (answer : Option ViewedGroup) → GivesNext {E = ℕ} old (Ok answer) new
    → ((group : ViewedGroup) → answer ≡ Some group → ⊥) → old.to_come ≡ []
none-left old new None h none = h.0
none-left old new (Some group) h none = absurd (none group refl)

-- ---- the texts of a group as they stand

pub raw-value : (x text : List ℕ) (what : Logical) → IsSplit x what → IsRawValue x text → text ≡ given.outcome_value (standing what)
raw-value x text what h raw = raw.2 ∙ ap text_or_value (split-unique x raw.0 what raw.1 h) ∙ by what
  where
    by : (what : Logical) → text_or_value what ≡ given.outcome_value (standing what)
    by blank = refl
    by (comment text) = refl
    by (pair key value) = refl

pub raw-key : (x key : List ℕ) (what : Logical) → IsSplit x what → IsRawKey x key → (group_kind what ≡ group.Comment → ⊥) → key ≡ key_in (standing what)
raw-key x key what h (blank, k) other = k.1 ∙ ap (λ w. key_in (standing w)) (split-unique x blank what k.0 h)
raw-key x key what h (comment text, k) other = absurd (other (ap group_kind (split-unique x what (comment text) h k.0)))
raw-key x key what h (pair name value, k) other = k.1 ∙ ap (λ w. key_in (standing w)) (split-unique x (pair name value) what k.0 h)

-- The sign of a comment is no key.
pub no-key : (what : Logical) → group_kind what ≡ group.Comment → key_in (standing what) ≡ []
no-key blank h = refl
no-key (comment text) h = refl
no-key (pair key value) h = absurd (cc)

-- ---- whether it is read

pub read-texts : (a : Asked) (what : Logical) → is_read a (group_kind what) ≡ true → asked_texts a what ≡ Read
read-texts a blank h = absurd (cc)
read-texts a (comment text) h = is-read a.comments h
read-texts a (pair key value) h = is-read a.pairs h

-- A blank line is not read, nor is another whose texts aren't.
pub is-not-read : (a : Asked) (what : Logical) → is_read a (group_kind what) ≡ false → asked_texts a what ≡ Read → ⊥
is-not-read a blank h k = absurd (cc)
is-not-read a (comment text) h k = let is : true ≡ false = ap reads (sym k) ∙ h in absurd (cc)
is-not-read a (pair key value) h k = let is : true ≡ false = ap reads (sym k) ∙ h in absurd (cc)

-- ---- a group

pub standing-record : (group : ViewedGroup) (what : Logical) (kind : ℕ) (key key_text value value_text : List ℕ) → kind ≡ kind_number group.kind
    → key ≡ key_text → IsUtf8 key_text → chars key_text ≡ key_in (standing what)
    → value ≡ value_text → IsUtf8 value_text → chars value_text ≡ given.outcome_value (standing what)
    → let r : Record = record { kind = kind; line = group.line_number; key = key; value = value } in
    r ≡ record { kind = kind_number group.kind; line = group.line_number; key = encode_utf8_all (key_in (standing what)); value = encode_utf8_all (given.outcome_value (standing what)) }
standing-record group what kind key key_text value value_text k i u is j w also =
    let in_key : key ≡ encode_utf8_all (key_in (standing what)) = i ∙ sym (encodes-chars key_text u) ∙ ap encode_utf8_all is in
    let in_value : value ≡ encode_utf8_all (given.outcome_value (standing what)) = j ∙ sym (encodes-chars value_text w) ∙ ap encode_utf8_all also in
    rw (k, in_key, in_value) refl

pub group-packed : (a : Asked) (v : OpenView) (group : ViewedGroup) (numbers : List ℕ) (r : Record) (shows : Outcome) → IsGroup v group
    → AreNumbersOf v group numbers → IsShown a (viewed_line v) shows
    → r ≡ record { kind = kind_number group.kind; line = group.line_number; key = encode_utf8_all (key_in shows); value = encode_utf8_all (given.outcome_value shows) }
    → IsPackedGroup a v (spanned r numbers)
group-packed a v group numbers r shows g are s is =
    record { group = group; is_group = g; numbers = numbers; are_numbers = are; shows = shows; is_shown = s; is = ap (λ w. spanned w numbers) is }
