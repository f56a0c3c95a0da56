-- Renames one after another.
use Rattle.std.specs.Result.{IsErrAnd}
use Rattle.properties_renaming.proofs.RenamesAtOnce.{all-accepted, any-name, first-refused, one-makeable}
use Rattle.properties_renaming.proofs.ManyRenames.{at-once}
use Rattle.properties_renaming.specs.declared.renames.Roles.{Roles}
use Rattle.properties_renaming.specs.declared.renames.Pass.{Pass}
use Rattle.properties_format.specs.Text.{scalar}
use Rattle.std.proofs.Common.{inl, inr, All, ◌≡◌, ◌≢◌, ◌<◌, ◌≤◌, ℕ, zero, suc, ◌+◌, List, [], ◌∷◌, ◌++◌, length, get_or, take, drop, refl, sym, ap, ◌∙◌, subst, arith, true, ◌⊎◌, Some}
use Rattle.std.specs.Prelude.{Result, Ok, Err}
use Rattle.std.specs.Global.{Vec}
use Rattle.std.proofs.Math.Seq.{take-add}
use Rattle.std.proofs.lemmas.List.{length-drop, length-map, length-take-le, map-append, take-append-drop, take-take, take_all}
use Rattle.properties_items.proofs.Scalars.{string-scalars}
use Rattle.properties_renaming.specs.declared.renames.Run.{Run}
use Rattle.properties_editing.specs.declared.source.SourceOptions.{SourceOptions}
use Rattle.properties_editing.specs.Editing.{asked_for}
use Rattle.properties_renaming.specs.Renaming.{HasNewName, IsEditable, IsTaken, LacksKey, RenamesKey}
use Rattle.properties_renaming.specs.Renames.{AreRenamedInTurn, IsRefusedAt, NewName, RenamesKeys, name_in, names_in, new_name}
use Rattle.properties_renaming.specs.Private.Renames.{IsInEditableEncoding, IsRefusedFor, MakesFirst, RenamesInTurn, RenamesSome, error_at, AreAccepted, AreMakeable, HasPassed, HasRoles, TellsRefusal}
use Rattle.properties_renaming.specs.declared.renames.Rename.{Rename}
use Rattle.properties_renaming.specs.declared.renames.RenamesError.{RenamesError}
use Rattle.properties_renaming.specs.declared.renames.RenamesError.TheVariants.{Source, NoKey, KeyTaken}
use Rattle.properties_renaming.specs.declared.renaming.RenameError.{RenameError}
use Rattle.properties_renaming.specs.declared.renaming.RenameError.TheVariants as one
use Rattle.properties_renaming.proofs.KeyedValues.{mapped-more}
use Rattle.properties_renaming.proofs.RenamedKeys.{edited-editable}
use Rattle.properties_renaming.proofs.RenamedMarks.{still-read}

pub names-more : (renames : List Rename) (i : ℕ) (rename : Rename) → i < length renames → rename ≡ get_or renames i rename
    → names_in (take (i + 1) renames) ≡ names_in (take i renames) ++ name_in rename ∷ []
names-more renames i rename h is = mapped-more name_in renames i rename h is

pub names-size : (renames : List Rename) (i : ℕ) → i ≤ length renames → length (names_in (take i renames)) ≡ i
names-size renames i h = length-map (take i renames) name_in ∙ length-take-le i renames h

-- ---- runs

in-turn-append : (options : SourceOptions) (source left next : List ℕ) (ns ms : List NewName) → AreRenamedInTurn options source ns left
    → AreRenamedInTurn options left ms next → AreRenamedInTurn options source (ns ++ ms) next
in-turn-append options source left next [] ms h k = subst (λ s. AreRenamedInTurn options s ms next) h k
in-turn-append options source left next (n ∷ ns) ms (mid, step, rest) k = (mid, step, in-turn-append options mid left next ns ms rest k)

-- After some renames, a run is made of those behind them.
pub run-more : (options : SourceOptions) (source left : List ℕ) (renames : List Rename) (i : ℕ) (run : Run)
    → AreRenamedInTurn options source (names_in (take i renames)) left → MakesFirst options left (drop i renames) run
    → AreRenamedInTurn options source (names_in (take (i + run.count) renames)) run.bytes.items
run-more options source left renames i run made h =
    let names = ap names_in (take-add i run.count renames) ∙ map-append name_in (take i renames) (take run.count (drop i renames)) in
    subst (λ ns. AreRenamedInTurn options source ns run.bytes.items) (sym names)
    (in-turn-append options source left run.bytes.items (names_in (take i renames)) (names_in (take run.count (drop i renames))) made h.made)

-- What a rename leaves can be edited,
read-next : (options : SourceOptions) (source old new next : List ℕ) → IsInEditableEncoding options source → All scalar new
    → HasNewName options source old new next → IsInEditableEncoding options next
read-next options source old new next ok scalars (inl (other, renamed, alike)) = still-read (asked_for options) source old new next ok scalars renamed
read-next options source old new next ok scalars (inr (same, kept)) = subst (IsInEditableEncoding options) (sym kept.same) ok

-- and so can what several leave.
pub read-run : (options : SourceOptions) (source next : List ℕ) (renames : List Rename) → IsInEditableEncoding options source
    → AreRenamedInTurn options source (names_in renames) next → IsInEditableEncoding options next
read-run options source next [] ok h = subst (IsInEditableEncoding options) (sym h) ok
read-run options source next (r ∷ rs) ok (mid, step, rest) =
    read-run options mid next rs (read-next options source (name_in r).old (name_in r).new mid ok (string-scalars r.new) step) rest

-- What is made of the first of these is made of all.
pub some-of-front : (options : SourceOptions) (source : List ℕ) (renames : List Rename) (n : ℕ) (result : Result Run RenameError) → 0 < n → n ≤ length renames
    → RenamesSome options source (take n renames) result → RenamesSome options source renames result
some-of-front options source renames n (Ok run) some within h =
    let size = length-take-le n renames within in
    let below = h.within in
    let few : run.count ≤ n = omega arith in
    record {
      some = h.some;
      within = omega arith;
      made = subst (λ rs. AreRenamedInTurn options source (names_in rs) run.bytes.items) (take-take run.count n renames few) h.made;
    }
some-of-front options source [] n (Err error) some within h = tt
some-of-front options source (r ∷ rs) zero (Err error) some within h = absurd (omega arith)
some-of-front options source (r ∷ rs) (suc n) (Err error) some within h = h

-- All renames of a list were made in one pass,
pub makeable-run : (renames : List Rename) (roles : Roles) → 0 < length renames → HasRoles (names_in renames) roles
    → (roles.is_makeable ≡ true) ⊎ (length renames ≤ 1) → AreMakeable (names_in renames)
makeable-run renames roles some h (inl is) = h.makes is
makeable-run [] roles some h (inr one) = tt
makeable-run (r ∷ []) roles some h (inr one) = one-makeable (name_in r)
makeable-run (r ∷ s ∷ rs) roles some h (inr one) = absurd (omega arith)

pub all-made : (options : SourceOptions) (source : List ℕ) (renames : List Rename) (pass : Pass) → IsInEditableEncoding options source → 0 < length renames
    → AreMakeable (names_in renames) → HasPassed (asked_for options) source (names_in renames) pass
    → AreAccepted (names_in renames) pass.lines.entries (names_in renames)
    → MakesFirst options source renames (record { bytes = pass.bytes; count = length renames })
all-made options source renames pass read some makeable h accepted =
    let names = names_in renames in
    let once = all-accepted (asked_for options) source names pass makeable h accepted in
    record {
      some = some;
      within = omega arith;
      made =
          subst (λ rs. AreRenamedInTurn options source (names_in rs) pass.bytes.items) (sym (take_all (length renames) renames (omega arith)))
          (at-once options source pass.bytes.items names read once);
    }

-- or the first one is refused.
pub none-made : (options : SourceOptions) (source : List ℕ) (renames : List Rename) (pass : Pass) (error : RenameError)
    → HasPassed (asked_for options) source (names_in renames) pass
    → ((d : NewName) → TellsRefusal (names_in renames) pass.lines.entries (get_or (names_in renames) 0 d) (Some error))
    → RenamesSome options source renames (Err error)
none-made options source [] pass error h told = tt
none-made options source (r ∷ rs) pass error h told = first-refused options source (name_in r) (names_in rs) pass error h (told any-name)

-- The rename with this index is refused.
refused-at : (options : SourceOptions) (source left : List ℕ) (renames : List Rename) (i : ℕ) (rename : Rename) (after : List Rename)
    (IsRefused : List ℕ → NewName → Type 0) → i < length renames → drop i renames ≡ rename ∷ after
    → AreRenamedInTurn options source (names_in (take i renames)) left → IsRefused left (name_in rename)
    → IsRefusedAt options source (names_in renames) i IsRefused
refused-at options source left renames i rename after IsRefused h is made refused = record {
  before = names_in (take i renames);
  name = name_in rename;
  after = names_in after;
  division = ap names_in (sym (take-append-drop i renames) ∙ ap (λ w. take i renames ++ w) is)
      ∙ map-append name_in (take i renames) (rename ∷ after);
  index_is = sym (names-size renames i (omega arith));
  left = left;
  made = made;
  refused = refused;
}

pub refused : (options : SourceOptions) (source left : List ℕ) (renames : List Rename) (i : ℕ) (error : RenameError) → i < length renames
    → AreRenamedInTurn options source (names_in (take i renames)) left → RenamesSome options left (drop i renames) (Err error)
    → RenamesInTurn options source (names_in renames) (Err (error_at i error))
refused options source left renames i error within made h = front (drop i renames) error refl h
  where
    front : (rest : List Rename) (error : RenameError) → drop i renames ≡ rest → RenamesSome options left rest (Err error)
        → RenamesInTurn options source (names_in renames) (Err (error_at i error))
    front [] error q k = let sizes = sym (length-drop i renames) ∙ ap length q in absurd (omega arith)
    front (r ∷ rs) one.NoKey q k =
        refused-at options source left renames i r rs (λ left name. LacksKey (asked_for options).encoding left name.old) within q made k
    front (r ∷ rs) (one.KeyTaken number) q k =
        refused-at options source left renames i r rs
        (λ left name. (name.old ≢ name.new) × IsTaken (asked_for options).encoding left name.old name.new number) within q made k
    front (r ∷ rs) (one.Source error) q k = k

-- ---- where the source can be edited

-- A list of one rename.
pub one-made : (options : SourceOptions) (source old new : List ℕ) (rename : Rename) (run : Run) → name_in rename ≡ new_name old new
    → MakesFirst options source (rename ∷ []) run → HasNewName options source old new run.bytes.items
one-made options source old new rename run is h =
    let some = h.some in
    let within = h.within in
    let count : run.count ≡ 1 = omega arith in
    let made : AreRenamedInTurn options source (name_in rename ∷ []) run.bytes.items =
    subst (λ c. AreRenamedInTurn options source (names_in (take c (rename ∷ []))) run.bytes.items) count h.made in
    subst (HasNewName options source old new) (sym made.2) (subst (λ n. let m : NewName = n in HasNewName options source m.old m.new made.0) is made.1)

pub one-refused : (options : SourceOptions) (source old new : List ℕ) (error : RenameError) (result : Result (Vec ℕ) RenameError) → IsEditable options source
    → IsRefusedFor options source (new_name old new) error → IsErrAnd result (λ e. e ≡ error) → RenamesKey options source old new result
one-refused options source old new error (Ok bytes) e h is = absurd is
one-refused options source old new error (Err given) e h is = of given (subst (IsRefusedFor options source (new_name old new)) (sym is) h)
  where
    of : (error : RenameError) → IsRefusedFor options source (new_name old new) error → RenamesKey options source old new (Err error)
    of one.NoKey h = (e, h)
    of (one.KeyTaken number) h = (e, h.0, h.1)
    of (one.Source error) h = inr (e, h)

pub keys-source : (options : SourceOptions) (source : List ℕ) (names : List NewName) (result : Result (Vec ℕ) RenamesError) → IsEditable options source
    → RenamesInTurn options source names result → RenamesKeys options source names result
keys-source options source names (Ok bytes) e h = (e, h)
keys-source options source names (Err (NoKey index)) e h = (e, h)
keys-source options source names (Err (KeyTaken index number)) e h = (e, h)
keys-source options source names (Err (Source error)) e h = inr (e, h)

pub is-read : (options : SourceOptions) (source : List ℕ) → IsEditable options source → IsInEditableEncoding options source
is-read options source (bytes, e) = edited-editable (asked_for options) source bytes options.comments e
