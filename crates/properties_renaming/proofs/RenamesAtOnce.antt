-- How keys are renamed in one pass: the roles of their names, and what was copied and found group after group.
use Rattle.properties_renaming.specs.declared.renames.Rename.{Rename}
use Rattle.properties_editing.specs.declared.source.SourceOptions.{SourceOptions}
use Rattle.properties_editing.specs.Editing.{asked_for}
use Rattle.properties_renaming.specs.declared.renaming.RenameError.TheVariants.{Source, NoKey, KeyTaken}
use Rattle.properties_renaming.specs.declared.renaming.RenameError.{RenameError}
use Rattle.properties_renaming.specs.declared.renames.Pass.{Pass}
use Rattle.std.proofs.Common.{inl, inr, ◌≡◌, ◌≢◌, ◌<◌, ◌≤◌, ℕ, ◌+◌, Bool, true, false, List, [], ◌∷◌, ◌++◌, length, get_or, refl, sym, ap, ◌∙◌, subst, append_assoc, arith}
use Rattle.std.specs.Prelude.{bytes_eq, Option, Some, None, not, if◌then◌else◌, is_some}
use Rattle.std.specs.Option.{unwrap_or}
use Rattle.std.specs.declared.string.String.{String}
use Rattle.std.proofs.lemmas.Bool.{cases_Bool, cond-false, cond-true}
use Rattle.std.proofs.lemmas.Slice.Eq.{bytes_eq-Decides}
use Rattle.properties_format.specs.Encoding.{Characters, Encoding, Repertoire, repertoire_in_force}
use Rattle.properties_format.specs.Lines.{joined}
use Rattle.properties_format.specs.Items.{IsOutcome, given, pair}
use Rattle.properties_format.specs.Body.{HasKey, HeldLine, NoneHasKey, as_lines, group_bytes, held_in}
use Rattle.properties_format.specs.Computed.Items.{outcome_of}
use Rattle.properties_format.proofs.Items.Unique.{outcome_of-meets, outcome_of-only}
use Rattle.properties_editing.specs.Views.{IsViewOf, OpenView, TakesNext}
use Rattle.properties_editing.specs.declared.group.ViewedGroup.{ViewedGroup}
use Rattle.properties_renaming.specs.Renames.{NewName, name_in, names_in}
use Rattle.properties_renaming.specs.Private.Copied.{IsNew, copied_to}
use Rattle.properties_renaming.specs.Private.Renaming.{AreMade, IsAnyPair, IsFirstWith}
use Rattle.properties_renaming.specs.Private.Keyed.{GivesValue, value_at, value_of, KeepsValue}
use Rattle.properties_renaming.specs.Private.Renames.{AreRolesOf, IsNewAt, IsRoleIn, last_name, needed, AddsNames, AreAccepted, AreLinesOf, AreMakeable, HasPassed, IsAccepted, IsGivenBy, IsRefusedFor, TellsFirst, TellsRefusal, asks, first_last, last_in}
use Rattle.properties_renaming.specs.declared.copied.Copied.{Copied}
use Rattle.properties_renaming.specs.declared.renames.Role.{Role}
use Rattle.properties_renaming.specs.Renaming.{IsRekeyed}
use Rattle.properties_renaming.proofs.KeyedValues.{value-some}
use Rattle.properties_renaming.proofs.ManyRenames.{key-only, last-kept, last-old, last-other, needed-new, needed-old, needed-other, IsMadeBy, AreRenamedAtOnce}
use Rattle.properties_renaming.proofs.RenamedKeys.{IsUpTo, all-up, next-up, none-yet, viewed, viewed-force, none-append, none-at, other-key}

-- ---- the roles of names

-- A key that is none of these names keeps its name.
pub no-last : (ns : List NewName) (key : List ℕ) → needed ns key ≡ None → last_name ns key ≡ None
no-last [] key h = refl
no-last (n ∷ ns) key h = elim (cases_Bool (bytes_eq key n.old)) [
  | inl t ↦ absurd (let s = rw t at h in cc)
  | inr t ↦ elim (cases_Bool (bytes_eq key n.new)) [
    | inl u ↦ absurd (let s = rw (t, u) at h in cc)
    | inr u ↦ last-other n ns key (other-key key n.old t) ∙ no-last ns key (rw (t, u) at h)
  ]
]

-- What a role tells of a key that the first of the renames doesn't name.
role-more : (all ns : List NewName) (n : NewName) (key : List ℕ) (role : Option Role) → key ≢ n.old → key ≢ n.new → IsRoleIn all ns key role
    → IsRoleIn all (n ∷ ns) key role
role-more all ns n key None o w h = needed-other n ns key o w ∙ h
role-more all ns n key (Some role) o w (needs, at) =
    (needed-other n ns key o w ∙ needs, subst (λ l. IsNewAt all l role.last) (sym (last-other n ns key o)) at)

-- It tells which rename gives the key its last name,
last-told : (all ns : List NewName) (key : List ℕ) (role : Option Role) → IsRoleIn all ns key role → IsNewAt all (last_name ns key) (last_in role)
last-told all ns key None h = no-last ns key h
last-told all ns key (Some role) h = h.1

-- and whether a pair has to have it, or none may.
pub asks-not : (all ns : List NewName) (key : List ℕ) (role : Option Role) (needs : Bool) → IsRoleIn all ns key role → asks role needs ≡ false
    → needed ns key ≢ Some needs
asks-not all ns key None needs h q s = cc
asks-not all ns key (Some role) needs h q s = let same : role.is_needed ≡ needs = cc in no needs (subst (λ b. (if b then needs else not needs) ≡ false) same q)
  where
    no : (b : Bool) → (if b then b else not b) ≡ false → ⊥
    no true h = cc
    no false h = cc

-- The last name of the first rename's old key.
first-named : (all ns : List NewName) (n : NewName) (index : ℕ) (same : Bool) (last : Option ℕ) → bytes_eq n.old n.new ≡ same → index < length all
    → ((d : NewName) → get_or all index d ≡ n) → IsNewAt all (last_name ns n.new) last
    → IsNewAt all (last_name (n ∷ ns) n.old) (first_last same index last)
first-named all ns n index true last q within is h =
    let same = (bytes_eq-Decides n.old n.new).0 q in
    subst (λ l. IsNewAt all l last) (sym (last-kept n ns n.old same ∙ ap (last_name ns) same)) h
first-named all ns n index false None q within is h =
    (within, λ d. last-old n ns (other-key n.old n.new q) ∙ ap (λ w. Some (unwrap_or w n.new)) h ∙ ap (λ w. let m : NewName = w in Some m.new) (sym (is d)))
first-named all ns n index false (Some i) q within is h =
    (h.0, λ d. last-old n ns (other-key n.old n.new q) ∙ ap (λ w. Some (unwrap_or w n.new)) (h.1 d))

-- The names of a rename before these are given their roles.
pub names-added : {Y : Type 0} (old mid new : List (String Y × Role)) (index : ℕ) (n : NewName) (same : Bool) → bytes_eq n.old n.new ≡ same
    → GivesValue old n.new (record { is_needed = false; last = last_in (value_at old n.new) }) mid
    → GivesValue mid n.old (record { is_needed = true; last = first_last same index (last_in (value_at old n.new)) }) new → AddsNames old index n new
names-added old mid new index n same q to_mid to_new all ns within is roles =
    let later = last_in (value_at old n.new) in
    let told = last-told all ns n.new (value_at old n.new) (roles n.new) in
    let before : Role = record { is_needed = true; last = first_last same index later } in
    let after : Role = record { is_needed = false; last = later } in
    λ k. elim (cases_Bool (bytes_eq n.old k)) [
      | inl c ↦
          subst (IsRoleIn all (n ∷ ns) k) (sym (to_new k ∙ cond-true (bytes_eq n.old k) (Some before) (value_at mid k) c))
          (subst (λ w. IsRoleIn all (n ∷ ns) w (Some before)) ((bytes_eq-Decides n.old k).0 c)
          (needed-old n ns, first-named all ns n index same later q within is told))
      | inr c ↦
          let stays = to_new k ∙ cond-false (bytes_eq n.old k) (Some before) (value_at mid k) c ∙ to_mid k in
          elim (cases_Bool (bytes_eq n.new k)) [
            | inl b ↦
                let apart : n.old ≢ n.new = λ s. other-key n.old k c (s ∙ (bytes_eq-Decides n.new k).0 b) in
                subst (IsRoleIn all (n ∷ ns) k) (sym (stays ∙ cond-true (bytes_eq n.new k) (Some after) (value_at old k) b))
                (subst (λ w. IsRoleIn all (n ∷ ns) w (Some after)) ((bytes_eq-Decides n.new k).0 b)
                (needed-new n ns apart, subst (λ l. IsNewAt all l later) (sym (last-other n ns n.new (λ s. apart (sym s)))) told))
            | inr b ↦
                subst (IsRoleIn all (n ∷ ns) k) (sym (stays ∙ cond-false (bytes_eq n.new k) (Some after) (value_at old k) b))
                (role-more all ns n k (value_at old k) (λ s. other-key n.old k c (sym s)) (λ s. other-key n.new k b (sym s)) (roles k))
          ]
    ]

-- One pass can make one rename.
pub one-makeable : (n : NewName) → AreMakeable (n ∷ [])
one-makeable n = elim (cases_Bool (bytes_eq n.old n.new)) [
  | inl t ↦ (inl ((bytes_eq-Decides n.old n.new).0 t, λ s. cc), tt)
  | inr t ↦ (inr (other-key n.old n.new t, inr refl, λ s. cc, λ s. cc), tt)
]

-- Of one rename, no other key has a role.
pub no-role : {Y : Type 0} (roles : List (String Y × Role)) (renames : List Rename) (rename : Rename) (key : List ℕ) → length renames ≡ 1
    → rename ≡ get_or renames 0 rename → AreRolesOf (names_in renames) (names_in renames) roles → key ≢ (name_in rename).old → key ≢ (name_in rename).new
    → None ≡ value_at roles key
no-role roles [] rename key one is all o w = absurd (omega arith)
no-role roles (r ∷ s ∷ rs) rename key one is all o w = absurd (omega arith)
no-role roles (r ∷ []) rename key one is all o w = of (value_at roles key) (all key)
  where
    none : needed (name_in r ∷ []) key ≡ None
    none = needed-other (name_in r) [] key (subst (λ t. key ≢ (name_in t).old) is o) (subst (λ t. key ≢ (name_in t).new) is w)

    of : (role : Option Role) → IsRoleIn (name_in r ∷ []) (name_in r ∷ []) key role → None ≡ role
    of None h = refl
    of (Some role) h = absurd (let t = sym none ∙ h.0 in cc)

-- ---- the role of a group

-- any name
pub any-name : NewName
any-name = record { old = []; new = [] }

-- The key of a group has a role if it is one of the names.
role-of : {Y : Type 0} (names : List NewName) (roles : List (String Y × Role)) (g : List HeldLine) (key : List ℕ) → AreRolesOf names names roles
    → HasKey key g → IsRoleIn names names key (value_of roles (outcome_of (joined (as_lines g))))
role-of names roles g key all (value, k) =
    subst (IsRoleIn names names key) (ap (value_of roles) (outcome_of-only (joined (as_lines g)) (given (pair key value)) k)) (all key)

-- A group whose key has a role is a pair.
record IsKeyed (g : List HeldLine) : Type 0 where
  key : List ℕ
  value : List ℕ
  has : HasKey key g
  is : outcome_of (joined (as_lines g)) ≡ given (pair key value)

group-role : {Y : Type 0} {role : Role} (roles : List (String Y × Role)) (g : List HeldLine)
    → value_of roles (outcome_of (joined (as_lines g))) ≡ Some role → IsKeyed g
group-role {role = role} roles g h =
    let x = joined (as_lines g) in
    let k = value-some roles (outcome_of x) role h in
    record { key = k.0; value = k.1; has = (k.1, subst (IsOutcome x) k.2 (outcome_of-meets x)); is = k.2 }

-- A pair that gets another name.
pub record IsNamedAt (names : List NewName) (g : List HeldLine) (last : ℕ) : Type 0 where
  pub key : List ℕ
  pub has : HasKey key g
  pub at : IsNewAt names (last_name names key) (Some last)

pub named-at : {Y : Type 0} (names : List NewName) (roles : List (String Y × Role)) (g : List HeldLine) (last : ℕ) → AreRolesOf names names roles
    → last_in (value_of roles (outcome_of (joined (as_lines g)))) ≡ Some last → IsNamedAt names g last
named-at names roles g last all h = of (value_of roles (outcome_of (joined (as_lines g)))) refl h
  where
    of : (role : Option Role) → value_of roles (outcome_of (joined (as_lines g))) ≡ role → last_in role ≡ Some last → IsNamedAt names g last
    of None q h = absurd (cc)
    of (Some role) q h =
        let k = group-role {role = role} roles g q in
        let told = role-of names roles g k.key all k.has in
        record { key = k.key; has = k.has; at = subst (IsNewAt names (last_name names k.key)) (ap last_in q ∙ h) (last-told names names k.key _ told) }

pub named-pair : {names : List NewName} {g : List HeldLine} {last : ℕ} → IsNamedAt names g last → IsAnyPair (joined (as_lines g))
named-pair h = let k = h.has.1 in (k.raw_key, k.raw_value, k.split)

-- What a pass makes of it,
pub given-new : {r : Repertoire} {names : List NewName} {first : Bool} {g : List HeldLine} {last : ℕ} {made : List ℕ} → IsNamedAt names g last
    → IsRekeyed r first g (get_or names last any-name).new made → IsGivenBy r names first g made
given-new {names = names} {last = last} h k = inl (h.key, (get_or names last any-name).new, h.has, h.at.1 any-name, k)

-- and of any other group.
pub given-same : {Y : Type 0} {r : Repertoire} {first : Bool} (names : List NewName) (roles : List (String Y × Role)) (g : List HeldLine)
    → AreRolesOf names names roles → last_in (value_of roles (outcome_of (joined (as_lines g)))) ≡ None → IsGivenBy r names first g (group_bytes g)
given-same names roles g all h =
    inr (λ key has. subst (IsNewAt names (last_name names key)) h (last-told names names key _ (role-of names roles g key all has)), refl)

-- ---- the first pair with a key

first-more : (key : List ℕ) (gs : List (List HeldLine)) (g : List HeldLine) (number : ℕ) → IsFirstWith key gs number → IsFirstWith key (gs ++ g ∷ []) number
first-more key gs g number h = record {
  before = h.before;
  group = h.group;
  after = h.after ++ g ∷ [];
  division = ap (λ w. w ++ g ∷ []) h.division ∙ append_assoc h.before (h.group ∷ h.after) (g ∷ []);
  none_before = h.none_before;
  has_key = h.has_key;
  is_number = h.is_number;
}

first-next : (key : List ℕ) (gs : List (List HeldLine)) (g : List HeldLine) (number : Option ℕ) → TellsFirst key gs number → ¬ (HasKey key g)
    → TellsFirst key (gs ++ g ∷ []) number
first-next key gs g None h k = none-append key gs g h k
first-next key gs g (Some number) h k = first-more key gs g number h

first-now : (key : List ℕ) (gs : List (List HeldLine)) (g : List HeldLine) (number : ℕ) (was : Option ℕ) → TellsFirst key gs was → HasKey key g
    → number ≡ length (held_in gs) + 1 → TellsFirst key (gs ++ g ∷ []) (Some (unwrap_or was number))
first-now key gs g number None h has is =
    record { before = gs; group = g; after = []; division = refl; none_before = h; has_key = has; is_number = is }
first-now key gs g number (Some first) h has is = first-more key gs g first h

the-some : {X : Type 0} (o : Option X) → is_some o ≡ true → (x : X) × (o ≡ Some x)
the-some None h = absurd (cc)
the-some (Some x) h = (x, refl)

no-some : {X : Type 0} (o : Option X) → is_some o ≡ false → o ≡ None
no-some None h = refl
no-some (Some x) h = absurd (cc)

-- The line of a group with a role is kept,
pub lines-kept : {Y Z : Type 0} (names : List NewName) (roles : List (String Y × Role)) (lines lines' : List (String Z × ℕ))
    (gs : List (List HeldLine)) (g : List HeldLine) (number : ℕ) → is_some (value_of roles (outcome_of (joined (as_lines g)))) ≡ true
    → AreLinesOf names gs lines → KeepsValue lines (outcome_of (joined (as_lines g))) number lines' → number ≡ length (held_in gs) + 1
    → AreLinesOf names (gs ++ g ∷ []) lines'
lines-kept names roles lines lines' gs g number some h kept is = λ key needs q.
    let role = the-some (value_of roles (outcome_of (joined (as_lines g)))) some in
    let k = group-role {role = role.0} roles g role.1 in
    let now = rw k.is at kept in
    let given = Some (unwrap_or (value_at lines k.key) number) in
    elim (cases_Bool (bytes_eq k.key key)) [
      | inl c ↦
          let same = (bytes_eq-Decides k.key key).0 c in
          subst (TellsFirst key (gs ++ g ∷ [])) (sym (now key ∙ cond-true (bytes_eq k.key key) given (value_at lines key) c))
          (subst (λ w. TellsFirst w (gs ++ g ∷ []) given) same
          (first-now k.key gs g number (value_at lines k.key) (h k.key needs (ap (needed names) same ∙ q)) k.has is))
      | inr c ↦
          subst (TellsFirst key (gs ++ g ∷ [])) (sym (now key ∙ cond-false (bytes_eq k.key key) given (value_at lines key) c))
          (first-next key gs g (value_at lines key) (h key needs q) (λ has. other-key k.key key c (key-only k.key key g k.has has)))
    ]

-- and another group has none of the names.
pub lines-same : {Y Z : Type 0} (names : List NewName) (roles : List (String Y × Role)) (lines : List (String Z × ℕ)) (gs : List (List HeldLine))
    (g : List HeldLine) → AreRolesOf names names roles → is_some (value_of roles (outcome_of (joined (as_lines g)))) ≡ false → AreLinesOf names gs lines
    → AreLinesOf names (gs ++ g ∷ []) lines
lines-same names roles lines gs g all none h = λ key needs q.
    first-next key gs g (value_at lines key) (h key needs q)
    (λ has. let t = subst (IsRoleIn names names key) (no-some (value_of roles (outcome_of (joined (as_lines g)))) none) (role-of names roles g key all has) in cc)

-- ---- group after group

-- What was copied, and the lines of the first pairs.
pub record AreRenamedUpTo {Y : Type 0} (characters : Characters) (source : List ℕ) (names : List NewName) (v now : OpenView) (c : Copied)
    (lines : List (String Y × ℕ)) (first : Bool) : Type 0 where
  pub up : IsUpTo (IsGivenBy (viewed characters v) names) source v now c first
  pub met : AreLinesOf names up.passed lines

module _ {Y : Type 0} {characters : Characters} {source : List ℕ} {names : List NewName} {v : OpenView} where
  pub all-none : {requested : Encoding} {c : Copied} (lines : List (String Y × ℕ)) → IsViewOf requested source v → IsNew source c → lines ≡ []
      → AreRenamedUpTo characters source names v v c lines true
  all-none lines o k none =
      let n = none-yet o k in
      record {
        up = n.0;
        met = λ key needs q.
            subst (λ w. TellsFirst key n.0.passed (value_at w key)) (sym none) (subst (NoneHasKey key) (sym n.1) tt);
      }

  pub all-next : {now next : OpenView} {c c' : Copied} {lines : List (String Y × ℕ)} {first : Bool} (lines' : List (String Y × ℕ)) (group : ViewedGroup)
      (made : List ℕ)
      → (h : AreRenamedUpTo characters source names v now c lines first) → TakesNext now group next → c'.source.now ≡ c.source.now
      → c'.done ≤ next.start + length (group_bytes next.group)
      → copied_to c' (next.start + length (group_bytes next.group)) ≡ copied_to c next.start ++ made
      → IsGivenBy (viewed characters next) names first next.group made → AreLinesOf names (h.up.passed ++ next.group ∷ []) lines'
      → AreRenamedUpTo characters source names v next c' lines' false
  all-next {now} {next} {first = first} lines' group made h t same done copied step met =
      let encoding : next.encoding ≡ v.encoding = ap (λ w. let o : OpenView = w in o.encoding) t.moves ∙ h.up.encoding in
      let n = next-up group made h.up t same done copied
      (subst (λ e. IsGivenBy (record { encoding = e; characters = characters }) names first next.group made) encoding step) in
      record { up = n.0; met = subst (λ gs. AreLinesOf names gs lines') (sym n.1) met }

pub all-passed : {r : Repertoire} {source : List ℕ} {names : List NewName} {v now : OpenView} {c : Copied} {first : Bool} (pass : Pass)
    → IsViewOf r.encoding source v → AreRenamedUpTo r.characters source names v now c pass.lines.entries first → now.to_come ≡ []
    → pass.bytes.items ≡ copied_to c (length c.source.now) → HasPassed r source names pass
all-passed {r = r} {source} {names} {v} pass o h none is =
    let k = all-up pass.bytes.items o h.up none is in
    record {
      groups = h.up.passed;
      held = k.held;
      lines = h.met;
      body = k.body;
      made = subst (λ t. AreMade (IsGivenBy t names) true h.up.passed k.body) (viewed-force {r = r} o) k.made;
      whole = k.whole;
    }

-- ---- what a pass met

first-there : (key : List ℕ) (gs : List (List HeldLine)) (number : Option ℕ) → TellsFirst key gs number → number ≢ None → ¬ (NoneHasKey key gs)
first-there key gs None h some none = some refl
first-there key gs (Some number) h some none = none-at key h.before h.group h.after (subst (NoneHasKey key) h.division none) h.has_key

pub accepted-push : {Y : Type 0} (names : List NewName) (lines : List (String Y × ℕ)) (ns : List NewName) (n : NewName) → AreAccepted names lines ns
    → IsAccepted names lines n → AreAccepted names lines (ns ++ n ∷ [])
accepted-push names lines [] n h k = (k, tt)
accepted-push names lines (m ∷ ns) n h k = (h.0, accepted-push names lines ns n h.1 k)

-- Of renames that are accepted, each old key is there, and each new one is free.
module _ {Y : Type 0} (names : List NewName) (lines : List (String Y × ℕ)) (key : List ℕ) where
  old-met : (ns : List NewName) → AreAccepted names lines ns → needed ns key ≡ Some true → needed names key ≡ Some true → value_at lines key ≢ None
  old-met [] h q needs = absurd (cc)
  old-met (n ∷ ns) h q needs = elim (cases_Bool (bytes_eq key n.old)) [
    | inl t ↦
        let same = (bytes_eq-Decides key n.old).0 t in
        subst (λ w. value_at lines w ≢ None) (sym same) (h.0.0 (ap (needed names) (sym same) ∙ needs))
    | inr t ↦ elim (cases_Bool (bytes_eq key n.new)) [
      | inl u ↦ absurd (let s = rw (t, u) at q in cc)
      | inr u ↦ old-met ns h.1 (rw (t, u) at q) needs
    ]
  ]

  new-free : (ns : List NewName) → AreAccepted names lines ns → needed ns key ≡ Some false → needed names key ≡ Some false → value_at lines key ≡ None
  new-free [] h q needs = absurd (cc)
  new-free (n ∷ ns) h q needs = elim (cases_Bool (bytes_eq key n.old)) [
    | inl t ↦ absurd (let s = rw t at q in cc)
    | inr t ↦ elim (cases_Bool (bytes_eq key n.new)) [
      | inl u ↦
          let same = (bytes_eq-Decides key n.new).0 u in
          ap (value_at lines) same ∙ h.0.1 (ap (needed names) (sym same) ∙ needs)
      | inr u ↦ new-free ns h.1 (rw (t, u) at q) needs
    ]
  ]

free-made : (r : Repertoire) (names : List NewName) (first : Bool) (gs : List (List HeldLine)) (bytes : List ℕ)
    → ((key : List ℕ) → needed names key ≡ Some false → NoneHasKey key gs) → AreMade (IsGivenBy r names) first gs bytes
    → AreMade (IsMadeBy r names) first gs bytes
free-made r names first [] bytes none h = h
free-made r names first (g ∷ gs) bytes none (made, more, k, s, rest) =
    (made, more, (λ key has q. (none key q).0 has, k), s, free-made r names false gs more (λ key q. (none key q).1) rest)

-- All of them were made,
pub all-accepted : (r : Repertoire) (source : List ℕ) (names : List NewName) (pass : Pass) → AreMakeable names → HasPassed r source names pass
    → AreAccepted names pass.lines.entries names → AreRenamedAtOnce r source names pass.bytes.items
all-accepted r source names pass makeable h k =
    let lines = pass.lines.entries in
    record {
      makeable = makeable;
      groups = h.groups;
      held = h.held;
      there = λ key q. first-there key h.groups (value_at lines key) (h.lines key true q) (old-met names lines key names k q q);
      body = h.body;
      made =
          free-made (repertoire_in_force r source) names true h.groups h.body
          (λ key q. subst (TellsFirst key h.groups) (new-free names lines key names k q q) (h.lines key false q)) h.made;
      whole = h.whole;
    }

-- or the first one is refused.
pub first-refused : (options : SourceOptions) (source : List ℕ) (n : NewName) (ns : List NewName) (pass : Pass) (error : RenameError)
    → HasPassed (asked_for options) source (n ∷ ns) pass → TellsRefusal (n ∷ ns) pass.lines.entries n (Some error) → IsRefusedFor options source n error
first-refused options source n ns pass NoKey h k =
    (h.groups, h.held, subst (TellsFirst n.old h.groups) k.1 (h.lines n.old true (needed-old n ns)))
first-refused options source n ns pass (KeyTaken number) h (there, free, at) =
    let first = subst (TellsFirst n.new h.groups) at (h.lines n.new false free) in (
      λ same. (let t = sym (needed-old n ns) ∙ ap (needed (n ∷ ns)) same ∙ free in cc),
      record {
        groups = h.groups;
        held = h.held;
        is_there = first-there n.old h.groups (value_at pass.lines.entries n.old) (h.lines n.old true (needed-old n ns)) (there (needed-old n ns));
        before = first.before;
        group = first.group;
        after = first.after;
        division = first.division;
        none_before = first.none_before;
        has_key = first.has_key;
        is_number = first.is_number;
      },
    )
first-refused options source n ns pass (Source error) h k = absurd k
