-- The last pairs with the keys of new comments: the lines that they begin in, and what these tell of a section.
use Rattle.std.proofs.Common.{inl, inr, ◌≡◌, ◌≢◌, ◌<◌, ◌==◌, eq-eqb, ℕ, ◌+◌, Bool, true, false, List, [], ◌∷◌, ◌++◌, length, get_or, refl, sym, ap, ◌∙◌, subst, arith, append_assoc, append-nil, length-append}
use Rattle.std.specs.Prelude.{bytes_eq, if◌then◌else◌, is_some, replicate, Option, Some, None}
use Rattle.std.specs.Map.{update}
use Rattle.std.specs.Option.{option_map, unwrap_or}
use Rattle.std.specs.declared.string.String.{String}
use Rattle.std.proofs.Math.ListN.{get_or-append, set}
use Rattle.std.proofs.Math.Seq.{get_or-append_seam}
use Rattle.std.proofs.lemmas.Bool.{cases_Bool, eqb-true}
use Rattle.std.proofs.lemmas.List.{get_or-replicate, get_or-set_other, get_or-set_same}
use Rattle.std.proofs.lemmas.Slice.Eq.{bytes_eq-Decides}
use Rattle.properties_format.specs.Encoding.{Encoding, InForce}
use Rattle.properties_format.specs.Items.{given, ignored, pair}
use Rattle.properties_format.specs.Lines.{joined}
use Rattle.properties_format.specs.Body.{HasKey, HeldLine, NoneHasKey, as_lines, held_in}
use Rattle.properties_format.specs.Computed.Items.{outcome_of}
use Rattle.properties_format.proofs.Edited.Fronts.{outcome-empty}
use Rattle.properties_format.proofs.Items.Unique.{outcome_of-meets, outcome_of-only}
use Rattle.properties_editing.specs.Views.{AreGiven, IsViewOf, OpenView, TakesNext, past_group}
use Rattle.properties_editing.specs.declared.group.ViewedGroup.{ViewedGroup}
use Rattle.properties_renaming.specs.Commenting.{HasNoPairFor, HaveKeys, IsLastFor, NewText, text_for}
use Rattle.properties_renaming.specs.Renaming.{AreIn, LacksKey}
use Rattle.properties_renaming.specs.Sections.{Section}
use Rattle.properties_renaming.specs.Private.Commenting.{AreIndicesBelow, AreIndicesOf, HasIndex, HasLastLines, IsFirstWithout, IsIndexOf, IsWithout, NoneHasIndex, NoneIsWithout, TellsLast, index_at}
use Rattle.properties_renaming.specs.Private.Keyed.{GivesValue, value_at, value_of}
use Rattle.properties_renaming.proofs.CommentedKeys.{one-groups}
use Rattle.properties_renaming.proofs.KeyedValues.{value-some}
use Rattle.properties_renaming.proofs.ManyRenames.{key-only}
use Rattle.properties_renaming.proofs.RenamedKeys.{held-push}

-- any text
pub any-text : NewText
any-text = record { key = []; text = [] }

-- ---- the index of the last comment for a key

pub none-indexed : {Y : Type 0} (indices : List (String Y × ℕ)) → indices ≡ [] → AreIndicesOf [] indices
none-indexed indices none = λ key. subst (IsIndexOf [] key) (sym (ap (λ w. value_at w key) none)) refl

text-push : (ts : List NewText) (t : NewText) (key : List ℕ) → text_for (ts ++ t ∷ []) key ≡ (if bytes_eq t.key key then Some t.text else text_for ts key)
text-push [] t key = refl
text-push (s ∷ ts) t key =
    ap (λ w. unwrap_or (option_map Some w) first) (text-push ts t key) ∙ either (bytes_eq t.key key)
  where
    first : Option (List ℕ)
    first = if bytes_eq s.key key then Some s.text else None

    either : (b : Bool) → unwrap_or (option_map Some (if b then Some t.text else text_for ts key)) first
        ≡ (if b then Some t.text else unwrap_or (option_map Some (text_for ts key)) first)
    either true = refl
    either false = refl

index-later : (ts : List NewText) (t : NewText) (key : List ℕ) (o : Option ℕ) → bytes_eq t.key key ≡ false → IsIndexOf ts key o → IsIndexOf (ts ++ t ∷ []) key o
index-later ts t key None n h = text-push ts t key ∙ rw n h
index-later ts t key (Some i) n (within, is) =
    let more : length (ts ++ t ∷ []) ≡ length ts + 1 = length-append ts (t ∷ []) in
    let same : text_for (ts ++ t ∷ []) key ≡ text_for ts key = text-push ts t key ∙ rw n refl in
    let at = λ (d : NewText). get_or-append ts (t ∷ []) d i within in (
      omega arith,
      λ d. (ap (λ w. let u : NewText = w in u.key) (at d) ∙ (is d).0, same ∙ (is d).1 ∙ ap (λ w. let u : NewText = w in Some u.text) (sym (at d))),
    )

pub one-indexed : {Y : Type 0} (ts : List NewText) (t : NewText) (old new : List (String Y × ℕ)) → AreIndicesOf ts old → GivesValue old t.key (length ts) new
    → AreIndicesOf (ts ++ t ∷ []) new
one-indexed ts t old new h gives = λ key. subst (IsIndexOf (ts ++ t ∷ []) key) (sym (gives key)) (of key)
  where
    of : (key : List ℕ) → IsIndexOf (ts ++ t ∷ []) key (update bytes_eq (value_at old) t.key (Some (length ts)) key)
    of key = elim (cases_Bool (bytes_eq t.key key)) [
      | inl y ↦
          let more : length (ts ++ t ∷ []) ≡ length ts + 1 = length-append ts (t ∷ []) in
          let at = λ (d : NewText). get_or-append_seam ts t [] d in
          let same : text_for (ts ++ t ∷ []) key ≡ Some t.text = text-push ts t key ∙ rw y refl in
          rw y (
            omega arith,
            λ d. (
              ap (λ w. let u : NewText = w in u.key) (at d) ∙ (bytes_eq-Decides t.key key).0 y,
              same ∙ ap (λ w. let u : NewText = w in Some u.text) (sym (at d)),
            ),
          )
      | inr n ↦ rw n (index-later ts t key (value_at old key) n (h key))
    ]

pub indices-below : {Y : Type 0} (ts : List NewText) (indices : List (String Y × ℕ)) → AreIndicesOf ts indices → AreIndicesBelow (length ts) indices
indices-below ts indices h = λ key i is. (subst (IsIndexOf ts key) is (h key)).0

-- Each key of a comment has one.
pub text-some : (before : List NewText) (t : NewText) (after : List NewText) → text_for (before ++ t ∷ after) t.key ≢ None
text-some [] t after q = by (text_for after t.key) (bytes_eq t.key t.key) ((bytes_eq-Decides t.key t.key).1 refl) q
  where
    by : (o : Option (List ℕ)) (b : Bool) → b ≡ true → unwrap_or (option_map Some o) (if b then Some t.text else None) ≡ None → ⊥
    by (Some x) b h q = absurd (cc)
    by None true h q = absurd (cc)
    by None false h q = absurd (cc)
text-some (s ∷ before) t after q = by (text_for (before ++ t ∷ after) t.key) (text-some before t after) q
  where
    by : (o : Option (List ℕ)) → o ≢ None → unwrap_or (option_map Some o) (if bytes_eq s.key t.key then Some s.text else None) ≡ None → ⊥
    by (Some x) h q = absurd (cc)
    by None h q = h refl

-- ---- groups whose key has an index

pub key-index : {Y : Type 0} (indices : List (String Y × ℕ)) (key : List ℕ) (g : List HeldLine) (o : Option ℕ) → value_at indices key ≡ o → HasKey key g
    → value_of indices (outcome_of (joined (as_lines g))) ≡ o
key-index indices key g o is (value, h) = ap (value_of indices) (sym (outcome_of-only (joined (as_lines g)) (given (pair key value)) h)) ∙ is

pub index-key : {Y : Type 0} (indices : List (String Y × ℕ)) (i : ℕ) (g : List HeldLine) → HasIndex indices i g → (key : List ℕ) × HasKey key g × (value_at indices key ≡ Some i)
index-key indices i g h =
    let x = joined (as_lines g) in
    let k = value-some indices (outcome_of x) i h in
    (k.0, (k.1, rw k.2 at (outcome_of-meets x)), k.3)

key-none : {Y : Type 0} (indices : List (String Y × ℕ)) (key : List ℕ) (i : ℕ) (gs : List (List HeldLine)) → value_at indices key ≡ Some i → NoneHasIndex indices i gs
    → NoneHasKey key gs
key-none indices key i [] is h = tt
key-none indices key i (g ∷ gs) is h = (λ k. h.0 (key-index indices key g (Some i) is k), key-none indices key i gs is h.1)

-- An index is that of one key.
one-key : {Y : Type 0} (ts : List NewText) (indices : List (String Y × ℕ)) (k l : List ℕ) (i : ℕ) → AreIndicesOf ts indices → value_at indices k ≡ Some i
    → value_at indices l ≡ Some i → k ≡ l
one-key ts indices k l i h is also =
    let a = subst (IsIndexOf ts k) is (h k) in
    let b = subst (IsIndexOf ts l) also (h l) in
    sym (a.1 any-text).0 ∙ (b.1 any-text).0

index-none : {Y : Type 0} (ts : List NewText) (indices : List (String Y × ℕ)) (key : List ℕ) (i : ℕ) (gs : List (List HeldLine)) → AreIndicesOf ts indices
    → value_at indices key ≡ Some i → NoneHasKey key gs → NoneHasIndex indices i gs
index-none ts indices key i [] h is n = tt
index-none ts indices key i (g ∷ gs) h is n = (
  λ has. let k = index-key indices i g has in n.0 (subst (λ w. HasKey w g) (one-key ts indices k.0 key i h k.2 is) k.1),
  index-none ts indices key i gs h is n.1,
)

-- A group without lines has none.
index-lines : {Y : Type 0} (indices : List (String Y × ℕ)) (i : ℕ) (g : List HeldLine) → HasIndex indices i g → length g ≢ 0
index-lines indices i [] h q = let none : value_of indices ignored ≡ Some i = ap (value_of indices) (sym outcome-empty) ∙ h in cc
index-lines indices i (l ∷ g) h q = absurd (omega arith)

none-behind : {Y : Type 0} (indices : List (String Y × ℕ)) (i : ℕ) (a : List (List HeldLine)) (g : List HeldLine) (b : List (List HeldLine))
    → NoneHasIndex indices i (a ++ g ∷ b) → ¬ (HasIndex indices i g)
none-behind indices i [] g b h = h.0
none-behind indices i (f ∷ a) g b h = none-behind indices i a g b h.1

-- ---- group after group

none-pushed : {Y : Type 0} (indices : List (String Y × ℕ)) (i : ℕ) (gs : List (List HeldLine)) (g : List HeldLine) → NoneHasIndex indices i gs
    → ¬ (HasIndex indices i g) → NoneHasIndex indices i (gs ++ g ∷ [])
none-pushed indices i [] g h n = (n, tt)
none-pushed indices i (f ∷ gs) g h n = (h.0, none-pushed indices i gs g h.1 n)

last-kept : {Y : Type 0} (indices : List (String Y × ℕ)) (i : ℕ) (gs : List (List HeldLine)) (g : List HeldLine) (number : ℕ) → TellsLast indices i gs number
    → ¬ (HasIndex indices i g) → TellsLast indices i (gs ++ g ∷ []) number
last-kept indices i gs g number (inl (is, none)) n = inl (is, none-pushed indices i gs g none n)
last-kept indices i gs g number (inr h) n = inr (record {
  before = h.before;
  group = h.group;
  after = h.after ++ g ∷ [];
  division = ap (λ w. w ++ g ∷ []) h.division ∙ append_assoc h.before (h.group ∷ h.after) (g ∷ []);
  has_index = h.has_index;
  no_later = none-pushed indices i h.after g h.no_later n;
  is_number = h.is_number;
})

-- The lines of the groups that a view gave so far.
pub record AreLastUpTo {Y : Type 0} (indices : List (String Y × ℕ)) (count : ℕ) (v now : OpenView) (lines : List ℕ) : Type 0 where
  pub passed : List (List HeldLine)
  pub division : v.to_come ≡ passed ++ now.to_come
  pub number : (past_group now).passed ≡ length (held_in passed)
  pub sizes : length lines ≡ count
  pub tells : (i : ℕ) → i < count → TellsLast indices i passed (get_or lines i 0)

module _ {Y : Type 0} (indices : List (String Y × ℕ)) (count : ℕ) {v : OpenView} where
  pub none-found : {requested : Encoding} {source : List ℕ} (lines : List ℕ) → IsViewOf requested source v → lines ≡ replicate count 0 → length lines ≡ count
      → AreLastUpTo indices count v v lines
  none-found lines o zeros sizes =
      let none_given : length v.group ≡ 0 = ap length o.none_given in
      let none_passed = o.none_passed in
      record {
        passed = [];
        division = refl;
        number = omega arith;
        sizes = sizes;
        tells = λ i within. inl (ap (λ w. get_or w i 0) zeros ∙ get_or-replicate count i 0 0 within, tt);
      }

  module _ {now next : OpenView} {lines : List ℕ} (group : ViewedGroup) where
    step : (lines' : List ℕ) → (h : AreLastUpTo indices count v now lines) → TakesNext now group next → length lines' ≡ length lines
        → ((i : ℕ) → i < count → TellsLast indices i (h.passed ++ next.group ∷ []) (get_or lines' i 0)) → AreLastUpTo indices count v next lines'
    step lines' h t sizes tells =
        let numbers = h.number in
        let passed : next.passed ≡ (past_group now).passed = ap (λ w. let o : OpenView = w in o.passed) t.moves in
        let counted = held-push h.passed next.group in
        record {
          passed = h.passed ++ next.group ∷ [];
          division = h.division ∙ ap (λ w. h.passed ++ w) t.takes ∙ sym (append_assoc h.passed (next.group ∷ []) next.to_come);
          number = omega arith;
          sizes = sizes ∙ h.sizes;
          tells = tells;
        }

    -- The next group has no index,
    pub other-found : AreLastUpTo indices count v now lines → TakesNext now group next
        → value_of indices (outcome_of (joined (as_lines next.group))) ≡ None → AreLastUpTo indices count v next lines
    other-found h t none = step lines h t refl (λ i within. last-kept indices i h.passed next.group (get_or lines i 0) (h.tells i within) (λ k. cc))

    -- or one.
    pub one-found : (j : ℕ) → j < count → AreLastUpTo indices count v now lines → TakesNext now group next → HasIndex indices j next.group
        → length (set lines j group.line_number) ≡ length lines → AreLastUpTo indices count v next (set lines j group.line_number)
    one-found j below h t has sizes = step (set lines j group.line_number) h t sizes (λ i within. elim (cases_Bool (i == j)) [
      | inl b ↦
          let same : i ≡ j = eqb-true i j b in
          let inside : j < length lines = (let s = h.sizes in omega arith) in
          let at : get_or (set lines j group.line_number) i 0 ≡ group.line_number =
          ap (λ k. get_or (set lines j group.line_number) k 0) same ∙ get_or-set_same lines j group.line_number 0 inside in
          let passed : next.passed ≡ (past_group now).passed = ap (λ w. let o : OpenView = w in o.passed) t.moves in
          let numbers = h.number in
          let number = t.is_group.line_number in
          inr (record {
            before = h.passed;
            group = next.group;
            after = [];
            division = refl;
            has_index = subst (λ k. HasIndex indices k next.group) (sym same) has;
            no_later = tt;
            is_number = omega arith;
          })
      | inr b ↦
          let apart : i ≢ j = λ q. (let same = eq-eqb i j q in cc) in
          subst (TellsLast indices i (h.passed ++ next.group ∷ [])) (sym (get_or-set_other lines j i group.line_number 0 apart))
          (last-kept indices i h.passed next.group (get_or lines i 0) (h.tells i within) (λ k. apart (let q = sym k ∙ has in cc)))
    ])

  pub all-found : {requested : Encoding} {source : List ℕ} {now : OpenView} {lines : List ℕ} → IsViewOf requested source v
      → AreLastUpTo indices count v now lines → now.to_come ≡ [] → (length lines ≡ count) × HasLastLines requested source indices lines
  all-found {requested} {source} {now} {lines} o h none = (
    h.sizes,
    record {
      groups = h.passed;
      held =
          subst (AreIn requested source) (h.division ∙ ap (λ w. h.passed ++ w) none ∙ append-nil h.passed)
          (subst (λ w. let f : InForce = w in AreGiven f.encoding f.body v.to_come) (sym o.in_force) o.given);
      tells = λ i within. h.tells i (let s = h.sizes in omega arith);
    },
  )

-- ---- comments without a pair

pub none-pushed_text : {Y : Type 0} (indices : List (String Y × ℕ)) (lines : List ℕ) (ts : List NewText) (t : NewText) → NoneIsWithout indices lines ts
    → ¬ (IsWithout indices lines t.key) → NoneIsWithout indices lines (ts ++ t ∷ [])
none-pushed_text indices lines [] t h n = (n, tt)
none-pushed_text indices lines (s ∷ ts) t h n = (h.0, none-pushed_text indices lines ts t h.1 n)

pub index-some : (lines : List ℕ) (o : Option ℕ) (line i : ℕ) → index_at lines o line ≡ Some i → (o ≡ Some i) × (get_or lines i 0 ≡ line)
index-some lines None line i h = absurd (cc)
index-some lines (Some j) line i h = elim (cases_Bool (get_or lines j 0 == line)) [
  | inl t ↦
      let same : j ≡ i = let s = rw t at h in cc in
      (ap Some same, ap (λ k. get_or lines k 0) (sym same) ∙ eqb-true (get_or lines j 0) line t)
  | inr f ↦ absurd (let s = rw f at h in cc)
]

pub index-other : (lines : List ℕ) (i line : ℕ) → index_at lines (Some i) line ≡ None → get_or lines i 0 ≢ line
index-other lines i line h q = let t = eq-eqb (get_or lines i 0) line q in absurd (let s = rw t at h in cc)

without-index : {Y : Type 0} (indices : List (String Y × ℕ)) (lines : List ℕ) (key : List ℕ) → IsWithout indices lines key
    → (i : ℕ) × (value_at indices key ≡ Some i) × (get_or lines i 0 ≡ 0)
without-index indices lines key h = by (index_at lines (value_at indices key) 0) refl h
  where
    by : (o : Option ℕ) → index_at lines (value_at indices key) 0 ≡ o → is_some o ≡ true → (i : ℕ) × (value_at indices key ≡ Some i) × (get_or lines i 0 ≡ 0)
    by None q k = absurd (cc)
    by (Some i) q k = let m = index-some lines (value_at indices key) 0 i q in (i, m.0, m.1)

has-behind : (key : List ℕ) (a : List (List HeldLine)) (g : List HeldLine) (b : List (List HeldLine)) → HasKey key g → ¬ (NoneHasKey key (a ++ g ∷ b))
has-behind key [] g b h n = n.0 h
has-behind key (f ∷ a) g b h n = has-behind key a g b h n.1

-- A pair has each key,
pub have-keys : {Y : Type 0} {e : Encoding} {source lines : List ℕ} (all : List NewText) (indices : List (String Y × ℕ)) → AreIndicesOf all indices
    → length lines ≡ length all → (h : HasLastLines e source indices lines) → (some rest : List NewText) → all ≡ some ++ rest → NoneIsWithout indices lines some
    → HaveKeys some h.groups
have-keys {lines = lines} all indices are sizes h some rest whole none = by [] some whole none
  where
    one : (before : List NewText) (t : NewText) (after : List NewText) → all ≡ before ++ t ∷ after → ¬ (IsWithout indices lines t.key) → (o : Option ℕ)
        → value_at indices t.key ≡ o → ¬ (NoneHasKey t.key h.groups)
    one before t after q n None is lacks =
        let none = subst (IsIndexOf all t.key) is (are t.key) in text-some before t after (ap (λ w. text_for w t.key) (sym q) ∙ none)
    one before t after q n (Some i) is lacks =
        let within : i < length lines = (let m = indices-below all indices are t.key i is in omega arith) in
        elim (h.tells i within) [
          | inl (nil, nothing) ↦ n (ap (λ o. is_some (index_at lines o 0)) is ∙ rw nil refl)
          | inr l ↦
              let k = index-key indices i l.group l.has_index in
              has-behind t.key l.before l.group l.after (subst (λ w. HasKey w l.group) (one-key all indices k.0 t.key i are k.2 is) k.1)
              (subst (NoneHasKey t.key) l.division lacks)
        ]

    by : (before ts : List NewText) → all ≡ before ++ (ts ++ rest) → NoneIsWithout indices lines ts → HaveKeys ts h.groups
    by before [] q n = tt
    by before (t ∷ ts) q n = (
      one before t (ts ++ rest) q n.0 (value_at indices t.key) refl,
      by (before ++ t ∷ []) ts (q ∙ sym (append_assoc before (t ∷ []) (ts ++ rest))) n.1,
    )

-- or none has one.
pub lacks-pair : {Y : Type 0} {e : Encoding} {source lines : List ℕ} (ts : List NewText) (indices : List (String Y × ℕ)) (index : ℕ) → AreIndicesOf ts indices
    → length lines ≡ length ts → HasLastLines e source indices lines → IsFirstWithout indices lines ts index → HasNoPairFor e source ts index
lacks-pair {lines = lines} ts indices index are sizes h f =
    let (i, is, nil) = without-index indices lines f.text.key f.without in
    let below : i < length lines = (let m = indices-below ts indices are f.text.key i is in omega arith) in
    record {
      groups = h.groups;
      held = h.held;
      before = f.before;
      text = f.text;
      after = f.after;
      division = f.division;
      index_is = f.index_is;
      have_keys = have-keys ts indices are sizes h f.before (f.text ∷ f.after) f.division f.none_before;
      none_has = elim (h.tells i below) [
        | inl (zeros, none) ↦ key-none indices f.text.key i h.groups is none
        | inr l ↦ (let n = l.is_number in absurd (omega arith))
      ];
    }

pub only-lacks : {e : Encoding} {source : List ℕ} (t : NewText) (index : ℕ) → HasNoPairFor e source (t ∷ []) index → LacksKey e source t.key
only-lacks {e} {source} t index h = by h.before h.division
  where
    by : (before : List NewText) → t ∷ [] ≡ before ++ h.text ∷ h.after → LacksKey e source t.key
    by [] q =
        let same : h.text ≡ t = cc in (h.groups, h.held, subst (λ w. let u : NewText = w in NoneHasKey u.key h.groups) same h.none_has)
    by (u ∷ []) q = absurd (cc)
    by (u ∷ v ∷ before) q = absurd (cc)

pub same-have : (ts : List NewText) (gs hs : List (List HeldLine)) → gs ≡ hs → HaveKeys ts gs → HaveKeys ts hs
same-have ts gs hs q h = subst (HaveKeys ts) q h

-- ---- whether a pair is the last one

module _ {Y : Type 0} (indices : List (String Y × ℕ)) (i : ℕ) where
  -- Groups in the same line are the same, so none after this one has the index;
  last-here : (a c : List (List HeldLine)) (g h : List HeldLine) (b d : List (List HeldLine)) → a ++ g ∷ b ≡ c ++ h ∷ d → HasIndex indices i g → NoneHasIndex indices i d
      → length (held_in a) ≡ length (held_in c) → NoneHasIndex indices i b
  last-here [] [] g h b d q has none same = let rest : b ≡ d = cc in subst (NoneHasIndex indices i) (sym rest) none
  last-here [] (x ∷ c) g h b d q has none same =
      let first : g ≡ x = cc in
      let some = index-lines indices i g has in
      let sizes = length-append x (held_in c) in
      let long = ap length first in
      absurd (some (omega arith))
  last-here (x ∷ a) [] g h b d q has none same =
      let rest : a ++ g ∷ b ≡ d = cc in
      absurd (none-behind indices i a g b (subst (NoneHasIndex indices i) (sym rest) none) has)
  last-here (x ∷ a) (y ∷ c) g h b d q has none same =
      let first : x ≡ y = cc in
      let rest : a ++ g ∷ b ≡ c ++ h ∷ d = cc in
      let left = length-append x (held_in a) in
      let right = length-append y (held_in c) in
      let long = ap length first in
      last-here a c g h b d rest has none (omega arith)

  -- in another line, one has.
  last-elsewhere : (a c : List (List HeldLine)) (g h : List HeldLine) (b d : List (List HeldLine)) → a ++ g ∷ b ≡ c ++ h ∷ d → HasIndex indices i g
      → HasIndex indices i h → NoneHasIndex indices i d → length (held_in a) ≢ length (held_in c) → ¬ (NoneHasIndex indices i b)
  last-elsewhere [] [] g h b d q has own none other n = other refl
  last-elsewhere [] (x ∷ c) g h b d q has own none other n =
      let rest : b ≡ c ++ h ∷ d = cc in none-behind indices i c h d (subst (NoneHasIndex indices i) rest n) own
  last-elsewhere (x ∷ a) [] g h b d q has own none other n =
      let rest : a ++ g ∷ b ≡ d = cc in
      none-behind indices i a g b (subst (NoneHasIndex indices i) (sym rest) none) has
  last-elsewhere (x ∷ a) (y ∷ c) g h b d q has own none other n =
      let first : x ≡ y = cc in
      let rest : a ++ g ∷ b ≡ c ++ h ∷ d = cc in
      let left = length-append x (held_in a) in
      let right = length-append y (held_in c) in
      let long = ap length first in
      last-elsewhere a c g h b d rest has own none (λ same. other (omega arith)) n

module _ {Y : Type 0} {e : Encoding} {source lines : List ℕ} (ts : List NewText) (indices : List (String Y × ℕ)) (are : AreIndicesOf ts indices)
    (found : HasLastLines e source indices lines) (sizes : length lines ≡ length ts) (groups before : List (List HeldLine)) (s : Section)
    (after : List (List HeldLine)) (held : AreIn e source groups) (division : groups ≡ before ++ s.group ∷ after) (number : ℕ)
    (is_number : number ≡ length (held_in before) + 1) where
  own : found.groups ≡ before ++ s.group ∷ after
  own = one-groups e source found.groups groups found.held held ∙ division

  -- It begins in the line of the last pair with its key;
  pub is-last : (i : ℕ) (d : NewText) → HasIndex indices i s.group → get_or lines i 0 ≡ number → IsLastFor ts s after (get_or ts i d).text
  is-last i d has same =
      let k = index-key indices i s.group has in
      let m = subst (IsIndexOf ts k.0) k.2 (are k.0) in
      let within : i < length lines = (let w = m.0 in omega arith) in
      elim (found.tells i within) [
        | inl (nil, none) ↦ absurd (omega arith)
        | inr l ↦
            let n = l.is_number in
            let none = last-here indices i before l.before s.group l.group after l.after (sym own ∙ l.division) has l.no_later (omega arith) in
            record { key = k.0; has_key = k.1; no_later = key-none indices k.0 i after k.2 none; is_text = (m.1 d).1 }
      ]

  -- or in another;
  pub not-last : (i : ℕ) → HasIndex indices i s.group → get_or lines i 0 ≢ number → (text : List ℕ) → ¬ (IsLastFor ts s after text)
  not-last i has other text f =
      let k = index-key indices i s.group has in
      let m = subst (IsIndexOf ts k.0) k.2 (are k.0) in
      let within : i < length lines = (let w = m.0 in omega arith) in
      let same : k.0 ≡ f.key = key-only k.0 f.key s.group k.1 f.has_key in
      let none = index-none ts indices k.0 i after are k.2 (subst (λ w. NoneHasKey w after) (sym same) f.no_later) in
      elim (found.tells i within) [
        | inl (nil, nothing) ↦ none-behind indices i before s.group after (subst (NoneHasIndex indices i) own nothing) has
        | inr l ↦
            let n = l.is_number in
            last-elsewhere indices i before l.before s.group l.group after l.after (sym own ∙ l.division) has l.has_index l.no_later
            (λ q. other (omega arith)) none
      ]

  -- or its key has no comment.
  pub none-last : value_of indices (outcome_of (joined (as_lines s.group))) ≡ None → (text : List ℕ) → ¬ (IsLastFor ts s after text)
  none-last none text f = by (value_at indices f.key) refl
    where
      by : (o : Option ℕ) → value_at indices f.key ≡ o → ⊥
      by None is = let t = subst (IsIndexOf ts f.key) is (are f.key) in let u = f.is_text in cc
      by (Some i) is = let k = key-index indices f.key s.group (Some i) is f.has_key in cc

  -- What its index tells.
  pub is-last-at : (o : Option ℕ) (i : ℕ) (d : NewText) → value_of indices (outcome_of (joined (as_lines s.group))) ≡ o → index_at lines o number ≡ Some i
      → IsLastFor ts s after (get_or ts i d).text
  is-last-at o i d is at = let m = index-some lines o number i at in is-last i d (is ∙ m.0) m.1

  pub not-last-at : (o : Option ℕ) → value_of indices (outcome_of (joined (as_lines s.group))) ≡ o → index_at lines o number ≡ None
      → (text : List ℕ) → ¬ (IsLastFor ts s after text)
  not-last-at None is at text = none-last is text
  not-last-at (Some i) is at text = not-last i is (index-other lines i number at) text
