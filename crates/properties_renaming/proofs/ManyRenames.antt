-- Keys that are renamed in one pass: the bytes are those of the renames in turn. A pair that the first of them renames is a
-- pair with its new key for the others, and any other group stays as it is for them.
use Rattle.std.proofs.Common.{inl, inr, ◌≡◌, ◌≢◌, ◌⊎◌, ◌≤◌, ℕ, suc, Bool, true, false, List, [], ◌∷◌, ◌++◌, Option, Some, None, length, map, refl, sym, ap, ap₂, ◌∙◌, subst, arith, append-nil}
use Rattle.std.specs.Prelude.{◌&&◌, bytes_eq}
use Rattle.std.specs.Option.{unwrap_or}
use Rattle.std.proofs.lemmas.Bool.{cases_Bool, false_from_ne_true}
use Rattle.std.proofs.lemmas.List.{append_cancel_right}
use Rattle.std.proofs.lemmas.Slice.Eq.{bytes_eq-Decides}
use Rattle.properties_format.specs.Text.{LineEnding, is_empty}
use Rattle.properties_format.specs.Encoding.{Encoding, InForce, Repertoire, begins_like_bom, byte_order_mark, in_encoding, repertoire_in_force}
use Rattle.properties_format.specs.Lines.{joined}
use Rattle.properties_format.specs.Items.{given, pair}
use Rattle.properties_format.specs.Body.{AreGroupsOf, HasKey, HeldLine, NoneHasKey, as_lines, group_bytes, groups_bytes, last_ending}
use Rattle.properties_format.specs.Edited.{bom_of, is_editable}
use Rattle.properties_format.specs.Printing.{encoded_text}
use Rattle.properties_format.proofs.Body.Groups.{held-body, held_groups_of-meets, held_groups_of-only}
use Rattle.properties_format.proofs.Edited.ByteOrderMarks.{groups-unmarked, in_force as stays_in_force, source-whole}
use Rattle.properties_format.proofs.Edited.Made.{has_key-false}
use Rattle.properties_format.proofs.GroupsInTurn.Lines.{AreLinesBy, ending-of}
use Rattle.properties_format.proofs.GroupsInTurn.Merged.{AreInTurn, are_one_ending, in-turn, merged, merged-one, merged-two, one-ending, turn-first, turn-some}
use Rattle.properties_format.proofs.Items.Unique.{outcome_of-only}
use Rattle.properties_format.proofs.Plan.Slots.{lf-no_key, slots-merged, turn-cons}
use Rattle.properties_format.proofs.Changed.Maps.{other-test}
use Rattle.properties_editing.specs.Editing.{asked_for}
use Rattle.properties_editing.specs.Views.{AreGiven, with_bytes}
use Rattle.properties_editing.specs.declared.source.SourceOptions.{SourceOptions}
use Rattle.properties_editing.proofs.OpenViews.{bytes-together}
use Rattle.properties_renaming.specs.Laws.{IsName}
use Rattle.properties_renaming.specs.Renaming.{AreRekeyed, IsRekeyed, IsRenamed, key_text, AreIn}
use Rattle.properties_renaming.specs.Renames.{AreRenamedInTurn, NewName}
use Rattle.properties_renaming.specs.Private.Renaming.{AreMade}
use Rattle.properties_renaming.specs.Private.Renames.{IsGivenBy, IsMakeable, last_name, needed, AreMakeable}
use Rattle.properties_renaming.proofs.NewPairs.{IsNamed, IsNewGroup, rekeyed-again, rekeyed-pair}
use Rattle.properties_renaming.proofs.RenamedContents.{AreNamed, ended-mark, is-nil, no-bytes, none-all, none-given}
use Rattle.properties_renaming.proofs.RenamedKeys.{source-alike}

-- ---- names

-- A group has one key.
pub key-only : (k l : List ℕ) (g : List HeldLine) → HasKey k g → HasKey l g → k ≡ l
key-only k l g (v, h) (w, m) =
    let a = outcome_of-only (joined (as_lines g)) (given (pair k v)) h in
    let b = outcome_of-only (joined (as_lines g)) (given (pair l w)) m in
    cc (a ∙ sym b)

same-name : (k : List ℕ) → bytes_eq k k ≡ true
same-name k = (bytes_eq-Decides k k).1 refl

-- A pair has to have the old key of the first rename,
pub needed-old : (n : NewName) (ns : List NewName) → needed (n ∷ ns) n.old ≡ Some true
needed-old n ns = let t = same-name n.old in rw t refl

-- none may have its new one,
pub needed-new : (n : NewName) (ns : List NewName) → n.old ≢ n.new → needed (n ∷ ns) n.new ≡ Some false
needed-new n ns apart = let o = other-test n.new n.old (λ q. apart (sym q)) in let t = same-name n.new in rw (o, t) refl

-- and the others decide about any other key.
pub needed-other : (n : NewName) (ns : List NewName) (key : List ℕ) → key ≢ n.old → key ≢ n.new → needed (n ∷ ns) key ≡ needed ns key
needed-other n ns key o w = let a = other-test key n.old o in let b = other-test key n.new w in rw (a, b) refl

-- The last name of its old key is that of its new one,
pub last-old : (n : NewName) (ns : List NewName) → n.old ≢ n.new → last_name (n ∷ ns) n.old ≡ Some (unwrap_or (last_name ns n.new) n.new)
last-old n ns apart = let a = other-test n.old n.new apart in let t = same-name n.old in rw (a, t) refl

-- that of another stays,
pub last-other : (n : NewName) (ns : List NewName) (key : List ℕ) → key ≢ n.old → last_name (n ∷ ns) key ≡ last_name ns key
last-other n ns key o = let a = other-test key n.old o in elim (cases_Bool (bytes_eq n.old n.new)) [
  | inl t ↦ rw t refl
  | inr t ↦ rw (t, a) refl
]

-- and all do if it renames a key to itself.
pub last-kept : (n : NewName) (ns : List NewName) (key : List ℕ) → n.old ≡ n.new → last_name (n ∷ ns) key ≡ last_name ns key
last-kept n ns key same = let t = (bytes_eq-Decides n.old n.new).1 same in rw t refl

new-key : (old new : List ℕ) (g h : List HeldLine) → IsNamed old new g h → HasKey old g → HasKey new h
new-key old new g h (inl (v, k, m)) has = (v, m)
new-key old new g h (inr (lacks, same)) has = absurd (lacks has)

-- ---- the first rename, of a group

-- A pair with another key, and what that pair is with a third one.
record IsRenamedTwice (r : Repertoire) (o : Option LineEnding) (first : Bool) (old new : List ℕ) (g : List HeldLine) (made : List ℕ)
    (k : IsRekeyed r first g new made) : Type 0 where
  once : IsNewGroup r.encoding o first old new g made
  again : (key bytes : List ℕ)
      → bytes ≡ k.front ++ (encoded_text r.encoding (key_text r (first && is_empty k.front) k.is_pair.between key) ++ k.back)
      → IsRekeyed r first once.group key bytes

named-group : (r : Repertoire) (old new : List ℕ) → is_editable r.encoding ≡ true → IsName new → (o : Option LineEnding) (first : Bool) (g : List HeldLine)
    (made : List ℕ) → AreLinesBy r.encoding o g → HasKey old g → (k : IsRekeyed r first g new made) → IsRenamedTwice r o first old new g made k
named-group r old [] ok (some, s) o first g made a has k = absurd (some refl)
named-group r old (c ∷ cs) ok (some, s) o first [] made a has k = absurd a
named-group r old (c ∷ cs) ok (some, s) o first (i ∷ is) made a (value, m) k = record {
  once = rekeyed-pair r o first i is old c cs value made ok s a m k;
  again = rekeyed-again r o first i is old c cs value made ok s a m k;
}

-- No pair may have a key that no pair may have.
abbrev pub IsFreeOf : List NewName → List HeldLine → Type 0
IsFreeOf names g = (key : List ℕ) → HasKey key g → needed names key ≢ Some false

-- A pair gets the last name of its key, and has no key that none may have.
abbrev pub IsMadeBy : Repertoire → List NewName → Bool → List HeldLine → List ℕ → Type 0
IsMadeBy r names first g made = IsFreeOf names g × IsGivenBy r names first g made

-- The bytes of a group after the first rename, the group that they are, and what the others make of that.
record IsStep (r : Repertoire) (o : Option LineEnding) (first : Bool) (n : NewName) (ns : List NewName) (g : List HeldLine) (made : List ℕ) : Type 0 where
  bytes : List ℕ
  step : HasKey n.old g × IsRekeyed r first g n.new bytes ⊎ ¬ (HasKey n.old g) × (bytes ≡ group_bytes g)
  new : IsNewGroup r.encoding o first n.old n.new g bytes
  rest : IsMadeBy r ns first new.group made

module _ (r : Repertoire) (n : NewName) (ns : List NewName) (ok : is_editable r.encoding ≡ true) (apart : n.old ≢ n.new) (name : IsName n.new)
    (free_new : needed ns n.new ≢ Some false) where
  -- A group that the first rename doesn't change.
  same-group : (o : Option LineEnding) (first : Bool) (g : List HeldLine) (made : List ℕ) → AreLinesBy r.encoding o g → ¬ (HasKey n.old g)
      → IsMadeBy r (n ∷ ns) first g made → IsStep r o first n ns g made
  same-group o first g made a lacks (free, k) = record {
    bytes = group_bytes g;
    step = inr (lacks, refl);
    new = record { group = g; are = refl; named = inr (lacks, refl); lines = a; whole = λ h. h; fit = λ h. h; no_mark = λ f b. b };
    rest = (still-free, others k);
  }
    where
      other : (key : List ℕ) → HasKey key g → key ≢ n.old
      other key has q = lacks (subst (λ w. HasKey w g) q has)

      still-free : IsFreeOf ns g
      still-free key has q =
          let is_new : key ≢ n.new = λ s. free key has (ap (needed (n ∷ ns)) s ∙ needed-new n ns apart) in
          free key has (needed-other n ns key (other key has) is_new ∙ q)

      others : IsGivenBy r (n ∷ ns) first g made → IsGivenBy r ns first g made
      others (inl (key, new, has, q, k)) = inl (key, new, has, sym (last-other n ns key (other key has)) ∙ q, k)
      others (inr (none, same)) = inr (λ key has. sym (last-other n ns key (other key has)) ∙ none key has, same)

  -- A pair that it renames, and that gets this name in the end.
  renamed-group : (o : Option LineEnding) (first : Bool) (g : List HeldLine) (made new : List ℕ) → AreLinesBy r.encoding o g → HasKey n.old g
      → Some new ≡ Some (unwrap_or (last_name ns n.new) n.new) → IsRekeyed r first g new made → IsStep r o first n ns g made
  renamed-group o first g made new a has q k = of (last_name ns n.new) refl
    where
      free : (h : List HeldLine) → HasKey n.new h → IsFreeOf ns h
      free h has key other s = free_new (ap (needed ns) (key-only n.new key h has other) ∙ s)

      of : (last : Option (List ℕ)) → last_name ns n.new ≡ last → IsStep r o first n ns g made
      of None none =
          let same : new ≡ n.new = cc (q ∙ ap (λ l. Some (unwrap_or l n.new)) none) in
          let once : IsRekeyed r first g n.new made = subst (λ w. IsRekeyed r first g w made) same k in
          let t = named-group r n.old n.new ok name o first g made a has once in
          let now = new-key n.old n.new g t.once.group t.once.named has in
          record {
            bytes = made;
            step = inl (has, once);
            new = t.once;
            rest = (
              free t.once.group now,
              inr (λ key other. ap (last_name ns) (sym (key-only n.new key t.once.group now other)) ∙ none, sym t.once.are),
            );
          }
      of (Some last) some =
          let same : new ≡ last = cc (q ∙ ap (λ l. Some (unwrap_or l n.new)) some) in
          let mid = k.front ++ (encoded_text r.encoding (key_text r (first && is_empty k.front) k.is_pair.between n.new) ++ k.back) in
          let once : IsRekeyed r first g n.new mid = record {
            key = k.key;
            value = k.value;
            is_pair = k.is_pair;
            front = k.front;
            old = k.old;
            back = k.back;
            whole = k.whole;
            before = k.before;
            through = k.through;
            bytes_are = refl;
          } in
          let t = named-group r n.old n.new ok name o first g mid a has once in
          let now = new-key n.old n.new g t.once.group t.once.named has in
          record {
            bytes = mid;
            step = inl (has, once);
            new = t.once;
            rest = (free t.once.group now, inl (n.new, new, now, some ∙ ap Some (sym same), t.again new made k.bytes_are));
          }

  step-group : (o : Option LineEnding) (first : Bool) (g : List HeldLine) (made : List ℕ) → AreLinesBy r.encoding o g → IsMadeBy r (n ∷ ns) first g made
      → IsStep r o first n ns g made
  step-group o first g made a (free, inl (key, new, has, q, k)) = elim (cases_Bool (bytes_eq key n.old)) [
    | inl t ↦
        let same = (bytes_eq-Decides key n.old).0 t in
        renamed-group o first g made new a (subst (λ w. HasKey w g) same has) (sym q ∙ ap (last_name (n ∷ ns)) same ∙ last-old n ns apart) k
    | inr t ↦
        same-group o first g made a (λ h. let s = (bytes_eq-Decides key n.old).1 (key-only key n.old g has h) in cc) (free, inl (key, new, has, q, k))
  ]
  step-group o first g made a (free, inr (none, same)) =
      same-group o first g made a (λ h. let s = sym (none n.old h) ∙ last-old n ns apart in cc) (free, inr (none, same))

-- ---- the first rename, of all groups

with-cons : (g : List HeldLine) (gs : List (List HeldLine)) → gs ≢ [] → with_bytes (g ∷ gs) ≡ g ∷ with_bytes gs
with-cons g [] some = absurd (some refl)
with-cons g (h ∷ gs) some = refl

-- The bytes of all groups after the first rename, the groups that they are, and what the others make of those.
record AreStepped (r : Repertoire) (first : Bool) (n : NewName) (ns : List NewName) (gs : List (List HeldLine)) (bytes : List ℕ) : Type 0 where
  body : List ℕ
  rekeyed : AreRekeyed r n.old n.new first (with_bytes gs) body
  groups : List (List HeldLine)
  turn : AreInTurn r.encoding groups
  are : groups_bytes groups ≡ body
  named : AreNamed n.old n.new gs groups
  endings : map last_ending groups ≡ map last_ending gs
  no_mark : first ≡ true → begins_like_bom (groups_bytes gs) ≡ false → begins_like_bom body ≡ false
  rest : AreMade (IsMadeBy r ns) first (with_bytes groups) bytes

module _ (r : Repertoire) (n : NewName) (ns : List NewName) (ok : is_editable r.encoding ≡ true) (apart : n.old ≢ n.new) (name : IsName n.new)
    (free_new : needed ns n.new ≢ Some false) where
  step-groups : (first : Bool) (gs : List (List HeldLine)) (bytes : List ℕ) → AreInTurn r.encoding gs
      → AreMade (IsMadeBy r (n ∷ ns)) first (with_bytes gs) bytes → AreStepped r first n ns gs bytes
  step-groups first [] bytes a h = absurd a
  step-groups first (g ∷ []) bytes a h = elim (cases_Bool (is_empty (group_bytes g))) [
    | inl k ↦ none k (rw k at h)
    | inr k ↦ one k (rw k at h)
  ]
    where
      none : is_empty (group_bytes g) ≡ true → bytes ≡ [] → AreStepped r first n ns (g ∷ []) bytes
      none k h = record {
        body = [];
        rekeyed = rw k refl;
        groups = g ∷ [];
        turn = a;
        are = append-nil (group_bytes g) ∙ is-nil (group_bytes g) k;
        named = (g, [], refl, inr (no-bytes r.encoding None n.old g a.0 k, refl), refl);
        endings = refl;
        no_mark = λ f b. refl;
        rest = rw k h;
      }

      one : is_empty (group_bytes g) ≡ false → AreMade (IsMadeBy r (n ∷ ns)) first (g ∷ []) bytes → AreStepped r first n ns (g ∷ []) bytes
      one k (made, more, m, s, q) =
          let t = step-group r n ns ok apart name free_new None first g made a.0 m in
          let some : is_empty (group_bytes t.new.group) ≡ false = full t.new.group t.new.named t.new.lines in
          record {
            body = t.bytes ++ [];
            rekeyed = rw k (t.bytes, [], t.step, refl, refl);
            groups = t.new.group ∷ [];
            turn = (t.new.lines, t.new.fit a.1);
            are = ap (λ v. v ++ []) t.new.are;
            named = (t.new.group, [], refl, t.new.named, refl);
            endings = ap (λ w. w ∷ []) (ending-of r.encoding None t.new.group t.new.lines ∙ sym (ending-of r.encoding None g a.0));
            no_mark = λ f b.
                ap begins_like_bom (append-nil t.bytes) ∙ t.new.no_mark f (sym (ap begins_like_bom (append-nil (group_bytes g))) ∙ b);
            rest = rw some (made, more, t.rest, s, q);
          }
        where
          full : (h : List HeldLine) → IsNamed n.old n.new g h → AreLinesBy r.encoding None h → is_empty (group_bytes h) ≡ false
          full h (inl (v, was, now)) lines =
              false_from_ne_true (is_empty (group_bytes h)) (λ e. no-bytes r.encoding None n.new h lines e (v, now))
          full h (inr (lacks, same)) lines = ap (λ w. is_empty (group_bytes w)) same ∙ k
  step-groups first (g ∷ i ∷ gs) bytes ((by, a, w), rest) (made, more, k, s, q) =
      let t = step-group r n ns ok apart name free_new (Some by) first g made a k in
      let m = step-groups false (i ∷ gs) more rest q in
      record {
        body = t.bytes ++ m.body;
        rekeyed = (t.bytes, m.body, t.step, refl, m.rekeyed);
        groups = t.new.group ∷ m.groups;
        turn = turn-cons r.encoding t.new.group m.groups (by, t.new.lines, t.new.whole w) m.turn;
        are = ap₂ (λ v w. v ++ w) t.new.are m.are;
        named = (t.new.group, m.groups, refl, t.new.named, m.named);
        endings =
            ap₂ (λ v w. v ∷ w) (ending-of r.encoding (Some by) t.new.group t.new.lines ∙ sym (ending-of r.encoding (Some by) g a)) m.endings;
        no_mark = λ f b.
            ap (λ v. begins_like_bom (v ++ m.body)) (sym t.new.are)
            ∙ ended-mark r.encoding by t.new.group m.body t.new.lines
            ∙ ap begins_like_bom t.new.are
            ∙ t.new.no_mark f (sym (ended-mark r.encoding by g (groups_bytes (i ∷ gs)) a) ∙ b);
        rest =
            subst (λ w. AreMade (IsMadeBy r ns) first w bytes) (sym (with-cons t.new.group m.groups (turn-some r.encoding m.groups m.turn)))
            (made, more, t.rest, s, m.rest);
      }

-- ---- line endings

merged-length : (gs : List (List HeldLine)) → length (merged gs) ≤ length gs
merged-length [] = omega arith
merged-length (g ∷ []) = omega arith
merged-length (g ∷ h ∷ gs) = elim (cases_Bool (are_one_ending g h)) [
  | inl k ↦ rw k (let m = merged-length gs in omega arith)
  | inr k ↦ rw k (let m = merged-length (h ∷ gs) in omega arith)
]

-- The first of groups that stay isn't one line ending with the next.
two-stay : (g h : List HeldLine) (gs : List (List HeldLine)) → merged (g ∷ h ∷ gs) ≡ g ∷ h ∷ gs
    → (are_one_ending g h ≡ false) × (merged (h ∷ gs) ≡ h ∷ gs)
two-stay g h gs s = elim (cases_Bool (are_one_ending g h)) [
  | inl k ↦
      let sizes : suc (length (merged gs)) ≡ suc (suc (length gs)) = ap length (sym (merged-one g h gs k) ∙ s) in
      let m = merged-length gs in
      absurd (omega arith)
  | inr k ↦ (k, cc (sym (merged-two g h gs k) ∙ s))
]

same-one : (g h i : List HeldLine) → last_ending g ≡ last_ending h → are_one_ending g i ≡ are_one_ending h i
same-one g h i q = rw q refl

-- Groups that were renamed are the groups of their bytes, as those before were.
still-merged : (e : Encoding) (old new : List ℕ) (gs hs : List (List HeldLine)) → AreNamed old new gs hs → map last_ending hs ≡ map last_ending gs
    → AreInTurn e hs → merged gs ≡ gs → merged hs ≡ hs
still-merged e old new [] hs n q a s = rw n refl
still-merged e old new (g ∷ []) hs (h, more, p, k, r) q a s = let t = p ∙ ap (λ w. h ∷ w) r in ap merged t ∙ sym t
still-merged e old new (g ∷ i ∷ gs) hs (h, more, p, k, (j, less, o, l, r)) q a s =
    let t : hs ≡ h ∷ j ∷ less = p ∙ ap (λ w. h ∷ w) o in
    let two = two-stay g i gs s in
    let ends : last_ending h ∷ last_ending j ∷ map last_ending less ≡ last_ending g ∷ last_ending i ∷ map last_ending gs =
    sym (ap (map last_ending) t) ∙ q in
    let turn : AreInTurn e (h ∷ j ∷ less) = subst (AreInTurn e) t a in
    let lines = turn-first e j less turn.1 in
    let first : last_ending h ≡ last_ending g = cc in
    let more_ends : map last_ending (j ∷ less) ≡ map last_ending (i ∷ gs) = cc in
    let later = still-merged e old new (i ∷ gs) (j ∷ less) (j, less, refl, l, r) more_ends turn.1 two.1 in
    let apart : are_one_ending h j ≡ false = other h j first l lines.0 lines.1 two.0 in
    ap merged t ∙ merged-two h j less apart ∙ ap (λ w. h ∷ w) later ∙ sym t
  where
    other : (h j : List HeldLine) → last_ending h ≡ last_ending g → IsNamed old new i j → (o : Option LineEnding) → AreLinesBy e o j
        → are_one_ending g i ≡ false → are_one_ending h j ≡ false
    other h j first (inr (lacks, same)) o lines apart = ap (are_one_ending h) same ∙ same-one h g i first ∙ apart
    other h j first (inl (v, was, now)) o lines apart =
        false_from_ne_true (are_one_ending h j) (λ y. has_key-false new j (lf-no_key e o new j lines (one-ending h j y).empty) (v, now))

-- ---- which keys are there

none-back : (key old new : List ℕ) (gs hs : List (List HeldLine)) → old ≢ key → AreNamed old new gs hs → NoneHasKey key hs → NoneHasKey key gs
none-back key old new [] hs apart n none = tt
none-back key old new (g ∷ gs) hs apart (h, more, p, k, r) none =
    let each = subst (NoneHasKey key) p none in (other k each.0, none-back key old new gs more apart r each.1)
  where
    other : IsNamed old new g h → ¬ (HasKey key h) → ¬ (HasKey key g)
    other (inl (v, was, now)) lacks has = apart (key-only old key g (v, was) has)
    other (inr (left, same)) lacks has = lacks (subst (HasKey key) (sym same) has)

-- If no group has the new key after a rename, none had the old one before.
none-renamed : (old new : List ℕ) (gs hs : List (List HeldLine)) → AreNamed old new gs hs → NoneHasKey new hs → NoneHasKey old gs
none-renamed old new [] hs n none = tt
none-renamed old new (g ∷ gs) hs (h, more, p, k, r) none =
    let each = subst (NoneHasKey new) p none in (λ has. each.0 (new-key old new g h k has), none-renamed old new gs more r each.1)

-- A pair has each key that one has to have.
abbrev pub AreThere : List NewName → List (List HeldLine) → Type 0
AreThere names gs = (key : List ℕ) → needed names key ≡ Some true → ¬ (NoneHasKey key gs)

-- The keys that the others need are still there.
still-there : (e : Encoding) (n : NewName) (ns : List NewName) (gs hs : List (List HeldLine)) → AreInTurn e hs → AreNamed n.old n.new gs hs
    → needed ns n.old ≢ Some true → AreThere (n ∷ ns) (with_bytes gs) → AreThere ns (with_bytes hs)
still-there e n ns gs hs turn named gone there key q none = elim (cases_Bool (bytes_eq key n.new)) [
  | inl t ↦
      let same = (bytes_eq-Decides key n.new).0 t in
      let lacks = none-renamed n.old n.new gs hs named (none-all e n.new hs turn (subst (λ w. NoneHasKey w (with_bytes hs)) same none)) in
      there n.old (needed-old n ns) (none-given n.old gs lacks)
  | inr t ↦
      let other : key ≢ n.old = λ s. gone (ap (needed ns) (sym s) ∙ q) in
      let apart : key ≢ n.new = λ s. let k = (bytes_eq-Decides key n.new).1 s in cc in
      let lacks = none-back key n.old n.new gs hs (λ s. other (sym s)) named (none-all e key hs turn none) in
      there key (needed-other n ns key other apart ∙ q) (none-given key gs lacks)
]

-- No group has a key that none may have.
none-free : (r : Repertoire) (names : List NewName) (key : List ℕ) (first : Bool) (gs : List (List HeldLine)) (bytes : List ℕ)
    → needed names key ≡ Some false → AreMade (IsMadeBy r names) first gs bytes → NoneHasKey key gs
none-free r names key first [] bytes q h = tt
none-free r names key first (g ∷ gs) bytes q (made, more, k, s, rest) = (λ has. k.0 key has q, none-free r names key false gs more q rest)

-- ---- the renames in turn

-- Without renames, all groups stay.
made-none : (r : Repertoire) (first : Bool) (gs : List (List HeldLine)) (bytes : List ℕ) → AreMade (IsMadeBy r []) first gs bytes → bytes ≡ groups_bytes gs
made-none r first [] bytes h = h
made-none r first (g ∷ gs) bytes (made, more, (free, inl (key, new, has, none, k)), s, q) = absurd (cc)
made-none r first (g ∷ gs) bytes (made, more, (free, inr (none, same)), s, q) = s ∙ ap₂ (λ v w. v ++ w) same (made-none r false gs more q)

-- All keys were renamed at once.
pub record AreRenamedAtOnce (r : Repertoire) (source : List ℕ) (names : List NewName) (result : List ℕ) : Type 0 where
  pub makeable : AreMakeable names
  pub groups : List (List HeldLine)
  pub held : AreIn r.encoding source groups
  pub there : AreThere names groups
  pub body : List ℕ
  pub made : AreMade (IsMadeBy (repertoire_in_force r source) names) true groups body
  pub whole : result ≡ bom_of source ++ body

-- What the first rename gives, and the others make of that.
record IsNext (r : Repertoire) (source : List ℕ) (n : NewName) (ns : List NewName) (result : List ℕ) : Type 0 where
  next : List ℕ
  renamed : IsRenamed r source n.old n.new next
  editable : is_editable (byte_order_mark r.encoding next).encoding ≡ true
  others : AreRenamedAtOnce r next ns result

next-step : (r : Repertoire) (source result : List ℕ) (n : NewName) (ns : List NewName) → is_editable (byte_order_mark r.encoding source).encoding ≡ true
    → n.old ≢ n.new → IsName n.new → needed ns n.old ≢ Some true → needed ns n.new ≢ Some false → AreRenamedAtOnce r source (n ∷ ns) result
    → IsNext r source n ns result
next-step r source result n ns ok apart name gone free_new h =
    let f = byte_order_mark r.encoding source in
    let all = h.held.all in
    let turn = in-turn f.encoding f.body all ok h.held.division in
    let own = held_groups_of-only f.encoding f.body all h.held.division in
    let made : AreMade (IsMadeBy (repertoire_in_force r source) (n ∷ ns)) true (with_bytes all) h.body =
    subst (λ gs. AreMade (IsMadeBy (repertoire_in_force r source) (n ∷ ns)) true gs h.body) h.held.are h.made in
    let t = step-groups (repertoire_in_force r source) n ns ok apart name free_new true all h.body turn made in
    let next = bom_of source ++ t.body in
    let force : byte_order_mark r.encoding next ≡ record { encoding = f.encoding; body = t.body } =
    stays_in_force r.encoding source t.body ok (λ k. t.no_mark refl (groups-unmarked r.encoding source all ok h.held.division k)) in
    let same_mark : bom_of next ≡ bom_of source =
    append_cancel_right (bom_of next) (bom_of source) t.body
    (ap (λ w. let g : InForce = w in bom_of next ++ g.body) (sym force) ∙ sym (source-whole r.encoding next)) in
    let stay : merged all ≡ all =
    slots-merged f.encoding f.body all ok (record { turn = turn; bytes = held-body f.encoding f.body all ok h.held.division }) ∙ sym own in
    let still : merged t.groups ≡ t.groups = still-merged f.encoding n.old n.new all t.groups t.named t.endings t.turn stay in
    let division : AreGroupsOf f.encoding t.body t.groups =
    subst (AreGroupsOf f.encoding t.body)
    (sym (slots-merged f.encoding t.body t.groups ok (record { turn = t.turn; bytes = t.are })) ∙ still) (held_groups_of-meets f.encoding t.body) in
    record {
      next = next;
      renamed = record {
        groups = h.groups;
        held = h.held;
        is_there = h.there n.old (needed-old n ns);
        is_free = none-free (repertoire_in_force r source) (n ∷ ns) n.new true h.groups h.body (needed-new n ns apart) h.made;
        body = t.body;
        renamed = subst (λ gs. AreRekeyed (repertoire_in_force r source) n.old n.new true gs t.body) (sym h.held.are) t.rekeyed;
        whole = refl;
      };
      editable = ap (λ w. let g : InForce = w in is_editable g.encoding) force ∙ ok;
      others = record {
        makeable = h.makeable.1;
        groups = with_bytes t.groups;
        held =
            subst (λ w. let g : InForce = w in AreGiven g.encoding g.body (with_bytes t.groups)) (sym force)
            (record { all = t.groups; division = division; are = refl; together = bytes-together t.groups ∙ t.are });
        there = still-there f.encoding n ns all t.groups t.turn t.named gone (subst (AreThere (n ∷ ns)) h.held.are h.there);
        body = h.body;
        made =
            subst (λ w. let g : InForce = w in AreMade (IsMadeBy (in_encoding r g.encoding) ns) true (with_bytes t.groups) h.body) (sym force) t.rest;
        whole = h.whole ∙ ap (λ w. w ++ h.body) (sym same_mark);
      };
    }

-- A rename of a key to itself.
module _ (r : Repertoire) (n : NewName) (ns : List NewName) (same : n.old ≡ n.new) (stays : needed ns n.old ≢ Some false) where
  kept-free : (g : List HeldLine) → IsFreeOf (n ∷ ns) g → IsFreeOf ns g
  kept-free g free key has q =
      let other : key ≢ n.old = λ s. stays (ap (needed ns) (sym s) ∙ q) in
      free key has (needed-other n ns key other (λ s. other (s ∙ sym same)) ∙ q)

  kept-made : (first : Bool) (gs : List (List HeldLine)) (bytes : List ℕ) → AreMade (IsMadeBy r (n ∷ ns)) first gs bytes → AreMade (IsMadeBy r ns) first gs bytes
  kept-made first [] bytes h = h
  kept-made first (g ∷ gs) bytes (made, more, (free, inl (key, new, has, q, k)), s, rest) = (
    made,
    more,
    (kept-free g free, inl (key, new, has, sym (last-kept n ns key same) ∙ q, k)),
    s,
    kept-made false gs more rest,
  )
  kept-made first (g ∷ gs) bytes (made, more, (free, inr (none, is)), s, rest) = (
    made,
    more,
    (kept-free g free, inr (λ key has. sym (last-kept n ns key same) ∙ none key has, is)),
    s,
    kept-made false gs more rest,
  )

kept-there : (n : NewName) (ns : List NewName) (gs : List (List HeldLine)) → n.old ≡ n.new → AreThere (n ∷ ns) gs → AreThere ns gs
kept-there n ns gs same there key q = elim (cases_Bool (bytes_eq key n.old)) [
  | inl t ↦ there key (ap (needed (n ∷ ns)) ((bytes_eq-Decides key n.old).0 t) ∙ needed-old n ns)
  | inr t ↦
      let other : key ≢ n.old = λ s. let k = (bytes_eq-Decides key n.old).1 s in cc in
      there key (needed-other n ns key other (λ s. other (s ∙ sym same)) ∙ q)
]

-- The last rename gives its name to the pairs with its old key, even if it is the empty one.
last-rekeyed : (r : Repertoire) (n : NewName) (first : Bool) (gs : List (List HeldLine)) (bytes : List ℕ) → n.old ≢ n.new
    → AreMade (IsMadeBy r (n ∷ [])) first gs bytes → AreRekeyed r n.old n.new first gs bytes
last-rekeyed r n first [] bytes apart h = h
last-rekeyed r n first (g ∷ gs) bytes apart (made, more, k, s, rest) = (made, more, of k, s, last-rekeyed r n false gs more apart rest)
  where
    of : IsMadeBy r (n ∷ []) first g made → HasKey n.old g × IsRekeyed r first g n.new made ⊎ ¬ (HasKey n.old g) × (made ≡ group_bytes g)
    of (free, inr (none, same)) = inr (λ has. (let t = sym (none n.old has) ∙ last-old n [] apart in cc), same)
    of (free, inl (key, new, has, q, k)) = elim (cases_Bool (bytes_eq key n.old)) [
      | inl t ↦
          let is = (bytes_eq-Decides key n.old).0 t in
          let final : Some new ≡ Some n.new = sym q ∙ ap (last_name (n ∷ [])) is ∙ last-old n [] apart in
          inl (subst (λ w. HasKey w g) is has, subst (λ w. IsRekeyed r first g w made) (cc) k)
      | inr t ↦
          let other : key ≢ n.old = λ s. let u = (bytes_eq-Decides key n.old).1 s in cc in
          let none : Some new ≡ None = sym q ∙ last-other n [] key other in
          absurd (cc)
    ]

-- The first of several renames, given that the others are made in turn to what it leaves.
first-in-turn : (options : SourceOptions) (source result : List ℕ) (n : NewName) (ns : List NewName)
    → is_editable (byte_order_mark (asked_for options).encoding source).encoding ≡ true → AreRenamedAtOnce (asked_for options) source (n ∷ ns) result
    → ((next : List ℕ) → is_editable (byte_order_mark (asked_for options).encoding next).encoding ≡ true
    → AreRenamedAtOnce (asked_for options) next ns result → AreRenamedInTurn options next ns result)
    → AreRenamedInTurn options source (n ∷ ns) result
first-in-turn options source result n ns ok h others = of h.makeable.0
  where
    of : IsMakeable n ns → AreRenamedInTurn options source (n ∷ ns) result
    of (inl (same, stays)) =
        let r = asked_for options in (
          source,
          inr (same, record { groups = h.groups; held = h.held; is_there = h.there n.old (needed-old n ns); same = refl }),
          others source ok (record {
            makeable = h.makeable.1;
            groups = h.groups;
            held = h.held;
            there = kept-there n ns h.groups same h.there;
            body = h.body;
            made = kept-made (repertoire_in_force r source) n ns same stays true h.groups h.body h.made;
            whole = h.whole;
          }),
        )
    of (inr (apart, inr last, gone, free_new)) =
        let r = asked_for options in
        let t = repertoire_in_force r source in
        let renamed : IsRenamed r source n.old n.new result = record {
          groups = h.groups;
          held = h.held;
          is_there = h.there n.old (needed-old n ns);
          is_free = none-free t (n ∷ ns) n.new true h.groups h.body (needed-new n ns apart) h.made;
          body = h.body;
          renamed =
              last-rekeyed t n true h.groups h.body apart (subst (λ ms. AreMade (IsMadeBy t (n ∷ ms)) true h.groups h.body) last h.made);
          whole = h.whole;
        } in (
          result,
          inl (apart, renamed, source-alike r source n.old n.new result renamed),
          subst (λ ms. AreRenamedInTurn options result ms result) (sym last) refl,
        )
    of (inr (apart, inl name, gone, free_new)) =
        let r = asked_for options in
        let k = next-step r source result n ns ok apart name gone free_new h in (
          k.next,
          inl (apart, k.renamed, source-alike r source n.old n.new k.next k.renamed),
          others k.next k.editable k.others,
        )

-- What is renamed at once is what the renames in turn give.
pub at-once : (options : SourceOptions) (source result : List ℕ) (ns : List NewName)
    → is_editable (byte_order_mark (asked_for options).encoding source).encoding ≡ true
    → AreRenamedAtOnce (asked_for options) source ns result → AreRenamedInTurn options source ns result
at-once options source result [] ok h =
    let r = asked_for options in
    h.whole
    ∙ ap (λ w. bom_of source ++ w) (made-none (repertoire_in_force r source) true h.groups h.body h.made ∙ h.held.together)
    ∙ sym (source-whole r.encoding source)
at-once options source result (n ∷ ns) ok h =
    first-in-turn options source result n ns ok h (λ next read others. at-once options next result ns read others)
