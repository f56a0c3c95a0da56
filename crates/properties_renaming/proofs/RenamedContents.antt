-- What a source with a key renamed says: its groups are those of the source, and for each pair with the old key a pair
-- with the new one and the same value. So the contents are those of the source, with the key changed.
use Rattle.std.proofs.Common.{inl, inr, ◌≡◌, ◌≢◌, ◌⊎◌, ℕ, true, false, List, [], ◌∷◌, ◌++◌, All, None, map, refl, sym, ap, ap₂, ◌∙◌, subst, arith, Bool, Option, Some, append_assoc, append-nil}
use Rattle.std.specs.Global.{Vec}
use Rattle.std.specs.Prelude.{Result, Ok, Err, bytes_eq}
use Rattle.std.proofs.lemmas.Bool.{cases_Bool}
use Rattle.std.proofs.lemmas.Slice.Eq.{bytes_eq-Decides}
use Rattle.properties_format.specs.Text.{is_empty, scalar, LineEnding}
use Rattle.properties_format.specs.Encoding.{Encoding, InForce, Repertoire, begins_like_bom, byte_order_mark, repertoire_in_force}
use Rattle.properties_format.specs.Lines.{end, joined}
use Rattle.properties_format.specs.Items.{AreItems, Content, Entry, Outcome, given, pair}
use Rattle.properties_format.specs.Changed.{HoldNoPair, NoneIsPair, contents, line_before}
use Rattle.properties_format.specs.Edited.{is_editable}
use Rattle.properties_format.specs.Body.{HasKey, HeldLine, NoneHasKey, as_lines, group_bytes, groups_bytes, ending_bytes, last_ending}
use Rattle.properties_format.specs.Computed.Body.{held_groups_of, unended_bytes}
use Rattle.properties_format.specs.Computed.Items.{items_of, outcome_of}
use Rattle.properties_format.proofs.Body.Groups.{held-body, held_groups_of-only}
use Rattle.properties_format.proofs.Changed.Contents.{contents_among}
use Rattle.properties_format.proofs.Changed.Items.{IsSoundLine, sound-source, source-sound}
use Rattle.properties_format.proofs.Edited.ByteOrderMarks.{groups-unmarked, in_force as stays_in_force, ending-cut}
use Rattle.properties_format.proofs.Edited.LogicalLines.{lines-pair, none-lines}
use Rattle.properties_format.proofs.Edits.Lines.{OfEach, logical_lines_of}
use Rattle.properties_format.proofs.GroupsInTurn.Merged.{AreInTurn, in-turn}
use Rattle.properties_format.proofs.Items.Unique.{items_of-meets, items_of-only, outcome_of-meets, outcome_of-only}
use Rattle.properties_format.proofs.Plan.Lines.{lines_of, slots-lines}
use Rattle.properties_format.proofs.Plan.Slots.{AreSlotsOf, lf-no_key, turn-cons}
use Rattle.properties_editing.specs.Views.{with_bytes}
use Rattle.properties_renaming.specs.Renaming.{AreIn, AreRekeyed, IsRenamed, IsRekeyed, RenamesKey}
use Rattle.properties_renaming.specs.declared.renaming.RenameError.{RenameError}
use Rattle.properties_renaming.specs.declared.renaming.RenameError.TheVariants.{Source, NoKey, KeyTaken}
use Rattle.properties_renaming.proofs.RenamedKeys.{edited-editable}
use Rattle.properties_editing.specs.Editing.{asked_for}
use Rattle.properties_editing.specs.declared.source.SourceOptions.{SourceOptions}
use Rattle.properties_renaming.specs.Laws.{HasSoundEntries, IsName, IsRenameRefused, RenamingAgainIsRefused, RenamingBackGivesTheContents, RenamingChangesTheKey, RenamingMovesTheValue, renamed, renamed_map}
use Rattle.properties_format.proofs.Edited.Made.{has_key-false}
use Rattle.properties_format.proofs.Encodings.PieceEnds.{no-front}
use Rattle.properties_format.proofs.GroupsInTurn.Lines.{AreLinesBy, bytes-of, bytes-unended}
use Rattle.properties_renaming.proofs.NewPairs.{rekeyed-pair, IsNamed, IsNewGroup}
use Rattle.properties_format.specs.Maps.{IsMap}
use Rattle.properties_format.proofs.Changed.Maps.{other-test, same-test}
pub use Rattle.properties_format.proofs.Changed.Maps.{content_value as value_of, value-contents, value_among}
use Rattle.properties_format.proofs.Maps.{map-only, value_in, value_in-meets}

-- ---- the groups with the new key

abbrev pub AreNamed : List ℕ → List ℕ → List (List HeldLine) → List (List HeldLine) → Type 0
AreNamed old new [] hs = hs ≡ []
AreNamed old new (g ∷ gs) hs = (h : List HeldLine) × (more : List (List HeldLine)) × (hs ≡ h ∷ more) × IsNamed old new g h × AreNamed old new gs more

-- The bytes of these groups are groups of this kind.
record AreNewGroups (e : Encoding) (first : Bool) (old new : List ℕ) (gs : List (List HeldLine)) (bytes : List ℕ) : Type 0 where
  groups : List (List HeldLine)
  turn : AreInTurn e groups
  are : groups_bytes groups ≡ bytes
  named : AreNamed old new gs groups
  no_mark : first ≡ true → begins_like_bom (groups_bytes gs) ≡ false → begins_like_bom bytes ≡ false

-- Whether a group with a line ending begins like a byte order mark doesn't depend on what follows it.
pub ended-mark : (e : Encoding) (by : LineEnding) (g : List HeldLine) (y : List ℕ) → AreLinesBy e (Some by) g
    → begins_like_bom (group_bytes g ++ y) ≡ begins_like_bom (group_bytes g)
ended-mark e by g y a = grind (arith, bytes-of, append_assoc, ending-cut, append-nil)

pub is-nil : (x : List ℕ) → is_empty x ≡ true → x ≡ []
is-nil [] k = refl
is-nil (b ∷ x) k = absurd (cc)

-- A group without bytes is no pair.
pub no-bytes : (e : Encoding) (o : Option LineEnding) (key : List ℕ) (g : List HeldLine) → AreLinesBy e o g → is_empty (group_bytes g) ≡ true → ¬ (HasKey key g)
no-bytes e o key g a k =
    has_key-false key g (lf-no_key e o key g a (no-front (unended_bytes g) (ending_bytes (last_ending g)) (sym (bytes-unended g) ∙ is-nil (group_bytes g) k)))

module _ (r : Repertoire) (old : List ℕ) (c : ℕ) (cs : List ℕ) (ok : is_editable r.encoding ≡ true) (scalars : All scalar (c ∷ cs)) where
  pub new-group : (o : Option LineEnding) (first : Bool) (g : List HeldLine) (made : List ℕ) → AreLinesBy r.encoding o g
      → HasKey old g × IsRekeyed r first g (c ∷ cs) made ⊎ ¬ (HasKey old g) × (made ≡ group_bytes g)
      → IsNewGroup r.encoding o first old (c ∷ cs) g made
  new-group o first [] made a (inl (k, m)) = absurd a
  new-group o first (i ∷ is) made a (inl ((value, k), m)) =
      rekeyed-pair r o first i is old c cs value made ok scalars a k m
  new-group o first g made a (inr (k, m)) =
      record { group = g; are = sym m; named = inr (k, refl); lines = a; whole = λ h. h; fit = λ h. h; no_mark = λ f b. ap begins_like_bom m ∙ b }

  -- The groups of a body with a key renamed; the last may have no bytes.
  new-groups : (first : Bool) (gs : List (List HeldLine)) (bytes : List ℕ) → AreInTurn r.encoding gs
      → AreRekeyed r old (c ∷ cs) first (with_bytes gs) bytes → AreNewGroups r.encoding first old (c ∷ cs) gs bytes
  new-groups first [] bytes a h = absurd a
  new-groups first (g ∷ []) bytes a h = elim (cases_Bool (is_empty (group_bytes g))) [
    | inl k ↦ none k (rw k at h)
    | inr k ↦ one (rw k at h)
  ]
    where
      none : is_empty (group_bytes g) ≡ true → bytes ≡ [] → AreNewGroups r.encoding first old (c ∷ cs) (g ∷ []) bytes
      none k h = record {
        groups = g ∷ [];
        turn = a;
        are = append-nil (group_bytes g) ∙ is-nil (group_bytes g) k ∙ sym h;
        named = (g, [], refl, inr (no-bytes r.encoding None old g a.0 k, refl), refl);
        no_mark = λ f b. ap begins_like_bom h;
      }

      one : AreRekeyed r old (c ∷ cs) first (g ∷ []) bytes → AreNewGroups r.encoding first old (c ∷ cs) (g ∷ []) bytes
      one (made, more, k, s, q) =
          let n = new-group None first g made a.0 k in
          record {
            groups = n.group ∷ [];
            turn = (n.lines, n.fit a.1);
            are = ap₂ (λ v w. v ++ w) n.are (sym q) ∙ sym s;
            named = (n.group, [], refl, n.named, refl);
            no_mark = λ f b.
                ap begins_like_bom (s ∙ ap (λ v. made ++ v) q ∙ append-nil made)
                ∙ n.no_mark f (sym (ap begins_like_bom (append-nil (group_bytes g))) ∙ b);
          }
  new-groups first (g ∷ i ∷ gs) bytes ((by, a, w), rest) (made, more, k, s, q) =
      let n = new-group (Some by) first g made a k in
      let m = new-groups false (i ∷ gs) more rest q in
      record {
        groups = n.group ∷ m.groups;
        turn = turn-cons r.encoding n.group m.groups (by, n.lines, n.whole w) m.turn;
        are = ap₂ (λ v w. v ++ w) n.are m.are ∙ sym s;
        named = (n.group, m.groups, refl, n.named, m.named);
        no_mark = λ f b.
            ap begins_like_bom (s ∙ ap (λ v. v ++ more) (sym n.are))
            ∙ ended-mark r.encoding by n.group more n.lines
            ∙ ap begins_like_bom n.are
            ∙ n.no_mark f (sym (ended-mark r.encoding by g (groups_bytes (i ∷ gs)) a) ∙ b);
      }

-- ---- contents

-- What is known of the lines after an edit, given those before it.
abbrev AreRenamedLines : List ℕ → List ℕ → List (List ℕ) → List (List ℕ) → Type 0
AreRenamedLines old new xs ys = OfEach IsSoundLine xs → OfEach IsSoundLine ys × (contents_among true ys ≡ map (renamed old new) (contents_among true xs))

-- A line that is no pair with the old key.
same-line : (old new : List ℕ) (o : Outcome) (x : List ℕ) (xs ys : List (List ℕ)) → outcome_of x ≡ o → ((value : List ℕ) → o ≡ given (pair old value) → ⊥)
    → AreRenamedLines old new xs ys → AreRenamedLines old new (line_before o x xs) (line_before o x ys)
same-line old new o x xs ys s n k h = grind (arith, bytes_eq-Decides)

-- The contents of renamed groups.
lines-renamed : (old new : List ℕ) (gs hs : List (List HeldLine)) → AreNamed old new gs hs → AreRenamedLines old new (lines_of gs) (lines_of hs)
lines-renamed old new [] hs q h = rw q (tt, refl)
lines-renamed old new (g ∷ gs) hs (h, more, q, inl (value, k, m), rest) sound =
    let x = joined (as_lines g) in
    let y = joined (as_lines h) in
    let a = lines-pair old g (lines_of gs) (value, k) in
    let b = lines-pair new h (lines_of more) (value, m) in
    let was = outcome_of-only x (given (pair old value)) k in
    let now = outcome_of-only y (given (pair new value)) m in
    let test = (bytes_eq-Decides old old).1 refl in
    let n = lines-renamed old new gs more rest (rw a at sound).1 in
    rw (q, a, b, ← was, ← now, test) ((tt, n.0), ap (λ v. pair new value ∷ v) n.1)
lines-renamed old new (g ∷ gs) hs (h, more, q, inr (n, same), rest) sound =
    let x = joined (as_lines g) in
    rw (q, same)
    (same-line old new (outcome_of x) x (lines_of gs) (lines_of more) refl (λ v s. n (v, rw s at (outcome_of-meets x)))
    (lines-renamed old new gs more rest) sound)

-- ---- a source

-- The groups of a source and of the result, in which a key is renamed.
pub record AreRenamedGroups (r : Repertoire) (source old new result : List ℕ) : Type 0 where
  pub all : List (List HeldLine)
  pub slots : AreSlotsOf (byte_order_mark r.encoding source).encoding (byte_order_mark r.encoding source).body all
  pub own : all ≡ held_groups_of (byte_order_mark r.encoding source).encoding (byte_order_mark r.encoding source).body
  pub groups : List (List HeldLine)
  pub body : List ℕ
  pub in_force : byte_order_mark r.encoding result ≡ record { encoding = (byte_order_mark r.encoding source).encoding; body = body }
  pub new_slots : AreSlotsOf (byte_order_mark r.encoding source).encoding body groups
  pub named : AreNamed old new all groups

pub renamed-groups : (r : Repertoire) (source old : List ℕ) (new result : List ℕ) → is_editable (byte_order_mark r.encoding source).encoding ≡ true
    → IsName new → IsRenamed r source old new result → AreRenamedGroups r source old new result
renamed-groups r source old [] result ok (some, s) h = absurd (some refl)
renamed-groups r source old (c ∷ cs) result ok (some, s) h =
    let f = byte_order_mark r.encoding source in
    let all = h.held.all in
    let turn = in-turn f.encoding f.body all ok h.held.division in
    let n = new-groups (repertoire_in_force r source) old c cs ok s true all h.body turn
    (subst (λ gs. AreRekeyedIn gs) h.held.are h.renamed) in
    let bytes : groups_bytes all ≡ f.body = held-body f.encoding f.body all ok h.held.division in
    record {
      all = all;
      slots = record { turn = turn; bytes = bytes };
      own = held_groups_of-only f.encoding f.body all h.held.division;
      groups = n.groups;
      body = h.body;
      in_force = ap (byte_order_mark r.encoding) h.whole
          ∙ stays_in_force r.encoding source h.body ok (λ k. n.no_mark refl (groups-unmarked r.encoding source all ok h.held.division k));
      new_slots = record { turn = n.turn; bytes = n.are };
      named = n.named;
    }
  where
    AreRekeyedIn : List (List HeldLine) → Type 0
    AreRekeyedIn gs = AreRekeyed (repertoire_in_force r source) old (c ∷ cs) true gs h.body

-- The lines of a source, and of the result.
module _ (r : Repertoire) (source old new result : List ℕ) (ok : is_editable (byte_order_mark r.encoding source).encoding ≡ true)
    (k : AreRenamedGroups r source old new result) where
  source-lines : logical_lines_of r.encoding source ≡ lines_of k.all
  source-lines = ap lines_of (sym k.own)

  result-lines : logical_lines_of r.encoding result ≡ lines_of k.groups
  result-lines =
      ap (λ v. let f : InForce = v in lines_of (held_groups_of f.encoding f.body)) k.in_force
      ∙ slots-lines (byte_order_mark r.encoding source).encoding k.body k.groups ok k.new_slots

  result-contents : AreItems (items_of r.encoding source end)
      → AreItems (items_of r.encoding result end)
      × (contents (items_of r.encoding result end) ≡ map (renamed old new) (contents (items_of r.encoding source end)))
  result-contents sound =
      let was = source-sound r.encoding source sound in
      let n = lines-renamed old new k.all k.groups k.named (subst (OfEach IsSoundLine) source-lines was.0) in
      let items = sound-source r.encoding result (subst (OfEach IsSoundLine) (sym result-lines) n.0) in (
        items,
        (source-sound r.encoding result items).1
            ∙ ap (contents_among true) result-lines
            ∙ n.1
            ∙ ap (map (renamed old new)) (ap (contents_among true) (sym source-lines) ∙ sym was.1),
      )

-- After a key is renamed, the contents are those of the source with the key changed.
pub renaming-contents : (r : Repertoire) (source old new : List ℕ) → RenamingChangesTheKey r source old new
renaming-contents r source old new name result h before sound =
    let k = renamed-groups r source old new result sound.editable name h in
    let was = items_of-only r.encoding source end before sound.items in
    let n = result-contents r source old new result sound.editable k (rw was at sound.sound) in (
      ap (λ v. let f : InForce = v in f.encoding) k.in_force,
      λ after items. rw (items_of-only r.encoding result end after items, was) n,
    )

-- ---- the map

module _ (old new : List ℕ) (apart : old ≢ new) where
  -- The new key has the value of the old one,
  value-new : (cs : List Content) → HoldNoPair new cs → value_among (map (renamed old new) cs) new ≡ value_among cs old
  value-new [] h = refl
  value-new (c ∷ cs) h = grind (arith, same-test, other-test, value-new cs)

  -- which has none,
  value-old : (cs : List Content) → value_among (map (renamed old new) cs) old ≡ None
  value-old [] = refl
  value-old (c ∷ cs) = let n : new ≢ old = λ q. apart (sym q) in grind (arith, other-test, value-old cs)

  -- and any other key keeps its value.
  value-other : (key : List ℕ) (cs : List Content) → new ≢ key → old ≢ key → value_among (map (renamed old new) cs) key ≡ value_among cs key
  value-other key [] n m = refl
  value-other key (c ∷ cs) n m = grind (arith, other-test, bytes_eq-Decides, value-other key cs n m)

  -- So the map is that of the source with the key renamed.
  map-renamed : (before after : List Entry) → HoldNoPair new (contents before) → contents after ≡ map (renamed old new) (contents before)
      → (value_at : List ℕ → Option (List ℕ)) → IsMap before value_at → IsMap after (renamed_map old new value_at)
  map-renamed before after free same value_at m key =
      let was : (k : List ℕ) → value_among (contents before) k ≡ value_at k = λ k. sym (value-contents before k) ∙ sym (map-only before value_at m k) in
      let now : value_in after key ≡ value_among (map (renamed old new) (contents before)) key = value-contents after key ∙ ap (λ c. value_among c key) same in
      let value : value_among (map (renamed old new) (contents before)) key ≡ renamed_map old new value_at key =
      elim (cases_Bool (bytes_eq key new)) [
        | inl t ↦
            rw t (ap (value_among (map (renamed old new) (contents before))) ((bytes_eq-Decides key new).0 t) ∙ value-new (contents before) free ∙ was old)
        | inr t ↦ elim (cases_Bool (bytes_eq key old)) [
          | inl s ↦
              rw (t, s) (ap (value_among (map (renamed old new) (contents before))) ((bytes_eq-Decides key old).0 s) ∙ value-old (contents before))
          | inr s ↦
              rw (t, s)
              (value-other key (contents before) (λ q. no-test key new t (sym q)) (λ q. no-test key old s (sym q)) ∙ was key)
        ]
      ] in
      rw (now ∙ value) at (value_in-meets after key)
    where
      no-test : (k l : List ℕ) → bytes_eq k l ≡ false → k ≢ l
      no-test k l t q = let s = same-test k l q in cc

-- ---- there and back

-- If no line is a pair with the key, no content is.
pub hold-none : (key : List ℕ) (xs : List (List ℕ)) → NoneIsPair key xs → HoldNoPair key (contents_among true xs)
hold-none key [] h = tt
hold-none key (x ∷ xs) h = grind (arith, outcome_of-meets x, hold-none key xs h.1)

-- Contents renamed there and back are the same, if none of them had the new key.
contents-back : (old new : List ℕ) (cs : List Content) → HoldNoPair new cs → map (renamed new old) (map (renamed old new) cs) ≡ cs
contents-back old new [] h = refl
contents-back old new (c ∷ cs) h = grind (arith, other-test, same-test, bytes_eq-Decides, contents-back old new cs)

-- The group without bytes is no pair.
pub none-all : (e : Encoding) (key : List ℕ) (all : List (List HeldLine)) → AreInTurn e all → NoneHasKey key (with_bytes all) → NoneHasKey key all
none-all e key [] a n = tt
none-all e key (g ∷ []) a n = grind (arith, no-bytes e None key g a.0)
none-all e key (g ∷ h ∷ gs) a n = (n.0, none-all e key (h ∷ gs) a.1 n.1)

pub none-given : (key : List ℕ) (all : List (List HeldLine)) → NoneHasKey key all → NoneHasKey key (with_bytes all)
none-given key [] n = tt
none-given key (g ∷ []) n = grind (arith)
none-given key (g ∷ h ∷ gs) n = (n.0, none-given key (h ∷ gs) n.1)

-- No content of the source has the new key.
new-free : (r : Repertoire) (source old new result : List ℕ) → IsRenamed r source old new result → (before : List Entry) → HasSoundEntries r source before
    → HoldNoPair new (contents before)
new-free r source old new result h before sound =
    let e = r.encoding in
    let f = byte_order_mark e source in
    let all = h.held.all in
    let none = none-all f.encoding new all (in-turn f.encoding f.body all sound.editable h.held.division) (subst (NoneHasKey new) h.held.are h.is_free) in
    let was = items_of-only e source end before sound.items in
    let parts = source-sound e source (rw was at sound.sound) in
    let own : lines_of all ≡ logical_lines_of e source = ap lines_of (held_groups_of-only f.encoding f.body all h.held.division) in
    subst (HoldNoPair new) (sym (ap contents was ∙ parts.1 ∙ ap (contents_among true) (sym own))) (hold-none new (lines_of all) (none-lines new all none))

-- Renamed there and back, the contents are those of the source.
pub renaming-back : (r : Repertoire) (source old new : List ℕ) → RenamingBackGivesTheContents r source old new
renaming-back r source old new first second next result h k before after sound items =
    let e = r.encoding in
    let there = renaming-contents r source old new second next h before sound in
    let own = items_of-meets e next end in
    let items_next = there.1 (items_of e next end) own in
    let back = renaming-contents r next new old first result k (items_of e next end)
    (record { editable = ap is_editable there.0 ∙ sound.editable; items = own; sound = items_next.0 }) in
    (back.1 after items).1
    ∙ ap (map (renamed new old)) items_next.1
    ∙ contents-back old new (contents before) (new-free r source old new next h before sound)

-- After a key is renamed, the map has its value under the new key.
pub renaming-moves : (r : Repertoire) (source old new : List ℕ) → RenamingMovesTheValue r source old new
renaming-moves r source old new name apart result h before after sound items =
    let there = renaming-contents r source old new name result h before sound in
    map-renamed old new apart before after (new-free r source old new result h before sound) (there.1 after items).1

-- ---- the same way again

-- No renamed group has the old key.
named-none : (old new : List ℕ) (gs hs : List (List HeldLine)) → old ≢ new → AreNamed old new gs hs → NoneHasKey old hs
named-none old new [] hs n q = subst (NoneHasKey old) (sym q) tt
named-none old new (g ∷ gs) hs n (h, more, q, inl (value, k, m), rest) =
    subst (NoneHasKey old) (sym q) (other, named-none old new gs more n rest)
  where
    other : ¬ (HasKey old h)
    other (v, has) =
        let a = outcome_of-only (joined (as_lines h)) (given (pair old v)) has in
        let b = outcome_of-only (joined (as_lines h)) (given (pair new value)) m in
        n (cc (a ∙ sym b))
named-none old new (g ∷ gs) hs n (h, more, q, inr (k, same), rest) =
    subst (NoneHasKey old) (sym q) (subst (λ v. ¬ (HasKey old v)) (sym same) k, named-none old new gs more n rest)

-- If no logical line is a pair with a key, no group is.
groups-none : (key : List ℕ) (gs : List (List HeldLine)) → NoneIsPair key (lines_of gs) → NoneHasKey key gs
groups-none key [] n = tt
groups-none key (g ∷ gs) n =
    (λ h. (rw (lines-pair key g (lines_of gs) h) at n).0 h, groups-none key gs (rest (outcome_of (joined (as_lines g))) n))
  where
    rest : (o : Outcome) → NoneIsPair key (line_before o (joined (as_lines g)) (lines_of gs)) → NoneIsPair key (lines_of gs)
    rest o n = grind (arith)

-- After a key is renamed, no pair of the result has it.
renamed-none : (r : Repertoire) (source old new result : List ℕ) → is_editable (byte_order_mark r.encoding source).encoding ≡ true
    → IsName new → old ≢ new → IsRenamed r source old new result → (gs : List (List HeldLine)) → AreIn r.encoding result gs → NoneHasKey old gs
renamed-none r source old new result ok name apart h gs held =
    let f = byte_order_mark r.encoding result in
    let k = renamed-groups r source old new result ok name h in
    let own : lines_of held.all ≡ lines_of k.groups =
    ap lines_of (held_groups_of-only f.encoding f.body held.all held.division) ∙ result-lines r source old new result ok k in
    let lines : NoneIsPair old (lines_of held.all) = subst (NoneIsPair old) (sym own) (none-lines old k.groups (named-none old new k.all k.groups apart k.named)) in
    subst (NoneHasKey old) (sym held.are) (none-given old held.all (groups-none old held.all lines))

-- The same call on the result renames nothing.
pub renaming-again : (options : SourceOptions) (source old new : List ℕ) → RenamingAgainIsRefused options source old new
renaming-again options source old new name apart bytes ((same, edits), inr (equal, kept)) again k = absurd (apart equal)
renaming-again options source old new name apart bytes ((same, edits), inl (other, h, alike)) again k = of again k
  where
    none : (gs : List (List HeldLine)) → AreIn (asked_for options).encoding bytes.items gs → NoneHasKey old gs
    none =
        renamed-none (asked_for options) source old new bytes.items
        (edited-editable (asked_for options) source same options.comments edits) name apart h

    of : (again : Result (Vec ℕ) RenameError) → RenamesKey options bytes.items old new again → IsRenameRefused again
    of (Ok more) (editable, inl (other, m, alike)) = m.is_there (none m.groups m.held)
    of (Ok more) (editable, inr (equal, kept)) = apart equal
    of (Err NoKey) k = tt
    of (Err (KeyTaken number)) (editable, other, m) = m.is_there (none m.groups m.held)
    of (Err (Source error)) k = tt
