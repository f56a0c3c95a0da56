-- Edits by plans are the edits of the relations, and these have no other results.
use Rattle.std.proofs.Common.{◌≡◌, ◌⊎◌, ◌↔◌, ℕ, true, List, [], ◌∷◌, ◌++◌, Option, Some, None, refl, ap, sym, ◌∙◌, inl, inr, append_assoc, subst}
use Rattle.std.proofs.lemmas.Bool.{cases_Bool, false_from_ne_true}
use Rattle.properties_format.specs.Encoding.{Encoding, Repertoire, byte_order_mark, in_encoding}
use Rattle.properties_format.specs.Body.{HeldLine, groups_bytes}
use Rattle.properties_format.specs.Edited.{bom_of, IsReplaced, IsAppended, IsKeySet, IsWithout, IsKeyRemoved, is_editable}
use Rattle.properties_format.specs.Valued.{IsBodyValued, IsValueSet}
use Rattle.properties_format.specs.Computed.Body.{held_groups_of, has_key}
use Rattle.properties_format.specs.Computed.Valued.{has_value, value_front, between_of, last_between, separator_by}
use Rattle.properties_format.specs.Plan.{Change, planned, planned_or, removal, at_last, put_change, put_added, put_in, value_change, value_added, value_in, with_key_set, with_value_set, with_key_removed}
use Rattle.properties_format.proofs.Body.Groups.{groups_bytes-append, held_groups_of-meets, held_groups_of-only}
use Rattle.properties_format.proofs.Edited.Made.{has_key-true, has_key-false, HasKey-test, no_key-test}
use Rattle.properties_format.proofs.GroupsInTurn.Merged.{AreInTurn, in-turn, turn-at}
use Rattle.properties_format.proofs.Valued.Fronts.{AreDecoded, front_of-meets, front_of-only}
use Rattle.properties_format.proofs.Valued.Made.{HasPair-test, has_value-true, new_separator-meets, new_separator-only, raw-pair}
use Rattle.properties_format.proofs.Plan.Slots.{last-stays}
use Rattle.properties_format.proofs.Plan.Last.{IsPlanOf, at_last-meets, at_last-none, at_last-some, front-bytes, planned-at}
use Rattle.properties_format.proofs.Plan.Values.{decoded-by}

-- ---- setting a key

module _ (r : Repertoire) (source key value : List ℕ) (gs : List (List HeldLine)) (a : AreInTurn r.encoding gs) where
  -- The last pair with the key is replaced, or a pair is appended if there is none.
  pub put-meets : (p : Option (List Change)) → IsPlanOf key (put_change r key value) true gs p
      → (let body = planned_or p (put_added r source key value gs) gs in IsReplaced r gs key value body ⊎ IsAppended r source gs key value body)
  put-meets None m = inr (record { no_pair = m; bytes = refl })
  put-meets (Some cs) m =
      inl (record {
        before = m.before;
        group = m.group;
        after = m.after;
        division = m.division;
        has_key = m.has;
        no_later = m.no_later;
        bytes =
            rw (m.plan, m.division, front-bytes r.encoding m.before m.group m.after (rw m.division at a))
            (planned-at _ m.before m.group m.after);
      })

  -- There is no other such body.
  put-only : (body : List ℕ) → IsReplaced r gs key value body ⊎ IsAppended r source gs key value body → body ≡ put_in r source key value gs
  put-only body (inl h) =
      let first = front-bytes r.encoding h.before h.group h.after (rw h.division at a) in
      let plan = at_last-some key (put_change r key value) true h.before h.group h.after h.has_key h.no_later in
      rw (h.bytes, h.division, plan, planned-at, first) refl
  put-only body (inr h) = rw (h.bytes, at_last-none key (put_change r key value) true gs h.no_pair) refl

-- A source with a key set is what the plan makes,
abbrev pub key_set-meets : (r : Repertoire) (source key value : List ℕ) → is_editable (byte_order_mark r.encoding source).encoding ≡ true
    → IsKeySet r source key value (with_key_set r source key value)
key_set-meets r source key value ok =
    let f = byte_order_mark r.encoding source in
    let t = in_encoding r f.encoding in
    let gs = held_groups_of f.encoding f.body in
    let held = held_groups_of-meets f.encoding f.body in
    record {
      groups = gs;
      held = held;
      body = put_in t source key value gs;
      edited = put-meets t source key value gs (in-turn f.encoding f.body gs ok held) (at_last key (put_change t key value) true gs)
          (at_last-meets key (put_change t key value) true gs);
      whole = refl;
    }

-- and nothing else is.
pub key_set-is_planned : (r : Repertoire) (source key value result : List ℕ) → is_editable (byte_order_mark r.encoding source).encoding ≡ true
    → IsKeySet r source key value result ↔ (result ≡ with_key_set r source key value)
key_set-is_planned r source key value result ok = (only, λ q. subst (IsKeySet r source key value) (sym q) (key_set-meets r source key value ok))
  where
    only : IsKeySet r source key value result → result ≡ with_key_set r source key value
    only h =
        let f = byte_order_mark r.encoding source in
        let t = in_encoding r f.encoding in
        h.whole
        ∙ ap (λ v. bom_of source ++ v) (put-only t source key value h.groups (in-turn f.encoding f.body h.groups ok h.held) h.body h.edited)
        ∙ ap (λ gs. bom_of source ++ put_in t source key value gs) (held_groups_of-only f.encoding f.body h.groups h.held)

-- ---- removing a key

removal-meets : (key : List ℕ) (gs : List (List HeldLine)) → IsWithout key gs (planned (removal key gs) gs)
removal-meets key [] = refl
removal-meets key (g ∷ gs) = elim (cases_Bool (has_key key g)) [
  | inl h ↦ rw h (inl (has_key-true key g h, removal-meets key gs))
  | inr h ↦ rw h (inr (has_key-false key g h, planned (removal key gs) gs, refl, removal-meets key gs))
]

removal-only : (key : List ℕ) (gs : List (List HeldLine)) (rest : List ℕ) → IsWithout key gs rest → rest ≡ planned (removal key gs) gs
removal-only key [] rest h = h
removal-only key (g ∷ gs) rest (inl h) = rw (HasKey-test key g h.0) (removal-only key gs rest h.1)
removal-only key (g ∷ gs) rest (inr h) = rw (no_key-test key g h.0, h.2, removal-only key gs h.1 h.3) refl

-- A source without a key is what the plan makes, and nothing else is.
pub key_removed-is_planned : (e : Encoding) (source key result : List ℕ) → IsKeyRemoved e source key result ↔ (result ≡ with_key_removed e source key)
key_removed-is_planned e source key result = (only, λ q. subst (IsKeyRemoved e source key) (sym q) meets)
  where
    only : IsKeyRemoved e source key result → result ≡ with_key_removed e source key
    only h =
        let f = byte_order_mark e source in
        rw (← held_groups_of-only f.encoding f.body h.groups h.held, h.whole, removal-only key h.groups h.rest h.without) refl

    meets : IsKeyRemoved e source key (with_key_removed e source key)
    meets =
        let f = byte_order_mark e source in
        let gs = held_groups_of f.encoding f.body in
        record {
          groups = gs;
          held = held_groups_of-meets f.encoding f.body;
          rest = planned (removal key gs) gs;
          without = removal-meets key gs;
          whole = refl;
        }

-- ---- setting a value

module _ (r : Repertoire) (key value : List ℕ) (gs : List (List HeldLine)) (ok : is_editable r.encoding ≡ true) (a : AreInTurn r.encoding gs) where
  decoded : (before : List (List HeldLine)) (g : List HeldLine) (after : List (List HeldLine)) → gs ≡ before ++ g ∷ after → AreDecoded r.encoding g
  decoded before g after s = let t = turn-at r.encoding before g after (rw s at a) in decoded-by r.encoding t.0 g t.1

  -- The last pair with the key has the value, or gets it, or a pair is added.
  pub valued-meets : (p : Option (List Change)) → IsPlanOf key (value_change r value) true gs p
      → IsBodyValued r gs key value (planned_or p (value_added r key value gs) gs)
  valued-meets None m =
      inr (inr (record { no_pair = m; separator = separator_by key (last_between gs); is_separator = new_separator-meets gs key; bytes = refl }))
  valued-meets (Some cs) m = elim (cases_Bool (has_value value m.group)) [
    | inl k ↦
        inl (record {
          before = m.before;
          group = m.group;
          after = m.after;
          division = m.division;
          has_pair = has_value-true key value m.group m.has k;
          no_later = m.no_later;
          bytes = (last-stays key (value_change r value) true gs cs m (rw k refl)).0;
        })
    | inr k ↦
        let q = raw-pair key m.group m.has in
        inr (inl (record {
          before = m.before;
          group = m.group;
          after = m.after;
          division = m.division;
          has_key = m.has;
          other_value = λ h. let t = HasPair-test key value m.group h in absurd (cc);
          no_later = m.no_later;
          between = between_of m.group;
          front = value_front r.encoding m.group;
          is_front = front_of-meets r.encoding m.group q.0 q.1 ok (decoded m.before m.group m.after m.division) q.2;
          bytes =
              rw (m.plan, m.division, k)
              (planned-at _ m.before m.group m.after ∙ ap (λ v. groups_bytes m.before ++ v) (append_assoc (value_front r.encoding m.group) _ _));
        }))
  ]

  -- There is no other such body.
  valued-only : (body : List ℕ) → IsBodyValued r gs key value body → body ≡ value_in r key value gs
  valued-only body (inl h) =
      let plan = at_last-some key (value_change r value) true h.before h.group h.after (value, h.has_pair) h.no_later in
      rw (h.bytes, h.division, plan, planned-at, HasPair-test key value h.group h.has_pair) (groups_bytes-append h.before (h.group ∷ h.after))
  valued-only body (inr (inl h)) =
      let plan = at_last-some key (value_change r value) true h.before h.group h.after h.has_key h.no_later in
      let other = false_from_ne_true (has_value value h.group) (λ k. h.other_value (has_value-true key value h.group h.has_key k)) in
      let f = front_of-only r.encoding h.group h.between h.front ok (decoded h.before h.group h.after h.division) h.is_front in
      rw (h.bytes, h.division, plan, planned-at, other, f.0, f.1)
      (ap (λ v. groups_bytes h.before ++ v) (sym (append_assoc (value_front r.encoding h.group) _ _)))
  valued-only body (inr (inr h)) =
      rw (h.bytes, at_last-none key (value_change r value) true gs h.no_pair, new_separator-only gs key h.separator h.is_separator) refl

-- A source with a value set is what the plan makes,
abbrev pub value_set-meets : (r : Repertoire) (source key value : List ℕ) → is_editable (byte_order_mark r.encoding source).encoding ≡ true
    → IsValueSet r source key value (with_value_set r source key value)
value_set-meets r source key value ok =
    let f = byte_order_mark r.encoding source in
    let t = in_encoding r f.encoding in
    let gs = held_groups_of f.encoding f.body in
    let held = held_groups_of-meets f.encoding f.body in
    record {
      groups = gs;
      held = held;
      body = value_in t key value gs;
      edited = valued-meets t key value gs ok (in-turn f.encoding f.body gs ok held) (at_last key (value_change t value) true gs)
          (at_last-meets key (value_change t value) true gs);
      whole = refl;
    }

-- and nothing else is.
pub value_set-is_planned : (r : Repertoire) (source key value result : List ℕ) → is_editable (byte_order_mark r.encoding source).encoding ≡ true
    → IsValueSet r source key value result ↔ (result ≡ with_value_set r source key value)
value_set-is_planned r source key value result ok = (only, λ q. subst (IsValueSet r source key value) (sym q) (value_set-meets r source key value ok))
  where
    only : IsValueSet r source key value result → result ≡ with_value_set r source key value
    only h =
        let f = byte_order_mark r.encoding source in
        let t = in_encoding r f.encoding in
        h.whole
        ∙ ap (λ v. bom_of source ++ v) (valued-only t key value h.groups ok (in-turn f.encoding f.body h.groups ok h.held) h.body h.edited)
        ∙ ap (λ gs. bom_of source ++ value_in t key value gs) (held_groups_of-only f.encoding f.body h.groups h.held)
