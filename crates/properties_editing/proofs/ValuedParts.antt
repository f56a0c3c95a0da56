-- Parts of a source in which the value of the last pair with a key is set.
use Rattle.std.proofs.Common.{◌≡◌, ℕ, ◌&&◌, Bool, true, false, List, [], ◌∷◌, ◌++◌, All, Option, Some, None, drop, refl, ap, sym, ◌∙◌, subst, append-nil}
use Rattle.std.specs.Prelude.{get_or, if◌then◌else◌, nat_le, not}
use Rattle.std.specs.Global.{Vec, Global}
use Rattle.std.specs.declared.string.String.{String}
use Rattle.properties_format.specs.Text.{LineEnding, scalar}
use Rattle.properties_format.specs.Encoding.{Encoding, Repertoire, byte_order_mark, in_encoding}
use Rattle.properties_format.specs.Lines.{joined}
use Rattle.properties_format.specs.Items.{given}
use Rattle.properties_format.specs.Items as content
use Rattle.properties_format.specs.Printing.{encoded_text}
use Rattle.properties_format.specs.Body.{HeldLine, as_lines}
use Rattle.properties_format.specs.Edited.{is_editable}
use Rattle.properties_format.specs.Edits.{set_value}
use Rattle.properties_format.specs.Plan.{Change, stay, become, all_stay, at_last, value_change, value_in, with_value_set}
use Rattle.properties_format.specs.Valued.{value_text}
use Rattle.properties_format.specs.Computed.Items.{outcome_of}
use Rattle.properties_format.specs.Computed.Body.{has_key, held_groups_of, held_lines_of, unended_bytes}
use Rattle.properties_format.specs.Computed.Valued.{between_of, value_front, has_value}
use Rattle.properties_format.proofs.Body.Groups.{IsLastFit}
use Rattle.properties_format.proofs.Edited.LogicalLines.{key-outcome}
use Rattle.properties_format.proofs.Edited.Made.{has_key-true}
use Rattle.properties_format.proofs.GroupsInTurn.Lines.{AreLinesBy, lines-with, texts-with}
use Rattle.properties_format.proofs.GroupsInTurn.Merged.{AreInTurn, IsLastGroup, turn-at}
use Rattle.properties_format.proofs.Items.Unique.{outcome_of-only}
use Rattle.properties_format.proofs.Plan.Slots.{all-after, AreSlotsOf, SayPair, IsFitChange, groups_after, slots-merged}
use Rattle.properties_format.proofs.Plan.Values.{new_text, new-said, value-fit, value-with}
use Rattle.properties_format.proofs.Plan.NewValues.{groups_valued}
use Rattle.properties_format.proofs.Plan.Listed.{AreSlotsIn, guarded, slots-value_set}
use Rattle.properties_format.proofs.Plan.Made.{value_set-is_planned}
use Rattle.properties_format.proofs.Valued.Made.{raw-pair}
use Rattle.properties_format.proofs.Valued.Unended.{unended-bytes, unended-joined, without_ending, between-with, front-with}
use Rattle.properties_text.specs.Encoding.{encoding_of}
use Rattle.properties_items.specs.BorrowedItems.{outcome_pair}
use Rattle.properties_items.specs.Texts.{characters}
use Rattle.properties_editing.specs.Private.BodyParts.{no_part, part_text_bytes}
use Rattle.properties_editing.specs.Private.BodyValues.{IsPairAlone}
use Rattle.properties_editing.specs.Private.ChangedParts.{HasBytes, key_place}
use Rattle.properties_editing.specs.Private.EditedParts.{AreEditedParts, StandForSource}
use Rattle.properties_editing.specs.Private.Sound.{AreSound}
use Rattle.properties_editing.specs.Private.Sources.{used_in}
use Rattle.properties_editing.specs.declared.parts.Parts.{Parts}
use Rattle.properties_editing.specs.declared.parts.source_parts.SourceParts.{SourceParts}
use Rattle.properties_editing.proofs.Editing.{editable, used-own}
use Rattle.properties_editing.proofs.EditedParts.{after, before, changed-plan, changed-sound, division, division-guarded, encoding-own, slots-own, some-between, source-changed, source-edited}
use Rattle.properties_editing.proofs.PartsChanged.{IsLastOwn, IsPairText, found-bytes, found-own}

-- ---- a group by itself

-- A group has the same text without its last line ending.
alone-turn : (e : Encoding) (g : List HeldLine) (o : Option LineEnding) → AreLinesBy e o g → IsLastFit g → IsLastGroup e (without_ending g)
alone-turn e g o a w = (lines-with e o None g a (λ c. refl), rw (texts-with None g) w)

-- Its text by itself is one group.
pub alone-groups : (e : Encoding) (g : List HeldLine) (o : Option LineEnding) → is_editable e ≡ true → AreLinesBy e o g → IsLastFit g
    → held_groups_of e (unended_bytes g) ≡ without_ending g ∷ []
alone-groups e g o ok a w =
    let slots : AreSlotsOf e (unended_bytes g) (without_ending g ∷ []) =
    record { turn = alone-turn e g o a w; bytes = append-nil _ ∙ unended-bytes g } in
    sym (slots-merged e (unended_bytes g) (without_ending g ∷ []) ok slots)

-- ---- the new bytes are the pair

module _ (r : Repertoire) (ok : is_editable r.encoding ≡ true) (key value : List ℕ) (v : All scalar value) (g : List HeldLine) (o : Option LineEnding)
    (a : AreLinesBy r.encoding o g) (w : IsLastFit g) (has : has_key key g ≡ true) where
  abbrev e : Encoding
  e = r.encoding

  abbrev alone : List HeldLine
  alone = without_ending g

  -- It is a pair.
  pub alone-pair : IsPairAlone e (unended_bytes g)
  alone-pair =
      let m = key-outcome key g (has_key-true key g has) in
      record { group = alone; is_group = alone-groups e g o ok a w; key = key; value = m.0; is_pair = ap outcome_of (unended-joined g) ∙ m.1 }

  -- What is known of a group that its text by itself is, is known of it.
  pub same-alone : (h : List HeldLine) → held_groups_of e (unended_bytes g) ≡ h ∷ [] → h ≡ alone
  same-alone h is = let q = sym is ∙ alone-groups e g o ok a w in cc

  pub alone-change : (h : List HeldLine) → held_groups_of e (unended_bytes g) ≡ h ∷ [] → (first : Bool) → value_change r value first h ≡ value_change r value first g
  alone-change h is first = ap (value_change r value first) (same-alone h is) ∙ value-with r key value first o None g ok a has

  -- The bytes of its front and the value read as the pair.
  pub new-text : (first : Bool) (x : List ℕ) → value_change r value first g ≡ become x → x ≡ value_front e alone ++ encoded_text e (value_text r (between_of alone) value)
      → IsPairText e key value x
  new-text first x makes is =
      let h = has_key-true key g has in
      let m = raw-pair key g h in
      let same : x ≡ new_text r g value = rw (is, front-with e None g m.0 m.1 m.2, between-with None g) refl in
      let said : SayPair e key value x = rw same (new-said r key value o g ok v a w h) in
      record {
        text = subst (IsFitChange e) makes (value-fit r key value first o g ok v a w has);
        said = ap outcome_pair (sym (outcome_of-only (joined (as_lines (held_lines_of e x))) (given (content.pair key value)) said));
      }

-- ---- a value is set

all_stay-append : (xs ys : List (List HeldLine)) → all_stay xs ++ all_stay ys ≡ all_stay (xs ++ ys)
all_stay-append [] ys = refl
all_stay-append (x ∷ xs) ys = ap (λ v. stay ∷ v) (all_stay-append xs ys)

module _ {r : Repertoire} {read now : List ℕ} {named : List ℕ → Bool} {gs : List (List HeldLine)} {old : SourceParts} (s : StandForSource r read now named gs old)
    (sound : AreSound gs) (key value : List ℕ) (place : ℕ) (k : All scalar key) (v : All scalar value) (at : Some place ≡ key_place old.parts.keys key) where
  abbrev f : Encoding
  f = encoding_of old.opened.encoding

  abbrev t : Repertoire
  t = in_encoding r f

  abbrev pair : List ℕ
  pair = part_text_bytes (drop old.opened.start read) (get_or old.parts.parts.items place no_part).text

  abbrev own : IsLastOwn key place s.stand.pieces
  own = found-own (drop old.opened.start read) named gs old.parts key place s.stand (sym at)

  pair-bytes : pair ≡ unended_bytes own.group
  pair-bytes = found-bytes f s.in_force.editable (drop old.opened.start read) named key gs old.parts s.turn s.stand place own

  lines : (o : Option LineEnding) × AreLinesBy f o own.group × IsLastFit own.group
  lines = turn-at f (before s key place own) own.group (after s key place own) (subst (AreInTurn f) (division s key place own) s.turn)

  -- The pair is one by itself.
  pub found-alone : IsPairAlone f pair
  found-alone = subst (IsPairAlone f) (sym pair-bytes) (alone-pair t s.in_force.editable key value v own.group lines.0 lines.1 lines.2 own.has)

  abbrev first : Bool
  first = not old.guarded && nat_le place old.empty

  abbrev slots_all : List (List HeldLine)
  slots_all = guarded f old.guarded gs

  -- The slots after the value is set are those after its plan.
  slots-valued : (cs : List Change) → at_last key (value_change t value) true slots_all ≡ Some cs
      → AreSlotsIn r.encoding (with_value_set r now key value) (groups_after f cs slots_all)
  slots-valued cs plan =
      let F = byte_order_mark r.encoding now in
      let result = with_value_set r now key value in
      let all = held_groups_of F.encoding F.body in
      let slots = slots-value_set r now key value slots_all (editable s.in_force) k v (slots-own s) in
      let slots_f = subst (λ e. AreSlotsIn r.encoding result (groups_valued (in_encoding r e) all key value slots_all (at_last key (value_change (in_encoding r e) value) true slots_all)))
      (encoding-own s.in_force) slots in
      subst (λ o. AreSlotsIn r.encoding result (groups_valued t all key value slots_all o)) plan slots_f

  abbrev valued_body : List ℕ
  valued_body =
      let F = byte_order_mark r.encoding now in
      value_in (in_encoding r F.encoding) key value (held_groups_of F.encoding F.body)

  -- The pair got other bytes.
  pub source-valued : (group : List HeldLine) (bytes : Vec ℕ) (text : String Global) (new : Parts) → held_groups_of f pair ≡ group ∷ [] → has_value value group ≡ false
      → characters text ≡ value → bytes.items ≡ value_front f group ++ encoded_text f (value_text (used_in old.opened) (between_of group) value)
      → HasBytes place key bytes text old.parts new → AreEditedParts r (set_value key value) read now named (record old { parts = new })
  source-valued group bytes text new one other said made h =
      let result = with_value_set r now key value in
      let own_one = ap (held_groups_of f) (sym pair-bytes) ∙ one in
      let bytes_are : bytes.items ≡ value_front f group ++ encoded_text f (value_text t (between_of group) value) =
      made ∙ ap (λ u. value_front f group ++ encoded_text f (value_text u (between_of group) value)) (used-own s.in_force) in
      let makes : value_change t value first own.group ≡ become bytes.items =
      sym (alone-change t s.in_force.editable key value v own.group lines.0 lines.1 lines.2 own.has group own_one first)
      ∙ ap (λ b. if b then stay else become (value_front f group ++ encoded_text f (value_text t (between_of group) value))) other
      ∙ ap become (sym bytes_are) in
      let same = same-alone t s.in_force.editable key value v own.group lines.0 lines.1 lines.2 own.has group own_one in
      let is_text = new-text t s.in_force.editable key value v own.group lines.0 lines.1 lines.2 own.has first bytes.items makes
      (bytes_are ∙ ap (λ g. value_front f g ++ encoded_text f (value_text t (between_of g) value)) same) in
      let edited = (value_set-is_planned r now key value result (editable s.in_force)).1 refl in
      record {
        result = result;
        edited = edited;
        parts = record {
          groups = _;
          stand = source-changed s key place own (set_value key value) result valued_body (value_change t value) bytes text new h
              (subst (λ x. IsPairText f key x bytes.items) (sym said) is_text) makes edited refl slots-valued;
          sound = changed-sound s key place own sound value bytes.items is_text;
        };
      }

  -- The pair has the value.
  pub source-same : (group : List HeldLine) → held_groups_of f pair ≡ group ∷ [] → has_value value group ≡ true → AreEditedParts r (set_value key value) read now named old
  source-same group one there =
      let result = with_value_set r now key value in
      let own_one = ap (held_groups_of f) (sym pair-bytes) ∙ one in
      let stays : value_change t value first own.group ≡ stay =
      sym (alone-change t s.in_force.editable key value v own.group lines.0 lines.1 lines.2 own.has group own_one first)
      ∙ ap (λ b. if b then stay else become (value_front f group ++ encoded_text f (value_text t (between_of group) value))) there in
      let front = guarded f old.guarded (before s key place own) in
      let back = after s key place own in
      let plan = changed-plan s key place own (value_change t value) ∙ ap (λ c. Some (all_stay front ++ c ∷ all_stay back)) stays in
      let cs = all_stay front ++ all_stay (own.group ∷ back) in
      let same : groups_after f cs slots_all ≡ slots_all =
      ap (groups_after f cs) (division-guarded s key place own) ∙ ap (λ c. groups_after f c (front ++ own.group ∷ back)) (all_stay-append front (own.group ∷ back))
      ∙ all-after f (front ++ own.group ∷ back) ∙ sym (division-guarded s key place own) in
      let edited = (value_set-is_planned r now key value result (editable s.in_force)).1 refl in
      record {
        result = result;
        edited = edited;
        parts = record {
          groups = gs;
          stand = source-edited (set_value key value) result valued_body gs old.parts s edited refl (subst (AreSlotsIn r.encoding result) same (slots-valued cs plan))
              (λ q. some-between (before s key place own) own.group back (sym (division s key place own) ∙ q)) s.stand (sym s.empty) s.bounds;
          sound = sound;
        };
      }
