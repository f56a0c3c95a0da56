-- Parts of a source behind which a pair with a new key is added.
use Rattle.std.proofs.Common.{◌≡◌, ◌≤◌, ◌<◌, ◌⊎◌, ℕ, suc, ◌&&◌, Bool, true, false, List, [], ◌∷◌, ◌++◌, All, Option, Some, None, length, drop, take-append-drop, refl, ap, ap₂, sym, ◌∙◌, subst, inl, inr, append-nil, arith}
use Rattle.std.specs.Prelude.{nat_le, not, if◌then◌else◌, Result, Ok, Err}
use Rattle.std.specs.Global.{Vec}
use Rattle.std.proofs.lemmas.Bool.{cases_Bool}
use Rattle.std.proofs.lemmas.Bool.Decides.{nat_tests}
use Rattle.properties_format.specs.Text.{LineEnding, cr, is_empty, lf, line_ending_text, scalar}
use Rattle.properties_format.specs.Encoding.{Encoding, Repertoire, begins_with, byte_order_mark, in_encoding, utf_16be_bom, utf_16le_bom, utf_8_bom}
use Rattle.properties_format.specs.Body.{HeldLine, groups_bytes}
use Rattle.properties_format.specs.Edited.{bom_of, final_group, is_empty_line, is_left_open, pair_bytes, separation_by}
use Rattle.properties_format.specs.Edits.{Edit, IsEdited, put}
use Rattle.properties_format.specs.Plan.{Change, at_last, put_change, put_in, with_key_set}
use Rattle.properties_format.specs.Computed.Body.{held_groups_of, safe_ending}
use Rattle.properties_format.specs.Computed.Lines.{ends_in_cr}
use Rattle.properties_format.proofs.GroupsInTurn.Merged.{AreInTurn}
use Rattle.properties_format.proofs.Lines.Plain.{ends_in_cr-append}
use Rattle.properties_format.proofs.Plan.Slots.{group_of, lf-no_key, no_line}
use Rattle.properties_format.proofs.Plan.Added.{all_closed, blank, groups_added, groups_put}
use Rattle.properties_format.proofs.Plan.Listed.{AreSlotsIn, guarded, slots-key_set}
use Rattle.properties_format.proofs.Plan.Made.{key_set-is_planned}
use Rattle.properties_text.specs.Encoding.{encoding_of}
use Rattle.properties_items.specs.Line.{ending_of}
use Rattle.properties_items.specs.declared.line.LineEnding as declared
use Rattle.properties_items.specs.declared.line.LineEnding.TheVariants as code
use Rattle.properties_editing.specs.Private.BodyGroups.{closing_of}
use Rattle.properties_editing.specs.Private.BodyParts.{StandFor, is_empty_part, parts_bytes}
use Rattle.properties_editing.specs.Private.ChangedParts.{AddsPair, ClosesLast, HasAdded, IsAsBefore, closed_as, has_to_close, key_place, with_last}
use Rattle.properties_editing.specs.Private.EditedParts.{AreEditedParts, EditsParts, StandForSource}
use Rattle.properties_editing.specs.Private.PartBounds.{AreBounds}
use Rattle.properties_editing.specs.Private.SourceParts.{empty_front, lf_if}
use Rattle.properties_editing.specs.Private.Sound.{AreSound}
use Rattle.properties_editing.specs.declared.parts.PartKind.{PartKind}
use Rattle.properties_editing.specs.declared.parts.PartKind.TheVariants as kind
use Rattle.properties_editing.specs.declared.parts.Part.{Part}
use Rattle.properties_editing.specs.declared.parts.Parts.{Parts}
use Rattle.properties_editing.specs.declared.parts.source_parts.SourceParts.{SourceParts}
use Rattle.properties_editing.specs.Private.Sources.{printed_repertoire}
use Rattle.properties_editing.proofs.Editing.{bom-front, editable, not_first, printed-own}
use Rattle.properties_editing.proofs.EditedParts.{encoding-own, pair-text, slots-own, some-between, source-edited}
use Rattle.properties_editing.proofs.PartBounds.{bounds-added}
use Rattle.properties_editing.proofs.PartsChanged.{stands-added, stands-kept, IsPairText, none-changes, none-last}
use Rattle.properties_editing.proofs.PartsAt.{AllOther, end-bytes}
use Rattle.properties_editing.proofs.PartsRemoved.{all-other}
use Rattle.properties_editing.proofs.SoundParts.{sound-added}
use Rattle.properties_editing.proofs.SourceParts.{blank-lines, first-new, stand-bytes}

-- ---- the empty parts at the front

front-most : (ps : List Part) → empty_front ps ≤ length ps
front-most [] = omega arith
front-most (p ∷ ps) = elim (cases_Bool (is_empty_part p)) [
  | inl e ↦ let m = front-most ps in rw e (omega arith)
  | inr e ↦ rw e (omega arith)
]

front-push : (ps : List Part) (p : Part) → is_empty_part p ≡ false → empty_front (ps ++ p ∷ []) ≡ empty_front ps
front-push [] p is = rw is refl
front-push (s ∷ ss) p is = elim (cases_Bool (is_empty_part s)) [
  | inl e ↦ rw e (ap suc (front-push ss p is))
  | inr e ↦ rw e refl
]

-- Another last part that isn't empty changes nothing, unless all parts are empty.
front-last : (ps : List Part) (q : Part) → is_empty_part q ≡ false → empty_front ps < length ps → empty_front (with_last (Some q) ps) ≡ empty_front ps
front-last [] q is k = absurd (omega arith)
front-last (p ∷ []) q is k = elim (cases_Bool (is_empty_part p)) [
  | inl e ↦ let h = rw e at k in absurd (omega arith)
  | inr e ↦ rw (is, e) refl
]
front-last (p ∷ r ∷ ps) q is k = elim (cases_Bool (is_empty_part p)) [
  | inl e ↦ let h = rw e at k in rw e (ap suc (front-last (r ∷ ps) q is (omega arith)))
  | inr e ↦ rw e refl
]

closed-full : (bytes : Vec ℕ) (by : declared.LineEnding) (k : PartKind) → is_empty_part (closed_as bytes by k) ≡ false
closed-full bytes by kind.Pair = refl
closed-full bytes by (kind.Others last) = refl

-- If all parts are empty, nothing has to be closed.
module _ (d : List ℕ) (named : List ℕ → Bool) (e : Encoding) (gs : List (List HeldLine)) (p : Parts) (s : StandFor d named gs p) (turn : AreInTurn e gs) where
  all-empty : nat_le (length p.parts.items) (empty_front p.parts.items) ≡ true → has_to_close p.closing ≡ false
  all-empty all = elim (cases_Bool (is_empty_line (final_group gs))) [
    | inl k ↦ ap has_to_close s.closing ∙ ap (λ b. has_to_close (closing_of b (is_left_open (final_group gs)))) k
    | inr k ↦
        let some = not_first (groups_bytes gs) (separation_by (line_ending_text lf) (final_group gs)) (separates k (cases_Bool (is_left_open (final_group gs)))) in
        let is = sym all ∙ first-new d named e (line_ending_text lf) gs p s turn ∙ sym some in
        absurd (cc)
  ]
    where
      separates : is_empty_line (final_group gs) ≡ false → (is_left_open (final_group gs) ≡ true) ⊎ (is_left_open (final_group gs) ≡ false)
          → false ≡ is_empty (separation_by (line_ending_text lf) (final_group gs))
      separates k (inl o) = rw (k, o) refl
      separates k (inr o) = rw (k, o) refl

  front-closed : (by : declared.LineEnding) (closed : Option Part) → ClosesLast d by p.closing p.parts.items closed
      → empty_front (with_last closed p.parts.items) ≡ empty_front p.parts.items
  front-closed by None h = refl
  front-closed by (Some q) h =
      let full : is_empty_part q ≡ false = ap is_empty_part h.2.part ∙ closed-full h.2.bytes by _ in
      elim (cases_Bool (nat_le (length p.parts.items) (empty_front p.parts.items))) [
        | inl k ↦ let no = sym h.0 ∙ all-empty k in absurd (cc)
        | inr k ↦ let m = front-most p.parts.items in front-last p.parts.items q full (grind (arith, nat_tests))
      ]

  -- No group has a key without a place.
  none-other : (key : List ℕ) → named key ≡ true → key_place p.keys key ≡ None → AllOther key gs
  none-other key is none =
      subst (AllOther key) (sym s.ended.division)
      (all-other d named e key 0 p.parts.items s.pieces s.ended.line is s.are_parts (end-bytes s.pieces s.ended.line s.ended.end)
      (inr (subst (AreInTurn e) s.ended.division turn)) (sym (s.placed.places key) ∙ none-last _ none))

-- ---- the LF that guards groups

guarded-other : (e : Encoding) (b : Bool) (key : List ℕ) (gs : List (List HeldLine)) → AllOther key gs → AllOther key (guarded e b gs)
guarded-other e true key gs a = (lf-no_key e (Some lf) key (blank e lf ∷ []) (blank-lines e) refl, a)
guarded-other e false key gs a = a

guarded-added : (e : Encoding) (by : LineEnding) (x : List ℕ) (ending : LineEnding) (b : Bool) (gs : List (List HeldLine)) → AreInTurn e gs
    → groups_added e by x ending (guarded e b gs) ≡ guarded e b (groups_added e by x ending gs)
guarded-added e by x ending b [] a = absurd a
guarded-added e by x ending true (g ∷ gs) a = refl
guarded-added e by x ending false (g ∷ gs) a = refl

-- ---- the pair is added

module _ {r : Repertoire} {read now : List ℕ} {named : List ℕ → Bool} {gs : List (List HeldLine)} {old : SourceParts} (s : StandForSource r read now named gs old) where
  abbrev f : Encoding
  f = encoding_of old.opened.encoding

  abbrev d : List ℕ
  d = drop old.opened.start read

  abbrev items : List Part
  items = old.parts.parts.items

  -- A new pair comes first if nothing comes before it.
  pub first-added : (ending : List ℕ) → (not old.guarded && nat_le (length items) old.empty)
      ≡ is_empty (groups_bytes (guarded f old.guarded gs) ++ separation_by ending (final_group (guarded f old.guarded gs)))
  first-added ending = of-guard old.guarded
    where
      of-guard : (b : Bool) → (not b && nat_le (length items) old.empty)
          ≡ is_empty (groups_bytes (guarded f b gs) ++ separation_by ending (final_group (guarded f b gs)))
      of-guard true = refl
      of-guard false = ap (λ n. nat_le (length items) n) s.empty ∙ first-new d named f ending gs old.parts s.stand s.turn

  -- The plan changes no pair.
  pub plan-none : (key : List ℕ) (change : Bool → List HeldLine → Change) → named key ≡ true → key_place old.parts.keys key ≡ None
      → at_last key change true (guarded f old.guarded gs) ≡ None
  plan-none key change is none =
      none-changes key change true (guarded f old.guarded gs)
      (guarded-other f old.guarded key gs (none-other d named f gs old.parts s.stand s.turn key is none))

  pub source-added : (key value : List ℕ) (edit : Edit) (result body : List ℕ) (by ending : declared.LineEnding) (bytes : Vec ℕ) (new : Parts)
      → HasAdded d key value by bytes ending old.parts new → IsPairText f key value bytes.items → named key ≡ true
      → IsEdited r now edit result → result ≡ bom_of now ++ body
      → AreSlotsIn r.encoding result (groups_added f (ending_of by) bytes.items (ending_of ending) (guarded f old.guarded gs))
      → StandForSource r read result named (groups_added f (ending_of by) bytes.items (ending_of ending) gs) (record old { parts = new })
  source-added key value edit result body by ending bytes new h t is edited whole slots =
      let next = groups_added f (ending_of by) bytes.items (ending_of ending) gs in
      source-edited edit result body next new s edited whole
      (subst (AreSlotsIn r.encoding result) (guarded-added f (ending_of by) bytes.items (ending_of ending) old.guarded gs s.turn) slots)
      (some-between (all_closed f (ending_of by) gs) (group_of f bytes.items (Some (ending_of ending))) ((no_line f ∷ []) ∷ []))
      (stands-added f s.in_force.editable d named key value gs old.parts new s.turn s.stand by ending bytes h t is)
      (ap empty_front h.parts ∙ front-push (with_last h.closed items) _ refl
      ∙ front-closed d named f gs old.parts s.stand s.turn by h.closed h.closes ∙ sym s.empty)
      (bounds-added d key value old.bounds by ending bytes old.parts new h s.bounds)

  -- Nothing changed.
  pub source-kept : (new : Parts) → IsAsBefore old.parts new → StandForSource r read now named gs (record old { parts = new })
  source-kept new h = record {
    in_force = s.in_force;
    within = s.within;
    mark = s.mark;
    body = s.body;
    turn = s.turn;
    stand = stands-kept d named gs old.parts new s.stand h;
    empty = s.empty ∙ ap empty_front (sym h.parts);
    bounds = subst (AreBounds d old.bounds) (sym h.parts) s.bounds;
  }

  -- ---- a key is set

  -- The source ends in a CR if its parts do.
  ends-now : ends_in_cr (parts_bytes d items) ≡ ends_in_cr now
  ends-now =
      sym (ap ends_in_cr whole ∙ ends-behind (bom_of now) (lf_if old.guarded ++ parts_bytes d items) (mark-ends now)
      ∙ ends-behind (lf_if old.guarded) (parts_bytes d items) (guard-ends old.guarded))
    where
      whole : now ≡ bom_of now ++ (lf_if old.guarded ++ parts_bytes d items)
      whole =
          sym (take-append-drop old.opened.start now)
          ∙ ap₂ (λ a b. a ++ b) (sym (bom-front s.in_force)) (s.body ∙ ap (λ v. lf_if old.guarded ++ v) (sym (stand-bytes d named gs old.parts s.stand)))

      mark-ends : (b : List ℕ) → ends_in_cr (bom_of b) ≡ false
      mark-ends b = elim (cases_Bool (begins_with utf_8_bom b)) [
        | inl k ↦ rw k refl
        | inr k ↦ elim (cases_Bool (begins_with utf_16be_bom b)) [
          | inl l ↦ rw (k, l) refl
          | inr l ↦ elim (cases_Bool (begins_with utf_16le_bom b)) [ inl m ↦ rw (k, l, m) refl | inr m ↦ rw (k, l, m) refl ]
        ]
      ]

      guard-ends : (b : Bool) → ends_in_cr (lf_if b) ≡ false
      guard-ends true = refl
      guard-ends false = refl

      ends-behind : (x y : List ℕ) → ends_in_cr x ≡ false → ends_in_cr (x ++ y) ≡ ends_in_cr y
      ends-behind x [] n = ap ends_in_cr (append-nil x) ∙ n
      ends-behind x (c ∷ y) n = ends_in_cr-append x c y

  -- A printed pair was added.
  pub source-put-added : AreSound gs → (key value : List ℕ) (by : declared.LineEnding) (bytes : Vec ℕ) (new : Parts) → All scalar key → All scalar value
      → named key ≡ true → key_place old.parts.keys key ≡ None → ending_of by ≡ safe_ending (parts_bytes d items)
      → bytes.items ≡ pair_bytes (printed_repertoire old.opened) (not old.guarded && nat_le (length items) old.empty) key value
      → HasAdded d key value by bytes code.LF old.parts new → AreEditedParts r (put key value) read now named (record old { parts = new })
  source-put-added sound key value by bytes new k v is none safe printed h =
      let t = in_encoding r f in
      let first = not old.guarded && nat_le (length items) old.empty in
      let bytes_are : bytes.items ≡ pair_bytes t first key value = printed ∙ ap (λ u. pair_bytes u first key value) (printed-own s.in_force) in
      let result = with_key_set r now key value in
      let all = guarded f old.guarded gs in
      let F = (byte_order_mark r.encoding now).encoding in
      let edited = (key_set-is_planned r now key value result (editable s.in_force)).1 refl in
      let text = subst (IsPairText f key value) (sym bytes_are) (pair-text t first key value s.in_force.editable k v) in
      let ends : ending_of by ≡ (if ends_in_cr now then cr else lf) = safe ∙ ap (λ b. if b then cr else lf) ends-now in
      let slots = slots-key_set r now key value all (editable s.in_force) k v (slots-own s) in
      let slots_f = subst (λ e. AreSlotsIn r.encoding result
      (groups_put (in_encoding r e) now key value all (at_last key (put_change (in_encoding r e) key value) true all)))
      (encoding-own s.in_force) slots in
      let added = subst (λ o. AreSlotsIn r.encoding result (groups_put t now key value all o)) (plan-none key (put_change t key value) is none) slots_f in
      let by_now : LineEnding = if ends_in_cr now then cr else lf in
      let bytes_now : pair_bytes t (is_empty (groups_bytes all ++ separation_by (line_ending_text by_now) (final_group all))) key value ≡ bytes.items =
      ap (λ b. pair_bytes t b key value) (sym (first-added (line_ending_text by_now))) ∙ sym bytes_are in
      record {
        result = result;
        edited = edited;
        parts = record {
          groups = _;
          stand = source-added key value (put key value) result
              (put_in (in_encoding r F) now key value (held_groups_of F (byte_order_mark r.encoding now).body)) by code.LF bytes new h text is edited refl
              (subst (λ y. AreSlotsIn r.encoding result (groups_added f y bytes.items lf all)) (sym ends)
              (subst (λ x. AreSlotsIn r.encoding result (groups_added f by_now x lf all)) bytes_now added));
          sound = sound-added f s.in_force.editable key value bytes.items text (ending_of by) lf gs s.turn sound;
        };
      }

-- So it was, or memory ran out.
pub key-added : {E : Type 0} (read : List ℕ) (old : SourceParts) (key value : List ℕ) (by : declared.LineEnding) (bytes : Vec ℕ) (new : Parts) (told : Result Unit E)
    → All scalar key → All scalar value → key_place old.parts.keys key ≡ None → ending_of by ≡ safe_ending (parts_bytes (drop old.opened.start read) old.parts.parts.items)
    → bytes.items ≡ pair_bytes (printed_repertoire old.opened) (not old.guarded && nat_le (length old.parts.parts.items) old.empty) key value
    → AddsPair (drop old.opened.start read) key value by bytes code.LF old.parts told new
    → EditsParts (put key value) read old told (record old { parts = new })
key-added read old key value by bytes new (Ok done) k v none safe printed h = λ r now named is p.
    source-put-added p.stand p.sound key value by bytes new k v is none safe printed h
key-added read old key value by bytes new (Err error) k v none safe printed h = λ r now named p.
    record { groups = p.groups; stand = source-kept p.stand new (h none); sound = p.sound }
