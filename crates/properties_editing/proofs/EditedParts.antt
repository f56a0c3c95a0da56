-- Parts of a source in which a key or a value is set.
use Rattle.std.proofs.Common.{◌≡◌, ◌≢◌, ◌<◌, ◌+◌, ℕ, zero, suc, ◌&&◌, Bool, true, false, List, [], ◌∷◌, ◌++◌, All, Some, length, take, drop, refl, ap, ap₂, sym, ◌∙◌, subst, inl, inr, arith}
use Rattle.std.specs.Prelude.{get_or, nat_le, not}
use Rattle.std.specs.Global.{Vec, Global}
use Rattle.std.specs.declared.string.String.{String}
use Rattle.std.proofs.lemmas.Bool.{cases_Bool}
use Rattle.std.proofs.lemmas.List.{length-take-le}
use Rattle.std.proofs.Math.Seq.{take-append_seam}
use Rattle.properties_format.specs.Text.{scalar}
use Rattle.properties_format.specs.Encoding.{Encoding, InForce, Repertoire, byte_order_mark, in_encoding}
use Rattle.properties_format.specs.Body.{HeldLine, last_ending}
use Rattle.properties_format.specs.Edited.{bom_of, is_editable, pair_bytes}
use Rattle.properties_format.specs.Edits.{Edit, IsEdited, put, remove, set_value}
use Rattle.properties_format.specs.Plan.{Change, become, all_stay, at_last, put_change, put_in, with_key_set}
use Rattle.properties_format.specs.Computed.Body.{held_groups_of}
use Rattle.properties_format.proofs.Body.Decoded.{cut_of-lines}
use Rattle.properties_format.proofs.Edited.Pair.{pair-decoded, pair-outcome, pair-plain}
use Rattle.properties_format.proofs.GroupsInTurn.Merged.{AreInTurn}
use Rattle.properties_format.proofs.Lines.Only.{lines_of-plain}
use Rattle.properties_format.proofs.Plan.Slots.{become-after, AreSlotsOf, group_of, groups_after}
use Rattle.properties_format.proofs.Plan.Added.{groups_put, pair-fit}
use Rattle.properties_format.proofs.Plan.Listed.{AreSlotsIn, guarded, slots-key_set}
use Rattle.properties_format.proofs.Plan.Last.{first_behind}
use Rattle.properties_format.proofs.Plan.Made.{key_set-is_planned}
use Rattle.properties_text.specs.Encoding.{encoding_of}
use Rattle.properties_items.specs.BorrowedItems.{outcome_pair}
use Rattle.properties_items.specs.Texts.{characters}
use Rattle.properties_editing.specs.Private.BodyParts as parts
use Rattle.properties_editing.specs.Private.BodyParts.{StandFor, is_empty_part, no_part}
use Rattle.properties_editing.specs.Private.ChangedParts.{HasBytes, key_place, part_with_bytes}
use Rattle.properties_editing.specs.Private.EditedParts.{AreEditedParts, StandForSource}
use Rattle.properties_editing.specs.Private.PartBounds.{AreBounds}
use Rattle.properties_editing.specs.Private.SourceParts.{empty_front}
use Rattle.properties_editing.specs.Private.Sound.{AreSound}
use Rattle.properties_editing.specs.Private.Sources.{IsBodyStartOf, printed_repertoire}
use Rattle.properties_editing.specs.declared.source.BodyStart.{BodyStart}
use Rattle.properties_editing.specs.declared.parts.Part.{Part}
use Rattle.properties_editing.specs.declared.parts.Parts.{Parts}
use Rattle.properties_editing.specs.declared.parts.source_parts.SourceParts.{SourceParts}
use Rattle.properties_editing.proofs.Editing.{again, bom-front, editable, printed-own}
use Rattle.properties_editing.proofs.PartBounds.{bounds-set}
use Rattle.properties_editing.proofs.PartsRemoved.{empty-none}
use Rattle.properties_editing.proofs.PartsChanged.{IsLastOwn, IsPairText, found, found-division, found-own, front, held, plan-last, rest, rest-other, stands-replaced}
use Rattle.properties_editing.proofs.SoundParts.{sound-changed}
use Rattle.properties_editing.proofs.SourceParts.{first-place, guarded-bytes, source-slots}
use Rattle.properties_format.proofs.Edited.ByteOrderMarks.{key_removed-in_force, key_set-in_force}
use Rattle.properties_format.proofs.Valued.Marks.{value_set-in_force}

-- The bytes after an edit are in force as those before it.
pub edited-in_force : {r : Repertoire} {opened : BodyStart} {old new : List ℕ} (edit : Edit) → IsBodyStartOf old r opened → IsEdited r old edit new → IsBodyStartOf new r opened
edited-in_force {r} {opened} {old} {new} (put key value) h k = again new k.body h k.whole (key_set-in_force r old key value new (editable h) k)
edited-in_force {r} {opened} {old} {new} (remove key) h k = again new _ h k.whole (key_removed-in_force r.encoding old key new (editable h) k)
edited-in_force {r} {opened} {old} {new} (set_value key value) h k = again new k.body h k.whole (value_set-in_force r old key value new (editable h) k)

-- ---- a source after an edit

-- Behind an LF that guards them, groups are in turn if there are any.
turn-behind : (e : Encoding) (b : Bool) (gs : List (List HeldLine)) → gs ≢ [] → AreInTurn e (guarded e b gs) → AreInTurn e gs
turn-behind e b [] some a = absurd (some refl)
turn-behind e false (g ∷ gs) some a = a
turn-behind e true (g ∷ gs) some a = a.1

-- Parts stand for the source after an edit if they stand for groups that, behind the LF, are its slots.
pub source-edited : {r : Repertoire} {read now : List ℕ} {named : List ℕ → Bool} {gs : List (List HeldLine)} {old : SourceParts} (edit : Edit) (result body : List ℕ)
    (next : List (List HeldLine)) (new : Parts) → StandForSource r read now named gs old → IsEdited r now edit result → result ≡ bom_of now ++ body
    → AreSlotsIn r.encoding result (guarded (encoding_of old.opened.encoding) old.guarded next) → next ≢ []
    → StandFor (drop old.opened.start read) named next new → empty_front new.parts.items ≡ old.empty
    → AreBounds (drop old.opened.start read) old.bounds new.parts.items
    → StandForSource r read result named next (record old { parts = new })
source-edited {r} {read} {now} {named} {gs} {old} edit result body next new s edited whole slots some stand front bounds =
    let f = encoding_of old.opened.encoding in
    let start = old.opened.start in
    let force : IsBodyStartOf result r old.opened = edited-in_force edit s.in_force edited in
    let own : AreSlotsOf f (drop start result) (guarded f old.guarded next) =
    subst (λ w. let v : InForce = w in AreSlotsOf v.encoding v.body (guarded f old.guarded next)) force.in_force slots in
    let mark_is = bom-front s.in_force in
    let size : start ≡ length (bom_of now) = sym (ap length mark_is ∙ length-take-le start now s.in_force.within) in
    record {
      in_force = force;
      within = s.within;
      mark = ap₂ take size whole ∙ take-append_seam (bom_of now) body ∙ mark_is ∙ s.mark;
      body = sym own.bytes ∙ guarded-bytes f old.guarded next;
      turn = turn-behind f old.guarded next some own.turn;
      stand = stand;
      empty = sym front;
      bounds = bounds;
    }

-- ---- a pair with other bytes

pub some-between : (xs : List (List HeldLine)) (g : List HeldLine) (ys : List (List HeldLine)) → xs ++ g ∷ ys ≢ []
some-between [] g ys q = cc
some-between (x ∷ xs) g ys q = cc

-- The empty parts at the front stay if a part that isn't empty is replaced by such a part.
front-set : (ps : List Part) (i : ℕ) (p q : Part) → i < length ps → is_empty_part (get_or ps i q) ≡ false → is_empty_part p ≡ false
    → empty_front (take i ps ++ p ∷ drop (suc i) ps) ≡ empty_front ps
front-set [] i p q k some is = absurd (omega arith)
front-set (s ∷ ss) zero p q k some is = rw (some, is) refl
front-set (s ∷ ss) (suc i) p q k some is = elim (cases_Bool (is_empty_part s)) [
  | inl e ↦ rw e (ap suc (front-set ss i p q (omega arith) some is))
  | inr e ↦ rw e refl
]

guarded-append : (e : Encoding) (b : Bool) (xs ys : List (List HeldLine)) → guarded e b (xs ++ ys) ≡ guarded e b xs ++ ys
guarded-append e true xs ys = refl
guarded-append e false xs ys = refl

-- Groups behind an LF aren't the first.
guarded-first : (e : Encoding) (b : Bool) (xs : List (List HeldLine)) → first_behind true (guarded e b xs) ≡ (not b && first_behind true xs)
guarded-first e true xs = refl
guarded-first e false [] = refl
guarded-first e false (x ∷ xs) = refl

-- The last pair with a key gets these bytes.
module _ {r : Repertoire} {read now : List ℕ} {named : List ℕ → Bool} {gs : List (List HeldLine)} {old : SourceParts} (s : StandForSource r read now named gs old)
    (key : List ℕ) (place : ℕ) (k : IsLastOwn key place s.stand.pieces) where
  abbrev f : Encoding
  f = encoding_of old.opened.encoding

  abbrev d : List ℕ
  d = drop old.opened.start read

  abbrev pub before : List (List HeldLine)
  before = front f s.in_force.editable d named key gs old.parts s.turn s.stand place k

  abbrev pub after : List (List HeldLine)
  after = rest f s.in_force.editable d named key gs old.parts s.turn s.stand place k

  pub division : gs ≡ before ++ k.group ∷ after
  division = found-division f s.in_force.editable d named key gs old.parts s.turn s.stand place k

  pub division-guarded : guarded f old.guarded gs ≡ guarded f old.guarded before ++ k.group ∷ after
  division-guarded = ap (guarded f old.guarded) division ∙ guarded-append f old.guarded before (k.group ∷ after)

  -- Whether it is the first of the body.
  flag : first_behind true (guarded f old.guarded before) ≡ (not old.guarded && nat_le place old.empty)
  flag =
      let held_parts = held f s.in_force.editable d named key gs old.parts s.turn s.stand place k in
      let at : length k.before ≡ place = (let a = k.at in omega arith) in
      guarded-first f old.guarded before
      ∙ ap (λ b. not old.guarded && b) (sym (first-place d named old.parts.parts.items k.before _ held_parts))
      ∙ ap₂ (λ n m. not old.guarded && nat_le n m) at (sym s.empty)

  pub changed-plan : (change : Bool → List HeldLine → Change) → at_last key change true (guarded f old.guarded gs)
      ≡ Some (all_stay (guarded f old.guarded before) ++ change (not old.guarded && nat_le place old.empty) k.group ∷ all_stay after)
  changed-plan change =
      ap (at_last key change true) division-guarded
      ∙ plan-last key change true (guarded f old.guarded before) k.group after k.has (rest-other f s.in_force.editable d named key gs old.parts s.turn s.stand place k)
      ∙ ap (λ b. Some (all_stay (guarded f old.guarded before) ++ change b k.group ∷ all_stay after)) flag

  never-empty : (p : Part) → parts.IsPairPart d named p k.group → is_empty_part p ≡ false
  never-empty p own = elim (cases_Bool (is_empty_part p)) [
    | inl e ↦ let none = empty-none d named p (parts.own k.group) own e in absurd (cc)
    | inr e ↦ e
  ]

  -- The part isn't empty.
  full-part : is_empty_part (get_or old.parts.parts.items place no_part) ≡ false
  full-part =
      let at : place ≡ length k.before = (let a = k.at in omega arith) in
      let part = (found f s.in_force.editable d named key gs old.parts s.turn s.stand place k).part in
      ap (λ n. is_empty_part (get_or old.parts.parts.items n no_part)) at ∙ never-empty (get_or old.parts.parts.items (length k.before) no_part) part

  pub own-within : place < length old.parts.parts.items
  own-within = of-list old.parts.parts.items place full-part
    where
      of-list : (ps : List Part) (i : ℕ) → is_empty_part (get_or ps i no_part) ≡ false → i < length ps
      of-list [] i full = absurd (cc)
      of-list (p ∷ ps) zero full = omega arith
      of-list (p ∷ ps) (suc i) full = let m = of-list ps i full in omega arith

  -- The groups stay sound.
  pub changed-sound : AreSound gs → (value x : List ℕ) → IsPairText f key value x → AreSound (before ++ group_of f x (last_ending k.group) ∷ after)
  changed-sound sound value x t =
      sound-changed f s.in_force.editable key value x t (last_ending k.group) before k.group after (subst AreSound division sound)

  pub source-changed : (edit : Edit) (result body : List ℕ) (change : Bool → List HeldLine → Change) (bytes : Vec ℕ) (value : String Global) (new : Parts)
      → HasBytes place key bytes value old.parts new → IsPairText f key (characters value) bytes.items
      → change (not old.guarded && nat_le place old.empty) k.group ≡ become bytes.items → IsEdited r now edit result → result ≡ bom_of now ++ body
      → ((cs : List Change) → at_last key change true (guarded f old.guarded gs) ≡ Some cs → AreSlotsIn r.encoding result (groups_after f cs (guarded f old.guarded gs)))
      → StandForSource r read result named (before ++ group_of f bytes.items (last_ending k.group) ∷ after) (record old { parts = new })
  source-changed edit result body change bytes value new h t makes edited whole slots =
      let next = before ++ group_of f bytes.items (last_ending k.group) ∷ after in
      let items = old.parts.parts.items in
      let plan = changed-plan change ∙ ap (λ c. Some (all_stay (guarded f old.guarded before) ++ c ∷ all_stay after)) makes in
      let are_slots = slots _ plan in
      let slots_are : groups_after f (all_stay (guarded f old.guarded before) ++ become bytes.items ∷ all_stay after) (guarded f old.guarded gs) ≡ guarded f old.guarded next =
      ap (groups_after f (all_stay (guarded f old.guarded before) ++ become bytes.items ∷ all_stay after)) division-guarded
      ∙ become-after f bytes.items (guarded f old.guarded before) k.group after
      ∙ sym (guarded-append f old.guarded before (group_of f bytes.items (last_ending k.group) ∷ after)) in
      let next_place : place + 1 ≡ suc place = omega arith in
      let set = h.parts ∙ ap (λ n. take place items ++ part_with_bytes bytes (get_or items place no_part) ∷ drop n items) next_place in
      source-edited edit result body next new s edited whole (subst (AreSlotsIn r.encoding result) slots_are are_slots)
      (some-between before (group_of f bytes.items (last_ending k.group)) after)
      (stands-replaced f s.in_force.editable d named key gs old.parts s.turn s.stand place k bytes value new h t)
      (ap empty_front set ∙ front-set items place (part_with_bytes bytes (get_or items place no_part)) no_part own-within full-part refl ∙ sym s.empty)
      (bounds-set d old.bounds place bytes items new.parts.items full-part set s.bounds)

-- ---- a printed pair

-- The printed pair reads as the pair.
pub pair-text : (r : Repertoire) (first : Bool) (key value : List ℕ) → is_editable r.encoding ≡ true → All scalar key → All scalar value
    → IsPairText r.encoding key value (pair_bytes r first key value)
pair-text r first key value ok k v = record {
  text = pair-fit r first key value ok k v;
  said =
      let x = pair_bytes r first key value in
      rw (cut_of-lines r.encoding x ok, lines_of-plain x (pair-plain r first key value ok k v), pair-decoded r first key value ok k v)
      (ap outcome_pair (pair-outcome r first key value k v));
}

-- ---- a key is set

-- The slots of a source are slots in it.
pub slots-own : {r : Repertoire} {read now : List ℕ} {named : List ℕ → Bool} {gs : List (List HeldLine)} {old : SourceParts} → StandForSource r read now named gs old
    → AreSlotsIn r.encoding now (guarded (encoding_of old.opened.encoding) old.guarded gs)
slots-own {gs = gs} {old = old} s =
    subst (λ w. let v : InForce = w in AreSlotsOf v.encoding v.body (guarded (encoding_of old.opened.encoding) old.guarded gs)) (sym s.in_force.in_force) (source-slots s)

pub encoding-own : {r : Repertoire} {now : List ℕ} {opened : BodyStart} → IsBodyStartOf now r opened → (byte_order_mark r.encoding now).encoding ≡ encoding_of opened.encoding
encoding-own h = ap (λ w. let v : InForce = w in v.encoding) h.in_force

-- What `find` returns is a place.
pub place-within : {r : Repertoire} {read now : List ℕ} {named : List ℕ → Bool} {gs : List (List HeldLine)} {old : SourceParts} (s : StandForSource r read now named gs old)
    (key : List ℕ) (place : ℕ) → Some place ≡ key_place old.parts.keys key → place < length old.parts.parts.items
place-within {read = read} {named = named} {gs = gs} {old = old} s key place at =
    own-within s key place (found-own (drop old.opened.start read) named gs old.parts key place s.stand (sym at))

-- The last pair with the key got the bytes of the printed pair.
pub source-put : {r : Repertoire} {read now : List ℕ} {named : List ℕ → Bool} {gs : List (List HeldLine)} {old : SourceParts} (s : StandForSource r read now named gs old)
    (sound : AreSound gs) (key value : List ℕ) (place : ℕ) (bytes : Vec ℕ) (text : String Global) (new : Parts) → All scalar key → All scalar value → characters text ≡ value
    → Some place ≡ key_place old.parts.keys key → bytes.items ≡ pair_bytes (printed_repertoire old.opened) (not old.guarded && nat_le place old.empty) key value
    → HasBytes place key bytes text old.parts new → AreEditedParts r (put key value) read now named (record old { parts = new })
source-put {r} {read} {now} {named} {gs} {old} s sound key value place bytes text new k v said at printed h =
    let f = encoding_of old.opened.encoding in
    let t = in_encoding r f in
    let first = not old.guarded && nat_le place old.empty in
    let own = found-own (drop old.opened.start read) named gs old.parts key place s.stand (sym at) in
    let bytes_are : bytes.items ≡ pair_bytes t first key value = printed ∙ ap (λ u. pair_bytes u first key value) (printed-own s.in_force) in
    let result = with_key_set r now key value in
    let all = guarded f old.guarded gs in
    let F = (byte_order_mark r.encoding now).encoding in
    let edited = (key_set-is_planned r now key value result (editable s.in_force)).1 refl in
    let is_text : IsPairText f key (characters text) bytes.items =
    subst (λ x. IsPairText f key x bytes.items) (sym said) (subst (IsPairText f key value) (sym bytes_are) (pair-text t first key value s.in_force.editable k v)) in
    let slots = slots-key_set r now key value all (editable s.in_force) k v (slots-own s) in
    let slots_f = subst (λ e. AreSlotsIn r.encoding result
    (groups_put (in_encoding r e) now key value all (at_last key (put_change (in_encoding r e) key value) true all)))
    (encoding-own s.in_force) slots in
    record {
      result = result;
      edited = edited;
      parts = record {
        groups = _;
        stand = source-changed s key place own (put key value) result (put_in (in_encoding r F) now key value (held_groups_of F (byte_order_mark r.encoding now).body))
            (put_change t key value) bytes text new h is_text (ap become (sym bytes_are)) edited refl
            (λ cs plan. subst (λ o. AreSlotsIn r.encoding result (groups_put t now key value all o)) plan slots_f);
        sound = changed-sound s key place own sound (characters text) bytes.items is_text;
      };
    }
