-- The comment of a key as a view shows the groups of a source.
use Rattle.std.proofs.Common.{◌≡◌, ℕ, ◌+◌, true, false, List, [], ◌∷◌, ◌++◌, length, refl, ap, sym, ◌∙◌, subst, inl, inr, append-nil, append_assoc, length-append, arith}
use Rattle.std.specs.Prelude.{◌⊎◌, if◌then◌else◌, Option, Some, None, Ok}
use Rattle.std.proofs.lemmas.Bool.{cases_Bool}
use Rattle.properties_format.specs.Text.{is_empty, LineEnding}
use Rattle.properties_format.specs.Encoding.{Encoding, InForce, byte_order_mark}
use Rattle.properties_format.specs.Lines.{is_comment_line, joined}
use Rattle.properties_format.specs.Escapes.{Malformed}
use Rattle.properties_format.specs.Body.{HeldLine, AreGroupsOf, HasKey, as_lines, group_bytes, held_in, last_ending, ending_bytes}
use Rattle.properties_format.specs.Edited.{is_editable, is_empty_line}
use Rattle.properties_format.specs.Edits.{AreInComments, EscapesAre, IsFirstInPair}
use Rattle.properties_format.specs.Items as content
use Rattle.properties_format.specs.Computed.Cut.{decoded_line}
use Rattle.properties_format.specs.Computed.Body.{unended_bytes}
use Rattle.properties_format.specs.Computed.Edited.{IsSoundOutcome}
use Rattle.properties_format.specs.Computed.Items.{outcome_of}
use Rattle.properties_format.proofs.Body.Decoded.{decoded-nil}
use Rattle.properties_format.proofs.Body.Groups.{held_groups_of-only}
use Rattle.properties_format.proofs.Edited.Fronts.{outcome-empty}
use Rattle.properties_format.proofs.Items.Unique.{outcome_of-only}
use Rattle.properties_format.proofs.GroupsInTurn.Lines.{AreLinesBy, bytes-unended, unended-some}
use Rattle.properties_format.proofs.GroupsInTurn.Merged.{in-turn, turn-at}
use Rattle.properties_format.proofs.Valued.Lined.{held_in-append}
use Rattle.properties_items.specs.Errors.{IsBareError, IsMalformed}
use Rattle.properties_items.specs.declared.error.ErrorKind.TheVariants as reason
use Rattle.properties_items.specs.declared.error.PropertiesError.{PropertiesError}
use Rattle.properties_editing.specs.Private.Sound.{AreSound, IsResult, IsSoundFor}
use Rattle.properties_editing.specs.Views.{GivesNext, IsViewOf, OpenView, TakesNext, viewed_line, with_bytes}
use Rattle.properties_editing.specs.declared.group.ViewedGroup.{ViewedGroup}
use Rattle.properties_editing.specs.declared.source.Comments.TheVariants.{PassedOver}
use Rattle.properties_editing.proofs.PassedOver.{from-after, from-fault, from-sound, result-groups, result_for-meets, result_from, sound-join}
use Rattle.std.specs.declared.alloc.AllocError.{AllocError}
use Rattle.java_properties.specs.Commented.{AreTextsOfComment, HasComment, IsCommentError, RefusesComment}
use Rattle.properties_renaming.specs.CommentLines.{is_line_of_comment}
use Rattle.properties_renaming.specs.FoundSeparators.{IsRunOf}
use Rattle.properties_renaming.specs.declared.separators.LastRun.{LastRun}
use Rattle.java_properties.specs.Private.PassedGroups.{ArePassed, IsUnsoundPassed, PassedTexts}
use Rattle.java_properties.proofs.KeyComments.{HavePassed, passed-more, passed-none, texts-more}

-- ---- a last group without bytes

-- the groups that a view doesn't give
abbrev left_out : List (List HeldLine) → List (List HeldLine)
left_out [] = []
left_out (g ∷ []) = if is_empty (group_bytes g) then g ∷ [] else []
left_out (g ∷ h ∷ gs) = left_out (h ∷ gs)

all-given : (gs : List (List HeldLine)) → gs ≡ with_bytes gs ++ left_out gs
all-given [] = refl
all-given (g ∷ []) = elim (cases_Bool (is_empty (group_bytes g))) [ inl k ↦ rw k refl | inr k ↦ rw k refl ]
all-given (g ∷ h ∷ gs) = ap (λ v. g ∷ v) (all-given (h ∷ gs))

-- There is none, or one without bytes,
left-out : (gs : List (List HeldLine)) → (left_out gs ≡ []) ⊎ (g : List HeldLine) × (left_out gs ≡ g ∷ []) × (group_bytes g ≡ [])
left-out [] = inl refl
left-out (g ∷ []) = elim (cases_Bool (is_empty (group_bytes g))) [
  | inl k ↦ rw k (inr (g, refl, none (group_bytes g) k))
  | inr k ↦ rw k (inl refl)
]
  where
    none : (x : List ℕ) → is_empty x ≡ true → x ≡ []
    none [] k = refl
    none (c ∷ cs) k = absurd (cc)
left-out (g ∷ h ∷ gs) = left-out (h ∷ gs)

-- which is blank.
blank-line : (e : Encoding) (o : Option LineEnding) (g : List HeldLine) → AreLinesBy e o g → is_empty_line g ≡ true → joined (as_lines g) ≡ []
blank-line e o [] a k = absurd a
blank-line e o (h ∷ []) a k =
    let empty : h.bytes ≡ [] = none h.bytes k in
    let text : h.text ≡ [] = a.1 ∙ ap (decoded_line e) empty ∙ decoded-nil e in
    rw text refl
  where
    none : (x : List ℕ) → is_empty x ≡ true → x ≡ []
    none [] k = refl
    none (c ∷ cs) k = absurd (cc)
blank-line e o (h ∷ i ∷ g) a k = absurd (cc)

front-empty : (x y : List ℕ) → x ++ y ≡ [] → x ≡ []
front-empty [] y h = refl
front-empty (c ∷ x) y h = absurd (cc)

last-blank : (e : Encoding) (body : List ℕ) (gs : List (List HeldLine)) (g : List HeldLine) → is_editable e ≡ true → AreGroupsOf e body (gs ++ g ∷ [])
    → group_bytes g ≡ [] → joined (as_lines g) ≡ []
last-blank e body gs g ok are none =
    let a = turn-at e gs g [] (in-turn e body (gs ++ g ∷ []) ok are) in
    let bare = front-empty (unended_bytes g) (ending_bytes (last_ending g)) (sym (bytes-unended g) ∙ none) in
    blank-line e a.0 g a.1 (unended-some e a.0 g a.1 bare)

blank-sound : (g : List HeldLine) → joined (as_lines g) ≡ [] → IsSoundFor PassedOver (joined (as_lines g))
blank-sound g b = inl (subst IsSoundOutcome (sym (ap outcome_of b ∙ outcome-empty)) tt)

blank-no_key : (key : List ℕ) (g : List HeldLine) → joined (as_lines g) ≡ [] → ¬ (HasKey key g)
blank-no_key key g b = λ h.
    let o : content.given (content.pair key h.0) ≡ content.ignored =
    outcome_of-only (joined (as_lines g)) (content.given (content.pair key h.0)) h.1 ∙ ap outcome_of b ∙ outcome-empty in absurd (cc)

-- ---- the groups that a view showed

-- These are the groups of the source that came before, and what is known after them.
pub record HaveShown (requested : Encoding) (source key : List ℕ) (v : OpenView) (texts : PassedTexts) : Type 0 where
  pub passed : List (List HeldLine)
  pub encoding : (byte_order_mark requested source).encoding ≡ v.encoding
  pub editable : is_editable v.encoding ≡ true
  pub all : List (List HeldLine)
  pub held : AreGroupsOf (byte_order_mark requested source).encoding (byte_order_mark requested source).body all
  pub given : with_bytes all ≡ passed ++ v.to_come
  pub counted : v.passed + length v.group ≡ length (held_in passed)
  pub known : HavePassed key passed texts

pub shown-none : {requested : Encoding} {source : List ℕ} {v : OpenView} (key : List ℕ) (last : LastRun) → IsRunOf [] last → IsViewOf requested source v
    → HaveShown requested source key v (record { above = []; last = last; comment = None })
shown-none {requested} {source} {v} key last none w = record {
  passed = [];
  encoding = ap (λ m. let k : InForce = m in k.encoding) w.in_force;
  editable = w.editable;
  all = w.given.all;
  held = subst (λ m. let k : InForce = m in AreGroupsOf k.encoding k.body w.given.all) (sym w.in_force) w.given.division;
  given = sym w.given.are;
  counted = rw (w.none_passed, w.none_given) refl;
  known = passed-none key last none;
}

-- One more group was shown, and passed.
pub shown-more : {requested : Encoding} {source key : List ℕ} {v w : OpenView} {old : PassedTexts} (group : ViewedGroup) (new : PassedTexts) → HaveShown requested source key v old
    → TakesNext v group w → ArePassed (is_line_of_comment group) (viewed_line w) key old new → HaveShown requested source key w new
shown-more {requested} {source} {key} {v} {w} group new h t p =
    let g = w.group in
    let counted = h.counted in
    let moved : w.passed ≡ v.passed + length v.group = ap (λ u. let k : OpenView = u in k.passed) t.moves in
    let lines : length (held_in (h.passed ++ g ∷ [])) ≡ length (held_in h.passed) + length g =
    ap length (held_in-append h.passed (g ∷ []) ∙ ap (λ u. held_in h.passed ++ u) (append-nil g)) ∙ length-append (held_in h.passed) g in
    let same : w.encoding ≡ v.encoding = ap (λ u. let k : OpenView = u in k.encoding) t.moves in
    record {
      passed = h.passed ++ g ∷ [];
      encoding = h.encoding ∙ sym same;
      editable = subst (λ e. is_editable e ≡ true) (sym same) h.editable;
      all = h.all;
      held = h.held;
      given = h.given ∙ ap (λ u. h.passed ++ u) t.takes ∙ sym (append_assoc h.passed (g ∷ []) w.to_come);
      counted = omega arith;
      known = passed-more w group new h.known t.is_group p;
    }

-- ---- all groups

-- No escape of a pair is malformed,
source-sound : (e : Encoding) (source : List ℕ) (gs : List (List HeldLine)) → is_editable (byte_order_mark e source).encoding ≡ true
    → AreGroupsOf (byte_order_mark e source).encoding (byte_order_mark e source).body gs → AreSound gs → EscapesAre e source AreInComments
source-sound e source gs ok held sound =
    let Makes : List ℕ → Type 0 = λ bytes. Unit {0} in
    let is = held_groups_of-only (byte_order_mark e source).encoding (byte_order_mark e source).body gs held in
    let r = result-groups PassedOver e source [] ok ∙ ap (λ v. result_from PassedOver 1 v []) (sym is) ∙ from-sound PassedOver gs [] sound in
    (subst (IsResult PassedOver e source Makes) r (result_for-meets PassedOver e source [] Makes tt)).1

-- or this is the first.
source-broken : (e : Encoding) (source : List ℕ) (before : List (List HeldLine)) (g : List HeldLine) (after : List (List HeldLine)) (how : Malformed)
    → is_editable (byte_order_mark e source).encoding ≡ true
    → AreGroupsOf (byte_order_mark e source).encoding (byte_order_mark e source).body (before ++ g ∷ after) → AreSound before
    → is_comment_line (joined (as_lines g)) ≡ false → outcome_of (joined (as_lines g)) ≡ content.broken how
    → EscapesAre e source (IsFirstInPair how (1 + length (held_in before)))
source-broken e source before g after how ok held sound unmarked breaks =
    let Makes : List ℕ → Type 0 = λ bytes. Unit {0} in
    let n = 1 + length (held_in before) in
    let is = held_groups_of-only (byte_order_mark e source).encoding (byte_order_mark e source).body (before ++ g ∷ after) held in
    let r =
    result-groups PassedOver e source [] ok ∙ ap (λ v. result_from PassedOver 1 v []) (sym is)
    ∙ from-after PassedOver 1 before (g ∷ after) [] sound ∙ from-fault PassedOver n g after [] how breaks unmarked in
    (subst (IsResult PassedOver e source Makes) r (result_for-meets PassedOver e source [] Makes tt)).1

in_force-editable : {requested : Encoding} {source key : List ℕ} {v : OpenView} {texts : PassedTexts} → HaveShown requested source key v texts
    → is_editable (byte_order_mark requested source).encoding ≡ true
in_force-editable h = subst (λ e. is_editable e ≡ true) (sym h.encoding) h.editable

-- The next group is malformed, or memory ran out.
pub shown-unsound : {requested : Encoding} {source key : List ℕ} {v w : OpenView} {texts : PassedTexts} (group : ViewedGroup) (error : PropertiesError)
    → HaveShown requested source key v texts → TakesNext v group w → IsUnsoundPassed group.line_number (viewed_line w) error → IsCommentError requested source error
shown-unsound {requested} {source} {key} {v} {w} group error h t (unmarked, inr memory) = inr memory
shown-unsound {requested} {source} {key} {v} {w} group error h t (unmarked, inl (how, breaks, is)) =
    let rest = w.to_come ++ left_out h.all in
    let division : h.all ≡ h.passed ++ w.group ∷ rest =
    all-given h.all ∙ ap (λ u. u ++ left_out h.all) (h.given ∙ ap (λ u. h.passed ++ u) t.takes) ∙ append_assoc h.passed (w.group ∷ w.to_come) (left_out h.all) in
    let held = subst (AreGroupsOf (byte_order_mark requested source).encoding (byte_order_mark requested source).body) division h.held in
    let counted = h.counted in
    let moved : w.passed ≡ v.passed + length v.group = ap (λ u. let k : OpenView = u in k.passed) t.moves in
    let number = t.is_group.line_number in
    let same : group.line_number ≡ 1 + length (held_in h.passed) = omega arith in
    inl (record {
      how = how;
      number = 1 + length (held_in h.passed);
      first = source-broken requested source h.passed w.group rest how (in_force-editable h) held h.known.sound unmarked breaks;
      is = subst (λ n. IsMalformed how n error) same is;
    })

pub shown-refused : {requested : Encoding} {source key : List ℕ} {v w : OpenView} {texts : PassedTexts} (group : ViewedGroup) (error : PropertiesError)
    → HaveShown requested source key v texts → TakesNext v group w → IsUnsoundPassed group.line_number (viewed_line w) error ⊎ IsBareError reason.Memory error
    → RefusesComment requested source error
shown-refused group error h t (inl u) = inr (in_force-editable h, shown-unsound group error h t u)
shown-refused group error h t (inr memory) = inr (in_force-editable h, inr memory)

-- No group is to come.
pub none-left : (v w : OpenView) (next : Option ViewedGroup) → GivesNext {E = AllocError} v (Ok next) w → ((group : ViewedGroup) → next ≡ Some group → ⊥)
    → v.to_come ≡ []
none-left v w None g other = g.0
none-left v w (Some group) g other = absurd (other group refl)

-- All groups were shown.
pub shown-all : {requested : Encoding} {source key : List ℕ} {v : OpenView} {texts : PassedTexts} → HaveShown requested source key v texts → v.to_come ≡ []
    → HasComment requested source key texts.comment
shown-all {requested} {source} {key} {v} {texts} h none =
    let e = (byte_order_mark requested source).encoding in
    let body = (byte_order_mark requested source).body in
    let ok = in_force-editable h in
    let given : with_bytes h.all ≡ h.passed = h.given ∙ ap (λ u. h.passed ++ u) none ∙ append-nil h.passed in
    let whole : h.all ≡ h.passed ++ left_out h.all = all-given h.all ∙ ap (λ u. u ++ left_out h.all) given in
    let both : AreTextsOfComment h.all key texts.comment × AreSound h.all =
    elim (left-out h.all) [
      | inl k ↦
          let same : h.passed ≡ h.all = sym (whole ∙ ap (λ u. h.passed ++ u) k ∙ append-nil h.passed) in
          (subst (λ u. AreTextsOfComment u key texts.comment) same h.known.are_texts, subst AreSound same h.known.sound)
      | inr (g, k, empty) ↦
          let same : h.all ≡ h.passed ++ g ∷ [] = whole ∙ ap (λ u. h.passed ++ u) k in
          let blank = last-blank e body h.passed g ok (subst (AreGroupsOf e body) same h.held) empty in (
            subst (λ u. AreTextsOfComment u key texts.comment) (sym same) (texts-more key h.passed g texts.comment (blank-no_key key g blank) h.known.are_texts),
            subst AreSound (sym same) (sound-join PassedOver h.passed (g ∷ []) h.known.sound (blank-sound g blank, tt)),
          )
    ] in
    record {
      editable = ok;
      escapes = source-sound requested source h.all ok h.held both.1;
      groups = h.all;
      held = h.held;
      are_texts = both.0;
    }
