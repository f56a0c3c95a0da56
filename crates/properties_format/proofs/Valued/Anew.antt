-- What calls wrote, with a value set, is what they write with that value.
use Rattle.std.proofs.Common.{◌≡◌, ◌≢◌, ℕ, ◌+◌, ◌==◌, ◌&&◌, true, false, List, [], ◌∷◌, ◌++◌, Some, None, refl, ap, ap₂, sym, ◌∙◌, append_assoc, append-nil, subst, arith}
use Rattle.std.proofs.lemmas.Bool.{cond_both, false_from_ne_true, not-true}
use Rattle.properties_format.specs.Text.{LineEnding, line_ending_text, is_blanks, is_empty}
use Rattle.properties_format.specs.Encoding.{Encoding, InForce, begins_like_bom, in_encoding}
use Rattle.properties_format.specs.Settings.{repertoire_of, Settings}
use Rattle.properties_format.specs.Lines.{Line, joined}
use Rattle.properties_format.specs.Items.{Content, comment, pair, given}
use Rattle.properties_format.specs.Computed.Items.{outcome_of}
use Rattle.properties_format.specs.Printing.{printed_key, printed_value, printed_text, encoded_text}
use Rattle.properties_format.specs.Writing.{Call, comment_call, pair_call, is_accepted, settings_after_call, settings_after, lines_with, line_count_after, line_bytes, wrote, item_read_back, items_read_back, ArePrefixesClean, AreOfScalars, AreGoodSettings}
use Rattle.properties_format.specs.Body.{HeldLine, as_lines, group_bytes, groups_bytes, NoneHasKey}
use Rattle.properties_format.specs.Edited.{bom_of, is_editable}
use Rattle.properties_format.specs.Maps.{HasNoPair}
use Rattle.properties_format.specs.EditLaws.{SettingAValueIsWritingAnew}
use Rattle.properties_format.specs.Laws.{AreReadBack}
use Rattle.properties_format.specs.Computed.Body.{held_groups_of, is_pair_with}
use Rattle.properties_format.specs.Plan.{value_change, value_in}
use Rattle.properties_format.proofs.Encodings.ByteOrderMarks.{byte_order_mark-none}
use Rattle.properties_format.proofs.Printing.Characters.{encoded_text-append, encoded_text-ascii, line_ending-ascii}
use Rattle.properties_format.proofs.ReadBack.Lines.{IsLineReadAs, comment-line, pair-line, joined-alone, settings_after_call-good, wrote-text}
use Rattle.properties_format.proofs.ReadBack.Bytes.{AreWritable, line-writable}
use Rattle.properties_format.proofs.ReadBack.Unmarked.{wrote_text-unmarked}
use Rattle.properties_format.proofs.Writing.{wrote-append}
use Rattle.properties_format.proofs.Body.Decoded.{plain-bytes}
use Rattle.properties_format.proofs.Body.Groups.{groups_bytes-append}
use Rattle.properties_format.proofs.Edited.Made.{has_key-false}
use Rattle.properties_format.proofs.Edited.Pair.{alone-whole}
use Rattle.properties_format.proofs.Changed.Maps.{other-test}
use Rattle.properties_format.proofs.Valued.Revalued.{text-own}
use Rattle.properties_format.proofs.Valued.Separators.{IsFitSeparator, added_bytes, text-some}
use Rattle.properties_format.proofs.GroupsInTurn.Lines.{texts-with}
use Rattle.properties_format.proofs.GroupsInTurn.Merged.{merged, are_one_ending, one-ending}
use Rattle.properties_format.proofs.Plan.Made.{value_set-is_planned}
use Rattle.properties_format.proofs.Plan.Slots.{AreSlotsOf, group_of, group-bytes, group-unended, text-ended, no_line, last-empty, turn-cons, said-group, slots-merged, becomes-bytes, no_line-other}
use Rattle.properties_format.proofs.Plan.Last.{at_last-some, first_behind}
use Rattle.properties_format.proofs.Plan.Added.{AreAllEnded, turn-join, plain-fit, plain-held}
use Rattle.properties_format.proofs.Plan.NewValues.{added-again, added-fit, added-said, added-some}

-- None of these groups is a single LF.
abbrev AreFull : List (List HeldLine) → Type 0
AreFull [] = Unit {0}
AreFull (g ∷ gs) = ((f : List HeldLine) → are_one_ending f g ≡ false) × AreFull gs

full-join : (gs hs : List (List HeldLine)) → AreFull gs → AreFull hs → AreFull (gs ++ hs)
full-join [] hs f k = k
full-join (g ∷ gs) hs f k = (f.0, full-join gs hs f.1 k)

-- So they are the groups of their bytes.
full-merged : (gs : List (List HeldLine)) → AreFull gs → merged gs ≡ gs
full-merged [] f = refl
full-merged (g ∷ []) f = refl
full-merged (g ∷ h ∷ gs) f = rw (f.1.0 g) (ap (λ v. g ∷ v) (full-merged (h ∷ gs) f.1))

-- A group that has bytes before its line ending is none.
full-text : (e : Encoding) (x : List ℕ) (by : LineEnding) → is_editable e ≡ true → x ≢ [] → (f : List HeldLine)
    → are_one_ending f (group_of e x (Some by)) ≡ false
full-text e x by ok some f =
    let g = group_of e x (Some by) in
    false_from_ne_true (are_one_ending f g) (λ k. some (sym (group-unended e ok x (Some by)) ∙ (one-ending f g k).empty))

-- Neither is an empty last line.
full-last : (e : Encoding) (f : List HeldLine) → are_one_ending f (no_line e ∷ []) ≡ false
full-last e f =
    false_from_ne_true (are_one_ending f (no_line e ∷ [])) (λ k. let q = (one-ending f (no_line e ∷ []) k).by_lf in absurd (cc))

-- These bytes are groups that others may follow, and none of them has a key of this kind.
record AreWritten (e : Encoding) (bytes : List ℕ) (IsOther : List ℕ → Type 0) : Type 0 where
  groups : List (List HeldLine)
  are : groups_bytes groups ≡ bytes
  ended : AreAllEnded e groups
  full : AreFull groups
  none : (key : List ℕ) (gs : List (List HeldLine)) → IsOther key → NoneHasKey key gs → NoneHasKey key (groups ++ gs)

-- The first part of a text that can be written.
writable-left : (e : Encoding) (x y : List ℕ) → AreWritable e (x ++ y) → AreWritable e x
writable-left e [] y w = record { scalars = tt; encodable = tt }
writable-left e (c ∷ x) y w =
    let r = writable-left e x y (record { scalars = w.scalars.1; encodable = w.encodable.1 }) in
    record { scalars = (w.scalars.0, r.scalars); encodable = (w.encodable.0, r.encodable) }

-- The bytes of a line with its line ending.
line-bytes : (e : Encoding) (x text : List ℕ) (by : LineEnding) → is_editable e ≡ true → x ≡ text ++ line_ending_text by
    → group_bytes (group_of e (encoded_text e text) (Some by)) ≡ encoded_text e x
line-bytes e x text by ok h =
    group-bytes e ok (encoded_text e text) (Some by)
    ∙ ap (λ v. encoded_text e text ++ v) (sym (encoded_text-ascii e (line_ending_text by) (line_ending-ascii by)))
    ∙ sym (ap (encoded_text e) h ∙ encoded_text-append e text (line_ending_text by))

-- A line before such bytes.
line-then : (e : Encoding) (by : LineEnding) (x rest : List ℕ) (content : Content) (IsOther IsLater : List ℕ → Type 0) → is_editable e ≡ true
    → IsLineReadAs by x content → AreWritable e x → ((key : List ℕ) → IsOther key → (is_pair_with key (given content) ≡ false) × IsLater key)
    → AreWritten e rest IsLater → AreWritten e (encoded_text e x ++ rest) IsOther
line-then e by x rest content IsOther IsLater ok l w other r =
    let bytes = encoded_text e l.text in
    let t = writable-left e l.text (line_ending_text by) (subst (AreWritable e) l.whole w) in
    let own = text-own e l.text ok t in
    let line : Line = record { number = 0; text = l.text } in
    let plain = plain-bytes e bytes ok (rw own l.read.plain) in
    let held = plain-held e bytes ok plain in
    let told : outcome_of (joined (as_lines (group_of e bytes (Some by)))) ≡ given content =
    rw (texts-with, held, own) (ap outcome_of (joined-alone line l.read.alone) ∙ l.read.outcome) in
    record {
      groups = group_of e bytes (Some by) ∷ r.groups;
      are = ap₂ (λ v w. v ++ w) (line-bytes e x l.text by ok l.whole) r.are;
      ended = (text-ended e bytes by ok (plain-fit e bytes ok plain (rw own (alone-whole line l.read.alone))), r.ended);
      full = (full-text e bytes by ok (text-some e l.text ok t l.read.some), r.full);
      none = λ key gs m k.
          let o = other key m in (has_key-false key (group_of e bytes (Some by)) (ap (is_pair_with key) told ∙ o.0), r.none key gs o.1 k);
    }

-- Of calls that are read back, the first are, and so are the others, under the settings after them.
parts : (e : Encoding) (s : Settings) (xs ys : List Call) → AreReadBack e s (xs ++ ys) → AreReadBack e s xs × AreReadBack e (settings_after s xs) ys
parts e s [] ys r = (record { encoding = r.encoding; settings = r.settings; prefixes = tt; scalars = tt }, r)
parts e s (comment_call text ∷ xs) ys r =
    let m = parts e s xs ys (record { encoding = r.encoding; settings = r.settings; prefixes = r.prefixes.1; scalars = r.scalars.1 }) in
    (record { encoding = r.encoding; settings = r.settings; prefixes = (r.prefixes.0, m.0.prefixes); scalars = (r.scalars.0, m.0.scalars) }, m.1)
parts e s (x ∷ xs) ys r =
    let good = settings_after_call-good s x r.settings r.scalars.0 in
    let m = parts e (settings_after_call s x) xs ys (record { encoding = r.encoding; settings = good; prefixes = r.prefixes; scalars = r.scalars.1 }) in
    (record { encoding = r.encoding; settings = r.settings; prefixes = m.0.prefixes; scalars = (r.scalars.0, m.0.scalars) }, m.1)

-- An accepted pair without a key has a separator with a sign.
signed : (s : Settings) (key : List ℕ) → (is_accepted s (pair_call key [])) ≡ true → key ≡ [] → is_blanks s.kv_separator ≡ false
signed s key k q = subst (λ v. (is_empty v && is_blanks s.kv_separator) ≡ false) q (not-true (is_empty key && is_blanks s.kv_separator) k)

-- What calls write.
are-written : (e : Encoding) (s : Settings) (n : ℕ) (calls : List Call) → is_editable e ≡ true → AreGoodSettings s → ArePrefixesClean s calls
    → AreOfScalars calls → AreWritten e (wrote e s n calls) (λ key. HasNoPair key (items_read_back s n calls))
are-written e s n [] ok g c h = record { groups = []; are = refl; ended = tt; full = tt; none = λ key gs m k. k }
are-written e s n (comment_call text ∷ calls) ok g c h =
    line-then e s.line_ending _ _ _ _ (λ key. HasNoPair key (items_read_back s (n + 1) calls)) ok
    (comment-line e s (n == 0) text g c.0 h.0) (line-writable e s n (comment text) g h.0) (λ key m. (refl, m)) (are-written e s (n + 1) calls ok g c.1 h.1)
are-written e s n (pair_call key value ∷ calls) ok g c h =
    cond_both (is_accepted s (pair_call key value)) (Some (pair key value)) None
    (λ o. AreWritten e (line_bytes e s n o ++ wrote e s (lines_with n o) calls)
    (λ other. HasNoPair other (item_read_back s n o ++ items_read_back s (lines_with n o) calls)))
    (λ k. line-then e s.line_ending _ _ (pair key value) _ (λ other. HasNoPair other (items_read_back s (n + 1) calls)) ok
    (pair-line e s (n == 0) key value g (signed s key k) h.0.0 h.0.1) (line-writable e s n (pair key value) g h.0) (λ other m. (other-test key other m.0, m.1))
    (are-written e s (n + 1) calls ok g c h.1)) (λ k. are-written e s n calls ok g c h.1)
are-written e s n (call ∷ calls) ok g c h = are-written e (settings_after_call s call) n calls ok (settings_after_call-good s call g h.0) c h.1

-- Bytes that don't begin like a byte order mark have none.
no-bom : (b : List ℕ) → begins_like_bom b ≡ false → bom_of b ≡ []
no-bom b h = grind (arith)

-- What calls wrote, with a value set, is what they write with that value.
pub setting-value_anew : (e : Encoding) (s : Settings) (before : List Call) (key old : List ℕ) (after : List Call) (value : List ℕ)
    → SettingAValueIsWritingAnew e s before key old after value
setting-value_anew e s before key old after value r accepted on none result h =
    let at = settings_after s before in
    let n = line_count_after s 0 before in
    let file : List ℕ → List ℕ = λ v. wrote e s 0 (before ++ pair_call key v ∷ after) in
    let unmarked = ap begins_like_bom (wrote-text e s 0 (before ++ pair_call key old ∷ after)) ∙ wrote_text-unmarked e s _ r.settings r.scalars in
    let whole = byte_order_mark-none e (file old) unmarked in
    let ok = ap (λ w. is_editable w.encoding) (sym whole) ∙ h.0 in
    let (f, b) = parts e s before (pair_call key old ∷ after) r in
    let front = are-written e s 0 before ok f.settings f.prefixes f.scalars in
    let back = are-written e at (n + 1) after ok b.settings b.prefixes b.scalars.1 in
    let t = repertoire_of e at in
    let fit : IsFitSeparator key at.kv_separator = record { good = b.settings.separator; signed = signed at key accepted } in
    let text : List ℕ → List ℕ = λ v. added_bytes t (n == 0) key at.kv_separator v in
    let line : List ℕ → List HeldLine = λ v. group_of e (text v) (Some at.line_ending) in
    let last = no_line e ∷ [] in
    let later = back.groups ++ last ∷ [] in
    let all = front.groups ++ line old ∷ later in
    let bytes : (v : List ℕ) → groups_bytes (front.groups ++ line v ∷ later) ≡ file v = λ v.
    let printed = line-bytes e (printed_text e at (n == 0) (pair key v))
    (printed_key t (n == 0) key ++ (at.kv_separator ++ printed_value t (is_blanks at.kv_separator) v)) at.line_ending ok
    (rw on (simp (append_assoc))) in
    groups_bytes-append front.groups (line v ∷ later)
    ∙ ap₂ (λ x y. x ++ y) front.are (ap₂ (λ x y. x ++ y) printed (groups_bytes-append back.groups (last ∷ []) ∙ append-nil _ ∙ back.are) ∙ rw accepted refl)
    ∙ sym (wrote-append e s 0 before (pair_call key v ∷ after)) in
    let ended = text-ended e (text old) at.line_ending ok (added-fit t (n == 0) key at.kv_separator old ok b.scalars.0.0 b.scalars.0.1 fit) in
    let slots : AreSlotsOf e (file old) all = record {
      turn = turn-join e front.groups (line old ∷ later) front.ended
          (turn-cons e (line old) later ended (turn-join e back.groups (last ∷ []) back.ended (last-empty e)));
      bytes = bytes old;
    } in
    let some = added-some t (n == 0) key at.kv_separator old ok b.scalars.0.0 b.scalars.0.1 fit in
    let behind = full-join back.groups (last ∷ []) back.full (full-last e, tt) in
    let single : AreFull all = full-join front.groups (line old ∷ later) front.full (full-text e (text old) at.line_ending ok some, behind) in
    let held = sym (slots-merged e (file old) all ok slots) ∙ full-merged all single in
    let has = said-group e key old (text old) (Some at.line_ending) (added-said t (n == 0) key at.kv_separator old ok b.scalars.0.0 b.scalars.0.1 fit) in
    let plan = at_last-some key (value_change t value) true front.groups (line old) later (old, has) (back.none key _ none (no_line-other e key, tt)) in
    let becomes = added-again t (n == 0) key at.kv_separator old ok b.scalars.0.0 b.scalars.0.1 fit value (first_behind true front.groups) at.line_ending in
    (value_set-is_planned t (file old) key value result h.0).0 h.2
    ∙ ap (λ (w : InForce). bom_of (file old) ++ value_in (in_encoding t w.encoding) key value (held_groups_of w.encoding w.body)) whole
    ∙ ap₂ (λ b g. b ++ value_in t key value g) (no-bom (file old) unmarked) held
    ∙ rw plan (becomes-bytes e (text old) (text value) (Some at.line_ending) _ front.groups later ok becomes)
    ∙ bytes value
