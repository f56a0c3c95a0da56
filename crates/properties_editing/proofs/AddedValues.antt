-- A value of a new key that is set in the parts of a source: a pair like the last one is added.
use Rattle.std.proofs.Common.{◌≡◌, ℕ, ◌&&◌, Bool, true, false, List, [], ◌∷◌, ◌++◌, All, Option, Some, None, drop, length, refl, ap, ap₂, sym, ◌∙◌, subst, inr}
use Rattle.std.specs.Prelude.{nat_le, not, Result, Ok, Err}
use Rattle.std.specs.Global.{Vec}
use Rattle.properties_format.specs.Text.{is_empty, lf, line_ending_text, line_feed, scalar}
use Rattle.properties_format.specs.Encoding.{Encoding, Repertoire, byte_order_mark, in_encoding}
use Rattle.properties_format.specs.Items.{given}
use Rattle.properties_format.specs.Items as content
use Rattle.properties_format.specs.Lines.{joined}
use Rattle.properties_format.specs.Body.{HeldLine, as_lines, groups_bytes, held_in}
use Rattle.properties_format.specs.Edited.{final_group, is_editable, separation_by}
use Rattle.properties_format.specs.Edits.{set_value}
use Rattle.properties_format.specs.Plan.{at_last, value_change, value_in, with_value_set}
use Rattle.properties_format.specs.Valued.{ending_among}
use Rattle.properties_format.specs.Computed.Body.{held_groups_of}
use Rattle.properties_format.specs.Computed.Valued.{last_between, or_else, separator_by}
use Rattle.properties_format.proofs.Body.Decoded.{cut_of-lines}
use Rattle.properties_format.proofs.Body.Groups.{held-body, held_groups_of-meets}
use Rattle.properties_format.proofs.GroupsInTurn.Merged.{AreInTurn, in-turn, merged, merged-final}
use Rattle.properties_format.proofs.Items.Unique.{outcome_of-only}
use Rattle.properties_format.proofs.Lines.Only.{lines_of-plain}
use Rattle.properties_format.proofs.Plan.Slots.{AreSlotsOf, slots-merged, turn-cons}
use Rattle.properties_format.proofs.Plan.Added.{blank, groups_added, plain-fit}
use Rattle.properties_format.proofs.Plan.NewValues.{groups_valued}
use Rattle.properties_format.proofs.Plan.Listed.{AreSlotsIn, guarded, slots-value_set}
use Rattle.properties_format.proofs.Plan.Made.{value_set-is_planned}
use Rattle.properties_format.proofs.Valued.Made.{new_separator-meets}
use Rattle.properties_format.proofs.Valued.Separators.{IsFitSeparator, added-pair, added_bytes, added_line, new_separator-fit}
use Rattle.properties_text.specs.Encoding.{encoding_of}
use Rattle.properties_items.specs.BorrowedItems.{outcome_pair}
use Rattle.properties_items.specs.Line.{ending_of}
use Rattle.properties_items.specs.declared.line.LineEnding as declared
use Rattle.properties_editing.specs.Private.BodyParts.{parts_bytes}
use Rattle.properties_editing.specs.Private.BodyValues.{IsLastEnding, unended_pair}
use Rattle.properties_editing.specs.Private.ChangedParts.{AddsPair, HasAdded, key_place}
use Rattle.properties_editing.specs.Private.EditedParts.{AreEditedParts, EditsParts, StandForSource, between_last}
use Rattle.properties_editing.specs.Private.PartEndings.{last_some, part_pair}
use Rattle.properties_editing.specs.Private.Sound.{AreSound}
use Rattle.properties_editing.specs.Private.SourceParts.{lf_if}
use Rattle.properties_editing.specs.Private.Sources.{printed_repertoire}
use Rattle.properties_editing.specs.declared.parts.Part.{Part}
use Rattle.properties_editing.specs.declared.parts.Parts.{Parts}
use Rattle.properties_editing.specs.declared.parts.source_parts.SourceParts.{SourceParts}
use Rattle.properties_editing.proofs.AddedParts.{first-added, plan-none, source-added, source-kept}
use Rattle.properties_editing.proofs.Editing.{editable, printed-own}
use Rattle.properties_editing.proofs.EditedParts.{slots-own}
use Rattle.properties_editing.proofs.LastParts.{alike-between, last-alike, lf-between, merged-between, last-among, stand-last}
use Rattle.properties_editing.proofs.PartsChanged.{IsPairText}
use Rattle.properties_editing.proofs.SoundParts.{empty-sound, sound-added, sound-guarded}
use Rattle.properties_editing.proofs.SourceParts.{blank-ended, source-slots, stand-bytes}

-- ---- the last line ending

-- A single LF in front changes nothing of it.
lf-among : (e : Encoding) (y : List ℕ) → is_editable e ≡ true
    → ending_among lf (held_in (held_groups_of e y)) ≡ ending_among lf (held_in (held_groups_of e (line_feed ∷ y)))
lf-among e y ok =
    let H = held_groups_of e y in
    let meets = held_groups_of-meets e y in
    let turn = in-turn e y H ok meets in
    let own : AreSlotsOf e y H = record { turn = turn; bytes = held-body e y H ok meets } in
    let slots : AreSlotsOf e (line_feed ∷ y) ((blank e lf ∷ []) ∷ H) =
    record { turn = turn-cons e (blank e lf ∷ []) H (blank-ended e) turn; bytes = ap (λ v. line_feed ∷ v) own.bytes } in
    ap (λ v. ending_among lf (held_in ((blank e lf ∷ []) ∷ v))) (sym (slots-merged e y H ok own))
    ∙ ap (λ v. ending_among lf (held_in v)) (sym (of-groups H turn) ∙ slots-merged e (line_feed ∷ y) ((blank e lf ∷ []) ∷ H) ok slots)
  where
    of-groups : (gs : List (List HeldLine)) → AreInTurn e gs → merged ((blank e lf ∷ []) ∷ gs) ≡ (blank e lf ∷ []) ∷ merged gs
    of-groups [] a = absurd a
    of-groups (g ∷ gs) a = refl

-- ---- the new pair

added-text : (r : Repertoire) (first : Bool) (key sep value : List ℕ) → is_editable r.encoding ≡ true → All scalar key → All scalar value → IsFitSeparator key sep
    → IsPairText r.encoding key value (added_bytes r first key sep value)
added-text r first key sep value ok k v fit =
    let p = added-pair r first key sep value lf ok k v fit in
    let x = added_bytes r first key sep value in
    record {
      text = plain-fit r.encoding x ok p.plain p.whole;
      said = rw (cut_of-lines r.encoding x ok, lines_of-plain x p.plain)
          (ap outcome_pair (sym (outcome_of-only (joined (as_lines (added_line r first key sep value lf ∷ []))) (given (content.pair key value)) p.has_pair)));
    }

module _ {r : Repertoire} {read now : List ℕ} {named : List ℕ → Bool} {gs : List (List HeldLine)} {old : SourceParts} (s : StandForSource r read now named gs old)
    (sound : AreSound gs) where
  abbrev f : Encoding
  f = encoding_of old.opened.encoding

  abbrev d : List ℕ
  d = drop old.opened.start read

  abbrev items : List Part
  items = old.parts.parts.items

  abbrev body : List ℕ
  body = drop old.opened.start now

  abbrev G : List (List HeldLine)
  G = guarded f old.guarded gs

  slots-merged-own : merged G ≡ held_groups_of f body
  slots-merged-own = slots-merged f body G s.in_force.editable (source-slots s)

  pub source-between : between_last f (last_some (part_pair d) items) ≡ last_between (held_groups_of f body)
  source-between =
      ap (between_last f) (stand-last f d named gs old.parts s.turn s.stand)
      ∙ alike-between f _ _ (last-alike f s.in_force.editable gs sound (inr s.turn))
      ∙ of-guard old.guarded (source-slots s).turn
      ∙ ap last_between slots-merged-own
    where
      or-none : (q : Option (List ℕ)) → q ≡ or_else q None
      or-none None = refl
      or-none (Some x) = refl

      of-guard : (b : Bool) → AreInTurn f (guarded f b gs) → last_between gs ≡ last_between (merged (guarded f b gs))
      of-guard false a = sym (merged-between f gs a sound)
      of-guard true a =
          or-none (last_between gs)
          ∙ ap (or_else (last_between gs)) (sym (lf-between f (blank f lf ∷ []) gs a (empty-sound f) refl))
          ∙ sym (merged-between f ((blank f lf ∷ []) ∷ gs) a (sound-guarded f gs sound))

  pub source-ending : (by : declared.LineEnding) → IsLastEnding (parts_bytes d items) by → ending_of by ≡ ending_among lf (held_in (held_groups_of f body))
  source-ending by h =
      let is = stand-bytes d named gs old.parts s.stand in
      last-among f (parts_bytes d items) by s.in_force.editable h
      ∙ ap (λ v. ending_among lf (held_in (held_groups_of f v))) is
      ∙ of-guard old.guarded
      ∙ ap (λ v. ending_among lf (held_in (held_groups_of f v))) (sym s.body)
    where
      of-guard : (b : Bool) → ending_among lf (held_in (held_groups_of f (groups_bytes gs))) ≡ ending_among lf (held_in (held_groups_of f (lf_if b ++ groups_bytes gs)))
      of-guard true = lf-among f (groups_bytes gs) s.in_force.editable
      of-guard false = refl

  pub source-value-added : (key value sep : List ℕ) (by : declared.LineEnding) (bytes : Vec ℕ) (new : Parts) → All scalar key → All scalar value
      → named key ≡ true → key_place old.parts.keys key ≡ None → IsLastEnding (parts_bytes d items) by
      → sep ≡ separator_by key (between_last f (last_some (part_pair d) items))
      → bytes.items ≡ unended_pair (printed_repertoire old.opened) (not old.guarded && nat_le (length items) old.empty) key sep value
      → HasAdded d key value by bytes by old.parts new → AreEditedParts r (set_value key value) read now named (record old { parts = new })
  source-value-added key value sep by bytes new k v is none last sep_is printed h =
      let t = in_encoding r f in
      let first = not old.guarded && nat_le (length items) old.empty in
      let all = held_groups_of f body in
      let F = byte_order_mark r.encoding now in
      let result = with_value_set r now key value in
      let by_now = ending_among lf (held_in all) in
      let sep_now = separator_by key (last_between all) in
      let by_is : by_now ≡ ending_of by = sym (source-ending by last) in
      let sep_same : sep ≡ sep_now = sep_is ∙ ap (separator_by key) source-between in
      let bytes_are : bytes.items ≡ added_bytes t first key sep_now value =
      printed ∙ ap₂ (λ u y. unended_pair u first key y value) (printed-own s.in_force) sep_same in
      let fit = new_separator-fit all key sep_now (new_separator-meets all key) in
      let text = subst (IsPairText f key value) (sym bytes_are) (added-text t first key sep_now value s.in_force.editable k v fit) in
      let edited = (value_set-is_planned r now key value result (editable s.in_force)).1 refl in
      let slots = slots-value_set r now key value G (editable s.in_force) k v (slots-own s) in
      let slots_f = subst (λ w. AreSlotsIn r.encoding result
      (groups_valued (in_encoding r w.encoding) (held_groups_of w.encoding w.body) key value G
      (at_last key (value_change (in_encoding r w.encoding) value) true G)))
      s.in_force.in_force slots in
      let added = subst (λ o. AreSlotsIn r.encoding result (groups_valued t all key value G o)) (plan-none s key (value_change t value) is none) slots_f in
      let whole : groups_bytes all ≡ groups_bytes G = held-body f body all s.in_force.editable (held_groups_of-meets f body) ∙ sym (source-slots s).bytes in
      let final : final_group all ≡ final_group G = ap final_group (sym slots-merged-own) ∙ merged-final f G (source-slots s).turn in
      let first_is : is_empty (groups_bytes all ++ separation_by (line_ending_text by_now) (final_group all)) ≡ first =
      ap₂ (λ y g. is_empty (y ++ separation_by (line_ending_text by_now) g)) whole final ∙ sym (first-added s (line_ending_text by_now)) in
      let bytes_now = ap (λ b. added_bytes t b key sep_now value) first_is ∙ sym bytes_are in
      record {
        result = result;
        edited = edited;
        parts = record {
          groups = _;
          stand = source-added s key value (set_value key value) result (value_in (in_encoding r F.encoding) key value (held_groups_of F.encoding F.body)) by by bytes new h text is edited refl
              (subst (λ y. AreSlotsIn r.encoding result (groups_added f y bytes.items y G)) by_is
              (subst (λ x. AreSlotsIn r.encoding result (groups_added f by_now x by_now G)) bytes_now added));
          sound = sound-added f s.in_force.editable key value bytes.items text (ending_of by) (ending_of by) gs s.turn sound;
        };
      }

-- So it was, or memory ran out.
pub value-added : {E : Type 0} (read : List ℕ) (old : SourceParts) (key value sep : List ℕ) (by : declared.LineEnding) (bytes : Vec ℕ) (new : Parts) (told : Result Unit E)
    → All scalar key → All scalar value → key_place old.parts.keys key ≡ None → IsLastEnding (parts_bytes (drop old.opened.start read) old.parts.parts.items) by
    → sep ≡ separator_by key (between_last (encoding_of old.opened.encoding) (last_some (part_pair (drop old.opened.start read)) old.parts.parts.items))
    → bytes.items ≡ unended_pair (printed_repertoire old.opened) (not old.guarded && nat_le (length old.parts.parts.items) old.empty) key sep value
    → AddsPair (drop old.opened.start read) key value by bytes by old.parts told new
    → EditsParts (set_value key value) read old told (record old { parts = new })
value-added read old key value sep by bytes new (Ok done) k v none last sep_is printed h = λ r now named is p.
    source-value-added p.stand p.sound key value sep by bytes new k v is none last sep_is printed h
value-added read old key value sep by bytes new (Err error) k v none last sep_is printed h = λ r now named p.
    record { groups = p.groups; stand = source-kept p.stand new (h none); sound = p.sound }
