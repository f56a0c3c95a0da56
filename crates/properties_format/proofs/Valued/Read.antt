-- What stays unchanged if a value is set.
use Rattle.std.proofs.Common.{rules, ◌≡◌, ℕ, true, List, [], ◌∷◌, ◌++◌, refl, ap, sym, ◌∙◌, inl, inr, append_assoc}
use Rattle.std.proofs.lemmas.List.{append_cancel_right}
use Rattle.properties_format.specs.Encoding.{Encoding, byte_order_mark, Repertoire, in_encoding}
use Rattle.properties_format.specs.Printing.{encoded_text}
use Rattle.properties_format.specs.Body.{HasKey, HeldLine, NoneHasKey, group_bytes, groups_bytes, ending_bytes, last_ending}
use Rattle.properties_format.specs.Edited.{bom_of, final_group, is_editable, separation_by}
use Rattle.properties_format.specs.Changed.{AreOthersThanLast, KeepsOthers}
use Rattle.properties_format.specs.Valued.{IsAlikeAround, value_text, ending_in, new_pair_bytes, IsFrontOf, IsValueSet, KeepsFront}
use Rattle.properties_format.specs.Computed.Body.{unended_bytes}
use Rattle.properties_format.proofs.Body.Groups.{held-body, groups_bytes-append}
use Rattle.properties_format.proofs.Edited.ByteOrderMarks.{source-whole}
use Rattle.properties_format.proofs.Changed.Occur.{all-kept, occur-after, occur-alone, others-kept}
use Rattle.properties_format.proofs.GroupsInTurn.Lines.{bytes-unended}
use Rattle.properties_format.proofs.Valued.Lined.{last_ending-append}
use Rattle.properties_format.proofs.Valued.Made.{group-decoded}
use Rattle.properties_format.proofs.Valued.Fronts.{front_of-meets}
use Rattle.properties_format.proofs.Valued.Marks.{front-bytes}

-- If a value is set, every group but the last pair with the key is unchanged.
pub value_set-keeps : (t : Repertoire) (source key value result : List ℕ) → IsValueSet t source key value result
    → KeepsOthers (AreOthersThanLast key) t.encoding source result
value_set-keeps t source key value result h = elim h.edited [
  | inl r ↦ others-kept t.encoding source key result h.groups r.before r.group r.after _ h.held r.division (value, r.has_pair) r.no_later
      (occur-after r.after (group_bytes r.group) (groups_bytes r.after) (occur-alone r.after))
      (h.whole ∙ ap (λ v. bom_of source ++ v) (r.bytes ∙ ap groups_bytes r.division ∙ groups_bytes-append r.before (r.group ∷ r.after)))
  | inr (inl r) ↦ others-kept t.encoding source key result h.groups r.before r.group r.after _ h.held r.division r.has_key r.no_later
      (occur-after r.after r.front _ (occur-after r.after _ _ (occur-after r.after _ (groups_bytes r.after) (occur-alone r.after))))
      (h.whole ∙ ap (λ v. bom_of source ++ v) r.bytes)
  | inr (inr r) ↦ all-kept t.encoding source key result h.groups _ h.held r.no_pair
      (h.whole ∙ ap (λ v. bom_of source ++ v) (r.bytes ∙ append_assoc (groups_bytes h.groups) _ _))
]

-- what follows the front of a pair, up to its last line ending
abbrev after_front : HeldLine → List ℕ → List HeldLine → List ℕ
after_front line tail more = unended_bytes (record { bytes = tail; text = line.text; ending = line.ending } ∷ more)

-- The bytes of a pair's group: its front, what follows it, and its line ending.
pair-bytes : (e : Encoding) (group : List HeldLine) (between front : List ℕ) (f : IsFrontOf e group between front)
    → group_bytes group ≡ front ++ (after_front f.line f.tail f.more ++ ending_bytes (last_ending group))
pair-bytes e group between front f =
    front-bytes e group between front f
    ∙ ap (λ v. front ++ v) (bytes-unended (record { bytes = f.tail; text = f.line.text; ending = f.line.ending } ∷ f.more))
    ∙ ap (λ o. front ++ (after_front f.line f.tail f.more ++ ending_bytes o))
    (search (rules) ∙ sym (ap last_ending f.division ∙ last_ending-append f.kept (f.line ∷ f.more) (λ q. cc)))

-- The front of a pair comes before its last line ending.
pub front-unended : (e : Encoding) (group : List HeldLine) (between front : List ℕ) (f : IsFrontOf e group between front)
    → unended_bytes group ≡ front ++ after_front f.line f.tail f.more
front-unended e [] between front f = absurd (none f.kept f.division)
  where
    none : (kept : List HeldLine) → [] ≡ kept ++ f.line ∷ f.more → ⊥
    none [] q = absurd (cc)
    none (i ∷ kept) q = absurd (cc)
front-unended e (i ∷ is) between front f =
    let by = ending_bytes (last_ending (i ∷ is)) in
    let after = after_front f.line f.tail f.more in
    append_cancel_right (unended_bytes (i ∷ is)) (front ++ after) by
    (sym (bytes-unended (i ∷ is)) ∙ pair-bytes e (i ∷ is) between front f ∙ sym (append_assoc front after by))

-- A source that contains such a pair, divided around the pair's value.
around-source : (e : Encoding) (source : List ℕ) (before : List (List HeldLine)) (group : List HeldLine) (after : List (List HeldLine)) (between front : List ℕ)
    (f : IsFrontOf (byte_order_mark e source).encoding group between front) → (byte_order_mark e source).body ≡ groups_bytes (before ++ group ∷ after)
    → source ≡ bom_of source ++ ((groups_bytes before ++ front) ++
    (after_front f.line f.tail f.more ++ (ending_bytes (last_ending group) ++ groups_bytes after)))
around-source e source before group after between front f s =
    let old = after_front f.line f.tail f.more in
    let by = ending_bytes (last_ending group) in
    source-whole e source
    ∙ ap (λ v. bom_of source ++ v)
    (s
    ∙ groups_bytes-append before (group ∷ after)
    ∙ ap (λ v. groups_bytes before ++ (v ++ groups_bytes after)) (pair-bytes (byte_order_mark e source).encoding group between front f)
    ∙ ap (λ v. groups_bytes before ++ v) (append_assoc front (old ++ by) (groups_bytes after) ∙ ap (λ v. front ++ v) (append_assoc old by (groups_bytes after)))
    ∙ sym (append_assoc (groups_bytes before) front (old ++ (by ++ groups_bytes after))))

-- Such a source, and a result with other bytes instead of that value.
alike-around : (e : Encoding) (source key new result : List ℕ) (groups before : List (List HeldLine)) (group : List HeldLine) (after : List (List HeldLine))
    (between front : List ℕ) → groups ≡ before ++ group ∷ after → HasKey key group → NoneHasKey key after
    → (byte_order_mark e source).body ≡ groups_bytes groups → IsFrontOf (byte_order_mark e source).encoding group between front
    → result ≡ bom_of source ++ ((groups_bytes before ++ front) ++ (new ++ (ending_bytes (last_ending group) ++ groups_bytes after)))
    → IsAlikeAround (byte_order_mark e source).encoding source groups key result
alike-around e source key new result groups before group after between front s has none body f is = record {
  front = groups_bytes before ++ front;
  back = ending_bytes (last_ending group) ++ groups_bytes after;
  around = record {
    before = before;
    group = group;
    after = after;
    division = s;
    has_key = has;
    no_later = none;
    between = between;
    pair_front = front;
    is_front = f;
    front_bytes = refl;
    back_bytes = refl;
  };
  old = after_front f.line f.tail f.more;
  new = new;
  source_is = around-source e source before group after between front f (body ∙ ap groups_bytes s);
  result_is = is;
}

-- If a value is set, every byte outside the old value is unchanged.
pub value_set-keeps_front : (t : Repertoire) (source key value result : List ℕ) → is_editable (byte_order_mark t.encoding source).encoding ≡ true
    → IsValueSet t source key value result → KeepsFront t.encoding source key result
value_set-keeps_front t source key value result ok h =
    let f = byte_order_mark t.encoding source in
    let body : f.body ≡ groups_bytes h.groups = sym (held-body f.encoding f.body h.groups ok h.held) in
    elim h.edited [
      | inl r ↦
          let p = r.has_pair in
          let m = front_of-meets f.encoding r.group p.raw_key p.raw_value ok
          (group-decoded f.encoding f.body h.groups r.before r.group r.after h.held r.division) p.split in
          let s = around-source t.encoding source r.before r.group r.after _ _ m (body ∙ ap groups_bytes r.division) in (
            h.groups,
            h.held,
            inl (alike-around t.encoding source key _ result h.groups r.before r.group r.after _ _
                r.division (value, r.has_pair) r.no_later body m
                (h.whole ∙ ap (λ v. bom_of source ++ v) (r.bytes ∙ sym body) ∙ sym (source-whole t.encoding source) ∙ s)),
          )
      | inr (inl r) ↦
          let back = ending_bytes (last_ending r.group) ++ groups_bytes r.after in
          let new = encoded_text f.encoding (value_text (in_encoding t f.encoding) r.between value) in (
            h.groups,
            h.held,
            inl (alike-around t.encoding source key new result h.groups r.before r.group r.after r.between r.front
                r.division r.has_key r.no_later body r.is_front
                (h.whole ∙ ap (λ v. bom_of source ++ v) (r.bytes ∙ sym (append_assoc (groups_bytes r.before) r.front (new ++ back))))),
          )
      | inr (inr r) ↦
          let separation = separation_by (ending_in h.groups) (final_group h.groups) in
          let more = separation ++ new_pair_bytes (in_encoding t f.encoding) _ key r.separator value _ in (
            h.groups,
            h.held,
            inr (
              r.no_pair,
              more,
              h.whole
                  ∙ ap (λ v. bom_of source ++ v)
                  (r.bytes
                  ∙ append_assoc _ separation _
                  ∙ ap (λ v. v ++ more) (sym body))
                  ∙ sym (append_assoc (bom_of source) f.body more)
                  ∙ ap (λ v. v ++ more) (sym (source-whole t.encoding source)),
            ),
          )
    ]
