-- The encoding in force of a source with a value set is that of the source: the byte order mark stays, and no new one
-- appears.
use Rattle.std.proofs.Common.{◌≡◌, ◌<◌, ℕ, true, false, List, [], ◌∷◌, ◌++◌, ap, sym, ◌∙◌, inl, inr, append_assoc, append-nil, arith}
use Rattle.properties_format.specs.Text.{LineEnding, lf, line_ending_text, is_blanks}
use Rattle.properties_format.specs.Encoding.{Encoding, byte_order_mark, begins_like_bom, Repertoire, in_encoding}
use Rattle.properties_format.specs.Printing.{encoded_text, printed_key, printed_value}
use Rattle.properties_format.specs.Body.{HeldLine, held_in, ending_bytes, group_bytes, groups_bytes, last_ending}
use Rattle.properties_format.specs.Edited.{is_editable}
use Rattle.properties_format.specs.Valued.{new_pair_bytes, value_text, IsFrontOf, IsRevalued, ending_among, IsNewSeparator, IsValueSet}
use Rattle.properties_format.proofs.Cut.Byline.{decoded_line-only}
use Rattle.properties_format.proofs.Printing.Characters.{encoded-ascii}
use Rattle.properties_format.proofs.ReadBack.Unmarked.{pair-unmarked}
use Rattle.properties_format.proofs.Body.Groups.{group_bytes-append}
use Rattle.properties_format.proofs.GroupsInTurn.Merged.{AreInTurn, in-turn}
use Rattle.properties_format.proofs.Edited.ByteOrderMarks.{in_force, ending-cut, changed-unmarked, added-unmarked, groups-unmarked}
use Rattle.properties_format.proofs.Valued.Heads.{ascii-end}
use Rattle.properties_format.proofs.Valued.Revalued.{front-ends}
use Rattle.properties_format.proofs.Valued.Separators.{new_separator-fit}

-- ---- the front of bytes

-- Bytes that begin like a byte order mark still do with more after them.
like-more : (b z : List ℕ) → begins_like_bom b ≡ true → begins_like_bom (b ++ z) ≡ true
like-more b z h = grind (arith)

-- If bytes don't begin like a byte order mark, neither does their front followed by an ASCII character and any bytes.
prefix-unmarked : (b z : List ℕ) (c : ℕ) (y : List ℕ) → c < 0x80 → begins_like_bom (b ++ z) ≡ false → begins_like_bom (b ++ c ∷ y) ≡ false
prefix-unmarked b z c y l h = grind (arith, like-more)

-- ---- the last pair has another value

-- The bytes of a group are those of its front, followed by others.
pub front-bytes : (e : Encoding) (group : List HeldLine) (between front : List ℕ) (f : IsFrontOf e group between front)
    → group_bytes group ≡ front ++ (f.tail ++ (ending_bytes f.line.ending ++ group_bytes f.more))
front-bytes e group between front f = grind (arith, group_bytes-append, append_assoc)

-- A front followed by what is printed for a value, instead of a group at the front of a body.
front-valued : (r : Repertoire) (group : List HeldLine) (between front value : List ℕ) (f : IsFrontOf r.encoding group between front) (rest more : List ℕ)
    → is_editable r.encoding ≡ true
    → begins_like_bom (front ++ rest) ≡ false → begins_like_bom (front ++ (encoded_text r.encoding (value_text r between value) ++ more)) ≡ false
front-valued r group [] front value f rest more ok h = grind (arith, encoded-ascii, prefix-unmarked)
front-valued r group (b ∷ bs) front value f rest more ok h =
    let m = front-ends r.encoding group (b ∷ bs) front f (λ q. cc) in
    let n = ascii-end r.encoding f.head m.0 m.1 ok m.3 (sym (decoded_line-only r.encoding f.head f.head_text f.is_head) ∙ m.2) in
    let w = group_bytes f.kept ++ n.front in
    let s : (z : List ℕ) → front ++ z ≡ w ++ m.1 ∷ z = grind (arith, append_assoc) in
    ap begins_like_bom (s (encoded_text r.encoding (value_text r (b ∷ bs) value) ++ more))
    ∙ prefix-unmarked w (m.1 ∷ rest) m.1 (encoded_text r.encoding (value_text r (b ∷ bs) value) ++ more) m.3 (ap begins_like_bom (sym (s rest)) ∙ h)

-- If the last pair gets another value, a body that didn't begin like a byte order mark still doesn't.
revalued-unmarked : (t : Repertoire) (gs : List (List HeldLine)) (key value body : List ℕ) → is_editable t.encoding ≡ true → AreInTurn t.encoding gs
    → begins_like_bom (groups_bytes gs) ≡ false → IsRevalued t gs key value body → begins_like_bom body ≡ false
revalued-unmarked t gs key value body ok k h r =
    let f = r.is_front in
    let old = f.tail ++ (ending_bytes f.line.ending ++ group_bytes f.more) in
    let more = ending_bytes (last_ending r.group) ++ groups_bytes r.after in
    ap begins_like_bom r.bytes
    ∙ changed-unmarked t.encoding gs r.before r.group r.after (r.front ++ (encoded_text t.encoding (value_text t r.between value) ++ more)) r.division k h (λ q.
    let u : groups_bytes gs ≡ r.front ++ (old ++ groups_bytes r.after) =
    ap groups_bytes (r.division ∙ ap (λ v. v ++ r.group ∷ r.after) q)
    ∙ ap (λ v. v ++ groups_bytes r.after) (front-bytes t.encoding r.group r.between r.front f)
    ∙ append_assoc r.front old (groups_bytes r.after) in
    front-valued t r.group r.between r.front value f (old ++ groups_bytes r.after) more ok (ap begins_like_bom (sym u) ∙ h))

-- ---- a new pair

-- A new pair at the front doesn't begin like a byte order mark.
first-unmarked : (r : Repertoire) (key sep value : List ℕ) (by : LineEnding) (groups : List (List HeldLine)) → IsNewSeparator groups key sep
    → begins_like_bom (encoded_text r.encoding (printed_key r true key ++ (sep ++ printed_value r (is_blanks sep) value)) ++ line_ending_text by) ≡ false
first-unmarked r key sep value by groups s =
    let x = encoded_text r.encoding (printed_key r true key ++ (sep ++ printed_value r (is_blanks sep) value)) in
    ap (λ v. begins_like_bom (x ++ v)) (sym (append-nil (line_ending_text by)))
    ∙ ending-cut x by []
    ∙ pair-unmarked r key sep (printed_value r (is_blanks sep) value) (new_separator-fit groups key sep s).good

-- ---- the source

-- After a value is set, the same encoding is in force, with the edited body.
pub value_set-in_force : (t : Repertoire) (source key value result : List ℕ) → is_editable (byte_order_mark t.encoding source).encoding ≡ true
    → (h : IsValueSet t source key value result)
    → byte_order_mark t.encoding result ≡ record { encoding = (byte_order_mark t.encoding source).encoding; body = h.body }
value_set-in_force t source key value result ok h =
    let f = byte_order_mark t.encoding source in
    let gs = in-turn f.encoding f.body h.groups ok h.held in
    ap (byte_order_mark t.encoding) h.whole
    ∙ in_force t.encoding source h.body ok (λ n.
    let old = groups-unmarked t.encoding source h.groups ok h.held n in
    elim h.edited [
      | inl r ↦ ap begins_like_bom r.bytes ∙ old
      | inr (inl r) ↦ revalued-unmarked (in_encoding t f.encoding) h.groups key value h.body ok gs old r
      | inr (inr r) ↦
          let by = ending_among lf (held_in h.groups) in
          ap begins_like_bom r.bytes
          ∙ added-unmarked f.encoding by h.groups (λ x. new_pair_bytes (in_encoding t f.encoding) x key r.separator value (line_ending_text by)) gs old
          (first-unmarked (in_encoding t f.encoding) key r.separator value by h.groups r.is_separator)
    ])
