-- The encoding in force of an edited source is that of the source: the byte order mark stays, and no new one appears.
use Rattle.std.proofs.Common.{◌≡◌, ◌<◌, ◌⊎◌, ℕ, Bool, true, false, List, [], ◌∷◌, ◌++◌, length, drop, refl, ap, ◌∙◌, inl, arith, inr, append_assoc, append-nil, lit<}
use Rattle.std.specs.Prelude.{Some, None}
use Rattle.properties_format.specs.Text.{line_feed, carriage_return, equals_sign, LineEnding, lf, cr, crlf, line_ending_text, is_empty}
use Rattle.properties_format.specs.Encoding.{Encoding, utf_8, byte_order_mark, begins_with, begins_like_bom, utf_8_bom, Repertoire, in_encoding}
use Rattle.properties_format.specs.Printing.{in_key_or_value, printed_characters, encoded_text, printed_key}
use Rattle.properties_format.specs.Body.{HeldLine, AreGroupsOf, group_bytes, groups_bytes, last_ending}
use Rattle.properties_format.specs.Edited.{pair_bytes, final_group, is_empty_line, bom_of, IsKeySet, guarding_lf, IsKeyRemoved, is_editable, separation_by}
use Rattle.properties_format.specs.Computed.Body.{unended_bytes}
use Rattle.properties_format.proofs.Encodings.ByteOrderMarks.{byte_order_mark-none}
use Rattle.properties_format.proofs.Printing.Characters.{encoded-ascii, encoded_text-append}
use Rattle.properties_format.proofs.ReadBack.Law.{default_settings-good}
use Rattle.properties_format.proofs.ReadBack.Unmarked.{byte_order_mark-cut, pair-unmarked}
use Rattle.properties_format.proofs.Body.Groups.{groups_bytes-append, held-body}
use Rattle.properties_format.proofs.GroupsInTurn.Lines.{bytes-of, ending-of}
use Rattle.properties_format.proofs.GroupsInTurn.Merged.{AreInTurn, IsEndedGroup, in-turn}

-- ---- the byte order mark of a source

-- A source that can be edited has the byte order mark of UTF-8, or none.
abbrev pub HasBom : Encoding → List ℕ → Type 0
HasBom e source =
    (bom_of source ≡ utf_8_bom) × ((byte_order_mark e source).encoding ≡ utf_8)
    ⊎ (begins_like_bom source ≡ false) × (bom_of source ≡ []) × (byte_order_mark e source ≡ record { encoding = e; body = source })

-- A source has one of the two.
pub has_bom : (e : Encoding) (source : List ℕ) → is_editable (byte_order_mark e source).encoding ≡ true → HasBom e source
has_bom e source ok = grind (arith)

-- A list that begins with another is that one followed by the rest.
begins-drop : (m b : List ℕ) → begins_with m b ≡ true → b ≡ m ++ drop (length m) b
begins-drop [] b h = refl
begins-drop (m ∷ ms) [] h = absurd (cc)
begins-drop (m ∷ ms) (x ∷ b) h = grind (arith, begins-drop ms b)

-- A source is its byte order mark and its body.
pub source-whole : (e : Encoding) (source : List ℕ) → source ≡ bom_of source ++ (byte_order_mark e source).body
source-whole e source = grind (arith, begins-drop)

-- The byte order mark followed by a body is in force as the source was; without a byte order mark, the body must not
-- begin like one.
pub in_force : (e : Encoding) (source body : List ℕ) → is_editable (byte_order_mark e source).encoding ≡ true
    → (begins_like_bom source ≡ false → begins_like_bom body ≡ false)
    → byte_order_mark e (bom_of source ++ body) ≡ record { encoding = (byte_order_mark e source).encoding; body = body }
in_force e source body ok h = grind (arith, has_bom e source ok, byte_order_mark-none e body)

-- ---- what decides whether bytes begin like a byte order mark

-- one of these bytes is ASCII
abbrev pub HasAscii : List ℕ → Type 0
HasAscii x = (u : List ℕ) × (c : ℕ) × (v : List ℕ) × (x ≡ u ++ c ∷ v) × (c < 0x80)

-- What follows an ASCII byte doesn't matter.
pub ascii-cut : (x y z : List ℕ) → HasAscii x → begins_like_bom (x ++ y) ≡ begins_like_bom (x ++ z)
ascii-cut x y z (u, c, v, s, l) =
    rw (s, append_assoc u (c ∷ v) y, append_assoc u (c ∷ v) z, byte_order_mark-cut u c (v ++ y) l, byte_order_mark-cut u c (v ++ z) l)

-- What follows a line ending doesn't matter.
pub ending-cut : (x : List ℕ) (by : LineEnding) (y : List ℕ) → begins_like_bom (x ++ (line_ending_text by ++ y)) ≡ begins_like_bom x
ending-cut x lf y = byte_order_mark-cut x line_feed y (lit< tt)
ending-cut x cr y = byte_order_mark-cut x carriage_return y (lit< tt)
ending-cut x crlf y = byte_order_mark-cut x carriage_return (line_feed ∷ y) (lit< tt)

-- A printed pair contains an ASCII byte.
pub pair-ascii : (r : Repertoire) (first : Bool) (key value : List ℕ) → HasAscii (pair_bytes r first key value)
pair-ascii r first key value = (
  encoded_text r.encoding (printed_key r first key),
  equals_sign,
  encoded_text r.encoding (printed_characters r in_key_or_value value),
  rw (encoded_text-append, encoded-ascii r.encoding equals_sign (lit< tt)),
  lit< tt,
)

-- A pair at the front doesn't begin like a byte order mark.
first-unmarked : (r : Repertoire) (key value rest : List ℕ) → begins_like_bom (pair_bytes r true key value ++ rest) ≡ false
first-unmarked r key value rest =
    rw (ascii-cut (pair_bytes r true key value) rest [] (pair-ascii r true key value), append-nil)
    (pair-unmarked r key (equals_sign ∷ []) (printed_characters r in_key_or_value value) default_settings-good.separator)

-- ---- setting a key

-- If the first group contains an ASCII byte, what follows the groups doesn't affect whether their bytes begin like a
-- byte order mark.
pub front-unmarked : (g : List HeldLine) (gs : List (List HeldLine)) (y z : List ℕ) → HasAscii (group_bytes g)
    → begins_like_bom (groups_bytes (g ∷ gs) ++ z) ≡ false → begins_like_bom (groups_bytes (g ∷ gs) ++ y) ≡ false
front-unmarked g gs y z a h = rw append_assoc (ascii-cut (group_bytes g) (groups_bytes gs ++ y) (groups_bytes gs ++ z) a ∙ rw append_assoc at h)

-- A group that others follow contains an ASCII byte.
ended-ascii : (e : Encoding) (g : List HeldLine) → IsEndedGroup e g → HasAscii (group_bytes g)
ended-ascii e g (by, a, w) = rw (bytes-of e (Some by) g a) (of-ending by)
  where
    of-ending : (by : LineEnding) → HasAscii (unended_bytes g ++ line_ending_text by)
    of-ending lf = (unended_bytes g, line_feed, [], refl, lit< tt)
    of-ending cr = (unended_bytes g, carriage_return, [], refl, lit< tt)
    of-ending crlf = (unended_bytes g, carriage_return, line_feed ∷ [], refl, lit< tt)

first-ascii : (e : Encoding) (g : List HeldLine) (gs : List (List HeldLine)) (h : List HeldLine) (hs : List (List HeldLine))
    → AreInTurn e (g ∷ gs ++ h ∷ hs) → HasAscii (group_bytes g)
first-ascii e g [] h hs k = ended-ascii e g k.0
first-ascii e g (i ∷ gs) h hs k = ended-ascii e g k.0

-- If other bytes come after the groups before a group, a body that didn't begin like a byte order mark still doesn't.
pub changed-unmarked : (e : Encoding) (gs before : List (List HeldLine)) (g : List HeldLine) (after : List (List HeldLine)) (x : List ℕ)
    → gs ≡ before ++ g ∷ after → AreInTurn e gs → begins_like_bom (groups_bytes gs) ≡ false
    → (before ≡ [] → begins_like_bom x ≡ false) → begins_like_bom (groups_bytes before ++ x) ≡ false
changed-unmarked e gs [] g after x s k h first = first refl
changed-unmarked e gs (f ∷ before) g after x s k h first =
    front-unmarked f before x _ (first-ascii e f before g after (rw s at k)) (rw (s, groups_bytes-append (f ∷ before) (g ∷ after)) at h)

-- An empty line has no bytes.
pub empty-last : (g : List HeldLine) → is_empty_line g ≡ true → last_ending g ≡ None → group_bytes g ≡ []
empty-last (l ∷ m ∷ g) h k = absurd (cc)
empty-last g h k = grind (arith)

-- What separates a pair from the last group is empty after an empty line, and otherwise begins with a line ending.
separation_by-cases : (by : LineEnding) (g : List HeldLine)
    → (is_empty_line g ≡ true) × (separation_by (line_ending_text by) g ≡ [])
    ⊎ (rest : List ℕ) × (separation_by (line_ending_text by) g ≡ line_ending_text by ++ rest)
separation_by-cases by g = grind (arith, append-nil)

-- If a pair is added at the end, a body that didn't begin like a byte order mark still doesn't.
pub added-unmarked : (e : Encoding) (by : LineEnding) (gs : List (List HeldLine)) (tail : List ℕ → List ℕ) → AreInTurn e gs
    → begins_like_bom (groups_bytes gs) ≡ false → begins_like_bom (tail []) ≡ false
    → (let front = groups_bytes gs ++ separation_by (line_ending_text by) (final_group gs) in begins_like_bom (front ++ tail front) ≡ false)
added-unmarked e by gs tail k h first = elim (separation_by-cases by (final_group gs)) [
  | inl p ↦ none gs k h p.0 (ap (λ v. groups_bytes gs ++ v) p.1 ∙ append-nil (groups_bytes gs))
  | inr p ↦
      ap (λ v. begins_like_bom ((groups_bytes gs ++ v) ++ tail front)) p.1
      ∙ ap begins_like_bom (append_assoc (groups_bytes gs) _ (tail front) ∙ ap (λ v. groups_bytes gs ++ v) (append_assoc _ p.0 (tail front)))
      ∙ ending-cut (groups_bytes gs) by (p.0 ++ tail front)
      ∙ h
]
  where
    front : List ℕ
    front = groups_bytes gs ++ separation_by (line_ending_text by) (final_group gs)

    none : (hs : List (List HeldLine)) → AreInTurn e hs → begins_like_bom (groups_bytes hs) ≡ false → is_empty_line (final_group hs) ≡ true
        → front ≡ groups_bytes hs → begins_like_bom (front ++ tail front) ≡ false
    none [] k h m s = absurd (cc)
    none (g ∷ []) k h m s = rw (s, append-nil (group_bytes g), empty-last g m (ending-of e None g k.0), first)
    none (g ∷ i ∷ hs) k h m s =
        ap (λ v. begins_like_bom (v ++ tail v)) s
        ∙ front-unmarked g (i ∷ hs) (tail (groups_bytes (g ∷ i ∷ hs))) [] (ended-ascii e g k.0)
        (ap begins_like_bom (append-nil (groups_bytes (g ∷ i ∷ hs))) ∙ h)

-- If the source has no byte order mark, its groups don't begin like one.
pub groups-unmarked : (e : Encoding) (source : List ℕ) (gs : List (List HeldLine)) → is_editable (byte_order_mark e source).encoding ≡ true
    → AreGroupsOf (byte_order_mark e source).encoding (byte_order_mark e source).body gs → begins_like_bom source ≡ false
    → begins_like_bom (groups_bytes gs) ≡ false
groups-unmarked e source gs ok h n =
    rw (held-body (byte_order_mark e source).encoding (byte_order_mark e source).body gs ok h, byte_order_mark-none e source n) n

-- After a key is set, the same encoding is in force, with the edited body.
pub key_set-in_force : (t : Repertoire) (source key value result : List ℕ) → is_editable (byte_order_mark t.encoding source).encoding ≡ true
    → (h : IsKeySet t source key value result)
    → byte_order_mark t.encoding result ≡ record { encoding = (byte_order_mark t.encoding source).encoding; body = h.body }
key_set-in_force t source key value result ok h =
    let f = byte_order_mark t.encoding source in
    let gs = in-turn f.encoding f.body h.groups ok h.held in
    rw h.whole (in_force t.encoding source h.body ok (λ n. let u = groups-unmarked t.encoding source h.groups ok h.held n in elim h.edited [
      | inl r ↦ rw r.bytes (changed-unmarked f.encoding h.groups r.before r.group r.after _ r.division gs u
          (λ q. rw q (first-unmarked (in_encoding t f.encoding) key value _)))
      | inr r ↦ rw r.bytes
          (added-unmarked f.encoding _ h.groups (λ x. pair_bytes (in_encoding t f.encoding) (is_empty x) key value ++ line_feed ∷ []) gs
          u (first-unmarked (in_encoding t f.encoding) key value (line_feed ∷ [])))
    ]))

-- ---- removing a key

-- After a key is removed, the same encoding is in force, with the edited body.
pub key_removed-in_force : (e : Encoding) (source key result : List ℕ) → is_editable (byte_order_mark e source).encoding ≡ true
    → (h : IsKeyRemoved e source key result)
    → byte_order_mark e result ≡ record { encoding = (byte_order_mark e source).encoding; body = guarding_lf source h.rest ++ h.rest }
key_removed-in_force e source key result ok h = rw h.whole (in_force e source (guarding_lf source h.rest ++ h.rest) ok (λ n. grind (arith)))
