-- The groups of a body: the computed groups are groups of the body, and the only ones. All groups but the last end in a
-- line ending, and are groups by themselves.
use Rattle.std.proofs.Common.{◌≡◌, ◌≢◌, ◌⊎◌, ℕ, true, false, List, [], ◌∷◌, ◌++◌, Some, None, refl, ap, ap₂, sym, ◌∙◌, inl, inr, append_assoc, arith, append-nil, subst}
use Rattle.std.proofs.lemmas.Bool.{cases_Bool}
use Rattle.properties_format.proofs.Encodings.PieceEnds.{none-right}
use Rattle.properties_format.specs.Text.{line_ending_text}
use Rattle.properties_format.specs.Encoding.{Encoding}
use Rattle.properties_format.specs.Lines.{Ended, end, Line, put_together, AreLines, IsWhole, AreWhole, IsUnfinished, last_group}
use Rattle.properties_format.specs.Computed.Lines.{closes, groups_after}
use Rattle.properties_format.specs.Body.{HeldLine, AreHeld, as_lines, as_groups, held_in, AreGroupsOf, group_bytes, groups_bytes, last_ending}
use Rattle.properties_format.specs.Edited.{is_editable}
use Rattle.properties_format.specs.Computed.Body.{held_of, held_lines_of, held_groups_after, held_groups_of}
use Rattle.properties_format.proofs.Groups.Steps.{groups_after-close, groups_after-leave}
use Rattle.properties_format.proofs.Groups.Meets.{groups_of-meets}
use Rattle.properties_format.proofs.Groups.Only.{groups_of-only}
use Rattle.properties_format.specs.Computed.Cut.{cut_of, decoded_line}
use Rattle.properties_format.proofs.Cut.Meets.{cut_of-meets}
use Rattle.properties_format.proofs.Cut.Only.{cut_of-only}
use Rattle.properties_format.proofs.Cut.Byline.{decoded_line-meets, decoded_line-only}
use Rattle.properties_format.proofs.Body.Decoded.{IsCut-lines}

-- ---- the lines of a body

-- The computed lines are the lines of bytes in order, each decoded by itself.
pub held_of-meets : (e : Encoding) (ls : List Ended) (last : List ℕ) → AreHeld e ls last (held_of e ls last)
held_of-meets e [] last = (decoded_line e last, decoded_line-meets e last, refl)
held_of-meets e (l ∷ ls) last = (decoded_line e l.text, held_of e ls last, decoded_line-meets e l.text, refl, held_of-meets e ls last)

-- There are no other such lines.
pub held_of-only : (e : Encoding) (ls : List Ended) (last : List ℕ) (held : List HeldLine) → AreHeld e ls last held → held ≡ held_of e ls last
held_of-only e [] last held (x, h, s) = rw (s, decoded_line-only e last x h)
held_of-only e (l ∷ ls) last held (x, rest, h, s, k) = rw (s, decoded_line-only e l.text x h, held_of-only e ls last rest k)

-- ---- their groups

-- The texts of two lists of lines, one after the other.
pub as_lines-append : (a b : List HeldLine) → as_lines (a ++ b) ≡ as_lines a ++ as_lines b
as_lines-append [] b = refl
as_lines-append (h ∷ a) b = ap (λ v. record { number = 0; text = h.text } ∷ v) (as_lines-append a b)

-- A line that closes its group.
pub groups-close : (p : List HeldLine) (h : HeldLine) (hs : List HeldLine) → closes (as_lines p) (record { number = 0; text = h.text }) ≡ true
    → held_groups_after p (h ∷ hs) ≡ (p ++ h ∷ []) ∷ held_groups_after [] hs
groups-close p h hs k = rw (k, held_groups_after) refl

-- A line that leaves its group open.
pub groups-leave : (p : List HeldLine) (h : HeldLine) (hs : List HeldLine) → closes (as_lines p) (record { number = 0; text = h.text }) ≡ false
    → held_groups_after p (h ∷ hs) ≡ held_groups_after (p ++ h ∷ []) hs
groups-leave p h hs k = rw (k, held_groups_after) refl

-- The texts of the groups are the groups of the texts.
groups-texts : (p hs : List HeldLine) → as_groups (held_groups_after p hs) ≡ groups_after (as_lines p) (as_lines hs) end
groups-texts [] [] = refl
groups-texts (h ∷ p) [] = refl
groups-texts p (h ∷ hs) =
    let l : Line = record { number = 0; text = h.text } in
    elim (cases_Bool (closes (as_lines p) l)) [
      | inl k ↦ rw (groups-close p h hs k, groups_after-close (as_lines p) l (as_lines hs) end k) (cc (as_lines-append p (h ∷ []), groups-texts [] hs))
      | inr k ↦ rw (groups-leave p h hs k, groups_after-leave (as_lines p) l (as_lines hs) end k, ← as_lines-append p (h ∷ [])) (groups-texts (p ++ h ∷ []) hs)
    ]

-- The groups contain all of the lines.
groups-lines : (p hs : List HeldLine) → held_in (held_groups_after p hs) ≡ p ++ hs
groups-lines [] [] = refl
groups-lines (h ∷ p) [] = refl
groups-lines p (h ∷ hs) = elim (cases_Bool (closes (as_lines p) (record { number = 0; text = h.text }))) [
  | inl k ↦ rw (groups-close p h hs k, ← append_assoc p (h ∷ []) hs) (ap (λ v. (p ++ h ∷ []) ++ v) (groups-lines [] hs))
  | inr k ↦ rw (groups-leave p h hs k, ← append_assoc p (h ∷ []) hs) (groups-lines (p ++ h ∷ []) hs)
]

-- The computed groups are the groups of the body.
pub held_groups_of-meets : (e : Encoding) (body : List ℕ) → AreGroupsOf e body (held_groups_of e body)
unfolding held_groups_of
held_groups_of-meets e body =
    let hs = held_lines_of e body in
    let same = groups-lines [] hs in
    record {
      cut = cut_of e body;
      is_cut = cut_of-meets e body;
      are_held = subst (AreHeld e (cut_of e body).ended (cut_of e body).last) (sym same) (held_of-meets e (cut_of e body).ended (cut_of e body).last);
      grouped = rw (same, groups-texts [] hs) (groups_of-meets (as_lines hs) end);
    }

-- Lists of lines with the same texts have the same length, so they cut the same lines off a list.
split-same : (g h x y : List HeldLine) → as_lines g ≡ as_lines h → g ++ x ≡ h ++ y → (g ≡ h) × (x ≡ y)
split-same [] [] x y t s = (refl, s)
split-same (a ∷ g) (b ∷ h) x y t s =
    let m = split-same g h x y (cc) (cc) in
    (cc (m.0), m.1)
split-same g h x y t s = absurd (cc)

-- Groups with the same texts and the same lines are equal.
groups-same : (gs hs : List (List HeldLine)) → as_groups gs ≡ as_groups hs → held_in gs ≡ held_in hs → gs ≡ hs
groups-same [] [] t s = refl
groups-same (g ∷ gs) (h ∷ hs) t s =
    let m = split-same g h (held_in gs) (held_in hs) (cc) s in
    cc (m.0, groups-same gs hs (cc) m.1)
groups-same gs hs t s = absurd (cc)

-- The groups of a body have the lines of its bytes.
held-lines : (e : Encoding) (body : List ℕ) (gs : List (List HeldLine)) → AreGroupsOf e body gs → held_in gs ≡ held_lines_of e body
held-lines e body gs h = cc (held_of-only e h.cut.ended h.cut.last (held_in gs) h.are_held, cut_of-only e body h.cut h.is_cut)

-- The groups of a body are the computed ones.
pub held_groups_of-only : (e : Encoding) (body : List ℕ) (gs : List (List HeldLine)) → AreGroupsOf e body gs → gs ≡ held_groups_of e body
unfolding held_groups_of
held_groups_of-only e body gs h =
    let same = held-lines e body gs h in
    groups-same gs _ (rw (groups-texts [] _, ← same) (groups_of-only _ end (as_groups gs) h.grouped))
    (same ∙ sym (groups-lines [] (held_lines_of e body)))

-- ---- all groups but the last are whole

-- a group that doesn't begin with a comment line and ends open
abbrev pub EndsOpen : List Line → Type 0
EndsOpen [] = ⊥
EndsOpen (l ∷ ls) = IsUnfinished (l ∷ ls)

abbrev pub IsLastFit : List HeldLine → Type 0
IsLastFit g = IsWhole (as_lines g) ⊎ EndsOpen (as_lines g)

abbrev pub AreFit : List (List HeldLine) → Type 0
AreFit [] = Unit {0}
AreFit (g ∷ []) = IsLastFit g
AreFit (g ∷ h ∷ gs) = IsWhole (as_lines g) × AreFit (h ∷ gs)

-- All groups but the last are whole, if the texts are whole groups and possibly a last one that ends open.
pub fit : (gs : List (List HeldLine)) (whole : List (List Line)) (u : List Line) → as_groups gs ≡ whole ++ last_group u end → AreWhole whole → IsUnfinished u
    → AreFit gs
fit [] whole u t h k = tt
fit (g ∷ []) [] [] t h k = absurd (cc)
fit (g ∷ []) [] (l ∷ ls) t h k = let q : as_lines g ≡ l ∷ ls = cc in inr (rw q k)
fit (g ∷ []) (w ∷ whole) u t h k = let q : as_lines g ≡ w = cc in inl (rw q h.0)
fit (g ∷ i ∷ gs) [] [] t h k = absurd (cc)
fit (g ∷ i ∷ gs) [] (l ∷ ls) t h k = absurd (cc)
fit (g ∷ i ∷ gs) (w ∷ whole) u t h k = let q : as_lines g ≡ w = cc in (rw q h.0, fit (i ∷ gs) whole u (cc) h.1 k)

-- ---- the bytes of a group

-- lines with their endings, as lines of a body
abbrev pub held_ended : Encoding → List Ended → List HeldLine
held_ended e [] = []
held_ended e (l ∷ ls) = record { bytes = l.text; text = decoded_line e l.text; ending = Some l.by } ∷ held_ended e ls

-- Lines were cut off before the last one.
pub record IsCutOff (e : Encoding) (g rest : List HeldLine) (ls : List Ended) (last : List ℕ) : Type 0 where
  pub front : List Ended
  pub back : List Ended
  pub all : ls ≡ front ++ back
  pub group : g ≡ held_ended e front
  pub others : rest ≡ held_of e back last

-- Lines that come before some others are cut off in this way.
pub cut-off : (e : Encoding) (g rest : List HeldLine) (ls : List Ended) (last : List ℕ) → rest ≢ [] → g ++ rest ≡ held_of e ls last → IsCutOff e g rest ls last
cut-off e [] rest ls last some h = record { front = []; back = ls; all = refl; group = refl; others = h }
cut-off e (a ∷ g) rest [] last some h = let q : g ++ rest ≡ [] = cc in absurd (some (none-right g rest q))
cut-off e (a ∷ g) rest (l ∷ ls) last some h =
    let q : g ++ rest ≡ held_of e ls last = cc in
    let p : a ≡ record { bytes = l.text; text = decoded_line e l.text; ending = Some l.by } = cc in
    let m = cut-off e g rest ls last some q in
    record { front = l ∷ m.front; back = m.back; all = ap (λ v. l ∷ v) {y = m.front ++ m.back} m.all; group = ap₂ (λ v w. v ∷ w) p m.group; others = m.others }

-- The first ended lines, with an empty last line, are lines of a text.
pub lines-front : (ls ms : List Ended) (last : List ℕ) → AreLines (ls ++ ms) last → AreLines ls []
lines-front [] ms last h = tt
lines-front (l ∷ ls) ms last h = grind (arith, lines-front ls ms last h.2)

-- The ended lines after them, with the last line, are lines of a text.
pub lines-back : (ls ms : List Ended) (last : List ℕ) → AreLines (ls ++ ms) last → AreLines ms last
lines-back [] ms last h = h
lines-back (l ∷ ls) ms last h = lines-back ls ms last h.2

-- The bytes of ended lines are the lines and their ends, put together.
pub ended-bytes : (e : Encoding) (ls : List Ended) → group_bytes (held_ended e ls) ≡ put_together ls []
ended-bytes e [] = refl
ended-bytes e (l ∷ ls) = rw (ended-bytes e ls)

-- The bytes of all lines of a body are the lines and their ends, put together.
pub held-bytes : (e : Encoding) (ls : List Ended) (last : List ℕ) → group_bytes (held_of e ls last) ≡ put_together ls last
held-bytes e [] last = append-nil last
held-bytes e (l ∷ ls) last = ap (λ v. l.text ++ (line_ending_text l.by ++ v)) (held-bytes e ls last)

-- The last line of a body has no line ending.
pub held-last : (e : Encoding) (ls : List Ended) (last : List ℕ) → last_ending (held_of e ls last) ≡ None
held-last e (l ∷ m ∷ ls) last = held-last e (m ∷ ls) last
held-last e ls last = refl

-- If there is a group and all groups but the last are whole, they have lines.
pub fit-some : (h : List HeldLine) (gs : List (List HeldLine)) → AreFit (h ∷ gs) → held_in (h ∷ gs) ≢ []
fit-some (a ∷ h) gs k q = cc
fit-some h gs k q = grind (arith)

-- ---- the bytes of all groups

-- The bytes of two lists of lines, one after the other.
pub group_bytes-append : (a b : List HeldLine) → group_bytes (a ++ b) ≡ group_bytes a ++ group_bytes b
group_bytes-append [] b = refl
group_bytes-append (h ∷ a) b = simp (append_assoc, group_bytes-append a b)

-- The bytes of two lists of groups, one after the other.
pub groups_bytes-append : (gs hs : List (List HeldLine)) → groups_bytes (gs ++ hs) ≡ groups_bytes gs ++ groups_bytes hs
groups_bytes-append [] hs = refl
groups_bytes-append (g ∷ gs) hs = simp (append_assoc, groups_bytes-append gs hs)

-- The bytes of the groups are those of their lines.
pub groups-bytes : (gs : List (List HeldLine)) → groups_bytes gs ≡ group_bytes (held_in gs)
groups-bytes [] = refl
groups-bytes (g ∷ gs) = rw (groups-bytes gs, group_bytes-append g (held_in gs))

-- The bytes of the groups of a body are the body.
pub held-body : (e : Encoding) (body : List ℕ) (gs : List (List HeldLine)) → is_editable e ≡ true → AreGroupsOf e body gs → groups_bytes gs ≡ body
held-body e body gs ok h =
    let c = h.cut in rw (groups-bytes gs, held_of-only e c.ended c.last _ h.are_held, held-bytes e c.ended c.last) (sym (IsCut-lines e body c ok h.is_cut).text)
