-- Groups in which a CR may come before a single LF: the groups of their bytes are these, with each such CR and LF made
-- one line ending.
use Rattle.std.proofs.Common.{◌≡◌, ◌≢◌, ℕ, ◌&&◌, true, false, List, [], ◌∷◌, ◌++◌, Option, Some, None, refl, ap, sym, ◌∙◌, inl, inr, append_assoc, append-nil, if◌then◌else◌, arith, Bool}
use Rattle.std.proofs.lemmas.Bool.{cases_Bool}
use Rattle.properties_format.specs.Text.{LineEnding, lf, cr, crlf, line_feed, is_empty}
use Rattle.properties_format.specs.Encoding.{Encoding}
use Rattle.properties_format.specs.Lines.{Ended, AreLines, is_open, IsWhole}
use Rattle.properties_format.specs.Computed.Lines.{begins_with_lf}
use Rattle.properties_format.specs.Body.{HeldLine, as_lines, held_in, AreGroupsOf, ending_bytes, group_bytes, groups_bytes, last_ending}
use Rattle.properties_format.specs.Edited.{is_editable, final_group}
use Rattle.properties_format.specs.Computed.Cut.{cut_of, decoded_line}
use Rattle.properties_format.specs.Computed.Body.{held_of, held_lines_of, unended_bytes}
use Rattle.properties_format.proofs.Lines.Plain.{plain-no_lf, no_lf_first}
use Rattle.properties_format.proofs.Cut.Meets.{cut_of-meets}
use Rattle.properties_format.proofs.Body.Decoded.{decoded-nil, IsCut-lines}
use Rattle.properties_format.proofs.Body.Groups.{held_of-meets, held_of-only, IsLastFit, AreFit, fit, fit-some, held_ended, ended-bytes, held-bytes, cut-off, lines-front as front-left, lines-back}
use Rattle.properties_format.proofs.Valued.Lined.{groups-fit}
use Rattle.properties_format.proofs.GroupsInTurn.Lines.{AreLinesBy, first-none, lines-front, lines-last, bytes-unended, ending-of, with_ending, texts-with, bytes-with, lines-with}

-- ---- groups in turn

-- a whole group that has a line ending
abbrev pub IsEndedGroup : Encoding → List HeldLine → Type 0
IsEndedGroup e g = (by : LineEnding) × AreLinesBy e (Some by) g × IsWhole (as_lines g)

-- the last group
abbrev pub IsLastGroup : Encoding → List HeldLine → Type 0
IsLastGroup e g = AreLinesBy e None g × IsLastFit g

-- Groups in turn: there is at least one, and all but the last have line endings.
abbrev pub AreInTurn : Encoding → List (List HeldLine) → Type 0
AreInTurn e [] = ⊥
AreInTurn e (g ∷ []) = IsLastGroup e g
AreInTurn e (g ∷ h ∷ gs) = IsEndedGroup e g × AreInTurn e (h ∷ gs)

-- The first of them has its own lines, and is whole or ends open.
pub turn-first : (e : Encoding) (g : List HeldLine) (gs : List (List HeldLine)) → AreInTurn e (g ∷ gs)
    → (o : Option LineEnding) × AreLinesBy e o g × IsLastFit g
turn-first e g [] (a, f) = (None, a, f)
turn-first e g (h ∷ gs) ((by, a, w), r) = (Some by, a, inl w)

-- So does each.
pub turn-at : (e : Encoding) (before : List (List HeldLine)) (g : List HeldLine) (after : List (List HeldLine)) → AreInTurn e (before ++ g ∷ after)
    → (o : Option LineEnding) × AreLinesBy e o g × IsLastFit g
turn-at e [] g after a = turn-first e g after a
turn-at e (f ∷ []) g after a = turn-first e g after a.1
turn-at e (f ∷ h ∷ before) g after a = turn-at e (h ∷ before) g after a.1

-- ---- the groups of a body are in turn

-- Ended lines are lines, the last of which has a line ending.
ended-lines : (e : Encoding) (l : Ended) (ls : List Ended) → AreLines (l ∷ ls) [] → (by : LineEnding) × AreLinesBy e (Some by) (held_ended e (l ∷ ls))
ended-lines e l [] h = (l.by, (h.0, refl, refl))
ended-lines e l (m ∷ ls) h =
    let n = ended-lines e m ls h.2 in
    (n.0, (h.0, refl, (l.by, refl, (λ q. ap begins_with_lf (ended-bytes e (m ∷ ls)) ∙ no_lf_first (m ∷ ls) [] h.2 (h.1 q))), n.1))

-- The lines of a text are lines, the last of which has no line ending.
pub last-lines : (e : Encoding) (ls : List Ended) (last : List ℕ) → AreLines ls last → AreLinesBy e None (held_of e ls last)
last-lines e [] last h = (h, refl, refl)
last-lines e (l ∷ []) last h =
    (h.0, refl, (l.by, refl, (λ q. ap begins_with_lf (held-bytes e [] last) ∙ no_lf_first [] last h.2 (h.1 q))), last-lines e [] last h.2)
last-lines e (l ∷ m ∷ ls) last h =
    (h.0, refl, (l.by, refl, (λ q. ap begins_with_lf (held-bytes e (m ∷ ls) last) ∙ no_lf_first (m ∷ ls) last h.2 (h.1 q))), last-lines e (m ∷ ls) last h.2)

-- A whole group of ended lines has a line ending.
ended-group : (e : Encoding) (g : List HeldLine) (ls : List Ended) → g ≡ held_ended e ls → AreLines ls [] → IsWhole (as_lines g) → IsEndedGroup e g
ended-group e g [] s a w = absurd (rw s at w)
ended-group e g (l ∷ ls) s a w = let n = ended-lines e l ls a in (n.0, rw s n.1, w)

-- Groups with all lines of a text, all of them whole except possibly the last, are in turn.
fit-turn : (e : Encoding) (gs : List (List HeldLine)) (ls : List Ended) (last : List ℕ) → AreLines ls last → held_in gs ≡ held_of e ls last → AreFit gs
    → AreInTurn e gs
fit-turn e [] [] last h s k = absurd (cc)
fit-turn e [] (l ∷ ls) last h s k = absurd (cc)
fit-turn e (g ∷ []) ls last h s k = (rw (sym (append-nil g) ∙ s) (last-lines e ls last h), k)
fit-turn e (g ∷ i ∷ gs) ls last h s k =
    let c = cut-off e g (held_in (i ∷ gs)) ls last (fit-some i gs k.1) s in
    let m : AreLines (c.front ++ c.back) last = rw c.all at h in (
      ended-group e g c.front c.group (front-left c.front c.back last m) k.0,
      fit-turn e (i ∷ gs) c.back last (lines-back c.front c.back last m) c.others k.1,
    )

-- The groups of a body are in turn.
pub in-turn : (e : Encoding) (body : List ℕ) (gs : List (List HeldLine)) → is_editable e ≡ true → AreGroupsOf e body gs → AreInTurn e gs
in-turn e body gs ok h =
    fit-turn e gs h.cut.ended h.cut.last (IsCut-lines e body h.cut ok h.is_cut).are_lines (held_of-only e h.cut.ended h.cut.last (held_in gs) h.are_held)
    (fit gs h.grouped.whole h.grouped.unfinished h.grouped.are_groups h.grouped.are_whole h.grouped.is_unfinished)

-- ---- a CR and a single LF

-- whether the line ending is an LF, and whether it is a CR
abbrev is_by_lf : Option LineEnding → Bool
is_by_lf (Some lf) = true
is_by_lf o = false

abbrev is_by_cr : Option LineEnding → Bool
is_by_cr (Some cr) = true
is_by_cr o = false

-- whether the first group ends in a CR and the second is an LF by itself, so that they form one line ending
abbrev pub are_one_ending : List HeldLine → List HeldLine → Bool
are_one_ending g h = is_by_cr (last_ending g) && (is_by_lf (last_ending h) && is_empty (unended_bytes h))

-- the groups, with each CR and the single LF after it made one line ending
abbrev pub merged : List (List HeldLine) → List (List HeldLine)
merged [] = []
merged (g ∷ []) = g ∷ []
merged (g ∷ h ∷ gs) = if are_one_ending g h then with_ending (Some crlf) g ∷ merged gs else g ∷ merged (h ∷ gs)

-- A group that ends in a CR takes the single LF after it, and ends in CR LF.
pub merged-one : (g h : List HeldLine) (gs : List (List HeldLine)) → are_one_ending g h ≡ true → merged (g ∷ h ∷ gs) ≡ with_ending (Some crlf) g ∷ merged gs
merged-one g h gs k = rw k refl

-- Any other group at the front is unchanged.
pub merged-two : (g h : List HeldLine) (gs : List (List HeldLine)) → are_one_ending g h ≡ false → merged (g ∷ h ∷ gs) ≡ g ∷ merged (h ∷ gs)
merged-two g h gs k = rw k refl

-- The first group ends in a CR, and the second is a single LF.
pub record IsOneEnding (g h : List HeldLine) : Type 0 where
  pub by_cr : last_ending g ≡ Some cr
  pub by_lf : last_ending h ≡ Some lf
  pub empty : unended_bytes h ≡ []

-- Two groups are of this kind if they pass the test for one line ending.
pub one-ending : (g h : List HeldLine) → are_one_ending g h ≡ true → IsOneEnding g h
one-ending g h k = grind (arith)

-- Their bytes are those of the first group with a CR LF.
pub one-bytes : (g h : List HeldLine) → IsOneEnding g h → group_bytes (with_ending (Some crlf) g) ≡ group_bytes g ++ group_bytes h
one-bytes [] h k = let s = k.by_cr in absurd (cc)
one-bytes (i ∷ is) h k = rw (bytes-with _ i is, bytes-unended (i ∷ is), bytes-unended h, k.by_cr, k.empty, k.by_lf) (sym (append_assoc _ _ (line_feed ∷ [])))

-- ---- which groups begin with an LF

-- The first of several lines of a group is open.
fit-open_line : (h i : HeldLine) (hs : List HeldLine) → IsLastFit (h ∷ i ∷ hs) → is_open h.text ≡ true
fit-open_line h i hs f = grind (arith)

-- No LF comes before the last line ending of a group.
unended-no_lf : (e : Encoding) (o : Option LineEnding) (g : List HeldLine) → AreLinesBy e o g → IsLastFit g → begins_with_lf (unended_bytes g) ≡ false
unended-no_lf e o [] a f = absurd a
unended-no_lf e o (h ∷ []) a f = plain-no_lf h.bytes a.0
unended-no_lf e o (h ∷ i ∷ hs) a f =
    let open_line : is_open h.text ≡ true = fit-open_line h i hs f in
    first-none h.bytes (ending_bytes h.ending ++ unended_bytes (i ∷ hs)) (plain-no_lf h.bytes a.0)
    (λ r. let closed = ap is_open (a.1 ∙ ap (decoded_line e) r ∙ decoded-nil e) in absurd (cc))

-- After a CR, no LF comes first unless the two are one line ending.
pub after-cr : (e : Encoding) (g h : List HeldLine) (gs : List (List HeldLine)) → AreInTurn e (h ∷ gs) → last_ending g ≡ Some cr → are_one_ending g h ≡ false
    → begins_with_lf (groups_bytes (h ∷ gs)) ≡ false
after-cr e g h gs a s k = of-turn gs a
  where
    no_lf : (x : List ℕ) (o : Option LineEnding) (y : List ℕ) → begins_with_lf x ≡ false → (is_by_lf o && is_empty x) ≡ false → (o ≡ None → y ≡ [])
        → begins_with_lf ((x ++ ending_bytes o) ++ y) ≡ false
    no_lf (c ∷ x) o y p q n = p
    no_lf [] None y p q n = ap begins_with_lf (n refl)
    no_lf [] (Some lf) y p q n = absurd (cc)
    no_lf [] o y p q n = refl

    other : (is_by_lf (last_ending h) && is_empty (unended_bytes h)) ≡ false
    other = ap (λ o. is_by_cr o && (is_by_lf (last_ending h) && is_empty (unended_bytes h))) (sym s) ∙ k

    of-turn : (gs : List (List HeldLine)) → AreInTurn e (h ∷ gs) → begins_with_lf (groups_bytes (h ∷ gs)) ≡ false
    of-turn [] (b, f) =
        ap (λ v. begins_with_lf (v ++ [])) (bytes-unended h) ∙ no_lf (unended_bytes h) (last_ending h) [] (unended-no_lf e None h b f) other (λ q. refl)
    of-turn (i ∷ gs) ((by, b, w), r) =
        ap (λ v. begins_with_lf (v ++ groups_bytes (i ∷ gs))) (bytes-unended h)
        ∙ no_lf (unended_bytes h) (last_ending h) (groups_bytes (i ∷ gs)) (unended-no_lf e (Some by) h b (inl w)) other
        (λ q. let t = ending-of e (Some by) h b in absurd (cc))

-- ---- the groups of the bytes

-- After a single LF, other groups follow.
pub after-lf : (e : Encoding) (h : List HeldLine) (gs : List (List HeldLine)) → AreInTurn e (h ∷ gs) → last_ending h ≡ Some lf → AreInTurn e gs
after-lf e h [] a s = let t = ending-of e None h a.0 in absurd (cc)
after-lf e h (i ∷ gs) a s = a.1

-- The lines of the bytes of groups in turn are the groups' lines, with each CR and the single LF after it made one line
-- ending.
merged-lines : (e : Encoding) (gs : List (List HeldLine)) → is_editable e ≡ true → AreInTurn e gs → held_lines_of e (groups_bytes gs) ≡ held_in (merged gs)
merged-lines e [] ok a = absurd a
merged-lines e (g ∷ []) ok a = ap (held_lines_of e) (append-nil (group_bytes g)) ∙ lines-last e g ok a.0 ∙ sym (append-nil g)
merged-lines e (g ∷ h ∷ gs) ok ((by, a, w), r) = elim (cases_Bool (are_one_ending g h)) [
  | inl k ↦
      let m = one-ending g h k in
      rw (k, ← append_assoc (group_bytes g) (group_bytes h) (groups_bytes gs), ← one-bytes g h m)
      (lines-front e crlf (with_ending (Some crlf) g) (groups_bytes gs) ok (lines-with e (Some by) (Some crlf) g a (λ c. refl)) (λ q. absurd (cc))
      ∙ ap (λ v. with_ending (Some crlf) g ++ v) (merged-lines e gs ok (after-lf e h gs r m.by_lf)))
  | inr k ↦
      rw k
      (lines-front e by g (groups_bytes (h ∷ gs)) ok a (λ q. after-cr e g h gs r (ending-of e (Some by) g a ∙ ap Some q) k)
      ∙ ap (λ v. g ++ v) (merged-lines e (h ∷ gs) ok r))
]

-- A whole group before groups, all of which but the last are whole.
fit-before : (g : List HeldLine) (gs : List (List HeldLine)) → IsWhole (as_lines g) → AreFit gs → AreFit (g ∷ gs)
fit-before g [] w f = inl w
fit-before g (h ∷ gs) w f = (w, f)

-- With such line endings made one, all groups in turn but the last are whole.
merged-fit : (e : Encoding) (gs : List (List HeldLine)) → AreInTurn e gs → AreFit (merged gs)
merged-fit e [] a = absurd a
merged-fit e (g ∷ []) a = a.1
merged-fit e (g ∷ h ∷ gs) ((by, a, w), r) = elim (cases_Bool (are_one_ending g h)) [
  | inl k ↦ rw k (fit-before (with_ending (Some crlf) g) (merged gs) (rw texts-with w) (merged-fit e gs (after-lf e h gs r (one-ending g h k).by_lf)))
  | inr k ↦ rw k (fit-before g (merged (h ∷ gs)) w (merged-fit e (h ∷ gs) r))
]

-- Groups in turn, with each CR and single LF made one line ending, are the groups of their bytes.
pub merged-groups : (e : Encoding) (gs : List (List HeldLine)) → is_editable e ≡ true → AreInTurn e gs → AreGroupsOf e (groups_bytes gs) (merged gs)
merged-groups e gs ok a =
    let c = cut_of e (groups_bytes gs) in
    record {
      cut = c;
      is_cut = cut_of-meets e (groups_bytes gs);
      are_held = rw (← merged-lines e gs ok a) (held_of-meets e c.ended c.last);
      grouped = groups-fit (merged gs) (merged-fit e gs a);
    }

-- ---- what else is unchanged

-- the last group
pub final-next : (g : List HeldLine) (gs : List (List HeldLine)) → gs ≢ [] → final_group (g ∷ gs) ≡ final_group gs
final-next g [] n = absurd (n refl)
final-next g (h ∷ gs) n = refl

-- If there is a group, there is one once line endings are made one.
merged-some : (gs : List (List HeldLine)) → gs ≢ [] → merged gs ≢ []
merged-some gs n = grind (arith)

-- Groups in turn are at least one.
pub turn-some : (e : Encoding) (gs : List (List HeldLine)) → AreInTurn e gs → gs ≢ []
turn-some e (g ∷ gs) a q = cc
turn-some e [] a q = a

-- Once line endings are made one, the last group is the same.
pub merged-final : (e : Encoding) (gs : List (List HeldLine)) → AreInTurn e gs → final_group (merged gs) ≡ final_group gs
merged-final e [] a = absurd a
merged-final e (g ∷ []) a = refl
merged-final e (g ∷ h ∷ gs) a = elim (cases_Bool (are_one_ending g h)) [
  | inl k ↦
      let r = after-lf e h gs a.1 (one-ending g h k).by_lf in
      let some = turn-some e gs r in
      rw (k, final-next (with_ending (Some crlf) g) (merged gs) (merged-some gs some), final-next h gs some) (merged-final e gs r)
  | inr k ↦ rw (k, final-next g (merged (h ∷ gs)) (merged-some (h ∷ gs) (λ q. cc))) (merged-final e (h ∷ gs) a.1)
]
