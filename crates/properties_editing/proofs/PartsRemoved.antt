-- The pairs with a key are taken out of parts, one after another: what is left stands for the groups after the plan
-- that removes the key. A single LF that the CR of a pair took goes with it.
use Rattle.std.proofs.Common.{◌≡◌, ◌≢◌, ◌≤◌, ◌<◌, ◌⊎◌, ℕ, suc, ◌+◌, Bool, true, false, List, [], ◌∷◌, ◌++◌, None, length, take, drop, refl, ap, ap₂, sym, ◌∙◌, subst, inl, inr, append-nil, arith, ◌==◌, ◌-◌, Option, Some, append_assoc, drop-cons}
use Rattle.std.specs.Prelude.{bytes_eq, get_or, if◌then◌else◌, map, nat_lt}
use Rattle.std.specs.Option.{is_some, option_or, option_map}
use Rattle.std.proofs.lemmas.Bool.{cases_Bool, le-ltb, lt-ltb}
use Rattle.std.proofs.lemmas.List.{length-map, map-append}
use Rattle.properties_format.specs.Encoding.{Encoding}
use Rattle.properties_format.specs.Edited.{final_group, is_empty_line, is_left_open}
use Rattle.properties_format.specs.Body.{HeldLine, ending_bytes, group_bytes, groups_bytes, last_ending}
use Rattle.properties_format.specs.Computed.Body.{has_key, unended_bytes}
use Rattle.properties_format.specs.Plan.{removal}
use Rattle.properties_format.proofs.GroupsInTurn.Lines.{bytes-unended}
use Rattle.properties_format.proofs.GroupsInTurn.Merged.{AreInTurn, after-lf, are_one_ending, one-ending, turn-first, turn-some, after-cr}
use Rattle.properties_format.proofs.Plan.Slots.{groups_after, last-empty, lf-no_key, no_line, turn-cons, lf-ignored}
use Rattle.properties_editing.specs.Private.BodyParts.{AreEnded, ArePartsOf, ArePlaced, AreTextsWithin, EndsAlone, IsEnd, IsPartOf, Piece, Said, StandFor, group_said, is_empty_part, no_part, parts_behind, piece_groups, piece_said, pieces_groups, place_if, places_with, said_with, taken_all, taken_out, value_among, value_if, value_said, outcome, IsOthersPart, IsLastWithin, IsOthersText, IsTextWithin, begins_so, cut_text, is_empty_text, last_pair_bytes, pair_bytes_of, span_bytes, part_text_bytes, without_lf, without_lf_first}
use Rattle.properties_editing.specs.Private.BodyGroups.{closing_of}
use Rattle.properties_editing.specs.Private.BodyParts as parts
use Rattle.properties_editing.specs.Private.RemovedParts.{AreBelow, ForgetsKey, RemovesPairs, before_end, key_places, without_empty_end}
use Rattle.properties_editing.specs.declared.groups.Closing.{Closing}
use Rattle.properties_editing.specs.declared.groups.Closing.TheVariants.{Nothing}
use Rattle.properties_editing.specs.declared.parts.Part.{Part}
use Rattle.properties_editing.specs.declared.parts.Parts.{Parts}
use Rattle.properties_editing.proofs.PartsAt.{AllOther, IsOwn, SayAlike, alike-other, alone-cons, alone-with, end-bytes, groups-at-piece, none-value, or-none, other-append, other-pieces, other-said, other-value, own-at, own-division, IsAt, parts-at, parts-length, placed-stored, places-append, said-key, some-value, parts-append}
use Rattle.properties_editing.proofs.PartsRead.{last-line, left-none}
use Rattle.std.proofs.lemmas.Bool.Decides.{nat_tests}
use Rattle.properties_format.specs.Text.{lf, line_feed}
use Rattle.properties_format.specs.Text as format
use Rattle.properties_format.specs.Computed.Lines as lines
use Rattle.properties_format.proofs.Body.Groups.{groups_bytes-append}
use Rattle.properties_items.specs.BorrowedItems.{outcome_pair}
use Rattle.properties_items.specs.Line.{ending_of}
use Rattle.properties_items.specs.declared.line.LineEnding as declared
use Rattle.properties_items.specs.declared.line.LineEnding.TheVariants.{CR, LF, CRLF}
use Rattle.properties_editing.specs.declared.bytes.BodySpan.{BodySpan}
use Rattle.properties_editing.specs.declared.parts.PartText.{PartText}
use Rattle.properties_editing.specs.declared.parts.PartText.TheVariants as text
use Rattle.properties_editing.proofs.PartsLeft.{plus-one}

-- ---- an LF at the front of a text

-- The bytes of a span: none, or one and those of a shorter span.
span-none : (d : List ℕ) (s : BodySpan) → (s.start == s.end) ≡ true → span_bytes d s ≡ []
span-none d s q =
    let same : s.start ≡ s.end = grind (arith, nat_tests) in
    let size : s.end - s.start ≡ 0 = omega arith in
    ap (λ n. take n (drop s.start d)) size

span-some : (d : List ℕ) (s : BodySpan) → IsTextWithin d (text.Span s) → (s.start == s.end) ≡ false
    → (suc s.start ≤ s.end) × (span_bytes d s ≡ get_or d s.start 0 ∷ span_bytes d (record { start = suc s.start; end = s.end }))
span-some d s w n =
    let (low, high) = w in
    let other : s.start ≢ s.end = grind (arith, nat_tests) in
    let size : s.end - s.start ≡ suc (s.end - suc s.start) = omega arith in
    ((omega arith), ap₂ take size (drop-cons d s.start 0 (omega arith)))

-- A text with bytes isn't empty.
pub some-text : (d : List ℕ) (t : PartText) → part_text_bytes d t ≢ [] → is_empty_text t ≡ false
some-text d (text.Own v) n = refl
some-text d (text.Span s) n = elim (cases_Bool (s.start == s.end)) [ inl q ↦ absurd (n (span-none d s q)) | inr q ↦ q ]

-- A text that doesn't begin with an LF stays as it is.
stays : (d : List ℕ) (t : PartText) → lines.begins_with_lf (part_text_bytes d t) ≡ false → IsTextWithin d t → cut_text d t ≡ t
stays d (text.Own v) m w = refl
stays d (text.Span s) m w = elim (cases_Bool (s.start == s.end)) [
  | inl e ↦ rw e refl
  | inr e ↦
      let l : (get_or d s.start 0 == line_feed) ≡ false = ap lines.begins_with_lf (sym (span-some d s w e).1) ∙ m in
      rw (e, l) refl
]

-- A text that begins with an LF is a span, and is cut.
record IsTextCut (d : List ℕ) (t : PartText) (x : List ℕ) : Type 0 where
  some : is_empty_text t ≡ false
  bytes : part_text_bytes d (cut_text d t) ≡ x
  within : IsTextWithin d (cut_text d t)
  empty : x ≡ [] → is_empty_text (cut_text d t) ≡ true
  others_text : IsOthersText (cut_text d t)
  last_within : (last : Option BodySpan) → IsLastWithin d t last → IsLastWithin d (cut_text d t) last
  bytes_in : parts.part_span_bytes d (cut_text d t) ≡ parts.part_span_bytes d t

text-cut : (d : List ℕ) (t : PartText) (x : List ℕ) → IsTextWithin d t → part_text_bytes d t ≡ line_feed ∷ x → IsOthersText t → IsTextCut d t x
text-cut d (text.Own v) x w b o = let n = ap lines.begins_with_lf b in absurd (cc)
text-cut d (text.Span s) x w b o = elim (cases_Bool (s.start == s.end)) [
  | inl e ↦ let no : [] ≡ line_feed ∷ x = sym (span-none d s e) ∙ b in absurd (cc)
  | inr e ↦
      let more = span-some d s w e in
      let rest : BodySpan = record { start = suc s.start; end = s.end } in
      let bytes : get_or d s.start 0 ∷ span_bytes d rest ≡ line_feed ∷ x = sym more.1 ∙ b in
      let first : get_or d s.start 0 ≡ line_feed = cc in
      let rest_is : span_bytes d rest ≡ x = cc in
      let begins : begins_so d s ≡ true = rw (e, first) refl in
      let is : cut_text d (text.Span s) ≡ text.Span rest = rw begins refl in
      let within : IsTextWithin d (text.Span rest) = (more.0, w.1) in
      record {
        some = e;
        bytes = ap (part_text_bytes d) is ∙ rest_is;
        within = subst (IsTextWithin d) (sym is) within;
        empty = λ y. ap is_empty_text is ∙ elim (cases_Bool (suc s.start == s.end)) [
          | inl t ↦ t
          | inr t ↦ let no = sym (span-some d rest within t).1 ∙ rest_is ∙ y in absurd (cc)
        ];
        others_text = subst IsOthersText (sym is) tt;
        last_within = λ last h. subst (λ v. IsLastWithin d v last) (sym is) h;
        bytes_in = ap (parts.part_span_bytes d) is;
      }
]

-- ---- the first part that isn't empty

-- The first of groups is a single LF.
lf-bytes : (g : List HeldLine) (gs : List (List HeldLine)) → last_ending g ≡ Some lf → unended_bytes g ≡ []
    → groups_bytes (g ∷ gs) ≡ line_feed ∷ groups_bytes gs
lf-bytes g gs l u = rw (bytes-unended g, u, l) refl

-- These parts stand for the groups without one, and say the same of keys.
pub record IsCut (d : List ℕ) (named : List ℕ → Bool) (ps : List Part) (qs : List Piece) (line gs : List (List HeldLine)) : Type 0 where
  pub pieces : List Piece
  pub are_parts : ArePartsOf d named ps pieces
  pub groups : pieces_groups pieces ++ line ≡ gs
  pub said : map piece_said pieces ≡ map piece_said qs
  pub alone : pieces_groups pieces ≢ [] → EndsAlone qs → EndsAlone pieces

-- The last piece stays one group where it isn't the one that is cut off.
alone-rest : (qs : List Piece) → EndsAlone (parts.others [] ∷ qs) → EndsAlone qs
alone-rest [] a = let no = a.1 in absurd (cc)
alone-rest (q ∷ qs) a = a

alone-cut : (g : List HeldLine) (hs : List (List HeldLine)) (qs : List Piece) → pieces_groups (parts.others hs ∷ qs) ≢ []
    → EndsAlone (parts.others (g ∷ hs) ∷ qs) → EndsAlone (parts.others hs ∷ qs)
alone-cut g [] [] some a = absurd (some refl)
alone-cut g (h ∷ hs) [] some a = let no = a.1 in absurd (cc)
alone-cut g hs (r ∷ rs) some a = a

-- ---- what is behind a pair that goes

-- the groups behind one that goes
abbrev pub behind : List HeldLine → List (List HeldLine) → List (List HeldLine)
behind g [] = []
behind g (h ∷ gs) = if are_one_ending g h then gs else h ∷ gs

-- Only a CR takes an LF.
other-behind : (g : List HeldLine) (gs : List (List HeldLine)) → last_ending g ≢ Some format.cr → behind g gs ≡ gs
other-behind g [] n = refl
other-behind g (h ∷ gs) n = elim (cases_Bool (are_one_ending g h)) [
  | inl k ↦ absurd (n (one-ending g h k).by_cr)
  | inr k ↦ rw k refl
]

-- A line without bytes before its ending is no pair.
pub lf-said : (e : Encoding) (h : List HeldLine) (gs : List (List HeldLine)) → AreInTurn e (h ∷ gs) → unended_bytes h ≡ [] → outcome_pair (outcome h) ≡ None
lf-said e h gs a u = let t = turn-first e h gs a in ap outcome_pair (lf-ignored e t.0 h t.1 u)

pub lf-no_pair : (e : Encoding) (h : List HeldLine) (gs : List (List HeldLine)) → AreInTurn e (h ∷ gs) → unended_bytes h ≡ [] → pair_bytes_of h ≡ None
lf-no_pair e h gs a u = ap (option_map (λ said. unended_bytes h)) (lf-said e h gs a u)

front-lf : (x y : List ℕ) → x ≢ [] → lines.begins_with_lf (x ++ y) ≡ false → lines.begins_with_lf x ≡ false
front-lf [] y n h = absurd (n refl)
front-lf (c ∷ x) y n h = h

module _ (d : List ℕ) (named : List ℕ → Bool) (e : Encoding) (line : List (List HeldLine)) (no_bytes : groups_bytes line ≡ []) (g : List HeldLine) where
  all-kept : (ps others : List Part) (qs : List Piece) → ArePartsOf d named ps qs → others ≡ ps → behind g (pieces_groups qs ++ line) ≡ pieces_groups qs ++ line
      → IsCut d named others qs line (behind g (pieces_groups qs ++ line))
  all-kept ps others qs k is same = record {
    pieces = qs;
    are_parts = subst (λ v. ArePartsOf d named v qs) (sym is) k;
    groups = sym same;
    said = refl;
    alone = λ some a. a;
  }

  -- If no LF comes first, nothing changes.
  first-kept : (p : Part) (ps : List Part) (qs : List Piece) (h : List HeldLine) (gs : List (List HeldLine)) (more : List ℕ) → ArePartsOf d named (p ∷ ps) qs
      → pieces_groups qs ++ line ≡ h ∷ gs → IsTextWithin d p.text → part_text_bytes d p.text ≢ [] → groups_bytes (h ∷ gs) ≡ part_text_bytes d p.text ++ more
      → last_ending g ≡ Some format.cr → AreInTurn e (h ∷ gs) → are_one_ending g h ≡ false
      → IsCut d named (without_lf_first d (p ∷ ps)) qs line (behind g (pieces_groups qs ++ line))
  first-kept p ps qs h gs more k s w some bytes l a n =
      let is_some = some-text d p.text some in
      let own = stays d p.text (front-lf (part_text_bytes d p.text) more some (sym (ap lines.begins_with_lf bytes) ∙ after-cr e g h gs a l n)) w in
      let part : without_lf_first d (p ∷ ps) ≡ p ∷ ps =
      rw is_some (ap (λ t. let q : Part = record { text = t; ending = p.ending; kind = p.kind } in q ∷ ps) own) in
      let same : behind g (h ∷ gs) ≡ h ∷ gs = rw n refl in
      all-kept (p ∷ ps) (without_lf_first d (p ∷ ps)) qs k part (ap (behind g) s ∙ same ∙ sym s)

  -- A single LF that comes first is cut off.
  lf-cut : (ps : List Part) (qs : List Piece) → ArePartsOf d named ps qs → last_ending g ≡ Some format.cr → AreInTurn e (g ∷ (pieces_groups qs ++ line))
      → IsCut d named (without_lf_first d ps) qs line (behind g (pieces_groups qs ++ line))
  lf-cut [] [] k l a = all-kept [] [] [] tt refl (of-line line no_bytes)
    where
      of-line : (ls : List (List HeldLine)) → groups_bytes ls ≡ [] → behind g ls ≡ ls
      of-line [] z = refl
      of-line (h ∷ ls) z = elim (cases_Bool (are_one_ending g h)) [
        | inl q ↦ let i = one-ending g h q in let no = sym (lf-bytes h ls i.by_lf i.empty) ∙ z in absurd (cc)
        | inr q ↦ rw q refl
      ]
  lf-cut [] (q ∷ qs) k l a = absurd k
  lf-cut (p ∷ ps) [] k l a = absurd k
  lf-cut (p ∷ ps) (parts.others [] ∷ qs) k l a =
      let m = lf-cut ps qs k.1 l a in
      let empty = k.0.empty refl in
      rw empty (record {
        pieces = parts.others [] ∷ m.pieces;
        are_parts = (k.0, m.are_parts);
        groups = m.groups;
        said = ap (λ v. None ∷ v) m.said;
        alone = λ some a. alone-cons (parts.others []) m.pieces (m.alone some (alone-rest qs a));
      })
  lf-cut (p ∷ ps) (parts.own h ∷ qs) k l a =
      let rest = groups_bytes (pieces_groups qs ++ line) in
      let bytes : group_bytes h ++ rest ≡ part_text_bytes d p.text ++ (ending_bytes (last_ending h) ++ rest) =
      ap (λ v. v ++ rest) (bytes-unended h) ∙ append_assoc (unended_bytes h) (ending_bytes (last_ending h)) rest
      ∙ ap (λ v. v ++ (ending_bytes (last_ending h) ++ rest)) (sym k.0.bytes) in
      elim (cases_Bool (are_one_ending g h)) [
        | inl q ↦ absurd (k.0.some (one-ending g h q).empty)
        | inr q ↦ first-kept p ps (parts.own h ∷ qs) h (pieces_groups qs ++ line) _ k refl k.0.within (λ z. k.0.some (sym k.0.bytes ∙ z)) bytes l a.1 q
      ]
  lf-cut (p ∷ ps) (parts.others (h ∷ hs) ∷ qs) k l a = elim (cases_Bool (are_one_ending g h)) [
    | inl q ↦
        let i = one-ending g h q in
        let none = lf-no_pair e h ((hs ++ pieces_groups qs) ++ line) a.1 i.empty in
        let c = text-cut d p.text (groups_bytes hs) k.0.within (k.0.bytes ∙ lf-bytes h hs i.by_lf i.empty) k.0.others_text in
        let some = c.some in
        let cut : IsOthersPart d named (without_lf d p) hs = record {
          last = k.0.last;
          kind = k.0.kind;
          within = c.within;
          bytes = c.bytes;
          ending = k.0.ending;
          empty = λ z. c.empty (ap groups_bytes z);
          have = k.0.have.1;
          others_text = c.others_text;
          unnamed = k.0.unnamed.1;
          last_within = c.last_within k.0.last k.0.last_within;
          last_pair = ap (λ f. option_map f k.0.last) c.bytes_in ∙ k.0.last_pair ∙ ap (option_or (last_pair_bytes hs)) none ∙ or-none (last_pair_bytes hs);
        } in
        rw (some, q) (record { pieces = parts.others hs ∷ qs; are_parts = (cut, k.1); groups = refl; said = refl; alone = alone-cut h hs qs })
    | inr q ↦
        let rest = pieces_groups qs ++ line in
        let bytes = ap groups_bytes (append_assoc (h ∷ hs) (pieces_groups qs) line) ∙ groups_bytes-append (h ∷ hs) rest
        ∙ ap (λ v. v ++ groups_bytes rest) (sym k.0.bytes) in
        first-kept p ps (parts.others (h ∷ hs) ∷ qs) h ((hs ++ pieces_groups qs) ++ line) (groups_bytes rest) k refl k.0.within
        (λ z. k.0.have.0 (left-none (group_bytes h) (groups_bytes hs) (sym k.0.bytes ∙ z))) bytes l a.1 q
  ]

  -- The parts behind one that goes stand for the groups behind it.
  parts-behind : (ps : List Part) (qs : List Piece) → ArePartsOf d named ps qs → (o : Option declared.LineEnding) → option_map ending_of o ≡ last_ending g
      → AreInTurn e (g ∷ (pieces_groups qs ++ line)) → IsCut d named (parts_behind d o ps) qs line (behind g (pieces_groups qs ++ line))
  parts-behind ps qs k None l a = all-kept ps ps qs k refl (other-behind g (pieces_groups qs ++ line) (λ q. absurd (cc)))
  parts-behind ps qs k (Some LF) l a = all-kept ps ps qs k refl (other-behind g (pieces_groups qs ++ line) (λ q. absurd (cc)))
  parts-behind ps qs k (Some CRLF) l a = all-kept ps ps qs k refl (other-behind g (pieces_groups qs ++ line) (λ q. absurd (cc)))
  parts-behind ps qs k (Some CR) l a = lf-cut ps qs k (sym l) a

-- ---- a pair among others

no-part : (d : List ℕ) (named : List ℕ → Bool) → IsOthersPart d named no_part []
no-part d named = record {
  last = None;
  kind = refl;
  within = ((omega arith), (omega arith));
  bytes = refl;
  ending = refl;
  empty = λ q. refl;
  have = tt;
  others_text = tt;
  unnamed = tt;
  last_within = tt;
  last_pair = refl;
}

-- A pair is taken out of parts.
parts-taken : (d : List ℕ) (named : List ℕ → Bool) (ps : List Part) (before : List Piece) (g : List HeldLine) (after qs : List Piece)
    → IsAt d named ps before (parts.own g) after
    → ArePartsOf d named (parts_behind d (get_or ps (length before) no_part).ending (drop (suc (length before)) ps)) qs
    → ArePartsOf d named (taken_out d (length before) ps) (before ++ parts.others [] ∷ qs)
parts-taken d named ps before g after qs at k =
    let n = length before in
    let back = parts_behind d (get_or ps n no_part).ending (drop (suc n) ps) in
    rw (plus-one n) (parts-append d named (take n ps) before (no_part ∷ back) (parts.others [] ∷ qs) at.front (no-part d named, k))

-- ---- groups without a key

-- the groups that are left
abbrev pub left_of : Encoding → List ℕ → List (List HeldLine) → List (List HeldLine)
left_of e key gs = groups_after e (removal key gs) gs

-- Groups without the key stay.
pub stays-front : (e : Encoding) (key : List ℕ) (gs rest : List (List HeldLine)) → AllOther key gs → left_of e key (gs ++ rest) ≡ gs ++ left_of e key rest
stays-front e key [] rest m = refl
stays-front e key (g ∷ gs) rest m = rw m.0 (ap (λ v. g ∷ v) (stays-front e key gs rest m.1))

abbrev pub IsTail : Encoding → List (List HeldLine) → Type 0
IsTail e gs = (gs ≡ []) ⊎ AreInTurn e gs

pub tail-next : (e : Encoding) (g : List HeldLine) (rest : List (List HeldLine)) → AreInTurn e (g ∷ rest) → IsTail e rest
tail-next e g [] a = inl refl
tail-next e g (h ∷ gs) a = inr a.1

pub tail-back : (e : Encoding) (gs rest : List (List HeldLine)) → IsTail e (gs ++ rest) → IsTail e rest
tail-back e [] rest t = t
tail-back e (g ∷ gs) rest (inl none) = absurd (cc)
tail-back e (g ∷ gs) rest (inr a) = tail-back e gs rest (tail-next e g (gs ++ rest) a)

-- Lines without bytes have no key.
line-other : (e : Encoding) (key : List ℕ) (line : List (List HeldLine)) → groups_bytes line ≡ [] → IsTail e line → AllOther key line
line-other e key [] n t = tt
line-other e key (g ∷ gs) n (inl none) = absurd (cc)
line-other e key (g ∷ gs) n (inr a) =
    let unended = left-none (unended_bytes g) (ending_bytes (last_ending g)) (sym (bytes-unended g) ∙ left-none (group_bytes g) (groups_bytes gs) n) in
    let own = turn-first e g gs a in
    (lf-no_key e own.0 key g own.1 unended, line-other e key gs (right-none (group_bytes g) (groups_bytes gs) n) (tail-next e g gs a))
  where
    right-none : (x y : List ℕ) → x ++ y ≡ [] → y ≡ []
    right-none [] y q = q
    right-none (c ∷ x) y q = absurd (cc)

-- No group has a key without a place.
pub all-other : (d : List ℕ) (named : List ℕ → Bool) (e : Encoding) (key : List ℕ) (n : ℕ) (ps : List Part) (pieces : List Piece) (line : List (List HeldLine))
    → named key ≡ true → ArePartsOf d named ps pieces → groups_bytes line ≡ [] → IsTail e (pieces_groups pieces ++ line)
    → places_with key n (map piece_said pieces) ≡ [] → AllOther key (pieces_groups pieces ++ line)
all-other d named e key n ps pieces line is k no_bytes tail none =
    other-append key (pieces_groups pieces) line (other-pieces d named key is n ps pieces k none)
    (line-other e key line no_bytes (tail-back e (pieces_groups pieces) line tail))

-- ---- groups in turn

pub nil-left : (x y : List (List HeldLine)) → x ++ y ≡ [] → x ≡ []
nil-left [] y q = refl
nil-left (c ∷ x) y q = absurd (cc)

pub turn-from : (e : Encoding) (xs : List (List HeldLine)) (g : List HeldLine) (ys : List (List HeldLine)) → AreInTurn e (xs ++ g ∷ ys) → AreInTurn e (g ∷ ys)
turn-from e [] g ys a = a
turn-from e (x ∷ []) g ys a = a.1
turn-from e (x ∷ z ∷ xs) g ys a = turn-from e (z ∷ xs) g ys a.1

turn-with : (e : Encoding) (xs : List (List HeldLine)) (g : List HeldLine) (ys zs : List (List HeldLine)) → AreInTurn e (xs ++ g ∷ ys) → AreInTurn e zs
    → AreInTurn e (xs ++ zs)
turn-with e [] g ys zs a b = b
turn-with e (x ∷ []) g ys zs a b = turn-cons e x zs a.0 b
turn-with e (x ∷ z ∷ xs) g ys zs a b = (a.0, turn-with e (z ∷ xs) g ys zs a.1 b)

pub final-append : (xs : List (List HeldLine)) (y : List HeldLine) (ys : List (List HeldLine)) → final_group (xs ++ y ∷ ys) ≡ final_group (y ∷ ys)
final-append [] y ys = refl
final-append (x ∷ []) y ys = refl
final-append (x ∷ z ∷ xs) y ys = final-append (z ∷ xs) y ys

-- what separates a new pair from the last of these groups
abbrev pub closing_after : List (List HeldLine) → Closing
closing_after gs = closing_of (is_empty_line (final_group gs)) (is_left_open (final_group gs))

-- Nothing does, if it is an empty line.
pub line-closing : (e : Encoding) (gs : List (List HeldLine)) (l : List HeldLine) → AreInTurn e (gs ++ l ∷ []) → group_bytes l ≡ []
    → closing_after (gs ++ l ∷ []) ≡ Nothing
line-closing e gs l turn none = rw (final-append gs l [], last-line e l (turn-from e gs l [] turn) none) refl

-- ---- a group that goes

-- what comes in the place of a group and those behind it
abbrev going : Encoding → List HeldLine → List (List HeldLine) → List (List HeldLine)
going e g [] = (no_line e ∷ []) ∷ []
going e g (h ∷ gs) = behind g (h ∷ gs)

going-turn : (e : Encoding) (g : List HeldLine) (rest : List (List HeldLine)) → AreInTurn e (g ∷ rest) → AreInTurn e (going e g rest)
going-turn e g [] a = last-empty e
going-turn e g (h ∷ gs) a = elim (cases_Bool (are_one_ending g h)) [
  | inl q ↦ rw q (after-lf e h gs a.1 (one-ending g h q).by_lf)
  | inr q ↦ rw q a.1
]

going-left : (e : Encoding) (key : List ℕ) (g : List HeldLine) (rest : List (List HeldLine)) → has_key key g ≡ true
    → left_of e key (g ∷ rest) ≡ left_of e key (going e g rest)
going-left e key g [] k =
    let n : has_key key (no_line e ∷ []) ≡ false = lf-no_key e None key (no_line e ∷ []) (last-empty e).0 refl in rw (k, n) refl
going-left e key g (h ∷ gs) k = elim (cases_Bool (are_one_ending g h)) [ inl q ↦ rw (k, q) refl | inr q ↦ rw (k, q) refl ]

going-final : (e : Encoding) (front : List (List HeldLine)) (g h : List HeldLine) (gs : List (List HeldLine)) → AreInTurn e (g ∷ h ∷ gs)
    → final_group (front ++ behind g (h ∷ gs)) ≡ final_group (front ++ g ∷ h ∷ gs)
going-final e front g h gs a = elim (cases_Bool (are_one_ending g h)) [
  | inl q ↦ rw q (of-rest gs (after-lf e h gs a.1 (one-ending g h q).by_lf))
  | inr q ↦ rw q (final-append front h gs ∙ sym (final-append front g (h ∷ gs)))
]
  where
    of-rest : (gs : List (List HeldLine)) → AreInTurn e gs → final_group (front ++ gs) ≡ final_group (front ++ g ∷ h ∷ gs)
    of-rest [] a = absurd a
    of-rest (i ∷ is) a = final-append front i is ∙ sym (final-append front g (h ∷ i ∷ is))

-- ---- empty parts at the end

-- Only a part without groups is empty.
pub empty-none : (d : List ℕ) (named : List ℕ → Bool) (p : Part) (q : Piece) → IsPartOf d named p q → is_empty_part p ≡ true → q ≡ parts.others []
empty-none d named p (parts.others []) k e = refl
empty-none d named p (parts.own h) k e = let n = some-text d p.text (λ z. k.some (sym k.bytes ∙ z)) in absurd (cc)
empty-none d named p (parts.others (h ∷ hs)) k e =
    let n = some-text d p.text (λ z. k.have.0 (left-none (group_bytes h) (groups_bytes hs) (sym k.bytes ∙ z))) in absurd (cc)

abbrev pub IsShorter : List Part → Type 0
IsShorter ps = length (without_empty_end ps) < length ps

before-length : (p : Part) (ps : List Part) → length (before_end p ps) ≤ suc (length ps)
before-length p (s ∷ ss) = omega arith
before-length p [] = elim (cases_Bool (is_empty_part p)) [ inl e ↦ rw e (omega arith) | inr e ↦ rw e (omega arith) ]

shorter-push : (xs ys : List Part) → IsShorter ys → IsShorter (xs ++ ys)
shorter-push [] ys s = s
shorter-push (x ∷ xs) ys s = let m = shorter-push xs ys s in let l = before-length x (without_empty_end (xs ++ ys)) in omega arith

module _ (d : List ℕ) (named : List ℕ → Bool) where
  -- Parts without groups are all dropped,
  no-groups : (ps : List Part) (qs : List Piece) → ArePartsOf d named ps qs → pieces_groups qs ≡ [] → without_empty_end ps ≡ []
  no-groups [] qs k z = refl
  no-groups (p ∷ ps) [] k z = absurd k
  no-groups (p ∷ ps) (parts.own g ∷ qs) k z = absurd (cc)
  no-groups (p ∷ ps) (parts.others (g ∷ gs) ∷ qs) k z = absurd (cc)
  no-groups (p ∷ ps) (parts.others [] ∷ qs) k z = rw (no-groups ps qs k.1 z, k.0.empty refl) refl

  pub shorter-taken : (ps : List Part) (n : ℕ) (qs : List Piece) → ArePartsOf d named (parts_behind d (get_or ps n no_part).ending (drop (suc n) ps)) qs
      → pieces_groups qs ≡ [] → IsShorter (taken_out d n ps)
  shorter-taken ps n qs k z =
      let next : n + 1 ≡ suc n = omega arith in
      let back = parts_behind d (get_or ps n no_part).ending (drop (suc n) ps) in
      let nothing = no-groups back qs k z in
      rw next (shorter-push (take n ps) (no_part ∷ back) (rw nothing (omega arith)))

  -- and none, if the last piece is a group.
  pub alone-trimmed : (ps : List Part) (qs : List Piece) → ArePartsOf d named ps qs → EndsAlone qs → without_empty_end ps ≡ ps
  alone-trimmed [] qs k a = refl
  alone-trimmed (p ∷ ps) [] k a = absurd k
  alone-trimmed (p ∷ []) (q ∷ []) k a = elim (cases_Bool (is_empty_part p)) [
    | inl e ↦ let no = sym (ap piece_groups (empty-none d named p q k.0 e)) ∙ a.1 in absurd (cc)
    | inr n ↦ rw n refl
  ]
  alone-trimmed (p ∷ []) (q ∷ r ∷ rs) k a = absurd k.1
  alone-trimmed (p ∷ s ∷ ss) (q ∷ []) k a = absurd k.1
  alone-trimmed (p ∷ s ∷ ss) (q ∷ r ∷ rs) k a = ap (before_end p) (alone-trimmed (s ∷ ss) (r ∷ rs) k.1 a)

  -- These parts stand for the groups of the pieces, and say the same of keys.
  record StandAlike (ps : List Part) (qs : List Piece) : Type 0 where
    pieces : List Piece
    are_parts : ArePartsOf d named ps pieces
    groups : pieces_groups qs ≡ pieces_groups pieces
    alike : (key : List ℕ) (n : ℕ) → SayAlike key n (map piece_said pieces) (map piece_said qs)

  no-pieces : (qs : List Piece) → ArePartsOf d named [] qs → qs ≡ []
  no-pieces [] k = refl
  no-pieces (q ∷ qs) k = absurd k

  trimmed : (ps : List Part) (qs : List Piece) → ArePartsOf d named ps qs → StandAlike (without_empty_end ps) qs
  trimmed [] [] k = record { pieces = []; are_parts = k; groups = refl; alike = λ key n. (refl, refl) }
  trimmed [] (q ∷ qs) k = absurd k
  trimmed (p ∷ ps) [] k = absurd k
  trimmed (p ∷ ps) (q ∷ qs) k = of-rest (without_empty_end ps) (trimmed ps qs k.1)
    where
      kept : (rest : List Part) → StandAlike rest qs → StandAlike (p ∷ rest) (q ∷ qs)
      kept rest m = record {
        pieces = q ∷ m.pieces;
        are_parts = (k.0, m.are_parts);
        groups = ap (λ v. piece_groups q ++ v) m.groups;
        alike = λ key n. let a = m.alike key (suc n) in
            (ap (place_if (said_with key (piece_said q)) n) a.0, ap (λ v. option_or v (value_if key (piece_said q))) a.1);
      }

      of-rest : (rest : List Part) → StandAlike rest qs → StandAlike (before_end p rest) (q ∷ qs)
      of-rest (s ∷ ss) m = kept (s ∷ ss) m
      of-rest [] m = elim (cases_Bool (is_empty_part p)) [
        | inl e ↦
            let nothing = no-pieces m.pieces m.are_parts in
            rw (e, empty-none d named p q k.0 e) (record {
              pieces = [];
              are_parts = tt;
              groups = m.groups ∙ ap pieces_groups nothing;
              alike = λ key n. let a = m.alike key (suc n) in (
                ap (λ v. places_with key (suc n) (map piece_said v)) (sym nothing) ∙ a.0,
                ap (λ v. value_said key (map piece_said v)) (sym nothing) ∙ a.1 ∙ sym (or-none (value_said key (map piece_said qs))),
              );
            })
        | inr n ↦ rw n (kept [] m)
      ]

-- ---- one pair is taken out

-- Pieces without groups have no place.
none-placed : (key : List ℕ) (n : ℕ) (qs : List Piece) → pieces_groups qs ≡ [] → places_with key n (map piece_said qs) ≡ []
none-placed key n [] z = refl
none-placed key n (parts.own g ∷ qs) z = absurd (cc)
none-placed key n (parts.others (g ∷ gs) ∷ qs) z = absurd (cc)
none-placed key n (parts.others [] ∷ qs) z = none-placed key (suc n) qs z

-- The line at the end stays.
pub end-with : (ps qs : List Piece) (line : List (List HeldLine)) → IsEnd ps line → (line ≡ [] → EndsAlone ps → EndsAlone qs) → IsEnd qs line
end-with ps qs [] k more = more refl k
end-with ps qs (l ∷ []) k more = k
end-with ps qs (l ∷ m ∷ ls) k more = k

module _ (d : List ℕ) (named : List ℕ → Bool) (e : Encoding) (key : List ℕ) (is_named : named key ≡ true) (gs : List (List HeldLine)) (said : List Said) where
  -- Parts are left, of which those in these places have the key: they stand for groups of which the removal leaves the
  -- same.
  pub record AreLeft (ps : List Part) (is : List ℕ) : Type 0 where
    pub groups : List (List HeldLine)
    pub pieces : List Piece
    pub turn : AreInTurn e groups
    pub are_parts : ArePartsOf d named ps pieces
    pub ended : AreEnded pieces groups
    pub left : left_of e key groups ≡ left_of e key gs
    pub places : places_with key 0 (map piece_said pieces) ≡ is
    pub others : (j : List ℕ) → bytes_eq key j ≡ false → SayAlike j 0 (map piece_said pieces) said
    pub closing : (closing_after groups ≡ closing_after gs) ⊎ (is ≡ []) × IsShorter ps

  module _ (i : ℕ) (is : List ℕ) (ps : List Part) (m : AreLeft ps (i ∷ is)) where
    abbrev k : IsOwn key 0 [] i is m.pieces
    k = own-at key 0 [] i is m.pieces m.places

    abbrev line : List (List HeldLine)
    line = m.ended.line

    abbrev front : List (List HeldLine)
    front = pieces_groups k.before

    abbrev rest : List (List HeldLine)
    rest = pieces_groups k.after ++ line

    division : m.groups ≡ front ++ k.group ∷ rest
    division = own-division m.groups k m.ended

    turn : AreInTurn e (front ++ k.group ∷ rest)
    turn = subst (AreInTurn e) division m.turn

    group-turn : AreInTurn e (k.group ∷ rest)
    group-turn = turn-from e front k.group rest turn

    held : ArePartsOf d named ps (k.before ++ parts.own k.group ∷ k.after)
    held = subst (ArePartsOf d named ps) k.are_pieces m.are_parts

    abbrev at : IsAt d named ps k.before (parts.own k.group) k.after
    at = parts-at d named ps k.before (parts.own k.group) k.after held

    abbrev cut : IsCut d named (parts_behind d (get_or ps (length k.before) no_part).ending (drop (suc (length k.before)) ps)) k.after line (behind k.group rest)
    cut =
        parts-behind d named e line (end-bytes m.pieces line m.ended.end) k.group (drop (suc (length k.before)) ps) k.after at.back
        (get_or ps (length k.before) no_part).ending at.part.ending group-turn

    abbrev pieces : List Piece
    pieces = k.before ++ parts.others [] ∷ cut.pieces

    abbrev new : List Part
    new = taken_out d (length k.before) ps

    says : (q : Piece) (qs : List Piece) → map piece_said qs ≡ map piece_said k.after
        → map piece_said (k.before ++ q ∷ qs) ≡ map piece_said k.before ++ piece_said q ∷ map piece_said k.after
    says q qs same = map-append piece_said k.before (q ∷ qs) ∙ ap (λ v. map piece_said k.before ++ piece_said q ∷ v) same

    front-other : AllOther key front
    front-other = other-pieces d named key is_named 0 (take (length k.before) ps) k.before at.front k.earlier

    left-is : left_of e key (front ++ going e k.group rest) ≡ left_of e key gs
    left-is =
        stays-front e key front (going e k.group rest) front-other ∙ ap (λ v. front ++ v) (sym (going-left e key k.group rest k.has))
        ∙ sym (stays-front e key front (k.group ∷ rest) front-other) ∙ sym (ap (left_of e key) division) ∙ m.left

    places-left : places_with key 0 (map piece_said pieces) ≡ is
    places-left =
        let size = length-map k.before piece_said in
        let place = k.at in
        let same : suc (0 + length (map piece_said k.before)) ≡ suc i = omega arith in
        ap (places_with key 0) (says (parts.others []) cut.pieces cut.said)
        ∙ places-append key 0 (map piece_said k.before) (None ∷ map piece_said k.after)
        ∙ ap₂ (λ x y. x ++ y) k.earlier (ap (λ n. places_with key n (map piece_said k.after)) same ∙ k.later)

    others-left : (j : List ℕ) → bytes_eq key j ≡ false → SayAlike j 0 (map piece_said pieces) said
    others-left j b =
        let no = other-said key j (group_said k.group) (sym (said-key key k.group) ∙ k.has) b in
        let alike = alike-other j None (group_said k.group) refl no (map piece_said k.before) (map piece_said k.after) 0 in
        let was = m.others j b in
        let pieces_are = says (parts.others []) cut.pieces cut.said in
        let were = ap (map piece_said) k.are_pieces ∙ says (parts.own k.group) k.after refl in (
          ap (places_with j 0) pieces_are ∙ alike.0 ∙ sym (ap (places_with j 0) were) ∙ was.0,
          ap (value_said j) pieces_are ∙ alike.1 ∙ sym (ap (value_said j) were) ∙ was.1,
        )

    left-by : AreEnded pieces (front ++ going e k.group rest)
        → (closing_after (front ++ going e k.group rest) ≡ closing_after gs) ⊎ (is ≡ []) × IsShorter new → AreLeft new is
    left-by ended closing = record {
      groups = front ++ going e k.group rest;
      pieces = pieces;
      turn = turn-with e front k.group rest (going e k.group rest) turn (going-turn e k.group rest group-turn);
      are_parts = parts-taken d named ps k.before k.group k.after cut.pieces at cut.are_parts;
      ended = ended;
      left = left-is;
      places = places-left;
      others = others-left;
      closing = closing;
    }

    -- Nothing is behind the pair, so that an empty line is left of it,
    last-left : rest ≡ [] → AreLeft new is
    last-left none =
        let nothing = nil-left (pieces_groups cut.pieces) line (cut.groups ∙ ap (behind k.group) none) in
        let empty = (no_line e ∷ []) ∷ [] in
        left-by (record {
          line = empty;
          division = ap (λ v. front ++ going e k.group v) none
              ∙ sym (groups-at-piece k.before (parts.others []) cut.pieces empty ∙ ap (λ v. front ++ (v ++ empty)) nothing);
          end = refl;
        }) (inr (
          sym k.later ∙ none-placed key (suc i) k.after (nil-left (pieces_groups k.after) line none),
          shorter-taken d named ps (length k.before) cut.pieces cut.are_parts nothing,
        ))

    -- or other groups are.
    next-left : (h : List HeldLine) (hs : List (List HeldLine)) → rest ≡ h ∷ hs → AreLeft new is
    next-left h hs some =
        let next = subst (λ v. AreInTurn e (k.group ∷ v)) some group-turn in
        let going_is : going e k.group rest ≡ behind k.group (h ∷ hs) = ap (going e k.group) some in
        let all : pieces_groups cut.pieces ++ line ≡ going e k.group rest = cut.groups ∙ ap (behind k.group) some ∙ sym going_is in
        let final = ap (λ v. final_group (front ++ v)) going_is ∙ going-final e front k.group h hs next
        ∙ ap (λ v. final_group (front ++ k.group ∷ v)) (sym some) ∙ ap final_group (sym division) in
        left-by (record {
          line = line;
          division = sym (groups-at-piece k.before (parts.others []) cut.pieces line ∙ ap (λ v. front ++ v) all);
          end = end-with m.pieces pieces line m.ended.end (λ none alone.
              alone-with k.before (parts.own k.group) k.after (parts.others [] ∷ cut.pieces)
              (λ a. alone-cons (parts.others []) cut.pieces (cut.alone
              (λ z. turn-some e (going e k.group rest) (going-turn e k.group rest group-turn) (sym all ∙ ap₂ (λ x y. x ++ y) z none))
              (after-alone k.after (λ z. let no : h ∷ hs ≡ [] = sym some ∙ ap₂ (λ x y. pieces_groups x ++ y) z none in absurd (cc)) a)))
              (subst EndsAlone k.are_pieces alone));
        }) (elim m.closing [
          | inl c ↦ inl (ap (λ g. closing_of (is_empty_line g) (is_left_open g)) final ∙ c)
          | inr none ↦ let no = none.0 in absurd (cc)
        ])
      where
        after-alone : (qs : List Piece) → qs ≢ [] → EndsAlone (parts.own k.group ∷ qs) → EndsAlone qs
        after-alone [] n a = absurd (n refl)
        after-alone (q ∷ qs) n a = a

    pub left-next : AreLeft (taken_out d i ps) is
    left-next =
        let at : length k.before ≡ i = let a = k.at in omega arith in
        subst (λ n. AreLeft (taken_out d n ps) is) at (of-rest rest refl)
      where
        of-rest : (hs : List (List HeldLine)) → rest ≡ hs → AreLeft new is
        of-rest [] none = last-left none
        of-rest (h ∷ hs) some = next-left h hs some

  -- All are taken out.
  pub left-all : (is : List ℕ) (ps : List Part) → AreLeft ps is → AreLeft (taken_all d is ps) []
  left-all [] ps m = m
  left-all (i ∷ is) ps m = left-all is (taken_out d i ps) (left-next i is ps m)

-- ---- whether a pair has the key

no-value : (key : List ℕ) (gs : List (List HeldLine)) → AllOther key gs → value_among key gs ≡ None
no-value key [] m = refl
no-value key (g ∷ gs) m = ap₂ option_or (no-value key gs m.1) (other-value key (group_said g) (sym (said-key key g) ∙ m.0))

nothing-if : (b : Bool) (closing : Closing) → closing ≡ Nothing → (if b then Nothing else closing) ≡ Nothing
nothing-if true closing h = refl
nothing-if false closing h = h

-- ---- a key is removed

module _ (d : List ℕ) (named : List ℕ → Bool) (e : Encoding) (key : List ℕ) (is_named : named key ≡ true) (gs : List (List HeldLine)) (old new : Parts)
    (turn : AreInTurn e gs) (s : StandFor d named gs old) (f : ForgetsKey key old.keys new.keys) where
  abbrev said : List Said
  said = map piece_said s.pieces

  abbrev Left : List Part → List ℕ → Type 0
  Left ps is = AreLeft d named e key is_named gs said ps is

  -- At first, all are left.
  abbrev first : (is : List ℕ) → key_places old key ≡ is → Left old.parts.items is
  first is q = record {
    groups = gs;
    pieces = s.pieces;
    turn = turn;
    are_parts = s.are_parts;
    ended = s.ended;
    left = refl;
    places = sym (s.placed.places key) ∙ q;
    others = λ j b. (refl, refl);
    closing = inl refl;
  }

  -- In the end, no pair has the key.
  module _ (ps : List Part) (m : Left ps []) where
    none-left : AllOther key m.groups
    none-left =
        subst (AllOther key) (sym m.ended.division)
        (all-other d named e key 0 ps m.pieces m.ended.line is_named m.are_parts (end-bytes m.pieces m.ended.line m.ended.end)
        (inr (subst (AreInTurn e) m.ended.division m.turn)) m.places)

    all-left : m.groups ≡ left_of e key gs
    all-left = sym (ap (left_of e key) (sym (append-nil m.groups)) ∙ stays-front e key m.groups [] none-left ∙ append-nil m.groups) ∙ m.left

    placed-left : (us : List Said) → ((j : List ℕ) (n : ℕ) → SayAlike j n us (map piece_said m.pieces)) → ArePlaced us new.keys
    placed-left us alike =
        placed-stored key None old.keys new.keys said us f.stored f.ordered f.all s.placed (sym ((alike key 0).0 ∙ m.places))
        (λ all. sym ((alike key 0).1 ∙ none-value key 0 (map piece_said m.pieces) m.places))
        (λ j b. let o = m.others j b in ((alike j 0).0 ∙ o.0, (alike j 0).1 ∙ o.1))

    left-stands : new.parts.items ≡ without_empty_end ps → new.closing ≡ (if nat_lt (length new.parts.items) (length ps) then Nothing else old.closing)
        → StandFor d named (left_of e key gs) new
    left-stands items closing = subst (λ v. StandFor d named v new) all-left (of-end m.ended.line refl m.ended.end)
      where
        of-end : (line : List (List HeldLine)) → m.ended.line ≡ line → IsEnd m.pieces line → StandFor d named m.groups new
        of-end [] is alone =
            let same = alone-trimmed d named ps m.pieces m.are_parts alone in
            let all = items ∙ same in
            let long : nat_lt (length new.parts.items) (length ps) ≡ false = rw all (le-ltb (length ps) (length ps) (omega arith)) in
            let kept : closing_after m.groups ≡ closing_after gs = elim m.closing [
              | inl c ↦ c
              | inr less ↦ let shorter = less.1 in let size = ap length same in absurd (omega arith)
            ] in
            record {
              pieces = m.pieces;
              ended = m.ended;
              are_parts = subst (λ v. ArePartsOf d named v m.pieces) (sym all) m.are_parts;
              placed = placed-left (map piece_said m.pieces) (λ j n. (refl, refl));
              closing = closing ∙ ap (λ b. if b then Nothing else old.closing) long ∙ s.closing ∙ sym kept;
            }
        of-end (l ∷ []) is none =
            let t = trimmed d named ps m.pieces m.are_parts in
            let division = m.ended.division ∙ ap (λ v. pieces_groups m.pieces ++ v) is in
            let nothing = ap closing_after division ∙ line-closing e (pieces_groups m.pieces) l (subst (AreInTurn e) division m.turn) none in
            record {
              pieces = t.pieces;
              ended = record { line = l ∷ []; division = division ∙ ap (λ v. v ++ l ∷ []) t.groups; end = none };
              are_parts = subst (λ v. ArePartsOf d named v t.pieces) (sym items) t.are_parts;
              placed = placed-left (map piece_said t.pieces) t.alike;
              closing = closing ∙ elim m.closing [
                | inl c ↦ nothing-if (nat_lt (length new.parts.items) (length ps)) old.closing (s.closing ∙ sym c ∙ nothing)
                | inr less ↦
                    ap (λ v. if nat_lt (length v) (length ps) then Nothing else old.closing) items
                    ∙ ap (λ b. if b then Nothing else old.closing) (lt-ltb (length (without_empty_end ps)) (length ps) less.1)
              ] ∙ sym nothing;
            }
        of-end (l ∷ q ∷ ls) is none = absurd none

  -- The parts stand for the groups without the pairs with the key, and it was told whether there were any.
  removed-by : (told : Bool) → RemovesPairs d key old told new → StandFor d named (left_of e key gs) new × (told ≡ is_some (value_among key gs))
  removed-by true r =
      let places = key_places old key in
      (left-stands _ (left-all d named e key is_named gs said places old.parts.items (first places refl)) r.1.1.items r.1.1.closing, some places refl r.1.0)
    where
      some : (is : List ℕ) → key_places old key ≡ is → is ≢ [] → true ≡ is_some (value_among key gs)
      some [] q n = absurd (n refl)
      some (i ∷ is) q n =
          let k = own-at key 0 [] i is s.pieces (sym (s.placed.places key) ∙ q) in
          sym (ap (λ v. is_some (value_said key v)) (ap (map group_said) (own-division gs k s.ended) ∙ map-append group_said (pieces_groups k.before) _)
          ∙ some-value key (map group_said (pieces_groups k.before)) (group_said k.group) _ (sym (said-key key k.group) ∙ k.has))
  removed-by false r =
      let m = first [] r.1.none in (
        subst (λ v. StandFor d named v new) (all-left old.parts.items m) (record {
          pieces = s.pieces;
          ended = s.ended;
          are_parts = subst (λ v. ArePartsOf d named v s.pieces) (sym (ap (λ v. v.items) r.1.parts)) s.are_parts;
          placed = placed-left old.parts.items m said (λ j n. (refl, refl));
          closing = r.1.closing ∙ s.closing;
        }),
        sym (ap is_some (no-value key gs (none-left old.parts.items m))),
      )

pub parts-removed : (d : List ℕ) (named : List ℕ → Bool) (e : Encoding) (key : List ℕ) (gs : List (List HeldLine)) (old new : Parts) (told : Bool)
    → named key ≡ true → AreInTurn e gs → StandFor d named gs old → RemovesPairs d key old told new
    → StandFor d named (left_of e key gs) new × (told ≡ is_some (value_among key gs)) × (new.keys.all ≡ old.keys.all)
parts-removed d named e key gs old new told is turn s r =
    let m = removed-by d named e key is gs old new turn s r.0 told r in (m.0, m.1, r.0.all)

-- ---- what a removal is given

parts-within : (d : List ℕ) (named : List ℕ → Bool) (ps : List Part) (qs : List Piece) → ArePartsOf d named ps qs → AreTextsWithin d ps
parts-within d named [] qs k = tt
parts-within d named (p ∷ ps) [] k = absurd k
parts-within d named (p ∷ ps) (parts.own g ∷ qs) k = (k.0.within, parts-within d named ps qs k.1)
parts-within d named (p ∷ ps) (parts.others gs ∷ qs) k = (k.0.within, parts-within d named ps qs k.1)

places-below : (key : List ℕ) (m n : ℕ) (ss : List Said) → n + length ss ≤ m → AreBelow m (places_with key n ss)
places-below key m n [] w = tt
places-below key m n (s ∷ ss) w =
    let rest = places-below key m (suc n) ss (omega arith) in
    elim (cases_Bool (said_with key s)) [ inl b ↦ rw b ((omega arith), rest) | inr b ↦ rw b rest ]

-- What `Parts::remove` asks of parts, they have.
pub removable : (d : List ℕ) (named : List ℕ → Bool) (key : List ℕ) (gs : List (List HeldLine)) (old : Parts) → StandFor d named gs old
    → AreTextsWithin d old.parts.items × AreBelow (length old.parts.items) (key_places old key)
removable d named key gs old s =
    let same = parts-length d named old.parts.items s.pieces s.are_parts in
    let mapped = length-map s.pieces piece_said in (
      parts-within d named old.parts.items s.pieces s.are_parts,
      subst (AreBelow (length old.parts.items)) (sym (s.placed.places key))
          (places-below key (length old.parts.items) 0 (map piece_said s.pieces) (omega arith)),
    )
