-- How a body is read into parts, group by group.
use Rattle.std.proofs.Common.{◌≡◌, ◌≢◌, ◌≤◌, ◌⊎◌, ℕ, ◌+◌, ◌-◌, Bool, true, false, List, [], ◌∷◌, ◌++◌, Option, Some, None, length, take, drop, refl, ap, ap₂, sym, ◌∙◌, subst, inl, inr, append-nil, append_assoc, length-append, arith, ltb-true, ltb-false}
use Rattle.std.specs.Global.{Vec}
use Rattle.std.specs.Prelude.{bytes_eq, map, nat_lt, max, if◌then◌else◌, ◌||◌}
use Rattle.std.specs.Option.{is_some, option_map, option_or}
use Rattle.std.specs.Str.{chars}
use Rattle.std.proofs.lemmas.Bool.{cases_Bool, cond-true, cond-false, le-ltb}
use Rattle.std.proofs.lemmas.List.{length-map, map-append}
use Rattle.std.proofs.lemmas.Slice.Eq.{bytes_eq-Decides}
use Rattle.std.proofs.Math.Seq.{take-append_seam}
use Rattle.properties_format.specs.Text.{LineEnding, lf, cr, crlf}
use Rattle.properties_format.specs.Encoding.{Encoding}
use Rattle.properties_format.specs.Body.{HeldLine, ending_bytes, group_bytes, groups_bytes, last_ending}
use Rattle.properties_format.specs.Edited.{final_group, is_editable, is_empty_line, is_left_open}
use Rattle.properties_format.specs.Computed.Body.{held_groups_of, unended_bytes}
use Rattle.properties_format.proofs.Body.Groups.{held-body, held_groups_of-meets, groups_bytes-append}
use Rattle.properties_format.proofs.Edited.Steps.{final_group-push}
use Rattle.properties_format.proofs.GroupsInTurn.Lines.{bytes-unended, lines-some, unended-some}
use Rattle.properties_format.proofs.GroupsInTurn.Merged.{AreInTurn, in-turn, turn-first}
use Rattle.properties_format.proofs.Plan.Slots.{lf-ignored}
use Rattle.properties_text.specs.Encoding.{encoding_of}
use Rattle.properties_items.specs.BorrowedItems.{outcome_pair}
use Rattle.properties_items.specs.Line.{ending_of}
use Rattle.properties_editing.specs.Private.Sound.{IsSoundFor, AreSoundFor}
use Rattle.properties_editing.specs.Private.BodyGroups.{IsWithin, TakesHeldGroup, groups_left, group_text, closing_of}
use Rattle.properties_editing.specs.Private.BodyParts.{outcome, place_if, length_place, HaveBytes, AddsOther, AddsReadPair, AddsTold, AreMasked, ArePartsOf, ArePlaced, AreUnplaced, ClosesGap, EndsAlone, HasPlaceAdded, IsPairPart, IsSpanWithin, NoneNamed, Piece, StandFor, ending_read, is_named, last_pair_bytes, names_group, names_said, no_gap, Said, piece_said, others_part, pair_bytes_of, pair_part, part_if, pieces_groups, places_with, span_bytes, span_of_group, stored_of, value_said, value_of}
use Rattle.std.specs.Int.{bit_at}
use Rattle.properties_editing.specs.Private.BodyParts as parts
use Rattle.properties_editing.specs.declared.source.Comments.{Comments}
use Rattle.properties_editing.specs.declared.groups.Group.{Group}
use Rattle.properties_editing.specs.declared.groups.GroupReader.{GroupReader}
use Rattle.properties_editing.specs.declared.bytes.BodySpan.{BodySpan}
use Rattle.properties_editing.specs.declared.groups.Closing.{Closing}
use Rattle.properties_editing.specs.declared.parts.PartText.TheVariants as text
use Rattle.properties_editing.specs.declared.parts.PartKind.TheVariants as kind
use Rattle.properties_editing.specs.declared.parts.Part.{Part}
use Rattle.properties_editing.specs.declared.parts.NamedKeys.{NamedKeys}
use Rattle.properties_editing.specs.declared.parts.Parts.{Parts}
use Rattle.properties_editing.specs.declared.parts.read.Gap.{Gap}
use Rattle.properties_editing.proofs.GroupsRead.{HasRead, read-all, read-more, read-none, some-groups}
use Rattle.properties_editing.proofs.BodyValues.{middle-of}
use Rattle.properties_editing.proofs.LastPairs.{part-at}
use Rattle.properties_editing.proofs.PartsAt.{alike-last, alone-push, or-assoc, or-none, parts-append, parts-length, pieces-append, placed-stored, places-append, value-append}

-- ---- one list after another

pub last-push : (gs : List (List HeldLine)) (g : List HeldLine) → last_pair_bytes (gs ++ g ∷ []) ≡ option_or (pair_bytes_of g) (last_pair_bytes gs)
last-push [] g = sym (or-none (pair_bytes_of g))
last-push (h ∷ gs) g = ap (λ v. option_or v (pair_bytes_of h)) (last-push gs g) ∙ or-assoc (pair_bytes_of g) (last_pair_bytes gs) (pair_bytes_of h)

pub none-append : (named : List ℕ → Bool) (gs hs : List (List HeldLine)) → NoneNamed named gs → NoneNamed named hs → NoneNamed named (gs ++ hs)
none-append named [] hs m n = n
none-append named (g ∷ gs) hs m n = (m.0, none-append named gs hs m.1 n)

none-front : (named : List ℕ → Bool) (gs hs : List (List HeldLine)) → NoneNamed named (gs ++ hs) → NoneNamed named gs
none-front named [] hs m = tt
none-front named (g ∷ gs) hs m = (m.0, none-front named gs hs m.1)

none-back : (named : List ℕ → Bool) (gs hs : List (List HeldLine)) → NoneNamed named (gs ++ hs) → NoneNamed named hs
none-back named [] hs m = m
none-back named (g ∷ gs) hs m = none-back named gs hs m.1

-- ---- bytes of groups in a body

pub left-none : (x y : List ℕ) → x ++ y ≡ [] → x ≡ []
left-none [] y q = refl
left-none (c ∷ x) y q = absurd (cc)

no-bytes-of : (x : List ℕ) → length x ≡ 0 → x ≡ []
no-bytes-of [] q = refl
no-bytes-of (b ∷ x) q = absurd (omega arith)

-- Groups that others follow have bytes.
pub front-have : (e : Encoding) (xs : List (List HeldLine)) (y : List HeldLine) (ys : List (List HeldLine)) → AreInTurn e (xs ++ y ∷ ys) → HaveBytes xs
front-have e [] y ys a = tt
front-have e (x ∷ []) y ys a = ((λ q. lines-some e a.0.0 x a.0.1 q), tt)
front-have e (x ∷ z ∷ xs) y ys a = ((λ q. lines-some e a.0.0 x a.0.1 q), front-have e (z ∷ xs) y ys a.1)

-- A pair has bytes.
pair-bytes : (e : Encoding) (g : List HeldLine) (ys : List (List HeldLine)) (key value : List ℕ) → AreInTurn e (g ∷ ys)
    → outcome_pair (outcome g) ≡ Some (key, value) → unended_bytes g ≢ []
pair-bytes e g ys key value a said q =
    let lines = turn-first e g ys a in
    let no = sym said ∙ ap outcome_pair (lf-ignored e lines.0 g lines.1 q) in
    absurd (cc)

-- Groups behind others are in turn.
turn-next : (e : Encoding) (x y : List HeldLine) (xs ys : List (List HeldLine)) → AreInTurn e (x ∷ (xs ++ y ∷ ys)) → AreInTurn e (xs ++ y ∷ ys)
turn-next e x y [] ys a = a.1
turn-next e x y (z ∷ xs) ys a = a.1

turn-back : (e : Encoding) (ps xs : List (List HeldLine)) (y : List HeldLine) (ys : List (List HeldLine)) → AreInTurn e ((ps ++ xs) ++ y ∷ ys)
    → AreInTurn e (xs ++ y ∷ ys)
turn-back e [] xs y ys a = a
turn-back e (p ∷ ps) xs y ys a = turn-back e ps xs y ys (turn-next e p y (ps ++ xs) ys a)

-- A last group without bytes is an empty line.
pub last-line : (e : Encoding) (g : List HeldLine) → AreInTurn e (g ∷ []) → group_bytes g ≡ [] → is_empty_line g ≡ true
last-line e g a q = unended-some e None g a.0 (left-none (unended_bytes g) (ending_bytes (last_ending g)) (sym (bytes-unended g) ∙ q))

-- Groups in the middle of a body are in this span.
pub record AreAt (d : List ℕ) (gs : List (List HeldLine)) (start end : ℕ) : Type 0 where
  pub ends : end ≡ start + length (groups_bytes gs)
  pub within : end ≤ length d
  pub bytes : take (end - start) (drop start d) ≡ groups_bytes gs

pub groups-at : (e : Encoding) (d : List ℕ) (front gs rest : List (List HeldLine)) (start end : ℕ) → is_editable e ≡ true
    → held_groups_of e d ≡ front ++ (gs ++ rest) → start ≡ length (groups_bytes front) → end ≡ start + length (groups_bytes gs) → AreAt d gs start end
groups-at e d front gs rest start end ok division starts ends =
    let a = groups_bytes front in
    let b = groups_bytes gs in
    let c = groups_bytes rest in
    let whole : d ≡ a ++ (b ++ c) =
    sym (held-body e d (held_groups_of e d) ok (held_groups_of-meets e d))
    ∙ ap groups_bytes division
    ∙ groups_bytes-append front (gs ++ rest)
    ∙ ap (λ v. a ++ v) (groups_bytes-append gs rest) in
    let size : length d ≡ length a + (length b + length c) = ap length whole ∙ length-append a (b ++ c) ∙ ap (λ n. length a + n) (length-append b c) in
    record { ends = ends; within = omega arith; bytes = ap (λ v. take (end - start) (drop start v)) whole ∙ middle-of a b c start end starts ends }

-- ---- a part of groups without a key that is named

-- the piece of groups, unless there are none
abbrev pub others_piece : List (List HeldLine) → List Piece
others_piece [] = []
others_piece (g ∷ gs) = parts.others (g ∷ gs) ∷ []

pub others-groups : (gs : List (List HeldLine)) → pieces_groups (others_piece gs) ≡ gs
others-groups [] = refl
others-groups (g ∷ gs) = append-nil (g ∷ gs)

abbrev others_of : ℕ → ℕ → Option BodySpan → Part
others_of start end last = record { text = text.Span (record { start = start; end = end }); ending = None; kind = kind.Others last }

-- It is pushed.
pub others-pushed : (d : List ℕ) (named : List ℕ → Bool) (gs : List (List HeldLine)) (start end : ℕ) (last : Option BodySpan) → AreAt d gs start end
    → HaveBytes gs → NoneNamed named gs → IsSpanWithin d last → option_map (span_bytes d) last ≡ last_pair_bytes gs
    → ArePartsOf d named (others_part start end last) (others_piece gs)
others-pushed d named [] start end last at have unnamed last_within is =
    let ends = at.ends in
    let no : nat_lt start end ≡ false = le-ltb start end (omega arith) in
    rw no tt
others-pushed d named (g ∷ gs) start end last at have unnamed last_within is =
    elim (cases_Bool (nat_lt start end)) [
      | inl k ↦
          rw k (
            record {
              last = last;
              kind = refl;
              within = let below = ltb-true start end k in ((omega arith), at.within);
              bytes = at.bytes;
              ending = refl;
              empty = λ q. absurd (cc);
              have = have;
              others_text = tt;
              unnamed = unnamed;
              last_within = last_within;
              last_pair = is;
            },
            tt,
          )
      | inr k ↦
          let above = ltb-false start end k in
          let ends = at.ends in
          let zero : end - start ≡ 0 = omega arith in
          let none : groups_bytes (g ∷ gs) ≡ [] = sym at.bytes ∙ ap (λ n. take n (drop start d)) zero in
          absurd (have.0 (left-none (group_bytes g) (groups_bytes gs) none))
    ]

-- ---- what is known while a body is read

-- The gap is these groups: none, or some of which it knows the last one.
pub record IsGapTo (d : List ℕ) (gap : Gap) (left : List (List HeldLine)) : Type 0 where
  pub front : List (List HeldLine)
  pub group : List HeldLine
  pub division : left ≡ front ++ group ∷ []
  pub last_starts : gap.last_start ≡ gap.start + length (groups_bytes front)
  pub before_is : option_map (span_bytes d) gap.before ≡ last_pair_bytes front
  pub last_is : option_map (span_bytes d) gap.last ≡ pair_bytes_of group
  pub before_within : IsSpanWithin d gap.before
  pub last_within : IsSpanWithin d gap.last

abbrev pub IsGapOf : List ℕ → Gap → List (List HeldLine) → Type 0
IsGapOf d gap left = (left ≡ []) × (gap ≡ no_gap gap.start) ⊎ IsGapTo d gap left

or-map : {X Y : Type 0} (f : X → Y) (a b : Option X) → option_map f (option_or a b) ≡ option_or (option_map f a) (option_map f b)
or-map f None b = refl
or-map f (Some x) b = refl

-- It knows the last pair of all.
gap-last : (d : List ℕ) (gap : Gap) (left : List (List HeldLine)) → IsGapOf d gap left
    → option_map (span_bytes d) (option_or gap.last gap.before) ≡ last_pair_bytes left
gap-last d gap left (inl (none, is)) = ap (λ v. let g : Gap = v in option_map (span_bytes d) (option_or g.last g.before)) is ∙ sym (ap last_pair_bytes none)
gap-last d gap left (inr k) =
    or-map (span_bytes d) gap.last gap.before
    ∙ ap₂ option_or k.last_is k.before_is
    ∙ sym (last-push k.front k.group)
    ∙ sym (ap last_pair_bytes k.division)

or-within : (d : List ℕ) (a b : Option BodySpan) → IsSpanWithin d a → IsSpanWithin d b → IsSpanWithin d (option_or a b)
or-within d None b p q = q
or-within d (Some s) b p q = p

gap-within : (d : List ℕ) (gap : Gap) (left : List (List HeldLine)) → IsGapOf d gap left → IsSpanWithin d (option_or gap.last gap.before)
gap-within d gap left (inl (none, is)) = subst (λ v. let g : Gap = v in IsSpanWithin d (option_or g.last g.before)) (sym is) tt
gap-within d gap left (inr k) = or-within d gap.last gap.before k.last_within k.before_within

-- These groups of a body were read: those that parts stand for, and those of a gap.
pub record HasParted (comments : Comments) (e : Encoding) (body : List ℕ) (keys : NamedKeys) (s : GroupReader) (parts : Parts) (closing : Closing) (gap : Gap) : Type 0 where
  pub pieces : List Piece
  pub left : List (List HeldLine)
  pub read : HasRead comments e body (pieces_groups pieces ++ left) s
  pub are_parts : ArePartsOf body (is_named keys) parts.parts.items pieces
  pub placed : ArePlaced (map piece_said pieces) parts.keys
  pub same_named : (key : List ℕ) → is_named parts.keys key ≡ is_named keys key
  pub starts : gap.start ≡ length (groups_bytes (pieces_groups pieces))
  pub unnamed : NoneNamed (is_named keys) left
  pub is_gap : IsGapOf body gap left
  pub closes : (pieces_groups pieces ++ left ≡ [])
      ⊎ (closing ≡ closing_of (is_empty_line (final_group (pieces_groups pieces ++ left))) (is_left_open (final_group (pieces_groups pieces ++ left))))
  pub all : parts.keys.all ≡ keys.all
  pub masked : AreMasked parts.keys
  pub ends : (pieces ≡ []) ⊎ EndsAlone pieces

pub parted-none : (comments : Comments) (body : List ℕ) (keys : NamedKeys) (s : GroupReader) (parts : Parts) (closing : Closing) → s.scanner.at ≡ 0 → s.scanner.passed ≡ 0
    → s.scanner.is_done ≡ false → IsWithin body s → AreUnplaced keys → parts.keys ≡ keys → parts.parts.items ≡ []
    → HasParted comments (encoding_of s.scanner.encoding) body keys s parts closing (no_gap 0)
parted-none comments body keys s parts closing at passed going w unplaced same none = record {
  pieces = [];
  left = [];
  read = read-none comments body s at passed going w;
  are_parts = rw none tt;
  placed = rw same (record {
    places = unplaced.none;
    values = λ all key. ap value_of (unplaced.unread all key);
    ordered = unplaced.ordered;
  });
  same_named = λ key. ap (λ v. is_named v key) same;
  starts = refl;
  unnamed = tt;
  is_gap = inl (refl, refl);
  closes = inl refl;
  all = ap (λ k. let j : NamedKeys = k in j.all) same;
  masked = subst AreMasked (sym same) unplaced.masked;
  ends = inl refl;
}

-- ---- the places of keys

or-true : (b : Bool) → (b || true) ≡ true
or-true true = refl
or-true false = refl

-- A part of groups without such a key is no place.
placed-others : (pieces : List Piece) (left : List (List HeldLine)) (keys : NamedKeys) → ArePlaced (map piece_said pieces) keys
    → ArePlaced (map piece_said (pieces ++ others_piece left)) keys
placed-others pieces [] keys h = subst (λ v. ArePlaced (map piece_said v) keys) (sym (append-nil pieces)) h
placed-others pieces (g ∷ gs) keys h = rw (map-append piece_said pieces (others_piece (g ∷ gs))) (record {
  places = λ key. h.places key ∙ sym (alike-last key None refl (map piece_said pieces) 0).0;
  values = λ all key. h.values all key ∙ sym (alike-last key None refl (map piece_said pieces) 0).1;
  ordered = h.ordered;
})

-- A pair more has a place.
module _ (said : List Said) (key value : List ℕ) (place : ℕ) (old new : NamedKeys) (k : HasPlaceAdded key value place old new) where
  pub placed-more : ArePlaced said old → place ≡ length said → ArePlaced (said ++ Some (key, value) ∷ []) new
  placed-more was size =
      let own = (bytes_eq-Decides key key).1 refl in
      let at : place ≡ 0 + length said = omega arith in
      placed-stored key (Some k.pair) old new said (said ++ Some (key, value) ∷ []) k.stored k.ordered k.all was
      (k.places ∙ ap₂ (λ v n. v ++ n ∷ []) (was.places key) at ∙ ap (λ b. places_with key 0 said ++ place_if b (0 + length said) []) (sym own)
      ∙ sym (places-append key 0 said (Some (key, value) ∷ [])))
      (λ all. ap Some (k.has_value all) ∙ ap (λ b. option_or (if b then Some value else None) (value_said key said)) (sym own)
      ∙ sym (value-append key said (Some (key, value) ∷ [])))
      (λ j b. alike-last j (Some (key, value)) b said 0)

  -- The same keys are named.
  named-more : is_named old key ≡ true → (j : List ℕ) → is_named new j ≡ is_named old j
  named-more has j = elim (cases_Bool (bytes_eq key j)) [
    | inl b ↦
        ap (λ v. new.all || is_some v) (k.stored j ∙ cond-true (bytes_eq key j) (Some k.pair) (stored_of old.places.entries j) b)
        ∙ or-true new.all
        ∙ sym has
        ∙ ap (is_named old) ((bytes_eq-Decides key j).0 b)
    | inr b ↦
        ap₂ (λ v w. v || is_some w) k.all (k.stored j ∙ cond-false (bytes_eq key j) (Some k.pair) (stored_of old.places.entries j) b)
  ]

-- The line ending behind a pair.
read-ending : (o : Option LineEnding) → option_map ending_of (ending_read (ending_bytes o)) ≡ o
read-ending None = refl
read-ending (Some lf) = refl
read-ending (Some cr) = refl
read-ending (Some crlf) = refl

ending-after : (d : List ℕ) (g : List HeldLine) (rest : List (List HeldLine)) (end next : ℕ) → drop end d ≡ ending_bytes (last_ending g) ++ groups_bytes rest
    → next ≡ end + length (ending_bytes (last_ending g)) → option_map ending_of (ending_read (take (next - end) (drop end d))) ≡ last_ending g
ending-after d g rest end next back size =
    let n : next - end ≡ length (ending_bytes (last_ending g)) = omega arith in
    ap (λ v. option_map ending_of (ending_read v))
    (ap₂ (λ m v. take m v) n back ∙ take-append_seam (ending_bytes (last_ending g)) (groups_bytes rest))
    ∙ read-ending (last_ending g)

ends-at : {body : List ℕ} {s t : GroupReader} {group : Group} (k : TakesHeldGroup body s group t) → t.scanner.at ≡ group.end + length (ending_bytes (last_ending k.held))
ends-at {body} {s} {t} {group} k =
    let sizes = ap length (bytes-unended k.held) ∙ length-append (unended_bytes k.held) (ending_bytes (last_ending k.held)) in
    let next = k.span.next in
    let unended = k.span.unended in
    omega arith

-- A group ends before the next one.
pub group-within : {body : List ℕ} {s t : GroupReader} {group : Group} (k : TakesHeldGroup body s group t) → group.end ≤ t.scanner.at
group-within k = let ends = ends-at k in omega arith

-- ---- a group that isn't a pair with a key that is named

-- Where the groups are in the body.
read-division : {comments : Comments} {e : Encoding} {body : List ℕ} {groups : List (List HeldLine)} {s t : GroupReader} {group : Group}
    → HasRead comments e body groups s → (k : TakesHeldGroup body s group t) → held_groups_of e body ≡ groups ++ k.held ∷ groups_left body t
read-division {comments} {e} {body} {groups} h k = h.all ∙ ap (λ v. groups ++ v) k.groups

closing-after : (groups others : List (List HeldLine)) (g : List HeldLine) (group : Group) (closing : Closing)
    → closing ≡ closing_of group.is_empty group.is_open → group.is_empty ≡ is_empty_line g → group.is_open ≡ is_left_open g → others ≡ groups ++ g ∷ []
    → closing ≡ closing_of (is_empty_line (final_group others)) (is_left_open (final_group others))
closing-after groups others g group closing is empty opens same =
    is ∙ ap₂ closing_of empty opens
    ∙ ap (λ v. closing_of (is_empty_line v) (is_left_open v)) (sym (ap final_group same ∙ final_group-push groups g))

module _ {comments : Comments} {e : Encoding} {body : List ℕ} {keys : NamedKeys} {s t : GroupReader} {group : Group} (old new : Parts) {was : Closing} (gap after : Gap)
    (h : HasParted comments e body keys s old was gap) (k : TakesHeldGroup body s group t) (sound : IsSoundFor comments (chars (group_text body t group)))
    (closing : Closing) (closes : closing ≡ closing_of group.is_empty group.is_open) where
  pub parted-other : (told : Option BodySpan) → AddsOther group told gap old after new → names_group (is_named keys) k.held ≡ false
      → IsSpanWithin body told → option_map (span_bytes body) told ≡ pair_bytes_of k.held
      → HasParted comments e body keys t new closing after
  parted-other told adds unnamed within is =
      let front = pieces_groups h.pieces in
      let same : front ++ (h.left ++ k.held ∷ []) ≡ (front ++ h.left) ++ k.held ∷ [] = sym (append_assoc front h.left (k.held ∷ [])) in
      let sizes : length (groups_bytes (front ++ h.left)) ≡ length (groups_bytes front) + length (groups_bytes h.left) =
      ap length (groups_bytes-append front h.left) ∙ length-append (groups_bytes front) (groups_bytes h.left) in
      let starts = h.starts in
      let placed = h.read.placed in
      let at = k.starts in
      let last_starts : group.start ≡ gap.start + length (groups_bytes h.left) = omega arith in
      rw adds.gap_after (record {
        pieces = h.pieces;
        left = h.left ++ k.held ∷ [];
        read = subst (λ v. HasRead comments e body v t) (sym same) (read-more h.read k sound);
        are_parts = subst (λ v. let ps : Vec Part = v in ArePartsOf body (is_named keys) ps.items h.pieces) (sym adds.parts) h.are_parts;
        placed = subst (ArePlaced (map piece_said h.pieces)) (sym adds.keys) h.placed;
        same_named = λ key. ap (λ v. is_named v key) adds.keys ∙ h.same_named key;
        starts = h.starts;
        unnamed = none-append (is_named keys) h.left (k.held ∷ []) h.unnamed (unnamed, tt);
        is_gap = inr (record {
          front = h.left;
          group = k.held;
          division = refl;
          last_starts = last_starts;
          before_is = gap-last body gap h.left h.is_gap;
          last_is = is;
          before_within = gap-within body gap h.left h.is_gap;
          last_within = within;
        });
        closes = inr (closing-after (front ++ h.left) (front ++ (h.left ++ k.held ∷ [])) k.held group closing closes k.span.empty k.span.opens same);
        all = ap (λ v. let j : NamedKeys = v in j.all) adds.keys ∙ h.all;
        masked = subst AreMasked (sym adds.keys) h.masked;
        ends = h.ends;
      })

  -- ---- a pair with a key that is named

  pub parted-pair : (key value : List ℕ) → is_editable e ≡ true → AddsReadPair body group t.scanner.at key value gap old after new
      → outcome_pair (outcome k.held) ≡ Some (key, value) → HasParted comments e body keys t new closing after
  parted-pair key value ok adds said =
      let named = is_named keys in
      let front = pieces_groups h.pieces in
      let g = k.held in
      let more = others_piece h.left in
      let pieces = (h.pieces ++ more) ++ parts.own g ∷ [] in
      let same : pieces_groups pieces ≡ (front ++ h.left) ++ g ∷ [] =
      pieces-append (h.pieces ++ more) (parts.own g ∷ [])
      ∙ ap (λ v. v ++ g ∷ []) (pieces-append h.pieces more ∙ ap (λ v. front ++ v) (others-groups h.left)) in
      let all : pieces_groups pieces ++ [] ≡ (front ++ h.left) ++ g ∷ [] = append-nil (pieces_groups pieces) ∙ same in
      let division = read-division h.read k in
      let turn : AreInTurn e ((front ++ h.left) ++ g ∷ groups_left body t) =
      subst (AreInTurn e) division (in-turn e body (held_groups_of e body) ok (held_groups_of-meets e body)) in
      let sizes : length (groups_bytes (front ++ h.left)) ≡ length (groups_bytes front) + length (groups_bytes h.left) =
      ap length (groups_bytes-append front h.left) ∙ length-append (groups_bytes front) (groups_bytes h.left) in
      let starts = h.starts in
      let placed = h.read.placed in
      let at = k.starts in
      let gap_ends : group.start ≡ gap.start + length (groups_bytes h.left) = omega arith in
      let gap_at = groups-at e body front h.left (g ∷ groups_left body t) gap.start group.start ok
      (division ∙ append_assoc front h.left (g ∷ groups_left body t)) h.starts gap_ends in
      let part = part-at e body (front ++ h.left) g (groups_left body t) group.start group.end ok division (k.starts ∙ h.read.placed) k.span.unended in
      let next = read-more h.read k sound in
      let p = pair_part (span_of_group group) (ending_read (take (t.scanner.at - group.end) (drop group.end body))) in
      let own : IsPairPart body named p g =
      record {
        kind = refl;
        within = (part.ordered, part.within);
        bytes = part.part;
        some = pair-bytes e g (groups_left body t) key value (turn-back e (front ++ h.left) [] g (groups_left body t)
            (subst (λ v. AreInTurn e (v ++ g ∷ groups_left body t)) (sym (append-nil (front ++ h.left))) turn)) said;
        ending = ending-after body g (groups_left body t) group.end t.scanner.at part.back (ends-at k);
        is_named_pair = ap (names_said named) said ∙ sym (h.same_named key) ∙ adds.named;
      } in
      let others = others-pushed body named h.left gap.start group.start (option_or gap.last gap.before) gap_at
      (front-have e h.left g (groups_left body t) (turn-back e front h.left g (groups_left body t) turn)) h.unnamed (gap-within body gap h.left h.is_gap) (gap-last body gap h.left h.is_gap) in
      let both = parts-append body named old.parts.items h.pieces
      (others_part gap.start group.start (option_or gap.last gap.before)) more h.are_parts others in
      let size : length adds.front ≡ length (h.pieces ++ more) =
      ap length adds.is_front ∙ parts-length body named (old.parts.items ++ others_part gap.start group.start (option_or gap.last gap.before)) (h.pieces ++ more) both in
      rw adds.gap_after (record {
        pieces = pieces;
        left = [];
        read = subst (λ v. HasRead comments e body v t) (sym all) next;
        are_parts = subst (λ v. ArePartsOf body named v pieces) (sym (adds.parts ∙ ap (λ v. v ++ p ∷ []) adds.is_front))
            (parts-append body named (old.parts.items ++ others_part gap.start group.start (option_or gap.last gap.before)) (h.pieces ++ more)
            (p ∷ []) (parts.own g ∷ []) both (own, tt));
        placed = subst (λ v. ArePlaced v new.keys) (ap (λ o. map piece_said (h.pieces ++ more) ++ o ∷ []) (sym said) ∙ sym (map-append piece_said (h.pieces ++ more) (parts.own g ∷ [])))
            (placed-more (map piece_said (h.pieces ++ more)) key value (length adds.front) old.keys new.keys adds.placed
            (placed-others h.pieces h.left old.keys h.placed) (size ∙ sym (length-map (h.pieces ++ more) piece_said)));
        same_named = λ j. named-more [] key value (length adds.front) old.keys new.keys adds.placed adds.named j ∙ h.same_named j;
        starts = next.placed ∙ ap (λ v. length (groups_bytes v)) (sym same);
        unnamed = tt;
        is_gap = inl (refl, refl);
        closes = inr (closing-after (front ++ h.left) (pieces_groups pieces ++ []) g group closing closes k.span.empty k.span.opens all);
        all = adds.placed.all ∙ h.all;
        masked = λ not j named. ap (λ n. bit_at n (length_place j)) adds.placed.lengths
            ∙ h.masked (sym adds.placed.all ∙ not) j
            (sym (named-more [] key value (length adds.front) old.keys new.keys adds.placed adds.named j) ∙ named);
        ends = inr (alone-push (h.pieces ++ more) (parts.own g) g refl);
      })

  -- ---- a group more

  pub parted-more : (told : Option (List ℕ × List ℕ)) → is_editable e ≡ true → AddsTold body group t.scanner.at told gap old after new
      → told ≡ outcome_pair (outcome k.held) → HasParted comments e body keys t new closing after
  parted-more None ok adds said =
      parted-other None adds (ap (names_said (is_named keys)) (sym said)) tt
      (ap (option_map (λ p. unended_bytes k.held)) said)
  parted-more (Some (key, value)) ok (inl adds) said = parted-pair key value ok adds (sym said)
  parted-more (Some (key, value)) ok (inr (unnamed, adds)) said =
      let other = sym (h.same_named key) ∙ unnamed in
      let division = read-division h.read k in
      let part = part-at e body (pieces_groups h.pieces ++ h.left) k.held (groups_left body t) group.start group.end ok division (k.starts ∙ h.read.placed) k.span.unended in
      parted-other (Some (span_of_group group)) adds
      (ap (names_said (is_named keys)) (sym said) ∙ other) (part.ordered, part.within)
      (ap Some part.part ∙ ap (option_map (λ p. unended_bytes k.held)) said)

-- ---- the last group

-- What is before the last group, and that group.
module _ {comments : Comments} {e : Encoding} {body : List ℕ} {keys : NamedKeys} {s : GroupReader} {closing : Closing} (old new : Parts) (gap : Gap)
    (h : HasParted comments e body keys s old closing gap) (done : s.scanner.is_done ≡ true) (ok : is_editable e ≡ true) (c : ClosesGap gap (length body) old new)
    (is_closing : new.closing ≡ closing) where
  abbrev named : List ℕ → Bool
  named = is_named keys

  abbrev front : List (List HeldLine)
  front = pieces_groups h.pieces

  all-read : held_groups_of e body ≡ front ++ h.left
  all-read = read-all h.read done

  all-closing : new.closing ≡ closing_of (is_empty_line (final_group (held_groups_of e body))) (is_left_open (final_group (held_groups_of e body)))
  all-closing = elim h.closes [
    | inl none ↦ absurd (some-groups e body (all-read ∙ none))
    | inr is ↦ is_closing ∙ is ∙ ap (λ v. closing_of (is_empty_line (final_group v)) (is_left_open (final_group v))) (sym all-read)
  ]

  all-placed : ArePlaced (map piece_said h.pieces) new.keys
  all-placed = subst (ArePlaced (map piece_said h.pieces)) (sym c.keys) h.placed

  -- No group is left in the gap.
  none-left : h.left ≡ [] → gap ≡ no_gap gap.start → StandFor body named (held_groups_of e body) new
  none-left none is =
      let all : held_groups_of e body ≡ front = all-read ∙ ap (λ v. front ++ v) none ∙ append-nil front in
      let whole : body ≡ groups_bytes front = sym (held-body e body (held_groups_of e body) ok (held_groups_of-meets e body)) ∙ ap groups_bytes all in
      let starts = h.starts in
      let sizes = ap length whole in
      let same : nat_lt gap.start gap.start ≡ false = le-ltb gap.start gap.start (omega arith) in
      let last : max gap.start gap.last_start ≡ gap.start = ap (λ v. let g : Gap = v in max gap.start g.last_start) is ∙ (omega arith) in
      let ends : nat_lt gap.start (length body) ≡ false = le-ltb gap.start (length body) (omega arith) in
      let items : new.parts.items ≡ old.parts.items =
      c.parts
      ∙ ap (λ n. (old.parts.items ++ others_part gap.start n gap.before) ++ others_part n (length body) gap.last) last
      ∙ ap₂ (λ a b. (old.parts.items ++ part_if a (others_of gap.start gap.start gap.before)) ++ part_if b (others_of gap.start (length body) gap.last)) same ends
      ∙ append-nil (old.parts.items ++ [])
      ∙ append-nil old.parts.items in
      record {
        pieces = h.pieces;
        ended = elim h.ends [
          | inl none_of ↦ absurd (some-groups e body (all ∙ ap pieces_groups none_of))
          | inr k ↦ record { line = []; division = all ∙ sym (append-nil front); end = k }
        ];
        are_parts = subst (λ v. ArePartsOf body named v h.pieces) (sym items) h.are_parts;
        placed = all-placed;
        closing = all-closing;
      }

  -- Groups are left in the gap: the last one is a part by itself, unless it is an empty line.
  some-left : IsGapTo body gap h.left → StandFor body named (held_groups_of e body) new
  some-left k =
      let rest = k.front in
      let g = k.group in
      let divided : held_groups_of e body ≡ front ++ (rest ++ g ∷ []) = all-read ∙ ap (λ v. front ++ v) k.division in
      let split : held_groups_of e body ≡ (front ++ rest) ++ g ∷ [] = divided ∙ sym (append_assoc front rest (g ∷ [])) in
      let turn : AreInTurn e ((front ++ rest) ++ g ∷ []) = subst (AreInTurn e) split (in-turn e body (held_groups_of e body) ok (held_groups_of-meets e body)) in
      let starts = h.starts in
      let last_starts = k.last_starts in
      let last : max gap.start gap.last_start ≡ gap.last_start = omega arith in
      let front_size : length (groups_bytes (front ++ rest)) ≡ length (groups_bytes front) + length (groups_bytes rest) =
      ap length (groups_bytes-append front rest) ∙ length-append (groups_bytes front) (groups_bytes rest) in
      let whole : length body ≡ length (groups_bytes (front ++ rest)) + length (groups_bytes (g ∷ [])) =
      ap length (sym (held-body e body (held_groups_of e body) ok (held_groups_of-meets e body)) ∙ ap groups_bytes split ∙ groups_bytes-append (front ++ rest) (g ∷ []))
      ∙ length-append (groups_bytes (front ++ rest)) (groups_bytes (g ∷ [])) in
      let group_starts : gap.last_start ≡ length (groups_bytes (front ++ rest)) = omega arith in
      let group_ends : length body ≡ gap.last_start + length (groups_bytes (g ∷ [])) = omega arith in
      let front_at = groups-at e body front rest (g ∷ []) gap.start gap.last_start ok divided h.starts k.last_starts in
      let group_at = groups-at e body (front ++ rest) (g ∷ []) [] gap.last_start (length body) ok split group_starts group_ends in
      let unnamed : NoneNamed named (rest ++ g ∷ []) = subst (NoneNamed named) k.division h.unnamed in
      let before = h.pieces ++ others_piece rest in
      let own = others_piece (g ∷ []) in
      let items : new.parts.items ≡ (old.parts.items ++ others_part gap.start gap.last_start gap.before) ++ others_part gap.last_start (length body) gap.last =
      c.parts ∙ ap (λ n. (old.parts.items ++ others_part gap.start n gap.before) ++ others_part n (length body) gap.last) last in
      let front_parts = parts-append body named old.parts.items h.pieces (others_part gap.start gap.last_start gap.before) (others_piece rest) h.are_parts
      (others-pushed body named rest gap.start gap.last_start gap.before front_at
      (front-have e rest g [] (turn-back e front rest g [] turn)) (none-front named rest (g ∷ []) unnamed) k.before_within k.before_is) in
      let front_groups : pieces_groups before ≡ front ++ rest = pieces-append h.pieces (others_piece rest) ∙ ap (λ v. front ++ v) (others-groups rest) in
      let front_placed = placed-others h.pieces rest new.keys all-placed in
      elim (cases_Bool (nat_lt gap.last_start (length body))) [
        | inl b ↦
            let below = ltb-true gap.last_start (length body) b in
            let part = others-pushed body named (g ∷ []) gap.last_start (length body) gap.last group_at
            ((λ none. let zero = ap length (ap (λ v. v ++ []) none) in absurd (omega arith)), tt) (none-back named rest (g ∷ []) unnamed) k.last_within k.last_is in
            record {
              pieces = before ++ own;
              ended = record {
                line = [];
                division = split ∙ sym (append-nil (pieces_groups (before ++ own)) ∙ pieces-append before own ∙ ap (λ v. v ++ g ∷ []) front_groups);
                end = alone-push before (parts.others (g ∷ [])) g refl;
              };
              are_parts = subst (λ v. ArePartsOf body named v (before ++ own)) (sym items)
                  (parts-append body named (old.parts.items ++ others_part gap.start gap.last_start gap.before) before
                  (others_part gap.last_start (length body) gap.last) own front_parts part);
              placed = placed-others before (g ∷ []) new.keys front_placed;
              closing = all-closing;
            }
        | inr b ↦
            let above = ltb-false gap.last_start (length body) b in
            let none = no-bytes-of (group_bytes g ++ []) (omega arith) in
            let same : new.parts.items ≡ old.parts.items ++ others_part gap.start gap.last_start gap.before =
            items
            ∙ ap (λ v. (old.parts.items ++ others_part gap.start gap.last_start gap.before) ++ part_if v (others_of gap.last_start (length body) gap.last)) b
            ∙ append-nil (old.parts.items ++ others_part gap.start gap.last_start gap.before) in
            record {
              pieces = before;
              ended = record {
                line = g ∷ [];
                division = split ∙ ap (λ v. v ++ g ∷ []) (sym front_groups);
                end = left-none (group_bytes g) [] none;
              };
              are_parts = subst (λ v. ArePartsOf body named v before) (sym same) front_parts;
              placed = front_placed;
              closing = all-closing;
            }
      ]

  -- All groups have parts.
  pub parted-all : AreSoundFor comments (held_groups_of e body) × StandFor body named (held_groups_of e body) new × (new.keys.all ≡ keys.all)
  parted-all = (
    subst (AreSoundFor comments) (sym all-read) h.read.sound,
    elim h.is_gap [ inl none ↦ none-left none.0 none.1 | inr some ↦ some-left some ],
    ap (λ v. let j : NamedKeys = v in j.all) c.keys ∙ h.all,
  )
