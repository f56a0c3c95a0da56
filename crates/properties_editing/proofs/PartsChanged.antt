-- The last pair with a key gets other bytes, or a pair is added behind parts: they stand for the groups in which the pair
-- is of these bytes, or for those with it, the last of which is closed before.
use Rattle.std.proofs.Common.{◌≡◌, ◌≢◌, ℕ, suc, ◌+◌, Bool, true, false, List, [], ◌∷◌, ◌++◌, Option, Some, None, length, take, drop, refl, ap, ap₂, sym, ◌∙◌, subst, inl, inr, arith, ◌≤◌, ◌-◌, zero, append-nil, append_assoc, length-append}
use Rattle.std.specs.Prelude.{get_or, if◌then◌else◌, map}
use Rattle.std.specs.Global.{Vec, Global}
use Rattle.std.specs.Option.{is_some, option_map, option_or, option_and}
use Rattle.std.specs.declared.string.String.{String}
use Rattle.std.proofs.lemmas.Bool.{cases_Bool}
use Rattle.std.proofs.lemmas.List.{append_cancel_right, map-append, length-map}
use Rattle.std.proofs.lemmas.Slice.Eq.{bytes_eq-Decides}
use Rattle.properties_format.specs.Text.{LineEnding, is_empty, cr, line_ending_text}
use Rattle.properties_format.specs.Encoding.{Encoding}
use Rattle.properties_format.specs.Lines.{EndsClosed, IsWhole, joined}
use Rattle.properties_format.specs.Body.{HeldLine, NoneHasKey, as_lines, ending_bytes, last_ending, group_bytes}
use Rattle.properties_format.specs.Edited.{is_editable, is_empty_line, is_last_open, is_left_open}
use Rattle.properties_format.specs.Plan.{Change, all_stay, at_last}
use Rattle.properties_format.specs.Computed.Items.{outcome_of}
use Rattle.properties_format.specs.Computed.Body.{has_key, held_lines_of, unended_bytes}
use Rattle.properties_format.proofs.Edited.Made.{has_key-false, has_key-true}
use Rattle.properties_format.proofs.GroupsInTurn.Lines.{bytes-of, ending-of, texts-with, bytes-unended, bytes-with, ending-with, unended-with, with_ending}
use Rattle.properties_format.proofs.GroupsInTurn.Merged.{AreInTurn, IsLastGroup, after-cr, are_one_ending}
use Rattle.properties_format.proofs.Plan.Last.{at_last-none, at_last-some, first_behind}
use Rattle.properties_format.proofs.Plan.Slots.{IsGroupText, group-bytes, group-lines, group_of, lf-no_key, no_line}
use Rattle.properties_items.specs.BorrowedItems.{outcome_pair}
use Rattle.properties_items.specs.Texts.{characters}
use Rattle.properties_items.specs.Line.{ending_of}
use Rattle.properties_items.specs.declared.line.LineEnding as declared
use Rattle.properties_editing.specs.Private.BodyParts.{outcome, ArePartsOf, ArePlaced, EndsAlone, IsPairPart, Piece, Said, StandFor, group_said, names_said, no_part, piece_said, pieces_groups, place_if, places_of, places_with, said_with, stored_of, value_if, value_said, value_of, IsEnd, IsOthersPart, IsPartOf, span_bytes}
use Rattle.properties_editing.specs.Private.BodyParts as parts
use Rattle.properties_editing.specs.Private.ChangedParts.{HasBytes, HasNewValue, closing_after_new, key_place, last_place, part_with_bytes, with_value, ClosesLast, ClosesPart, HasAdded, IsAsBefore, closed_as, has_to_close, is_pair, opened_by, with_last}
use Rattle.properties_editing.specs.declared.parts.PartKind.TheVariants as kind
use Rattle.properties_editing.specs.declared.parts.Part.{Part}
use Rattle.properties_editing.specs.declared.parts.KeyPlaces.{KeyPlaces}
use Rattle.properties_editing.specs.declared.parts.NamedKeys.{NamedKeys}
use Rattle.properties_editing.specs.declared.parts.Parts.{Parts}
use Rattle.properties_editing.specs.declared.groups.Closing.{Closing}
use Rattle.properties_editing.specs.Private.BodyGroups.{closing_of}
use Rattle.properties_editing.proofs.PartsAt.{AllOther, IsAt, IsOwn, alike-other, alone-with, end-bytes, groups-at-piece, none-value, other-said, own-at, own-division, parts-append, parts-at, placed-stored, places-append, said-key, some-value, value-append, IsAlone, alone-last, parts-length, pieces-append}
use Rattle.properties_editing.proofs.PartsRemoved.{all-other, closing_after, end-with, final-append, tail-next, turn-from, line-closing}
use Rattle.std.proofs.Math.Seq.{take-append_seam}
use Rattle.properties_format.specs.Computed.Lines.{begins_with_lf}
use Rattle.properties_format.proofs.Body.Decoded.{decoded-nil}
use Rattle.properties_format.proofs.Body.Groups.{EndsOpen, as_lines-append}
use Rattle.properties_format.proofs.Edited.LogicalLines.{closed-by_empty, fit-open}
use Rattle.properties_format.proofs.Plan.Added.{all_closed, blank, closed_last, groups_added}
use Rattle.properties_editing.specs.declared.bytes.BodySpan.{BodySpan}
use Rattle.properties_editing.specs.declared.groups.Closing.TheVariants as closing
use Rattle.properties_editing.specs.declared.parts.PartText.TheVariants as text
use Rattle.properties_editing.proofs.PartsRead.{last-line, placed-more}

-- ---- the last pair with a key

-- all places but the last
abbrev pub before_last : List ℕ → List ℕ
before_last [] = []
before_last (x ∷ []) = []
before_last (x ∷ y ∷ ys) = x ∷ before_last (y ∷ ys)

or-first : (o : Option ℕ) (x y : ℕ) → option_or (option_or o (Some y)) (Some x) ≡ option_or o (Some y)
or-first None x y = refl
or-first (Some z) x y = refl

pub none-last : (xs : List ℕ) → last_place xs ≡ None → xs ≡ []
none-last [] q = refl
none-last (x ∷ []) q = absurd (cc)
none-last (x ∷ y ∷ ys) q = let none = none-last (y ∷ ys) (sym (or-first (last_place ys) x y) ∙ q) in absurd (cc)

last-split : (xs : List ℕ) (i : ℕ) → last_place xs ≡ Some i → xs ≡ before_last xs ++ i ∷ []
last-split [] i q = absurd (cc)
last-split (x ∷ []) i q = let same : x ≡ i = cc in ap (λ v. v ∷ []) same
last-split (x ∷ y ∷ ys) i q = ap (λ v. x ∷ v) (last-split (y ∷ ys) i (sym (or-first (last_place ys) x y) ∙ q))

-- The last piece that is a pair with the key is in this place.
abbrev pub IsLastOwn : List ℕ → ℕ → List Piece → Type 0
IsLastOwn key i pieces = IsOwn key 0 (before_last (places_with key 0 (map piece_said pieces))) i [] pieces

-- What `find` returns is the place of the last pair with the key.
pub found-own : (d : List ℕ) (named : List ℕ → Bool) (gs : List (List HeldLine)) (parts : Parts) (key : List ℕ) (place : ℕ)
    → (s : StandFor d named gs parts) → key_place parts.keys key ≡ Some place → IsLastOwn key place s.pieces
found-own d named gs parts key place s q = own-at key 0 _ place [] s.pieces (last-split _ place (sym (ap last_place (s.placed.places key)) ∙ q))

-- ---- the plan

none-has : (key : List ℕ) (gs : List (List HeldLine)) → AllOther key gs → NoneHasKey key gs
none-has key [] n = tt
none-has key (g ∷ gs) n = (has_key-false key g n.0, none-has key gs n.1)

pub none-changes : (key : List ℕ) (change : Bool → List HeldLine → Change) (first : Bool) (gs : List (List HeldLine)) → AllOther key gs
    → at_last key change first gs ≡ None
none-changes key change first gs n = at_last-none key change first gs (none-has key gs n)

-- The plan for the last pair with the key.
pub plan-last : (key : List ℕ) (change : Bool → List HeldLine → Change) (first : Bool) (front : List (List HeldLine)) (g : List HeldLine)
    (rest : List (List HeldLine)) → has_key key g ≡ true → AllOther key rest
    → at_last key change first (front ++ g ∷ rest) ≡ Some (all_stay front ++ change (first_behind first front) g ∷ all_stay rest)
plan-last key change first front g rest h n = at_last-some key change first front g rest (has_key-true key g h) (none-has key rest n)

-- ---- the new group

-- The bytes are one whole group, which is a pair with this key and this value.
pub record IsPairText (e : Encoding) (key value x : List ℕ) : Type 0 where
  pub text : IsGroupText e x
  pub said : outcome_pair (outcome (held_lines_of e x)) ≡ Some (key, value)

-- A whole group isn't left open.
pub whole-closed : (g : List HeldLine) → IsWhole (as_lines g) → is_left_open g ≡ false
whole-closed [] w = absurd w
whole-closed (h ∷ hs) (inl c) = rw c.0 refl
whole-closed (h ∷ hs) (inr w) = rw w.0 (last-closed h hs w.1)
  where
    last-closed : (h : HeldLine) (hs : List HeldLine) → EndsClosed (record { number = 0; text = h.text }) (as_lines hs) → is_last_open (h ∷ hs) ≡ false
    last-closed h [] k = k
    last-closed h (i ∷ hs) k = last-closed i hs k.1

-- An empty line has nothing before its line ending.
pub empty-unended : (g : List HeldLine) → is_empty_line g ≡ true → unended_bytes g ≡ []
empty-unended [] k = refl
empty-unended (h ∷ []) k = none h.bytes k
  where
    none : (x : List ℕ) → is_empty x ≡ true → x ≡ []
    none [] q = refl
    none (c ∷ x) q = absurd (cc)
empty-unended (h ∷ i ∷ hs) k = absurd (cc)

module _ (e : Encoding) (ok : is_editable e ≡ true) (key value x : List ℕ) (k : IsPairText e key value x) (o : Option LineEnding) where
  abbrev new : List HeldLine
  new = group_of e x o

  pub new-ending : last_ending new ≡ o
  new-ending = ending-of e o new (group-lines e ok x o k.text.no_cr)

  pub new-unended : unended_bytes new ≡ x
  new-unended =
      append_cancel_right (unended_bytes new) x (ending_bytes o)
      (sym (bytes-of e o new (group-lines e ok x o k.text.no_cr)) ∙ group-bytes e ok x o)

  pub new-said : group_said new ≡ Some (key, value)
  new-said = ap (λ v. outcome_pair (outcome_of (joined v))) (texts-with o (held_lines_of e x)) ∙ k.said

  new-own : has_key key new ≡ true
  new-own = said-key key new ∙ ap (said_with key) new-said ∙ (bytes_eq-Decides key key).1 refl

  pub new-some : x ≢ []
  new-some q =
      let none = lf-no_key e o key new (group-lines e ok x o k.text.no_cr) (new-unended ∙ q) in
      let own = new-own in
      absurd (cc)

  pub new-closed : is_left_open new ≡ false
  new-closed = whole-closed new (subst IsWhole (sym (texts-with o (held_lines_of e x))) k.text.whole)

  pub new-full : is_empty_line new ≡ false
  new-full = elim (cases_Bool (is_empty_line new)) [
    | inl b ↦ absurd (new-some (sym new-unended ∙ empty-unended new b))
    | inr b ↦ b
  ]

  -- A part with these bytes is this pair.
  pub new-part : (d : List ℕ) (named : List ℕ → Bool) (p : Part) → named key ≡ true → p.kind ≡ kind.Pair → parts.IsTextWithin d p.text
      → parts.part_text_bytes d p.text ≡ x → option_map ending_of p.ending ≡ o → IsPairPart d named p new
  new-part d named p is kind within bytes ending = record {
    kind = kind;
    within = within;
    bytes = bytes ∙ sym new-unended;
    some = λ q. new-some (sym new-unended ∙ q);
    ending = ending ∙ sym new-ending;
    is_named_pair = ap (names_said named) new-said ∙ is;
  }

-- ---- the last group

no-ending : (o : Option declared.LineEnding) → option_map ending_of o ≡ None → o ≡ None
no-ending None q = refl
no-ending (Some by) q = absurd (cc)

some-ending : (o : Option declared.LineEnding) (by : LineEnding) (old : Closing) → option_map ending_of o ≡ Some by → closing_after_new o old ≡ old
some-ending None by old q = absurd (cc)
some-ending (Some own) by old q = refl

-- What separates a new pair from the last group, after one group was replaced by a closed one.
closing-with : (e : Encoding) (xs : List (List HeldLine)) (g h : List HeldLine) (ys : List (List HeldLine)) (o : Option declared.LineEnding) (old : Closing)
    → AreInTurn e (g ∷ ys) → option_map ending_of o ≡ last_ending g → is_empty_line h ≡ false → is_left_open h ≡ false
    → old ≡ closing_after (xs ++ g ∷ ys) → closing_after_new o old ≡ closing_after (xs ++ h ∷ ys)
closing-with e xs g h [] o old a is full closed was =
    ap (λ v. closing_after_new v old) (no-ending o (is ∙ ending-of e None g a.0)) ∙ sym (rw (final-append xs h [], full, closed) refl)
closing-with e xs g h (y ∷ ys) o old a is full closed was =
    some-ending o a.0.0 old (is ∙ ending-of e (Some a.0.0) g a.0.1)
    ∙ was
    ∙ ap (λ v. closing_of (is_empty_line v) (is_left_open v)) (final-append xs g (y ∷ ys) ∙ sym (final-append xs h (y ∷ ys)))

-- ---- the keys

same-places : (v : String Global) (o : Option KeyPlaces) → places_of (option_map (with_value v) o) ≡ places_of o
same-places v None = refl
same-places v (Some p) = refl

some-stored : (v : String Global) (o : Option KeyPlaces) → is_some (value_of o) ≡ true → value_of (option_map (with_value v) o) ≡ Some (characters v)
some-stored v None q = absurd (cc)
some-stored v (Some p) q = refl

-- The last pair with a key has another value.
placed-with : (key : List ℕ) (v : String Global) (xs : List Said) (s : Said) (ys : List Said) (n : ℕ) (old new : NamedKeys) → said_with key s ≡ true
    → places_with key n ys ≡ [] → HasNewValue key v old new → ArePlaced (xs ++ s ∷ ys) old → ArePlaced (xs ++ Some (key, characters v) ∷ ys) new
placed-with key v xs s ys n old new has none k was =
    let stored = stored_of old.places.entries key in
    let r : Said = Some (key, characters v) in
    let own : said_with key r ≡ true = (bytes_eq-Decides key key).1 refl in
    placed-stored key (option_map (with_value v) stored) old new (xs ++ s ∷ ys) (xs ++ r ∷ ys) k.stored k.ordered k.all was
    (same-places v stored ∙ was.places key ∙ places-append key 0 xs (s ∷ ys)
    ∙ ap (λ b. places_with key 0 xs ++ place_if b (0 + length xs) (places_with key (suc (0 + length xs)) ys)) (has ∙ sym own)
    ∙ sym (places-append key 0 xs (r ∷ ys)))
    (λ all. some-stored v stored (ap is_some (was.values all key) ∙ some-value key xs s ys has)
    ∙ sym (value-append key xs (r ∷ ys) ∙ ap (λ o. option_or (option_or o (value_if key r)) (value_said key xs)) (none-value key n ys none)
    ∙ ap (λ b. option_or (if b then Some (characters v) else None) (value_said key xs)) own))
    (λ j b. alike-other j r s b (other-said key j s has b) xs ys 0)

-- ---- the parts stand for the groups with another

same-alone : (g h : List HeldLine) (qs : List Piece) → EndsAlone (parts.own g ∷ qs) → EndsAlone (parts.own h ∷ qs)
same-alone g h [] k = (h, refl)
same-alone g h (q ∷ qs) k = k

module _ (e : Encoding) (ok : is_editable e ≡ true) (d : List ℕ) (named : List ℕ → Bool) (key : List ℕ) (gs : List (List HeldLine)) (old : Parts)
    (turn : AreInTurn e gs) (s : StandFor d named gs old) (place : ℕ) (k : IsLastOwn key place s.pieces) where
  abbrev pub front : List (List HeldLine)
  front = pieces_groups k.before

  abbrev pub rest : List (List HeldLine)
  rest = pieces_groups k.after ++ s.ended.line

  -- Where the group is among the groups.
  pub found-division : gs ≡ front ++ k.group ∷ rest
  found-division = own-division gs k s.ended

  behind-turn : AreInTurn e (k.group ∷ rest)
  behind-turn = turn-from e front k.group rest (subst (AreInTurn e) found-division turn)

  pub held : ArePartsOf d named old.parts.items (k.before ++ parts.own k.group ∷ k.after)
  held = subst (ArePartsOf d named old.parts.items) k.are_pieces s.are_parts

  abbrev size : ℕ
  size = length k.before

  pub found : IsAt d named old.parts.items k.before (parts.own k.group) k.after
  found = parts-at d named old.parts.items k.before (parts.own k.group) k.after held

  -- The part has the bytes of the group.
  pub found-bytes : parts.part_text_bytes d (get_or old.parts.items place no_part).text ≡ unended_bytes k.group
  found-bytes =
      let at : place ≡ size = (let a = k.at in omega arith) in
      ap (λ n. let p : Part = get_or old.parts.items n no_part in parts.part_text_bytes d p.text) at ∙ found.part.bytes

  named-key : named key ≡ true
  named-key = of-said (group_said k.group) (sym (said-key key k.group) ∙ k.has) found.part.is_named_pair
    where
      of-said : (r : Said) → said_with key r ≡ true → names_said named r ≡ true → named key ≡ true
      of-said None h n = absurd (cc)
      of-said (Some (j, v)) h n = ap named (sym ((bytes_eq-Decides j key).0 h)) ∙ n

  pub rest-other : AllOther key rest
  rest-other =
      all-other d named e key (suc place) (drop (suc size) old.parts.items) k.after s.ended.line named-key found.back
      (end-bytes s.pieces s.ended.line s.ended.end) (tail-next e k.group rest behind-turn) k.later

  -- So they do if the last pair with the key becomes these bytes.
  pub stands-replaced : (bytes : Vec ℕ) (value : String Global) (new : Parts) → HasBytes place key bytes value old new
      → IsPairText e key (characters value) bytes.items → StandFor d named (front ++ group_of e bytes.items (last_ending k.group) ∷ rest) new
  stands-replaced bytes value new h t =
      let o = last_ending k.group in
      let g = group_of e bytes.items o in
      let qs = k.before ++ parts.own g ∷ k.after in
      let at : place ≡ size = let a = k.at in omega arith in
      let old_part = get_or old.parts.items size no_part in
      let next : place + 1 ≡ suc size = omega arith in
      let items : new.parts.items ≡ take size old.parts.items ++ part_with_bytes bytes old_part ∷ drop (suc size) old.parts.items =
      h.parts
      ∙ ap₂ (λ n m. take n old.parts.items ++ part_with_bytes bytes (get_or old.parts.items n no_part) ∷ drop m old.parts.items) at next in
      let own = new-part e ok key (characters value) bytes.items t o d named (part_with_bytes bytes old_part) named-key found.part.kind tt refl found.part.ending in
      let said = new-said e ok key (characters value) bytes.items t o in
      let were = ap (map piece_said) k.are_pieces ∙ map-append piece_said k.before (parts.own k.group ∷ k.after) in
      let are = map-append piece_said k.before (parts.own g ∷ k.after) ∙ ap (λ r. map piece_said k.before ++ r ∷ map piece_said k.after) said in
      record {
        pieces = qs;
        ended = record {
          line = s.ended.line;
          division = sym (groups-at-piece k.before (parts.own g) k.after s.ended.line);
          end = end-with s.pieces qs s.ended.line s.ended.end (λ none alone.
              alone-with k.before (parts.own k.group) k.after (parts.own g ∷ k.after) (same-alone k.group g k.after) (subst EndsAlone k.are_pieces alone));
        };
        are_parts = subst (λ v. ArePartsOf d named v qs) (sym items)
            (parts-append d named (take size old.parts.items) k.before (part_with_bytes bytes old_part ∷ drop (suc size) old.parts.items) (parts.own g ∷ k.after)
            found.front (own, found.back));
        placed = subst (λ v. ArePlaced v new.keys) (sym are)
            (placed-with key value (map piece_said k.before) (group_said k.group) (map piece_said k.after) (suc place) old.keys new.keys
            (sym (said-key key k.group) ∙ k.has) k.later h.keys (subst (λ v. ArePlaced v old.keys) were s.placed));
        closing = h.closing
            ∙ ap (λ n. let p : Part = get_or old.parts.items n no_part in closing_after_new p.ending old.closing) at
            ∙ closing-with e front k.group g rest old_part.ending old.closing behind-turn found.part.ending
            (new-full e ok key (characters value) bytes.items t o) (new-closed e ok key (characters value) bytes.items t o)
            (s.closing ∙ ap closing_after found-division);
      }

-- ---- the last group, closed

unended-push : (g : List HeldLine) (h : HeldLine) → unended_bytes (g ++ h ∷ []) ≡ group_bytes g ++ h.bytes
unended-push [] h = refl
unended-push (i ∷ []) h =
    sym (append_assoc i.bytes (ending_bytes i.ending ++ []) h.bytes ∙ ap (λ v. i.bytes ++ v) (append_assoc (ending_bytes i.ending) [] h.bytes))
unended-push (i ∷ j ∷ hs) h =
    ap (λ v. i.bytes ++ (ending_bytes i.ending ++ v)) (unended-push (j ∷ hs) h)
    ∙ sym (append_assoc i.bytes (ending_bytes i.ending ++ group_bytes (j ∷ hs)) h.bytes
    ∙ ap (λ v. i.bytes ++ v) (append_assoc (ending_bytes i.ending) (group_bytes (j ∷ hs)) h.bytes))

ending-push : (g : List HeldLine) (h : HeldLine) → last_ending (g ++ h ∷ []) ≡ h.ending
ending-push [] h = refl
ending-push (i ∷ []) h = refl
ending-push (i ∷ j ∷ hs) h = ending-push (j ∷ hs) h

-- The group ends in this line ending, and says what the other says; a line that is left open ends in one too.
pub record IsClosed (e : Encoding) (by : LineEnding) (opened : List ℕ) (g h : List HeldLine) : Type 0 where
  pub bytes : unended_bytes h ≡ unended_bytes g ++ opened
  pub ending : last_ending h ≡ Some by
  pub text : joined (as_lines h) ≡ joined (as_lines g)
  pub is_last : closed_last e by g ≡ h ∷ []

pub group-closed : (e : Encoding) (by : LineEnding) (g : List HeldLine) → IsLastGroup e g → is_empty_line g ≡ false
    → (h : List HeldLine) × IsClosed e by (if is_left_open g then line_ending_text by else []) g h
group-closed e by [] a n = absurd a.0
group-closed e by (h ∷ hs) a n = elim (cases_Bool (is_left_open (h ∷ hs))) [
  | inl o ↦
      let g = h ∷ hs in
      let w = with_ending (Some by) g in
      rw o (
        w ++ blank e by ∷ [],
        record {
          bytes = unended-push w (blank e by) ∙ append-nil (group_bytes w) ∙ bytes-with (Some by) h hs;
          ending = ending-push w (blank e by);
          text = open_text g o (fit-open g a.1 o);
          is_last = rw (n, o) refl;
        },
      )
  | inr o ↦
      let g = h ∷ hs in
      rw o (
        with_ending (Some by) g,
        record {
          bytes = unended-with (Some by) g ∙ sym (append-nil (unended_bytes g));
          ending = ending-with (Some by) h hs;
          text = ap joined (texts-with (Some by) g);
          is_last = rw (n, o) refl;
        },
      )
]
  where
    open_text : (g : List HeldLine) → is_left_open g ≡ true → EndsOpen (as_lines g)
        → joined (as_lines (with_ending (Some by) g ++ blank e by ∷ [])) ≡ joined (as_lines g)
    open_text g o fits =
        ap joined (as_lines-append (with_ending (Some by) g) (blank e by ∷ []))
        ∙ ap₂ (λ v t. joined (v ++ record { number = 0; text = t } ∷ [])) (texts-with (Some by) g) (decoded-nil e)
        ∙ (closed-by_empty (as_lines g) fits).1

-- The last of groups is closed.
closed-push : (e : Encoding) (by : LineEnding) (front : List (List HeldLine)) (g : List HeldLine)
    → all_closed e by (front ++ g ∷ []) ≡ front ++ closed_last e by g
closed-push e by [] g = refl
closed-push e by (f ∷ []) g = refl
closed-push e by (f ∷ h ∷ front) g = ap (λ v. f ∷ v) (closed-push e by (h ∷ front) g)

-- ---- its part

some-left : (x y : List ℕ) → x ≢ [] → x ++ y ≢ []
some-left [] y n q = n refl
some-left (c ∷ x) y n q = cc

no_lf-left : (x y : List ℕ) → x ≢ [] → begins_with_lf x ≡ false → begins_with_lf (x ++ y) ≡ false
no_lf-left [] y n h = absurd (n refl)
no_lf-left (c ∷ x) y n h = h

same-said : (o p : Option (List ℕ × List ℕ)) (f : BodySpan → List ℕ) (g : BodySpan → List ℕ) (x y : List ℕ) (s : BodySpan) (last : Option BodySpan)
    → option_map f last ≡ option_map (λ said. x) o → g s ≡ y → p ≡ o → option_map g (option_and last (Some s)) ≡ option_map (λ said. y) p
same-said None p f g x y s None h is same = ap (option_map (λ said. y)) (sym same)
same-said None p f g x y s (Some t) h is same = absurd (cc)
same-said (Some said) p f g x y s None h is same = absurd (cc)
same-said (Some said) p f g x y s (Some t) h is same = ap Some is ∙ ap (option_map (λ said. y)) (sym same)

module _ (e : Encoding) (d : List ℕ) (named : List ℕ → Bool) (by : declared.LineEnding) (opened : List ℕ) (g h : List HeldLine)
    (a : IsLastGroup e g) (k : IsClosed e (ending_of by) opened g h) (old new : Part) (c : ClosesPart d opened by old new) where
  outcome-same : outcome_pair (outcome h) ≡ outcome_pair (outcome g)
  outcome-same = ap (λ x. outcome_pair (outcome_of x)) k.text

  -- Before it was closed, it had no line ending.
  whole : group_bytes g ≡ unended_bytes g
  whole = bytes-unended g ∙ ap (λ o. unended_bytes g ++ ending_bytes o) (ending-of e None g a.0) ∙ append-nil (unended_bytes g)

  pub closed-pair : IsPairPart d named old g → IsPairPart d named new h
  closed-pair p =
      let is : new ≡ closed_as c.bytes by kind.Pair = c.part ∙ ap (closed_as c.bytes by) p.kind in
      let bytes : c.bytes.items ≡ unended_bytes h =
      c.are_bytes
      ∙ ap (λ q. parts.part_text_bytes d old.text ++ (opened ++ parts.ended_bytes (if is_pair q then None else Some by))) p.kind
      ∙ ap₂ (λ v w. v ++ w) p.bytes (append-nil opened)
      ∙ sym k.bytes in
      subst (λ v. IsPairPart d named v h) (sym is) (record {
        kind = refl;
        within = tt;
        bytes = bytes;
        some = λ q. some-left (unended_bytes g) opened p.some (sym k.bytes ∙ q);
        ending = sym k.ending;
        is_named_pair = ap (names_said named) outcome-same ∙ p.is_named_pair;
      })

  pub closed-others : IsOthersPart d named old (g ∷ []) → IsOthersPart d named new (h ∷ [])
  closed-others p =
      let end = parts.ended_bytes (Some by) in
      let n = length c.bytes.items - length end in
      let s : BodySpan = record { start = 0; end = n } in
      let is : new ≡ closed_as c.bytes by (kind.Others p.last) = c.part ∙ ap (closed_as c.bytes by) p.kind in
      let text_is : parts.part_text_bytes d old.text ≡ unended_bytes g = p.bytes ∙ append-nil (group_bytes g) ∙ whole in
      let some : unended_bytes g ≢ [] = λ q. p.have.0 (whole ∙ q) in
      let all : c.bytes.items ≡ unended_bytes g ++ (opened ++ end) =
      c.are_bytes
      ∙ ap (λ q. parts.part_text_bytes d old.text ++ (opened ++ parts.ended_bytes (if is_pair q then None else Some by))) p.kind
      ∙ ap (λ v. v ++ (opened ++ end)) text_is in
      let front : c.bytes.items ≡ unended_bytes h ++ end = all ∙ sym (append_assoc (unended_bytes g) opened end) ∙ ap (λ v. v ++ end) (sym k.bytes) in
      let group : group_bytes h ≡ unended_bytes h ++ end = bytes-unended h ∙ ap (λ o. unended_bytes h ++ ending_bytes o) k.ending in
      let sizes : length c.bytes.items ≡ length (unended_bytes h) + length end = ap length front ∙ length-append (unended_bytes h) end in
      let size : n - 0 ≡ length (unended_bytes h) = omega arith in
      let one : are_one_ending (blank e cr ∷ []) g ≡ false = rw (ending-of e None g a.0) refl in
      let first : begins_with_lf (unended_bytes g) ≡ false =
      ap begins_with_lf (sym (append-nil (group_bytes g) ∙ whole)) ∙ after-cr e (blank e cr ∷ []) g [] a refl one in
      subst (λ v. IsOthersPart d named v (h ∷ [])) (sym is) (record {
        last = option_and p.last (Some s);
        kind = refl;
        within = tt;
        bytes = front ∙ sym (append-nil (group_bytes h) ∙ group);
        ending = refl;
        empty = λ q. absurd (cc);
        have = ((λ q. some-left (unended_bytes g) (opened ++ end) some (sym all ∙ front ∙ sym group ∙ q)), tt);
        others_text = ap begins_with_lf all ∙ no_lf-left (unended_bytes g) (opened ++ end) some first;
        unnamed = (ap (names_said named) outcome-same ∙ p.unnamed.0, tt);
        last_within = and-within p.last s (omega arith) (omega arith);
        last_pair = same-said (outcome_pair (outcome g)) (outcome_pair (outcome h)) (parts.part_span_bytes d old.text) (span_bytes c.bytes.items)
            (unended_bytes g) (unended_bytes h) s p.last p.last_pair (ap₂ take size front ∙ take-append_seam (unended_bytes h) end) outcome-same;
      })
    where
      and-within : (last : Option BodySpan) (s : BodySpan) → s.start ≤ s.end → s.end ≤ length c.bytes.items
          → parts.IsSpanWithin c.bytes.items (option_and last (Some s))
      and-within None s o w = tt
      and-within (Some t) s o w = (o, w)

-- ---- the last piece, closed

abbrev pub closed_piece : Piece → List HeldLine → Piece
closed_piece (parts.own g) h = parts.own h
closed_piece (parts.others gs) h = parts.others (h ∷ [])

closed-groups : (q : Piece) (h : List HeldLine) → parts.piece_groups (closed_piece q h) ≡ h ∷ []
closed-groups (parts.own g) h = refl
closed-groups (parts.others gs) h = refl

same-group : (g h : List HeldLine) → g ∷ [] ≡ h ∷ [] → g ≡ h
same-group g h q = cc

-- It has bytes.
piece-some : (e : Encoding) (d : List ℕ) (named : List ℕ → Bool) (p : Part) (q : Piece) (g : List HeldLine) → IsLastGroup e g
    → parts.piece_groups q ≡ g ∷ [] → IsPartOf d named p q → unended_bytes g ≢ []
piece-some e d named p (parts.own f) g a is k n = k.some (ap unended_bytes (same-group f g is) ∙ n)
piece-some e d named p (parts.others gs) g a is k n =
    let have = subst parts.HaveBytes is k.have in
    have.0 (bytes-unended g ∙ ap (λ o. unended_bytes g ++ ending_bytes o) (ending-of e None g a.0) ∙ append-nil (unended_bytes g) ∙ n)

piece-closed : (e : Encoding) (d : List ℕ) (named : List ℕ → Bool) (by : declared.LineEnding) (opened : List ℕ) (g h : List HeldLine) → IsLastGroup e g
    → IsClosed e (ending_of by) opened g h → (old new : Part) → ClosesPart d opened by old new
    → (q : Piece) → parts.piece_groups q ≡ g ∷ [] → IsPartOf d named old q → IsPartOf d named new (closed_piece q h)
piece-closed e d named by opened g h a k old new c (parts.own f) is p =
    closed-pair e d named by opened g h a k old new c (subst (IsPairPart d named old) (same-group f g is) p)
piece-closed e d named by opened g h a k old new c (parts.others gs) is p =
    closed-others e d named by opened g h a k old new c (subst (IsOthersPart d named old) is p)

piece-same : (q : Piece) (g h : List HeldLine) → parts.piece_groups q ≡ g ∷ [] → outcome h ≡ outcome g → piece_said (closed_piece q h) ≡ piece_said q
piece-same (parts.own f) g h is says = ap outcome_pair (says ∙ ap outcome (sym (same-group f g is)))
piece-same (parts.others gs) g h is says = refl

-- ---- the parts, the last of which is closed

with-take : (ps : List Part) (q : Part) (n : ℕ) → length ps ≡ suc n → with_last (Some q) ps ≡ take n ps ++ q ∷ []
with-take [] q n s = absurd (omega arith)
with-take (p ∷ []) q n s = let z : n ≡ 0 = omega arith in rw z refl
with-take (p ∷ r ∷ ps) q zero s = absurd (omega arith)
with-take (p ∷ r ∷ ps) q (suc n) s = ap (λ v. p ∷ v) (with-take (r ∷ ps) q n (omega arith))

closing-open : (by : declared.LineEnding) (b : Bool) (old : Closing) → old ≡ closing_of false b
    → (has_to_close old ≡ true) × (opened_by by old ≡ (if b then line_ending_text (ending_of by) else []))
closing-open by true old is = rw is (refl, refl)
closing-open by false old is = rw is (refl, refl)

-- These pieces have the groups, the last of which is closed, and say the same of keys.
record IsClosedList (e : Encoding) (d : List ℕ) (named : List ℕ → Bool) (by : LineEnding) (gs : List (List HeldLine)) (said : List Said)
    (ps : List Part) : Type 0 where
  pieces : List Piece
  are_parts : ArePartsOf d named ps pieces
  groups : pieces_groups pieces ≡ all_closed e by gs
  same : map piece_said pieces ≡ said

module _ (e : Encoding) (d : List ℕ) (named : List ℕ → Bool) (gs : List (List HeldLine)) (old : Parts) (turn : AreInTurn e gs) (s : StandFor d named gs old)
    (by : declared.LineEnding) where
  abbrev Closed : Option Part → Type 0
  Closed p = ClosesLast d by old.closing old.parts.items p → IsClosedList e d named (ending_of by) gs (map piece_said s.pieces) (with_last p old.parts.items)

  line-closed : (l : List HeldLine) → gs ≡ pieces_groups s.pieces ++ l ∷ [] → group_bytes l ≡ [] → (p : Option Part) → Closed p
  line-closed l division none p =
      let front = pieces_groups s.pieces in
      let last = subst (AreInTurn e) division turn in
      let nothing : old.closing ≡ closing.Nothing = s.closing ∙ ap closing_after division ∙ line-closing e front l last none in
      of-part (last-line e l (turn-from e front l [] last) none) nothing p
    where
      of-part : is_empty_line l ≡ true → old.closing ≡ closing.Nothing → (p : Option Part) → Closed p
      of-part empty nothing (Some q) c = let no = sym (ap has_to_close nothing) ∙ c.0 in absurd (cc)
      of-part empty nothing None c =
          let none : closed_last e (ending_of by) l ≡ [] = rw empty refl in
          let front = pieces_groups s.pieces in
          record {
            pieces = s.pieces;
            are_parts = s.are_parts;
            groups = sym (ap (all_closed e (ending_of by)) division ∙ closed-push e (ending_of by) front l ∙ ap (λ v. front ++ v) none ∙ append-nil front);
            same = refl;
          }

  group-closed-list : gs ≡ pieces_groups s.pieces ++ [] → IsAlone s.pieces → (p : Option Part) → Closed p
  group-closed-list all k p =
      let front = pieces_groups k.before in
      let g = k.group in
      let at = parts-at d named old.parts.items k.before k.last [] (subst (ArePartsOf d named old.parts.items) k.are_pieces s.are_parts) in
      let division : gs ≡ front ++ g ∷ [] =
      all ∙ ap (λ v. pieces_groups v ++ []) k.are_pieces ∙ groups-at-piece k.before k.last [] [] ∙ ap (λ v. front ++ (v ++ [])) k.alone in
      let a : IsLastGroup e g = turn-from e front g [] (subst (AreInTurn e) division turn) in
      let some = piece-some e d named _ k.last g a k.alone at.part in
      let full : is_empty_line g ≡ false = elim (cases_Bool (is_empty_line g)) [ inl b ↦ absurd (some (empty-unended g b)) | inr b ↦ b ] in
      let closes : old.closing ≡ closing_of false (is_left_open g) =
      s.closing
      ∙ ap closing_after division
      ∙ ap (λ v. closing_of (is_empty_line v) (is_left_open v)) (final-append front g [])
      ∙ ap (λ b. closing_of b (is_left_open g)) full in
      let size = parts-length d named old.parts.items s.pieces s.are_parts ∙ ap length k.are_pieces ∙ length-append k.before (k.last ∷ []) in
      of-part at division a (closing-open by (is_left_open g) old.closing closes) (group-closed e (ending_of by) g a full) (omega arith) p
    where
      opened : List ℕ
      opened = if is_left_open k.group then line_ending_text (ending_of by) else []

      of-part : IsAt d named old.parts.items k.before k.last [] → gs ≡ pieces_groups k.before ++ k.group ∷ [] → IsLastGroup e k.group
          → (has_to_close old.closing ≡ true) × (opened_by by old.closing ≡ opened)
          → (h : List HeldLine) × IsClosed e (ending_of by) opened k.group h → length old.parts.items ≡ suc (length k.before) → (p : Option Part) → Closed p
      of-part at division a closes h size None (inl none) = absurd (omega arith)
      of-part at division a closes h size None (inr open_end) = let both = sym closes.0 ∙ open_end in absurd (cc)
      of-part at division a closes h size (Some q) c =
          let r = closed_piece k.last h.0 in
          let place : length old.parts.items - 1 ≡ length k.before = omega arith in
          let part : ClosesPart d opened by (get_or old.parts.items (length k.before) no_part) q =
          subst (λ v. ClosesPart d v by (get_or old.parts.items (length k.before) no_part) q) closes.1
          (subst (λ n. ClosesPart d (opened_by by old.closing) by (get_or old.parts.items n no_part) q) place c.2) in
          record {
            pieces = k.before ++ r ∷ [];
            are_parts = subst (λ v. ArePartsOf d named v (k.before ++ r ∷ [])) (sym (with-take old.parts.items q (length k.before) size))
                (parts-append d named (take (length k.before) old.parts.items) k.before (q ∷ []) (r ∷ []) at.front
                (piece-closed e d named by opened k.group h.0 a h.1 _ q part k.last k.alone at.part, tt));
            groups = pieces-append k.before (r ∷ [])
                ∙ ap (λ v. pieces_groups k.before ++ (v ++ [])) (closed-groups k.last h.0)
                ∙ sym (ap (all_closed e (ending_of by)) division ∙ closed-push e (ending_of by) (pieces_groups k.before) k.group
                ∙ ap (λ v. pieces_groups k.before ++ v) h.1.is_last);
            same = map-append piece_said k.before (r ∷ [])
                ∙ ap (λ o. map piece_said k.before ++ o ∷ []) (piece-same k.last k.group h.0 k.alone (ap outcome_of h.1.text))
                ∙ sym (ap (map piece_said) k.are_pieces ∙ map-append piece_said k.before (k.last ∷ []));
          }

  closed-list : (p : Option Part) → Closed p
  closed-list = of-line s.ended.line s.ended.division s.ended.end
    where
      of-line : (line : List (List HeldLine)) → gs ≡ pieces_groups s.pieces ++ line → IsEnd s.pieces line → (p : Option Part) → Closed p
      of-line [] division k p = group-closed-list division (alone-last s.pieces k) p
      of-line (l ∷ []) division k p = line-closed l division k p
      of-line (l ∷ m ∷ ls) division k p = absurd k

-- ---- a pair behind them

-- The parts stand for the groups with the pair.
pub stands-added : (e : Encoding) → is_editable e ≡ true → (d : List ℕ) (named : List ℕ → Bool) (key value : List ℕ) (gs : List (List HeldLine))
    (old new : Parts) → AreInTurn e gs → StandFor d named gs old → (by ending : declared.LineEnding) (bytes : Vec ℕ) → HasAdded d key value by bytes ending old new
    → IsPairText e key value bytes.items → named key ≡ true → StandFor d named (groups_added e (ending_of by) bytes.items (ending_of ending) gs) new
stands-added e ok d named key value gs old new turn s by ending bytes h t is =
    let o = Some (ending_of ending) in
    let g = group_of e bytes.items o in
    let p : Part = record { text = text.Own bytes; ending = Some ending; kind = kind.Pair } in
    let m = closed-list e d named gs old turn s by h.closed h.closes in
    let qs = m.pieces ++ parts.own g ∷ [] in
    let line = (no_line e ∷ []) ∷ [] in
    let own = new-part e ok key value bytes.items t o d named p is refl tt refl refl in
    let size : length old.parts.items ≡ length (map piece_said s.pieces) =
    parts-length d named old.parts.items s.pieces s.are_parts ∙ sym (length-map s.pieces piece_said) in
    let says = map-append piece_said m.pieces (parts.own g ∷ []) ∙ ap₂ (λ v r. v ++ r ∷ []) m.same (new-said e ok key value bytes.items t o) in
    record {
      pieces = qs;
      ended = record {
        line = line;
        division = ap (λ v. v ++ g ∷ line) (sym m.groups) ∙ sym (groups-at-piece m.pieces (parts.own g) [] line);
        end = refl;
      };
      are_parts = subst (λ v. ArePartsOf d named v qs) (sym h.parts)
          (parts-append d named (with_last h.closed old.parts.items) m.pieces (p ∷ []) (parts.own g ∷ []) m.are_parts (own, tt));
      placed = subst (λ v. ArePlaced v new.keys) (sym says)
          (placed-more (map piece_said s.pieces) key value (length old.parts.items) old.keys new.keys h.keys s.placed size);
      closing = h.closing ∙ sym (ap (λ v. closing_of (is_empty_line v) (is_left_open v)) (final-append (all_closed e (ending_of by) gs) g line));
    }

-- If memory runs out, they stand for the groups as before.
pub stands-kept : (d : List ℕ) (named : List ℕ → Bool) (gs : List (List HeldLine)) (old same : Parts) → StandFor d named gs old → IsAsBefore old same
    → StandFor d named gs same
stands-kept d named gs old same s h = record {
  pieces = s.pieces;
  ended = s.ended;
  are_parts = subst (λ v. ArePartsOf d named v s.pieces) (sym h.parts) s.are_parts;
  placed = record {
    places = λ j. h.keys.places j ∙ s.placed.places j;
    values = λ all j. h.keys.values j ∙ s.placed.values (sym h.keys.all ∙ all) j;
    ordered = h.keys.ordered;
  };
  closing = h.closing ∙ s.closing;
}
