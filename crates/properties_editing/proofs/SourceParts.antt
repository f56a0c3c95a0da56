-- A source in parts: its mark, an LF that may guard its front, and the groups that its parts stand for.
use Rattle.std.proofs.Common.{◌≡◌, ◌≢◌, ℕ, suc, ◌==◌, ◌&&◌, ◌||◌, Bool, true, false, List, [], ◌∷◌, ◌++◌, Option, Some, None, length, take, drop, take-append-drop, refl, ap, ap₂, sym, ◌∙◌, subst, inl, inr, append-nil, append_assoc, arith}
use Rattle.std.specs.Prelude.{nat_le, not, Ok}
use Rattle.std.specs.BTreeMap.{IsOrdered}
use Rattle.std.specs.String.{string_cmp}
use Rattle.std.specs.Option.{is_some}
use Rattle.std.proofs.lemmas.Bool.{cases_Bool}
use Rattle.std.proofs.lemmas.Bool.Decides.{nat_tests}
use Rattle.std.proofs.lemmas.List.{length-take-le}
use Rattle.std.proofs.Math.Seq.{take-append_seam}
use Rattle.properties_format.specs.Text.{LineEnding, is_empty, lf, line_ending_text}
use Rattle.properties_format.specs.Encoding.{Encoding, InForce, Repertoire, begins_like_bom, byte_order_mark}
use Rattle.properties_format.specs.Body.{HeldLine, ending_bytes, group_bytes, groups_bytes, last_ending}
use Rattle.properties_format.specs.Body as body
use Rattle.properties_format.specs.Edited.{bom_of, final_group, guarding_lf, separation_by}
use Rattle.properties_format.specs.Plan.{planned, removal, with_key_removed}
use Rattle.properties_format.specs.Computed.Body.{held_groups_of, unended_bytes}
use Rattle.properties_format.proofs.Body.Groups.{groups_bytes-append, held-body, held_groups_of-meets}
use Rattle.properties_format.proofs.Edited.ByteOrderMarks.{ending-cut, in_force}
use Rattle.properties_format.proofs.GroupsInTurn.Lines.{AreLinesBy, bytes-unended, ending-of}
use Rattle.properties_format.proofs.GroupsInTurn.Merged.{AreInTurn, IsEndedGroup, in-turn}
use Rattle.properties_format.proofs.Plan.Slots.{AreSlotsOf, lf-no_key, removal-plan, slots-removed, turn-after, turn-cons}
use Rattle.properties_format.proofs.Plan.Added.{blank}
use Rattle.properties_format.proofs.Plan.Last.{first_behind}
use Rattle.properties_format.proofs.Body.Decoded.{decoded-nil}
use Rattle.properties_format.proofs.Plan.Listed.{guarded}
use Rattle.properties_text.specs.Encoding.{encoding_of}
use Rattle.properties_editing.specs.Private.BodyParts as parts
use Rattle.properties_editing.specs.Private.BodyParts.{ArePartsOf, AreTextsWithin, IsEnd, Piece, StandFor, is_empty_part, is_named, part_bytes, parts_bytes, pieces_groups, value_among}
use Rattle.properties_editing.specs.Private.SourceParts.{ReadsSourceParts, RemovesKeyFromParts, empty_front, first_text, lf_if, source_bytes}
use Rattle.properties_editing.specs.Private.PartBounds.{AreBounds}
use Rattle.properties_editing.specs.Private.RemovedParts.{AreBelow, key_places}
use Rattle.properties_editing.specs.Private.EditedParts.{StandForSource}
use Rattle.properties_editing.specs.Private.Sound.{AreSoundFor}
use Rattle.properties_editing.specs.Private.Sources.{IsBodyStartOf}
use Rattle.properties_editing.specs.declared.parts.Part.{Part}
use Rattle.properties_editing.specs.declared.source.BodyStart.{BodyStart}
use Rattle.properties_editing.specs.declared.source.Comments.{Comments}
use Rattle.properties_editing.specs.declared.parts.NamedKeys.{NamedKeys}
use Rattle.properties_editing.specs.declared.parts.Parts.{Parts}
use Rattle.properties_editing.specs.declared.parts.source_parts.SourceParts.{SourceParts}
use Rattle.properties_editing.proofs.Editing.{again, bom-front, editable, unmarked}
use Rattle.properties_editing.proofs.PartsAt.{end-bytes, parts-length}
use Rattle.properties_editing.proofs.PartsRead.{last-line, left-none}
use Rattle.properties_editing.proofs.PartsRemoved.{IsTail, empty-none, left_of, nil-left, parts-removed, removable, stays-front}

-- ---- the bytes of parts

pieces-bytes : (d : List ℕ) (named : List ℕ → Bool) (ps : List Part) (qs : List Piece) → ArePartsOf d named ps qs
    → parts_bytes d ps ≡ groups_bytes (pieces_groups qs)
pieces-bytes d named [] [] k = refl
pieces-bytes d named [] (q ∷ qs) k = absurd k
pieces-bytes d named (p ∷ ps) [] k = absurd k
pieces-bytes d named (p ∷ ps) (parts.own g ∷ qs) k =
    ap₂ (λ x y. x ++ y) (ap₂ (λ x y. x ++ y) k.0.bytes (ap body.ending_bytes k.0.ending) ∙ sym (bytes-unended g)) (pieces-bytes d named ps qs k.1)
pieces-bytes d named (p ∷ ps) (parts.others gs ∷ qs) k =
    let text : part_bytes d p ≡ groups_bytes gs = ap₂ (λ x y. x ++ y) k.0.bytes (ap parts.ended_bytes k.0.ending) ∙ append-nil (groups_bytes gs) in
    ap₂ (λ x y. x ++ y) text (pieces-bytes d named ps qs k.1) ∙ sym (groups_bytes-append gs (pieces_groups qs))

-- The parts have the bytes of the groups that they stand for.
pub stand-bytes : (d : List ℕ) (named : List ℕ → Bool) (gs : List (List HeldLine)) (p : Parts) → StandFor d named gs p
    → parts_bytes d p.parts.items ≡ groups_bytes gs
stand-bytes d named gs p s =
    pieces-bytes d named p.parts.items s.pieces s.are_parts
    ∙ sym (append-nil (groups_bytes (pieces_groups s.pieces)))
    ∙ ap (λ v. groups_bytes (pieces_groups s.pieces) ++ v) (sym (end-bytes s.pieces s.ended.line s.ended.end))
    ∙ sym (groups_bytes-append (pieces_groups s.pieces) s.ended.line)
    ∙ ap groups_bytes (sym s.ended.division)

-- ---- whether they begin like a byte order mark

-- Groups begin so if the first does without its ending.
mark-of : (o : Option LineEnding) (x y : List ℕ) → (o ≡ None → y ≡ []) → begins_like_bom ((x ++ ending_bytes o) ++ y) ≡ begins_like_bom x
mark-of None x y n = ap begins_like_bom (ap (λ v. (x ++ []) ++ v) (n refl) ∙ append-nil (x ++ []) ∙ append-nil x)
mark-of (Some by) x y n = ap begins_like_bom (append_assoc x (line_ending_text by) y) ∙ ending-cut x by y

groups-mark : (g : List HeldLine) (gs : List (List HeldLine)) → (last_ending g ≡ None → gs ≡ [])
    → begins_like_bom (groups_bytes (g ∷ gs)) ≡ begins_like_bom (unended_bytes g)
groups-mark g gs n =
    ap (λ v. begins_like_bom (v ++ groups_bytes gs)) (bytes-unended g)
    ∙ mark-of (last_ending g) (unended_bytes g) (groups_bytes gs) (λ o. ap groups_bytes (n o))

-- Only the last of groups in turn has no ending.
turn-mark : (e : Encoding) (g : List HeldLine) (gs : List (List HeldLine)) → IsTail e (g ∷ gs) → last_ending g ≡ None → gs ≡ []
turn-mark e g gs (inl none) o = absurd (cc)
turn-mark e g [] (inr a) o = refl
turn-mark e g (h ∷ gs) (inr a) o = let no = sym (ending-of e (Some a.0.0) g a.0.1) ∙ o in absurd (cc)

pieces-mark : (d : List ℕ) (named : List ℕ → Bool) (e : Encoding) (line : List (List HeldLine)) → groups_bytes line ≡ [] → (ps : List Part) (qs : List Piece)
    → ArePartsOf d named ps qs → IsTail e (pieces_groups qs ++ line)
    → begins_like_bom (first_text d ps) ≡ begins_like_bom (groups_bytes (pieces_groups qs ++ line))
pieces-mark d named e line z [] [] k t = sym (ap begins_like_bom z)
pieces-mark d named e line z [] (q ∷ qs) k t = absurd k
pieces-mark d named e line z (p ∷ ps) [] k t = absurd k
pieces-mark d named e line z (p ∷ ps) (q ∷ qs) k t = elim (cases_Bool (is_empty_part p)) [
  | inl empty ↦
      let none = empty-none d named p q k.0 empty in
      rw (empty, none) (pieces-mark d named e line z ps qs k.1 (rw none at t))
  | inr some ↦ rw some (of-piece q k.0 some t)
]
  where
    of-piece : (q : Piece) → parts.IsPartOf d named p q → is_empty_part p ≡ false → IsTail e (pieces_groups (q ∷ qs) ++ line)
        → begins_like_bom (parts.part_text_bytes d p.text) ≡ begins_like_bom (groups_bytes (pieces_groups (q ∷ qs) ++ line))
    of-piece (parts.own g) k some t =
        let rest = pieces_groups qs ++ line in ap begins_like_bom k.bytes ∙ sym (groups-mark g rest (turn-mark e g rest t))
    of-piece (parts.others []) k some t = let no = sym (k.empty refl) ∙ some in absurd (cc)
    of-piece (parts.others (g ∷ gs)) k some t =
        let rest = (gs ++ pieces_groups qs) ++ line in
        let last = turn-mark e g rest t in
        ap begins_like_bom k.bytes
        ∙ groups-mark g gs (λ o. nil-left gs (pieces_groups qs) (nil-left (gs ++ pieces_groups qs) line (last o)))
        ∙ sym (groups-mark g rest last)

-- The first text says whether the groups begin like a mark.
pub stand-mark : (d : List ℕ) (named : List ℕ → Bool) (e : Encoding) (gs : List (List HeldLine)) (p : Parts) → StandFor d named gs p → AreInTurn e gs
    → begins_like_bom (first_text d p.parts.items) ≡ begins_like_bom (groups_bytes gs)
stand-mark d named e gs p s turn =
    pieces-mark d named e s.ended.line (end-bytes s.pieces s.ended.line s.ended.end) p.parts.items s.pieces s.are_parts
    (inr (subst (AreInTurn e) s.ended.division turn))
    ∙ ap (λ v. begins_like_bom (groups_bytes v)) (sym s.ended.division)

-- ---- a source

-- The bytes that `SourceParts::to_bytes` returns are its bytes.
pub source-bytes : {r : Repertoire} {read now : List ℕ} {named : List ℕ → Bool} {gs : List (List HeldLine)} {p : SourceParts}
    → StandForSource r read now named gs p → source_bytes read p ≡ now
source-bytes {read = read} {now = now} {named = named} {gs = gs} {p = p} s =
    let start = p.opened.start in
    let bytes = stand-bytes (drop start read) named gs p.parts s.stand in
    ap (λ v. v ++ (lf_if p.guarded ++ parts_bytes (drop start read) p.parts.parts.items)) (sym s.mark)
    ∙ ap (λ v. take start now ++ (lf_if p.guarded ++ v)) bytes
    ∙ ap (λ v. take start now ++ v) (sym s.body)
    ∙ take-append-drop start now

pub blank-lines : (e : Encoding) → AreLinesBy e (Some lf) (blank e lf ∷ [])
blank-lines e = rw (decoded-nil e) (tt, refl, refl)

pub blank-ended : (e : Encoding) → IsEndedGroup e (blank e lf ∷ [])
blank-ended e = (lf, blank-lines e, rw (decoded-nil e) (inr (refl, refl)))

guarded-turn : (e : Encoding) (b : Bool) (gs : List (List HeldLine)) → AreInTurn e gs → AreInTurn e (guarded e b gs)
guarded-turn e true gs a = turn-cons e (blank e lf ∷ []) gs (blank-ended e) a
guarded-turn e false gs a = a

pub guarded-bytes : (e : Encoding) (b : Bool) (gs : List (List HeldLine)) → groups_bytes (guarded e b gs) ≡ lf_if b ++ groups_bytes gs
guarded-bytes e true gs = refl
guarded-bytes e false gs = refl

-- These groups, behind a single LF if one guards them, are the slots of the source.
pub source-slots : {r : Repertoire} {read now : List ℕ} {named : List ℕ → Bool} {gs : List (List HeldLine)} {p : SourceParts}
    → StandForSource r read now named gs p
    → (let f = encoding_of p.opened.encoding in AreSlotsOf f (drop p.opened.start now) (guarded f p.guarded gs))
source-slots {gs = gs} {p = p} s =
    let f = encoding_of p.opened.encoding in
    record { turn = guarded-turn f p.guarded gs s.turn; bytes = guarded-bytes f p.guarded gs ∙ sym s.body }

-- A source that was read stands in parts.
pub source-read : (r : Repertoire) (read : List ℕ) (comments : Comments) (opened : BodyStart) (keys : NamedKeys) (p : SourceParts) → IsBodyStartOf read r opened
    → ReadsSourceParts comments opened (drop opened.start read) keys (Ok p)
    → (let gs = held_groups_of (encoding_of opened.encoding) (drop opened.start read) in
    AreSoundFor comments gs × StandForSource r read read (is_named keys) gs p × (p.parts.keys.all ≡ keys.all))
source-read r read comments opened keys p h reads =
    let f = encoding_of opened.encoding in
    let d = drop opened.start read in
    let gs = held_groups_of f d in
    let meets = held_groups_of-meets f d in (
      reads.0.0,
      record {
        in_force = rw reads.1 h;
        within = rw reads.1 h.within;
        mark = refl;
        body = rw (reads.1, reads.3) (sym (held-body f d gs h.editable meets));
        turn = rw reads.1 (in-turn f d gs h.editable meets);
        stand = rw reads.1 reads.0.1;
        empty = reads.2;
        bounds = rw reads.1 reads.4;
      },
      reads.0.2,
    )

-- What `SourceParts::remove` asks, it has.
pub source-removable : {r : Repertoire} {read now : List ℕ} {named : List ℕ → Bool} {gs : List (List HeldLine)} {p : SourceParts} (key : List ℕ)
    → StandForSource r read now named gs p
    → IsOrdered string_cmp p.parts.keys.places × AreTextsWithin (drop p.opened.start read) p.parts.parts.items
    × AreBelow (length p.parts.parts.items) (key_places p.parts key) × (p.empty ≡ empty_front p.parts.parts.items)
    × AreBounds (drop p.opened.start read) p.bounds p.parts.parts.items
source-removable {read = read} {named = named} {gs = gs} {p = p} key s =
    let asked = removable (drop p.opened.start read) named key gs p.parts s.stand in
    (s.stand.placed.ordered, asked.0, asked.1, s.empty, s.bounds)

-- ---- what comes first

next-place : (m n : ℕ) → nat_le (suc m) (suc n) ≡ nat_le m n
next-place m n = elim (cases_Bool (nat_le m n)) [
  | inl t ↦ let same : nat_le (suc m) (suc n) ≡ true = grind (arith, nat_tests) in same ∙ sym t
  | inr t ↦ let same : nat_le (suc m) (suc n) ≡ false = grind (arith, nat_tests) in same ∙ sym t
]

-- The empty parts at the front say whether a place is the first of the body.
pub first-place : (d : List ℕ) (named : List ℕ → Bool) (ps : List Part) (before after : List Piece) → ArePartsOf d named ps (before ++ after)
    → nat_le (length before) (empty_front ps) ≡ first_behind true (pieces_groups before)
first-place d named ps [] after k = let first : nat_le 0 (empty_front ps) ≡ true = grind (arith, nat_tests) in first
first-place d named [] (q ∷ before) after k = absurd k
first-place d named (p ∷ ps) (q ∷ before) after k = elim (cases_Bool (is_empty_part p)) [
  | inl empty ↦ rw (empty, empty-none d named p q k.0 empty) (next-place (length before) (empty_front ps) ∙ first-place d named ps before after k.1)
  | inr some ↦ let later : nat_le (suc (length before)) 0 ≡ false = grind (arith, nat_tests) in rw some (later ∙ sym (of-piece q k.0 some))
]
  where
    of-piece : (q : Piece) → parts.IsPartOf d named p q → is_empty_part p ≡ false → first_behind true (parts.piece_groups q ++ pieces_groups before) ≡ false
    of-piece (parts.own g) k some = refl
    of-piece (parts.others (g ∷ gs)) k some = refl
    of-piece (parts.others []) k some = let no = sym (k.empty refl) ∙ some in absurd (cc)

-- Each group of a piece has bytes.
some-bytes : (d : List ℕ) (named : List ℕ → Bool) (ps : List Part) (qs : List Piece) (g : List HeldLine) (gs : List (List HeldLine)) → ArePartsOf d named ps qs
    → pieces_groups qs ≡ g ∷ gs → group_bytes g ≢ []
some-bytes d named ps [] g gs k same = absurd (cc)
some-bytes d named [] (q ∷ qs) g gs k same = absurd k
some-bytes d named (p ∷ ps) (parts.others [] ∷ qs) g gs k same = some-bytes d named ps qs g gs k.1 same
some-bytes d named (p ∷ ps) (parts.others (h ∷ hs) ∷ qs) g gs k same = let q : h ≡ g = cc in rw q at k.0.have.0
some-bytes d named (p ∷ ps) (parts.own h ∷ qs) g gs k same = λ none.
    let q : h ≡ g = cc in
    k.0.some (left-none (unended_bytes h) (ending_bytes (last_ending h)) (sym (bytes-unended h) ∙ ap group_bytes q ∙ none))

some-front : (x y : List ℕ) → x ≢ [] → is_empty (x ++ y) ≡ false
some-front [] y n = absurd (n refl)
some-front (c ∷ x) y n = refl

-- A new pair behind the parts comes first if all parts are empty.
pub first-new : (d : List ℕ) (named : List ℕ → Bool) (e : Encoding) (ending : List ℕ) (gs : List (List HeldLine)) (p : Parts) → StandFor d named gs p
    → AreInTurn e gs → nat_le (length p.parts.items) (empty_front p.parts.items) ≡ is_empty (groups_bytes gs ++ separation_by ending (final_group gs))
first-new d named e ending gs p s turn =
    let held = subst (ArePartsOf d named p.parts.items) (sym (append-nil s.pieces)) s.are_parts in
    ap (λ n. nat_le n (empty_front p.parts.items)) (parts-length d named p.parts.items s.pieces s.are_parts)
    ∙ first-place d named p.parts.items s.pieces [] held
    ∙ of-groups (pieces_groups s.pieces) s.ended.line refl s.ended.division s.ended.end
  where
    of-groups : (front line : List (List HeldLine)) → pieces_groups s.pieces ≡ front → gs ≡ pieces_groups s.pieces ++ line → IsEnd s.pieces line
        → first_behind true front ≡ is_empty (groups_bytes gs ++ separation_by ending (final_group gs))
    of-groups (g ∷ front) line same division end =
        let some = some-bytes d named p.parts.items s.pieces g front s.are_parts same in
        let whole : gs ≡ g ∷ (front ++ line) = division ∙ ap (λ v. v ++ line) same in
        let bytes = group_bytes g in
        sym (ap (λ v. is_empty (groups_bytes v ++ separation_by ending (final_group gs))) whole
        ∙ ap is_empty (append_assoc bytes (groups_bytes (front ++ line)) (separation_by ending (final_group gs)))
        ∙ some-front bytes (groups_bytes (front ++ line) ++ separation_by ending (final_group gs)) some)
    of-groups [] [] same division end = absurd (subst (AreInTurn e) (division ∙ ap (λ v. v ++ []) same) turn)
    of-groups [] (l ∷ []) same division end =
        let whole : gs ≡ l ∷ [] = division ∙ ap (λ v. v ++ l ∷ []) same in
        let empty = last-line e l (subst (AreInTurn e) whole turn) end in
        sym (ap (λ v. is_empty (groups_bytes v ++ separation_by ending (final_group v))) whole ∙ rw (end, empty) refl)
    of-groups [] (l ∷ m ∷ ls) same division end = absurd end

-- ---- a source is edited

-- After an edit that keeps the mark, parts stand for the new source if they stand for the groups of its body.
pub source-again : {r : Repertoire} {read now : List ℕ} {named : List ℕ → Bool} {gs left : List (List HeldLine)} {old new : SourceParts} (result body : List ℕ)
    → StandForSource r read now named gs old → result ≡ bom_of now ++ body
    → byte_order_mark r.encoding result ≡ record { encoding = (byte_order_mark r.encoding now).encoding; body = body } → new.opened ≡ old.opened
    → body ≡ lf_if new.guarded ++ groups_bytes left → AreInTurn (encoding_of old.opened.encoding) left
    → StandFor (drop old.opened.start read) named left new.parts → new.empty ≡ empty_front new.parts.parts.items
    → AreBounds (drop old.opened.start read) new.bounds new.parts.parts.items → StandForSource r read result named left new
source-again {r = r} {read = read} {now = now} {old = old} result body s whole force opened body_is turn stand empty bounds =
    let start = old.opened.start in
    let again_in : IsBodyStartOf result r old.opened = again result body s.in_force whole force in
    let front = bom-front s.in_force in
    let size : start ≡ length (bom_of now) = sym (ap length front ∙ length-take-le start now s.in_force.within) in
    let mark : take start result ≡ take start read = ap₂ take size whole ∙ take-append_seam (bom_of now) body ∙ front ∙ s.mark in
    let back : drop start result ≡ body = ap (λ v. let u : InForce = v in u.body) (sym again_in.in_force ∙ force) in
    record {
      in_force = rw opened again_in;
      within = rw opened s.within;
      mark = rw opened mark;
      body = rw opened (back ∙ body_is);
      turn = rw opened turn;
      stand = rw opened stand;
      empty = empty;
      bounds = rw opened bounds;
    }

-- ---- a key is removed

-- what a removal makes of a body
abbrev pub removed_in : List ℕ → List ℕ → InForce → List ℕ
removed_in now key w =
    let all = held_groups_of w.encoding w.body in
    let rest = planned (removal key all) all in
    guarding_lf now rest ++ rest

-- The groups that a removal leaves behind an LF are those that it leaves, behind it.
left-guarded : (e : Encoding) (key : List ℕ) (b : Bool) (gs : List (List HeldLine)) → left_of e key (guarded e b gs) ≡ guarded e b (left_of e key gs)
left-guarded e key false gs = refl
left-guarded e key true gs =
    let no_key = lf-no_key e (Some lf) key (blank e lf ∷ []) (blank-lines e) refl in
    stays-front e key ((blank e lf ∷ []) ∷ []) gs (no_key, tt)

no-mark : (now rest : List ℕ) → begins_like_bom now ≡ false → begins_like_bom (guarding_lf now rest ++ rest) ≡ false
no-mark now rest n = grind (arith)

-- An LF guards the rest if it did, or if it has to now.
guards : (now : List ℕ) (b : Bool) (xs : List ℕ) → (let rest = lf_if b ++ xs in
    guarding_lf now rest ++ rest ≡ lf_if (b || not (begins_like_bom now) && begins_like_bom xs) ++ xs)
guards now false xs = refl
guards now true xs = elim (cases_Bool (not (begins_like_bom now))) [ inl n ↦ rw n refl | inr n ↦ rw n refl ]

-- If parts stand for a source, they stand for it without the key after they have been removed.
pub source-removed : {r : Repertoire} {read now : List ℕ} {named : List ℕ → Bool} {gs : List (List HeldLine)} {old : SourceParts} (key : List ℕ)
    (told : Bool) (new : SourceParts)
    → named key ≡ true → StandForSource r read now named gs old → RemovesKeyFromParts (drop old.opened.start read) key old told new
    → StandForSource r read (with_key_removed r.encoding now key) named (left_of (encoding_of old.opened.encoding) key gs) new
    × (told ≡ is_some (value_among key gs)) × (new.parts.keys.all ≡ old.parts.keys.all)
source-removed {r} {read} {now} {named} {gs} {old} key told new is s removes =
    let f = encoding_of old.opened.encoding in
    let start = old.opened.start in
    let d = drop start read in
    let left = left_of f key gs in
    let w : InForce = record { encoding = f; body = drop start now } in
    let result = with_key_removed r.encoding now key in
    let body = removed_in now key w in
    let all = held_groups_of f (drop start now) in
    let rest = planned (removal key all) all in
    let whole : result ≡ bom_of now ++ body = ap (λ v. let u : InForce = v in bom_of now ++ removed_in now key u) s.in_force.in_force in
    let force = ap (byte_order_mark r.encoding) whole ∙ in_force r.encoding now body (editable s.in_force) (no-mark now rest) in
    let removed = parts-removed d named f key gs old.parts new.parts told is s.turn s.stand removes.removes in
    let turn : AreInTurn f left = turn-after f (removal key gs) gs s.in_force.editable s.turn (removal-plan f key gs s.turn) in
    let slots = slots-removed f (drop start now) key (guarded f old.guarded gs) s.in_force.editable (source-slots s) in
    let rest_is : rest ≡ lf_if old.guarded ++ groups_bytes left =
    sym slots.bytes ∙ ap groups_bytes (left-guarded f key old.guarded gs) ∙ guarded-bytes f old.guarded left in
    let marked : (start == 0) && begins_like_bom (first_text d new.parts.parts.items) ≡ not (begins_like_bom now) && begins_like_bom (groups_bytes left) =
    ap₂ (λ a b. a && b) (unmarked s.in_force) (stand-mark d named f left new.parts removed.0 turn) in
    let body_is : body ≡ lf_if new.guarded ++ groups_bytes left =
    ap (λ v. guarding_lf now v ++ v) rest_is ∙ guards now old.guarded (groups_bytes left)
    ∙ ap (λ b. lf_if (old.guarded || b) ++ groups_bytes left) (sym marked) ∙ ap (λ b. lf_if b ++ groups_bytes left) (sym removes.guarded) in (
      source-again result body s whole force removes.opened body_is turn removed.0 removes.empty removes.bounds,
      removed.1,
      removed.2,
    )
