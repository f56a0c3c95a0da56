-- The pairs of a source in parts, if every key is named: those of the pieces are those of the groups that its bytes
-- have.
use Rattle.std.proofs.Common.{◌≡◌, ℕ, ◌+◌, Bool, true, false, List, [], ◌∷◌, ◌++◌, Option, Some, None, length, drop, refl, ap, ap₂, sym, ◌∙◌, subst, inl, inr, append-nil}
use Rattle.std.specs.Prelude.{bytes_eq, filter_map, map, if◌then◌else◌}
use Rattle.std.specs.List.{cons_option}
use Rattle.std.specs.Option.{option_or}
use Rattle.std.proofs.lemmas.Bool.{cases_Bool}
use Rattle.std.proofs.lemmas.List.Elements.{filter_map-append}
use Rattle.properties_format.specs.Text.{crlf, lf}
use Rattle.properties_format.specs.Encoding.{Encoding, InForce, Repertoire}
use Rattle.properties_format.specs.Lines.{joined}
use Rattle.properties_format.specs.Items.{Entry, Outcome, ignored, given, broken}
use Rattle.properties_format.specs.Items as content
use Rattle.properties_format.specs.Body.{HeldLine, as_lines, ending_bytes, last_ending}
use Rattle.properties_format.specs.Computed.Body.{held_groups_of, unended_bytes}
use Rattle.properties_format.specs.Computed.Edited.{IsSoundOutcome}
use Rattle.properties_format.specs.Computed.Items.{followed, outcome_of}
use Rattle.properties_format.specs.Computed.Maps.{first_value}
use Rattle.properties_format.proofs.Body.Numbers.{entries_in, folded-source}
use Rattle.properties_format.proofs.Edits.Escapes.{escapes_of_body}
use Rattle.properties_format.proofs.Edits.PairValues as pairs
use Rattle.properties_format.specs.Edits.{AreInComments, pair_from}
use Rattle.properties_format.specs.Found.{escapes_from}
use Rattle.properties_format.proofs.GroupsInTurn.Lines.{bytes-unended, texts-with}
use Rattle.properties_format.proofs.GroupsInTurn.Merged.{AreInTurn, after-lf, are_one_ending, merged, merged-one, merged-two, one-ending}
use Rattle.properties_format.proofs.Keys.{pair_keys}
use Rattle.properties_format.proofs.Maps as entry
use Rattle.properties_format.proofs.Plan.Added.{blank}
use Rattle.properties_format.proofs.Plan.Listed.{guarded}
use Rattle.properties_format.proofs.Plan.Slots.{slots-merged}
use Rattle.properties_text.specs.Encoding.{encoding_of}
use Rattle.properties_items.specs.BorrowedItems.{outcome_pair}
use Rattle.properties_editing.specs.Private.BodyDocuments.{every, document_groups}
use Rattle.properties_editing.specs.Private.BodyParts.{outcome, ArePartsOf, IsEnd, NoneNamed, Piece, Said, StandFor, group_said, names_said, piece_said, pieces_groups, value_among, value_if, value_said}
use Rattle.properties_editing.specs.Private.BodyParts as parts
use Rattle.properties_editing.specs.Private.EditedParts.{StandForSource}
use Rattle.properties_editing.specs.Private.KeyOrder.{said_key}
use Rattle.properties_editing.specs.Private.Sound.{AreSound, AreSoundFor, IsSoundFor}
use Rattle.properties_editing.specs.declared.source.Comments.TheVariants.{PassedOver, Read}
use Rattle.properties_editing.specs.declared.parts.Part.{Part}
use Rattle.properties_editing.specs.declared.parts.Parts.{Parts}
use Rattle.properties_editing.specs.declared.parts.source_parts.SourceParts.{SourceParts}
use Rattle.properties_editing.proofs.PassedOver.{read-line}
use Rattle.properties_editing.proofs.PartsAt.{or-none}
use Rattle.properties_editing.proofs.PartsRead.{left-none}
use Rattle.properties_editing.proofs.PartsRemoved.{IsTail, tail-back, lf-said}
use Rattle.properties_editing.proofs.SourceParts.{source-slots}

abbrev pub Pairs : Type 0
Pairs = List (List ℕ × List ℕ)

-- the pairs of groups, and those of pieces
abbrev pub pairs_in : List (List HeldLine) → Pairs
pairs_in gs = filter_map group_said gs

abbrev pub pairs_of : List Piece → Pairs
pairs_of pieces = filter_map piece_said pieces

-- the value of a key among pairs, and all keys
abbrev pub last_said : List ℕ → Pairs → Option (List ℕ)
last_said key [] = None
last_said key (p ∷ ps) = option_or (last_said key ps) (value_if key (Some p))

abbrev pub keys_of : Pairs → List (List ℕ)
keys_of pairs = map (λ p. p.0) pairs

-- ---- values and keys by pairs

value-said : {X : Type 0} (f : X → Said) (key : List ℕ) (xs : List X) → value_said key (map f xs) ≡ last_said key (filter_map f xs)
value-said f key [] = refl
value-said f key (x ∷ xs) = by (f x) (value_said key (map f xs)) (value-said f key xs)
  where
    by : (o : Said) (v : Option (List ℕ)) → v ≡ last_said key (filter_map f xs) → option_or v (value_if key o) ≡ last_said key (cons_option o (filter_map f xs))
    by None v same = or-none v ∙ same
    by (Some p) v same = ap (λ u. option_or u (value_if key (Some p))) same

-- of groups and of pieces,
pub value-groups : (key : List ℕ) (gs : List (List HeldLine)) → value_among key gs ≡ last_said key (pairs_in gs)
value-groups key gs = value-said group_said key gs

pub value-pieces : (key : List ℕ) (ps : List Piece) → value_said key (map piece_said ps) ≡ last_said key (pairs_of ps)
value-pieces key ps = value-said piece_said key ps

pub keys-pieces : (ps : List Piece) → filter_map said_key (map piece_said ps) ≡ keys_of (pairs_of ps)
keys-pieces [] = refl
keys-pieces (p ∷ ps) = by (piece_said p) (keys-pieces ps)
  where
    by : (o : Said) → filter_map said_key (map piece_said ps) ≡ keys_of (pairs_of ps)
        → cons_option (said_key o) (filter_map said_key (map piece_said ps)) ≡ keys_of (cons_option o (pairs_of ps))
    by None same = same
    by (Some (key, value)) same = ap (λ v. key ∷ v) same

-- and of the entries of groups in which nothing is malformed.
first-or : (a b : Option (List ℕ)) → first_value a b ≡ option_or a b
first-or None b = refl
first-or (Some x) b = refl

pub value-entries : (n : ℕ) (gs : List (List HeldLine)) (key : List ℕ) → AreSoundFor Read gs
    → entry.value_in (entries_in n gs) key ≡ last_said key (pairs_in gs)
value-entries n [] key s = refl
value-entries n (g ∷ gs) key s = by (outcome g) (read-line _ s.0) (value-entries (n + length g) gs key s.1)
  where
    by : (o : Outcome) → IsSoundOutcome o → entry.value_in (entries_in (n + length g) gs) key ≡ last_said key (pairs_in gs)
        → entry.value_in (followed n o (entries_in (n + length g) gs)) key ≡ last_said key (cons_option (outcome_pair o) (pairs_in gs))
    by ignored s h = h
    by (given (content.comment text)) s h = first-or (entry.value_in (entries_in (n + length g) gs) key) None ∙ or-none _ ∙ h
    by (given (content.pair k v)) s h =
        let value = if bytes_eq k key then Some v else None in
        first-or (entry.value_in (entries_in (n + length g) gs) key) value ∙ ap (λ u. option_or u value) h
    by (broken kind) s h = absurd s

pub keys-entries : (n : ℕ) (gs : List (List HeldLine)) → AreSoundFor Read gs → pair_keys (entries_in n gs) ≡ keys_of (pairs_in gs)
keys-entries n [] s = refl
keys-entries n (g ∷ gs) s = by (outcome g) (read-line _ s.0) (keys-entries (n + length g) gs s.1)
  where
    by : (o : Outcome) → IsSoundOutcome o → pair_keys (entries_in (n + length g) gs) ≡ keys_of (pairs_in gs)
        → pair_keys (followed n o (entries_in (n + length g) gs)) ≡ keys_of (cons_option (outcome_pair o) (pairs_in gs))
    by ignored s h = h
    by (given (content.comment text)) s h = h
    by (given (content.pair k v)) s h = ap (λ u. k ∷ u) h
    by (broken kind) s h = absurd s

-- ---- the pairs of a source, as its callers name them

-- the entries of the pairs of groups, of which the first begins in this line
abbrev pub pair_entries : ℕ → List (List HeldLine) → List Entry
pair_entries n [] = []
pair_entries n (g ∷ gs) = pair_from n (outcome g) (pair_entries (n + length g) gs)

pub pairs-groups : (e : Encoding) (source : List ℕ) → pairs.pairs_of e source ≡ pair_entries 1 (document_groups e source)
pairs-groups e source = folded-source (λ n x rest. pair_from n (outcome_of x) rest) pairs.pairs_in pair_entries (λ g gs. refl) (λ n g gs. refl) (λ n. refl) e source

pub value-pair_entries : (n : ℕ) (gs : List (List HeldLine)) (key : List ℕ) → entry.value_in (pair_entries n gs) key ≡ last_said key (pairs_in gs)
value-pair_entries n [] key = refl
value-pair_entries n (g ∷ gs) key = by (outcome g) (value-pair_entries (n + length g) gs key)
  where
    by : (o : Outcome) → entry.value_in (pair_entries (n + length g) gs) key ≡ last_said key (pairs_in gs)
        → entry.value_in (pair_from n o (pair_entries (n + length g) gs)) key ≡ last_said key (cons_option (outcome_pair o) (pairs_in gs))
    by ignored h = h
    by (given (content.comment text)) h = h
    by (given (content.pair k v)) h =
        let value = if bytes_eq k key then Some v else None in
        first-or (entry.value_in (pair_entries (n + length g) gs) key) value ∙ ap (λ u. option_or u value) h
    by (broken kind) h = h

pub keys-pair_entries : (n : ℕ) (gs : List (List HeldLine)) → pair_keys (pair_entries n gs) ≡ keys_of (pairs_in gs)
keys-pair_entries n [] = refl
keys-pair_entries n (g ∷ gs) = by (outcome g) (keys-pair_entries (n + length g) gs)
  where
    by : (o : Outcome) → pair_keys (pair_entries (n + length g) gs) ≡ keys_of (pairs_in gs)
        → pair_keys (pair_from n o (pair_entries (n + length g) gs)) ≡ keys_of (cons_option (outcome_pair o) (pairs_in gs))
    by ignored h = h
    by (given (content.comment text)) h = h
    by (given (content.pair k v)) h = ap (λ u. k ∷ u) h
    by (broken kind) h = h

-- ---- malformed escapes in comments

-- Nothing else is malformed if all malformed escapes are in comments,
pub sound-escapes : (n : ℕ) (gs : List (List HeldLine)) → AreInComments (escapes_of_body n gs) → AreSound gs
sound-escapes n [] h = tt
sound-escapes n (g ∷ gs) h = let m = by (outcome g) refl h in (m.0, sound-escapes (n + length g) gs m.1)
  where
    by : (o : Outcome) → outcome g ≡ o → AreInComments (escapes_from n (joined (as_lines g)) o (escapes_of_body (n + length g) gs))
        → IsSoundFor PassedOver (joined (as_lines g)) × AreInComments (escapes_of_body (n + length g) gs)
    by ignored is h = (inl (subst IsSoundOutcome (sym is) tt), h)
    by (given content) is h = (inl (subst IsSoundOutcome (sym is) tt), h)
    by (broken kind) is h = (inr h.0, h.1)

-- and only then.
pub escapes-sound : (n : ℕ) (gs : List (List HeldLine)) → AreSound gs → AreInComments (escapes_of_body n gs)
escapes-sound n [] s = tt
escapes-sound n (g ∷ gs) s = by (outcome g) refl s.0 (escapes-sound (n + length g) gs s.1)
  where
    by : (o : Outcome) → outcome g ≡ o → IsSoundFor PassedOver (joined (as_lines g)) → AreInComments (escapes_of_body (n + length g) gs)
        → AreInComments (escapes_from n (joined (as_lines g)) o (escapes_of_body (n + length g) gs))
    by ignored is k h = h
    by (given content) is k h = h
    by (broken kind) is (inl k) h = absurd (subst IsSoundOutcome is k)
    by (broken kind) is (inr k) h = (k, h)

-- ---- the same pairs

-- A CR and a single LF that are made one line ending change no pair,
merged-pairs : (e : Encoding) (gs : List (List HeldLine)) → AreInTurn e gs → pairs_in (merged gs) ≡ pairs_in gs
merged-pairs e [] a = refl
merged-pairs e (g ∷ []) a = refl
merged-pairs e (g ∷ h ∷ gs) a = elim (cases_Bool (are_one_ending g h)) [
  | inl k ↦
      let m = one-ending g h k in
      ap pairs_in (merged-one g h gs k)
      ∙ ap₂ cons_option (ap (λ v. outcome_pair (outcome_of (joined v))) (texts-with (Some crlf) g)) (merged-pairs e gs (after-lf e h gs a.1 m.by_lf))
      ∙ ap (λ o. cons_option (group_said g) (cons_option o (pairs_in gs))) (sym (lf-said e h gs a.1 m.empty))
  | inr k ↦ ap pairs_in (merged-two g h gs k) ∙ ap (cons_option (group_said g)) (merged-pairs e (h ∷ gs) a.1)
]

-- nor does an LF that guards the groups.
guarded-pairs : (e : Encoding) (b : Bool) (gs : List (List HeldLine)) → AreInTurn e (guarded e b gs) → pairs_in (guarded e b gs) ≡ pairs_in gs
guarded-pairs e true gs a = ap (λ o. cons_option o (pairs_in gs)) (lf-said e (blank e lf ∷ []) gs a refl)
guarded-pairs e false gs a = refl

-- Groups without a key that is named have no pair.
unnamed-pairs : (gs : List (List HeldLine)) → NoneNamed every gs → pairs_in gs ≡ []
unnamed-pairs [] n = refl
unnamed-pairs (g ∷ gs) n = ap₂ cons_option (by (group_said g) n.0) (unnamed-pairs gs n.1)
  where
    by : (o : Said) → names_said every o ≡ false → o ≡ None
    by None n = refl
    by (Some (key, value)) n = absurd (cc)

-- So all pairs are pieces.
pieces-pairs : (d : List ℕ) (ps : List Part) (qs : List Piece) → ArePartsOf d every ps qs → pairs_in (pieces_groups qs) ≡ pairs_of qs
pieces-pairs d [] [] k = refl
pieces-pairs d [] (q ∷ qs) k = absurd k
pieces-pairs d (p ∷ ps) [] k = absurd k
pieces-pairs d (p ∷ ps) (parts.own g ∷ qs) k = ap (cons_option (group_said g)) (pieces-pairs d ps qs k.1)
pieces-pairs d (p ∷ ps) (parts.others gs ∷ qs) k =
    filter_map-append group_said gs (pieces_groups qs)
    ∙ ap₂ (λ x y. x ++ y) (unnamed-pairs gs k.0.unnamed) (pieces-pairs d ps qs k.1)

-- The pairs of the groups are those of the pieces,
pub stand-pairs : (d : List ℕ) (e : Encoding) (gs : List (List HeldLine)) (p : Parts) (s : StandFor d every gs p) → AreInTurn e gs → pairs_in gs ≡ pairs_of s.pieces
stand-pairs d e gs p s turn =
    ap pairs_in s.ended.division ∙ filter_map-append group_said (pieces_groups s.pieces) s.ended.line
    ∙ ap₂ (λ x y. x ++ y) (pieces-pairs d p.parts.items s.pieces s.are_parts)
    (of-line s.ended.line s.ended.end (tail-back e (pieces_groups s.pieces) s.ended.line (inr (subst (AreInTurn e) s.ended.division turn))))
    ∙ append-nil (pairs_of s.pieces)
  where
    of-line : (line : List (List HeldLine)) → IsEnd s.pieces line → IsTail e line → pairs_in line ≡ []
    of-line [] k t = refl
    of-line (l ∷ []) k (inl none) = absurd (cc)
    of-line (l ∷ []) k (inr a) =
        let unended = left-none (unended_bytes l) (ending_bytes (last_ending l)) (sym (bytes-unended l) ∙ k) in
        ap (λ o. cons_option o []) (lf-said e l [] a unended)
    of-line (l ∷ m ∷ ls) k t = absurd k

-- and those of the groups that the bytes have.
pub source-pairs : {r : Repertoire} {read now : List ℕ} {gs : List (List HeldLine)} {p : SourceParts} (s : StandForSource r read now every gs p)
    → pairs_in (document_groups r.encoding now) ≡ pairs_of s.stand.pieces
source-pairs {read = read} {now = now} {gs = gs} {p = p} s =
    let f = encoding_of p.opened.encoding in
    let slots = source-slots s in
    ap (λ v. let w : InForce = v in pairs_in (held_groups_of w.encoding w.body)) s.in_force.in_force
    ∙ ap pairs_in (sym (slots-merged f (drop p.opened.start now) (guarded f p.guarded gs) s.in_force.editable slots))
    ∙ merged-pairs f (guarded f p.guarded gs) slots.turn
    ∙ guarded-pairs f p.guarded gs slots.turn
    ∙ stand-pairs (drop p.opened.start read) f gs p.parts s.stand s.turn
