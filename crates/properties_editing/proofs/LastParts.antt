-- The last pair and the last line ending of parts: among the groups that the parts stand for, and by themselves.
use Rattle.std.proofs.Common.{◌≡◌, List, [], ◌∷◌, Option, Some, None, drop, ap, sym, ◌∙◌, subst, inl, inr, ℕ, zero, suc, Bool, true, ap₂, false, refl, ◌++◌}
use Rattle.std.specs.Prelude.{get_or}
use Rattle.std.specs.Option.{option_or, option_map, is_some}
use Rattle.properties_format.specs.Encoding.{Encoding, Repertoire}
use Rattle.properties_format.specs.Body.{HeldLine, as_lines, ending_bytes, held_in, last_ending}
use Rattle.properties_format.specs.Edited.{is_editable}
use Rattle.properties_format.proofs.Valued.Unended.{without_ending, unended-joined}
use Rattle.properties_text.specs.Encoding.{encoding_of}
use Rattle.properties_items.specs.BorrowedItems.{outcome_pair}
use Rattle.properties_editing.specs.Private.BodyParts.{outcome, is_empty_part, no_part, last_pair_bytes, pair_bytes_of, ArePartsOf, IsEnd, IsPartOf, Piece, Said, StandFor, group_said, names_said, pieces_groups}
use Rattle.properties_editing.specs.Private.EditedParts.{IsPairIn, StandForSource, between_last}
use Rattle.properties_editing.specs.Private.PartBounds.{AreEmpty}
use Rattle.properties_editing.specs.Private.PartEndings.{ArePartsWithin, HaveNoBytes, last_some, part_cr_end, part_pair, IsPartWithin, kind_pair, last_span}
use Rattle.properties_editing.specs.declared.parts.source_parts.SourceParts.{SourceParts}
use Rattle.properties_editing.proofs.PartsRemoved.{IsTail, empty-none, tail-next, lf-no_pair, tail-back}
use Rattle.properties_editing.proofs.ValuedParts.{alone-groups}
use Rattle.properties_format.specs.Computed.Body.{unended_bytes, held_groups_of}
use Rattle.properties_format.proofs.GroupsInTurn.Merged.{AreInTurn, after-lf, are_one_ending, merged, merged-one, merged-two, one-ending, turn-first}
use Rattle.std.proofs.lemmas.Bool.{cases_Bool}
use Rattle.properties_format.specs.Text.{crlf, lf}
use Rattle.properties_format.specs.Lines.{joined}
use Rattle.properties_format.specs.Computed.Split.{split_of}
use Rattle.properties_format.specs.Computed.Valued.{between_if_pair, last_between, or_else}
use Rattle.properties_format.proofs.GroupsInTurn.Lines.{texts-with, bytes-unended}
use Rattle.properties_editing.specs.Private.Sound.{AreSound, IsSoundFor}
use Rattle.properties_editing.specs.declared.source.Comments.TheVariants.{PassedOver}
use Rattle.properties_editing.proofs.LastPairs.{between-some, between-unpaired}
use Rattle.properties_format.specs.Valued.{ending_among}
use Rattle.properties_format.proofs.Body.Groups.{held_groups_of-meets}
use Rattle.properties_items.specs.Line.{ending_of}
use Rattle.properties_items.specs.declared.line.LineEnding as declared
use Rattle.properties_editing.specs.Private.BodyParts as parts
use Rattle.properties_editing.specs.Private.BodyValues.{IsLastEnding}
use Rattle.properties_editing.specs.declared.parts.PartText.{PartText}
use Rattle.properties_editing.specs.declared.parts.PartText.TheVariants as text
use Rattle.properties_editing.specs.declared.parts.Part.{Part}
use Rattle.properties_editing.specs.declared.parts.Parts.{Parts}
use Rattle.properties_editing.proofs.PartsAt.{or-assoc, or-none}
use Rattle.properties_editing.proofs.PartsRead.{left-none}

-- ---- spans in the bytes

part-within : (d : List ℕ) (named : List ℕ → Bool) (p : Part) (q : Piece) → IsPartOf d named p q → IsPartWithin d p
part-within d named p (parts.own g) k = (k.within, subst (λ v. parts.IsLastWithin d p.text (last_span v)) (sym k.kind) (none p.text))
  where
    none : (t : PartText) → parts.IsLastWithin d t None
    none (text.Span s) = tt
    none (text.Own v) = tt
part-within d named p (parts.others gs) k = (k.within, subst (λ v. parts.IsLastWithin d p.text (last_span v)) (sym k.kind) k.last_within)

-- The spans of parts that stand for groups are in the bytes.
pub parts-within : (d : List ℕ) (named : List ℕ → Bool) (ps : List Part) (qs : List Piece) → ArePartsOf d named ps qs → ArePartsWithin d ps
parts-within d named [] [] k = tt
parts-within d named [] (q ∷ qs) k = absurd k
parts-within d named (p ∷ ps) [] k = absurd k
parts-within d named (p ∷ ps) (q ∷ qs) k = (part-within d named p q k.0, parts-within d named ps qs k.1)

-- ---- the last pair

pairs-append : (gs hs : List (List HeldLine)) → last_pair_bytes (gs ++ hs) ≡ option_or (last_pair_bytes hs) (last_pair_bytes gs)
pairs-append [] hs = sym (or-none (last_pair_bytes hs))
pairs-append (g ∷ gs) hs = ap (λ o. option_or o (pair_bytes_of g)) (pairs-append gs hs) ∙ or-assoc (last_pair_bytes hs) (last_pair_bytes gs) (pair_bytes_of g)

-- A pair with a key that is named is a pair.
named-said : (named : List ℕ → Bool) (s : Said) (x : List ℕ) → names_said named s ≡ true → option_map (λ said. x) s ≡ Some x
named-said named None x h = absurd (cc)
named-said named (Some (k, v)) x h = refl

pieces-last : (d : List ℕ) (named : List ℕ → Bool) (ps : List Part) (qs : List Piece) → ArePartsOf d named ps qs
    → last_some (part_pair d) ps ≡ last_pair_bytes (pieces_groups qs)
pieces-last d named [] [] k = refl
pieces-last d named [] (q ∷ qs) k = absurd k
pieces-last d named (p ∷ ps) [] k = absurd k
pieces-last d named (p ∷ ps) (parts.own g ∷ qs) k =
    ap₂ option_or (pieces-last d named ps qs k.1)
    (ap (kind_pair d p) k.0.kind ∙ ap Some k.0.bytes ∙ sym (named-said named (group_said g) (unended_bytes g) k.0.is_named_pair))
pieces-last d named (p ∷ ps) (parts.others gs ∷ qs) k =
    ap₂ option_or (pieces-last d named ps qs k.1) (ap (kind_pair d p) k.0.kind ∙ k.0.last_pair)
    ∙ sym (pairs-append gs (pieces_groups qs))

-- The last pair of the parts is that of the groups.
pub stand-last : (e : Encoding) (d : List ℕ) (named : List ℕ → Bool) (gs : List (List HeldLine)) (parts : Parts) → AreInTurn e gs → StandFor d named gs parts
    → last_some (part_pair d) parts.parts.items ≡ last_pair_bytes gs
stand-last e d named gs p turn s =
    pieces-last d named p.parts.items s.pieces s.are_parts
    ∙ sym (ap last_pair_bytes s.ended.division ∙ pairs-append (pieces_groups s.pieces) s.ended.line
    ∙ ap (λ o. option_or o (last_pair_bytes (pieces_groups s.pieces)))
    (of-line s.ended.line s.ended.end (tail-back e (pieces_groups s.pieces) s.ended.line (inr (subst (AreInTurn e) s.ended.division turn)))))
  where
    of-line : (line : List (List HeldLine)) → IsEnd s.pieces line → IsTail e line → last_pair_bytes line ≡ None
    of-line [] k t = refl
    of-line (l ∷ []) k (inl none) = absurd (cc)
    of-line (l ∷ []) k (inr a) = lf-no_pair e l [] a (left-none (unended_bytes l) (ending_bytes (last_ending l)) (sym (bytes-unended l) ∙ k))
    of-line (l ∷ m ∷ ls) k t = absurd k

-- ---- the last line ending

-- Empty parts have no bytes.
no-bytes : (d : List ℕ) (named : List ℕ → Bool) (ps : List Part) (qs : List Piece) → ArePartsOf d named ps qs → (i : ℕ)
    → is_empty_part (get_or ps i no_part) ≡ true → part_cr_end d (get_or ps i no_part) ≡ None
no-bytes d named [] qs k i e = refl
no-bytes d named (p ∷ ps) [] k i e = absurd k
no-bytes d named (p ∷ ps) (q ∷ qs) k (suc i) e = no-bytes d named ps qs k.1 i e
no-bytes d named (p ∷ ps) (q ∷ qs) k zero e =
    let none = subst (IsPartOf d named p) (empty-none d named p q k.0 e) k.0 in rw (none.bytes, none.ending) refl

pub source-empty : {r : Repertoire} {read now : List ℕ} {named : List ℕ → Bool} {gs : List (List HeldLine)} {p : SourceParts} (n end : ℕ)
    → StandForSource r read now named gs p → AreEmpty n end p.parts.parts.items → HaveNoBytes (drop p.opened.start read) n end p.parts.parts.items
source-empty {read = read} {named = named} {p = p} n end s h =
    λ i from before. no-bytes (drop p.opened.start read) named p.parts.parts.items s.stand.pieces s.stand.are_parts i (h i from before)

-- The last line ending of bytes is that of their groups, or an LF.
pub last-among : (e : Encoding) (body : List ℕ) (by : declared.LineEnding) → is_editable e ≡ true → IsLastEnding body by
    → ending_of by ≡ ending_among lf (held_in (held_groups_of e body))
last-among e body by ok h = h e (held_groups_of e body) ok (held_groups_of-meets e body)

-- ---- the last pair by itself

-- The bytes of the last pair are one group.
last-in : (e : Encoding) → is_editable e ≡ true → (gs : List (List HeldLine)) → IsTail e gs → IsPairIn e (last_pair_bytes gs)
last-in e ok [] t = tt
last-in e ok (g ∷ gs) (inl none) = absurd (cc)
last-in e ok (g ∷ gs) (inr a) = later (last_pair_bytes gs) (last-in e ok gs (tail-next e g gs a))
  where
    this : (o : Option (List ℕ × List ℕ)) → IsPairIn e (option_map (λ said. unended_bytes g) o)
    this None = tt
    this (Some said) = let l = turn-first e g gs a in (without_ending g, alone-groups e g l.0 ok l.1 l.2)

    later : (o : Option (List ℕ)) → IsPairIn e o → IsPairIn e (option_or o (pair_bytes_of g))
    later (Some x) i = i
    later None i = this (outcome_pair (outcome g))

pub source-last : {r : Repertoire} {read now : List ℕ} {named : List ℕ → Bool} {gs : List (List HeldLine)} {p : SourceParts} → StandForSource r read now named gs p
    → (let f = encoding_of p.opened.encoding in let d = drop p.opened.start read in
    ArePartsWithin d p.parts.parts.items × IsPairIn f (last_some (part_pair d) p.parts.parts.items))
source-last {read = read} {named = named} {gs = gs} {p = p} s =
    let f = encoding_of p.opened.encoding in
    let d = drop p.opened.start read in (
      parts-within d named p.parts.parts.items s.stand.pieces s.stand.are_parts,
      subst (IsPairIn f) (sym (stand-last f d named gs p.parts s.turn s.stand)) (last-in f s.in_force.editable gs (inr s.turn)),
    )

-- ---- what separates the key from the value in the last pair

abbrev pub between_group : List HeldLine → Option (List ℕ)
between_group g = between_if_pair (split_of (joined (as_lines g))) (joined (as_lines g))

-- The last pair by itself has this, if there is one.
abbrev pub IsAlike : Encoding → Option (List ℕ) → Option (List ℕ) → Type 0
IsAlike e None q = q ≡ None
IsAlike e (Some x) q = (between : List ℕ) × (last_between (held_groups_of e x) ≡ Some between) × (q ≡ Some between)

pub alike-between : (e : Encoding) (o q : Option (List ℕ)) → IsAlike e o q → between_last e o ≡ q
alike-between e None q k = sym k
alike-between e (Some x) q k = k.1 ∙ sym k.2

-- Of sound groups, each pair by itself is a pair.
pub last-alike : (e : Encoding) → is_editable e ≡ true → (gs : List (List HeldLine)) → AreSound gs → IsTail e gs → IsAlike e (last_pair_bytes gs) (last_between gs)
last-alike e ok [] s t = refl
last-alike e ok (g ∷ gs) s (inl none) = absurd (cc)
last-alike e ok (g ∷ gs) s (inr a) = later (last_pair_bytes gs) (last_between gs) (last-alike e ok gs s.1 (tail-next e g gs a))
  where
    x : List ℕ
    x = joined (as_lines g)

    this : (o : Option (List ℕ × List ℕ)) → outcome_pair (outcome g) ≡ o → IsAlike e (option_map (λ said. unended_bytes g) o) (between_group g)
    this None is = between-unpaired x s.0 (ap is_some is)
    this (Some said) is =
        let l = turn-first e g gs a in
        let b = between-some (split_of x) x (ap is_some is) in
        (b.0, ap last_between (alone-groups e g l.0 ok l.1 l.2) ∙ ap (λ y. between_if_pair (split_of y) y) (unended-joined g) ∙ b.1, b.1)

    later : (o q : Option (List ℕ)) → IsAlike e o q → IsAlike e (option_or o (pair_bytes_of g)) (or_else q (between_group g))
    later (Some y) q k = (k.0, k.1, ap (λ v. or_else v (between_group g)) k.2)
    later None q k = subst (λ v. IsAlike e (pair_bytes_of g) (or_else v (between_group g))) (sym k) (this (outcome_pair (outcome g)) refl)

-- A group without bytes before its line ending is no pair.
pub lf-between : (e : Encoding) (h : List HeldLine) (gs : List (List HeldLine)) → AreInTurn e (h ∷ gs) → IsSoundFor PassedOver (joined (as_lines h)) → unended_bytes h ≡ []
    → between_group h ≡ None
lf-between e h gs a s none = between-unpaired (joined (as_lines h)) s (of-pair (outcome_pair (outcome h)) (lf-no_pair e h gs a none))
  where
    of-pair : (o : Option (List ℕ × List ℕ)) → option_map (λ said. unended_bytes h) o ≡ None → is_some o ≡ false
    of-pair None q = refl
    of-pair (Some said) q = absurd (cc)

or-skip : (a b : Option (List ℕ)) → or_else (or_else a None) b ≡ or_else a b
or-skip None b = refl
or-skip (Some x) b = refl

-- A CR and a single LF that are made one line ending change nothing of it.
pub merged-between : (e : Encoding) (gs : List (List HeldLine)) → AreInTurn e gs → AreSound gs → last_between (merged gs) ≡ last_between gs
merged-between e [] a s = refl
merged-between e (g ∷ []) a s = refl
merged-between e (g ∷ h ∷ gs) a s = elim (cases_Bool (are_one_ending g h)) [
  | inl k ↦
      let m = one-ending g h k in
      let none = lf-between e h gs a.1 s.1.0 m.empty in
      ap last_between (merged-one g h gs k)
      ∙ ap₂ or_else (merged-between e gs (after-lf e h gs a.1 m.by_lf) s.1.1) (ap (λ v. between_if_pair (split_of (joined v)) (joined v)) (texts-with (Some crlf) g))
      ∙ sym (or-skip (last_between gs) (between_group g))
      ∙ sym (ap (λ v. or_else (or_else (last_between gs) v) (between_group g)) none)
  | inr k ↦ ap last_between (merged-two g h gs k) ∙ ap (λ q. or_else q (between_group g)) (merged-between e (h ∷ gs) a.1 s.1)
]
