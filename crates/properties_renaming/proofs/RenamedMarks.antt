-- The encoding in force of a source with a key renamed is that of the source. A pair with an empty key begins with a
-- blank, a sign or a line ending, and so not like a byte order mark.
use Rattle.std.proofs.Common.{inl, inr, ◌≡◌, ◌⊎◌, ◌<◌, ◌&&◌, ℕ, Bool, true, false, List, [], ◌∷◌, ◌++◌, All, None, Option, Some, refl, sym, ap, ap₂, ◌∙◌, subst, arith, append_assoc, lit<}
use Rattle.std.proofs.lemmas.Bool.{cases_Bool}
use Rattle.properties_format.specs.Text.{LineEnding, backslash, begins, carriage_return, cr, crlf, equals_sign, is_blanks, is_empty, lf, line_feed, scalar}
use Rattle.properties_format.specs.Encoding.{Encoding, InForce, Repertoire, begins_like_bom, byte_order_mark, repertoire_in_force}
use Rattle.properties_format.specs.Lines.{without_open_backslash}
use Rattle.properties_format.specs.Body.{HeldLine, ending_bytes, group_bytes, groups_bytes}
use Rattle.properties_format.specs.Edited.{is_editable}
use Rattle.properties_format.specs.Computed.Split.{ends_key}
use Rattle.properties_format.proofs.Edited.ByteOrderMarks.{groups-unmarked, in_force as stays_in_force}
use Rattle.properties_format.proofs.GroupsInTurn.Lines.{AreLinesBy}
use Rattle.properties_format.proofs.GroupsInTurn.Merged.{AreInTurn, in-turn}
use Rattle.properties_format.proofs.Cut.Byline.{nothing-decoded}
use Rattle.properties_format.proofs.Encodings.PieceEnds.{no-front}
use Rattle.properties_format.proofs.ReadBack.Unmarked.{byte_order_mark-cut}
use Rattle.properties_format.proofs.Split.Keys.{ends_here}
use Rattle.properties_format.proofs.Split.Unique.{between-ends}
use Rattle.properties_format.proofs.Valued.Fronts.{joined_by}
use Rattle.properties_format.proofs.Valued.Heads.{IsLittle}
use Rattle.properties_editing.specs.Views.{with_bytes}
use Rattle.properties_renaming.specs.Renaming.{AreJoinedBlanks, AreRekeyed, IsBeforeKey, IsRekeyed, IsRenamed}
use Rattle.properties_renaming.proofs.KeyPlaces.{ascii-front}
use Rattle.properties_renaming.proofs.NewPairs.{BeginsInAscii, IsBehindKey, behind-none, behind-some, blanks-mark, left-begins, lines-later}
use Rattle.properties_renaming.proofs.RenamedContents.{ended-mark, renamed-groups}
use Rattle.properties_renaming.proofs.RenamedKeys.{key-signed, key-unsigned}

-- The bytes before a key don't begin like a byte order mark, whatever ASCII byte follows them.
front-mark : (g : List HeldLine) (front : List ℕ) (c : ℕ) (rest : List ℕ) → IsBeforeKey g front → c < 0x80 → begins_like_bom (front ++ c ∷ rest) ≡ false
front-mark g front c rest b l = of b.kept b.joined b.bytes
  where
    of : (kept : List HeldLine) → AreJoinedBlanks kept → front ≡ group_bytes kept ++ b.indent → begins_like_bom (front ++ c ∷ rest) ≡ false
    of [] j q = ap (λ w. begins_like_bom (w ++ c ∷ rest)) q ∙ byte_order_mark-cut b.indent c rest l ∙ blanks-mark b.indent b.indent_blank
    of (h ∷ kept) j q =
        let more = ending_bytes h.ending ++ group_bytes kept in
        let parts : (((j.0.0 ++ backslash ∷ []) ++ more) ++ b.indent) ++ c ∷ rest ≡ j.0.0 ++ backslash ∷ (more ++ (b.indent ++ c ∷ rest)) =
        simp (append_assoc) in
        ap (λ w. begins_like_bom (w ++ c ∷ rest)) (q ∙ ap (λ w. (w ++ more) ++ b.indent) j.0.2)
        ∙ ap begins_like_bom parts
        ∙ byte_order_mark-cut j.0.0 backslash (more ++ (b.indent ++ c ∷ rest)) (lit< tt)
        ∙ blanks-mark j.0.0 j.0.1

-- What is behind a key begins in ASCII, if a sign separates the key from the value.
back-ascii : (e : Encoding) (o : Option LineEnding) (g : List HeldLine) (back between value : List ℕ) → is_editable e ≡ true → AreLinesBy e o g
    → IsBehindKey e g back (between ++ value) → ends_here (between ++ value) ≡ true → is_blanks between ≡ false → BeginsInAscii back
back-ascii e o g back between value ok a t ends sign =
    of (left-begins t.tail_text (joined_by false t.more) (between ++ value) t.adds (may-follow (between ++ value) ends))
  where
    may-follow : (v : List ℕ) → ends_here v ≡ true → (v ≡ []) ⊎ (begins ends_key v ≡ true)
    may-follow v h = grind (arith)

    ascii : BeginsInAscii t.tail_text → BeginsInAscii back
    ascii (c, w, n, l) =
        let m = ascii-front e t.tail c w ok l (t.is_tail ∙ n) in
        (c, m.0 ++ (ending_bytes t.line.ending ++ group_bytes t.more), t.bytes ∙ ap (λ x. x ++ (ending_bytes t.line.ending ++ group_bytes t.more)) m.1, l)

    own : AreLinesBy e o (t.line ∷ t.more)
    own = lines-later e o t.before t.line t.more (subst (AreLinesBy e o) t.second a)

    ended : (ending : Option LineEnding) (more : List HeldLine) → AreLinesBy e o (t.line ∷ more) → t.line.ending ≡ ending → t.more ≡ more
        → t.tail_text ≡ [] → BeginsInAscii (ending_bytes ending ++ group_bytes more)
    ended (Some lf) more a s q n = (line_feed, group_bytes more, refl, lit< tt)
    ended (Some cr) more a s q n = (carriage_return, group_bytes more, refl, lit< tt)
    ended (Some crlf) more a s q n = (carriage_return, line_feed ∷ group_bytes more, refl, lit< tt)
    ended None (h ∷ hs) a s q n = let some = a.2.1 in absurd (cc)
    ended None [] a s q n =
        let none : between ++ value ≡ [] = sym t.adds ∙ ap₂ (λ x hs. without_open_backslash x ++ joined_by false hs) n q in
        let blank : is_blanks between ≡ true = ap is_blanks (no-front between value none) in
        absurd (cc)

    of : IsLittle t.tail_text ⊎ BeginsInAscii t.tail_text → BeginsInAscii back
    of (inl (inl n)) =
        let m = ended t.line.ending t.more own refl refl n in
        (m.0, m.1, t.bytes ∙ ap (λ x. x ++ (ending_bytes t.line.ending ++ group_bytes t.more)) (nothing-decoded e t.tail (t.is_tail ∙ n)) ∙ m.2, m.3)
    of (inl (inr n)) = ascii (backslash, [], n, lit< tt)
    of (inr n) = ascii n

-- A pair with an empty key doesn't begin like a byte order mark.
module _ (r : Repertoire) (o : Option LineEnding) (first : Bool) (i : HeldLine) (is : List HeldLine) (made : List ℕ) (ok : is_editable r.encoding ≡ true)
    (a : AreLinesBy r.encoding o (i ∷ is)) (k : IsRekeyed r first (i ∷ is) [] made) where
  behind : IsBehindKey r.encoding (i ∷ is) k.back (k.is_pair.between ++ k.value)
  behind = elim k.through [
    | inl h ↦ behind-none r.encoding o i is k.key k.value k.is_pair ok a k.front k.old k.back k.whole h.0 h.1 k.before
    | inr h ↦ behind-some r.encoding o i is k.key k.value k.is_pair ok a k.front k.old k.back k.whole h.0 h.1 h.2
  ]

  made-mark : (more : List ℕ) → begins_like_bom (made ++ more) ≡ false
  made-mark more = elim (cases_Bool (is_blanks k.is_pair.between)) [
    | inl b ↦
        let x = key-unsigned r (first && is_empty k.front) k.is_pair.between [] refl b in
        ap (λ w. begins_like_bom (w ++ more)) (k.bytes_are ∙ ap (λ w. k.front ++ (w ++ k.back)) x)
        ∙ ap begins_like_bom (append_assoc k.front (equals_sign ∷ k.back) more)
        ∙ front-mark (i ∷ is) k.front equals_sign (k.back ++ more) k.before (lit< tt)
    | inr b ↦
        let x = key-signed r (first && is_empty k.front) k.is_pair.between [] refl b in
        let m = back-ascii r.encoding o (i ∷ is) k.back k.is_pair.between k.value ok a behind
        (between-ends k.is_pair.between k.value k.is_pair.is_between) b in
        ap (λ w. begins_like_bom (w ++ more)) (k.bytes_are ∙ ap (λ w. k.front ++ (w ++ k.back)) x ∙ ap (λ w. k.front ++ w) m.2)
        ∙ ap begins_like_bom (append_assoc k.front (m.0 ∷ m.1) more)
        ∙ front-mark (i ∷ is) k.front m.0 (m.1 ++ more) k.before m.3
  ]

rekeyed-mark : (r : Repertoire) (o : Option LineEnding) (first : Bool) (g : List HeldLine) (made more : List ℕ) → is_editable r.encoding ≡ true
    → AreLinesBy r.encoding o g → IsRekeyed r first g [] made → begins_like_bom (made ++ more) ≡ false
rekeyed-mark r o first [] made more ok a k = absurd a
rekeyed-mark r o first (i ∷ is) made more ok a k = made-mark r o first i is made ok a k more

-- So groups of which some get an empty key begin like one only if they did.
empty-mark : (r : Repertoire) (old : List ℕ) (first : Bool) (gs : List (List HeldLine)) (bytes : List ℕ) → is_editable r.encoding ≡ true
    → AreInTurn r.encoding gs → AreRekeyed r old [] first (with_bytes gs) bytes → begins_like_bom (groups_bytes gs) ≡ false → begins_like_bom bytes ≡ false
empty-mark r old first [] bytes ok a h b = absurd a
empty-mark r old first (g ∷ []) bytes ok a h b = elim (cases_Bool (is_empty (group_bytes g))) [
  | inl k ↦ ap begins_like_bom (rw k at h)
  | inr k ↦ one (rw k at h)
]
  where
    one : AreRekeyed r old [] first (g ∷ []) bytes → begins_like_bom bytes ≡ false
    one (made, more, inl (has, k), s, q) = ap begins_like_bom s ∙ rekeyed-mark r None first g made more ok a.0 k
    one (made, more, inr (lacks, same), s, q) = ap begins_like_bom (s ∙ ap₂ (λ v w. v ++ w) same q) ∙ b
empty-mark r old first (g ∷ i ∷ gs) bytes ok ((by, a, w), rest) (made, more, inl (has, k), s, q) b =
    ap begins_like_bom s ∙ rekeyed-mark r (Some by) first g made more ok a k
empty-mark r old first (g ∷ i ∷ gs) bytes ok ((by, a, w), rest) (made, more, inr (lacks, same), s, q) b =
    ap begins_like_bom (s ∙ ap (λ v. v ++ more) same)
    ∙ ended-mark r.encoding by g more a
    ∙ sym (ended-mark r.encoding by g (groups_bytes (i ∷ gs)) a)
    ∙ b

-- A source that can be edited still can when a key was renamed.
pub still-read : (r : Repertoire) (source old new result : List ℕ) → is_editable (byte_order_mark r.encoding source).encoding ≡ true → All scalar new
    → IsRenamed r source old new result → is_editable (byte_order_mark r.encoding result).encoding ≡ true
still-read r source old (c ∷ cs) result ok scalars h =
    let k = renamed-groups r source old (c ∷ cs) result ok ((λ q. cc), scalars) h in ap (λ w. let f : InForce = w in is_editable f.encoding) k.in_force ∙ ok
still-read r source old [] result ok scalars h =
    let f = byte_order_mark r.encoding source in
    let all = h.held.all in
    let turn = in-turn f.encoding f.body all ok h.held.division in
    let rekeyed : AreRekeyed (repertoire_in_force r source) old [] true (with_bytes all) h.body =
    subst (λ gs. AreRekeyed (repertoire_in_force r source) old [] true gs h.body) h.held.are h.renamed in
    ap (λ w. let g : InForce = w in is_editable g.encoding)
    (ap (byte_order_mark r.encoding) h.whole
    ∙ stays_in_force r.encoding source h.body ok
    (λ k. empty-mark (repertoire_in_force r source) old true all h.body ok turn rekeyed (groups-unmarked r.encoding source all ok h.held.division k)))
    ∙ ok
