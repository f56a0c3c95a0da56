-- Where the key of a pair is: what the code scans is the division before the key, and there is no other.
use Rattle.std.proofs.Common.{inl, inr, ◌≡◌, ◌≢◌, ◌⊎◌, ◌<◌, ◌≤◌, ℕ, ◌+◌, Bool, true, false, List, [], ◌∷◌, ◌++◌, Option, Some, length, take, drop, refl, sym, ap, ap₂, ◌∙◌, subst, arith, append_assoc, append-nil, length-append, lit<, eqb-true}
use Rattle.std.specs.Prelude.{◌==◌, if◌then◌else◌}
use Rattle.std.proofs.lemmas.Bool.{cases_Bool, false_from_ne_true}
use Rattle.std.proofs.lemmas.Bool.Decides.{nat_tests}
use Rattle.std.proofs.lemmas.List.{append_cancel_right, take-append-drop, length-take-le}
use Rattle.properties_format.specs.Text.{LineEnding, lf, cr, crlf, backslash, begins, is_blank, without_leading_blanks}
use Rattle.properties_format.specs.Encoding.{Encoding}
use Rattle.properties_format.specs.Lines.{AreOpen, EndsClosed, HoldsNoLineEnding, is_open, joined, without_open_backslash}
use Rattle.properties_format.specs.Split.{AreBlanks, IsPair}
use Rattle.properties_format.specs.Edited.{is_editable}
use Rattle.properties_format.specs.Body.{HeldLine, as_lines, ending_bytes, group_bytes}
use Rattle.properties_format.specs.Computed.Cut.{decoded_line}
use Rattle.properties_format.specs.Computed.Valued.{added_by}
use Rattle.properties_format.proofs.Body.Decoded.{decoded-nil}
use Rattle.properties_format.proofs.Body.Groups.{IsLastFit, group_bytes-append}
use Rattle.properties_format.proofs.Cut.Byline.{decoded_line-only, nothing-decoded}
use Rattle.properties_format.proofs.Encodings.Cuts.{cut-at_ascii}
use Rattle.properties_format.proofs.Encodings.PieceEnds.{none-right}
use Rattle.properties_format.proofs.GroupsInTurn.Lines.{AreLinesBy}
use Rattle.properties_format.proofs.Lines.Plain.{plain-right}
use Rattle.properties_format.proofs.Printing.Characters.{blanks-ascii}
use Rattle.properties_format.proofs.Split.Blanks.{no_blanks, without_leading_blanks-blanks, without_leading_blanks-meets, without_leading_blanks-only}
use Rattle.properties_format.proofs.Valued.Fronts.{blanks-right, joined_by, joined-by, open-past, open_backslash, pair-unmarked, shut-whole}
use Rattle.properties_format.proofs.Valued.Heads.{ascii-among, ascii-own}
use Rattle.properties_format.proofs.Valued.Revalued.{open-closed}
use Rattle.properties_format.specs.Encoding.{ascii_bytes}
use Rattle.properties_editing.specs.Views.{IsCutBehind, joined_with, size_before}
use Rattle.properties_editing.proofs.CutMeanings.{AreJoined}
use Rattle.properties_renaming.specs.Renaming.{AreJoinedBlanks, IsBeforeKey, IsThroughKey}
use Rattle.properties_renaming.specs.Private.Renaming.{is_join, later, past_joins}

-- ---- blanks

-- Bytes after blanks decode by themselves.
pub decoded-past : (e : Encoding) (b x : List ℕ) → is_editable e ≡ true → AreBlanks b → decoded_line e (b ++ x) ≡ b ++ decoded_line e x
decoded-past e [] x ok h = refl
decoded-past e (c ∷ b) x ok h =
    ascii-among e [] c (b ++ x) ok (blanks-ascii (c ∷ b) h).0
    ∙ ap (λ v. v ++ c ∷ decoded_line e (b ++ x)) (decoded-nil e)
    ∙ ap (λ v. c ∷ v) (decoded-past e b x ok h.1)

pub decoded-blanks : (e : Encoding) (b : List ℕ) → is_editable e ≡ true → AreBlanks b → decoded_line e b ≡ b
decoded-blanks e b ok h =
    ap (decoded_line e) (sym (append-nil b)) ∙ decoded-past e b [] ok h ∙ ap (λ v. b ++ v) (decoded-nil e) ∙ append-nil b

pub decoded-joined : (e : Encoding) (b : List ℕ) → is_editable e ≡ true → AreBlanks b → decoded_line e (b ++ backslash ∷ []) ≡ b ++ backslash ∷ []
decoded-joined e b ok h =
    decoded-past e b (backslash ∷ []) ok h
    ∙ ap (λ v. b ++ v) (ascii-among e [] backslash [] ok (lit< tt) ∙ ap₂ (λ u v. u ++ backslash ∷ v) (decoded-nil e) (decoded-nil e))

-- Bytes whose text begins with an ASCII character begin with that character.
pub ascii-front : (e : Encoding) (d : List ℕ) (c : ℕ) (w : List ℕ) → is_editable e ≡ true → c < 0x80 → decoded_line e d ≡ c ∷ w
    → (rest : List ℕ) × (d ≡ c ∷ rest)
ascii-front e d c w ok l s =
    let m = cut-at_ascii e d [] c w l s in
    let n : m.0 ≡ [] = nothing-decoded e m.0 m.2.front in
    (m.1, m.2.joins ∙ ap (λ v. v ++ (ascii_bytes e c ++ m.1)) n ∙ ap (λ v. v ++ m.1) (ascii-own e c ok))

-- Only blanks decode to blanks.
blanks-own : (e : Encoding) (x d : List ℕ) → is_editable e ≡ true → decoded_line e d ≡ x → AreBlanks x → d ≡ x
blanks-own e [] d ok s h = nothing-decoded e d s
blanks-own e (c ∷ x) d ok s h =
    let l = (blanks-ascii (c ∷ x) h).0 in
    let m = ascii-front e d c x ok l s in
    let t : decoded_line e (c ∷ m.0) ≡ c ∷ decoded_line e m.0 = ascii-among e [] c m.0 ok l ∙ ap (λ v. v ++ c ∷ decoded_line e m.0) (decoded-nil e) in
    let q : decoded_line e m.0 ≡ x = cc (t, sym (ap (decoded_line e) m.1), s) in
    m.1 ∙ ap (λ v. c ∷ v) (blanks-own e x m.0 ok q h.1)

pub blanks-both : (x y : List ℕ) → AreBlanks x → AreBlanks y → AreBlanks (x ++ y)
blanks-both [] y h k = k
blanks-both (c ∷ x) y h k = (h.0, blanks-both x y h.1 k)

pub blanks-closed : (b : List ℕ) → AreBlanks b → is_open b ≡ false
blanks-closed b h = ap is_open (sym (append-nil b)) ∙ open-past b [] h

-- A text that isn't open, before another one that loses its open backslash.
pub shut-append : (x y : List ℕ) → is_open x ≡ false → without_open_backslash (x ++ y) ≡ x ++ without_open_backslash y
shut-append x y h =
    let o : open_backslash (x ++ y) ≡ open_backslash y = ap (λ b. if b then backslash ∷ [] else []) (open-closed x y h) in
    append_cancel_right (without_open_backslash (x ++ y)) (x ++ without_open_backslash y) (open_backslash y)
    (ap (λ v. without_open_backslash (x ++ y) ++ v) (sym o)
    ∙ sym (shut-whole (x ++ y))
    ∙ ap (λ v. x ++ v) (shut-whole y)
    ∙ sym (append_assoc x (without_open_backslash y) (open_backslash y)))

-- A blank line adds blanks, whether a backslash joins it to the next one,
joined-adds : (first : Bool) (b : List ℕ) → AreBlanks b → AreBlanks (added_by first (b ++ backslash ∷ []))
joined-adds true b h = subst AreBlanks (sym (shut-append b (backslash ∷ []) (blanks-closed b h) ∙ append-nil b)) h
joined-adds false b h = rw (without_leading_blanks-only b (backslash ∷ []) h refl) tt

-- or not.
blank-adds : (first : Bool) (b : List ℕ) → AreBlanks b → AreBlanks (added_by first b)
blank-adds true b h =
    subst AreBlanks (sym (ap without_open_backslash (sym (append-nil b)) ∙ shut-append b [] (blanks-closed b h) ∙ append-nil b)) h
blank-adds false b h = rw (without_leading_blanks-blanks b h) tt

-- The lines before a key add blanks.
pub kept-blank : (e : Encoding) (first : Bool) (o : Option LineEnding) (kept : List HeldLine) (line : HeldLine) (more : List HeldLine) → is_editable e ≡ true
    → AreLinesBy e o (kept ++ line ∷ more) → AreJoinedBlanks kept → AreBlanks (joined_by first kept)
kept-blank e first o [] line more ok a j = tt
kept-blank e first o (h ∷ kept) line more ok a j =
    let m = of-more kept a in
    let text : h.text ≡ j.0.0 ++ backslash ∷ [] = m.0 ∙ ap (decoded_line e) j.0.2 ∙ decoded-joined e j.0.0 ok j.0.1 in
    blanks-both (added_by first h.text) (joined_by false kept) (rw text (joined-adds first j.0.0 j.0.1))
    (kept-blank e false o kept line more ok m.1 j.1)
  where
    of-more : (kept : List HeldLine) → AreLinesBy e o (h ∷ (kept ++ line ∷ more)) → (h.text ≡ decoded_line e h.bytes) × AreLinesBy e o (kept ++ line ∷ more)
    of-more [] a = (a.1, a.3)
    of-more (i ∷ kept) a = (a.1, a.3)

-- ---- what is scanned

past-blanks : (b y : List ℕ) → AreBlanks b → past_joins (b ++ y) ≡ past_joins y
past-blanks [] y h = refl
past-blanks (c ∷ b) y h = rw h.0 (past-blanks b y h.1)

past-ending : (by : LineEnding) (y : List ℕ) → past_joins (backslash ∷ (ending_bytes (Some by) ++ y)) ≡ past_joins y
past-ending lf y = refl
past-ending cr y = refl
past-ending crlf y = refl

join-none : (bytes : List ℕ) → is_join bytes ≡ false → past_joins bytes ≡ bytes
join-none [] h = refl
join-none (b ∷ bs) h = rw h refl

-- The scan stops at the first byte of a line that is neither a blank nor a backslash at its end.
scan-stops : (rest y : List ℕ) → HoldsNoLineEnding rest → begins is_blank rest ≡ false → rest ≢ [] → rest ≢ backslash ∷ []
    → past_joins (rest ++ y) ≡ rest ++ y
scan-stops [] y p f n m = absurd (n refl)
scan-stops (c ∷ []) y p f n m =
    let other : (c == backslash) ≡ false = false_from_ne_true (c == backslash) (λ k. m (ap (λ v. v ∷ []) (eqb-true c backslash k))) in
    join-none (c ∷ y) (rw (f, p.0, other) refl)
scan-stops (c ∷ d ∷ x) y p f n m = join-none (c ∷ d ∷ (x ++ y)) (grind (arith))

pub fit-joined : (g : List HeldLine) → IsLastFit g → AreJoined g
fit-joined [] f = tt
fit-joined (h ∷ []) f = tt
fit-joined (h ∷ i ∷ hs) (inl (inl k)) = absurd (cc (k.1))
fit-joined (h ∷ i ∷ hs) (inl (inr k)) = closes h (i ∷ hs) k.1
  where
    closes : (h : HeldLine) (hs : List HeldLine) → EndsClosed (record { number = 0; text = h.text }) (as_lines hs) → AreJoined (h ∷ hs)
    closes h [] k = tt
    closes h (i ∷ hs) k = (k.0, closes i hs k.1)
fit-joined (h ∷ i ∷ hs) (inr k) = opens (h ∷ i ∷ hs) k.1
  where
    opens : (hs : List HeldLine) → AreOpen (as_lines hs) → AreJoined hs
    opens [] k = tt
    opens (h ∷ []) k = tt
    opens (h ∷ i ∷ hs) k = (k.0, opens (i ∷ hs) k.1)

-- The scan of a group stops before the key.
abbrev IsScanned : List HeldLine → Type 0
IsScanned g = (front : List ℕ) × IsBeforeKey g front × (group_bytes g ≡ front ++ past_joins (group_bytes g))

scan-here : (h : HeldLine) (hs : List HeldLine) (b rest : List ℕ) → HoldsNoLineEnding h.bytes → AreBlanks b → begins is_blank rest ≡ false
    → h.bytes ≡ b ++ rest → rest ≢ [] → rest ≢ backslash ∷ [] → IsScanned (h ∷ hs)
scan-here h hs b rest p bl f w n m =
    let y = ending_bytes h.ending ++ group_bytes hs in
    let all : group_bytes (h ∷ hs) ≡ b ++ (rest ++ y) = ap (λ v. v ++ y) w ∙ append_assoc b rest y in (
      b,
      record {
        kept = [];
        line = h;
        more = hs;
        division = refl;
        joined = tt;
        indent = b;
        rest = rest;
        cut = w;
        indent_blank = bl;
        rest_full = f;
        not_blank = n;
        not_joined = m;
        bytes = refl;
      },
      all
          ∙ ap (λ v. b ++ v)
          (sym (ap past_joins all ∙ past-blanks b (rest ++ y) bl ∙ scan-stops rest y (plain-right b rest (rw w at p)) f n m)),
    )

scan-later : (h i : HeldLine) (hs : List HeldLine) (b : List ℕ) (by : LineEnding) → AreBlanks b → h.bytes ≡ b ++ backslash ∷ [] → h.ending ≡ Some by
    → IsScanned (i ∷ hs) → IsScanned (h ∷ i ∷ hs)
scan-later h i hs b by bl w t (front, k, s) =
    let y = group_bytes (i ∷ hs) in
    let z = ending_bytes h.ending in
    let past : past_joins (group_bytes (h ∷ i ∷ hs)) ≡ past_joins y =
    ap₂ (λ v o. past_joins (v ++ (ending_bytes o ++ y))) w t
    ∙ ap past_joins (append_assoc b (backslash ∷ []) (ending_bytes (Some by) ++ y))
    ∙ past-blanks b (backslash ∷ (ending_bytes (Some by) ++ y)) bl
    ∙ past-ending by y in (
      h.bytes ++ (z ++ front),
      record {
        kept = h ∷ k.kept;
        line = k.line;
        more = k.more;
        division = ap (λ v. h ∷ v) k.division;
        joined = ((b, bl, w), k.joined);
        indent = k.indent;
        rest = k.rest;
        cut = k.cut;
        indent_blank = k.indent_blank;
        rest_full = k.rest_full;
        not_blank = k.not_blank;
        not_joined = k.not_joined;
        bytes = ap (λ v. h.bytes ++ (z ++ v)) k.bytes ∙ sym (simp (append_assoc));
      },
      ap (λ v. h.bytes ++ (z ++ v)) (s ∙ ap (λ v. front ++ v) (sym past)) ∙ sym (simp (append_assoc)),
    )

-- what is known of the lines after a line
abbrev AfterLine : List HeldLine → Type 0
AfterLine [] = Unit {0}
AfterLine (i ∷ hs) = AreBlanks (joined_by false (i ∷ hs)) ⊎ IsScanned (i ∷ hs)

module _ (e : Encoding) (first : Bool) (o : Option LineEnding) (h : HeldLine) (b : List ℕ) (ok : is_editable e ≡ true) (bl : AreBlanks b) where
  -- A line that ends in a backslash after blanks, or doesn't.
  scan-some : (rest : List ℕ) (hs : List HeldLine) → AreLinesBy e o (h ∷ hs) → AfterLine hs → rest ≢ [] → begins is_blank rest ≡ false → h.bytes ≡ b ++ rest
      → (rest ≡ backslash ∷ []) ⊎ (rest ≢ backslash ∷ []) → AreBlanks (joined_by first (h ∷ hs)) ⊎ IsScanned (h ∷ hs)
  scan-some rest hs a l n f w (inl q) =
      let v = rw q at w in of-joined hs a l v
    where
      text : h.text ≡ decoded_line e h.bytes → h.bytes ≡ b ++ backslash ∷ [] → AreBlanks (added_by first h.text)
      text s w = rw (s, w, decoded-joined e b ok bl) (joined-adds first b bl)

      of-joined : (hs : List HeldLine) → AreLinesBy e o (h ∷ hs) → AfterLine hs → h.bytes ≡ b ++ backslash ∷ []
          → AreBlanks (joined_by first (h ∷ hs)) ⊎ IsScanned (h ∷ hs)
      of-joined [] a l w = inl (blanks-both (added_by first h.text) [] (text a.1 w) tt)
      of-joined (i ∷ hs) a (inl k) w = inl (blanks-both (added_by first h.text) (joined_by false (i ∷ hs)) (text a.1 w) k)
      of-joined (i ∷ hs) a (inr k) w = inr (scan-later h i hs b a.2.0 bl w a.2.1 k)
  scan-some rest [] a l n f w (inr q) = inr (scan-here h [] b rest a.0 bl f w n q)
  scan-some rest (i ∷ hs) a l n f w (inr q) = inr (scan-here h (i ∷ hs) b rest a.0 bl f w n q)

  one-byte : (c : ℕ) → (c ∷ [] ≡ backslash ∷ []) ⊎ (c ∷ [] ≢ backslash ∷ [])
  one-byte c = elim (cases_Bool (c == backslash)) [
    | inl k ↦ inl (ap (λ v. v ∷ []) (eqb-true c backslash k))
    | inr k ↦ inr (λ q. grind (arith))
  ]

  scan-line : (rest : List ℕ) (hs : List HeldLine) → AreLinesBy e o (h ∷ hs) → AreJoined (h ∷ hs) → AfterLine hs → begins is_blank rest ≡ false
      → h.bytes ≡ b ++ rest → AreBlanks (joined_by first (h ∷ hs)) ⊎ IsScanned (h ∷ hs)
  scan-line [] [] a j l f w = inl (blanks-both (added_by first h.text) [] (rw (a.1, w, append-nil, decoded-blanks e b ok bl) (blank-adds first b bl)) tt)
  scan-line [] (i ∷ hs) a j l f w =
      let shut : is_open h.text ≡ false = rw (a.1, w, append-nil, decoded-blanks e b ok bl) (blanks-closed b bl) in let opened = j.0 in absurd (cc)
  scan-line (c ∷ []) hs a j l f w = scan-some (c ∷ []) hs a l (λ q. cc) f w (one-byte c)
  scan-line (c ∷ d ∷ x) hs a j l f w = scan-some (c ∷ d ∷ x) hs a l (λ q. cc) f w (inr (λ q. cc))

-- The lines of a group are blank, or the scan stops before the key.
scan : (e : Encoding) (first : Bool) (o : Option LineEnding) (g : List HeldLine) → is_editable e ≡ true → AreLinesBy e o g → AreJoined g
    → AreBlanks (joined_by first g) ⊎ IsScanned g
scan e first o [] ok a j = absurd a
scan e first o (h ∷ []) ok a j =
    let p = without_leading_blanks-meets h.bytes in
    scan-line e first o h p.before ok p.before_blank (without_leading_blanks h.bytes) [] a j tt p.begins_full p.whole
scan e first o (h ∷ i ∷ hs) ok a j =
    let p = without_leading_blanks-meets h.bytes in
    scan-line e first o h p.before ok p.before_blank (without_leading_blanks h.bytes) (i ∷ hs) a j (scan e false o (i ∷ hs) ok a.3 j.1) p.begins_full p.whole

-- What is scanned of a pair's group is what comes before the key.
pub scanned : (e : Encoding) (o : Option LineEnding) (g : List HeldLine) (key value : List ℕ) → is_editable e ≡ true → AreLinesBy e o g → IsLastFit g
    → IsPair (joined (as_lines g)) key value → IsScanned g
scanned e o [] key value ok a f p = absurd a
scanned e o (i ∷ is) key value ok a f p =
    let u = pair-unmarked i is key value p in
    elim (scan e true o (i ∷ is) ok a (fit-joined (i ∷ is) f)) [
      | inl k ↦
          let b : AreBlanks (p.indent ++ (key ++ (p.between ++ value))) = subst AreBlanks (sym (joined-by i is u) ∙ p.whole) k in
          absurd (p.not_empty (no_blanks (key ++ (p.between ++ value)) (blanks-right p.indent (key ++ (p.between ++ value)) b) p.begins_full))
      | inr k ↦ k
    ]

-- ---- there is only one such place

-- Blanks at the front of the same bytes.
pub blanks-one : (b x d y : List ℕ) → AreBlanks b → AreBlanks d → begins is_blank x ≡ false → begins is_blank y ≡ false → b ++ x ≡ d ++ y → (b ≡ d) × (x ≡ y)
blanks-one b x d y h k f g s =
    let t : x ≡ y = sym (without_leading_blanks-only b x h f) ∙ ap without_leading_blanks s ∙ without_leading_blanks-only d y k g in
    (append_cancel_right b d x (s ∙ ap (λ v. d ++ v) (sym t)), t)

-- ---- where a key ends

-- Blanks before bytes that don't begin with one are before the end of bytes that aren't blank,
blank-front : (b rest head tail : List ℕ) → head ++ tail ≡ b ++ rest → AreBlanks b → ¬ (AreBlanks head) → (d : List ℕ) × (head ≡ b ++ d)
blank-front [] rest head tail s h n = (head, refl)
blank-front (c ∷ b) rest [] tail s h n = absurd (n tt)
blank-front (c ∷ b) rest (a ∷ head) tail s h n =
    let k : a ≡ c = cc in
    let t : head ++ tail ≡ b ++ rest = cc in
    let r = blank-front b rest head tail t h.1 (λ m. n (subst (λ v. is_blank v ≡ true) (sym k) h.0, m)) in
    (r.0, ap₂ (λ v w. v ∷ w) k r.1)

-- and behind that of bytes that are.
blank-within : (b rest head tail : List ℕ) → head ++ tail ≡ b ++ rest → AreBlanks head → begins is_blank rest ≡ false → (d : List ℕ) × (b ≡ head ++ d)
blank-within b rest [] tail s h f = (b, refl)
blank-within [] rest (a ∷ head) tail s h f = let t : is_blank a ≡ false = subst (λ v. begins is_blank v ≡ false) (sym s) f in absurd (cc (h.0))
blank-within (c ∷ b) rest (a ∷ head) tail s h f =
    let k : a ≡ c = cc in
    let t : head ++ tail ≡ b ++ rest = cc in
    let r = blank-within b rest head tail t h.1 f in
    (r.0, ap₂ (λ v w. v ∷ w) (sym k) r.1)

-- If the bytes aren't blank, nothing is left of a blank line with its backslash.
joined-left : (b head tail : List ℕ) → head ++ tail ≡ b ++ backslash ∷ [] → AreBlanks b → ¬ (AreBlanks head) → tail ≡ []
joined-left b [] tail s h n = absurd (n tt)
joined-left [] (a ∷ head) tail s h n = let t : head ++ tail ≡ [] = cc in none-right head tail t
joined-left (c ∷ b) (a ∷ head) tail s h n =
    let k : a ≡ c = cc in
    let t : head ++ tail ≡ b ++ backslash ∷ [] = cc in
    joined-left b head tail t h.1 (λ m. n (subst (λ v. is_blank v ≡ true) (sym k) h.0, m))

-- A cut behind a head that isn't blank comes after the front.
cut-reaches : (kept bk : List HeldLine) (line bl : HeldLine) (more bm : List HeldLine) (head tail indent rest : List ℕ)
    → kept ++ line ∷ more ≡ bk ++ bl ∷ bm → AreJoinedBlanks bk → line.bytes ≡ head ++ tail → bl.bytes ≡ indent ++ rest → AreBlanks indent
    → ¬ (AreBlanks head) → (more ≢ [] → tail ≢ []) → (d : List ℕ) × (group_bytes kept ++ head ≡ (group_bytes bk ++ indent) ++ d)
cut-reaches [] [] line bl more bm head tail indent rest s j c d b n k =
    let t : line ≡ bl = cc in
    blank-front indent rest head tail (sym c ∙ ap (λ v. let w : HeldLine = v in w.bytes) t ∙ d) b n
cut-reaches [] (l ∷ bk) line bl more bm head tail indent rest s j c d b n k =
    let t : line ≡ l = cc in
    let u : more ≡ bk ++ bl ∷ bm = cc in
    absurd (k (λ q. some bk (sym u ∙ q)) (joined-left j.0.0 head tail (sym c ∙ ap (λ v. let w : HeldLine = v in w.bytes) t ∙ j.0.2) j.0.1 n))
  where
    some : (bk : List HeldLine) → bk ++ bl ∷ bm ≡ [] → ⊥
    some [] q = cc
    some (h ∷ bk) q = cc
cut-reaches (i ∷ kept) [] line bl more bm head tail indent rest s j c d b n k =
    let t : i ≡ bl = cc in (
      rest ++ (ending_bytes i.ending ++ (group_bytes kept ++ head)),
      rw (ap (λ v. let w : HeldLine = v in w.bytes) t ∙ d) (simp (append_assoc)),
    )
cut-reaches (i ∷ kept) (l ∷ bk) line bl more bm head tail indent rest s j c d b n k =
    let t : i ≡ l = cc in
    let u : kept ++ line ∷ more ≡ bk ++ bl ∷ bm = cc in
    let r = cut-reaches kept bk line bl more bm head tail indent rest u j.1 c d b n k in
    (r.0, rw t (simp (append_assoc, r.1)))

-- A cut behind a blank head of the first line comes before the end of the front.
cut-within : (bk : List HeldLine) (line bl : HeldLine) (more bm : List HeldLine) (head tail indent rest : List ℕ)
    → line ∷ more ≡ bk ++ bl ∷ bm → line.bytes ≡ head ++ tail → bl.bytes ≡ indent ++ rest → AreBlanks head → begins is_blank rest ≡ false
    → (d : List ℕ) × (group_bytes bk ++ indent ≡ head ++ d)
cut-within [] line bl more bm head tail indent rest s c d h f =
    let t : line ≡ bl = cc in
    blank-within indent rest head tail (sym c ∙ ap (λ v. let w : HeldLine = v in w.bytes) t ∙ d) h f
cut-within (l ∷ bk) line bl more bm head tail indent rest s c d h f =
    let t : line ≡ l = cc in (
      tail ++ (ending_bytes l.ending ++ (group_bytes bk ++ indent)),
      rw (sym (ap (λ v. let w : HeldLine = v in w.bytes) t) ∙ c) (simp (append_assoc)),
    )

-- The bytes of a pair before its key, of its key, and behind it; the code finds where they are.
pub record IsPlaced (e : Encoding) (g : List HeldLine) (indent key : List ℕ) (n size : ℕ) : Type 0 where
  pub front : List ℕ
  pub old : List ℕ
  pub back : List ℕ
  pub whole : group_bytes g ≡ front ++ (old ++ back)
  pub before : IsBeforeKey g front
  pub through : IsThroughKey e g indent key front old
  pub start : n ≡ length front
  pub end : later n size ≡ length (front ++ old)

module _ {e : Encoding} {g : List HeldLine} {key value : List ℕ} (p : IsPair (joined (as_lines g)) key value) (cut : IsCutBehind e g (p.indent ++ key)) where
  -- The head before the end of a key that isn't empty isn't blank.
  pub head-full : key ≢ [] → ¬ (AreBlanks cut.head_text)
  head-full some b = of cut.kept cut.text_is cut.not_blank
    where
      full : (x y : List ℕ) → x ≢ [] → begins is_blank (x ++ y) ≡ false → AreBlanks x → ⊥
      full [] y n m b = n refl
      full (c ∷ x) y n m b = cc (b.0)

      of : (kept : List HeldLine) → p.indent ++ key ≡ joined_with kept cut.head_text → (kept ≢ [] → without_leading_blanks cut.head_text ≢ []) → ⊥
      of [] t k = full key (p.between ++ value) some p.begins_full (blanks-right p.indent key (subst AreBlanks (sym t) b))
      of (i ∷ kept) t k = k (λ q. cc) (without_leading_blanks-blanks cut.head_text b)

  -- The head before an empty key is blank, and in the first line.
  head-blank : key ≡ [] → (cut.kept ≡ []) × AreBlanks cut.head_text
  head-blank none = of cut.kept refl
    where
      text : (kept : List HeldLine) → cut.kept ≡ kept → joined_with kept cut.head_text ≡ p.indent
      text kept q = ap (λ v. joined_with v cut.head_text) (sym q) ∙ sym cut.text_is ∙ ap (λ v. p.indent ++ v) none ∙ append-nil p.indent

      of : (kept : List HeldLine) → cut.kept ≡ kept → (cut.kept ≡ []) × AreBlanks cut.head_text
      of [] q = (q, subst AreBlanks (sym (text [] q)) p.indent_blank)
      of (i ∷ kept) q =
          let x = without_leading_blanks cut.head_text in
          let b = blanks-right (joined (as_lines (i ∷ kept))) x (subst AreBlanks (sym (text (i ∷ kept) q)) p.indent_blank) in
          absurd (cut.not_blank (λ r. let m = sym q ∙ r in cc) (no_blanks x b (without_leading_blanks-meets cut.head_text).begins_full))

module _ (e : Encoding) (o : Option LineEnding) (g : List HeldLine) (key value : List ℕ) (ok : is_editable e ≡ true) (a : AreLinesBy e o g) (f : IsLastFit g)
    (p : IsPair (joined (as_lines g)) key value) (n : ℕ) (within : n ≤ length (group_bytes g)) (rest : drop n (group_bytes g) ≡ past_joins (group_bytes g))
    (cut : IsCutBehind e g (p.indent ++ key)) where
  head-text : decoded_line e cut.head ≡ cut.head_text
  head-text = sym (decoded_line-only e cut.head cut.head_text cut.is_head)

  front-is : (front : List ℕ) → group_bytes g ≡ front ++ past_joins (group_bytes g) → front ≡ take n (group_bytes g)
  front-is front s =
      append_cancel_right front (take n (group_bytes g)) (past_joins (group_bytes g))
      (sym s ∙ sym (take-append-drop n (group_bytes g)) ∙ ap (λ v. take n (group_bytes g) ++ v) rest)

  cut-bytes : group_bytes g ≡ (group_bytes cut.kept ++ cut.head) ++ (cut.tail ++ (ending_bytes cut.line.ending ++ group_bytes cut.more))
  cut-bytes =
      ap group_bytes cut.division
      ∙ group_bytes-append cut.kept (cut.line ∷ cut.more)
      ∙ ap (λ v. group_bytes cut.kept ++ (v ++ (ending_bytes cut.line.ending ++ group_bytes cut.more))) cut.cut
      ∙ simp (append_assoc)

  -- An empty key is directly behind the front,
  placed-none : (front : List ℕ) → key ≡ [] → (k : IsBeforeKey g front) → group_bytes g ≡ front ++ past_joins (group_bytes g)
      → IsPlaced e g p.indent key n (size_before cut)
  placed-none front none k s =
      let h = head-blank p cut none in
      let own : cut.head ≡ cut.head_text = blanks-own e cut.head_text cut.head ok head-text h.1 in
      let w = cut-within k.kept cut.line k.line cut.more k.more cut.head cut.tail k.indent k.rest
      (ap (λ v. v ++ cut.line ∷ cut.more) (sym h.0) ∙ sym cut.division ∙ k.division) cut.cut k.cut (subst AreBlanks (sym own) h.1) k.rest_full in
      let count : n ≡ length front = sym (ap length (front-is front s) ∙ length-take-le n (group_bytes g) within) in
      let no_lines : length (group_bytes cut.kept) ≡ 0 = ap (λ v. length (group_bytes v)) h.0 in
      let size : size_before cut ≡ length cut.head = omega arith in
      let all : length front ≡ length cut.head + length w.0 = ap length (k.bytes ∙ w.1) ∙ length-append cut.head w.0 in
      let less : size_before cut ≤ n = omega arith in
      record {
        front = front;
        old = [];
        back = past_joins (group_bytes g);
        whole = s;
        before = k;
        through = inl (none, refl);
        start = count;
        end = grind (arith, nat_tests, append-nil);
      }

  -- and any other key goes from there to the cut.
  placed-some : (front : List ℕ) → key ≢ [] → (k : IsBeforeKey g front) → group_bytes g ≡ front ++ past_joins (group_bytes g)
      → IsPlaced e g p.indent key n (size_before cut)
  placed-some front some k s =
      let full = head-full p cut some in
      let w = cut-reaches cut.kept k.kept cut.line k.line cut.more k.more cut.head cut.tail k.indent k.rest (sym cut.division ∙ k.division) k.joined cut.cut k.cut
      k.indent_blank (λ b. full (subst AreBlanks (sym (decoded-blanks e cut.head ok b) ∙ head-text) b))
      (λ m q. cut.before_join m (decoded_line-only e cut.tail cut.tail_text cut.is_tail ∙ ap (decoded_line e) q ∙ decoded-nil e)) in
      let back = cut.tail ++ (ending_bytes cut.line.ending ++ group_bytes cut.more) in
      let to : front ++ w.0 ≡ group_bytes cut.kept ++ cut.head = ap (λ v. v ++ w.0) k.bytes ∙ sym w.1 in
      let count : n ≡ length front = sym (ap length (front-is front s) ∙ length-take-le n (group_bytes g) within) in
      let size : size_before cut ≡ length (front ++ w.0) = sym (ap length to ∙ length-append (group_bytes cut.kept) cut.head) in
      let all : length (front ++ w.0) ≡ length front + length w.0 = length-append front w.0 in
      let more : n ≤ size_before cut = omega arith in
      record {
        front = front;
        old = w.0;
        back = back;
        whole = cut-bytes ∙ ap (λ v. v ++ back) (sym to) ∙ append_assoc front w.0 back;
        before = k;
        through = inr (some, cut, to);
        start = count;
        end = grind (arith, nat_tests);
      }

  -- What the code finds is where they are.
  pub placed : IsPlaced e g p.indent key n (size_before cut)
  placed = let k = scanned e o g key value ok a f p in of key refl k.0 k.1 k.2
    where
      of : (x : List ℕ) → key ≡ x → (front : List ℕ) → IsBeforeKey g front → group_bytes g ≡ front ++ past_joins (group_bytes g)
          → IsPlaced e g p.indent key n (size_before cut)
      of [] q front k s = placed-none front q k s
      of (c ∷ x) q front k s = placed-some front (λ r. let m = sym q ∙ r in cc) k s
