-- The front of a pair: the computed front is the front of its group, and the only one.
use Rattle.std.proofs.Common.{rules, ◌≡◌, ◌≢◌, ◌⊎◌, ◌<◌, ◌≤◌, ℕ, not, Bool, true, false, List, [], ◌∷◌, ◌++◌, arith, None, length, drop, refl, ap, ap₂, sym, ◌∙◌, inl, inr, append_assoc, append-nil, length-append, subst}
use Rattle.std.specs.Prelude.{nat_le, if◌then◌else◌}
use Rattle.std.proofs.Math.Seq.{drop-append_seam}
use Rattle.std.proofs.lemmas.Bool.{cases_Bool, not-true}
use Rattle.std.proofs.lemmas.List.{append_cancel_left}
use Rattle.properties_format.specs.Text.{backslash, is_blank, without_leading_blanks, begins}
use Rattle.properties_format.specs.Encoding.{Encoding}
use Rattle.properties_format.specs.Cut.{IsDecodedLine}
use Rattle.properties_format.specs.Lines.{is_open, is_comment_line, without_last, without_open_backslash, joined_after, joined}
use Rattle.properties_format.specs.Split.{AreBlanks, ends, IsBetween, IsPair}
use Rattle.properties_format.specs.Computed.Split.{ends_key}
use Rattle.properties_format.specs.Computed.Cut.{decoded_line}
use Rattle.properties_format.specs.Body.{HeldLine, as_lines, ending_bytes, group_bytes}
use Rattle.properties_format.specs.Edited.{is_editable}
use Rattle.properties_format.specs.Valued.{IsFrontOf}
use Rattle.properties_format.specs.Computed.Valued.{without_indent, added_by, head_of, head_size, front_in, value_front, between_of}
use Rattle.properties_format.proofs.Groups.Open.{is_open-backslash, is_open-other, is_open-after, blank-other, open-ends, without_open_backslash-closed}
use Rattle.properties_format.proofs.Groups.Joined.{joined-comment_line, joined-unmarked, joined-closed}
use Rattle.properties_format.proofs.Split.Blanks.{begins-front, without_leading_blanks-only, without_leading_blanks-meets}
use Rattle.properties_format.proofs.Cut.Byline.{decoded_line-meets, decoded_line-only}
use Rattle.properties_format.proofs.Valued.Parts.{pair-line, between_in-pair, before_value-pair, comment_line-no_pair}
use Rattle.properties_format.proofs.Valued.Heads.{EndsInAscii, IsLittle, IsHeadOf, head_of-meets, heads-same}
use Rattle.properties_format.proofs.Encodings.PieceEnds.{no-front, none-right}

-- ---- what a line adds

-- Whether a text is open doesn't depend on the blanks before it.
pub open-past : (b y : List ℕ) → AreBlanks b → is_open (b ++ y) ≡ is_open y
open-past [] y h = refl
open-past (c ∷ b) y h = is_open-after [] c (b ++ y) (blank-other c h.0) ∙ open-past b y h.1

-- A text is blanks followed by the text without its indentation.
pub record IsIndented (first : Bool) (x : List ℕ) : Type 0 where
  pub indent : List ℕ
  pub whole : x ≡ indent ++ without_indent first x
  pub blank : AreBlanks indent

-- Every text is of this form, as a first line and as a later one.
pub indented : (first : Bool) (x : List ℕ) → IsIndented first x
indented true x = record { indent = []; whole = refl; blank = tt }
indented false x = let p = without_leading_blanks-meets x in record { indent = p.before; whole = p.whole; blank = p.before_blank }

-- Without its indentation, a text is open exactly if it was before.
pub open-indent : (first : Bool) (x : List ℕ) → is_open (without_indent first x) ≡ is_open x
open-indent first x = let i = indented first x in sym (ap is_open i.whole ∙ open-past i.indent (without_indent first x) i.blank)

-- The second part of blanks is blanks.
pub blanks-right : (b y : List ℕ) → AreBlanks (b ++ y) → AreBlanks y
blanks-right [] y h = h
blanks-right (c ∷ b) y h = blanks-right b y h.1

-- The indentation of a text comes before any of its characters that isn't a blank.
pub past-head : (x y : List ℕ) → ¬ (AreBlanks x) → without_leading_blanks (x ++ y) ≡ without_leading_blanks x ++ y
past-head [] y h = absurd (h tt)
past-head (c ∷ x) y h = elim (cases_Bool (is_blank c)) [
  | inl k ↦ rw k (past-head x y (λ b. h (k, b)))
  | inr k ↦ rw k refl
]

-- This holds whether or not the indentation counts.
pub indent-head : (first : Bool) (x y : List ℕ) → ¬ (AreBlanks x) → without_indent first (x ++ y) ≡ without_indent first x ++ y
indent-head first x y h = grind (arith, past-head)

-- Without its open backslash, a text isn't open.
pub shut-closed : (x : List ℕ) → is_open (without_open_backslash x) ≡ false
shut-closed x = elim (cases_Bool (is_open x)) [
  | inl k ↦
      let s : not (is_open (without_last x)) ≡ true = sym (is_open-backslash (without_last x)) ∙ ap is_open (sym (open-ends x k)) ∙ k in
      rw k (not-true (is_open (without_last x)) s)
  | inr k ↦ rw k k
]

-- the backslash that leaves a text open, or nothing if it isn't open
abbrev pub open_backslash : List ℕ → List ℕ
open_backslash x = if is_open x then backslash ∷ [] else []

-- A text is the text without its open backslash, followed by that backslash.
pub shut-whole : (x : List ℕ) → x ≡ without_open_backslash x ++ open_backslash x
shut-whole x = elim (cases_Bool (is_open x)) [ inl k ↦ rw k (open-ends x k) | inr k ↦ rw k (sym (append-nil x)) ]

-- ---- what several lines add

-- what the lines of a group add, or those after its first line
abbrev pub joined_by : Bool → List HeldLine → List ℕ
joined_by first [] = []
joined_by first (h ∷ hs) = added_by first h.text ++ joined_by false hs

-- What the later lines of a group add.
joined_after-by : (hs : List HeldLine) → joined_after (as_lines hs) ≡ joined_by false hs
joined_after-by [] = refl
joined_after-by (h ∷ hs) = ap (λ v. added_by false h.text ++ v) (joined_after-by hs)

-- A group that doesn't begin with a comment line.
pub joined-by : (h : HeldLine) (hs : List HeldLine) → is_comment_line h.text ≡ false → joined (as_lines (h ∷ hs)) ≡ joined_by true (h ∷ hs)
joined-by h hs k = joined-unmarked (record { number = 0; text = h.text }) (as_lines hs) k ∙ ap (λ v. without_open_backslash h.text ++ v) (joined_after-by hs)

-- whether a line after these is the first of its group
abbrev pub is_first_after : Bool → List HeldLine → Bool
is_first_after first [] = first
is_first_after first (h ∷ hs) = false

-- A line after others isn't the first of its group.
after-later : (a : List HeldLine) → is_first_after false a ≡ false
after-later a = grind (arith)

-- What two lists of lines add.
pub joined_by-append : (first : Bool) (a b : List HeldLine) → joined_by first (a ++ b) ≡ joined_by first a ++ joined_by (is_first_after first a) b
joined_by-append first [] b = refl
joined_by-append first (h ∷ a) b = simp (after-later, append_assoc, joined_by-append false a b)

-- ---- empty texts

-- If the second of two texts isn't empty, the two together aren't.
pub right-some : (x y : List ℕ) → y ≢ [] → x ++ y ≢ []
right-some x y h = λ q. h (none-right x y q)

-- A text that isn't empty has a character.
pub some-length : (x : List ℕ) → x ≢ [] → 1 ≤ length x
some-length [] h = absurd (h refl)
some-length (c ∷ x) h = omega arith

-- ---- two divisions of the same text

-- The shorter of two fronts of a text is a front of the longer.
pub split-longer : (p v a j : List ℕ) → a ++ j ≡ p ++ v → length p ≤ length a → (r : List ℕ) × (a ≡ p ++ r) × (v ≡ r ++ j)
split-longer (c ∷ p) v (d ∷ a) j s l =
    let k : d ≡ c = cc in
    let t : a ++ j ≡ p ++ v = cc in
    let m = split-longer p v a j t (omega arith) in
    (m.0, ap₂ (λ x y. x ∷ y) k m.1, m.2)
split-longer p v a j h1 h2 = grind (arith)

-- ---- where a head may end

-- the text ends with a character that ends a key, or nothing follows it
abbrev pub MayEnd : List ℕ → List ℕ → Type 0
MayEnd p v = (ends ends_key p ≡ true) ⊎ (v ≡ [])

-- The last character of a text.
pub ends-last : (kind : ℕ → Bool) (p : List ℕ) → ends kind p ≡ true → (w : List ℕ) × (c : ℕ) × (p ≡ w ++ c ∷ []) × (kind c ≡ true)
ends-last kind [] h = absurd (cc)
ends-last kind (c ∷ []) h = ([], c, refl, h)
ends-last kind (c ∷ d ∷ p) h = let m = ends-last kind (d ∷ p) h in (c ∷ m.0, m.1, ap (λ v. c ∷ v) m.2, m.3)

-- The last character of a text that another text precedes.
pub ends-right : (kind : ℕ → Bool) (a p : List ℕ) → p ≢ [] → ends kind (a ++ p) ≡ ends kind p
ends-right kind (c ∷ b ∷ a) p h = ends-right kind (b ∷ a) p h
ends-right kind a p h1 = grind (arith)

-- If a text may end, so may its second part.
pub may-later : (a q p v : List ℕ) → q ≢ [] → p ≡ a ++ q → MayEnd p v → MayEnd q v
may-later a q p v h k m = grind (arith, ends-right)

-- A character that ends a key is an ASCII character.
pub ends_key-ascii : (c : ℕ) → ends_key c ≡ true → c < 0x80
ends_key-ascii c h = grind (arith)

-- ---- the head of a line

-- The head of a line, which is the first of its group or not, and the text that it adds.
record IsHead (e : Encoding) (first : Bool) (line : HeldLine) (q head : List ℕ) : Type 0 where
  text : List ℕ
  rest : List ℕ
  cut_text : line.text ≡ text ++ rest
  is_head : IsHeadOf e line.bytes text rest head
  not_blank : ¬ (AreBlanks text)
  closed : is_open text ≡ false
  adds : without_indent first text ≡ q

-- the front takes something from this line: in a first line, a text that isn't blank; in a later line, any text that
-- isn't empty
abbrev pub IsSome : Bool → List ℕ → Type 0
IsSome true q = ¬ (AreBlanks q)
IsSome false q = q ≢ []

-- In a later line, the text without its indentation doesn't begin with a blank.
pub indent-full : (first : Bool) (x q r : List ℕ) → first ≡ false → without_indent first x ≡ q ++ r → begins is_blank q ≡ false
indent-full true x q r f s = absurd (cc)
indent-full false x q r f s = begins-front is_blank q r (ap (begins is_blank) (sym s) ∙ (without_leading_blanks-meets x).begins_full)

-- Such a text is what is left of itself with blanks before it, without the indentation.
pub indent-only : (first : Bool) (b q : List ℕ) → AreBlanks b → (first ≡ true → b ≡ []) → (first ≡ false → begins is_blank q ≡ false)
    → without_indent first (b ++ q) ≡ q
indent-only first b q h k m = grind (arith, without_leading_blanks-only)

-- The indentation of a first line doesn't count.
pub indent-none : (first : Bool) (x : List ℕ) → first ≡ true → (indented first x).indent ≡ []
unfolding indented
indent-none true x f = refl
indent-none false x f = absurd (cc)

-- A head that ends where it may isn't open.
may-closed : (y q r : List ℕ) → without_open_backslash y ≡ q ++ r → MayEnd q r → is_open q ≡ false
may-closed y q r h k = grind (arith, ends-last, is_open-other, append-nil, shut-closed)

-- The size of the head.
pub head-size : (first : Bool) (x b q r : List ℕ) → x ≡ b ++ (q ++ r) → without_indent first x ≡ q ++ r → head_size first x q ≡ length (b ++ q)
head-size first x b q r s t = grind (arith, length-append)

-- The computed head of a line.
head-meets : (e : Encoding) (first : Bool) (line : HeldLine) (q r : List ℕ) → is_editable e ≡ true → decoded_line e line.bytes ≡ line.text
    → added_by first line.text ≡ q ++ r → MayEnd q r → IsSome first q → IsHead e first line q (head_of e (head_size first line.text q) line.bytes)
head-meets e first line q r ok d s k some =
    let i = indented first line.text in
    let y = without_indent first line.text in
    let b = i.indent in
    let t : y ≡ q ++ (r ++ open_backslash y) = shut-whole y ∙ ap (λ v. v ++ open_backslash y) s ∙ append_assoc q r (open_backslash y) in
    let w : line.text ≡ b ++ (q ++ (r ++ open_backslash y)) = i.whole ∙ ap (λ v. b ++ v) t in
    let c : line.text ≡ (b ++ q) ++ (r ++ open_backslash y) = w ∙ sym (append_assoc b q (r ++ open_backslash y)) in
    let full : first ≡ false → begins is_blank q ≡ false = λ f. indent-full first line.text q (r ++ open_backslash y) f t in
    record {
      text = b ++ q;
      rest = r ++ open_backslash y;
      cut_text = c;
      is_head = subst (λ n. IsHeadOf e line.bytes (b ++ q) (r ++ open_backslash y) (head_of e n line.bytes)) (sym (head-size first line.text b q _ w t))
          (head_of-meets e line.bytes (b ++ q) (r ++ open_backslash y) ok (d ∙ c));
      not_blank = search (rules, blanks-right);
      closed = open-past b q i.blank ∙ may-closed y q r s k;
      adds = indent-only first b q i.blank (indent-none first line.text) full;
    }

-- A head adds its text without its indentation.
head-adds : (e : Encoding) (first : Bool) (line : HeldLine) (q head : List ℕ) (h : IsHead e first line q head) → added_by first h.text ≡ q
head-adds e first line q head h = without_open_backslash-closed (without_indent first h.text) (open-indent first h.text ∙ h.closed) ∙ h.adds

-- The line without its indentation is what the head adds, followed by the rest.
head-line : (e : Encoding) (first : Bool) (line : HeldLine) (q head : List ℕ) (h : IsHead e first line q head) → without_indent first line.text ≡ q ++ h.rest
head-line e first line q head h = rw (h.cut_text, indent-head first h.text h.rest h.not_blank, h.adds)

-- A head adds something.
head-some : (e : Encoding) (first : Bool) (line : HeldLine) (q head : List ℕ) → IsHead e first line q head → q ≢ []
head-some e first line q head h = λ n.
    let i = indented first h.text in
    h.not_blank (subst AreBlanks (sym (i.whole ∙ ap (λ v. i.indent ++ v) (h.adds ∙ n) ∙ append-nil i.indent)) i.blank)

-- ---- the front of lines

-- The front of these lines, up to where they have added the text.
record HasFront (e : Encoding) (first : Bool) (lines : List HeldLine) (p front : List ℕ) : Type 0 where
  kept : List HeldLine
  line : HeldLine
  more : List HeldLine
  division : lines ≡ kept ++ line ∷ more
  added : List ℕ
  head : List ℕ
  is_head : IsHead e (is_first_after first kept) line added head
  up_to : p ≡ joined_by first kept ++ added
  bytes : front ≡ group_bytes kept ++ head

-- each line is decoded to its text
abbrev pub AreDecoded : Encoding → List HeldLine → Type 0
AreDecoded e [] = Unit {0}
AreDecoded e (h ∷ hs) = (decoded_line e h.bytes ≡ h.text) × AreDecoded e hs

-- The computed front, if the text ends in the first line.
pub front-here : (e : Encoding) (first : Bool) (p : List ℕ) (h : HeldLine) (hs : List HeldLine) → nat_le (length p) (length (added_by first h.text)) ≡ true
    → front_in e first p (h ∷ hs) ≡ head_of e (head_size first h.text p) h.bytes
front-here e first p h hs k = rw (k, front_in) refl

-- The computed front, if the text continues after the first line.
pub front-later : (e : Encoding) (first : Bool) (p : List ℕ) (h : HeldLine) (hs : List HeldLine) → nat_le (length p) (length (added_by first h.text)) ≡ false
    → front_in e first p (h ∷ hs) ≡ h.bytes ++ (ending_bytes h.ending ++ front_in e false (drop (length (added_by first h.text)) p) hs)
front-later e first p h hs k = rw (k, front_in) refl

-- One more line at the front.
after-line : (e : Encoding) (first : Bool) (h : HeldLine) (hs : List HeldLine) (p q front : List ℕ) → p ≡ added_by first h.text ++ q
    → HasFront e false hs q front → HasFront e first (h ∷ hs) p (h.bytes ++ (ending_bytes h.ending ++ front))
after-line e first h hs p q front s m = record {
  kept = h ∷ m.kept;
  line = m.line;
  more = m.more;
  division = ap (λ v. h ∷ v) m.division;
  added = m.added;
  head = m.head;
  is_head = subst (λ b. IsHead e b m.line m.added m.head) (after-later m.kept) m.is_head;
  up_to = s ∙ ap (λ v. added_by first h.text ++ v) m.up_to ∙ sym (append_assoc (added_by first h.text) (joined_by false m.kept) m.added);
  bytes = grind (arith, append_assoc);
}

-- The computed front is the front of the lines.
front_in-meets : (e : Encoding) (first : Bool) (lines : List HeldLine) (p v : List ℕ) → is_editable e ≡ true → AreDecoded e lines
    → joined_by first lines ≡ p ++ v → MayEnd p v → IsSome first p → HasFront e first lines p (front_in e first p lines)
front_in-meets e first [] [] v ok d s k some = absurd (search (rules))
front_in-meets e first [] (c ∷ p) v ok d s k some = absurd (cc)
front_in-meets e first (h ∷ hs) p v ok d s k some = elim (cases_Bool (nat_le (length p) (length (added_by first h.text)))) [
  | inl n ↦
      let m = split-longer p v (added_by first h.text) (joined_by false hs) s (grind (arith)) in
      record {
        kept = [];
        line = h;
        more = hs;
        division = refl;
        added = p;
        head = head_of e (head_size first h.text p) h.bytes;
        is_head = head-meets e first h p m.0 ok d.0 m.1 (may-here m.0 m.2 k) some;
        up_to = refl;
        bytes = front-here e first p h hs n;
      }
  | inr n ↦
      let a = added_by first h.text in
      let m = split-longer a (joined_by false hs) p v (sym s) (grind (arith)) in
      let t : front_in e first p (h ∷ hs) ≡ h.bytes ++ (ending_bytes h.ending ++ front_in e false m.0 hs) = grind (arith, front-later, drop-append_seam) in
      let more : m.0 ≢ [] = λ q.
      let l : length p ≡ length a = ap length (m.1 ∙ ap (λ w. a ++ w) q ∙ append-nil a) in
      absurd (grind (arith)) in
      subst (HasFront e first (h ∷ hs) p) (sym t)
      (after-line e first h hs p m.0 (front_in e false m.0 hs) m.1 (front_in-meets e false hs m.0 v ok d.1 m.2 (may-later a m.0 p v more m.1 k) more))
]
  where
    may-here : (r : List ℕ) → v ≡ r ++ joined_by false hs → MayEnd p v → MayEnd p r
    may-here r t (inl q) = inl q
    may-here [] t (inr q) = inr refl
    may-here (c ∷ r) t (inr q) = absurd (cc)

-- ---- there is only one front

-- What is left of a line after its head, if nothing follows what the head adds.
little-left : (q rest j : List ℕ) → is_open q ≡ false → without_open_backslash (q ++ rest) ++ j ≡ q → IsLittle rest
little-left q rest j o s = elim (cases_Bool (is_open (q ++ rest))) [
  | inl k ↦
      let w = without_open_backslash (q ++ rest) in
      let t : w ≡ without_last (q ++ rest) = rw k refl in
      let u : q ++ rest ≡ w ++ backslash ∷ [] = open-ends (q ++ rest) k ∙ ap (λ v. v ++ backslash ∷ []) (sym t) in
      let m : w ++ (j ++ rest) ≡ w ++ backslash ∷ [] = sym (append_assoc w j rest) ∙ ap (λ v. v ++ rest) s ∙ u in
      one j rest (append_cancel_left w (j ++ rest) (backslash ∷ []) m) k
  | inr k ↦
      let w : without_open_backslash (q ++ rest) ≡ q ++ rest = without_open_backslash-closed (q ++ rest) k in
      let m : q ++ (rest ++ j) ≡ q ++ [] = sym (append_assoc q rest j) ∙ ap (λ v. v ++ j) (sym w) ∙ s ∙ sym (append-nil q) in
      inl (no-front rest j (append_cancel_left q (rest ++ j) [] m))
]
  where
    one : (x y : List ℕ) → x ++ y ≡ backslash ∷ [] → is_open (q ++ y) ≡ true → IsLittle y
    one [] y h k = inr h
    one (c ∷ x) [] h k = let m : is_open q ≡ true = ap is_open (sym (append-nil q)) ∙ k in absurd (cc)
    one (c ∷ []) (d ∷ y) h k = absurd (cc)
    one (c ∷ b ∷ x) (d ∷ y) h k = absurd (cc)

-- How the text of a head may end.
head-ends : (e : Encoding) (first : Bool) (line : HeldLine) (more : List HeldLine) (q v head : List ℕ) (h : IsHead e first line q head)
    → joined_by first (line ∷ more) ≡ q ++ v → MayEnd q v → EndsInAscii h.text ⊎ IsLittle h.rest
head-ends e first line more q v head h s (inl k) =
    let m = ends-last ends_key q k in
    let i = indented first h.text in
    inl (
      i.indent ++ m.0,
      m.1,
      i.whole ∙ ap (λ w. i.indent ++ w) (h.adds ∙ m.2) ∙ sym (append_assoc i.indent m.0 (m.1 ∷ [])),
      ends_key-ascii m.1 m.3,
    )
head-ends e first line more q v head h s (inr k) =
    let o : is_open q ≡ false = ap is_open (sym h.adds) ∙ open-indent first h.text ∙ h.closed in
    inr (little-left q h.rest (joined_by false more) o
    (ap (λ w. without_open_backslash w ++ joined_by false more) (sym (head-line e first line q head h)) ∙ s ∙ ap (λ w. q ++ w) k ∙ append-nil q))

-- A line adds at least what its head adds.
head-less : (e : Encoding) (first : Bool) (line : HeldLine) (q head : List ℕ) → IsHead e first line q head → length q ≤ length (added_by first line.text)
head-less e first line q head h =
    let y = without_indent first line.text in
    let t = head-line e first line q head h in
    elim (cases_Bool (is_open y)) [
      | inl k ↦
          let more : h.rest ≢ [] = λ n.
          let u : is_open y ≡ is_open q = ap is_open (t ∙ ap (λ v. q ++ v) n ∙ append-nil q) in
          let o : is_open q ≡ false = ap is_open (sym h.adds) ∙ open-indent first h.text ∙ h.closed in
          absurd (cc) in
          rw k (omega (arith, ap length (open-ends y k), length-append (without_last y) (backslash ∷ []), ap length t, length-append q h.rest, some-length h.rest more))
      | inr k ↦ rw k (omega (arith, ap length t, length-append q h.rest))
    ]

-- A head is the computed one.
head-only : (e : Encoding) (first : Bool) (line : HeldLine) (more : List HeldLine) (q v head : List ℕ) → is_editable e ≡ true
    → decoded_line e line.bytes ≡ line.text → IsHead e first line q head → joined_by first (line ∷ more) ≡ q ++ v → MayEnd q v
    → head ≡ head_of e (head_size first line.text q) line.bytes
head-only e first line more q v head ok d h s k =
    let t = head-line e first line q head h in
    let size : length h.text ≡ head_size first line.text q = grind (arith, length-append) in
    heads-same e line.bytes h.text h.rest head (head_of e (length h.text) line.bytes) ok (head-ends e first line more q v head h s k) h.is_head
    (head_of-meets e line.bytes h.text h.rest ok (d ∙ h.cut_text)) ∙ ap (λ n. head_of e n line.bytes) size

-- A front is the computed one.
front_in-only : (e : Encoding) (first : Bool) (kept : List HeldLine) (line : HeldLine) (more : List HeldLine) (p v q head : List ℕ) → is_editable e ≡ true
    → AreDecoded e (kept ++ line ∷ more) → joined_by first (kept ++ line ∷ more) ≡ p ++ v → MayEnd p v → IsHead e (is_first_after first kept) line q head
    → p ≡ joined_by first kept ++ q → group_bytes kept ++ head ≡ front_in e first p (kept ++ line ∷ more)
front_in-only e first [] line more p v q head ok d s k h u =
    let l = head-less e first line q head h in
    let same : length p ≡ length q = ap length u in
    let n : nat_le (length p) (length (added_by first line.text)) ≡ true = grind (arith) in
    head-only e first line more q v head ok d.0 h (s ∙ ap (λ w. w ++ v) u) (rw u at k)
    ∙ ap (λ w. head_of e (head_size first line.text w) line.bytes) (sym u)
    ∙ sym (front-here e first p line more n)
front_in-only e first (i ∷ kept) line more p v q head ok d s k h u =
    let a = added_by first i.text in
    let j = joined_by false kept ++ q in
    let t : p ≡ a ++ j = u ∙ append_assoc a (joined_by false kept) q in
    let some : j ≢ [] = right-some (joined_by false kept) q (head-some e false line q head h) in
    let l : length p ≡ length (a ++ j) = ap length t in
    let m = length-append a j in
    let z : 1 ≤ length j = some-length j some in
    let n : nat_le (length p) (length a) ≡ false = grind (arith) in
    let r : a ++ joined_by false (kept ++ line ∷ more) ≡ a ++ (j ++ v) = s ∙ ap (λ w. w ++ v) t ∙ append_assoc a j v in
    let rest : joined_by false (kept ++ line ∷ more) ≡ j ++ v = append_cancel_left a (joined_by false (kept ++ line ∷ more)) (j ++ v) r in
    grind (
      arith,
      append_assoc,
      front_in-only e false kept line more j v q head ok d.1 rest
          (may-later a j p v some t k) (subst (λ b. IsHead e b line q head) (sym (after-later kept)) h) refl,
      may-later,
      after-later,
      drop-append_seam,
      front-later,
    )

-- ---- the front of a pair

-- A text that ends in blanks ends with a character that ends a key.
blanks-end : (x : List ℕ) → x ≢ [] → AreBlanks x → ends ends_key x ≡ true
blanks-end (c ∷ d ∷ x) h b = blanks-end (d ∷ x) (λ q. cc) b.1
blanks-end x h1 h2 = grind (arith)

-- What separates the key from the value ends with a character that ends a key, or both the separator and the value are
-- empty.
pub between-end : (between value : List ℕ) → IsBetween between value → (between ≢ []) × (ends ends_key between ≡ true) ⊎ (between ≡ []) × (value ≡ [])
between-end between value h = grind (arith, blanks-end, ends-right)

-- What comes before the value of a pair may end a head.
pub pair-end : (line key value : List ℕ) (h : IsPair line key value) → MayEnd (h.indent ++ (key ++ h.between)) value
pair-end line key value h = elim (between-end h.between value h.is_between) [
  | inl m ↦ grind (arith, right-some, ends-right)
  | inr m ↦ inr m.1
]

-- What comes before the value of a pair isn't blank.
pub pair-some : (line key value : List ℕ) (h : IsPair line key value) → ¬ (AreBlanks (h.indent ++ (key ++ h.between)))
pair-some line key value h = grind (arith, blanks-right, begins-front, no-front)

-- The lines that are kept and the head add what comes before the value.
kept-joined : (e : Encoding) (kept : List HeldLine) (line : HeldLine) (more : List HeldLine) (q head : List ℕ)
    (h : IsHead e (is_first_after true kept) line q head)
    → ((i : HeldLine) (is : List HeldLine) → kept ++ line ∷ more ≡ i ∷ is → is_comment_line i.text ≡ false)
    → joined (as_lines (kept ++ record { bytes = head; text = h.text; ending = None } ∷ [])) ≡ joined_by true kept ++ q
kept-joined e [] line more q head h f = search (joined-closed)
kept-joined e (i ∷ kept) line more q head h f =
    let l : HeldLine = record { bytes = head; text = h.text; ending = None } in
    joined-by i (kept ++ l ∷ []) (f i (kept ++ line ∷ more) refl)
    ∙ joined_by-append true (i ∷ kept) (l ∷ [])
    ∙ ap (λ v. joined_by true (i ∷ kept) ++ v) (append-nil (added_by false h.text) ∙ head-adds e false line q head h)

-- A pair's group doesn't begin with a comment line.
pub pair-unmarked : (i : HeldLine) (is : List HeldLine) (key value : List ℕ) → IsPair (joined (as_lines (i ∷ is))) key value → is_comment_line i.text ≡ false
pair-unmarked i is key value h = elim (cases_Bool (is_comment_line i.text)) [
  | inl k ↦
      let s : joined (as_lines (i ∷ is)) ≡ i.text = joined-comment_line (record { number = 0; text = i.text }) (as_lines is) k in
      absurd (comment_line-no_pair i.text key value k (rw s at h))
  | inr k ↦ k
]

-- An empty list of lines isn't a pair.
pub no_lines-no_pair : (key value : List ℕ) → IsPair (joined (as_lines [])) key value → ⊥
no_lines-no_pair key value h = h.not_empty (none-right h.indent (key ++ (h.between ++ value)) (sym h.whole))

-- The computed front is the front of a group that is a pair.
pub front_of-meets : (e : Encoding) (group : List HeldLine) (key value : List ℕ) → is_editable e ≡ true → AreDecoded e group
    → IsPair (joined (as_lines group)) key value → IsFrontOf e group (between_of group) (value_front e group)
front_of-meets e [] key value ok d h = absurd (no_lines-no_pair key value h)
front_of-meets e (i ∷ is) key value ok d h =
    let line = joined (as_lines (i ∷ is)) in
    let p = h.indent ++ (key ++ h.between) in
    let u = pair-unmarked i is key value h in
    let before = before_value-pair line key value h in
    let m = front_in-meets e true (i ∷ is) p value ok d (sym (joined-by i is u) ∙ pair-line line key value h) (pair-end line key value h) (pair-some line key value h) in
    let k = m.is_head in
    record {
      kept = m.kept;
      line = m.line;
      more = m.more;
      division = m.division;
      head = m.head;
      tail = k.is_head.tail;
      head_text = k.text;
      tail_text = k.rest;
      cut = k.is_head.joins;
      cut_text = k.cut_text;
      is_head = subst (IsDecodedLine e m.head) k.is_head.head_text (decoded_line-meets e m.head);
      is_tail = subst (IsDecodedLine e k.is_head.tail) k.is_head.tail_text (decoded_line-meets e k.is_head.tail);
      not_blank = k.not_blank;
      closed = k.closed;
      key = key;
      value = value;
      is_pair = h;
      is_between = between_in-pair line key value h;
      up_to =
          kept-joined e m.kept m.line m.more m.added m.head k
          (λ a as_rest s. let q : i ∷ is ≡ a ∷ as_rest = m.division ∙ s in let t : i ≡ a = cc in ap (λ v. let w : HeldLine = v in is_comment_line w.text) (sym t) ∙ u)
          ∙ sym m.up_to
          ∙ ap (λ v. h.indent ++ (key ++ v)) (sym (between_in-pair line key value h));
      bytes = ap (λ v. front_in e true v (i ∷ is)) before ∙ m.bytes;
    }

-- The head of a front is the head of its line.
front-head : (e : Encoding) (group : List HeldLine) (between front : List ℕ) (f : IsFrontOf e group between front)
    → IsHead e (is_first_after true f.kept) f.line (without_indent (is_first_after true f.kept) f.head_text) f.head
front-head e group between front f = record {
  text = f.head_text;
  rest = f.tail_text;
  cut_text = f.cut_text;
  is_head = record {
    tail = f.tail;
    joins = f.cut;
    head_text = sym (decoded_line-only e f.head f.head_text f.is_head);
    tail_text = sym (decoded_line-only e f.tail f.tail_text f.is_tail);
  };
  not_blank = f.not_blank;
  closed = f.closed;
  adds = refl;
}

-- The first line of a front's group isn't a comment line.
pub front-unmarked : (e : Encoding) (group : List HeldLine) (between front : List ℕ) (f : IsFrontOf e group between front) (i : HeldLine) (is : List HeldLine)
    → f.kept ++ f.line ∷ f.more ≡ i ∷ is → is_comment_line i.text ≡ false
front-unmarked e group between front f i is s =
    pair-unmarked i is f.key f.value (subst (λ v. IsPair (joined (as_lines v)) f.key f.value) {x = group} (f.division ∙ s) f.is_pair)

-- What comes before the value is what the lines that are kept add, followed by what the head adds.
pub front-text : (e : Encoding) (group : List HeldLine) (between front : List ℕ) (f : IsFrontOf e group between front)
    → f.is_pair.indent ++ (f.key ++ between) ≡ joined_by true f.kept ++ without_indent (is_first_after true f.kept) f.head_text
unfolding front-head
front-text e group between front f =
    sym f.up_to
    ∙ kept-joined e f.kept f.line f.more (without_indent (is_first_after true f.kept) f.head_text) f.head (front-head e group between front f)
    (front-unmarked e group between front f)

-- A front of a group is the computed one.
pub front_of-only : (e : Encoding) (group : List HeldLine) (between front : List ℕ) → is_editable e ≡ true → AreDecoded e group
    → IsFrontOf e group between front → (between ≡ between_of group) × (front ≡ value_front e group)
front_of-only e [] between front ok d f = absurd (no_lines-no_pair f.key f.value f.is_pair)
front_of-only e (i ∷ is) between front ok d f =
    let line = joined (as_lines (i ∷ is)) in
    let h = f.is_pair in
    let p = h.indent ++ (f.key ++ h.between) in
    let u = pair-unmarked i is f.key f.value h in
    let q = without_indent (is_first_after true f.kept) f.head_text in
    let whole : joined_by true (f.kept ++ f.line ∷ f.more) ≡ p ++ f.value =
    ap (joined_by true) (sym f.division) ∙ sym (joined-by i is u) ∙ pair-line line f.key f.value h in
    let to : p ≡ joined_by true f.kept ++ q = ap (λ v. h.indent ++ (f.key ++ v)) (sym f.is_between) ∙ front-text e (i ∷ is) between front f in
    let made = front_in-only e true f.kept f.line f.more p f.value q f.head ok (subst (AreDecoded e) {x = i ∷ is} f.division d) whole (pair-end line f.key f.value h)
    (front-head e (i ∷ is) between front f) to in (
      f.is_between ∙ sym (between_in-pair line f.key f.value h),
      f.bytes ∙ made ∙ ap (front_in e true p) (sym f.division) ∙ ap (λ v. front_in e true v (i ∷ is)) (sym (before_value-pair line f.key f.value h)),
    )
