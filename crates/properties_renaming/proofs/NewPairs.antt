-- A pair with another key is a group, which is the pair with that key and the value that it had.
use Rattle.std.proofs.Common.{inl, inr, ◌≡◌, ◌≢◌, ◌⊎◌, ◌<◌, ℕ, Bool, true, false, List, [], ◌∷◌, ◌++◌, All, Option, Some, refl, sym, ap, ap₂, ◌∙◌, subst, arith, append_assoc, append-nil, lit<, eqb-true, map}
use Rattle.std.specs.Prelude.{◌&&◌, if◌then◌else◌, nat_lt}
use Rattle.std.specs.List.{AllByRecursion}
use Rattle.std.proofs.lemmas.List.Elements.{recursion_from_All}
use Rattle.std.proofs.lemmas.Bool.{cases_Bool, cond_both, false_from_ne_true}
use Rattle.std.proofs.lemmas.List.{append_cancel_left}
use Rattle.properties_format.specs.Text.{LineEnding, backslash, cr, begins, is_blank, is_comment_sign, is_empty, scalar, without_leading_blanks}
use Rattle.properties_format.specs.Encoding.{Encoding, Repertoire, begins_like_bom}
use Rattle.properties_format.specs.Lines.{AreOpen, EndsClosed, HoldsNoLineEnding, IsWhole, is_comment_line, is_open, joined, without_open_backslash}
use Rattle.properties_format.specs.Split.{AreBlanks, AreKeyUnits, IsKey, IsPair, KeyUnit, Logical, escaped, last, plain, key_units_before}
use Rattle.properties_format.specs.Escapes.{Means, Spelling, spelling_character, spellings_before}
use Rattle.properties_format.specs.Edited.{is_editable}
use Rattle.properties_format.specs.Valued.{HoldsPair}
use Rattle.properties_format.specs.Body.{HasKey, HeldLine, as_lines, ending_bytes, group_bytes}
use Rattle.properties_format.specs.Printing.{encoded_text, in_key_or_value, is_bom_like, printed_characters, printed_key, unicode_escape, unit_escape, with_first_escaped}
use Rattle.properties_format.specs.Computed.Cut.{decoded_line}
use Rattle.properties_format.specs.Cut.{IsDecodedLine}
use Rattle.properties_format.specs.Computed.Lines.{begins_with_lf}
use Rattle.properties_format.specs.Computed.Split.{ends_key}
use Rattle.properties_format.specs.Computed.Valued.{without_indent}
use Rattle.properties_format.proofs.Body.Decoded.{decoded-nil, plain-bytes}
use Rattle.properties_format.proofs.Body.Groups.{IsLastFit, group_bytes-append}
use Rattle.properties_format.proofs.Cut.Byline.{decoded_line-meets, decoded_line-only, nothing-decoded}
use Rattle.properties_format.proofs.Edited.ByteOrderMarks.{ending-cut}
use Rattle.properties_format.proofs.Encodings.PieceEnds.{no-front, none-right}
use Rattle.properties_format.proofs.Escapes.Unique.{meaning_of-meets}
use Rattle.properties_format.proofs.Groups.Open.{is_open-after, is_open-other}
use Rattle.properties_format.proofs.GroupsInTurn.Lines.{AreLinesBy, first-none}
use Rattle.properties_format.proofs.Lines.Plain.{plain-append, plain-no_lf, plain-right}
use Rattle.properties_format.proofs.Printing.Characters.{blanks-ascii, printed_key-encodable}
use Rattle.properties_format.proofs.ReadBack.Bytes.{AreWritable, key-scalars}
use Rattle.properties_format.proofs.ReadBack.Pairs.{blanks-plain, key-printed}
use Rattle.properties_format.proofs.ReadBack.Texts.{AreSafelyPrinted, BeginsFull, are_safe-begin, are_safe-key, printed-closed, printed-means, printed-plain}
use Rattle.properties_format.proofs.ReadBack.Unmarked.{byte_order_mark-cut, front-unmarked}
use Rattle.properties_format.proofs.Split.Blanks.{begins-front, without_leading_blanks-blanks, without_leading_blanks-only}
use Rattle.properties_format.proofs.Split.Keys.{ends_here, units_before-append}
use Rattle.properties_format.proofs.Split.Laws.{split-unique}
use Rattle.properties_format.proofs.Split.Unique.{between-ends}
use Rattle.properties_format.proofs.Valued.Fronts.{blanks-right, ends_key-ascii, indent-head, is_first_after, joined_by, joined-by, joined_by-append, open-indent, open-past, open_backslash, pair-unmarked, shut-whole}
use Rattle.properties_format.proofs.Valued.Heads.{IsLittle, ascii-among, backslash-own}
use Rattle.properties_format.proofs.Valued.Revalued.{added-closed, open-closed, text-own}
use Rattle.properties_editing.specs.Views.{IsCutBehind, joined_with}
use Rattle.properties_renaming.specs.Renaming.{AreJoinedBlanks, IsBeforeKey, IsRekeyed, key_text}
use Rattle.properties_renaming.proofs.KeyPlaces.{ascii-front, blanks-both, blanks-closed, blanks-one, decoded-joined, decoded-past, head-full, kept-blank, shut-append}

-- ---- a logical line that is cut

-- The indentation of a text is that of its front, if this isn't blank, or if no blank follows it.
indent-parts : (first : Bool) (x y : List ℕ) → ¬ (AreBlanks x) ⊎ AreBlanks x × (begins is_blank y ≡ false)
    → without_indent first (x ++ y) ≡ without_indent first x ++ y
indent-parts first x y h = grind (arith, indent-head, without_leading_blanks-only, without_leading_blanks-blanks)

-- A text that isn't empty begins as it does with more after it.
begins-more : (kind : ℕ → Bool) (x y : List ℕ) → x ≢ [] → begins kind x ≡ false → begins kind (x ++ y) ≡ false
begins-more kind x y n f = grind (arith)

-- what comes before a cut
abbrev before_cut : List HeldLine → List ℕ → List ℕ
before_cut kept head = joined_by true kept ++ without_indent (is_first_after true kept) head

-- the first of these lines isn't a comment line
abbrev IsUnmarked : List HeldLine → Type 0
IsUnmarked [] = Unit {0}
IsUnmarked (h ∷ hs) = is_comment_line h.text ≡ false

-- The logical line of lines that are cut.
joined-parts : (kept : List HeldLine) (line : HeldLine) (more : List HeldLine) (head tail : List ℕ) → IsUnmarked (kept ++ line ∷ more)
    → line.text ≡ head ++ tail → ¬ (AreBlanks head) ⊎ AreBlanks head × (begins is_blank tail ≡ false) → is_open head ≡ false
    → joined (as_lines (kept ++ line ∷ more)) ≡ before_cut kept head ++ (without_open_backslash tail ++ joined_by false more)
joined-parts kept line more head tail n s i c =
    let first = is_first_after true kept in
    all kept n
    ∙ joined_by-append true kept (line ∷ more)
    ∙ ap (λ v. joined_by true kept ++ (without_open_backslash v ++ joined_by false more)) (ap (without_indent first) s ∙ indent-parts first head tail i)
    ∙ ap (λ v. joined_by true kept ++ (v ++ joined_by false more)) (shut-append (without_indent first head) tail (open-indent first head ∙ c))
    ∙ simp (append_assoc)
  where
    all : (kept : List HeldLine) → IsUnmarked (kept ++ line ∷ more) → joined (as_lines (kept ++ line ∷ more)) ≡ joined_by true (kept ++ line ∷ more)
    all [] n = joined-by line more n
    all (j ∷ js) n = joined-by j (js ++ line ∷ more) n

cut-text : (kept : List HeldLine) (head : List ℕ) → IsUnmarked kept → joined_with kept head ≡ before_cut kept head
cut-text [] head n = refl
cut-text (j ∷ js) head n = ap (λ v. v ++ without_leading_blanks head) (joined-by j js n)

unmarked-front : (a b : List HeldLine) → IsUnmarked (a ++ b) → IsUnmarked a
unmarked-front [] b n = tt
unmarked-front (h ∷ a) b n = n

-- ---- a key isn't left open

units-closed : (us : List KeyUnit) (rest : List ℕ) → AreKeyUnits us rest → rest ≢ [] → is_open (key_units_before us []) ≡ false
units-closed [] rest h n = refl
units-closed (plain c ∷ us) rest h n = is_open-after [] c (key_units_before us []) h.0.0 ∙ units-closed us rest h.1 n
units-closed (escaped c ∷ us) rest h n =
    let two : is_open (backslash ∷ c ∷ []) ≡ false = grind (arith, eqb-true, is_open-other (backslash ∷ []) c) in
    open-closed (backslash ∷ c ∷ []) (key_units_before us []) two ∙ units-closed us rest h.1 n
units-closed (last ∷ us) rest h n = absurd (n (none-right (key_units_before us []) rest (sym (units_before-append us rest) ∙ h.0)))

key-closed : (key v : List ℕ) → IsKey key v → is_open (key ++ v) ≡ false → is_open key ≡ false
key-closed key [] k c = ap is_open (sym (append-nil key)) ∙ c
key-closed key (d ∷ v) k c = ap is_open k.whole ∙ units-closed k.units (d ∷ v) k.each (λ q. cc)

-- ---- what is behind a key

-- the text begins with an ASCII character
abbrev pub BeginsInAscii : List ℕ → Type 0
BeginsInAscii y = (c : ℕ) × (w : List ℕ) × (y ≡ c ∷ w) × (c < 0x80)

-- A text is at most a backslash, if nothing is left of it without its open backslash.
little : (x : List ℕ) → without_open_backslash x ≡ [] → IsLittle x
little x q = grind (arith, shut-whole x)

-- What is left of a line begins as what follows the key does, or is at most a backslash.
pub left-begins : (x j v : List ℕ) → without_open_backslash x ++ j ≡ v → (v ≡ []) ⊎ (begins ends_key v ≡ true) → IsLittle x ⊎ BeginsInAscii x
left-begins x j v s f = of (without_open_backslash x) refl s
  where
    of : (w : List ℕ) → without_open_backslash x ≡ w → w ++ j ≡ v → IsLittle x ⊎ BeginsInAscii x
    of [] q t = inl (little x q)
    of (c ∷ w) q t = inr (c, w ++ open_backslash x, shut-whole x ∙ ap (λ a. a ++ open_backslash x) q, ends_key-ascii c (first v t f))
      where
        first : (v : List ℕ) → c ∷ (w ++ j) ≡ v → (v ≡ []) ⊎ (begins ends_key v ≡ true) → ends_key c ≡ true
        first v t f = grind (arith)

-- What is behind a key: the tail of a line, and the lines after it, which add this text.
pub record IsBehindKey (e : Encoding) (g : List HeldLine) (back v : List ℕ) : Type 0 where
  pub before : List HeldLine
  pub line : HeldLine
  pub more : List HeldLine
  pub second : g ≡ before ++ line ∷ more
  pub tail : List ℕ
  pub tail_text : List ℕ
  pub is_tail : decoded_line e tail ≡ tail_text
  pub adds : without_open_backslash tail_text ++ joined_by false more ≡ v
  pub same_open : is_open tail_text ≡ is_open line.text
  pub plain_tail : HoldsNoLineEnding line.bytes → HoldsNoLineEnding tail
  pub before_join : more ≢ [] → tail_text ≢ []
  pub bytes : back ≡ tail ++ (ending_bytes line.ending ++ group_bytes more)

pub lines-first : (e : Encoding) (o : Option LineEnding) (h : HeldLine) (hs : List HeldLine) → AreLinesBy e o (h ∷ hs)
    → HoldsNoLineEnding h.bytes × (h.text ≡ decoded_line e h.bytes)
lines-first e o h [] a = (a.0, a.1)
lines-first e o h (i ∷ hs) a = (a.0, a.1)

pub lines-later : (e : Encoding) (o : Option LineEnding) (a : List HeldLine) (h : HeldLine) (hs : List HeldLine) → AreLinesBy e o (a ++ h ∷ hs) → AreLinesBy e o (h ∷ hs)
lines-later e o [] h hs a = a
lines-later e o (x ∷ []) h hs a = a.3
lines-later e o (x ∷ y ∷ xs) h hs a = lines-later e o (y ∷ xs) h hs a.3

module _ (e : Encoding) (o : Option LineEnding) (i : HeldLine) (is : List HeldLine) (key value : List ℕ) (p : IsPair (joined (as_lines (i ∷ is))) key value)
    (ok : is_editable e ≡ true) (a : AreLinesBy e o (i ∷ is)) (front old back : List ℕ) (w : group_bytes (i ∷ is) ≡ front ++ (old ++ back)) where
  abbrev v : List ℕ
  v = p.between ++ value

  unmarked : is_comment_line i.text ≡ false
  unmarked = pair-unmarked i is key value p

  behind-cut : (kept : List HeldLine) (line : HeldLine) (more : List HeldLine) (head tail head_text tail_text : List ℕ) → i ∷ is ≡ kept ++ line ∷ more
      → line.bytes ≡ head ++ tail → line.text ≡ head_text ++ tail_text → decoded_line e tail ≡ tail_text → is_open head_text ≡ false
      → front ++ old ≡ group_bytes kept ++ head → without_open_backslash tail_text ++ joined_by false more ≡ v → (more ≢ [] → tail_text ≢ [])
      → IsBehindKey e (i ∷ is) back v
  behind-cut kept line more head tail head_text tail_text d c t is_tail closed q adds before_join =
      let y = ending_bytes line.ending ++ group_bytes more in
      let parts : group_bytes kept ++ ((head ++ tail) ++ y) ≡ (group_bytes kept ++ head) ++ (tail ++ y) = simp (append_assoc) in
      record {
        before = kept;
        line = line;
        more = more;
        second = d;
        tail = tail;
        tail_text = tail_text;
        is_tail = is_tail;
        adds = adds;
        same_open = sym (open-closed head_text tail_text closed) ∙ ap is_open (sym t);
        plain_tail = λ z. plain-right head tail (subst HoldsNoLineEnding c z);
        before_join = before_join;
        bytes =
            append_cancel_left (front ++ old) back (tail ++ y)
            (append_assoc front old back
            ∙ sym w
            ∙ ap group_bytes d
            ∙ group_bytes-append kept (line ∷ more)
            ∙ ap (λ x. group_bytes kept ++ (x ++ y)) c
            ∙ parts
            ∙ ap (λ x. x ++ (tail ++ y)) (sym q));
      }

  -- Behind a key that isn't empty.
  pub behind-some : key ≢ [] → (cut : IsCutBehind e (i ∷ is) (p.indent ++ key)) → front ++ old ≡ group_bytes cut.kept ++ cut.head → IsBehindKey e (i ∷ is) back v
  behind-some some cut q =
      let first = is_first_after true cut.kept in
      let u : IsUnmarked (cut.kept ++ cut.line ∷ cut.more) = subst IsUnmarked cut.division unmarked in
      let to : p.indent ++ key ≡ before_cut cut.kept cut.head_text = cut.text_is ∙ cut-text cut.kept cut.head_text (unmarked-front cut.kept (cut.line ∷ cut.more) u) in
      let line_closed : is_open (key ++ v) ≡ false =
      sym (open-past p.indent (key ++ v) p.indent_blank) ∙ ap is_open (sym p.whole ∙ joined-by i is unmarked) ∙ added-closed true (i ∷ is) in
      let closed : is_open cut.head_text ≡ false =
      sym (open-indent first cut.head_text)
      ∙ sym (open-closed (joined_by true cut.kept) (without_indent first cut.head_text) (added-closed true cut.kept))
      ∙ ap is_open (sym to)
      ∙ open-past p.indent key p.indent_blank
      ∙ key-closed key v p.is_key line_closed in
      behind-cut cut.kept cut.line cut.more cut.head cut.tail cut.head_text cut.tail_text cut.division cut.cut cut.cut_text
      (sym (decoded_line-only e cut.tail cut.tail_text cut.is_tail)) closed q
      (append_cancel_left (p.indent ++ key) (without_open_backslash cut.tail_text ++ joined_by false cut.more) v
      (ap (λ x. x ++ (without_open_backslash cut.tail_text ++ joined_by false cut.more)) to
      ∙ sym (joined-parts cut.kept cut.line cut.more cut.head_text cut.tail_text u cut.cut_text (inl (head-full p cut some)) closed)
      ∙ ap (λ x. joined (as_lines x)) (sym cut.division)
      ∙ p.whole
      ∙ sym (append_assoc p.indent key v)))
      cut.before_join

  -- Behind an empty key.
  pub behind-none : key ≡ [] → old ≡ [] → (b : IsBeforeKey (i ∷ is) front) → IsBehindKey e (i ∷ is) back v
  behind-none none_key none_old b =
      let x = decoded_line e b.rest in
      let u : IsUnmarked (b.kept ++ b.line ∷ b.more) = subst IsUnmarked b.division unmarked in
      let own = lines-later e o b.kept b.line b.more (subst (AreLinesBy e o) b.division a) in
      let text : b.line.text ≡ b.indent ++ x = (lines-first e o b.line b.more own).1 ∙ ap (decoded_line e) b.cut ∙ decoded-past e b.indent b.rest ok b.indent_blank in
      let closed = blanks-closed b.indent b.indent_blank in
      let full : begins is_blank x ≡ false = decoded-full b.rest b.rest_full in
      let y = without_open_backslash x ++ joined_by false b.more in
      let shut_full : begins is_blank y ≡ false =
      begins-more is_blank (without_open_backslash x) (joined_by false b.more) (shut-some b.rest b.not_blank b.not_joined)
      (begins-front is_blank (without_open_backslash x) (open_backslash x) (ap (begins is_blank) (sym (shut-whole x)) ∙ full)) in
      let blank : AreBlanks (before_cut b.kept b.indent) =
      blanks-both (joined_by true b.kept) (without_indent (is_first_after true b.kept) b.indent)
      (kept-blank e true o b.kept b.line b.more ok (subst (AreLinesBy e o) b.division a) b.joined) (indent-blank (is_first_after true b.kept) b.indent b.indent_blank) in
      behind-cut b.kept b.line b.more b.indent b.rest b.indent x b.division b.cut text refl closed
      (ap (λ z. front ++ z) none_old ∙ append-nil front ∙ b.bytes)
      (blanks-one (before_cut b.kept b.indent) y p.indent v blank p.indent_blank shut_full
      (ap (λ z. begins is_blank (z ++ v)) (sym none_key) ∙ p.begins_full)
      (sym (joined-parts b.kept b.line b.more b.indent x u text (inr (b.indent_blank, full)) closed)
      ∙ ap (λ z. joined (as_lines z)) (sym b.division)
      ∙ p.whole
      ∙ ap (λ z. p.indent ++ (z ++ v)) none_key)).1
      (λ m n. b.not_blank (nothing-decoded e b.rest n))
    where
      indent-blank : (first : Bool) (x : List ℕ) → AreBlanks x → AreBlanks (without_indent first x)
      indent-blank first x h = grind (arith, without_leading_blanks-blanks)

      decoded-full : (d : List ℕ) → begins is_blank d ≡ false → begins is_blank (decoded_line e d) ≡ false
      decoded-full d f = of (decoded_line e d) refl
        where
          of : (x : List ℕ) → decoded_line e d ≡ x → begins is_blank x ≡ false
          of [] s = refl
          of (c ∷ x) s =
              false_from_ne_true (is_blank c) (λ k.
              let t : is_blank c ≡ false = ap (begins is_blank) (sym (ascii-front e d c x ok (blanks-ascii (c ∷ []) (k, tt)).0 s).1) ∙ f in cc)

      shut-some : (d : List ℕ) → d ≢ [] → d ≢ backslash ∷ [] → without_open_backslash (decoded_line e d) ≢ []
      shut-some d m n q = elim (little (decoded_line e d) q) [
        | inl t ↦ m (nothing-decoded e d t)
        | inr t ↦ n (backslash-own e d ok t)
      ]

-- ---- what is put in

-- What is printed for a key that isn't empty isn't empty.
printed-some : (x : List ℕ) (c : ℕ) (y : List ℕ) → AreSafelyPrinted x (c ∷ y) → x ≢ []
printed-some x c y s = λ q. of s.spellings (sym s.text ∙ q) s.characters
  where
    of : (ps : List Spelling) → spellings_before ps [] ≡ [] → map spelling_character ps ≡ c ∷ y → ⊥
    of [] a b = absurd (cc)
    of (p ∷ ps) a b = grind (arith)

-- What is encoded, before the tail of a line, decodes to itself and the text of the tail.
put-decoded : (e : Encoding) (x tail tail_text : List ℕ) → is_editable e ≡ true → AreWritable e x → decoded_line e tail ≡ tail_text
    → IsLittle tail_text ⊎ BeginsInAscii tail_text → decoded_line e (encoded_text e x ++ tail) ≡ x ++ tail_text
put-decoded e x tail tail_text ok w d k = of k
  where
    ascii : BeginsInAscii tail_text → decoded_line e (encoded_text e x ++ tail) ≡ x ++ tail_text
    ascii (c, y, n, l) =
        let m = ascii-front e tail c y ok l (d ∙ n) in
        let s : tail_text ≡ c ∷ decoded_line e m.0 =
        sym d ∙ ap (decoded_line e) m.1 ∙ ascii-among e [] c m.0 ok l ∙ ap (λ v. v ++ c ∷ decoded_line e m.0) (decoded-nil e) in
        ap (λ v. decoded_line e (encoded_text e x ++ v)) m.1
        ∙ ascii-among e (encoded_text e x) c m.0 ok l
        ∙ ap₂ (λ u v. u ++ v) (text-own e x ok w) (sym s)

    of : IsLittle tail_text ⊎ BeginsInAscii tail_text → decoded_line e (encoded_text e x ++ tail) ≡ x ++ tail_text
    of (inl (inl n)) =
        ap (λ v. decoded_line e (encoded_text e x ++ v)) (nothing-decoded e tail (d ∙ n))
        ∙ ap (decoded_line e) (append-nil (encoded_text e x))
        ∙ text-own e x ok w
        ∙ sym (ap (λ v. x ++ v) n ∙ append-nil x)
    of (inl (inr n)) = ascii (backslash, [], n, lit< tt)
    of (inr m) = ascii m

-- ---- whether lines are a group

-- all lines but the last are open, and this says whether the last is
abbrev Ends : Bool → List HeldLine → Type 0
Ends b [] = ⊥
Ends b (h ∷ []) = is_open h.text ≡ b
Ends b (h ∷ i ∷ hs) = (is_open h.text ≡ true) × Ends b (i ∷ hs)

ends-whole : (h : HeldLine) (hs : List HeldLine) → Ends false (h ∷ hs) → EndsClosed (record { number = 0; text = h.text }) (as_lines hs)
ends-whole h [] k = k
ends-whole h (i ∷ hs) k = (k.0, ends-whole i hs k.1)

whole-ends : (h : HeldLine) (hs : List HeldLine) → EndsClosed (record { number = 0; text = h.text }) (as_lines hs) → Ends false (h ∷ hs)
whole-ends h [] k = k
whole-ends h (i ∷ hs) k = (k.0, whole-ends i hs k.1)

ends-open : (h : HeldLine) (hs : List HeldLine) → Ends true (h ∷ hs) → AreOpen (as_lines (h ∷ hs))
ends-open h [] k = (k, tt)
ends-open h (i ∷ hs) k = (k.0, ends-open i hs k.1)

of-ends : (g : List HeldLine) → IsUnmarked g → Ends false g → IsWhole (as_lines g)
of-ends g u k = grind (arith, ends-whole)

of-open : (g : List HeldLine) → IsUnmarked g → Ends true g → IsLastFit g
of-open g u k = grind (arith, ends-open)

open-ends : (h : HeldLine) (hs : List HeldLine) → AreOpen (as_lines (h ∷ hs)) → Ends true (h ∷ hs)
open-ends h [] k = k.0
open-ends h (i ∷ hs) k = (k.0, open-ends i hs k.1)

ends-later : (b : Bool) (a : List HeldLine) (h : HeldLine) (hs : List HeldLine) → Ends b (a ++ h ∷ hs) → Ends b (h ∷ hs)
ends-later b [] h hs k = k
ends-later b (x ∷ []) h hs k = k.1
ends-later b (x ∷ y ∷ a) h hs k = ends-later b (y ∷ a) h hs k.1

-- Another line, open or not as the one that was there.
ends-other : (b : Bool) (h l : HeldLine) (hs : List HeldLine) → is_open l.text ≡ is_open h.text → Ends b (h ∷ hs) → Ends b (l ∷ hs)
ends-other b h l [] s k = s ∙ k
ends-other b h l (x ∷ hs) s k = (s ∙ k.0, k.1)

-- ---- the lines before the key, and others

module _ (e : Encoding) (o : Option LineEnding) (kl : HeldLine) (km : List HeldLine) (l : HeldLine) (more : List HeldLine) (ok : is_editable e ≡ true) where
  kept-first : (h : HeldLine) (kept : List HeldLine) → AreLinesBy e o (h ∷ (kept ++ kl ∷ km))
      → (HoldsNoLineEnding h.bytes × (h.text ≡ decoded_line e h.bytes)) × ((by : LineEnding) × (h.ending ≡ Some by)) × AreLinesBy e o (kept ++ kl ∷ km)
  kept-first h [] a = ((a.0, a.1), (a.2.0, a.2.1), a.3)
  kept-first h (i ∷ kept) a = ((a.0, a.1), (a.2.0, a.2.1), a.3)

  kept-ends : (b : Bool) (kept : List HeldLine) → AreJoinedBlanks kept → AreLinesBy e o (kept ++ kl ∷ km) → Ends b (l ∷ more) → Ends b (kept ++ l ∷ more)
  kept-ends b [] j a k = k
  kept-ends b (h ∷ kept) j a k =
      let m = kept-first h kept a in
      let opened : is_open h.text ≡ true = rw (m.0.1, j.0.2, decoded-joined e j.0.0 ok j.0.1) (open-past j.0.0 (backslash ∷ []) j.0.1) in
      before kept opened (kept-ends b kept j.1 m.2 k)
    where
      before : (kept : List HeldLine) → is_open h.text ≡ true → Ends b (kept ++ l ∷ more) → Ends b (h ∷ (kept ++ l ∷ more))
      before [] q k = (q, k)
      before (i ∷ kept) q k = (q, k)

  kept-no_lf : (kept : List HeldLine) → AreJoinedBlanks kept → HoldsNoLineEnding l.bytes → l.bytes ≢ []
      → begins_with_lf (group_bytes (kept ++ l ∷ more)) ≡ false
  kept-no_lf [] j p n = first-none l.bytes (ending_bytes l.ending ++ group_bytes more) (plain-no_lf l.bytes p) (λ q. absurd (n q))
  kept-no_lf (h ∷ kept) j p n =
      first-none h.bytes (ending_bytes h.ending ++ group_bytes (kept ++ l ∷ more)) (rw j.0.2 (no_lf j.0.0 j.0.1))
      (λ q. absurd (let m = none-right j.0.0 (backslash ∷ []) (sym j.0.2 ∙ q) in cc))
    where
      no_lf : (x : List ℕ) → AreBlanks x → begins_with_lf (x ++ backslash ∷ []) ≡ false
      no_lf [] b = refl
      no_lf (c ∷ x) b = plain-no_lf (c ∷ []) (blanks-plain (c ∷ []) (b.0, tt))

  kept-lines : (kept : List HeldLine) → AreJoinedBlanks kept → AreLinesBy e o (kept ++ kl ∷ km) → HoldsNoLineEnding l.bytes → l.bytes ≢ []
      → AreLinesBy e o (l ∷ more) → AreLinesBy e o (kept ++ l ∷ more)
  kept-lines [] j a p n k = k
  kept-lines (h ∷ kept) j a p n k =
      let m = kept-first h kept a in before kept (m.0.0, m.0.1, (m.1.0, m.1.1, λ c. kept-no_lf kept j.1 p n)) (kept-lines kept j.1 m.2 p n k)
    where
      before : (kept : List HeldLine) → HoldsNoLineEnding h.bytes × (h.text ≡ decoded_line e h.bytes)
          × ((by : LineEnding) × (h.ending ≡ Some by) × (by ≡ cr → begins_with_lf (group_bytes (kept ++ l ∷ more)) ≡ false))
          → AreLinesBy e o (kept ++ l ∷ more) → AreLinesBy e o (h ∷ (kept ++ l ∷ more))
      before [] (p, s, t) k = (p, s, t, k)
      before (i ∷ kept) (p, s, t) k = (p, s, t, k)

-- ---- byte order marks

-- A `\u` escape begins with a backslash.
escape-first : (c : ℕ) → (rest : List ℕ) × (unicode_escape c ≡ backslash ∷ rest)
escape-first c = cond_both (nat_lt c 0x1_0000) (unit_escape c) _ (λ x. (rest : List ℕ) × (x ≡ backslash ∷ rest)) (λ k. (_, refl)) (λ k. (_, refl))

-- A key at the front of a body doesn't begin like a byte order mark.
key-mark : (r : Repertoire) (c : ℕ) (cs : List ℕ) → begins_like_bom (encoded_text r.encoding (printed_key r true (c ∷ cs))) ≡ false
key-mark r c cs = elim (cases_Bool (is_bom_like r (c ∷ cs))) [
  | inl k ↦
      let m = escape-first c in
      rw k
      (front-unmarked r.encoding (with_first_escaped r (c ∷ cs)) backslash (m.0 ++ printed_characters r in_key_or_value cs)
      (ap (λ v. v ++ printed_characters r in_key_or_value cs) m.1) (lit< tt))
  | inr k ↦ rw k k
]

-- Whether a group begins like a byte order mark depends on its first line.
group-mark : (e : Encoding) (o : Option LineEnding) (h : HeldLine) (hs : List HeldLine) → AreLinesBy e o (h ∷ hs)
    → begins_like_bom (group_bytes (h ∷ hs)) ≡ begins_like_bom h.bytes
group-mark e o h hs a = grind (arith, ending-cut, append-nil)

pub blanks-mark : (b : List ℕ) → AreBlanks b → begins_like_bom b ≡ false
blanks-mark b h = grind (arith, byte_order_mark-cut)

-- Nor does a line with what is left behind the key.
line-mark : (e : Encoding) (indent x tail tail_text : List ℕ) → is_editable e ≡ true → AreBlanks indent → (indent ≡ [] → begins_like_bom x ≡ false)
    → decoded_line e tail ≡ tail_text → IsLittle tail_text ⊎ BeginsInAscii tail_text → begins_like_bom (indent ++ (x ++ tail)) ≡ false
line-mark e (c ∷ b) x tail tail_text ok h m d k = byte_order_mark-cut [] c (b ++ (x ++ tail)) (blanks-ascii (c ∷ b) h).0
line-mark e [] x tail tail_text ok h m d k = of k
  where
    ascii : BeginsInAscii tail_text → begins_like_bom (x ++ tail) ≡ false
    ascii (c, w, n, l) =
        let f = ascii-front e tail c w ok l (d ∙ n) in ap (λ v. begins_like_bom (x ++ v)) f.1 ∙ byte_order_mark-cut x c f.0 l ∙ m refl

    of : IsLittle tail_text ⊎ BeginsInAscii tail_text → begins_like_bom (x ++ tail) ≡ false
    of (inl (inl n)) = ap (λ v. begins_like_bom (x ++ v)) (nothing-decoded e tail (d ∙ n)) ∙ ap begins_like_bom (append-nil x) ∙ m refl
    of (inl (inr n)) = ascii (backslash, [], n, lit< tt)
    of (inr q) = ascii q

-- ---- the pair with another key

-- A pair with the old key is now one with the new key and its value, and any other group is as it was.
abbrev pub IsNamed : List ℕ → List ℕ → List HeldLine → List HeldLine → Type 0
IsNamed old new g h = ((value : List ℕ) × HoldsPair old value g × HoldsPair new value h) ⊎ ¬ (HasKey old g) × (h ≡ g)

-- The new bytes of a group are such a group. It is whole or ends open as the old one did, and doesn't begin like a byte
-- order mark at the front of a body if the old one didn't.
pub record IsNewGroup (e : Encoding) (o : Option LineEnding) (first : Bool) (old new : List ℕ) (g : List HeldLine) (bytes : List ℕ) : Type 0 where
  pub group : List HeldLine
  pub are : group_bytes group ≡ bytes
  pub named : IsNamed old new g group
  pub lines : AreLinesBy e o group
  pub whole : IsWhole (as_lines g) → IsWhole (as_lines group)
  pub fit : IsLastFit g → IsLastFit group
  pub no_mark : first ≡ true → begins_like_bom (group_bytes g) ≡ false → begins_like_bom bytes ≡ false

module _ (r : Repertoire) (o : Option LineEnding) (first : Bool) (i : HeldLine) (is : List HeldLine) (old : List ℕ) (c : ℕ) (cs value bytes : List ℕ)
    (ok : is_editable r.encoding ≡ true) (scalars : All scalar (c ∷ cs)) (a : AreLinesBy r.encoding o (i ∷ is)) (m : HoldsPair old value (i ∷ is))
    (k : IsRekeyed r first (i ∷ is) (c ∷ cs) bytes) where
  abbrev e : Encoding
  e = r.encoding

  abbrev b : IsBeforeKey (i ∷ is) k.front
  b = k.before

  abbrev flag : Bool
  flag = first && is_empty k.front

  abbrev text : List ℕ
  text = printed_key r flag (c ∷ cs)

  abbrev rest : List ℕ
  rest = k.is_pair.between ++ k.value

  all : AllByRecursion scalar (c ∷ cs)
  all = recursion_from_All scalar (c ∷ cs) scalars

  printed : AreSafelyPrinted text (c ∷ cs)
  printed = key-printed r flag (c ∷ cs) all

  begin-full : BeginsFull text
  begin-full = subst BeginsFull (sym printed.text) (are_safe-begin printed.spellings printed.safe)

  some : text ≢ []
  some = printed-some text c cs printed

  not-comment : is_comment_line i.text ≡ false
  not-comment = pair-unmarked i is k.key k.value k.is_pair

  behind : IsBehindKey e (i ∷ is) k.back rest
  behind = elim k.through [
    | inl h ↦ behind-none e o i is k.key k.value k.is_pair ok a k.front k.old k.back k.whole h.0 h.1 b
    | inr h ↦ behind-some e o i is k.key k.value k.is_pair ok a k.front k.old k.back k.whole h.0 h.1 h.2
  ]

  module _ (t : IsBehindKey r.encoding (i ∷ is) k.back (k.is_pair.between ++ k.value)) where
    -- the line with the new key
    abbrev new_bytes : List ℕ
    new_bytes = b.indent ++ (encoded_text e text ++ t.tail)

    abbrev line : HeldLine
    line = record { bytes = new_bytes; text = decoded_line e new_bytes; ending = t.line.ending }

    writable : AreWritable e text
    writable = record { scalars = key-scalars r flag (c ∷ cs) all; encodable = printed_key-encodable r flag (c ∷ cs) }

    follows : IsLittle t.tail_text ⊎ BeginsInAscii t.tail_text
    follows =
        left-begins t.tail_text (joined_by false t.more) rest t.adds (may-follow rest (between-ends k.is_pair.between k.value k.is_pair.is_between))
      where
        may-follow : (v : List ℕ) → ends_here v ≡ true → (v ≡ []) ⊎ (begins ends_key v ≡ true)
        may-follow v h = grind (arith)

    line-text : line.text ≡ (b.indent ++ text) ++ t.tail_text
    line-text =
        decoded-past e b.indent (encoded_text e text ++ t.tail) ok b.indent_blank
        ∙ ap (λ v. b.indent ++ v) (put-decoded e text t.tail t.tail_text ok writable t.is_tail follows)
        ∙ sym (append_assoc b.indent text t.tail_text)

    head-closed : is_open (b.indent ++ text) ≡ false
    head-closed = open-past b.indent text b.indent_blank ∙ printed-closed text (c ∷ cs) printed

    same-open : is_open line.text ≡ is_open t.line.text
    same-open = ap is_open line-text ∙ open-closed (b.indent ++ text) t.tail_text head-closed ∙ t.same_open

    abbrev new_group : List HeldLine
    new_group = b.kept ++ line ∷ t.more

    new-unmarked : IsUnmarked new_group
    new-unmarked = of b.kept b.division
      where
        of : (kept : List HeldLine) → i ∷ is ≡ kept ++ b.line ∷ b.more → IsUnmarked (kept ++ line ∷ t.more)
        of [] d =
            ap (begins is_comment_sign)
            (ap without_leading_blanks (line-text ∙ append_assoc b.indent text t.tail_text)
            ∙ without_leading_blanks-only b.indent (text ++ t.tail_text) b.indent_blank (begins-more is_blank text t.tail_text some begin-full.no_blank))
            ∙ begins-more is_comment_sign text t.tail_text some begin-full.no_sign
        of (j ∷ js) d = let q : i ≡ j = cc in ap (λ v. let y : HeldLine = v in is_comment_line y.text) (sym q) ∙ not-comment

    head-some : ¬ (AreBlanks (b.indent ++ text))
    head-some h = none text some begin-full.no_blank (blanks-right b.indent text h)
      where
        none : (x : List ℕ) → x ≢ [] → begins is_blank x ≡ false → AreBlanks x → ⊥
        none x n f h = grind (arith)

    -- what comes before the new key in its logical line
    abbrev blanks : List ℕ
    blanks = joined_by true b.kept ++ (if is_first_after true b.kept then b.indent else [])

    put-after : (first : Bool) → without_indent first (b.indent ++ text) ≡ (if first then b.indent else []) ++ text
    put-after true = refl
    put-after false = without_leading_blanks-only b.indent text b.indent_blank begin-full.no_blank

    new-joined : joined (as_lines new_group) ≡ blanks ++ (text ++ rest)
    new-joined =
        joined-parts b.kept line t.more (b.indent ++ text) t.tail_text new-unmarked line-text (inl head-some) head-closed
        ∙ ap₂ (λ u v. (joined_by true b.kept ++ u) ++ v) (put-after (is_first_after true b.kept)) t.adds
        ∙ simp (append_assoc)

    new-pair : HoldsPair (c ∷ cs) value new_group
    new-pair = record {
      raw_key = text;
      raw_value = k.value;
      split = record {
        indent = blanks;
        between = k.is_pair.between;
        whole = new-joined;
        indent_blank =
            blanks-both (joined_by true b.kept) (if is_first_after true b.kept then b.indent else [])
            (kept-blank e true o b.kept b.line b.more ok (subst (AreLinesBy e o) b.division a) b.joined) (indent-blank (is_first_after true b.kept));
        not_empty = λ q. some (no-front text rest q);
        begins_full = begins-more is_blank text rest some begin-full.no_blank;
        no_comment = begins-more is_comment_sign text rest some begin-full.no_sign;
        is_key = subst (λ x. IsKey x rest) (sym printed.text) (are_safe-key printed.spellings rest printed.safe);
        is_between = k.is_pair.is_between;
      };
      key_means = rw (printed-means text (c ∷ cs) printed) at (meaning_of-meets text);
      value_means = subst (λ x. Means x value) same-value m.value_means;
    }
      where
        indent-blank : (first : Bool) → AreBlanks (if first then b.indent else [])
        indent-blank true = b.indent_blank
        indent-blank false = tt

        same-value : m.raw_value ≡ k.value
        same-value =
            cc (split-unique (joined (as_lines (i ∷ is))) (Logical.pair m.raw_key m.raw_value) (Logical.pair k.key k.value) m.split k.is_pair)

    behind-lines : AreLinesBy e o (t.line ∷ t.more)
    behind-lines = lines-later e o t.before t.line t.more (subst (AreLinesBy e o) t.second a)

    own-text : decoded_line e (encoded_text e text) ≡ text
    own-text = text-own e text ok writable

    new-plain : HoldsNoLineEnding new_bytes
    new-plain =
        plain-append b.indent (encoded_text e text ++ t.tail) (blanks-plain b.indent b.indent_blank)
        (plain-append (encoded_text e text) t.tail
        (plain-bytes e (encoded_text e text) ok (subst HoldsNoLineEnding (sym own-text) (printed-plain text (c ∷ cs) printed)))
        (t.plain_tail (lines-first e o t.line t.more behind-lines).0))

    new-some : new_bytes ≢ []
    new-some q =
        some (sym own-text
        ∙ ap (decoded_line e) (no-front (encoded_text e text) t.tail (none-right b.indent (encoded_text e text ++ t.tail) q))
        ∙ decoded-nil e)

    new-lines : AreLinesBy e o new_group
    new-lines =
        kept-lines e o b.line b.more line t.more ok b.kept b.joined (subst (AreLinesBy e o) b.division a) new-plain new-some (later t.more behind-lines)
      where
        later : (more : List HeldLine) → AreLinesBy e o (t.line ∷ more) → AreLinesBy e o (line ∷ more)
        later [] a = (new-plain, refl, a.2)
        later (h ∷ hs) a = (new-plain, refl, a.2, a.3)

    new-ends : (x : Bool) → Ends x (i ∷ is) → Ends x new_group
    new-ends x h =
        kept-ends e o b.line b.more line t.more ok x b.kept b.joined (subst (AreLinesBy e o) b.division a)
        (ends-other x t.line line t.more same-open (ends-later x t.before t.line t.more (subst (Ends x) t.second h)))

    new-whole : IsWhole (as_lines (i ∷ is)) → IsWhole (as_lines new_group)
    new-whole (inl h) = let n = not-comment in absurd (cc (h.0))
    new-whole (inr h) = of-ends new_group new-unmarked (new-ends false (whole-ends i is h.1))

    new-fit : IsLastFit (i ∷ is) → IsLastFit new_group
    new-fit (inl h) = inl (new-whole h)
    new-fit (inr h) = of-open new_group new-unmarked (new-ends true (open-ends i is h.1))

    new-are : group_bytes new_group ≡ bytes
    new-are =
        let y = ending_bytes t.line.ending ++ group_bytes t.more in
        let parts : group_bytes b.kept ++ (new_bytes ++ y) ≡ (group_bytes b.kept ++ b.indent) ++ (encoded_text e text ++ (t.tail ++ y)) = simp (append_assoc) in
        group_bytes-append b.kept (line ∷ t.more)
        ∙ parts
        ∙ ap₂ (λ x y. x ++ (encoded_text e text ++ y)) (sym b.bytes) (sym t.bytes)
        ∙ sym k.bytes_are

    new-mark : first ≡ true → begins_like_bom bytes ≡ false
    new-mark f = ap begins_like_bom (sym new-are) ∙ of b.kept b.joined b.bytes new-lines
      where
        of : (kept : List HeldLine) → AreJoinedBlanks kept → k.front ≡ group_bytes kept ++ b.indent → AreLinesBy e o (kept ++ line ∷ t.more)
            → begins_like_bom (group_bytes (kept ++ line ∷ t.more)) ≡ false
        of [] j q a =
            group-mark e o line t.more a
            ∙ line-mark e b.indent (encoded_text e text) t.tail t.tail_text ok b.indent_blank
            (λ n. ap₂ (λ u v. begins_like_bom (encoded_text e (printed_key r (u && is_empty v) (c ∷ cs)))) f (q ∙ n) ∙ key-mark r c cs) t.is_tail follows
        of (h ∷ kept) j q a =
            group-mark e o h (kept ++ line ∷ t.more) a
            ∙ ap begins_like_bom j.0.2
            ∙ byte_order_mark-cut j.0.0 backslash [] (lit< tt)
            ∙ blanks-mark j.0.0 j.0.1

    made : IsNewGroup r.encoding o first old (c ∷ cs) (i ∷ is) bytes
    made = record {
      group = new_group;
      are = new-are;
      named = inl (value, m, new-pair);
      lines = new-lines;
      whole = new-whole;
      fit = new-fit;
      no_mark = λ f b. new-mark f;
    }

    -- ---- the key of the new pair

    put-full : begins is_blank (encoded_text e text ++ t.tail) ≡ false
    put-full = bytes-full (encoded_text e text ++ t.tail) (put-decoded e text t.tail t.tail_text ok writable t.is_tail follows)
      where
        bytes-full : (d : List ℕ) → decoded_line e d ≡ text ++ t.tail_text → begins is_blank d ≡ false
        bytes-full [] s = refl
        bytes-full (x ∷ d) s =
            false_from_ne_true (is_blank x) (λ q.
            let more : decoded_line e (x ∷ d) ≡ x ∷ decoded_line e d = decoded-past e (x ∷ []) d ok (q, tt) in
            let full = begins-more is_blank text t.tail_text some begin-full.no_blank in
            let blank : begins is_blank (x ∷ decoded_line e d) ≡ true = q in
            let same : begins is_blank (text ++ t.tail_text) ≡ true = ap (begins is_blank) (sym s ∙ more) ∙ blank in
            cc)

    put-some : encoded_text e text ≢ []
    put-some q = some (sym own-text ∙ ap (decoded_line e) q ∙ decoded-nil e)

    put-closed : encoded_text e text ++ t.tail ≢ backslash ∷ []
    put-closed q =
        let alone = one (encoded_text e text) q put-some in
        let is : text ≡ backslash ∷ [] = sym own-text ∙ ap (decoded_line e) alone ∙ decoded-joined e [] ok tt in
        let closed : is_open (backslash ∷ []) ≡ false = ap is_open (sym is) ∙ printed-closed text (c ∷ cs) printed in
        cc
      where
        one : (x : List ℕ) → x ++ t.tail ≡ backslash ∷ [] → x ≢ [] → x ≡ backslash ∷ []
        one [] s n = absurd (n refl)
        one (y ∷ x) s n = let left : x ≡ [] = no-front x t.tail (cc) in let same : y ≡ backslash = cc in ap₂ (λ u v. u ∷ v) same left

    new-before : IsBeforeKey new_group k.front
    new-before = record {
      kept = b.kept;
      line = line;
      more = t.more;
      division = refl;
      joined = b.joined;
      indent = b.indent;
      rest = encoded_text e text ++ t.tail;
      cut = refl;
      indent_blank = b.indent_blank;
      rest_full = put-full;
      not_blank = λ q. put-some (no-front (encoded_text e text) t.tail q);
      not_joined = put-closed;
      bytes = b.bytes;
    }

    new-cut : IsCutBehind e new_group (blanks ++ text)
    new-cut = record {
      kept = b.kept;
      line = line;
      more = t.more;
      division = refl;
      head = b.indent ++ encoded_text e text;
      tail = t.tail;
      head_text = b.indent ++ text;
      tail_text = t.tail_text;
      cut = sym (append_assoc b.indent (encoded_text e text) t.tail);
      cut_text = line-text;
      is_head =
          subst (IsDecodedLine e (b.indent ++ encoded_text e text))
          (decoded-past e b.indent (encoded_text e text) ok b.indent_blank ∙ ap (λ v. b.indent ++ v) own-text)
          (decoded_line-meets e (b.indent ++ encoded_text e text));
      is_tail = subst (IsDecodedLine e t.tail) t.is_tail (decoded_line-meets e t.tail);
      text_is =
          sym (cut-text b.kept (b.indent ++ text) (unmarked-front b.kept (line ∷ t.more) new-unmarked)
          ∙ ap (λ v. joined_by true b.kept ++ v) (put-after (is_first_after true b.kept))
          ∙ sym (append_assoc (joined_by true b.kept) (if is_first_after true b.kept then b.indent else []) text));
      not_blank = λ n q. some (sym (without_leading_blanks-only b.indent text b.indent_blank begin-full.no_blank) ∙ q);
      before_join = t.before_join;
    }

    -- With a third key in place of the new one, the pair is the old one with that key.
    again : (key bytes : List ℕ) → bytes ≡ k.front ++ (encoded_text e (key_text r flag k.is_pair.between key) ++ k.back)
        → IsRekeyed r first new_group key bytes
    unfolding new-pair new-cut
    again key bytes are = record {
      key = text;
      value = k.value;
      is_pair = new-pair.split;
      front = k.front;
      old = encoded_text e text;
      back = k.back;
      whole = new-are ∙ k.bytes_are;
      before = new-before;
      through = inr (some, new-cut, ap (λ v. v ++ encoded_text e text) b.bytes ∙ append_assoc (group_bytes b.kept) b.indent (encoded_text e text));
      bytes_are = are;
    }

  -- A pair with another key is a pair with that key, and has the value that it had.
  pub rekeyed-pair : IsNewGroup r.encoding o first old (c ∷ cs) (i ∷ is) bytes
  rekeyed-pair = made behind

  -- A key that is replaced twice is replaced once.
  pub rekeyed-again : (key bytes : List ℕ)
      → bytes ≡ k.front ++ (encoded_text r.encoding (key_text r (first && is_empty k.front) k.is_pair.between key) ++ k.back)
      → IsRekeyed r first rekeyed-pair.group key bytes
  unfolding rekeyed-pair made
  rekeyed-again = again behind
