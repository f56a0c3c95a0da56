-- A pair with another value: its front and what is printed for the value are a group, which is the pair with its key
-- and the value, and has the same front.
use Rattle.std.proofs.Common.{rules, arith, ◌≡◌, ◌≢◌, ◌⊎◌, ◌<◌, ℕ, ◌==◌, not, Bool, true, false, List, [], ◌∷◌, ◌++◌, Option, refl, ap, sym, ◌∙◌, inl, inr, append_assoc, append-nil, subst, eqb-true}
use Rattle.std.specs.Prelude.{if◌then◌else◌}
use Rattle.std.proofs.lemmas.Bool.{cases_Bool}
use Rattle.properties_format.specs.Text.{backslash, equals_sign, LineEnding, is_blank, is_blanks, is_comment_sign, begins}
use Rattle.properties_format.specs.Encoding.{Encoding, Repertoire}
use Rattle.properties_format.specs.Computed.Cut.{decoded_line}
use Rattle.properties_format.specs.Lines.{is_open, is_comment_line, EndsClosed, AreOpen, IsWhole, joined}
use Rattle.properties_format.specs.Split.{AreBlanks, ends, KeyUnit, plain, escaped, last, key_units_before, AreKeyUnits, IsBetween, nothing, blanks, separator, IsPair}
use Rattle.properties_format.specs.Computed.Split.{ends_key}
use Rattle.properties_format.specs.Printing.{encoded_text, printed_value}
use Rattle.properties_format.specs.Body.{HeldLine, as_lines}
use Rattle.properties_format.specs.Edited.{is_editable}
use Rattle.properties_format.proofs.ReadBack.Values.{BeginsAfter}
use Rattle.properties_format.specs.Valued.{value_text, IsFrontOf}
use Rattle.properties_format.specs.Computed.Valued.{without_indent, added_by}
use Rattle.properties_format.proofs.Groups.Open.{is_open-backslash, is_open-other, is_open-after, without_open_backslash-closed}
use Rattle.properties_format.proofs.Groups.Joined.{joined-closed}
use Rattle.properties_format.proofs.Split.Keys.{units_before-append}
use Rattle.properties_format.proofs.Settings.Tests.{is_blanks-from}
use Rattle.properties_format.proofs.Cut.Byline.{decoded_line-only}
use Rattle.properties_format.proofs.Printing.Characters.{encoded-ascii}
use Rattle.properties_format.proofs.ReadBack.Bytes.{AreWritable, text-decoded}
use Rattle.properties_format.proofs.Body.Groups.{IsLastFit}
use Rattle.properties_format.proofs.Edited.Pair.{alone-whole, editable-own}
use Rattle.properties_format.proofs.Valued.Heads.{ascii-end, ascii-among}
use Rattle.properties_format.proofs.Valued.Fronts.{indented, open-indent, indent-head, shut-closed, joined_by, joined-by, is_first_after, joined_by-append, right-some, ends-last, ends-right, ends_key-ascii, between-end, front-text, pair-some}
use Rattle.properties_format.proofs.Encodings.PieceEnds.{no-front, none-right}

-- ---- whether two texts together are open

-- whether a text is open after a text that is open or not
abbrev open_on : Bool → List ℕ → Bool
open_on was_open [] = was_open
open_on was_open (c ∷ x) = open_on (if c == backslash then not was_open else false) x

-- The text is open exactly if this is true.
open-on : (x y : List ℕ) → is_open (x ++ y) ≡ open_on (is_open x) y
open-on x [] = ap is_open (append-nil x)
open-on x (c ∷ y) = grind (arith, append_assoc, open-on (x ++ c ∷ []) y, eqb-true, is_open-backslash, is_open-other)

-- After a text that isn't open, a text is open exactly if it is by itself.
pub open-closed : (x y : List ℕ) → is_open x ≡ false → is_open (x ++ y) ≡ is_open y
open-closed x y h = open-on x y ∙ ap (λ b. open_on b y) h ∙ sym (open-on [] y)

-- What lines add isn't open.
pub added-closed : (first : Bool) (hs : List HeldLine) → is_open (joined_by first hs) ≡ false
added-closed first [] = refl
added-closed first (h ∷ hs) = simp (open-closed, joined_by, shut-closed, added-closed false hs)

-- ---- a key before another text

-- The units of a key that doesn't end in a single backslash may come before any text.
units-anew : (us : List KeyUnit) (rest other : List ℕ) → AreKeyUnits us rest → (rest ≢ []) ⊎ (is_open (key_units_before us []) ≡ false) → AreKeyUnits us other
units-anew [] rest other h k = tt
units-anew (plain c ∷ us) rest other h (inl k) = (h.0, units-anew us rest other h.1 (inl k))
units-anew (plain c ∷ us) rest other h (inr k) = (h.0, units-anew us rest other h.1 (inr (sym (is_open-after [] c (key_units_before us []) h.0.0) ∙ k)))
units-anew (escaped c ∷ us) rest other h (inl k) = (tt, units-anew us rest other h.1 (inl k))
units-anew (escaped c ∷ us) rest other h (inr k) =
    (tt, units-anew us rest other h.1 (inr (sym (open-closed (backslash ∷ c ∷ []) (key_units_before us []) (two (cases_Bool (c == backslash)))) ∙ k)))
  where
    two : ((c == backslash) ≡ true) ⊎ ((c == backslash) ≡ false) → is_open (backslash ∷ c ∷ []) ≡ false
    two (inl m) = rw (eqb-true c backslash m) refl
    two (inr m) = is_open-other (backslash ∷ []) c m
units-anew (last ∷ us) rest other h (inl k) = absurd (k (none-right (key_units_before us []) rest (sym (units_before-append us rest) ∙ h.0)))
units-anew (last ∷ us) rest other h (inr k) = grind (arith, no-front, units_before-append)

-- ---- what separates the key from the value, and the value

-- what separates the key from the value after the change
abbrev pub between_after : List ℕ → List ℕ
between_after [] = equals_sign ∷ []
between_after (c ∷ cs) = c ∷ cs

-- what is printed for the value after it
abbrev pub value_after : Repertoire → List ℕ → List ℕ → List ℕ
value_after r between value = printed_value r (is_blanks (between_after between)) value

-- what is missing between key and value
abbrev pub missing : List ℕ → List ℕ
missing [] = equals_sign ∷ []
missing (c ∷ cs) = []

-- What comes after the front is what was missing, followed by the value.
pub value_text-parts : (r : Repertoire) (between value : List ℕ) → value_text r between value ≡ missing between ++ value_after r between value
value_text-parts r between value = grind (arith)

-- What separates the key from the value is what separated them before, followed by what was missing.
pub between_after-parts : (between : List ℕ) → between_after between ≡ between ++ missing between
between_after-parts between = grind (arith, append-nil)

-- What separates the key from a value also separates it from another value that begins like a printed one.
between-anew : (between old new : List ℕ) → IsBetween between old → BeginsAfter (is_blanks (between_after between)) new → IsBetween (between_after between) new
between-anew [] old new h b = separator [] equals_sign [] refl tt refl tt b.no_blank
between-anew (c ∷ cs) old new (nothing s t) b = absurd (cc)
between-anew (c ∷ cs) old new (blanks some are a d) b = blanks some are b.no_blank (b.no_separator (is_blanks-from (c ∷ cs) are))
between-anew (c ∷ cs) old new (separator before sign after s are t d f) b = separator before sign after s are t d b.no_blank

-- ---- the pair with another value

-- A text that isn't empty begins in the same way with more after it.
begins-more : (kind : ℕ → Bool) (x y z : List ℕ) → x ≢ [] → begins kind (x ++ y) ≡ false → begins kind (x ++ z) ≡ false
begins-more kind [] y z h k = absurd (h refl)
begins-more kind (c ∷ x) y z h k = k

-- The key of a pair and what separates it from the value aren't both empty.
key-between : (line key value : List ℕ) (h : IsPair line key value) → key ++ h.between ≢ []
key-between line key value h q = pair-some line key value h (rw (q, append-nil) h.indent_blank)

-- The line is a pair with this key and value, and with the same indentation and the same text between key and value.
pub record IsPairAnew (line key value indent between : List ℕ) : Type 0 where
  pub is_pair : IsPair line key value
  pub indent_is : is_pair.indent ≡ indent
  pub between_is : is_pair.between ≡ between

-- An equal line is the same pair.
pub pair-moved : (line other key value : List ℕ) → other ≡ line → (h : IsPair line key value) → IsPairAnew other key value h.indent h.between
pair-moved line other key value s h = record {
  is_pair = record {
    indent = h.indent;
    between = h.between;
    whole = s ∙ h.whole;
    indent_blank = h.indent_blank;
    not_empty = h.not_empty;
    begins_full = h.begins_full;
    no_comment = h.no_comment;
    is_key = h.is_key;
    is_between = h.is_between;
  };
  indent_is = refl;
  between_is = refl;
}

-- After the change, the line is the pair with the new value.
pub pair-anew : (line key old new : List ℕ) (h : IsPair line key old) (between other : List ℕ) → between ≡ h.between
    → BeginsAfter (is_blanks (between_after between)) new → (between ≡ [] → is_open key ≡ false) → other ≡ h.indent ++ (key ++ (between_after between ++ new))
    → IsPairAnew other key new h.indent (between_after between)
pair-anew line key old new h between other s b closed whole =
    let some : key ++ between ≢ [] = λ q. key-between line key old h (ap (λ v. key ++ v) (sym s) ∙ q) in
    let same : key ++ (between_after between ++ new) ≡ (key ++ between) ++ (missing between ++ new) = grind (arith, between_after-parts, append_assoc) in
    let was : key ++ (h.between ++ old) ≡ (key ++ between) ++ old = ap (λ v. key ++ (v ++ old)) (sym s) ∙ sym (append_assoc key between old) in
    let keeps : (kind : ℕ → Bool) → begins kind (key ++ (h.between ++ old)) ≡ false → begins kind (key ++ (between_after between ++ new)) ≡ false = λ kind k.
    ap (begins kind) same ∙ begins-more kind (key ++ between) old (missing between ++ new) some (ap (begins kind) (sym was) ∙ k) in
    record {
      is_pair = record {
        indent = h.indent;
        between = between_after between;
        whole = whole;
        indent_blank = h.indent_blank;
        not_empty = λ q. some (no-front (key ++ between) (missing between ++ new) (sym same ∙ q));
        begins_full = keeps is_blank h.begins_full;
        no_comment = keeps is_comment_sign h.no_comment;
        is_key = search (rules, units-anew);
        is_between = between-anew between old new (subst (λ v. IsBetween v old) (sym s) h.is_between) b;
      };
      indent_is = refl;
      between_is = refl;
    }
  where
    of-between : (x : List ℕ) → x ≡ h.between → (h.between ++ old ≢ []) ⊎ (is_open key ≡ false)
    of-between [] t = inr (closed (s ∙ sym t))
    of-between (c ∷ x) t = inl (λ q. absurd (cc (t ∙ no-front h.between old q)))

-- ---- the line after the front

-- What the lines that are kept, followed by such a line, add.
pub longer-joined : (e : Encoding) (kept : List HeldLine) (text more bytes : List ℕ) (o : Option LineEnding)
    → ((i : HeldLine) (is : List HeldLine) → kept ≡ i ∷ is → is_comment_line i.text ≡ false) → ¬ (AreBlanks text) → is_open (text ++ more) ≡ false
    → joined (as_lines (kept ++ record { bytes = bytes; text = text ++ more; ending = o } ∷ []))
    ≡ (joined_by true kept ++ without_indent (is_first_after true kept) text) ++ more
longer-joined e [] text more bytes o f n c = joined-closed (record { number = 0; text = text ++ more }) c
longer-joined e (i ∷ kept) text more bytes o f n c =
    let l : HeldLine = record { bytes = bytes; text = text ++ more; ending = o } in
    let add : added_by false (text ++ more) ≡ without_indent false text ++ more =
    without_open_backslash-closed (without_indent false (text ++ more)) (open-indent false (text ++ more) ∙ c) ∙ indent-head false text more n in
    joined-by i (kept ++ l ∷ []) (f i kept refl)
    ∙ joined_by-append true (i ∷ kept) (l ∷ [])
    ∙ ap (λ v. joined_by true (i ∷ kept) ++ v) (append-nil (added_by false (text ++ more)) ∙ add)
    ∙ sym (append_assoc (joined_by true (i ∷ kept)) (without_indent false text) more)

-- They are a whole group, if the lines that are kept begin a group.
pub longer-whole : (kept : List HeldLine) (line : HeldLine) (more : List HeldLine) (h : HeldLine) → IsLastFit (kept ++ line ∷ more) → is_open h.text ≡ false
    → ((i : HeldLine) (is : List HeldLine) → kept ≡ i ∷ is → is_comment_line i.text ≡ false) → IsWhole (as_lines (kept ++ h ∷ []))
longer-whole [] line more h k c f = alone-whole (record { number = 0; text = h.text }) (inr c)
longer-whole (i ∷ kept) line more h (inl (inl k)) c f = let m = f i kept refl in absurd (cc (k.0, m))
longer-whole (i ∷ kept) line more h (inl (inr k)) c f = inr (k.0, closes i kept k.1)
  where
    closes : (i : HeldLine) (kept : List HeldLine) → EndsClosed (record { number = 0; text = i.text }) (as_lines (kept ++ line ∷ more))
        → EndsClosed (record { number = 0; text = i.text }) (as_lines (kept ++ h ∷ []))
    closes i [] m = (m.0, c)
    closes i (j ∷ kept) m = (m.0, closes j kept m.1)
longer-whole (i ∷ kept) line more h (inr k) c f = inr (k.0, closes i kept k.1)
  where
    closes : (i : HeldLine) (kept : List HeldLine) → AreOpen (as_lines (i ∷ kept ++ line ∷ more))
        → EndsClosed (record { number = 0; text = i.text }) (as_lines (kept ++ h ∷ []))
    closes i [] m = (m.0, c)
    closes i (j ∷ kept) m = (m.0, closes j kept m.1)

-- ---- the bytes after the front

-- The bytes of a text that can be written decode to it.
pub text-own : (e : Encoding) (x : List ℕ) → is_editable e ≡ true → AreWritable e x → decoded_line e (encoded_text e x) ≡ x
text-own e x ok w = subst (λ a. decoded_line a (encoded_text e x) ≡ x) (editable-own e ok) (text-decoded e x w.scalars w.encodable)

-- If something separates the key from the value, a head ends in an ASCII character.
pub front-ends : (e : Encoding) (group : List HeldLine) (between front : List ℕ) (f : IsFrontOf e group between front) → between ≢ []
    → (w : List ℕ) × (c : ℕ) × (f.head_text ≡ w ++ c ∷ []) × (c < 0x80)
front-ends e group between front f some =
    let h = f.is_pair in
    let first = is_first_after true f.kept in
    let q = without_indent first f.head_text in
    let a : ends ends_key between ≡ true = of-between (between-end h.between f.value h.is_between) in
    let t = front-text e group between front f in
    let b : ends ends_key (joined_by true f.kept ++ q) ≡ true = grind (arith, ends-right, right-some) in
    let i = indented first f.head_text in
    let n : q ≢ [] = λ z. f.not_blank (subst AreBlanks (sym (i.whole ∙ ap (λ v. i.indent ++ v) z ∙ append-nil i.indent)) i.blank) in
    let m = ends-last ends_key q (sym (ends-right ends_key (joined_by true f.kept) q n) ∙ b) in (
      i.indent ++ m.0,
      m.1,
      i.whole ∙ ap (λ v. i.indent ++ v) m.2 ∙ sym (append_assoc i.indent m.0 (m.1 ∷ [])),
      ends_key-ascii m.1 m.3,
    )
  where
    of-between : (f.is_pair.between ≢ []) × (ends ends_key f.is_pair.between ≡ true) ⊎ (f.is_pair.between ≡ []) × (f.value ≡ []) → ends ends_key between ≡ true
    of-between (inl m) = ap (ends ends_key) f.is_between ∙ m.1
    of-between (inr m) = absurd (some (f.is_between ∙ m.0))

-- The head followed by what is printed for a value decodes to both texts.
pub after-front : (r : Repertoire) (group : List HeldLine) (between front value : List ℕ) (f : IsFrontOf r.encoding group between front)
    → is_editable r.encoding ≡ true → AreWritable r.encoding (value_after r between value)
    → decoded_line r.encoding (f.head ++ encoded_text r.encoding (value_text r between value)) ≡ f.head_text ++ value_text r between value
after-front r group [] front value f ok w =
    let x = printed_value r false value in
    let head : decoded_line r.encoding f.head ≡ f.head_text = sym (decoded_line-only r.encoding f.head f.head_text f.is_head) in
    grind (arith, encoded-ascii, ascii-among, text-own)
after-front r group (b ∷ bs) front value f ok w =
    let x = value_text r (b ∷ bs) value in
    let m = front-ends r.encoding group (b ∷ bs) front f (λ q. cc) in
    let n = ascii-end r.encoding f.head m.0 m.1 ok m.3 (sym (decoded_line-only r.encoding f.head f.head_text f.is_head) ∙ m.2) in
    grind (arith, append_assoc, ascii-among, text-own)
