-- The group of a pair that gets another value: it is that pair, and its front is the old front, followed by an equals
-- sign if nothing separated the key from the value.
use Rattle.std.proofs.Common.{rules, arith, ◌≡◌, ◌≢◌, ℕ, true, false, List, [], ◌∷◌, ◌++◌, Option, None, refl, ap, ap₂, sym, ◌∙◌, append_assoc, append-nil, lit<, subst}
use Rattle.std.specs.Prelude.{All}
use Rattle.std.proofs.lemmas.List.Elements.{recursion_from_All}
use Rattle.properties_format.specs.Text.{scalar, equals_sign, LineEnding, is_blanks}
use Rattle.properties_format.specs.Encoding.{Encoding, Repertoire}
use Rattle.properties_format.specs.Lines.{HoldsNoLineEnding, is_open, is_comment_line, IsWhole, joined}
use Rattle.properties_format.specs.Cut.{IsDecodedLine}
use Rattle.properties_format.specs.Computed.Cut.{decoded_line}
use Rattle.properties_format.specs.Split.{Logical, AreBlanks}
use Rattle.properties_format.specs.Escapes.{Means}
use Rattle.properties_format.specs.Printing.{encoded_text}
use Rattle.properties_format.specs.Body.{HeldLine, as_lines, group_bytes, HasKey}
use Rattle.properties_format.specs.Edited.{is_editable}
use Rattle.properties_format.specs.Valued.{value_text, IsFrontOf, HoldsPair}
use Rattle.properties_format.specs.Computed.Valued.{without_indent}
use Rattle.properties_format.proofs.Lines.Plain.{plain-append, plain-left}
use Rattle.properties_format.proofs.Groups.Open.{is_open-other}
use Rattle.properties_format.proofs.Split.Laws.{split-unique}
use Rattle.properties_format.proofs.Cut.Byline.{decoded_line-meets, decoded_line-only}
use Rattle.properties_format.proofs.Escapes.Unique.{meaning_of-meets}
use Rattle.properties_format.proofs.Printing.Characters.{encoded-ascii, encoded_text-append}
use Rattle.properties_format.proofs.ReadBack.Bytes.{AreWritable, value-writable}
use Rattle.properties_format.proofs.Body.Decoded.{decoded-nil, plain-bytes}
use Rattle.properties_format.proofs.Body.Groups.{IsLastFit}
use Rattle.properties_format.proofs.Valued.Heads.{ascii-among}
use Rattle.properties_format.proofs.Valued.Fronts.{open-past, open-indent, joined_by, is_first_after, front-unmarked, front-text}
use Rattle.properties_format.proofs.ReadBack.Values.{value-loose, loose-means, loosely-plain, loosely-closed, value-begins}
use Rattle.properties_format.proofs.Valued.Revalued.{open-closed, added-closed, between_after, value_after, missing, value_text-parts, between_after-parts, pair-anew, longer-joined, longer-whole, text-own, after-front}
use Rattle.properties_format.proofs.Encodings.PieceEnds.{no-front}

-- ---- what is missing between key and value

-- It is encoded as itself.
missing-bytes : (e : Encoding) (between : List ℕ) → encoded_text e (missing between) ≡ missing between
missing-bytes e between = grind (arith, encoded-ascii)

-- The bytes after the front.
pub after-bytes : (r : Repertoire) (between value : List ℕ)
    → encoded_text r.encoding (value_text r between value) ≡ missing between ++ encoded_text r.encoding (value_after r between value)
after-bytes r between value = simp (value_text-parts, encoded_text-append, missing, value_after, missing-bytes)

-- It contains no line ending.
missing-plain : (between : List ℕ) → HoldsNoLineEnding (missing between)
missing-plain between = grind (arith)

-- What is printed for an empty value is only what is missing.
no_value-text : (r : Repertoire) (between : List ℕ) → value_text r between [] ≡ missing between
no_value-text r between = grind (arith)

-- ---- the changed group

-- the line that replaces those after the lines that are kept
abbrev pub new_bytes : Repertoire → List ℕ → List ℕ → List ℕ → List ℕ
new_bytes r head between value = head ++ encoded_text r.encoding (value_text r between value)

-- the line of these bytes
abbrev pub new_line : Repertoire → List ℕ → List ℕ → List ℕ → Option LineEnding → HeldLine
new_line r head between value ending =
    record { bytes = new_bytes r head between value; text = decoded_line r.encoding (new_bytes r head between value); ending = ending }

-- What holds for the changed group.
pub record IsChangedPair (r : Repertoire) (key between front value : List ℕ) (kept : List HeldLine) (head : List ℕ) (ending : Option LineEnding) : Type 0 where
  pub plain : HoldsNoLineEnding (new_bytes r head between value)
  pub some : new_bytes r head between value ≢ []
  pub whole : IsWhole (as_lines (kept ++ new_line r head between value ending ∷ []))
  pub has_pair : HoldsPair key value (kept ++ new_line r head between value ending ∷ [])
  pub is_front : IsFrontOf r.encoding (kept ++ new_line r head between value ending ∷ []) (between_after between) (front ++ missing between)

-- A head isn't empty.
head-some : (e : Encoding) (group : List HeldLine) (between front : List ℕ) (f : IsFrontOf e group between front) → f.head ≢ []
head-some e group between front f q =
    f.not_blank (subst AreBlanks (sym (decoded_line-only e f.head f.head_text f.is_head ∙ ap (decoded_line e) q ∙ decoded-nil e)) tt)

-- The first part of blanks is blanks.
blanks-left : (x y : List ℕ) → AreBlanks (x ++ y) → AreBlanks x
blanks-left [] y h = tt
blanks-left (c ∷ x) y h = (h.0, blanks-left x y h.1)

-- The first of the lines that are kept.
kept-unmarked : (e : Encoding) (group : List HeldLine) (between front : List ℕ) (f : IsFrontOf e group between front) (i : HeldLine) (is : List HeldLine)
    → f.kept ≡ i ∷ is → is_comment_line i.text ≡ false
kept-unmarked e group between front f i is s = front-unmarked e group between front f i (is ++ f.line ∷ f.more) (ap (λ v. v ++ f.line ∷ f.more) s)

-- If nothing separates the key from the value, the key doesn't end in a single backslash.
key-closed : (e : Encoding) (group : List HeldLine) (between front : List ℕ) (f : IsFrontOf e group between front) → between ≡ [] → is_open f.key ≡ false
key-closed e group between front f s =
    let first = is_first_after true f.kept in
    let q = without_indent first f.head_text in
    let t : f.is_pair.indent ++ f.key ≡ joined_by true f.kept ++ q =
    ap (λ v. f.is_pair.indent ++ v) (sym (ap (λ v. f.key ++ v) s ∙ append-nil f.key)) ∙ front-text e group between front f in
    sym (open-past f.is_pair.indent f.key f.is_pair.indent_blank)
    ∙ ap is_open t
    ∙ open-closed (joined_by true f.kept) q (added-closed true f.kept)
    ∙ open-indent first f.head_text
    ∙ f.closed

-- The key of a group is what its written key means.
key-means : (e : Encoding) (group : List HeldLine) (key between front : List ℕ) (f : IsFrontOf e group between front) → HasKey key group → Means f.key key
key-means e group key between front f (old, h) =
    let s = split-unique (joined (as_lines group)) (Logical.pair h.raw_key h.raw_value) (Logical.pair f.key f.value) h.split f.is_pair in
    grind (arith)

-- The group with the front and another value.
pub changed-pair : (r : Repertoire) (group : List HeldLine) (key between front value : List ℕ) (ending : Option LineEnding)
    (f : IsFrontOf r.encoding group between front) → is_editable r.encoding ≡ true → All scalar value → IsLastFit group → HoldsNoLineEnding f.line.bytes
    → HasKey key group → IsChangedPair r key between front value f.kept f.head ending
changed-pair r group key between front value ending f ok scalars fit line_plain has =
    let h = f.is_pair in
    let first = is_first_after true f.kept in
    let va = value_after r between value in
    let vt = value_text r between value in
    let all = recursion_from_All scalar value scalars in
    let loose = value-loose r (is_blanks (between_after between)) value all in
    let writable = value-writable r (is_blanks (between_after between)) value all in
    let none = value-writable r (is_blanks (between_after between)) [] tt in
    let decoded : decoded_line r.encoding (new_bytes r f.head between value) ≡ f.head_text ++ vt = after-front r group between front value f ok writable in
    let parts : f.head_text ++ vt ≡ (f.head_text ++ missing between) ++ va = search (value_text-parts, append_assoc) in
    let closed_head : is_open (f.head_text ++ missing between) ≡ false = search (rules, is_open-other, append-nil) in
    let closed : is_open (f.head_text ++ vt) ≡ false = ap is_open parts ∙ loosely-closed (f.head_text ++ missing between) va value loose closed_head in
    let line : HeldLine = record { bytes = new_bytes r f.head between value; text = f.head_text ++ vt; ending = ending } in
    let same : line ≡ new_line r f.head between value ending =
    ap (λ v. let l : HeldLine = record { bytes = new_bytes r f.head between value; text = v; ending = ending } in l) (sym decoded) in
    let unmarked = kept-unmarked r.encoding group between front f in
    let joined_is : joined (as_lines (f.kept ++ line ∷ [])) ≡ h.indent ++ (f.key ++ (between_after between ++ va)) =
    longer-joined r.encoding f.kept f.head_text vt (new_bytes r f.head between value) ending unmarked f.not_blank closed
    ∙ ap₂ (λ v w. v ++ w) (sym (front-text r.encoding group between front f)) (value_text-parts r between value)
    ∙ append_assoc h.indent (f.key ++ between) (missing between ++ va)
    ∙ ap (λ v. h.indent ++ v) (append_assoc f.key between (missing between ++ va))
    ∙ ap (λ v. h.indent ++ (f.key ++ v)) (sym (append_assoc between (missing between) va))
    ∙ ap (λ v. h.indent ++ (f.key ++ (v ++ va))) (sym (between_after-parts between)) in
    let joined_new : joined (as_lines (f.kept ++ new_line r f.head between value ending ∷ [])) ≡ h.indent ++ (f.key ++ (between_after between ++ va)) =
    ap (λ v. joined (as_lines (f.kept ++ v ∷ []))) (sym same) ∙ joined_is in
    let anew = pair-anew _ f.key f.value va h between _ f.is_between
    (value-begins r (is_blanks (between_after between)) value all) (key-closed r.encoding group between front f) joined_new in
    let value_plain : HoldsNoLineEnding (encoded_text r.encoding vt) =
    plain-bytes r.encoding (encoded_text r.encoding vt) ok
    (subst HoldsNoLineEnding (sym (ap (decoded_line r.encoding) (after-bytes r between value) ∙ text-after r.encoding between va ok writable))
    (plain-append (missing between) va (missing-plain between) (loosely-plain va value loose))) in
    let shorter : decoded_line r.encoding (f.head ++ missing between) ≡ f.head_text ++ missing between =
    ap (λ v. decoded_line r.encoding (f.head ++ v)) (sym (ap (encoded_text r.encoding) (no_value-text r between) ∙ missing-bytes r.encoding between))
    ∙ after-front r group between front [] f ok none
    ∙ ap (λ v. f.head_text ++ v) (no_value-text r between) in
    record {
      plain = plain-append f.head (encoded_text r.encoding vt) (plain-left f.head f.tail (subst HoldsNoLineEnding f.cut line_plain)) value_plain;
      some = λ q. head-some r.encoding group between front f (no-front f.head (encoded_text r.encoding vt) q);
      whole = grind (arith, longer-whole);
      has_pair = record {
        raw_key = f.key;
        raw_value = va;
        split = anew.is_pair;
        key_means = key-means r.encoding group key between front f has;
        value_means = rw (loose-means va value loose) at (meaning_of-meets va);
      };
      is_front = record {
        kept = f.kept;
        line = new_line r f.head between value ending;
        more = [];
        division = refl;
        head = f.head ++ missing between;
        tail = encoded_text r.encoding va;
        head_text = f.head_text ++ missing between;
        tail_text = va;
        cut = ap (λ v. f.head ++ v) (after-bytes r between value) ∙ sym (append_assoc f.head (missing between) (encoded_text r.encoding va));
        cut_text = decoded ∙ parts;
        is_head = subst (IsDecodedLine r.encoding (f.head ++ missing between)) shorter (decoded_line-meets r.encoding (f.head ++ missing between));
        is_tail = subst (IsDecodedLine r.encoding _) (text-own r.encoding va ok writable) (decoded_line-meets r.encoding _);
        not_blank = λ b. f.not_blank (blanks-left f.head_text (missing between) b);
        closed = closed_head;
        key = f.key;
        value = va;
        is_pair = anew.is_pair;
        is_between = sym anew.between_is;
        up_to =
            longer-joined r.encoding f.kept f.head_text (missing between) (f.head ++ missing between) None unmarked f.not_blank closed_head
            ∙ ap (λ v. v ++ missing between) (sym (front-text r.encoding group between front f))
            ∙ append_assoc h.indent (f.key ++ between) (missing between)
            ∙ ap (λ v. h.indent ++ v) (append_assoc f.key between (missing between))
            ∙ ap₂ (λ v w. v ++ (f.key ++ w)) (sym anew.indent_is) (sym (between_after-parts between));
        bytes = ap (λ v. v ++ missing between) f.bytes ∙ append_assoc (group_bytes f.kept) f.head (missing between);
      };
    }
  where
    text-after : (e : Encoding) (between va : List ℕ) → is_editable e ≡ true → AreWritable e va
        → decoded_line e (missing between ++ encoded_text e va) ≡ missing between ++ va
    text-after e [] va ok w = ascii-first e va ok w
      where
        ascii-first : (e : Encoding) (va : List ℕ) → is_editable e ≡ true → AreWritable e va
            → decoded_line e (equals_sign ∷ encoded_text e va) ≡ equals_sign ∷ va
        ascii-first e va ok w = rw (ascii-among e [] equals_sign (encoded_text e va) ok (lit< tt), decoded-nil e, text-own e va ok w)
    text-after e (c ∷ cs) va ok w = text-own e va ok w
