-- A new pair: its separator is good, its line is the pair, and everything before the value is its front.
use Rattle.std.proofs.Common.{arith, rules, ◌≡◌, ◌≢◌, ℕ, ◌&&◌, Bool, true, false, List, [], ◌∷◌, ◌++◌, Some, map, refl, ap, sym, ◌∙◌, inl, inr, append_assoc, append-nil, subst}
use Rattle.std.specs.Prelude.{All}
use Rattle.std.proofs.lemmas.Bool.{cases_Bool, cond_both}
use Rattle.std.proofs.lemmas.List.Elements.{recursion_from_All}
use Rattle.properties_format.specs.Text.{scalar, equals_sign, LineEnding, is_blank, is_blanks, is_separator, is_empty}
use Rattle.properties_format.specs.Encoding.{Encoding, Repertoire}
use Rattle.properties_format.specs.Lines.{HoldsNoLineEnding, is_open, IsWhole, joined}
use Rattle.properties_format.specs.Cut.{IsDecodedLine}
use Rattle.properties_format.specs.Computed.Cut.{decoded_line}
use Rattle.properties_format.specs.Split.{AreBlanks, IsBetween, nothing, blanks, separator, IsPair}
use Rattle.properties_format.specs.Escapes.{Spelling, spelling_character, spellings_before}
use Rattle.properties_format.specs.Settings.{IsGoodSeparator}
use Rattle.properties_format.specs.Printing.{printed_key, encoded_text, printed_value}
use Rattle.properties_format.proofs.ReadBack.Values.{BeginsAfter, value-loose, loose-means, loosely-plain, loosely-closed, value-begins}
use Rattle.properties_format.specs.Body.{HeldLine, as_lines}
use Rattle.properties_format.specs.Edited.{is_editable}
use Rattle.properties_format.specs.Valued.{value_text, shortened_after, separator_after, IsNewSeparator, IsFrontOf, HoldsPair}
use Rattle.properties_format.proofs.Lines.Plain.{plain-append}
use Rattle.properties_format.proofs.Groups.Joined.{joined-closed}
use Rattle.properties_format.proofs.Split.Unique.{separator-full}
use Rattle.properties_format.proofs.Split.Laws.{IsKey-nil, separator-sign}
use Rattle.properties_format.proofs.Settings.Tests.{is_blanks-from}
use Rattle.properties_format.proofs.Escapes.Unique.{meaning_of-meets}
use Rattle.properties_format.proofs.Cut.Byline.{decoded_line-meets}
use Rattle.properties_format.proofs.Printing.Characters.{encoded_text-append, good_separator-ascii, printed_key-encodable}
use Rattle.properties_format.proofs.ReadBack.Texts.{AreSafe, AreSafelyPrinted, printed-means, printed-plain, are_safe-key, BeginsFull, safe-begins}
use Rattle.properties_format.proofs.ReadBack.Pairs.{key-printed, separator-some, separator-quiet, closed-after, good-between}
use Rattle.properties_format.proofs.ReadBack.Bytes.{AreWritable, writable-append, key-scalars, ascii-writable, value-writable}
use Rattle.properties_format.proofs.Body.Decoded.{decoded-nil, plain-bytes}
use Rattle.properties_format.proofs.Edited.Pair.{alone-whole}
use Rattle.properties_format.proofs.Valued.Fronts.{pair-some}
use Rattle.properties_format.proofs.Valued.Revalued.{pair-moved, text-own}
use Rattle.properties_format.proofs.Encodings.PieceEnds.{no-front, none-right}

-- ---- the separator

-- Blanks shortened to the first of each run are blanks.
shortened-blank : (was : Bool) (x : List ℕ) → AreBlanks x → AreBlanks (shortened_after was x)
shortened-blank was [] h = tt
shortened-blank true (c ∷ x) h = rw h.0 (shortened-blank true x h.1)
shortened-blank false (c ∷ x) h = (h.0, rw h.0 (shortened-blank true x h.1))

-- Blanks around a sign, shortened, are still around it.
shortened-sign : (was : Bool) (before : List ℕ) (sign : ℕ) (after : List ℕ) → AreBlanks before → is_separator sign ≡ true
    → shortened_after was (before ++ sign ∷ after) ≡ shortened_after was before ++ sign ∷ shortened_after false after
shortened-sign true [] sign after h s = rw (separator-full sign s) refl
shortened-sign false [] sign after h s = rw (separator-full sign s) refl
shortened-sign true (c ∷ before) sign after h s = rw h.0 (shortened-sign true before sign after h.1 s)
shortened-sign false (c ∷ before) sign after h s = rw h.0 (ap (λ v. c ∷ v) (shortened-sign true before sign after h.1 s))

-- An equals sign is a good separator.
equals-good : IsGoodSeparator (equals_sign ∷ [])
equals-good = inl (record { before = []; sign = equals_sign; after = []; division = refl; blank_before = tt; signed = refl; blank_after = tt })

-- What separates the key of a pair from its value, shortened, is a good separator.
shortened-good : (c : ℕ) (cs value : List ℕ) → IsBetween (c ∷ cs) value → IsGoodSeparator (shortened_after false (c ∷ cs))
shortened-good c cs value (nothing s t) = absurd (cc)
shortened-good c cs value (blanks some are a d) = inr (record { some = λ q. cc; blank = shortened-blank false (c ∷ cs) are })
shortened-good c cs value (separator before sign after s are t d f) =
    inl (record {
      before = shortened_after false before;
      sign = sign;
      after = shortened_after false after;
      division = ap (shortened_after false) s ∙ shortened-sign false before sign after are t;
      blank_before = shortened-blank false before are;
      signed = t;
      blank_after = shortened-blank false after d;
    })

-- It is blank only if it was before.
shortened-blanks : (was : Bool) (x : List ℕ) → is_blanks (shortened_after was x) ≡ is_blanks x
shortened-blanks was [] = refl
shortened-blanks true (c ∷ x) = elim (cases_Bool (is_blank c)) [ inl k ↦ rw k (shortened-blanks true x) | inr k ↦ rw (k, k) refl ]
shortened-blanks false (c ∷ x) = elim (cases_Bool (is_blank c)) [ inl k ↦ rw k (shortened-blanks true x) | inr k ↦ rw k refl ]

-- A fit separator for this key: a good one, and not blanks only if the key is empty.
pub record IsFitSeparator (key separator : List ℕ) : Type 0 where
  pub good : IsGoodSeparator separator
  pub signed : key ≡ [] → is_blanks separator ≡ false

-- The separator for a new pair, given what separates another pair's key from its value, is fit for the new key.
after-fit : (key between value : List ℕ) → IsBetween between value → IsFitSeparator key (separator_after key between)
after-fit key [] value h = record { good = equals-good; signed = λ q. refl }
after-fit key (c ∷ cs) value h =
    cond_both (is_empty key && is_blanks (c ∷ cs)) (equals_sign ∷ []) (shortened_after false (c ∷ cs)) (IsFitSeparator key)
    (λ k. record { good = equals-good; signed = λ q. refl })
    (λ k. record { good = shortened-good c cs value h; signed = λ q. shortened-blanks false (c ∷ cs) ∙ sym (ap (λ v. is_empty v && is_blanks (c ∷ cs)) q) ∙ k })

-- The separator of a new pair is fit for its key.
pub new_separator-fit : (groups : List (List HeldLine)) (key sep : List ℕ) → IsNewSeparator groups key sep → IsFitSeparator key sep
new_separator-fit groups key sep (inl h) = subst (IsFitSeparator key) (sym h.separator_is) (after-fit key h.is_pair.between h.value h.is_pair.is_between)
new_separator-fit groups key sep (inr h) = subst (IsFitSeparator key) (sym h.1) (record { good = equals-good; signed = λ q. refl })

-- ---- the line of a new pair

-- The line is the pair of this key and value, as they are written. Everything before the value is the key followed by
-- the separator.
pub record IsNewPair (key sep value : List ℕ) : Type 0 where
  pub is_pair : IsPair (key ++ (sep ++ value)) key value
  pub front : is_pair.indent ++ (key ++ is_pair.between) ≡ key ++ sep
  pub some : is_pair.between ≢ []
  pub blanks : is_blanks is_pair.between ≡ is_blanks sep

-- A key with at least one spelling.
new-keyed : (p : Spelling) (ps : List Spelling) (sep value : List ℕ) → AreSafe (p ∷ ps) → IsGoodSeparator sep → BeginsAfter (is_blanks sep) value
    → IsNewPair (spellings_before (p ∷ ps) []) sep value
new-keyed p ps sep value k g b =
    let key = spellings_before (p ∷ ps) [] in
    let full : BeginsFull (key ++ (sep ++ value)) = grind (arith, append_assoc, safe-begins) in
    let some = separator-some sep g in
    record {
      is_pair = record {
        indent = [];
        between = sep;
        whole = refl;
        indent_blank = tt;
        not_empty = λ q. some (no-front sep value (none-right key (sep ++ value) q));
        begins_full = full.no_blank;
        no_comment = full.no_sign;
        is_key = are_safe-key (p ∷ ps) (sep ++ value) k;
        is_between = good-between sep value g b;
      };
      front = refl;
      some = some;
      blanks = refl;
    }

-- An empty key: what comes before the sign is the indentation.
new-empty : (sep value : List ℕ) → IsGoodSeparator sep → is_blanks sep ≡ false → BeginsAfter (is_blanks sep) value → IsNewPair [] sep value
new-empty sep value (inr g) s b = let m = is_blanks-from sep g.blank in absurd (cc)
new-empty sep value (inl g) s b = record {
  is_pair = record {
    indent = g.before;
    between = g.sign ∷ g.after;
    whole = ap (λ v. v ++ value) g.division ∙ append_assoc g.before (g.sign ∷ g.after) value;
    indent_blank = g.blank_before;
    not_empty = λ q. cc;
    begins_full = separator-full g.sign g.signed;
    no_comment = separator-sign g.sign g.signed;
    is_key = IsKey-nil (g.sign ∷ (g.after ++ value));
    is_between = separator [] g.sign g.after refl tt g.signed g.blank_after b.no_blank;
  };
  front = sym g.division;
  some = λ q. cc;
  blanks = rw (separator-full g.sign g.signed) (sym s);
}

-- A safely spelt key.
new-pair : (written key sep value : List ℕ) → AreSafelyPrinted written key → IsFitSeparator key sep → BeginsAfter (is_blanks sep) value
    → IsNewPair written sep value
new-pair written key sep value s f b = of-spellings s.spellings s.text s.characters s.safe
  where
    of-spellings : (ps : List Spelling) → written ≡ spellings_before ps [] → map spelling_character ps ≡ key → AreSafe ps → IsNewPair written sep value
    of-spellings [] t m k = subst (λ v. IsNewPair v sep value) (sym t) (new-empty sep value f.good (f.signed (sym m)) b)
    of-spellings (p ∷ ps) t m k = subst (λ v. IsNewPair v sep value) (sym t) (new-keyed p ps sep value k f.good b)

-- ---- the group of a new pair

-- the bytes of a new pair, at the front of a body or not, without a line ending
abbrev pub added_bytes : Repertoire → Bool → List ℕ → List ℕ → List ℕ → List ℕ
added_bytes r first key sep value = encoded_text r.encoding (printed_key r first key ++ (sep ++ printed_value r (is_blanks sep) value))

-- the line of these bytes
abbrev pub added_line : Repertoire → Bool → List ℕ → List ℕ → List ℕ → LineEnding → HeldLine
added_line r first key sep value by =
    record { bytes = added_bytes r first key sep value; text = decoded_line r.encoding (added_bytes r first key sep value); ending = Some by }

-- What holds for that group.
pub record IsAddedPair (r : Repertoire) (first : Bool) (key sep value : List ℕ) (by : LineEnding) : Type 0 where
  pub plain : HoldsNoLineEnding (added_bytes r first key sep value)
  pub some : added_bytes r first key sep value ≢ []
  pub whole : IsWhole (as_lines (added_line r first key sep value by ∷ []))
  pub has_pair : HoldsPair key value (added_line r first key sep value by ∷ [])
  pub between : List ℕ
  pub is_front : IsFrontOf r.encoding (added_line r first key sep value by ∷ []) between (encoded_text r.encoding (printed_key r first key ++ sep))
  pub between_some : between ≢ []
  pub blanks : is_blanks between ≡ is_blanks sep

-- A text that isn't empty has bytes.
pub text-some : (e : Encoding) (x : List ℕ) → is_editable e ≡ true → AreWritable e x → x ≢ [] → encoded_text e x ≢ []
text-some e x ok w h q = h (sym (text-own e x ok w) ∙ ap (decoded_line e) q ∙ decoded-nil e)

-- The group of a new pair has these properties.
pub added-pair : (r : Repertoire) (first : Bool) (key sep value : List ℕ) (by : LineEnding) → is_editable r.encoding ≡ true → All scalar key → All scalar value
    → IsFitSeparator key sep → IsAddedPair r first key sep value by
added-pair r first key sep value by ok k v f =
    let written = printed_key r first key in
    let va = printed_value r (is_blanks sep) value in
    let keys = recursion_from_All scalar key k in
    let all = recursion_from_All scalar value v in
    let printed_character = key-printed r first key keys in
    let loose = value-loose r (is_blanks sep) value all in
    let n = new-pair written key sep va printed_character f (value-begins r (is_blanks sep) value all) in
    let key_writable : AreWritable r.encoding written = record { scalars = key-scalars r first key keys; encodable = printed_key-encodable r first key } in
    let sep_writable = ascii-writable r.encoding sep (good_separator-ascii sep f.good) in
    let value_written = value-writable r (is_blanks sep) value all in
    let front_writable = writable-append r.encoding written sep key_writable sep_writable in
    let writable = writable-append r.encoding written (sep ++ va) key_writable (writable-append r.encoding sep va sep_writable value_written) in
    let decoded : decoded_line r.encoding (added_bytes r first key sep value) ≡ written ++ (sep ++ va) = grind (arith, text-own) in
    let quiet = separator-quiet sep f.good in
    let sep_some = separator-some sep f.good in
    let closed : is_open (written ++ (sep ++ va)) ≡ false = closed-after written sep va quiet.slashes sep_some (loosely-closed [] va value loose refl) in
    let closed_front : is_open (written ++ sep) ≡ false =
    ap (λ x. is_open (written ++ x)) (sym (append-nil sep)) ∙ closed-after written sep [] quiet.slashes sep_some refl in
    let plain_text : HoldsNoLineEnding (written ++ (sep ++ va)) = search (rules, plain-append, printed-plain, loosely-plain) in
    let line : HeldLine = record { bytes = added_bytes r first key sep value; text = written ++ (sep ++ va); ending = Some by } in
    let same : line ≡ added_line r first key sep value by =
    ap (λ x. let l : HeldLine = record { bytes = added_bytes r first key sep value; text = x; ending = Some by } in l) (sym decoded) in
    let joined_is : joined (as_lines (added_line r first key sep value by ∷ [])) ≡ written ++ (sep ++ va) = search (rules, joined-closed) in
    let p = pair-moved (written ++ (sep ++ va)) (joined (as_lines (added_line r first key sep value by ∷ []))) written va joined_is n.is_pair in
    record {
      plain = plain-bytes r.encoding (added_bytes r first key sep value) ok (subst HoldsNoLineEnding (sym decoded) plain_text);
      some = text-some r.encoding (written ++ (sep ++ va)) ok writable (λ q. sep_some (no-front sep va (none-right written (sep ++ va) q)));
      whole = subst (λ x. IsWhole (as_lines (x ∷ []))) same (alone-whole (record { number = 0; text = written ++ (sep ++ va) }) (inr closed));
      has_pair = record {
        raw_key = written;
        raw_value = va;
        split = p.is_pair;
        key_means = rw (printed-means written key printed_character) at (meaning_of-meets written);
        value_means = rw (loose-means va value loose) at (meaning_of-meets va);
      };
      between = n.is_pair.between;
      is_front = record {
        kept = [];
        line = added_line r first key sep value by;
        more = [];
        division = refl;
        head = encoded_text r.encoding (written ++ sep);
        tail = encoded_text r.encoding va;
        head_text = written ++ sep;
        tail_text = va;
        cut = ap (encoded_text r.encoding) (sym (append_assoc written sep va)) ∙ encoded_text-append r.encoding (written ++ sep) va;
        cut_text = decoded ∙ sym (append_assoc written sep va);
        is_head = subst (IsDecodedLine r.encoding _) (text-own r.encoding (written ++ sep) ok front_writable) (decoded_line-meets r.encoding _);
        is_tail = subst (IsDecodedLine r.encoding _) (text-own r.encoding va ok value_written) (decoded_line-meets r.encoding _);
        not_blank = λ b. pair-some (written ++ (sep ++ va)) written va n.is_pair (subst AreBlanks (sym n.front) b);
        closed = closed_front;
        key = written;
        value = va;
        is_pair = p.is_pair;
        is_between = sym p.between_is;
        up_to =
            joined-closed (record { number = 0; text = written ++ sep }) closed_front
            ∙ sym n.front
            ∙ ap (λ x. x ++ (written ++ n.is_pair.between)) (sym p.indent_is);
        bytes = refl;
      };
      between_some = n.some;
      blanks = n.blanks;
    }

-- A new pair after a front, with the same text between key and value.
pub added-text : (r : Repertoire) (between sep value : List ℕ) → between ≢ [] → is_blanks between ≡ is_blanks sep
    → value_text r between value ≡ printed_value r (is_blanks sep) value
added-text r between sep value h1 h2 = grind (arith)
