-- What is printed for a value that is set in place: runs of characters that need no escape, and by turns one that may.
use Rattle.std.proofs.Common.{◌≡◌, ◌≢◌, ℕ, suc, ◌-◌, ◌<◌, ◌≤◌, ◌==◌, ◌&&◌, ◌||◌, Bool, true, false, not, nat_lt, if◌then◌else◌, List, [], ◌∷◌, ◌++◌, length, take, get_or, refl, ap, sym, ◌∙◌, subst, inl, inr, append_assoc, append-nil, arith, le-ltb, eqb-true, ne_eqb}
use Rattle.std.specs.Prelude.{Some, None}
use Rattle.std.specs.List.{All}
use Rattle.std.specs.Str.{chars}
use Rattle.std.proofs.lemmas.Str.{chars-nil}
use Rattle.std.proofs.lemmas.Bool.{cases_Bool, cond-true, cond-false, and_right, and_parts, and_from, or_parts, or_left, or_right, false_from_ne_true}
use Rattle.std.proofs.lemmas.Bool.Decides.{nat_tests}
use Rattle.std.proofs.lemmas.List.{get_or-take, length-take}
use Rattle.std.proofs.lemmas.List.Elements.{All-head, All-tail, All-nil, All-cons, All-from_get_or}
use Rattle.memchr.specs.Find.{IsFirstByte}
use Rattle.byte_blocks.specs.Classes.{is_control, is_non_ascii}
use Rattle.properties_format.specs.Text.{space, backslash, is_separator, is_comment_sign, is_empty}
use Rattle.properties_format.specs.Encoding.{Repertoire}
use Rattle.properties_format.specs.Printing.{literal, in_key_or_value, is_special, has_letter, unicode_escape, printed_character, encoded_text, is_free, printed_inside, printed_first, printed_last, printed_rest, printed_value}
use Rattle.properties_format.specs.Writing.{HoldsNoBackslash}
use Rattle.properties_format.proofs.Printing.Characters.{encoded_text-append, encoded_text-ascii, unicode_escape-ascii, free-plain}
use Rattle.properties_format.proofs.ReadBack.Comments.{literal-ascii}
use Rattle.properties_text.specs.declared.print.Repertoire as code
use Rattle.properties_text.specs.Printing.{in_format, inside_bytes, is_first_escaped, last_run}
use Rattle.properties_text.specs.Escaping.{text_in, IsWell}
use Rattle.properties_text.specs.declared.encoding.line_encoding.LineEncoding.{LineEncoding}
use Rattle.properties_text.proofs.Printing.Bytes.{ascii-printed}
use Rattle.properties_text.proofs.SpeltTexts.First.{ascii-first}
use Rattle.properties_format.proofs.Valued.Fronts.{right-some}

-- A text without bytes has no characters.
pub none-left : (x : List ℕ) → (length x == 0) ≡ true → chars x ≡ []
none-left [] h = chars-nil
none-left (b ∷ x) h = absurd (grind (arith, nat_tests))

-- ---- a character inside

-- One that a value may have unescaped is printed as it is, also at its end if it isn't a space.
pub inside-free : (r : code.Repertoire) (is_last : Bool) (c : ℕ) → (is_last && c == space) ≡ false → is_free c ≡ true
    → inside_bytes r is_last c ≡ encoded_text (in_format r).encoding (literal (in_format r) c)
inside-free r false c inside free = rw (free, literal-ascii (in_format r) c (free-plain c free).2) refl
inside-free r true c inside free =
    let m = in_format r in
    ap (encoded_text m.encoding) (cond-false (c == space) _ (printed_inside m c) inside ∙ cond-true (is_free c) (c ∷ []) _ free ∙ sym (literal-ascii m c (free-plain c free).2))

-- ---- what stops a run

abbrev pub stops : ℕ → Bool
stops b = is_non_ascii b || (is_control b || b == 0x5c)

-- Any other byte is an ASCII character that is printed as it is.
record IsPlain (b : ℕ) : Type 0 where
  pub ascii : b < 0x80
  pub printable : 0x20 ≤ b
  pub other : (b == backslash) ≡ false

plain : (b : ℕ) → stops b ≡ false → IsPlain b
plain b h =
    let p = or_parts (is_non_ascii b) (is_control b || b == 0x5c) h in
    let q = or_parts (is_control b) (b == 0x5c) p.1 in
    record { ascii = grind (arith, nat_tests, p.0); printable = grind (arith, nat_tests, q.0); other = q.1 }

longer-run : (b c : ℕ) (bs : List ℕ) → last_run (b ∷ c ∷ bs) ≡ b ∷ last_run (c ∷ bs)
longer-run b c bs =
    let n : length (c ∷ bs) - 1 ≡ length bs = omega arith in
    let m : length (b ∷ c ∷ bs) - 1 ≡ suc (length bs) = omega arith in
    rw (m, n) (elim (cases_Bool (get_or (c ∷ bs) (length bs) 0 == space)) [ inl s ↦ rw s refl | inr s ↦ rw s refl ])

module _ (r : Repertoire) where
  plain-inside : (b : ℕ) → IsPlain b → encoded_text r.encoding (printed_inside r b) ≡ b ∷ []
  plain-inside b p = elim (cases_Bool (is_free b)) [
    | inl f ↦ ap (encoded_text r.encoding) (cond-true (is_free b) _ _ f) ∙ encoded_text-ascii r.encoding (b ∷ []) (p.ascii, tt)
    | inr f ↦
        let special : is_special b ≡ false = rw (p.other, f) refl in
        let letter : has_letter b ≡ false = rw (
          ne_eqb b 0x09 (omega (arith, p.printable)),
          ne_eqb b 0x0a (omega (arith, p.printable)),
          ne_eqb b 0x0c
              (omega (arith, p.printable)),
          ne_eqb b 0x0d (omega (arith, p.printable)),
        ) refl in
        ap (encoded_text r.encoding) (cond-false (is_free b) (b ∷ []) (printed_character r in_key_or_value b) f)
        ∙ ascii-printed r b p.ascii
        ∙ cond-false (is_special b) _ _ special
        ∙ cond-false (has_letter b) _ _ letter
        ∙ cond-false (nat_lt b space) _ _ (le-ltb b space p.printable)
  ]

  -- All but the last character are printed as inside a value.
  more-after : (c : ℕ) (cs : List ℕ) → cs ≢ [] → printed_rest r (c ∷ cs) ≡ printed_inside r c ++ printed_rest r cs
  more-after c [] some = absurd (some refl)
  more-after c (d ∷ cs) some = refl

  -- A run before other characters is printed as it is.
  pub run-before : (xs cs : List ℕ) → All (λ b. stops b ≡ false) xs → cs ≢ []
      → encoded_text r.encoding (printed_rest r (xs ++ cs)) ≡ xs ++ encoded_text r.encoding (printed_rest r cs)
  run-before [] cs all some = refl
  run-before (x ∷ xs) cs all some =
      ap (encoded_text r.encoding) (more-after x (xs ++ cs) (right-some xs cs some))
      ∙ encoded_text-append r.encoding (printed_inside r x) (printed_rest r (xs ++ cs))
      ∙ ap (λ v. v ++ encoded_text r.encoding (printed_rest r (xs ++ cs))) (plain-inside x (plain x (All-head (λ b. stops b ≡ false) x xs all)))
      ∙ ap (λ v. x ∷ v) (run-before xs cs (All-tail (λ b. stops b ≡ false) x xs all) some)

  -- A character is printed as inside a value, or as at its end.
  pub one-before : (c : ℕ) (cs : List ℕ) → encoded_text r.encoding (printed_rest r (c ∷ cs))
      ≡ encoded_text r.encoding (if is_empty cs then printed_last r c else printed_inside r c) ++ encoded_text r.encoding (printed_rest r cs)
  one-before c [] = sym (append-nil (encoded_text r.encoding (printed_last r c)))
  one-before c (d ∷ cs) = encoded_text-append r.encoding (printed_inside r c) (printed_rest r (d ∷ cs))

  -- A run at the end.
  pub run-last : (bs : List ℕ) → All (λ b. stops b ≡ false) bs → encoded_text r.encoding (printed_rest r bs) ≡ last_run bs
  run-last [] all = refl
  run-last (b ∷ []) all = elim (cases_Bool (b == space)) [
    | inl s ↦ rw s (encoded_text-ascii r.encoding (unicode_escape space) (unicode_escape-ascii space))
    | inr s ↦
        ap (encoded_text r.encoding) (cond-false (b == space) _ (printed_inside r b) s)
        ∙ plain-inside b (plain b (All-head (λ b. stops b ≡ false) b [] all))
        ∙ sym (cond-false (b == space) _ (b ∷ []) s)
  ]
  run-last (b ∷ c ∷ bs) all =
      run-before (b ∷ []) (c ∷ bs) (All-cons (λ b. stops b ≡ false) b [] (All-head (λ b. stops b ≡ false) b (c ∷ bs) all) (All-nil (λ b. stops b ≡ false)))
      (λ none. cc none)
      ∙ ap (λ v. b ∷ v) (run-last (c ∷ bs) (All-tail (λ b. stops b ≡ false) b (c ∷ bs) all))
      ∙ sym (longer-run b c bs)

  -- ---- the first character

  -- It gets no backslash.
  pub first-plain : (after_blanks : Bool) (c : ℕ) (cs : List ℕ) → is_first_escaped after_blanks c (is_empty cs) ≡ false
      → printed_value r after_blanks (c ∷ cs) ≡ printed_rest r (c ∷ cs)
  first-plain after_blanks c cs h = elim (cases_Bool (c == space)) [
    | inl s ↦ alone cs (sym (cond-true (c == space) _ (after_blanks && is_separator c) s) ∙ h) s
    | inr s ↦ other cs (sym (cond-false (c == space) (not (is_empty cs)) _ s) ∙ h) s
  ]
    where
      alone : (cs : List ℕ) → not (is_empty cs) ≡ false → (c == space) ≡ true → printed_value r after_blanks (c ∷ cs) ≡ printed_rest r (c ∷ cs)
      alone [] h s = rw s refl
      alone (d ∷ cs) h s = absurd (cc)

      other : (cs : List ℕ) → (after_blanks && is_separator c) ≡ false → (c == space) ≡ false → printed_value r after_blanks (c ∷ cs) ≡ printed_rest r (c ∷ cs)
      other [] h s = rw (s, h) (append-nil _)
      other (d ∷ cs) h s = rw (s, h) refl

  -- It does.
  pub first-escaped : (after_blanks : Bool) (c : ℕ) (cs : List ℕ) → is_first_escaped after_blanks c (is_empty cs) ≡ true
      → encoded_text r.encoding (printed_value r after_blanks (c ∷ cs))
      ≡ encoded_text r.encoding (printed_character r in_key_or_value c) ++ encoded_text r.encoding (printed_rest r cs)
  first-escaped after_blanks c cs h = elim (cases_Bool (c == space)) [
    | inl s ↦ blank cs (sym (cond-true (c == space) _ (after_blanks && is_separator c) s) ∙ h) s
    | inr s ↦
        let both = and_parts after_blanks (is_separator c) (sym (cond-false (c == space) (not (is_empty cs)) _ s) ∙ h) in
        put cs (and_right (is_empty cs) (c == space) s) (or_right (c == space) (after_blanks && is_separator c)
        (and_from after_blanks (is_separator c) both.0 both.1))
        (or_right (c == backslash) (is_free c) (or_right (c == space) (is_separator c || is_comment_sign c)
        (or_left (is_separator c) (is_comment_sign c) both.1)))
  ]
    where
      put : (cs : List ℕ) → (is_empty cs && c == space) ≡ false → (c == space || (after_blanks && is_separator c)) ≡ true → is_special c ≡ true
          → encoded_text r.encoding (printed_value r after_blanks (c ∷ cs))
          ≡ encoded_text r.encoding (printed_character r in_key_or_value c) ++ encoded_text r.encoding (printed_rest r cs)
      put cs more first special =
          ap (encoded_text r.encoding) (cond-false (is_empty cs && c == space) _ (printed_first r after_blanks c ++ printed_rest r cs) more)
          ∙ encoded_text-append r.encoding (printed_first r after_blanks c) (printed_rest r cs)
          ∙ ap (λ v. encoded_text r.encoding v ++ encoded_text r.encoding (printed_rest r cs)) (cond-true _ (backslash ∷ c ∷ []) _ first
          ∙ sym (cond-true (is_special c) _ _ special))

      blank : (cs : List ℕ) → not (is_empty cs) ≡ true → (c == space) ≡ true → encoded_text r.encoding (printed_value r after_blanks (c ∷ cs))
          ≡ encoded_text r.encoding (printed_character r in_key_or_value c) ++ encoded_text r.encoding (printed_rest r cs)
      blank [] h s = absurd (cc)
      blank (d ∷ cs) h s = put (d ∷ cs) refl (rw s refl) (ap is_special (eqb-true c space s))

  -- The whole value, after a first character with a backslash.
  pub after-first : (after_blanks : Bool) (before more new : List ℕ) (c : ℕ) (cs : List ℕ) → is_first_escaped after_blanks c (is_empty cs) ≡ true
      → more ≡ before ++ encoded_text r.encoding (printed_character r in_key_or_value c) → new ≡ more ++ encoded_text r.encoding (printed_rest r cs)
      → new ≡ before ++ encoded_text r.encoding (printed_value r after_blanks (c ∷ cs))
  after-first after_blanks before more new c cs h first rest =
      let character = encoded_text r.encoding (printed_character r in_key_or_value c) in
      rest
      ∙ ap (λ v. v ++ encoded_text r.encoding (printed_rest r cs)) first
      ∙ append_assoc before character (encoded_text r.encoding (printed_rest r cs))
      ∙ ap (λ v. before ++ v) (sym (first-escaped after_blanks c cs h))

-- ---- a run

-- A run, and what comes after it.
pub ascii-run : (e : LineEncoding) (xs ys : List ℕ) → All (λ b. stops b ≡ false) xs → IsWell e (xs ++ ys)
    → (text_in e (xs ++ ys) ≡ xs ++ text_in e ys) × IsWell e ys
ascii-run e [] ys all w = (refl, w)
ascii-run e (x ∷ xs) ys all w =
    let first = ascii-first e x (xs ++ ys) (plain x (All-head (λ b. stops b ≡ false) x xs all)).ascii w in
    let more = ascii-run e xs ys (All-tail (λ b. stops b ≡ false) x xs all) first.well in
    (first.characters ∙ ap (λ v. x ∷ v) more.0, more.1)

-- It has no backslash.
pub run-no_backslash : (xs : List ℕ) → All (λ b. stops b ≡ false) xs → HoldsNoBackslash xs
run-no_backslash [] all = tt
run-no_backslash (x ∷ xs) all =
    ((plain x (All-head (λ b. stops b ≡ false) x xs all)).other, run-no_backslash xs (All-tail (λ b. stops b ≡ false) x xs all))

-- A search found where a run stops,
pub clear-before : (rest : List ℕ) (n : ℕ) → IsFirstByte stops rest (Some n) → All (λ b. stops b ≡ false) (take n rest)
clear-before rest n found = All-from_get_or (λ b. stops b ≡ false) (take n rest) 0 (λ i inside.
    let before : i < n = omega (arith, inside, length-take n rest) in
    subst (λ v. stops v ≡ false) (sym (get_or-take n rest i 0 before)) (false_from_ne_true (stops (get_or rest i 0)) (found.0.before i (omega arith) before)))

-- or that none does.
pub clear-all : (rest : List ℕ) → IsFirstByte stops rest None → All (λ b. stops b ≡ false) rest
clear-all rest none = All-from_get_or (λ b. stops b ≡ false) rest 0 (λ i inside. false_from_ne_true (stops (get_or rest i 0)) (none i (omega arith) inside))
