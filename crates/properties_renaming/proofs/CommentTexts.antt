-- The text of a comment line.
use Rattle.std.proofs.Common.{◌≡◌, ◌≢◌, ℕ, ◌+◌, ◌-◌, ◌<◌, ◌≤◌, true, false, List, [], ◌∷◌, ◌++◌, length, drop, suc, refl, ap, sym, ◌∙◌, subst, inl, inr, length-drop, arith}
use Rattle.std.specs.Prelude.{get_or}
use Rattle.std.specs.Str.{IsUtf8, chars, IsCharBoundary}
use Rattle.std.proofs.lemmas.Bool.{cases_Bool}
use Rattle.std.proofs.lemmas.List.{drop-drop, get_or-drop}
use Rattle.std.proofs.lemmas.Str.{IsCharBoundary-from_drop}
use Rattle.properties_format.specs.Text.{is_blank, is_comment_sign, begins, without_leading_blanks}
use Rattle.properties_format.specs.Lines.{is_comment_line}
use Rattle.properties_format.specs.Split.{AreBlanks}
use Rattle.properties_format.proofs.Split.Blanks.{without_leading_blanks-meets}
use Rattle.properties_text.proofs.Texts.Characters.{first_ascii}
use Rattle.properties_text.proofs.Texts.Joins.{is_comment_line-text}
use Rattle.properties_text.proofs.Texts.Split.{without_leading_blanks-part}
use Rattle.properties_renaming.specs.CommentLines.{IsCommentLine}
use Rattle.properties_format.specs.Separators.{sign_of}
use Rattle.properties_renaming.specs.Private.CommentTexts.{without_first_blank}

-- What a text is without the blank that it begins with.
full-first : (y : List ℕ) → begins is_blank y ≡ false → y ≡ without_first_blank y
full-first [] h = refl
full-first (c ∷ cs) h = rw h refl

pub none-first : (x : List ℕ) (n : ℕ) → IsUtf8 x → n ≡ 0 → drop n x ≡ without_leading_blanks x → chars x ≡ without_first_blank (chars x)
none-first x n u nothing rest =
    let full : x ≡ without_leading_blanks x = ap (λ k. drop k x) (sym nothing) ∙ rest in
    let same : chars x ≡ without_leading_blanks (chars x) = ap chars full ∙ (without_leading_blanks-part x u).same in
    full-first (chars x) (subst (λ y. begins is_blank y ≡ false) (sym same) (without_leading_blanks-meets (chars x)).begins_full)

-- Whether a text begins with a blank.
pub text-full : (x : List ℕ) (n : ℕ) → IsUtf8 x → n ≡ 0 → drop n x ≡ without_leading_blanks x → begins is_blank (chars x) ≡ false
text-full x n u nothing rest =
    let full : x ≡ without_leading_blanks x = ap (λ k. drop k x) (sym nothing) ∙ rest in
    let same : chars x ≡ without_leading_blanks (chars x) = ap chars full ∙ (without_leading_blanks-part x u).same in
    ap (begins is_blank) same ∙ (without_leading_blanks-meets (chars x)).begins_full

pub text-blank : (x : List ℕ) (n : ℕ) → IsUtf8 x → n ≢ 0 → n ≤ length x → drop n x ≡ without_leading_blanks x → begins is_blank (chars x) ≡ true
text-blank [] n u some within rest = absurd (some (omega arith))
text-blank (c ∷ cs) n u some within rest = elim (cases_Bool (is_blank c)) [
  | inl b ↦ let small : c < 128 = grind (arith) in ap (begins is_blank) (first_ascii c cs small u).characters ∙ b
  | inr b ↦
      let same : drop n (c ∷ cs) ≡ c ∷ cs = rw b at rest in
      let size = ap length same in
      let less = length-drop n (c ∷ cs) in
      absurd (some (omega arith))
]

-- The first blank is a character by itself.
pub record IsFirstBlank (x : List ℕ) : Type 0 where
  pub whole : IsCharBoundary x 1
  pub rest : chars (drop 1 x) ≡ without_first_blank (chars x)

pub some-first : (x : List ℕ) (n : ℕ) → IsUtf8 x → n ≢ 0 → n ≤ length x → drop n x ≡ without_leading_blanks x → IsFirstBlank x
some-first [] n u some within rest = absurd (some (omega arith))
some-first (c ∷ cs) n u some within rest = elim (cases_Bool (is_blank c)) [
  | inl b ↦
      let small : c < 128 = grind (arith) in
      let first = first_ascii c cs small u in
      let text : without_first_blank (c ∷ chars cs) ≡ chars cs = rw b refl in
      record {
        whole = IsCharBoundary-from_drop (c ∷ cs) 1 (omega arith) first.utf8;
        rest = sym (ap without_first_blank first.characters ∙ text);
      }
  | inr b ↦
      let same : drop n (c ∷ cs) ≡ c ∷ cs = rw b at rest in
      let size = ap length same in
      let less = length-drop n (c ∷ cs) in
      absurd (some (omega arith))
]

-- The sign is a character by itself, and what follows it and one blank is the text.
pub record HasSignAt (x : List ℕ) (sign : ℕ) : Type 0 where
  pub whole : IsCharBoundary x (sign + 1)
  pub text : IsCommentLine (chars x) (without_first_blank (chars (drop (sign + 1) x)))
  pub within : sign < length x
  pub same : get_or x sign 0 ≡ sign_of (chars x)

is-line : (x indent y : List ℕ) (sign : ℕ) → x ≡ indent ++ (sign ∷ y) → AreBlanks indent → is_comment_sign sign ≡ true → IsCommentLine x (without_first_blank y)
is-line x indent [] sign whole blank is = record {
  indent = indent;
  sign = sign;
  blank = [];
  whole = whole;
  indent_blank = blank;
  is_sign = is;
  one_blank = inl (refl, refl);
}
is-line x indent (c ∷ cs) sign whole blank is = elim (cases_Bool (is_blank c)) [
  | inl b ↦ rw b (record {
    indent = indent;
    sign = sign;
    blank = c ∷ [];
    whole = whole;
    indent_blank = blank;
    is_sign = is;
    one_blank = inr (c, b, refl);
  })
  | inr b ↦ rw b (record {
    indent = indent;
    sign = sign;
    blank = [];
    whole = whole;
    indent_blank = blank;
    is_sign = is;
    one_blank = inl (refl, b);
  })
]

sign-first : (y : List ℕ) → begins is_comment_sign y ≡ true → (d : ℕ) × (rest : List ℕ) × (y ≡ d ∷ rest) × (is_comment_sign d ≡ true)
sign-first [] h = absurd (cc)
sign-first (d ∷ rest) h = (d, rest, refl, h)

pub comment-text : (x : List ℕ) (sign : ℕ) → IsUtf8 x → is_comment_line (chars x) ≡ true → sign ≤ length x → drop sign x ≡ without_leading_blanks x → HasSignAt x sign
comment-text x sign u line within at =
    let f = sign-first (without_leading_blanks x) (sym (is_comment_line-text x u) ∙ line) in
    let d = f.0 in
    let rest = f.1 in
    let y = f.2 in
    let small : d < 128 = (let k = f.3 in grind (arith)) in
    let blanks = without_leading_blanks-part x u in
    let first = first_ascii d rest small (subst IsUtf8 y blanks.utf8) in
    let after : drop (sign + 1) x ≡ rest = sym (drop-drop 1 sign x) ∙ ap (drop 1) (at ∙ y) in
    let some : length (drop sign x) ≡ length x - sign = length-drop sign x in
    let sizes : length (drop sign x) ≡ suc (length rest) = ap length (at ∙ y) in
    let past = without_leading_blanks-meets (chars x) in
    let whole : chars x ≡ past.before ++ (d ∷ chars rest) = past.whole ∙ ap (λ v. past.before ++ v) (sym blanks.same ∙ ap chars y ∙ first.characters) in
    let zero : sign ≡ sign + 0 = omega arith in
    let read : get_or x sign 0 ≡ d = ap (λ i. get_or x i 0) zero ∙ sym (get_or-drop sign x 0 0) ∙ ap (λ w. get_or w 0 0) (at ∙ y) in
    record {
      whole = IsCharBoundary-from_drop x (sign + 1) (omega arith) (subst IsUtf8 (sym after) first.utf8);
      text = subst (λ v. IsCommentLine (chars x) (without_first_blank (chars v))) (sym after) (is-line (chars x) past.before (chars rest) d whole past.before_blank f.3);
      within = omega arith;
      same = read ∙ sym (ap (λ w. get_or w 0 0) (sym blanks.same ∙ ap chars y ∙ first.characters));
    }
