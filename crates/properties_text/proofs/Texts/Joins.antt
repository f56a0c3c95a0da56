-- What determines how lines are joined is the same in bytes and in characters.
use Rattle.std.proofs.Common.{◌≡◌, ℕ, ◌≤◌, ◌-◌, ◌==◌, true, List, [], ◌∷◌, ◌++◌, length, take, get_or, refl, ap, sym, ◌∙◌, subst, inl, inr, length-append, arith}
use Rattle.std.specs.Prelude.{◌%◌}
use Rattle.std.proofs.lemmas.Grind.{common_steps}
use lib.Utf8.{encode, encodes, scalars}
use Rattle.std.specs.Str.{IsUtf8, IsCharBoundary, chars}
use Rattle.std.proofs.lemmas.Str.{encodes-chars, encodes-append, IsCharBoundary-from_take}
use Rattle.std.proofs.lemmas.Bool.{cases_Bool}
use Rattle.properties_format.specs.Text.{backslash, without_leading_blanks, begins, is_comment_sign}
use Rattle.properties_format.specs.Lines.{is_open, is_comment_line, without_last, without_open_backslash}
use Rattle.properties_format.proofs.Groups.Open.{open-ends, without_last-push}
use Rattle.properties_text.proofs.Texts.Characters.{one, wide, encoded, wide-no_comment_sign, scalars-parts, IsPart, part_by}
use Rattle.properties_text.proofs.Texts.Backslashes.{ending_backslashes-encodes, ending_backslashes-text}
use Rattle.properties_text.proofs.Texts.Split.{without_leading_blanks-part}

-- ---- comment lines

-- A comment sign comes first in bytes exactly if it does in characters.
comment_line-encodes : (cs : List ℕ) → begins is_comment_sign (encodes cs) ≡ begins is_comment_sign cs
comment_line-encodes [] = refl
comment_line-encodes (c ∷ cs) = elim (encoded c) [
  | one s e ↦ rw e refl
  | wide l b bs e k w m ↦ rw (e, wide-no_comment_sign b k, wide-no_comment_sign c l) refl
]

-- A comment line is one in bytes exactly if it is one in characters.
pub is_comment_line-text : (bs : List ℕ) → IsUtf8 bs → is_comment_line (chars bs) ≡ is_comment_line bs
is_comment_line-text bs u =
    let p = without_leading_blanks-part bs u in
    rw (← comment_line-encodes (without_leading_blanks (chars bs)), ← p.same, encodes-chars (without_leading_blanks bs) p.utf8) refl

-- ---- open backslashes

-- A text is open in bytes exactly if it is open in characters.
is_open-encodes : (cs : List ℕ) → is_open (encodes cs) ≡ is_open cs
is_open-encodes cs = ap (λ n. n % 2 == 1) (ending_backslashes-encodes cs)

-- An open text is cut in the same place in bytes and in characters.
without_open_backslash-encodes : (cs : List ℕ) → without_open_backslash (encodes cs) ≡ encodes (without_open_backslash cs)
unfolding encode
without_open_backslash-encodes cs = elim (cases_Bool (is_open cs)) [
  | inl k ↦
      let bytes : encodes cs ≡ encodes (without_last cs) ++ backslash ∷ [] =
      ap encodes (open-ends cs k) ∙ encodes-append (without_last cs) (backslash ∷ []) in
      rw (is_open-encodes cs, k) (ap without_last bytes ∙ without_last-push (encodes (without_last cs)) backslash)
  | inr k ↦ rw (is_open-encodes cs, k) refl
]

without_open_backslash-scalars : (cs : List ℕ) → scalars cs ≡ true → scalars (without_open_backslash cs) ≡ true
without_open_backslash-scalars cs h = elim (cases_Bool (is_open cs)) [
  | inl k ↦ rw k ((scalars-parts (without_last cs) (backslash ∷ []) (rw (open-ends cs k) at h)).0)
  | inr k ↦ rw k h
]

pub without_open_backslash-part : (bs : List ℕ) → IsUtf8 bs → IsPart without_open_backslash bs
without_open_backslash-part = part_by without_open_backslash without_open_backslash-encodes without_open_backslash-scalars

-- An open text may be cut before its last byte, which removes its open backslash.
pub record IsCutOpen (bs : List ℕ) : Type 0 where
  pub some : 1 ≤ length bs
  pub last : get_or bs (length bs - 1) 0 ≡ backslash
  pub boundary : IsCharBoundary bs (length bs - 1)
  pub rest : chars (take (length bs - 1) bs) ≡ without_open_backslash (chars bs)

pub cut_open : (bs : List ℕ) → IsUtf8 bs → is_open (chars bs) ≡ true → IsCutOpen bs
cut_open bs u h =
    let open_bytes : is_open bs ≡ true = ap (λ n. n % 2 == 1) (sym (ending_backslashes-text bs u)) ∙ h in
    let whole = open-ends bs open_bytes in
    let size : length (without_last bs) ≡ length bs - 1 = omega (arith, ap length whole, length-append (without_last bs) (backslash ∷ [])) in
    let front : take (length bs - 1) bs ≡ without_open_backslash bs =
    rw open_bytes (grind (arith, common_steps, ap (take (length bs - 1)) whole)) in
    let part = without_open_backslash-part bs u in
    record {
      some = omega (arith, ap length whole, length-append (without_last bs) (backslash ∷ []));
      last = grind (arith, common_steps, ap (λ v. get_or v (length bs - 1) 0) whole);
      boundary = IsCharBoundary-from_take bs (length bs - 1) u (omega arith) (subst IsUtf8 (sym front) part.utf8);
      rest = ap chars front ∙ part.same;
    }
