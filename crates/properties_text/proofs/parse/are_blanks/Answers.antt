use Rattle.std.proofs.Common.{◌≡◌, ℕ, ◌≤◌, ◌-◌, ◌==◌, List, [], ◌∷◌, length, drop, refl, inl, inr, arith}
use Rattle.std.specs.Str.{IsUtf8, chars}
use Rattle.std.proofs.lemmas.Bool.{cases_Bool}
use Rattle.std.proofs.lemmas.Bool.Decides.{nat_tests}
use Rattle.std.proofs.lemmas.List.{length-drop}
use Rattle.properties_format.specs.Text.{is_blank, is_blanks, without_leading_blanks, is_empty}
use Rattle.properties_text.proofs.Texts.Characters.{is_empty-chars}
use Rattle.properties_text.proofs.Texts.Split.{without_leading_blanks-part}
use Rattle.properties_text.proofs.parse.are_blanks.Goals as goal

blanks-empty : (xs : List ℕ) → is_blanks xs ≡ is_empty (without_leading_blanks xs)
blanks-empty [] = refl
blanks-empty (c ∷ xs) = elim (cases_Bool (is_blank c)) [
  | inl k ↦ rw k (blanks-empty xs)
  | inr k ↦ rw k refl
]

-- A text is blanks where so many lead it.
blanks-text : (x : List ℕ) (n : ℕ) → IsUtf8 x → n ≤ length x → drop n x ≡ without_leading_blanks x → (n == length x) ≡ is_blanks (chars x)
blanks-text x n u l h =
    let part = without_leading_blanks-part x u in
    let left : length (drop n x) ≡ length x - n = length-drop n x in
    let test : (n == length x) ≡ (length (drop n x) == 0) = grind (arith, nat_tests) in
    rw (blanks-empty (chars x), ← part.same, is_empty-chars (without_leading_blanks x) part.utf8, ← h) test

pub returns : goal.returns
returns c =
    let blanks = rw c.as_bytes.ensures.value at c.leading_blanks.ensures in
    blanks-text c.args.text.now c.leading_blanks.result c.utf8.text blanks.within blanks.rest
