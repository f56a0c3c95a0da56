use lib.Utf8.{encode, encodes}
use Rattle.std.proofs.Common.{◌≡◌, ℕ, ◌<◌, true, false, Bool, List, [], ◌∷◌, ◌++◌, length, drop, take, suc, refl, ap, sym, ◌∙◌, subst, inl, inr, arith}
use Rattle.std.specs.Prelude.{◌==◌}
use Rattle.std.specs.Cmp.Lexicographic.{pointwise}
use Rattle.std.specs.Str.{IsUtf8, chars, IsCharBoundary}
use Rattle.std.proofs.lemmas.Bool.{cases_Bool}
use Rattle.std.proofs.lemmas.Bool.Decides.{Decides-eqb, nat_tests}
use Rattle.std.proofs.lemmas.Slice.Eq.{starts_is}
use Rattle.std.proofs.lemmas.Str.{IsCharBoundary-from_drop, encodes-chars}
use Rattle.properties_format.specs.Text.{is_blanks, is_comment_sign}
use Rattle.properties_format.proofs.Encodings.Utf8Characters.{encode-one}
use Rattle.properties_format.proofs.Split.Unique.{sign-full}
use Rattle.properties_text.proofs.Texts.Characters.{first_ascii}
use Rattle.properties_format.specs.Separators.{has_shape, sign_of}
use Rattle.properties_renaming.proofs.separators.has_shape.Goals as goal

-- A line that begins so has the shape if blanks follow.
record IsMarked (x : List ℕ) : Type 0 where
  whole : IsCharBoundary x 4
  shape : is_blanks (chars (drop 4 x)) ≡ has_shape (chars x)

marked : (x : List ℕ) (sign : ℕ) → IsUtf8 x → is_comment_sign sign ≡ true → x ≡ (sign ∷ 45 ∷ 45 ∷ 45 ∷ []) ++ drop 4 x → IsMarked x
marked x sign u is whole =
    let rest = drop 4 x in
    let a = first_ascii sign (45 ∷ 45 ∷ 45 ∷ rest) (grind (arith)) (subst IsUtf8 whole u) in
    let b = first_ascii 45 (45 ∷ 45 ∷ rest) (omega arith) a.utf8 in
    let c = first_ascii 45 (45 ∷ rest) (omega arith) b.utf8 in
    let d = first_ascii 45 rest (omega arith) c.utf8 in
    let text : chars x ≡ sign ∷ 45 ∷ 45 ∷ 45 ∷ chars rest = cc (ap chars whole) in
    let size : length x ≡ suc (suc (suc (suc (length rest)))) = ap length whole in
    record { whole = IsCharBoundary-from_drop x 4 (omega arith) d.utf8; shape = sym (ap has_shape text ∙ rw is refl) }

-- A line with the shape begins so.
shaped : (cs : List ℕ) → has_shape cs ≡ true → (rest : List ℕ) × (cs ≡ sign_of cs ∷ 45 ∷ 45 ∷ 45 ∷ rest)
shaped (s ∷ i ∷ j ∷ k ∷ rest) h =
    let a : i ≡ 45 = grind (arith, nat_tests) in
    let b : j ≡ 45 = grind (arith, nat_tests) in
    let c : k ≡ 45 = grind (arith, nat_tests) in
    (rest, rw (sign-full s (grind (arith)), a, b, c) refl)
shaped cs h = absurd (cc)

four : (sign : ℕ) (rest : List ℕ) → sign < 128 → encodes (sign ∷ 45 ∷ 45 ∷ 45 ∷ rest) ≡ sign ∷ 45 ∷ 45 ∷ 45 ∷ encodes rest
unfolding encode
four sign rest small = rw (encode-one sign small) refl

module _ (x : List ℕ) (sign : ℕ) (u : IsUtf8 x) (first : sign ≡ sign_of (chars x)) (is : is_comment_sign sign ≡ true) (r : Bool)
    (begins : r ≡ pointwise (λ a b. a == b) (sign ∷ 45 ∷ 45 ∷ 45 ∷ []) (take 4 x)) where
  begun : r ≡ true → IsMarked x
  begun k = marked x sign u is ((starts_is Decides-eqb x (sign ∷ 45 ∷ 45 ∷ 45 ∷ []) r begins).0 k)

  other : r ≡ false → false ≡ has_shape (chars x)
  other k = elim (cases_Bool (has_shape (chars x))) [
    | inl y ↦
        let s = shaped (chars x) y in
        let text : chars x ≡ sign ∷ 45 ∷ 45 ∷ 45 ∷ s.0 = rw first s.1 in
        let bytes = sym (encodes-chars x u) ∙ ap encodes text ∙ four sign s.0 (grind (arith)) in
        let same = (starts_is Decides-eqb x (sign ∷ 45 ∷ 45 ∷ 45 ∷ []) r begins).1 (encodes s.0) bytes in absurd (cc)
    | inr n ↦ sym n
  ]

pub returns-then-not-starts_with : goal.returns-then-not-starts_with
returns-then-not-starts_with c =
    other c.args.line.now c.args.sign c.utf8.line c.requires.sign c.requires.marks c.starts_with.result (rw c.as_bytes.ensures.value at c.starts_with.ensures.value)
    c.if-not-starts_with.true

pub range_from-requires : goal.range_from-requires
range_from-requires c = λ _.
    (begun c.args.line.now c.args.sign c.utf8.line c.requires.sign c.requires.marks c.starts_with.result (rw c.as_bytes.ensures.value at c.starts_with.ensures.value)
    c.if-not-starts_with.false).whole

pub returns : goal.returns
returns c =
    c.are_blanks.ensures ∙ ap (λ y. is_blanks (chars y)) c.range_from.ensures.value
    ∙ (begun c.args.line.now c.args.sign c.utf8.line c.requires.sign c.requires.marks c.starts_with.result
    (rw c.as_bytes.ensures.value at c.starts_with.ensures.value) c.if-not-starts_with.false).shape
