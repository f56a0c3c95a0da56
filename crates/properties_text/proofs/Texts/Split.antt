-- A line is split in the same way in bytes and in characters.
use Rattle.std.proofs.Common.{◌≡◌, ℕ, ◌≤◌, ◌==◌, Bool, true, false, List, [], ◌∷◌, ◌++◌, refl, ap, sym, ◌∙◌, subst, inl, inr}
use lib.Utf8.{encode, encodes, scalars, scalar}
use Rattle.std.specs.Str.{IsUtf8, chars}
use Rattle.std.proofs.lemmas.Str.{chars-encodes, encodes-chars, scalars-chars}
use Rattle.std.proofs.lemmas.Bool.{cases_Bool, and_parts}
use Rattle.properties_format.specs.Text.{backslash, is_blank, is_separator, is_comment_sign, without_leading_blanks}
use Rattle.properties_format.specs.Split.{Logical, comment, IsSplit}
use Rattle.properties_format.specs.Computed.Split.{without_trailing_blanks, unless_last_blank, trimmed, KeyCut, with_front, ends_key, cut_key, past_separator, pair_of, split_full, split_of}
use Rattle.properties_format.proofs.Split.Blanks.{without_leading_blanks-meets, without_trailing_blanks-meets}
use Rattle.properties_format.proofs.Split.Keys.{with_text, cut_key-meets}
use Rattle.properties_format.proofs.Split.Unique.{split_of-meets}
use Rattle.properties_text.specs.Parsing.{in_characters}
use Rattle.properties_text.proofs.Texts.Characters.{AreWide, one, wide, encoded, wide-no_backslash, wide-no_blank, wide-no_separator, wide-no_comment_sign, wide-no_end, scalars-parts, IsPart, part_by}

-- ---- blanks at the front

without_leading_blanks-encodes : (cs : List ℕ) → without_leading_blanks (encodes cs) ≡ encodes (without_leading_blanks cs)
without_leading_blanks-encodes [] = refl
without_leading_blanks-encodes (c ∷ cs) = elim (encoded c) [
  | one s e ↦ elim (cases_Bool (is_blank c)) [ inl b ↦ rw (e, b) (without_leading_blanks-encodes cs) | inr b ↦ rw (e, b, e) refl ]
  | wide h b bs e l k m ↦ rw (e, wide-no_blank b l, wide-no_blank c h, e) refl
]

without_leading_blanks-scalars : (cs : List ℕ) → scalars cs ≡ true → scalars (without_leading_blanks cs) ≡ true
without_leading_blanks-scalars cs h =
    let r = without_leading_blanks-meets cs in
    (scalars-parts r.before (without_leading_blanks cs) (rw r.whole at h)).1

pub without_leading_blanks-part : (bs : List ℕ) → IsUtf8 bs → IsPart without_leading_blanks bs
without_leading_blanks-part = part_by without_leading_blanks without_leading_blanks-encodes without_leading_blanks-scalars

-- ---- blanks at the end

unless-wide : (c : ℕ) (y : List ℕ) → 128 ≤ c → unless_last_blank c y ≡ c ∷ y
unless-wide c [] h = rw (wide-no_blank c h) refl
unless-wide c (d ∷ y) h = refl

-- Bytes that aren't blanks stay at the front.
trailing-wide : (bs rest : List ℕ) → AreWide bs → without_trailing_blanks (bs ++ rest) ≡ bs ++ without_trailing_blanks rest
trailing-wide [] rest w = refl
trailing-wide (b ∷ bs) rest w = ap (unless_last_blank b) (trailing-wide bs rest w.1) ∙ unless-wide b (bs ++ without_trailing_blanks rest) w.0

-- Whether a character at the front of a text is a blank at its end is the same in characters and in bytes.
trailing-one : (c : ℕ) (cs : List ℕ) → encode c ≡ c ∷ [] → unless_last_blank c (encodes cs) ≡ encodes (unless_last_blank c cs)
trailing-one c [] e = elim (cases_Bool (is_blank c)) [ inl b ↦ rw b refl | inr b ↦ rw (b, e) refl ]
trailing-one c (d ∷ cs) e = elim (encoded d) [
  | one s f ↦ rw (f, e) refl
  | wide h b bs f l k m ↦ rw (f, e) refl
]

without_trailing_blanks-encodes : (cs : List ℕ) → without_trailing_blanks (encodes cs) ≡ encodes (without_trailing_blanks cs)
without_trailing_blanks-encodes [] = refl
without_trailing_blanks-encodes (c ∷ cs) = elim (encoded c) [
  | one s e ↦ rw e (ap (unless_last_blank c) (without_trailing_blanks-encodes cs) ∙ trailing-one c (without_trailing_blanks cs) e)
  | wide h b bs e l k m ↦
      let all = trailing-wide (b ∷ bs) (encodes cs) (l, k) in
      rw (e, all, without_trailing_blanks-encodes cs, unless-wide c (without_trailing_blanks cs) h, e) refl
]

pub without_trailing_blanks-part : (bs : List ℕ) → IsUtf8 bs → IsPart without_trailing_blanks bs
without_trailing_blanks-part = part_by without_trailing_blanks without_trailing_blanks-encodes (λ cs h.
    let r = without_trailing_blanks-meets cs in (scalars-parts (without_trailing_blanks cs) r.after (rw r.whole at h)).0)

-- ---- keys

-- Non-ASCII bytes, of which the first may follow a backslash, are of the key.
cut-wide : (b : ℕ) (bs rest : List ℕ) (is_escaped : Bool) → 128 ≤ b → AreWide bs → cut_key (b ∷ bs ++ rest) is_escaped ≡ with_text (b ∷ bs) (cut_key rest false)
cut-wide b [] rest true l w = refl
cut-wide b [] rest false l w = rw (wide-no_backslash b l, wide-no_end b l) refl
cut-wide b (d ∷ bs) rest true l w = ap (with_front b) (cut-wide d bs rest false w.0 w.1)
cut-wide b (d ∷ bs) rest false l w = rw (wide-no_backslash b l, wide-no_end b l) (ap (with_front b) (cut-wide d bs rest false w.0 w.1))

-- a key and its rest, in bytes
abbrev in_bytes : KeyCut → KeyCut
in_bytes cut = record { key = encodes cut.key; rest = encodes cut.rest }

cut_key-encodes : (cs : List ℕ) (is_escaped : Bool) → cut_key (encodes cs) is_escaped ≡ in_bytes (cut_key cs is_escaped)
cut_key-encodes [] is_escaped = refl
cut_key-encodes (c ∷ cs) is_escaped = elim (encoded c) [
  | one s e ↦ elim (cases_Bool is_escaped) [
    | inl t ↦ rw (t, e) (ap (with_front c) (cut_key-encodes cs false))
    | inr f ↦ elim (cases_Bool (c == backslash)) [
      | inl b ↦ rw (f, e, b, e) (ap (with_front c) (cut_key-encodes cs true))
      | inr b ↦ elim (cases_Bool (ends_key c)) [
        | inl k ↦ rw (f, e, b, k, e) refl
        | inr k ↦ rw (f, e, b, k, e) (ap (with_front c) (cut_key-encodes cs false))
      ]
    ]
  ]
  | wide h b bs e l k m ↦
      rw (e, cut-wide b bs (encodes cs) is_escaped l k, cut_key-encodes cs false, cut-wide c [] cs is_escaped h tt, e) refl
]

-- the key at the front of a text, and what follows it
abbrev pub key_of : List ℕ → List ℕ
key_of x = (cut_key x false).key

abbrev pub rest_of : List ℕ → List ℕ
rest_of x = (cut_key x false).rest

cut-scalars : (cs : List ℕ) → scalars cs ≡ true → (scalars (key_of cs) ≡ true) × (scalars (rest_of cs) ≡ true)
cut-scalars cs h = let r = cut_key-meets cs in scalars-parts (key_of cs) (rest_of cs) (rw r.whole at h)

pub key_of-part : (bs : List ℕ) → IsUtf8 bs → IsPart key_of bs
key_of-part = part_by key_of (λ cs. ap (λ k. k.key) (cut_key-encodes cs false)) (λ cs h. (cut-scalars cs h).0)

pub rest_of-part : (bs : List ℕ) → IsUtf8 bs → IsPart rest_of bs
rest_of-part = part_by rest_of (λ cs. ap (λ k. k.rest) (cut_key-encodes cs false)) (λ cs h. (cut-scalars cs h).1)

-- ---- separators

past_separator-encodes : (cs : List ℕ) → past_separator (encodes cs) ≡ encodes (past_separator cs)
past_separator-encodes [] = refl
past_separator-encodes (c ∷ cs) = elim (encoded c) [
  | one s e ↦ elim (cases_Bool (is_separator c)) [ inl t ↦ rw (e, t) (without_leading_blanks-encodes cs) | inr t ↦ rw (e, t, e) refl ]
  | wide h b bs e l k m ↦ rw (e, wide-no_separator b l, wide-no_separator c h, e) refl
]

past_separator-scalars : (cs : List ℕ) → scalars cs ≡ true → scalars (past_separator cs) ≡ true
past_separator-scalars [] h = refl
past_separator-scalars (c ∷ cs) h = elim (cases_Bool (is_separator c)) [
  | inl s ↦ rw s (without_leading_blanks-scalars cs (and_parts (scalar c) (scalars cs) h).1)
  | inr s ↦ rw s h
]

pub past_separator-part : (bs : List ℕ) → IsUtf8 bs → IsPart past_separator bs
past_separator-part = part_by past_separator past_separator-encodes past_separator-scalars

-- the value in what follows a key
abbrev pub value_of : List ℕ → List ℕ
value_of rest = past_separator (without_leading_blanks rest)

-- A part of a part is a part.
part-of : (f g : List ℕ → List ℕ) (bs : List ℕ) → ((x : List ℕ) → IsUtf8 x → IsPart f x) → IsPart g bs → IsPart (λ x. f (g x)) bs
part-of f g bs of p = let q = of (g bs) p.utf8 in record { utf8 = q.utf8; same = q.same ∙ ap f p.same }

pub value_of-part : (bs : List ℕ) → IsUtf8 bs → IsPart value_of bs
value_of-part bs u = part-of past_separator without_leading_blanks bs past_separator-part (without_leading_blanks-part bs u)

pub trimmed-part : (bs : List ℕ) → IsUtf8 bs → IsPart trimmed bs
trimmed-part bs u = part-of without_trailing_blanks without_leading_blanks bs without_trailing_blanks-part (without_leading_blanks-part bs u)

-- ---- lines

pairs-alike : (bs : List ℕ) → IsUtf8 bs → pair_of (cut_key (chars bs) false) ≡ in_characters (pair_of (cut_key bs false))
pairs-alike bs u =
    let k = key_of-part bs u in
    let r = rest_of-part bs u in
    let v = value_of-part (rest_of bs) r.utf8 in
    rw (k.same, v.same, r.same) refl

comments-alike : (cs : List ℕ) → scalars cs ≡ true → comment (trimmed cs) ≡ in_characters (comment (trimmed (encodes cs)))
comments-alike cs h = ap comment (ap trimmed (sym (chars-encodes cs h)) ∙ sym (trimmed-part (encodes cs) (cs, (h, refl))).same)

-- A text that doesn't begin with a blank.
full-alike : (cs : List ℕ) → scalars cs ≡ true → split_full cs ≡ in_characters (split_full (encodes cs))
full-alike [] h = refl
full-alike (c ∷ cs) h = elim (encoded c) [
  | one s e ↦ elim (cases_Bool (is_comment_sign c)) [
    | inl m ↦ rw (e, m) (comments-alike cs (and_parts (scalar c) (scalars cs) h).1)
    | inr m ↦ rw (e, m) (rw e at pairs)
  ]
  | wide l b bs e k w m ↦ rw (e, wide-no_comment_sign b k, wide-no_comment_sign c l) (rw e at pairs)
]
  where
    pairs : pair_of (cut_key (c ∷ cs) false) ≡ in_characters (pair_of (cut_key (encodes (c ∷ cs)) false))
    pairs = ap (λ v. pair_of (cut_key v false)) (sym (chars-encodes (c ∷ cs) h)) ∙ pairs-alike (encodes (c ∷ cs)) (c ∷ cs, (h, refl))

full-text : (bs : List ℕ) → IsUtf8 bs → split_full (chars bs) ≡ in_characters (split_full bs)
full-text bs u = full-alike (chars bs) (scalars-chars bs u) ∙ ap (λ v. in_characters (split_full v)) (encodes-chars bs u)

pub split_of-text : (bs : List ℕ) → IsUtf8 bs → split_of (chars bs) ≡ in_characters (split_of bs)
unfolding split_of
split_of-text bs u = let p = without_leading_blanks-part bs u in ap split_full (sym p.same) ∙ full-text (without_leading_blanks bs) p.utf8

-- What the bytes are split into, the characters are split into too.
pub split-characters : (bs : List ℕ) (x : Logical) → IsUtf8 bs → split_of bs ≡ x → IsSplit (chars bs) (in_characters x)
split-characters bs x u e = subst (IsSplit (chars bs)) (split_of-text bs u ∙ ap in_characters e) (split_of-meets (chars bs))
