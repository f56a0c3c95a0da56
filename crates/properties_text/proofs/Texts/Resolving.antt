-- Texts whose escapes are resolved one after another.
use Rattle.std.proofs.Common.{◌≡◌, ℕ, zero, suc, ◌<◌, ◌-◌, ◌==◌, ◌||◌, true, false, List, [], ◌∷◌, ◌++◌, length, take, drop, get_or, refl, ap, sym, ◌∙◌, subst, append_assoc, arith}
use Rattle.std.specs.Prelude.{Option, Some, None, slice_range}
use Rattle.std.specs.Option.{is_some}
use lib.Utf8.{encodes}
use Rattle.std.specs.Str.{IsUtf8, chars}
use Rattle.std.proofs.lemmas.Bool.{or_from, or_right, or_parts, eqb-true, false_from_ne_true}
use Rattle.std.proofs.lemmas.List.{take-append-drop, get_or-take, length-take-le}
use Rattle.std.proofs.lemmas.Str.{encodes-chars, chars-append, IsUtf8-take, IsUtf8-drop, IsCharBoundary-before_ascii}
use Rattle.memchr.specs.Find.{IsFirstByte, is_byte}
use Rattle.properties_format.specs.Text.{backslash}
use Rattle.properties_format.specs.Escapes.{Malformed, Meaning, means, breaks, Means, Breaks, IsMeaning}
use Rattle.properties_format.specs.Computed.Escapes.{in_front, text_in_front, meaning_of}
use Rattle.properties_format.specs.Writing.{HoldsNoBackslash}
use Rattle.properties_format.proofs.Escapes.Laws.{meaning_of-plain_front, meaning_of-plain}
use Rattle.properties_format.proofs.Escapes.Unique.{text_in_front-means, text_in_front-breaks, breaks-only, meaning_of-meets}
use Rattle.properties_text.specs.Escaping.{holds_backslash, malformed_in, IsRefused}
use Rattle.properties_text.specs.declared.escape.UnescapeError.{UnescapeError}
use Rattle.properties_text.specs.declared.escape.UnescapeError.TheVariants as error
use Rattle.properties_text.proofs.Texts.Characters.{AreWide, one, wide, encoded, wide-no_backslash}

-- ---- where a backslash is

holds-wide : (bs rest : List ℕ) → AreWide bs → holds_backslash (bs ++ rest) ≡ holds_backslash rest
holds-wide [] rest w = refl
holds-wide (b ∷ bs) rest w = rw (wide-no_backslash b w.0) (holds-wide bs rest w.1)

holds-encodes : (cs : List ℕ) → holds_backslash (encodes cs) ≡ holds_backslash cs
holds-encodes [] = refl
holds-encodes (c ∷ cs) = elim (encoded c) [
  | one s e ↦ rw e (ap (λ v. c == backslash || v) (holds-encodes cs))
  | wide h b bs e l k m ↦ rw (e, wide-no_backslash b l, wide-no_backslash c h) (holds-wide bs (encodes cs) k ∙ holds-encodes cs)
]

-- A text contains a backslash in bytes exactly if it does in characters.
pub holds_backslash-text : (bs : List ℕ) → IsUtf8 bs → holds_backslash (chars bs) ≡ holds_backslash bs
holds_backslash-text bs u = sym (holds-encodes (chars bs)) ∙ ap holds_backslash (encodes-chars bs u)

pub no_backslash : (cs : List ℕ) → holds_backslash cs ≡ false → HoldsNoBackslash cs
no_backslash [] h = tt
no_backslash (c ∷ cs) h = let p = or_parts (c == backslash) (holds_backslash cs) h in (p.0, no_backslash cs p.1)

nowhere : (xs : List ℕ) → ((k : ℕ) → k < length xs → (get_or xs k 0 == backslash) ≡ true → ⊥) → holds_backslash xs ≡ false
nowhere [] h = refl
nowhere (x ∷ xs) h =
    or_from (x == backslash) (holds_backslash xs)
    (false_from_ne_true (x == backslash) (h 0 (omega arith)))
    (nowhere xs (λ k l e. h (suc k) (omega arith) e))

pub holds-at : (xs : List ℕ) (at : ℕ) → at < length xs → get_or xs at 0 ≡ backslash → holds_backslash xs ≡ true
holds-at (x ∷ xs) zero inside is = rw is refl
holds-at (x ∷ xs) (suc at) inside is = or_right (x == backslash) (holds_backslash xs) (holds-at xs at (omega arith) is)
holds-at [] at inside is = absurd (omega arith)

-- The first backslash of these bytes has this index.
pub record IsFirstBackslash (bs : List ℕ) (at : ℕ) : Type 0 where
  pub inside : at < length bs
  pub plain : holds_backslash (take at bs) ≡ false
  pub byte : get_or bs at 0 ≡ backslash
  pub holds : holds_backslash bs ≡ true

pub found_some : (bs : List ℕ) (at : ℕ) → IsFirstByte (is_byte backslash) bs (Some at) → IsFirstBackslash bs at
found_some bs at h =
    let inside : at < length bs = h.0.high in
    let is : get_or bs at 0 ≡ backslash = eqb-true (get_or bs at 0) backslash h.1 in
    record {
      inside = inside;
      plain = nowhere (take at bs) (λ k l e.
          let m : k < at = omega (arith, length-take-le at bs (omega arith)) in
          h.0.before k (omega arith) m (ap (λ v. v == backslash) (sym (get_or-take at bs k 0 m)) ∙ e));
      byte = is;
      holds = holds-at bs at inside is;
    }

pub found_none : (bs : List ℕ) → IsFirstByte (is_byte backslash) bs None → holds_backslash bs ≡ false
found_none bs h = nowhere bs (λ k l e. h k (omega arith) l e)

-- What a search says about backslashes.
pub tells_backslash : (bs : List ℕ) (found : Option ℕ) → IsFirstByte (is_byte backslash) bs found → is_some found ≡ holds_backslash bs
tells_backslash bs (Some at) h = sym (found_some bs at h).holds
tells_backslash bs None h = sym (found_none bs h)

-- A text up to its first backslash, and the text after that.
pub record IsSplitAt (bs : List ℕ) (at : ℕ) : Type 0 where
  pub front_utf8 : IsUtf8 (take at bs)
  pub rest_utf8 : IsUtf8 (drop at bs)
  pub holds : holds_backslash (chars bs) ≡ true
  pub meaning : meaning_of (chars bs) ≡ text_in_front (chars (take at bs)) (meaning_of (chars (drop at bs)))

-- A search found one in the bytes of a text.
pub split_at : (bytes bs : List ℕ) (at : ℕ) → IsUtf8 bs → bytes ≡ bs → IsFirstByte (is_byte backslash) bytes (Some at) → IsSplitAt bs at
split_at bytes bs at u same h =
    let f : IsFirstBackslash bs at = found_some bs at (subst (λ v. IsFirstByte (is_byte backslash) v (Some at)) same h) in
    let here = IsCharBoundary-before_ascii bs at f.inside (omega (arith, f.byte)) in
    let front : IsUtf8 (take at bs) = IsUtf8-take bs at u here in
    let rest : IsUtf8 (drop at bs) = IsUtf8-drop bs at u here in
    let whole : bs ≡ take at bs ++ drop at bs = sym (take-append-drop at bs) in
    let plain = no_backslash (chars (take at bs)) (holds_backslash-text (take at bs) front ∙ f.plain) in
    record {
      front_utf8 = front;
      rest_utf8 = rest;
      holds = holds_backslash-text bs u ∙ f.holds;
      meaning = ap meaning_of (ap chars whole ∙ chars-append (take at bs) (drop at bs) front)
          ∙ meaning_of-plain_front (chars (take at bs)) (chars (drop at bs)) plain;
    }

-- A text without a backslash.
pub record IsBareError (bs : List ℕ) : Type 0 where
  pub holds : holds_backslash (chars bs) ≡ false
  pub meaning : meaning_of (chars bs) ≡ means (chars bs)

-- A search found none.
pub plain : (bytes bs : List ℕ) → IsUtf8 bs → bytes ≡ bs → IsFirstByte (is_byte backslash) bytes None → IsBareError bs
plain bytes bs u same h =
    let none = holds_backslash-text bs u ∙ found_none bs (subst (λ v. IsFirstByte (is_byte backslash) v None) same h) in
    record { holds = none; meaning = meaning_of-plain (chars bs) (no_backslash (chars bs) none) }

-- A part of a text without a backslash contains none.
pub holds-part : (xs ys zs : List ℕ) → holds_backslash (xs ++ (ys ++ zs)) ≡ false → holds_backslash ys ≡ false
holds-part [] [] zs h = refl
holds-part [] (y ∷ ys) zs h =
    let p = or_parts (y == backslash) (holds_backslash (ys ++ zs)) h in
    ap (λ v. v || holds_backslash ys) p.0 ∙ holds-part [] ys zs p.1
holds-part (x ∷ xs) ys zs h = holds-part xs ys zs (or_parts (x == backslash) (holds_backslash (xs ++ (ys ++ zs))) h).1

-- the beginning of a text, as a slice of it
pub slice-front : (bs : List ℕ) (at : ℕ) → slice_range bs 0 at ≡ take at bs
slice-front bs at = ap (λ n. take n bs) (let k : at - 0 ≡ at = omega arith in k)

-- ---- what has been resolved so far

pub text_in_front-append : (xs ys : List ℕ) (m : Meaning) → text_in_front (xs ++ ys) m ≡ text_in_front xs (text_in_front ys m)
text_in_front-append [] ys m = refl
text_in_front-append (x ∷ xs) ys m = ap (in_front x) (text_in_front-append xs ys m)

-- A text and more were appended.
pub pushed_text : (text front more grown all : List ℕ) → IsUtf8 text → IsUtf8 front → grown ≡ text ++ front → all ≡ grown ++ more
    → chars all ≡ chars text ++ (chars front ++ chars more)
pushed_text text front more grown all u v e f = rw (f, e, append_assoc, chars-append text (front ++ more) u, chars-append front more v) refl

-- The text is malformed if the rest of it is.
pub broken : (text : List ℕ) (kind : Malformed) → meaning_of text ≡ breaks kind → Breaks text kind
broken text kind e = subst (IsMeaning text) e (meaning_of-meets text)

-- What was resolved of a text was appended, and the rest is still to come.
pub record IsResolvedTo (text before now rest : List ℕ) : Type 0 where
  pub done : List ℕ
  pub grown : now ≡ before ++ done
  pub meaning : meaning_of text ≡ text_in_front done (meaning_of rest)

-- Text without a backslash was appended, and escapes that were read together.
pub resolved_many : {text before now rest to next : List ℕ} (front after cs : List ℕ) → IsResolvedTo text before now rest
    → meaning_of rest ≡ text_in_front front (meaning_of after) → meaning_of after ≡ text_in_front cs (meaning_of to) → next ≡ now ++ (front ++ cs)
    → IsResolvedTo text before next to
resolved_many front after cs r e f g = record {
  done = r.done ++ (front ++ cs);
  grown = simp (g, r.grown, append_assoc);
  meaning = simp (r.meaning, e, f, text_in_front-append);
}

-- The rest of the text was appended.
pub resolved_end : {text before now rest next : List ℕ} → IsResolvedTo text before now rest → meaning_of rest ≡ means rest → next ≡ now ++ rest
    → (meant : List ℕ) × (meaning_of text ≡ means meant) × (next ≡ before ++ meant)
resolved_end {rest = rest} r e g = (r.done ++ rest, simp (r.meaning, e, text_in_front-means), simp (g, r.grown, append_assoc))

-- A malformed escape was read.
pub resolved_broken : {text before now rest : List ℕ} (front after : List ℕ) (kind : Malformed) → IsResolvedTo text before now rest
    → meaning_of rest ≡ text_in_front front (meaning_of after) → meaning_of after ≡ breaks kind → meaning_of text ≡ breaks kind
resolved_broken front after kind r e f = simp (r.meaning, e, f, text_in_front-breaks)

-- ---- the text before the first escape

-- If the rest is refused with an error, so is the whole.
pub refused_front : (text front rest : List ℕ) (e : UnescapeError) → meaning_of text ≡ text_in_front front (meaning_of rest) → IsRefused rest e
    → IsRefused text e
refused_front text front rest (error.Malformed malformed) m b =
    let kind = malformed_in malformed in
    broken text kind (rw (m, ← breaks-only rest kind b) (text_in_front-breaks front kind))
refused_front text front rest error.Memory m b = b

-- What the rest means, preceded by the text before it.
pub means_front : (text front rest meant : List ℕ) → meaning_of text ≡ text_in_front front (meaning_of rest) → meaning_of rest ≡ means meant
    → Means text (front ++ meant)
means_front text front rest meant m e = rw (m, e, text_in_front-means) at (meaning_of-meets text)

pub means_plain : (text : List ℕ) → meaning_of text ≡ means text → Means text text
means_plain text e = subst (IsMeaning text) e (meaning_of-meets text)
