-- Where the front of a part ends, and how many line endings it has.
use Rattle.std.proofs.Common.{◌≡◌, ◌⊎◌, ℕ, ◌+◌, ◌-◌, ◌%◌, ◌≤◌, ◌==◌, Bool, true, List, ◌++◌, length, take, drop, ap, ap₂, sym, subst, ◌∙◌, inl, inr, arith, length-append, length-drop}
use Rattle.std.specs.Prelude.{◌&&◌, ◌||◌, not, Some}
use Rattle.std.specs.{Bool.Decides, List.starts_with, List.ends_with}
use Rattle.std.proofs.{Math.Seq.drop-append_seam, Math.Seq.take-append_seam, lemmas.List.append_cancel_right, lemmas.List.drop-drop}
use Rattle.std.proofs.{lemmas.List.take-append-drop, lemmas.Slice.Eq.slice_eq-Decides}
use Rattle.std.proofs.lemmas.Bool.Decides.{Decides-and, Decides-at, Decides-eqb, Decides-like, Decides-not, Decides-or}
use Rattle.properties_format.specs.Text.{line_feed, carriage_return, backslash}
use Rattle.properties_format.specs.Encoding.{Encoding, InForce, windows_1252, utf_8, utf_16le, utf_16be, IsAligned, ascii_bytes, byte_order_mark}
use Rattle.properties_format.proofs.Encodings.ByteOrderMarks.{followed}
use Rattle.properties_text.specs.Encoding.{IsBody}
use Rattle.properties_lines.specs.LineSearch.{unit_size}
use Rattle.properties_c.specs.Parts.{BeginsIn, EndsIn, IsDivided, IsLineEnd}
use Rattle.properties_c.specs.Private.Results.{TellsLast}
use Rattle.properties_c.proofs.PartedBytes.{mark-part}

-- ---- tests of bytes

pub begins-decides : (e : Encoding) (c : ℕ) (bytes needle : List ℕ) (r : Bool) → needle ≡ ascii_bytes e c → r ≡ starts_with ◌==◌ bytes needle
    → Decides r (BeginsIn e c bytes)
begins-decides e c bytes needle r is same =
    Decides-like r (λ h. (drop (length needle) bytes, sym (take-append-drop (length needle) bytes) ∙ ap (λ v. v ++ drop (length needle) bytes) (sym h ∙ is)))
    (λ h. sym (ap (take (length needle)) (h.1 ∙ ap (λ v. v ++ h.0) (sym is)) ∙ take-append_seam needle h.0))
    (slice_eq-Decides Decides-eqb needle (take (length needle) bytes) r same)

pub ends-decides : (e : Encoding) (c : ℕ) (bytes needle : List ℕ) (r : Bool) → needle ≡ ascii_bytes e c → r ≡ ends_with ◌==◌ bytes needle
    → Decides r (EndsIn e c bytes)
ends-decides e c bytes needle r is same =
    let n = length bytes - length needle in
    Decides-like r (λ h. (take n bytes, sym (take-append-drop n bytes) ∙ ap (λ v. take n bytes ++ v) (sym h ∙ is)))
    (λ h. at-end h.0 (h.1 ∙ ap (λ v. h.0 ++ v) (sym is))) (slice_eq-Decides Decides-eqb needle (drop n bytes) r same)
  where
    at-end : (before : List ℕ) → bytes ≡ before ++ needle → needle ≡ drop (length bytes - length needle) bytes
    at-end before k =
        let size : length bytes - length needle ≡ length before = omega (arith, ap length k, length-append before needle) in
        rw (size, k) (sym (drop-append_seam before needle))

-- ---- a line end

-- No bytes begin in a CR and in an LF.
not-both : (e : Encoding) (bytes : List ℕ) → BeginsIn e line_feed bytes → BeginsIn e carriage_return bytes → ⊥
not-both windows_1252 bytes h k = cc (h.1, k.1)
not-both utf_8 bytes h k = cc (h.1, k.1)
not-both utf_16le bytes h k = cc (h.1, k.1)
not-both utf_16be bytes h k = cc (h.1, k.1)

whole-bytes : (n : ℕ) → (n % 1 == 0) ≡ true
whole-bytes n = grind (arith)

aligned-decides : (e : Encoding) (bytes : List ℕ) → Decides (length bytes % unit_size e == 0) (IsAligned e bytes)
aligned-decides windows_1252 bytes = (λ h. tt, λ h. whole-bytes (length bytes))
aligned-decides utf_8 bytes = (λ h. tt, λ h. whole-bytes (length bytes))
aligned-decides utf_16le bytes = Decides-eqb (length bytes % 2) 0
aligned-decides utf_16be bytes = Decides-eqb (length bytes % 2) 0

-- A line ending begins between the bytes, and not only its LF.
abbrev BeginsWhole : Encoding → List ℕ → List ℕ → Type 0
BeginsWhole e before after = BeginsIn e carriage_return after ⊎ BeginsIn e line_feed after × ¬ EndsIn e carriage_return before

pub line-end-decides : (e : Encoding) (before after : List ℕ) (cr lf after_cr stays whole : Bool) → Decides cr (BeginsIn e carriage_return after)
    → Decides lf (BeginsIn e line_feed after) → Decides after_cr (EndsIn e carriage_return before) → Decides stays (EndsIn e backslash before)
    → whole ≡ (length before % unit_size e == 0) → Decides (((cr || (lf && not after_cr)) && whole) && not stays) (IsLineEnd e before after)
line-end-decides e before after cr lf after_cr stays whole is_cr is_lf is_after is_stays same =
    let aligned = Decides-at whole (length before % unit_size e == 0) same (aligned-decides e before) in
    let ends = Decides-or cr (lf && not after_cr) is_cr (Decides-and lf (not after_cr) is_lf (Decides-not after_cr is_after)) in
    let both = Decides-and (cr || (lf && not after_cr)) whole ends aligned in
    Decides-like (((cr || (lf && not after_cr)) && whole) && not stays) told tells
    (Decides-and ((cr || (lf && not after_cr)) && whole) (not stays) both (Decides-not stays is_stays))
  where
    told : (BeginsWhole e before after × IsAligned e before) × ¬ EndsIn e backslash before → IsLineEnd e before after
    told ((inl b, aligned), closed) = record { aligned = aligned; closed = closed; ending = inr b; whole = λ l k. not-both e after l b }
    told ((inr b, aligned), closed) = record { aligned = aligned; closed = closed; ending = inl b.0; whole = λ l. b.1 }

    tells : IsLineEnd e before after → (BeginsWhole e before after × IsAligned e before) × ¬ EndsIn e backslash before
    tells h = elim h.ending [
      | inl b ↦ ((inr (b, h.whole b), h.aligned), h.closed)
      | inr b ↦ ((inl b, h.aligned), h.closed)
    ]

-- ---- the last line end

-- No line ends after this place.
pub record IsSearchedTo (e : Encoding) (body : List ℕ) (at : ℕ) : Type 0 where
  pub within : at ≤ length body
  pub last : (before after : List ℕ) → body ≡ before ++ after → IsLineEnd e before after → length before ≤ at

-- ---- the division

-- Where a line ends in the body of a part, the part is divided.
divided-mark : (e f : Encoding) (front rest : List ℕ) → BeginsIn f line_feed rest ⊎ BeginsIn f carriage_return rest
    → byte_order_mark e (front ++ rest) ≡ followed (byte_order_mark e front) rest
divided-mark e f front rest (inl b) = rw b.1 (mark-part e front f line_feed b.0 (omega arith))
divided-mark e f front rest (inr b) = rw b.1 (mark-part e front f carriage_return b.0 (omega arith))

pub divided-at : (e : Encoding) (part : List ℕ) (f : Encoding) (start at : ℕ) → IsBody e part f start → TellsLast f (drop start part) (Some at)
    → IsDivided e part (take (start + at) part) (drop (start + at) part)
divided-at e part f start at body (within, ends, last) =
    let front = take (start + at) part in
    let rest = drop (start + at) part in
    let division : front ++ rest ≡ part = take-append-drop (start + at) part in
    let later : drop at (drop start part) ≡ rest = drop-drop at start part in
    let place : IsLineEnd f (take at (drop start part)) rest = rw later at ends in
    let mark : byte_order_mark e front ≡ record { encoding = f; body = take at (drop start part) } =
    fronts (byte_order_mark e front) (sym (divided-mark e f front rest place.ending) ∙ ap (byte_order_mark e) division ∙ body.in_force) later in
    record {
      division = sym division;
      place = inr (subst (λ v. let w : InForce = v in IsLineEnd w.encoding w.body rest) (sym mark) place);
      last = λ before after is k.
          let h = subst (λ v. let w : InForce = v in w.body ≡ before ++ after) body.in_force is in
          let g = last before after h (subst (λ v. let w : InForce = v in IsLineEnd w.encoding before after) body.in_force k) in
          omega (arith, g, ap length h, length-append before after, length-drop start part, length-drop (start + at) part, body.within);
    }
  where
    fronts : (g : InForce) → followed g (drop (start + at) part) ≡ record { encoding = f; body = drop start part }
        → drop at (drop start part) ≡ drop (start + at) part → g ≡ record { encoding = f; body = take at (drop start part) }
    fronts g is later =
        let encoding : g.encoding ≡ f = ap (λ v. let w : InForce = v in w.encoding) is in
        let bodies : g.body ++ drop (start + at) part ≡ take at (drop start part) ++ drop (start + at) part =
        ap (λ v. let w : InForce = v in w.body) is ∙ sym (take-append-drop at (drop start part)) ∙ ap (λ v. take at (drop start part) ++ v) later in
        let same : g.body ≡ take at (drop start part) = append_cancel_right _ _ _ bodies in
        ap₂ (λ v w. record { encoding = v; body = w }) encoding same
