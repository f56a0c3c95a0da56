-- U+FEFF in UTF-8.
use Rattle.std.proofs.Common.{◌≡◌, ◌≢◌, ℕ, zero, suc, ◌+◌, ◌<◌, ◌==◌, true, false, List, [], ◌∷◌, ◌++◌, length, get_or, drop, refl, sym, ap, subst, ◌∙◌, arith}
use Rattle.std.proofs.lemmas.Bool.{or_from, or_parts, false_from_ne_true}
use Rattle.std.specs.{Prelude.◌||◌, List.list_any}
use Rattle.properties_format.specs.{Utf16.low_first, Utf16.high_first, Encoding.windows_1252, Encoding.utf_8, Cut.line_ending_bytes, Cut.bytes_together}
use Rattle.properties_format.specs.{Cut.units_of_two, Lines.Ended, Computed.Cut.cut_of, Computed.Body.held_of}
use Rattle.properties_format.proofs.Cut.Meets.{cut_of-meets}
use Rattle.properties_text.specs.Encoding.{encoding_of}
use Rattle.properties_text.specs.declared.encoding.Encoding as code
use Rattle.properties_text.specs.declared.encoding.Encoding.TheVariants.{WINDOWS_1252, UTF_8, UTF_16LE, UTF_16BE}
use Rattle.std.specs.Prelude.{◌&&◌, nat_eq, Bool, Some, None}
use Rattle.memchr.specs.Find.{IsFirstByte, is_byte}
use Rattle.properties_tables.specs.{Lines.holds_mark, Lines.holds_mark_in, Lines.starts_with_bom, declared.ill_formed.Flaw.TheVariants.MarkInside}
use Rattle.properties_tables.specs.Private.Flawed.{holds_mark_unit, numbers_from, unit_at, HasFlawedIn}
use Rattle.properties_tables.proofs.FlawedLines.{has-flawed}

-- A mark begins with its first byte.
other-begins : (b : ℕ) (bs : List ℕ) → (b == 239) ≡ false → starts_with_bom (b ∷ bs) ≡ false
other-begins b bs h = grind (arith)

-- Without that byte there is none,
pub mark-none : (bytes : List ℕ) → ((k : ℕ) → k < length bytes → (get_or bytes k 0 == 239) ≡ true → ⊥) → holds_mark bytes ≡ false
mark-none [] h = refl
mark-none (b ∷ bs) h =
    or_from (starts_with_bom (b ∷ bs)) (holds_mark bs)
    (other-begins b bs (false_from_ne_true (b == 239) (h 0 (omega arith))))
    (mark-none bs (λ k l e. h (suc k) (omega arith) e))

-- and none before it.
pub mark-skip : (bytes : List ℕ) (at : ℕ) → at < length bytes → ((k : ℕ) → k < at → (get_or bytes k 0 == 239) ≡ true → ⊥)
    → holds_mark bytes ≡ holds_mark (drop at bytes)
mark-skip bytes zero l h = refl
mark-skip [] (suc n) l h = absurd (omega (arith, l))
mark-skip (b ∷ bs) (suc n) l h =
    let other = other-begins b bs (false_from_ne_true (b == 239) (h 0 (omega arith))) in
    rw other (mark-skip bs n (omega arith) (λ k m e. h (suc k) (omega arith) e))

pub mark-here : (d : List ℕ) → starts_with_bom d ≡ true → holds_mark d ≡ true
mark-here [] h = absurd (cc)
mark-here (b ∷ d) h = rw h refl

pub mark-next : (d : List ℕ) → starts_with_bom d ≡ false → holds_mark d ≡ holds_mark (drop 1 d)
mark-next [] h = refl
mark-next (b ∷ d) h = rw h refl

-- ---- parts

never : (b : Bool) → (b && false) ≡ false
never true = refl
never false = refl

front-less : (x y : List ℕ) → starts_with_bom (x ++ y) ≡ false → starts_with_bom x ≡ false
front-less [] y h = refl
front-less (a ∷ []) y h = never (nat_eq 239 a)
front-less (a ∷ b ∷ []) y h = rw (never (nat_eq 187 b)) (never (nat_eq 239 a))
front-less (a ∷ b ∷ c ∷ x) y h = h

mark-append : (x y : List ℕ) → holds_mark (x ++ y) ≡ false → (holds_mark x ≡ false) × (holds_mark y ≡ false)
mark-append [] y h = (refl, h)
mark-append (b ∷ x) y h =
    let parts = or_parts (starts_with_bom (b ∷ (x ++ y))) (holds_mark (x ++ y)) h in
    let rest = mark-append x y parts.1 in
    (or_from (starts_with_bom (b ∷ x)) (holds_mark x) (front-less (b ∷ x) y parts.0) rest.0, rest.1)

-- Lines without a mark have no flawed line.
mark-held : (n : ℕ) (ls : List Ended) (last : List ℕ) → holds_mark (bytes_together utf_8 ls last) ≡ false
    → numbers_from MarkInside utf_8 n (held_of utf_8 ls last) ≡ []
mark-held n [] last h = rw h refl
mark-held n (l ∷ ls) last h =
    let parts = mark-append l.text (line_ending_bytes utf_8 l.by ++ bytes_together utf_8 ls last) h in
    let later = mark-append (line_ending_bytes utf_8 l.by) (bytes_together utf_8 ls last) parts.1 in
    rw parts.0 (mark-held (n + 1) ls last later.1)

-- Nor has a body without one.
pub none-mark : (body : List ℕ) → holds_mark body ≡ false → HasFlawedIn MarkInside utf_8 body []
none-mark body h =
    let lines = cut_of utf_8 body in
    subst (HasFlawedIn MarkInside utf_8 body) (mark-held 0 lines.ended lines.last (ap holds_mark (sym (cut_of-meets utf_8 body).bytes) ∙ h))
    (has-flawed MarkInside utf_8 body)

-- No character of windows-1252 is one.
none-held : (n : ℕ) (ls : List Ended) (last : List ℕ) → numbers_from MarkInside windows_1252 n (held_of windows_1252 ls last) ≡ []
none-held n [] last = refl
none-held n (l ∷ ls) last = none-held (n + 1) ls last

pub none-windows_1252 : (body : List ℕ) → HasFlawedIn MarkInside windows_1252 body []
none-windows_1252 body =
    let lines = cut_of windows_1252 body in
    subst (HasFlawedIn MarkInside windows_1252 body) (none-held 0 lines.ended lines.last) (has-flawed MarkInside windows_1252 body)

-- ---- UTF-16

marks-two : (unit : ℕ → ℕ → ℕ) (bytes : List ℕ) → holds_mark_unit unit bytes ≡ list_any (λ u. u == 0xfeff) (units_of_two unit bytes)
marks-two unit [] = refl
marks-two unit (a ∷ []) = refl
marks-two unit (a ∷ b ∷ bytes) = ap (λ v. unit a b == 0xfeff || v) (marks-two unit bytes)

pub utf_16-marks : (f : code.Encoding) (bytes : List ℕ) → f ≢ WINDOWS_1252 → f ≢ UTF_8
    → holds_mark_unit (unit_at (encoding_of f)) bytes ≡ holds_mark_in (encoding_of f) bytes
utf_16-marks WINDOWS_1252 bytes h k = absurd (h refl)
utf_16-marks UTF_8 bytes h k = absurd (k refl)
utf_16-marks UTF_16LE bytes h k = marks-two low_first bytes
utf_16-marks UTF_16BE bytes h k = marks-two high_first bytes

-- ---- a search for the first byte

pub mark-from : (rest : List ℕ) (at : ℕ) → IsFirstByte (is_byte 239) rest (Some at) → holds_mark rest ≡ holds_mark (drop at rest)
mark-from rest at h = mark-skip rest at h.0.high (λ k l e. h.0.before k (omega arith) l e)

pub mark-nowhere : (rest : List ℕ) → IsFirstByte (is_byte 239) rest None → holds_mark rest ≡ false
mark-nowhere rest h = mark-none rest (λ k l e. h k (omega arith) l e)
