-- Whether bytes begin like a byte order mark, by what was found at their front.
use Rattle.std.proofs.Common.{◌≡◌, ℕ, false, true, List, refl, sym, ap, ◌∙◌, inl, inr}
use Rattle.std.proofs.lemmas.Bool.{cases_Bool}
use Rattle.properties_format.specs.Encoding.{Encoding, windows_1252, utf_8, utf_16le, utf_16be, InForce, byte_order_mark, begins_with, begins_like_bom, utf_8_bom, utf_16be_bom, utf_16le_bom}
use Rattle.properties_format.proofs.Encodings.ByteOrderMarks.{byte_order_mark-none}
use Rattle.properties_text.specs.Encoding.{FindsByteOrderMark, IsInForce, IsUnmarked}
use Rattle.properties_text.specs.declared.encoding.Encoding as named
use Rattle.properties_text.specs.declared.encoding.byte_order_mark.ByteOrderMark.{ByteOrderMark}
use Rattle.properties_text.specs.declared.encoding.byte_order_mark.ByteOrderMark.TheVariants.{Present, Absent, Undecided}

-- If none was found, the encoding in force is the requested one.
pub unmarked : (b : List ℕ) (m : ByteOrderMark) → FindsByteOrderMark b m → ((e : named.Encoding) (n : ℕ) → m ≡ Present e n → ⊥) → IsUnmarked b
unmarked b (Present e n) h none = absurd (none e n refl)
unmarked b Absent h none = h.0
unmarked b Undecided h none = h.0

-- Bytes that are in one encoding, whichever was requested, begin like a byte order mark.
pub like-bom : (b : List ℕ) (e : Encoding) (n : ℕ) → IsInForce b e n → begins_like_bom b ≡ true
like-bom b e n f = elim (cases_Bool (begins_like_bom b)) [
  | inl h ↦ h
  | inr h ↦
      let same : (asked : Encoding) → asked ≡ e =
      λ asked. ap (λ v. let w : InForce = v in w.encoding) (sym (byte_order_mark-none asked b h) ∙ f asked) in
      let two : windows_1252 ≡ utf_8 = same windows_1252 ∙ sym (same utf_8) in
      absurd (cc)
]

-- Bytes that are in the requested encoding, whichever that is, don't.
pub unlike-bom : (b : List ℕ) → IsUnmarked b → begins_like_bom b ≡ false
unlike-bom b f =
    let asked : (byte_order_mark windows_1252 b).encoding ≡ windows_1252 = ap (λ v. let w : InForce = v in w.encoding) (f windows_1252) in
    elim (cases_Bool (begins_with utf_8_bom b)) [
      | inl h ↦ let m : (byte_order_mark windows_1252 b).encoding ≡ utf_8 = rw h refl in absurd (cc)
      | inr h ↦ elim (cases_Bool (begins_with utf_16be_bom b)) [
        | inl k ↦ let m : (byte_order_mark windows_1252 b).encoding ≡ utf_16be = rw (h, k) refl in absurd (cc)
        | inr k ↦ elim (cases_Bool (begins_with utf_16le_bom b)) [
          | inl l ↦ let m : (byte_order_mark windows_1252 b).encoding ≡ utf_16le = rw (h, k, l) refl in absurd (cc)
          | inr l ↦ rw (h, k, l) refl
        ]
      ]
    ]
