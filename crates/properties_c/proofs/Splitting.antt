-- Packed bytes have one division into records.
use Rattle.std.proofs.Common.{◌≡◌, ℕ, ◌^◌, ◌<◌, List, ◌++◌, length, take, drop, ap, sym, ◌∙◌, refl, arith, append_assoc}
use Rattle.std.specs.Int.{w64, from_le_bytes}
use Rattle.std.proofs.{lemmas.List.take_at, lemmas.List.drop_at, lemmas.List.take-append-drop, lemmas.Nat.from_le_bytes-to_le_bytes_8}
use Rattle.properties_c.specs.Packed.{number_bytes, Record, packed, IsSized}
use Rattle.properties_c.specs.{Private.Lists.header_bytes, Private.Lists.IsSizedHeader, Private.Lists.Splits, declared.records.Header.Header}
use Rattle.properties_c.proofs.Packing.{length-number_bytes}

from-number_bytes : (n : ℕ) → n < 2 ^ 64 → from_le_bytes w64 (number_bytes n) ≡ n
unfolding number_bytes
from-number_bytes n small = from_le_bytes-to_le_bytes_8 n small

-- Lists that are equal, and whose fronts are equally long, have the same fronts and the same rests.
front-same : (xs x ys y : List ℕ) → length xs ≡ length ys → xs ++ x ≡ ys ++ y → (xs ≡ ys) × (x ≡ y)
front-same xs x ys y same e = (
  sym (take_at xs x (length xs) refl) ∙ ap (λ v. take (length xs) v) e ∙ take_at ys y (length xs) (sym same),
  sym (drop_at xs x (length xs) refl) ∙ ap (λ v. drop (length xs) v) e ∙ drop_at ys y (length xs) (sym same),
)

number-same : (m n : ℕ) (x y : List ℕ) → m < 2 ^ 64 → n < 2 ^ 64 → number_bytes m ++ x ≡ number_bytes n ++ y → (m ≡ n) × (x ≡ y)
number-same m n x y small little e =
    let h = front-same (number_bytes m) x (number_bytes n) y (length-number_bytes m ∙ sym (length-number_bytes n)) e in
    (sym (from-number_bytes m small) ∙ ap (λ v. from_le_bytes w64 v) h.0 ∙ from-number_bytes n little, h.1)

-- the bytes of a record, with what comes after it
packed-regroup : (r : Record) (rest : List ℕ)
    → packed r ++ rest ≡ number_bytes r.kind ++ (number_bytes r.line ++ (number_bytes (length r.key) ++ (number_bytes (length r.value) ++ (r.key ++ (r.value ++ rest)))))
unfolding packed
packed-regroup r rest = simp append_assoc

header-regroup : (h : Header) (rest : List ℕ)
    → header_bytes h ++ rest ≡ number_bytes h.kind ++ (number_bytes h.line ++ (number_bytes h.key_length ++ (number_bytes h.value_length ++ rest)))
header-regroup h rest = simp append_assoc

-- what a list says of its first record, by the header at its front
pub record IsHeaderOf (h : Header) (texts : List ℕ) (first : Record) (rest : List ℕ) : Type 0 where
  pub kind : h.kind ≡ first.kind
  pub line : h.line ≡ first.line
  pub key : h.key_length ≡ length first.key
  pub value : h.value_length ≡ length first.value
  pub tail : texts ≡ first.key ++ (first.value ++ rest)

pub Splits-header : {list : List ℕ} {h : Header} {tail : List ℕ} {first : Record} {rest : List ℕ}
    → IsSizedHeader h → list ≡ header_bytes h ++ tail → Splits list first rest → IsHeaderOf h tail first rest
Splits-header {list} {h} {tail} {first} {rest} sized is splits =
    let e = sym (header-regroup h tail) ∙ sym is ∙ splits.division ∙ packed-regroup first rest in
    let kinds = number-same _ _ _ _ sized.kind splits.sized.kind e in
    let lines = number-same _ _ _ _ sized.line splits.sized.line kinds.1 in
    let keys = number-same _ _ _ _ sized.key splits.sized.key lines.1 in
    let values = number-same _ _ _ _ sized.value splits.sized.value keys.1 in
    record { kind = kinds.0; line = lines.0; key = keys.0; value = values.0; tail = values.1 }

-- Equal bytes have the same first record, and the same bytes after it.
pub packed-only : (r s : Record) (x y : List ℕ) → IsSized r → IsSized s → packed r ++ x ≡ packed s ++ y
    → (r ≡ s) × (x ≡ y)
packed-only r s x y sized small e =
    let header : Header =
    record { kind = r.kind; line = r.line; key_length = length r.key; value_length = length r.value } in
    let h = Splits-header (record { kind = sized.kind; line = sized.line; key = sized.key; value = sized.value })
    (packed-regroup r x ∙ sym (header-regroup header _)) (record { division = e; sized = small }) in
    let texts = front-same r.key (r.value ++ x) s.key (s.value ++ y) h.key h.tail in
    let ends = front-same r.value x s.value y h.value texts.1 in
    let same : record { kind = r.kind; line = r.line; key = r.key; value = r.value } ≡ s =
    rw (h.kind, h.line, texts.0, ends.0) in
    (same, ends.1)

-- A list is its two parts.
pub parted : {xs front back : List ℕ} (n : ℕ) → front ≡ take n xs → back ≡ drop n xs → xs ≡ front ++ back
parted {xs} {front} {back} n is_front is_back =
    sym (take-append-drop n xs) ∙ ap (λ v. v ++ drop n xs) (sym is_front) ∙ ap (λ v. front ++ v) (sym is_back)

-- A header and its texts are a record.
pub Splits-made : {list : List ℕ} {h : Header} {texts key values value rest : List ℕ}
    → IsSizedHeader h → list ≡ header_bytes h ++ texts
    → texts ≡ key ++ values → length key ≡ h.key_length → values ≡ value ++ rest → length value ≡ h.value_length
    → Splits list (record { kind = h.kind; line = h.line; key = key; value = value }) rest
Splits-made {list} {h} {texts} {key} {values} {value} {rest} sized is is_texts keys is_values lengths =
    let r : Record = record { kind = h.kind; line = h.line; key = key; value = value } in
    record {
      division = is ∙ header-regroup h texts
          ∙ rw (is_texts, is_values, ← keys, ← lengths) (sym (packed-regroup r rest));
      sized = record { kind = sized.kind; line = sized.line; key = omega (arith, sized.key); value = omega (arith, sized.value) };
    }
