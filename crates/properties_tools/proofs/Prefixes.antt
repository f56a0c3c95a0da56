-- A text begins with another exactly if its UTF-8 begins with the other's.
use Rattle.std.proofs.Common.{◌≡◌, ℕ, Bool, true, List, [], ◌∷◌, ◌++◌, refl, ap, ap₂, sym, ◌∙◌, append_assoc, drop, length, eqb}
use Rattle.std.specs.{Prelude.encode_utf8, Prelude.encode_utf8_all, List.starts_with, Str.chars, Str.IsUtf8}
use Rattle.std.proofs.{lemmas.Bool.Decides.Decides-eqb, lemmas.Bool.Decides.same_from_decides, lemmas.Slice.Eq.starts_is, lemmas.Str.cons_from_encodes}
use Rattle.std.proofs.{lemmas.Str.encodes-append, lemmas.Str.encodes-chars}

front-decoded : (p k t : List ℕ) → encode_utf8_all k ≡ encode_utf8_all p ++ t → (r : List ℕ) × (k ≡ p ++ r)
front-decoded [] k t h = (k, refl)
front-decoded (c ∷ p) k t h =
    let parts = cons_from_encodes k (encode_utf8_all p ++ t) c (h ∙ append_assoc (encode_utf8 c) (encode_utf8_all p) t) in
    let others = front-decoded p parts.0 t parts.2 in
    (others.0, parts.1 ∙ ap (λ v. c ∷ v) others.1)

pub starts-encoded : (k p : List ℕ) → starts_with eqb (encode_utf8_all k) (encode_utf8_all p) ≡ starts_with eqb k p
starts-encoded k p =
    let bytes = starts_is Decides-eqb (encode_utf8_all k) (encode_utf8_all p) _ refl in
    let text = starts_is Decides-eqb k p _ refl in
    same_from_decides {P = starts_with eqb k p ≡ true} _ _ (
      (λ h. let found = front-decoded p k _ (bytes.0 h) in text.1 found.0 found.1),
      (λ h. bytes.1 (encode_utf8_all (drop (length p) k)) (ap encode_utf8_all (text.0 h) ∙ encodes-append p (drop (length p) k))),
    ) ((λ h. h), (λ h. h))

-- The test of the bytes is that of the characters.
pub starts-chars : (r : Bool) (key prefix : List ℕ) → IsUtf8 key → IsUtf8 prefix → r ≡ starts_with eqb key prefix
    → r ≡ starts_with eqb (chars key) (chars prefix)
starts-chars r key prefix key-is prefix-is h =
    h ∙ ap₂ (λ v w. starts_with eqb v w) (sym (encodes-chars key key-is)) (sym (encodes-chars prefix prefix-is)) ∙ starts-encoded (chars key) (chars prefix)
