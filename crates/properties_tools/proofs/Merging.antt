-- Edits by which pairs are set, and those that are left out.
use Rattle.std.proofs.Common.{◌≡◌, ◌≢◌, ℕ, ◌<◌, ◌||◌, suc, false, List, [], ◌∷◌, ◌++◌, length, get_or, refl, ap, sym, ◌∙◌, arith, append-nil, append_assoc}
use Rattle.std.specs.Prelude.{Err, map}
use Rattle.std.specs.List.{list_any}
use Rattle.std.specs.Str.{chars, IsUtf8}
use Rattle.std.proofs.lemmas.Grind.{flat_map-append}
use Rattle.std.proofs.lemmas.List.{map-append}
use Rattle.properties_format.specs.Edits.{set_value, Edit}
use Rattle.properties_tools.specs.Private.Merging.{TakesText}
use Rattle.properties_tools.specs.Propedit.Merge.{is_zero, set_of_texts, text_bytes, zero_ended, AreNoTexts, HasNoZero, TextPair}
use Rattle.properties_tables.specs.declared.error.Failure.TheVariants.{Texts}
use Rattle.properties_tables.specs.declared.error.TextFlaw.{TextFlaw}
use Rattle.properties_tables.specs.declared.error.TextFlaw.TheVariants as flaw

-- ---- texts

-- No byte is zero where each is another one.
pub no-zero : (xs : List ℕ) → ((i : ℕ) → i < length xs → get_or xs i 0 ≢ 0) → HasNoZero xs
no-zero [] h = refl
no-zero (x ∷ xs) h =
    let head : is_zero x ≡ false = grind (arith, h 0 (omega arith)) in
    ap (λ b. b || list_any is_zero xs) head ∙ no-zero xs (λ i l. h (suc i) (omega arith))

-- These edits set the pairs of a file up to what is left of it.
pub record TookTexts (file rest : List ℕ) (edits : List Edit) : Type 0 where
  pub pairs : List TextPair
  pub division : file ≡ text_bytes pairs ++ rest
  pub are : edits ≡ map set_of_texts pairs

module _ (file rest key after_key : List ℕ) (edits : List Edit) (took : TookTexts file rest edits)
    (first : (rest ≡ key ++ 0 ∷ after_key) × HasNoZero key) where
  -- a key more
  with-key : file ≡ text_bytes took.pairs ++ (zero_ended key ++ after_key)
  with-key = took.division ∙ ap (λ v. text_bytes took.pairs ++ v) (first.0 ∙ sym (append_assoc key (0 ∷ []) after_key))

  -- and its value
  pub texts-more : (value others : List ℕ) (more : List Edit) → (after_key ≡ value ++ 0 ∷ others) × HasNoZero value
      → more ≡ edits ++ set_value (chars key) (chars value) ∷ [] → TookTexts file others more
  texts-more value others more second is =
      let p : TextPair = record { key = key; value = value; key_whole = first.1; value_whole = second.1 } in
      let pair : text_bytes (took.pairs ++ p ∷ []) ≡ text_bytes took.pairs ++ (zero_ended key ++ zero_ended value) =
      flat_map-append _ took.pairs (p ∷ []) ∙ ap (λ v. text_bytes took.pairs ++ v) (append-nil (zero_ended key ++ zero_ended value)) in
      let rest_of : zero_ended key ++ after_key ≡ (zero_ended key ++ zero_ended value) ++ others =
      ap (λ v. zero_ended key ++ v) (second.0 ∙ sym (append_assoc value (0 ∷ []) others)) ∙ sym (append_assoc (zero_ended key) (zero_ended value) others) in
      record {
        pairs = took.pairs ++ p ∷ [];
        division = with-key ∙ ap (λ v. text_bytes took.pairs ++ v) rest_of
            ∙ sym (append_assoc (text_bytes took.pairs) (zero_ended key ++ zero_ended value) others) ∙ ap (λ v. v ++ others) (sym pair);
        are = is ∙ ap (λ v. v ++ set_value (chars key) (chars value) ∷ []) took.are ∙ sym (map-append set_of_texts took.pairs (p ∷ []));
      }

  -- or no value
  pub no-value : IsUtf8 file → (how : TextFlaw) → TakesText after_key (Err how) → AreNoTexts file (Texts how)
  no-value utf8 flaw.NoValue none =
      record {
        utf8 = utf8;
        pairs = took.pairs;
        key = key;
        division = with-key ∙ ap (λ v. text_bytes took.pairs ++ (zero_ended key ++ v)) none
            ∙ ap (λ v. text_bytes took.pairs ++ v) (append-nil (zero_ended key));
        whole = first.1;
      }
  no-value utf8 flaw.NotEnded some =
      record {
        utf8 = utf8;
        before = text_bytes took.pairs ++ zero_ended key;
        last = after_key;
        division = with-key ∙ sym (append_assoc (text_bytes took.pairs) (zero_ended key) after_key);
        some = some.0;
        whole = some.1;
      }
  no-value utf8 flaw.NotUtf8 none = absurd none
