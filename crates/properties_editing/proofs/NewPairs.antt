-- The bytes of a value that is set, and of a new pair that looks like the last one.
use Rattle.std.proofs.Common.{◌≡◌, ◌≢◌, ℕ, Bool, true, false, List, [], ◌∷◌, ◌++◌, length, refl, inl, inr, ap, sym, ◌∙◌, append-nil, append_assoc, lit<}
use Rattle.std.specs.Prelude.{◌&&◌, ◌==◌, if◌then◌else◌, unwrap_or}
use Rattle.std.specs.Str.{chars, IsUtf8}
use Rattle.std.proofs.lemmas.Bool.{cases_Bool, cond-true, cond-false}
use Rattle.properties_format.specs.Text.{LineEnding, line_ending_text, is_blank, is_blanks, equals_sign, is_empty}
use Rattle.properties_format.specs.Encoding.{windows_1252, Repertoire}
use Rattle.properties_format.specs.Printing.{encoded_text, printed_value}
use Rattle.properties_format.specs.Valued.{value_text, separator_after, shortened_after}
use Rattle.properties_format.proofs.Printing.Characters.{encoded-ascii, encoded_text-ascii, line_ending-ascii}
use Rattle.std.specs.Char.{IsScalar, encode_utf8}
use Rattle.properties_text.proofs.TextFronts.{chars-more}
use Rattle.properties_text.proofs.Texts.Characters.{is_empty-chars}
use Rattle.properties_items.proofs.RawTexts.{line_ending-bytes}

-- ---- a value after its separator

-- an equals sign comes first where nothing separates key and value
pub value-unseparated : (r : Repertoire) (line raw all separator value : List ℕ) → separator ≡ [] → raw ≡ line ++ equals_sign ∷ []
    → all ≡ raw ++ encoded_text r.encoding (printed_value r false value) → all ≡ line ++ encoded_text r.encoding (value_text r separator value)
value-unseparated r line raw all separator value none h k =
    let back = encoded_text r.encoding (printed_value r false value) in
    k ∙ ap (λ v. v ++ back) h
    ∙ append_assoc line (equals_sign ∷ []) back
    ∙ ap (λ v. line ++ v) (sym (ap (λ v. encoded_text r.encoding (value_text r v value)) none ∙ ap (λ o. unwrap_or o [] ++ back) (encoded-ascii r.encoding equals_sign (lit< tt))))

-- and none where something does
pub value-separated : (r : Repertoire) (separator value : List ℕ) → separator ≢ [] → printed_value r (is_blanks separator) value ≡ value_text r separator value
value-separated r [] value some = absurd (some refl)
value-separated r (c ∷ cs) value some = refl

-- a text with bytes has characters
pub text-some : (x : List ℕ) → IsUtf8 x → false ≡ (length x == 0) → chars x ≢ []
text-some x u h none = let q : true ≡ false = sym (ap is_empty none) ∙ is_empty-chars x u ∙ sym h in absurd (cc)

-- ---- a separator

-- a character is pushed that is no blank after a blank
pub pushed-shortened : (old new : List ℕ) (c : ℕ) (was : Bool) → IsUtf8 old → IsScalar c → new ≡ old ++ encode_utf8 c → (was && is_blank c) ≡ false
    → chars new ≡ chars old ++ (if was && is_blank c then [] else c ∷ [])
pushed-shortened old new c was u s h none =
    chars-more old new c u s h ∙ ap (λ v. chars old ++ v) (sym (cond-false (was && is_blank c) [] (c ∷ []) none))

-- a text and more of it, with one blank of each run of blanks
pub shortened-more : (was : Bool) (text short next : List ℕ) (c : ℕ) → ((rest : List ℕ) → shortened_after false (text ++ rest) ≡ short ++ shortened_after was rest)
    → next ≡ short ++ (if was && is_blank c then [] else c ∷ [])
    → (rest : List ℕ) → shortened_after false ((text ++ c ∷ []) ++ rest) ≡ next ++ shortened_after (is_blank c) rest
shortened-more was text short next c h is rest =
    ap (shortened_after false) (append_assoc text (c ∷ []) rest)
    ∙ h (c ∷ rest)
    ∙ elim (cases_Bool (was && is_blank c)) [
      | inl k ↦ rw (is, k) (ap (λ v. short ++ v) (after-blank was c rest k) ∙ ap (λ v. v ++ shortened_after (is_blank c) rest) (sym (append-nil short)))
      | inr k ↦ rw (is, k) (sym (append_assoc short (c ∷ []) (shortened_after (is_blank c) rest)))
    ]
  where
    after-blank : (was : Bool) (c : ℕ) (rest : List ℕ) → (was && is_blank c) ≡ true → shortened_after true rest ≡ shortened_after (is_blank c) rest
    after-blank true c rest k = ap (λ b. shortened_after b rest) (sym k)
    after-blank false c rest k = absurd (cc)

-- ---- a new pair

-- the bytes of a line ending are its characters
pub ending-bytes : (bs : List ℕ) (by : LineEnding) → IsUtf8 bs → chars bs ≡ line_ending_text by → bs ≡ line_ending_text by
ending-bytes bs by u h = line_ending-bytes windows_1252 bs by u h ∙ encoded_text-ascii windows_1252 (line_ending_text by) (line_ending-ascii by)

-- ---- the separator of a new pair

-- an equals sign, as text
pub equals-text : chars (equals_sign ∷ []) ≡ equals_sign ∷ []
unfolding chars
equals-text = refl

-- blanks after an empty key
pub indent-empty : (key separator : List ℕ) (told : Bool) → IsUtf8 key → true ≡ (length key == 0) → told ≡ is_blanks (chars separator)
    → told ≡ (is_empty (chars key) && is_blanks (chars separator))
indent-empty key separator told u h k = k ∙ ap (λ b. b && is_blanks (chars separator)) (h ∙ sym (is_empty-chars key u))

pub indent-full : (key separator : List ℕ) → IsUtf8 key → false ≡ (length key == 0) → false ≡ (is_empty (chars key) && is_blanks (chars separator))
indent-full key separator u h = ap (λ b. b && is_blanks (chars separator)) (h ∙ sym (is_empty-chars key u))

-- an equals sign where nothing separates the pair, or where blanks would be an indent
pub separator_for-none : (key separator : List ℕ) → separator ≡ [] → equals_sign ∷ [] ≡ separator_after key separator
separator_for-none key separator h = ap (separator_after key) (sym h)

pub separator_for-indent : (key separator : List ℕ) → (is_empty key && is_blanks separator) ≡ true → equals_sign ∷ [] ≡ separator_after key separator
separator_for-indent key [] h = refl
separator_for-indent key (c ∷ cs) h = sym (cond-true (is_empty key && is_blanks (c ∷ cs)) (equals_sign ∷ []) (shortened_after false (c ∷ cs)) h)

-- and otherwise the separator, shortened
pub separator_for-other : (key separator : List ℕ) → separator ≢ [] → (is_empty key && is_blanks separator) ≡ false → shortened_after false separator ≡ separator_after key separator
separator_for-other key [] some h = absurd (some refl)
separator_for-other key (c ∷ cs) some h = sym (cond-false (is_empty key && is_blanks (c ∷ cs)) (equals_sign ∷ []) (shortened_after false (c ∷ cs)) h)
