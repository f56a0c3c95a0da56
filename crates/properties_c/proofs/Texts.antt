-- The texts of records.
use Rattle.std.proofs.Common.{◌≡◌, ℕ, List, [], ap, ap₂, refl, sym, ◌∙◌}
use Rattle.std.specs.{Prelude.encode_utf8_all, Prelude.string_bytes, Str.IsUtf8, Str.chars, declared.string.String.String}
use Rattle.std.proofs.lemmas.Str.{encodes-chars, IsUtf8-string_bytes}
use Rattle.properties_format.specs.Items.{Content, comment, pair}
use Rattle.properties_c.specs.{Packed.Record, Packed.item_record, Private.Results.content_record, Private.Results.kind_of_content}

pub encoded-text : {Z : Type 0} (text : String Z) → encode_utf8_all (chars (string_bytes text)) ≡ string_bytes text
encoded-text text = encodes-chars (string_bytes text) (IsUtf8-string_bytes text)

pub ruleset texts = (encoded-text)

-- The bytes of a text are its characters in UTF-8.
pub text-bytes : (bytes text part : List ℕ) → bytes ≡ text → IsUtf8 text → text ≡ part → bytes ≡ encode_utf8_all (chars part)
text-bytes bytes text part is utf8 same = is ∙ sym (encodes-chars text utf8) ∙ ap (λ v. encode_utf8_all (chars v)) same

pub comment-record : (kind number : ℕ) (key value text : List ℕ) → key ≡ [] → value ≡ encode_utf8_all text
    → let r : Record = record { kind = kind; line = number; key = key; value = value } in r ≡ content_record kind number (comment text)
comment-record kind number key value text k v = ap₂ (λ p q. let r : Record = record { kind = kind; line = number; key = p; value = q } in r) k v

pub pair-record : (kind number : ℕ) (key value name text : List ℕ) → key ≡ encode_utf8_all name → value ≡ encode_utf8_all text
    → let r : Record = record { kind = kind; line = number; key = key; value = value } in r ≡ content_record kind number (pair name text)
pair-record kind number key value name text k v = ap₂ (λ p q. let r : Record = record { kind = kind; line = number; key = p; value = q } in r) k v

pub item-content : (number : ℕ) (c : Content) → content_record (kind_of_content c) number c ≡ item_record number c
item-content number (comment text) = refl
item-content number (pair key value) = refl
