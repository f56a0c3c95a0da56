use Rattle.std.proofs.Common.{◌≡◌, ℕ, List, [], ◌∷◌, ◌++◌, ap, sym, ◌∙◌, append_assoc}
use Rattle.std.specs.Str.{chars, IsUtf8}
use Rattle.std.proofs.lemmas.Str.{encodes-chars}
use Rattle.properties_tools.specs.Propedit.Texts.{followed_text}
use Rattle.properties_tools.proofs.propedit.answer.push_followed.Goals as goal

-- A text and a byte after it are the text in UTF-8 and that byte.
pushed : (old word middle new : List ℕ) (byte : ℕ) → IsUtf8 word → middle ≡ old ++ word → new ≡ middle ++ (byte ∷ [])
    → new ≡ old ++ followed_text byte (chars word)
pushed old word middle new byte is a h =
    h ∙ ap (λ v. v ++ (byte ∷ [])) a ∙ append_assoc old word (byte ∷ []) ∙ ap (λ v. old ++ (v ++ (byte ∷ []))) (sym (encodes-chars word is))

pub returns : goal.returns
returns c =
    pushed c.args.text.now.items c.args.word.now c.extend_from_slice.new.self.items c.push.new.self.items c.args.byte c.utf8.word
    (c.in_ok-extend_from_slice.ensures.items ∙ ap (λ v. c.args.text.now.items ++ v) c.as_bytes.ensures.value) c.in_ok-push.ensures.items
