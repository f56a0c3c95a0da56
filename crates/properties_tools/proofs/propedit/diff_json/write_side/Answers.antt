use Rattle.std.proofs.Common.{◌≡◌, ◌∙◌, ◌++◌, ◌∷◌, [], List, ap, ap₂, codes, refl, sym}
use Rattle.std.specs.{Fmt.decimal, Prelude.encode_utf8_all}
use Rattle.std.proofs.lemmas.Str.{encodes-chars}
use Rattle.json.specs.Token.{Token, begin_object, end_object, key, number, string}
use Rattle.properties_tools.proofs.propedit.diff_json.write_side.Goals as goal

in-turn : (w : List Token) (a b c d e f g : Token)
    → ((((((w ++ a ∷ []) ++ b ∷ []) ++ c ∷ []) ++ d ∷ []) ++ e ∷ []) ++ f ∷ []) ++ g ∷ [] ≡ w ++ a ∷ b ∷ c ∷ d ∷ e ∷ f ∷ g ∷ []
in-turn [] a b c d e f g = refl
in-turn (x ∷ w) a b c d e f g = ap (λ v. x ∷ v) (in-turn w a b c d e f g)

pub returns : goal.returns
returns c =
    let old = c.args.writer.now.tokens in
    let line = ap (λ n. number (decimal n)) c.line.ensures in
    let value = ap string (sym (encodes-chars c.value.result.now c.value.utf8) ∙ ap encode_utf8_all c.value.ensures) in
    let begun = c.in_ok-begin_object.ensures.ok ∙ ap (λ ts. ts ++ begin_object ∷ []) c.in_ok-key.ensures.ok in
    let numbered = c.in_ok-u64.ensures.ok ∙ ap (λ ts. ts ++ number (decimal c.line.result) ∷ [])
    (c.in_ok-key-2.ensures.ok ∙ ap (λ ts. ts ++ key (codes "line") ∷ []) begun) in
    let valued = c.in_ok-string.ensures.ok ∙ ap (λ ts. ts ++ string c.value.result.now ∷ [])
    (c.in_ok-key-3.ensures.ok ∙ ap (λ ts. ts ++ key (codes "value") ∷ []) numbered) in
    record {
      before = c.in_ok-end_object.ensures.room.0 ∙ c.in_ok-string.ensures.room.0 ∙ c.in_ok-key-3.ensures.room.0 ∙ c.in_ok-u64.ensures.room.0
          ∙ c.in_ok-key-2.ensures.room.0 ∙ c.in_ok-begin_object.ensures.room.0 ∙ c.in_ok-key.ensures.room.0;
      tokens_are = c.in_ok-end_object.ensures.ok ∙ ap (λ ts. ts ++ end_object ∷ []) valued
          ∙ in-turn old (key c.args.name.now) begin_object (key (codes "line")) (number (decimal c.line.result)) (key (codes "value"))
          (string c.value.result.now) end_object
          ∙ ap₂ (λ n s. old ++ key c.args.name.now ∷ begin_object ∷ key (codes "line") ∷ n ∷ key (codes "value") ∷ s ∷ end_object ∷ []) line value;
    }
