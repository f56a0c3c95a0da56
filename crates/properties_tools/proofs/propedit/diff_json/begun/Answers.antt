use Rattle.std.proofs.Common.{◌∙◌, ◌++◌, ◌∷◌, [], ap, codes}
use Rattle.json.specs.Token.{begin_object, key, string}
use Rattle.properties_tools.proofs.propedit.diff_json.begun.Goals as goal

pub returns-clause-before : goal.returns-clause-before
returns-clause-before c =
    c.in_ok-string.ensures.room.0 ∙ c.in_ok-key.ensures.room.0 ∙ c.in_ok-begin_object.ensures.room.0 ∙ c.new-writer.ensures.before
    ∙ ap (λ v. v.items) c.replace.ensures.value

pub returns-clause-tokens : goal.returns-clause-tokens
returns-clause-tokens c =
    c.in_ok-string.ensures.ok ∙ ap (λ ts. ts ++ string c.args.name.now ∷ []) (c.in_ok-key.ensures.ok
    ∙ ap (λ ts. ts ++ key (codes "key") ∷ []) (c.in_ok-begin_object.ensures.ok ∙ ap (λ ts. ts ++ begin_object ∷ []) c.new-writer.ensures.tokens))
