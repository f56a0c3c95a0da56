use Rattle.std.proofs.Common.{◌≡◌, List, [], ◌∷◌, ◌++◌, ◌∙◌, ap, ap₂, append_assoc, append-nil, arith, codes, drop, subst, sym}
use Rattle.std.specs.{Prelude.string_bytes, List.flat_map}
use Rattle.std.proofs.lemmas.List.{drop_all}
use Rattle.json.specs.{Print.print, Token.begin_object, Token.end_object, Tree.MembersHaveNumbers}
use Rattle.properties_checking.specs.{Private.Objects.member_tokens, Private.Objects.members_of, declared.objects.Member.Member}
use Rattle.properties_checking.proofs.Json.{members-line}
use Rattle.properties_checking.proofs.objects.push_object.Goals as goal

pub returns : goal.returns
returns c =
    let ms : List Member = c.args.members.now in
    let wrote = c.loop-member.invariant in
    let test = c.loop-member-test.false in
    let none : drop c.loop-member.member-index ms ≡ [] = drop_all c.loop-member.member-index ms (omega arith) in
    let numbers = wrote.2 (subst (λ v. MembersHaveNumbers (members_of v)) (sym none) tt) in
    let tokens =
    sym (append-nil c.loop-member.writer.tokens) ∙ ap (λ v. c.loop-member.writer.tokens ++ flat_map member_tokens v) (sym none) ∙ wrote.1 in
    let printed : c.into_inner-object.result.items ≡ print (begin_object ∷ (flat_map member_tokens ms ++ end_object ∷ [])) =
    c.into_inner-object.ensures.items
    ∙ ap₂ (λ b ts. b ++ print ts) (c.in_ok-end_object.ensures.room.0 ∙ wrote.0) (c.in_ok-end_object.ensures.ok ∙ ap (λ ts. ts ++ end_object ∷ []) tokens) in
    let pushed : string_bytes c.push_str.new.self ≡ string_bytes c.args.text.now ++ c.into_inner-object.result.items =
    c.in_ok-push_str-in-Ok.ensures.bytes ∙ ap (λ v. string_bytes c.args.text.now ++ v) (c.in-Ok.ensures.cases.0 ∙ c.deref.ensures.value) in
    record {
      line = c.into_inner-object.result.items ++ codes "\n";
      is_line = members-line ms _ numbers (ap (λ v. v ++ codes "\n") printed);
      is = c.in_ok-push_str.ensures.bytes ∙ ap (λ v. v ++ codes "\n") pushed
          ∙ append_assoc (string_bytes c.args.text.now) c.into_inner-object.result.items (codes "\n");
    }
