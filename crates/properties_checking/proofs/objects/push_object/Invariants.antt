use Rattle.std.proofs.Common.{◌≡◌, ◌++◌, ◌∷◌, [], drop}
use Rattle.std.specs.List.{flat_map}
use Rattle.json.specs.{Token.begin_object, Tree.MembersHaveNumbers}
use Rattle.properties_checking.specs.Private.Objects.{member_tokens, members_of}
use Rattle.properties_checking.proofs.objects.push_object.Given as goal

abbrev pub invariant-loop-member : goal.invariant-loop-member
invariant-loop-member l =
    (l.writer.before ≡ [])
    × (l.writer.tokens ++ flat_map member_tokens (drop l.member-index l.members) ≡ begin_object ∷ flat_map member_tokens l.members)
    × (MembersHaveNumbers (members_of (drop l.member-index l.members)) → MembersHaveNumbers (members_of l.members))
