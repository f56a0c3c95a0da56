use Rattle.std.proofs.Common.{◌≡◌, ◌<◌, ap₂, arith, length, subst, sym, take}
use Rattle.std.specs.Str.{chars}
use Rattle.properties_renaming.specs.Renames.{name_in, names_in, new_name}
use Rattle.properties_renaming.specs.Private.Renames.{AreAccepted, IsAccepted, TellsRefusal}
use Rattle.properties_renaming.proofs.KeyedValues.{not-some}
use Rattle.properties_renaming.proofs.RenamesAtOnce.{accepted-push}
use Rattle.properties_renaming.proofs.RenamesInTurn.{names-more}
use Rattle.properties_renaming.proofs.renames.first_refused.Goals as goal

pub loop-index-preserved : goal.loop-index-preserved
loop-index-preserved c =
    let i = c.loop-index.index in
    let renames = c.args.renames.now in
    let rename = c.index-renames-index.result in
    let names = names_in renames in
    let lines = c.args.lines.now.entries in
    let within : i < length renames = omega arith in
    let name : new_name (chars c.deref.result.now) (chars c.deref-in-loop-index.result.now) ≡ name_in rename =
    ap₂ (λ old new. new_name (chars old) (chars new)) c.deref.ensures c.deref-in-loop-index.ensures in
    let told : TellsRefusal names lines (name_in rename) c.refusal.result =
    subst (λ n. TellsRefusal names lines n c.refusal.result) name (c.refusal.ensures names c.requires) in
    let accepted : IsAccepted names lines (name_in rename) =
    subst (TellsRefusal names lines (name_in rename)) (not-some c.refusal.result c.in_default.not-Some) told in
    subst (AreAccepted names lines) (sym (names-more renames i rename within c.index-renames-index.is))
    (accepted-push names lines (names_in (take i renames)) (name_in rename) c.loop-index.invariant accepted)
