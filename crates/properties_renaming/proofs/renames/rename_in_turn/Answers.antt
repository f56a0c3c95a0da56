use Rattle.std.proofs.Common.{◌-◌, ◌<◌, arith, drop, length, subst, sym, take}
use Rattle.std.specs.Prelude.{Err}
use Rattle.std.proofs.lemmas.List.{length-drop, take_all}
use Rattle.properties_renaming.specs.Renames.{AreRenamedInTurn, names_in}
use Rattle.properties_renaming.specs.Private.Renames.{IsInEditableEncoding, MakesFirst, RenamesSome}
use Rattle.properties_renaming.proofs.RenamesInTurn.{read-run, refused, run-more}
use Rattle.properties_renaming.proofs.renames.rename_in_turn.Goals as goal

pub loop-index-init : goal.loop-index-init
loop-index-init c =
    let same = c.in_ok-left.ensures.same in
    record { within = omega arith; made = same; read = subst (IsInEditableEncoding c.args.options) (sym same) c.requires }

pub loop-index-preserved : goal.loop-index-preserved
loop-index-preserved c =
    let i = c.loop-index.index in
    let renames = c.args.renames.now in
    let run = c.in-Ok.field-0 in
    let left = c.loop-index.left.items in
    let h = c.loop-index.invariant in
    let size = length-drop i renames in
    let rest = take_all (length renames - i) (drop i renames) (omega arith) in
    let some : MakesFirst c.args.options c.deref.result.now (take (length renames - i) (drop i renames)) run = c.in-Ok.ensures in
    let more = rw (rest, c.deref.ensures.value) at some in
    let below = more.within in
    record {
      within = omega arith;
      made = run-more c.args.options c.args.source.now left renames i run h.made more;
      read = read-run c.args.options left run.bytes.items (take run.count (drop i renames)) h.read more.made;
    }

pub loop-index-smaller : goal.loop-index-smaller
loop-index-smaller c =
    let i = c.loop-index.index in
    let renames = c.args.renames.now in
    let run = c.in-Ok.field-0 in
    let size = length-drop i renames in
    let rest = take_all (length renames - i) (drop i renames) (omega arith) in
    let made : MakesFirst c.args.options c.deref.result.now (take (length renames - i) (drop i renames)) run = c.in-Ok.ensures in
    let more = rw rest at made in
    let some = more.some in
    let below = more.within in
    omega arith

pub returns-in-Err : goal.returns-in-Err
returns-in-Err c =
    let i = c.loop-index.index in
    let renames = c.args.renames.now in
    let left = c.loop-index.left.items in
    let error = c.in-Err.error in
    let h = c.loop-index.invariant in
    let within : i < length renames = omega arith in
    let size = length-drop i renames in
    let rest = take_all (length renames - i) (drop i renames) (omega arith) in
    let some : RenamesSome c.args.options left (drop i renames) (Err error) =
    subst (λ rs. RenamesSome c.args.options left rs (Err error)) rest
    (subst (λ s. RenamesSome c.args.options s (take (length renames - i) (drop i renames)) (Err error)) c.deref.ensures.value c.in-Err.ensures) in
    rw c.error_at.ensures (refused c.args.options c.args.source.now left renames i error within h.made some)

pub returns : goal.returns
returns c =
    let renames = c.args.renames.now in
    subst (λ rs. AreRenamedInTurn c.args.options c.args.source.now (names_in rs) c.loop-index.left.items)
    (take_all c.loop-index.index renames (omega arith)) c.loop-index.invariant.made
