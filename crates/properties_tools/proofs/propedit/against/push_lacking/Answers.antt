use Rattle.std.proofs.Common.{◌≡◌, ◌<◌, ◌≤◌, ◌∙◌, [], ◌∷◌, ap, ap₂, arith, length, subst, sym, take}
use Rattle.std.specs.Prelude.{get_or}
use Rattle.std.proofs.lemmas.List.{get_or_default, take_all}
use Rattle.properties_tools.specs.Private.Lacking.{is_lacking, key_place, lacking, lacking_kind, lacking_line, lacking_value, AddsLacking}
use Rattle.properties_tables.specs.Private.Table.{place_keys, table_places}
use Rattle.properties_checking.specs.Kinds.{is_ignored}
use Rattle.properties_tools.specs.declared.propedit.against.Sides.{Sides}
use Rattle.properties_checking.proofs.{Json.adds-both, Json.adds-none, LeftOut.all-reported, LeftOut.none-reported}
use Rattle.properties_tables.proofs.KeyTables.{none}
use Rattle.properties_tools.proofs.{PrintedLists.kept, PrintedLists.left_out, propedit.against.push_lacking.Goals.then-is_lacking+in_ok-push_key}
use Rattle.properties_tools.proofs.propedit.against.push_lacking.Goals.{else-is_lacking}
use Rattle.properties_tools.proofs.propedit.against.push_lacking.Goals as goal

pub loop-row-preserved : goal.loop-row-preserved
loop-row-preserved c =
    let s : Sides = c.args.sides.now in
    let places = table_places s.keys.now in
    let row = c.loop-row.row in
    let lacks = is_lacking s.are_well_formed (place_keys (table_places s.others.now)) in
    let size = c.len-row-end.ensures in
    let test = c.loop-row-test.true in
    let within : row < length places = omega arith in
    let place = get_or places row none in
    let is : get_or places row place ≡ place = get_or_default places row place none within in
    let told : lacks place.key ≡ c.is_lacking.result = ap lacks (sym (c.key-key.ensures none)) ∙ sym c.is_lacking.ensures in
    elim c.if-is_lacking.branch [
      | then-is_lacking+in_ok-push_key w ↦
          rw (w.text-is, kept (λ p. lacks p.key) places row place within is (told ∙ w.if-is_lacking.true)) (
          adds-both (lacking_line s.lacking s.heading.name.now s.base_name.now) (lacking_value s.lacking s.heading.name.now s.base_name.now) s.heading.report _ _
          c.loop-row.invariant
          (subst (λ p. AddsLacking s.lacking s (p ∷ []) c.loop-row.text w.push_key.new.text)
          (ap₂ key_place (c.key-key.ensures none) (w.first_line.ensures none)) w.in_ok-push_key.ensures)
          )
      | else-is_lacking w ↦
          rw (w.text-is, left_out (λ p. lacks p.key) places row place within is (told ∙ w.if-is_lacking.false)) c.loop-row.invariant
    ]

pub returns-then-contains : goal.returns-then-contains
returns-then-contains c =
    let s : Sides = c.args.sides.now in
    let told = ap (is_ignored s.heading.ignored) (sym c.kind.ensures) ∙ sym c.contains.ensures ∙ c.if-contains.true in
    subst (λ v. AddsLacking s.lacking s v c.args.text.now c.args.text.now)
    (sym (none-reported s.heading.ignored (lacking_kind s.lacking) (lacking s.are_well_formed (place_keys (table_places s.others.now)) (table_places s.keys.now)) told))
    (adds-none (lacking_line s.lacking s.heading.name.now s.base_name.now) (lacking_value s.lacking s.heading.name.now s.base_name.now) s.heading.report c.args.text.now)

pub returns : goal.returns
returns c =
    let s : Sides = c.args.sides.now in
    let places = table_places s.keys.now in
    let size = c.len-row-end.ensures in
    let test = c.loop-row-test.false in
    let past : length places ≤ c.loop-row.row = omega arith in
    let whole : take c.loop-row.row places ≡ places = take_all c.loop-row.row places past in
    let told = ap (is_ignored s.heading.ignored) (sym c.kind.ensures) ∙ sym c.contains.ensures ∙ c.if-contains.false in
    subst (λ v. AddsLacking s.lacking s v c.args.text.now c.loop-row.text)
    (sym (all-reported s.heading.ignored (lacking_kind s.lacking) (lacking s.are_well_formed (place_keys (table_places s.others.now)) places) told))
    (rw whole at c.loop-row.invariant)
