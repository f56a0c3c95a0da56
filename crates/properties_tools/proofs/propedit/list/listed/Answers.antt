use Rattle.std.proofs.Common.{◌≡◌, ◌∙◌, ◌<◌, ap, arith, get_or, length, sym}
use Rattle.std.specs.Str.{chars}
use Rattle.std.proofs.lemmas.List.{get_or-map, length-map}
use Rattle.java_properties.specs.Findings.{KeyPlace}
use Rattle.properties_tools.specs.{Propedit.Listing.is_key_listed, Propedit.Texts.ended}
use Rattle.properties_tables.specs.Private.Table.{place_keys, places_in}
use Rattle.properties_tables.proofs.KeyTables.{none}
use Rattle.properties_tools.proofs.{PrintedLists.passed, PrintedLists.printed, propedit.list.listed.Goals.then-is_listed+in_ok-push_ended}
use Rattle.properties_tools.proofs.propedit.list.listed.Goals.{else-is_listed}
use Rattle.properties_tools.proofs.propedit.list.listed.Goals as goal

pub loop-row-preserved : goal.loop-row-preserved
loop-row-preserved c =
    let places = places_in c.args.keys.now in
    let keys = place_keys places in
    let row = c.loop-row.row in
    let key = chars c.key-key.result.now in
    let listed = is_key_listed (chars c.args.prefix.now) in
    let within : row < length places = omega arith in
    let below : row < length keys = let l = length-map places (λ (p : KeyPlace). p.key) in omega arith in
    let is : get_or keys row key ≡ key = get_or-map (λ (p : KeyPlace). p.key) places row none key within ∙ sym (c.key-key.ensures none) in
    elim c.if-is_listed.branch [
      | then-is_listed+in_ok-push_ended w ↦
          ap (λ v. v.items) w.text-is ∙ w.in_ok-push_ended.ensures
          ∙ printed listed (ended c.args.end) keys row key below is c.loop-row.text.items c.loop-row.invariant (sym c.is_listed.ensures ∙ w.if-is_listed.true)
      | else-is_listed w ↦
          ap (λ v. v.items) w.text-is
          ∙ passed listed (ended c.args.end) keys row key below is c.loop-row.text.items c.loop-row.invariant (sym c.is_listed.ensures ∙ w.if-is_listed.false)
    ]
