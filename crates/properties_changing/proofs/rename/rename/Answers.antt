use Rattle.std.proofs.Common.{◌≡◌, ◌≢◌, rules, refl, inr, ap, ◌∙◌}
use Rattle.std.specs.Str.{chars}
use Rattle.properties_text.specs.Encoding.{encoding_of}
use Rattle.java_properties.specs.Maps.{characters}
use Rattle.properties_renaming.specs.Renaming.{IsTaken, LacksKey}
use Rattle.properties_changing.specs.Renaming.{renaming_options}
use Rattle.properties_changing.proofs.RefusedRenames.{refused-as}
use Rattle.properties_changing.proofs.rename.rename.Goals as goal

pub returns-in_ok-from_str-in-Err-NoKey : goal.returns-in_ok-from_str-in-Err-NoKey
returns-in_ok-from_str-in-Err-NoKey c =
    let e = encoding_of c.args.encoding in
    let renaming = c.args.renaming.now in
    let index = c.in-Err-NoKey.index in
    let key = c.in_ok-from_str-in-Err-NoKey.field-0 in
    let told = rw (c.in-Err-NoKey.field-0-is, c.deref.ensures.value) at c.in-Err-NoKey.ensures in
    let named = ap chars (c.in_ok-from_str-in-Err-NoKey.ensures.ok ∙ c.as_str-old.ensures.value) in
    let refused = refused-as (renaming_options c.args.encoding renaming) c.args.source.now renaming.list.items index
    (λ left name. LacksKey e left name.old) (λ left name. LacksKey e left name.old × (characters key ≡ name.old))
    c.index.result.now told.1 c.index.ensures (λ left lacks. (lacks, named)) in
    inr (search rules, (c.args.encoding, refl, (index, refused)))

pub returns-in_ok-from_str-in-Err-KeyTaken : goal.returns-in_ok-from_str-in-Err-KeyTaken
returns-in_ok-from_str-in-Err-KeyTaken c =
    let e = encoding_of c.args.encoding in
    let renaming = c.args.renaming.now in
    let index = c.in-Err-KeyTaken.index in
    let number = c.in-Err-KeyTaken.number in
    let key = c.in_ok-from_str-in-Err-KeyTaken.field-0 in
    let told = rw (c.in-Err-KeyTaken.field-0-is, c.deref.ensures.value) at c.in-Err-KeyTaken.ensures in
    let named = ap chars (c.in_ok-from_str-in-Err-KeyTaken.ensures.ok ∙ c.as_str-new.ensures.value) in
    let refused = refused-as (renaming_options c.args.encoding renaming) c.args.source.now renaming.list.items index
    (λ left name. (name.old ≢ name.new) × IsTaken e left name.old name.new number)
    (λ left name. (name.old ≢ name.new) × IsTaken e left name.old name.new number × (characters key ≡ name.new))
    c.index-in-Err-KeyTaken.result.now told.1 c.index-in-Err-KeyTaken.ensures (λ left taken. (taken.0, taken.1, named)) in
    inr (search rules, (c.args.encoding, refl, (index, refused)))
