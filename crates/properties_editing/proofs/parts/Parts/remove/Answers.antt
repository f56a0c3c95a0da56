use Rattle.std.proofs.Common.{[], ◌≡◌, ◌≢◌, length, refl, ap, ap₂, sym, subst, ◌∙◌}
use Rattle.std.specs.Prelude.{None, nat_lt, if◌then◌else◌}
use Rattle.std.specs.Str.{chars}
use Rattle.std.proofs.lemmas.Bool.{le-ltb, lt-ltb}
use Rattle.properties_items.proofs.TextMaps.Values.{at_chars-sorted, at_chars-updated}
use Rattle.properties_editing.specs.Private.BodyParts.{listed, places_of, taken_all}
use Rattle.properties_editing.specs.Private.PartBounds.{AreEmpty}
use Rattle.properties_editing.specs.Private.RemovedParts.{AreBelow, ForgetsKey, key_places, without_empty_end}
use Rattle.properties_editing.specs.declared.groups.Closing.TheVariants.{Nothing}
use Rattle.properties_editing.proofs.PartBounds.{empty-trimmed}
use Rattle.properties_editing.proofs.PartsLeft.{have-places}
use Rattle.properties_editing.proofs.parts.Parts.remove.Goals as goal
use Rattle.properties_editing.proofs.parts.Parts.remove.Goals.{then-len-size, else-len-size}

pub returns-in_default-clause-parts : goal.returns-in_default-clause-parts
returns-in_default-clause-parts c =
    let old = c.args.self.now.keys.places in
    let key = c.args.key.now in
    let none = at_chars-sorted old key c.utf8.key ∙ sym c.in_default.ensures.value in (
      record {
        stored = at_chars-updated old c.remove.new.self key c.utf8.key None c.in_default.ensures.updates;
        all = refl;
        ordered = c.in_default.ensures.ordered;
      },
      record { none = ap places_of none; parts = refl; closing = refl },
    )

pub returns-in_default-places-clause-parts : goal.returns-in_default-places-clause-parts
returns-in_default-places-clause-parts c =
    let old = c.args.self.now.keys.places in
    let key = c.args.key.now in
    let found = at_chars-sorted old key c.utf8.key ∙ sym c.in-Some.ensures.value in (
      record {
        stored = at_chars-updated old c.remove.new.self key c.utf8.key None c.in-Some.ensures.updates;
        all = refl;
        ordered = c.in-Some.ensures.ordered;
      },
      record { none = ap places_of found ∙ ap listed c.in_default-places.is; parts = refl; closing = refl },
    )

pub take_all_out-requires-clause-places : goal.take_all_out-requires-clause-places
take_all_out-requires-clause-places c =
    let found = at_chars-sorted c.args.self.now.keys.places c.args.key.now c.utf8.key ∙ sym c.in-Some.ensures.value in
    subst (AreBelow (length c.args.self.now.parts.items)) (ap places_of found ∙ ap listed c.in-Some-places.is) c.requires.places

pub returns-clause-parts : goal.returns-clause-parts
returns-clause-parts c =
    let was = c.args.self.now in
    let old = was.keys.places in
    let key = c.args.key.now in
    let d = c.args.body.now in
    let found = at_chars-sorted old key c.utf8.key ∙ sym c.in-Some.ensures.value in
    let places = ap places_of found ∙ ap listed c.in-Some-places.is in
    let taken = c.take_all_out.ensures.parts ∙ ap (λ v. taken_all d v was.parts.items) (sym places) in
    let items = c.drop_empty_end.ensures ∙ ap without_empty_end taken in
    let some : key_places was (chars key) ≢ [] = λ none. have-places c.in-Some-places.places (sym places ∙ none) in
    let forgets : ForgetsKey (chars key) was.keys (record { all = was.keys.all; places = c.remove.new.self; lengths = was.keys.lengths }) = record {
      stored = at_chars-updated old c.remove.new.self key c.utf8.key None c.in-Some.ensures.updates;
      all = refl;
      ordered = c.in-Some.ensures.ordered;
    } in
    let new : c.len.result ≡ length c.drop_empty_end.new.parts.items = c.len.ensures ∙ c.drop_empty_end.new.parts.ok.0 in
    let all : c.len-size.result ≡ length (taken_all d (key_places was (chars key)) was.parts.items) =
    c.len-size.ensures ∙ c.take_all_out.new.parts.ok.0 ∙ ap length taken in
    let shorter = ap₂ nat_lt (sym new) (sym all) in
    elim c.if-len-size.branch [
      | then-len-size w ↦
          let less = shorter ∙ lt-ltb _ _ w.if-len-size.true in
          rw w.self-is (forgets, (some, record { items = items; closing = ap (λ b. if b then Nothing else was.closing) (sym less) }))
      | else-len-size w ↦
          let less = shorter ∙ le-ltb _ _ w.if-len-size.false in
          rw w.self-is (forgets, (some, record { items = items; closing = ap (λ b. if b then Nothing else was.closing) (sym less) }))
    ]

pub returns-clause-empty : goal.returns-clause-empty
returns-clause-empty c =
    let gone = c.take_all_out.result in
    let empty = subst (AreEmpty gone.start gone.end) (sym c.drop_empty_end.ensures)
    (empty-trimmed c.args.body.now gone.start gone.end c.take_all_out.new.parts.items c.take_all_out.ensures.empty) in
    elim c.if-len-size.branch [ then-len-size w ↦ rw w.self-is empty | else-len-size w ↦ rw w.self-is empty ]
