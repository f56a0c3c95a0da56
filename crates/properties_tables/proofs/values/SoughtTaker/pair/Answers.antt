use Rattle.std.proofs.Common.{refl, ap, sym, ◌∙◌}
use Rattle.std.specs.{Option.is_some, Option.option_map, Prelude.Some, Str.chars}
use Rattle.properties_items.proofs.TextMaps.Values.{at_chars-sorted, at_chars-updated}
use Rattle.properties_items.specs.Texts.{characters}
use Rattle.properties_tables.specs.declared.values.Sought.{Sought}
use Rattle.properties_tables.proofs.SoughtKeys.{not-sought, took-found, took-other}
use Rattle.properties_tables.proofs.values.SoughtTaker.pair.Goals as goal

pub returns-then-not-is_marked : goal.returns-then-not-is_marked
returns-then-not-is_marked c =
    let old = c.args.self.now in
    let none = not-sought old c.args.key.now c.utf8.key c.requires.2.seeking (sym c.is_marked.ensures ∙ c.if-not-is_marked.true) in
    took-other old old c.args._line_number (chars c.args.key.now) (chars c.args.value.now) c.requires.2.seeking none refl

pub returns-in_default : goal.returns-in_default
returns-in_default c =
    let old = c.args.self.now in
    let none = ap (option_map (option_map characters)) (at_chars-sorted old.values c.args.key.now c.utf8.key ∙ sym c.in_default.ensures.value) in
    took-other old _ c.args._line_number (chars c.args.key.now) (chars c.args.value.now) c.requires.2.seeking none
    (ap (λ m. let s : Sought = record { values = m; marks = old.marks; malformed = old.malformed } in s) c.get_mut.follows.holds-at-none)

pub returns : goal.returns
returns c =
    let old = c.args.self.now in
    let key = c.args.key.now in
    let text = c.in_ok-from_str.field-0 in
    let found = at_chars-sorted old.values key c.utf8.key ∙ sym c.in-Some.ensures.value in
    let written = c.get_mut.follows.holds (Some text) in
    took-found old _ c.args._line_number (chars key) (chars c.args.value.now) c.requires.2.seeking text refl written.4 refl
    (ap chars c.in_ok-from_str.ensures.ok) c.in-Some.held.now found
    (at_chars-updated old.values (c.get_mut.follows.lender (Some text)) key c.utf8.key (Some (Some text))
    (written.3 (ap is_some (sym c.in-Some.ensures.value))))
