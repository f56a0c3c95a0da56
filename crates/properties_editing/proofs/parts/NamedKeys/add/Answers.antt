use Rattle.std.proofs.Common.{length, refl, ◌++◌, ◌∷◌, [], ap, sym, ◌∙◌}
use Rattle.std.specs.Option.{is_some}
use Rattle.std.specs.Prelude.{Some}
use Rattle.std.proofs.lemmas.Str.{encodes-chars}
use Rattle.std.specs.Str.{chars}
use Rattle.properties_items.proofs.TextMaps.Values.{at_chars-sorted, at_chars-updated}
use Rattle.properties_editing.specs.Private.BodyParts.{places_of}
use Rattle.properties_editing.specs.declared.parts.NamedKeys.{NamedKeys}
use Rattle.properties_editing.proofs.NamedKeys.{not-named}
use Rattle.properties_editing.proofs.parts.NamedKeys.add.Goals as goal

pub returns-in_default : goal.returns-in_default
returns-in_default c =
    let old = c.args.self.now in
    let none = at_chars-sorted old.places c.args.key.now c.utf8.key ∙ sym c.in_default.ensures.value in (
      rw (c.if-self.false, none) refl,
      ap (λ m. let k : NamedKeys = record { all = old.all; places = m; lengths = old.lengths } in k) c.get_mut.follows.holds-at-none,
    )

pub returns : goal.returns
returns c =
    let old = c.args.self.now in
    let key = c.args.key.now in
    let found = at_chars-sorted old.places key c.utf8.key ∙ sym c.in-Some.ensures.value in
    let next = c.add.new.self in
    let written = c.get_mut.follows.holds next in (
      rw (c.if-self.false, found) refl,
      record {
        pair = next;
        stored = at_chars-updated old.places (c.get_mut.follows.lender next) key c.utf8.key (Some next) (written.3 (ap is_some (sym c.in-Some.ensures.value)));
        places = c.in_ok-add.ensures.places ∙ ap (λ v. v ++ c.args.place ∷ []) (sym (ap places_of found));
        has_value = λ all. let no = sym all ∙ c.if-self.false in absurd (cc);
        ordered = written.4;
        all = refl;
        lengths = refl;
      },
    )

pub returns-then-not-may_have : goal.returns-then-not-may_have
returns-then-not-may_have c =
    let key = c.args.key.now in
    let told = sym c.if-not-may_have.true ∙ c.may_have.ensures in
    (not-named c.args.self.now (chars key) (length key) c.requires.masked (sym (ap length (encodes-chars key c.utf8.key))) told, refl)
