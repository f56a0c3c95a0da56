use Rattle.std.proofs.Common.{◌≡◌, ◌∙◌, ap, sym}
use Rattle.std.specs.Prelude.{Some, None}
use Rattle.std.specs.Option.{option_map}
use Rattle.std.specs.Str.{chars}
use Rattle.std.proofs.lemmas.Result.{IfOk-weaker}
use Rattle.properties_format.specs.Valued.{separator_after}
use Rattle.properties_text.specs.Encoding.{encoding_of}
use Rattle.properties_items.specs.Texts.{characters}
use Rattle.properties_editing.specs.Private.EditedParts.{between_last}
use Rattle.properties_editing.proofs.LastPairs.{separator-none, separator-found}
use Rattle.properties_editing.proofs.NewPairs.{equals-text}
use Rattle.properties_editing.proofs.plan.separator_of.Goals as goal
use Rattle.properties_editing.proofs.plan.separator_of.Goals.{in-Some+in_ok-separator-in-Some, in-None}

pub separator_like-requires-clause-alone : goal.separator_like-requires-clause-alone
separator_like-requires-clause-alone c = rw c.in-Some.is at c.requires.last

pub returns-in-Some-separator : goal.returns-in-Some-separator
returns-in-Some-separator c =
    let e = encoding_of c.args.encoding in
    let key = chars c.args.key.now in
    let last = between_last e (option_map (λ pair. pair.now) c.args.last) in
    let told : Some (characters c.in-Some-separator.separator) ≡ option_map (separator_after key) last =
    elim c.match-last.branch [
      | in-Some+in_ok-separator-in-Some w ↦
          ap (option_map characters) (sym c.in-Some-separator.is ∙ w.separator-is) ∙ w.in_ok-separator-in-Some.ensures
          ∙ sym (ap (λ o. option_map (separator_after key) (between_last e (option_map (λ pair. pair.now) o))) w.in-Some.is)
      | in-None w ↦ let none = sym c.in-Some-separator.is ∙ w.separator-is in absurd (cc)
    ] in
    separator-found key (characters c.in-Some-separator.separator) last told

pub returns-in-None-separator : goal.returns-in-None-separator
returns-in-None-separator c =
    let e = encoding_of c.args.encoding in
    let key = chars c.args.key.now in
    let last = between_last e (option_map (λ pair. pair.now) c.args.last) in
    let told : None ≡ option_map (separator_after key) last =
    elim c.match-last.branch [
      | in-Some+in_ok-separator-in-Some w ↦
          ap (option_map characters) (sym c.in-None-separator.is ∙ w.separator-is) ∙ w.in_ok-separator-in-Some.ensures
          ∙ sym (ap (λ o. option_map (separator_after key) (between_last e (option_map (λ pair. pair.now) o))) w.in-Some.is)
      | in-None w ↦ sym (ap (λ o. option_map (separator_after key) (between_last e (option_map (λ pair. pair.now) o))) w.in-None.is)
    ] in
    IfOk-weaker c.from_str.result _ _ (λ text h. ap chars h ∙ equals-text ∙ separator-none key last told) c.from_str.ensures.ok
