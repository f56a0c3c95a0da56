use Rattle.std.proofs.Common.{rules, ◌≡◌, ℕ, List, [], ◌∷◌, ◌++◌, true, encode_utf8, sym, ap, ◌∙◌, append_assoc, append-nil}
use Rattle.std.proofs.{Output.has_written_append, Output.has_written_of_eq, lemmas.List.nil_from_length, lemmas.Str.chars_past_char, lemmas.Str.chars-nil}
use Rattle.std.proofs.lemmas.Str.{IsUtf8-past_char}
use Rattle.std.specs.Char.{is_control}
use Rattle.properties_tables.specs.Messages.{all_shown, shown_by}
use Rattle.properties_tables.proofs.messages.EscapedDisplay.fmt.Goals as goal

-- one character more
shown-more : (done shown text : List ℕ) (left rest : List ℕ) (c : ℕ) → left ≡ c ∷ rest → shown ≡ shown_by (is_control c) c
    → done ++ all_shown left ≡ text → (done ++ shown) ++ all_shown rest ≡ text
shown-more done shown text left rest c next same is =
    append_assoc done shown (all_shown rest) ∙ ap (λ v. done ++ (v ++ all_shown rest)) same ∙ ap (λ v. done ++ all_shown v) (sym next) ∙ is

pub loop-character-init : goal.loop-character-init
loop-character-init g c = (search rules, λ plain. ([], search rules, search rules))

pub loop-character-preserved-in-Continue-1 : goal.loop-character-preserved-in-Continue-1
loop-character-preserved-in-Continue-1 g c = (
  IsUtf8-past_char _ _ c.in-Some.character c.loop-character.invariant.0 c.in-Some.ensures.steps.0,
  λ plain.
      let now = c.loop-character.invariant.1 plain in
      let ch = c.in-Some.character in
      let next = chars_past_char _ _ ch c.loop-character.invariant.0 c.in-Some.ensures.steps.0 in (
        now.0 ++ shown_by true ch,
        has_written_append _ _ _ _ _ _ now.1 (search rules),
        shown-more now.0 (shown_by true ch) _ _ _ ch next (ap (λ b. shown_by b ch) (sym c.if-is_control.true ∙ c.is_control.ensures)) now.2,
      ),
)

pub loop-character-preserved : goal.loop-character-preserved
loop-character-preserved g c = (
  IsUtf8-past_char _ _ c.in-Some.character c.loop-character.invariant.0 c.in-Some.ensures.steps.0,
  λ plain.
      let now = c.loop-character.invariant.1 plain in
      let ch = c.in-Some.character in
      let next = chars_past_char _ _ ch c.loop-character.invariant.0 c.in-Some.ensures.steps.0 in (
        now.0 ++ encode_utf8 ch,
        has_written_append _ _ _ _ _ _ now.1 (search rules),
        shown-more now.0 (encode_utf8 ch) _ _ _ ch next (ap (λ b. shown_by b ch) (sym c.if-is_control.false ∙ c.is_control.ensures)) now.2,
      ),
)

pub returns-clause-writes : goal.returns-clause-writes
returns-clause-writes g c = λ plain _.
    let now = c.loop-character.invariant.1 plain in
    let none = nil_from_length _ c.in-None.ensures.steps.0.0 in
    has_written_of_eq _ _ _ _ _ (rw (none, chars-nil, append-nil) at now.2) now.1
