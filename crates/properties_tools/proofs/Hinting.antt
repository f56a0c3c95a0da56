-- Why the hint on an answer isn't found.
use Rattle.std.proofs.Common.{◌≡◌, ℕ, true, false, List, [], ◌∷◌, refl, sym, ap, subst, ◌∙◌, inl, inr}
use Rattle.std.specs.Prelude.{◌⊎◌, map, Option, Some, None, Result, Ok, Err}
use Rattle.std.specs.{Global.Global, Global.Vec, Option.option_map, declared.string.String.String}
use Rattle.java_properties.specs.Maps.{characters}
use Rattle.properties_text.specs.Encoding.{encoding_of}
use Rattle.properties_format.specs.Encoding.{Encoding}
use Rattle.properties_tables.specs.{Failures.IsMemoryFailure, Sources.IsSound, Sources.IsUnsound, Values.SaysMalformed, declared.error.Failure.Failure}
use Rattle.properties_changing.specs.Change.{Changes, ChangesByStep, in_order}
use Rattle.properties_changing.specs.declared.request.Change.{Change}
use Rattle.properties_changing.specs.declared.request.Change.TheVariants as change
use Rattle.properties_changing.specs.declared.request.Step.{Step}
use Rattle.properties_changing.specs.declared.request.Step.TheVariants as step
use Rattle.properties_changing.proofs.SoughtKeys.{lost}
use Rattle.properties_tables.specs.declared.error.Failure.TheVariants.{Absent, KeyTaken, Texts, Utf32Mark, HoldsZero, NotUtf8, NotUtf8ByMark, NotUtf16, Malformed, Input, Output}
use Rattle.properties_tools.specs.{Private.Hinting.is_input, Private.Hinting.FindsFileHint, Private.Hinting.FindsHint, Private.Hinting.FindsNote}
use Rattle.properties_tools.specs.{Propedit.source_name, Propedit.AnswersCommand, Propedit.Comment.ShowsTexts, Propedit.Get.GetsValues}
use Rattle.properties_tools.specs.Propedit.Hints.{FailsToTell, IsUntold, TellsNote}
use Rattle.properties_tools.specs.declared.propedit.request.{Job.Job, Note.Note, Terminator.Terminator}
use Rattle.properties_tools.specs.declared.propedit.request.Command.{Command}
use Rattle.properties_tools.specs.declared.propedit.request.Command.TheVariants as command

module _ (e : Encoding) (source : List ℕ) (failure : Failure) (h : IsMemoryFailure failure) where
  unsound : IsUnsound e source failure
  unsound = subst (IsUnsound e source) (sym h.is) h.memory

  memory-step : (s : Step) → ChangesByStep e source s (Err failure)
  memory-step (step.Edits edits) = inl unsound
  memory-step (step.Removal removal) = inl (inl unsound)
  memory-step (step.Renaming renaming) = inl unsound
  memory-step (step.NewComments comments) = inl unsound

  memory-change : (c : Change) → Changes e source c (Err failure)
  memory-change (change.Edits edits) = inl unsound
  memory-change (change.Steps steps) = record {
    before = [];
    failed = steps.first;
    after = steps.others.items;
    division = refl;
    left = source;
    leave = refl;
    fails = memory-step steps.first;
  }
  memory-change (change.Conversion c) = inr h

  -- Each command may fail for want of memory.
  pub memory-answers : (name : List ℕ) (asked : Command) → AnswersCommand name e asked source (Err failure)
  memory-answers name (command.Get keys default end) = unsound
  memory-answers name (command.List prefix end) = unsound
  memory-answers name (command.ListValues prefix end) = unsound
  memory-answers name (command.ListJson prefix) = unsound
  memory-answers name (command.Comment key) = inl unsound
  memory-answers name (command.Check check) = h
  memory-answers name (command.CheckAgainst check base) = h
  memory-answers name (command.Change c) = memory-change c

-- ---- a note

module _ (e : Encoding) (source : List ℕ) where
  of-unsound : (failure : Failure) → IsUnsound e source failure → is_input failure ≡ true → IsMemoryFailure failure
  of-unsound (Input error) h is = record { error = error; is = refl; memory = h }
  of-unsound (Absent key) h is = absurd (cc)
  of-unsound (KeyTaken number key) h is = absurd (cc)
  of-unsound (Texts flaw) h is = absurd (cc)
  of-unsound Utf32Mark h is = absurd (cc)
  of-unsound (HoldsZero number) h is = absurd (cc)
  of-unsound (NotUtf8 number) h is = absurd (cc)
  of-unsound (NotUtf8ByMark number) h is = absurd (cc)
  of-unsound (NotUtf16 number) h is = absurd (cc)
  of-unsound (Malformed escape) h is = absurd (cc)
  of-unsound (Output error) h is = absurd (cc)

  -- Where nothing is read, an error of reading is want of memory.
  of-input : (failure : Failure) → FailsToTell e source failure → is_input failure ≡ true → IsMemoryFailure failure
  of-input failure (inl (inl m)) is = let other = ap is_input m.is in absurd (cc)
  of-input failure (inl (inr l)) is = l
  of-input failure (inr h) is = of-unsound failure h is

  not-memory : (failure : Failure) → is_input failure ≡ false → ¬ IsMemoryFailure failure
  not-memory failure is m = let other = ap is_input m.is in cc

  pub line-told : (note : Option Note) (line : Option (String Global)) → TellsNote e source note (Ok line) → FindsNote e source note (Ok line)
  line-told None None h = tt
  line-told None (Some line) h = absurd (cc)
  line-told (Some note) None h = inl h
  line-told (Some note) (Some line) h = h

  pub line-lost : (note : Option Note) (failure : Failure) → TellsNote e source note (Err failure) → is_input failure ≡ true → FindsNote e source note (Err failure)
  line-lost None failure h is = absurd (cc)
  line-lost (Some note) failure h is = of-input failure h is

  pub line-untold : (note : Option Note) (failure : Failure) → TellsNote e source note (Err failure) → is_input failure ≡ false → FindsNote e source note (Ok None)
  line-untold None failure h is = tt
  line-untold (Some note) failure h is = inr (failure, h, not-memory failure is)

-- ---- a file

module _ (job : Job) (files : List (List ℕ)) (source : List ℕ) (status : ℕ) (untold : IsUntold (encoding_of job.encoding) source job.note) where
  -- Keys are looked up in a sound source, unless memory runs out.
  sound-memory : (failure : Failure) → SaysMalformed (encoding_of job.encoding) source failure ⊎ IsMemoryFailure failure
      → IsSound (encoding_of job.encoding) source
      → AnswersCommand (source_name job.source) (encoding_of job.encoding) job.command source (Err failure)
  sound-memory failure h sound =
      let e = encoding_of job.encoding in
      memory-answers e source failure (lost e source failure h sound) (source_name job.source) job.command

  get-hint : (keys : Vec (String Global)) (default : Option (String Global)) (end : Terminator) → job.command ≡ command.Get keys default end
      → (result : Result (Option (String Global)) Failure) → FindsFileHint (encoding_of job.encoding) source files result
      → FindsHint job files source status result
  get-hint keys default end is (Ok hint) h = inr (untold, rw is h)
  get-hint keys default end is (Err failure) h = λ answer a.
      let gets : GetsValues (encoding_of job.encoding) source (map characters keys.items) (option_map characters default) end answer = rw is at a in
      sound-memory failure h gets.sound

  comment-hint : (key : String Global) → job.command ≡ command.Comment key
      → (result : Result (Option (String Global)) Failure) → FindsFileHint (encoding_of job.encoding) source files result
      → FindsHint job files source status result
  comment-hint key is (Ok hint) h = inr (untold, rw is h)
  comment-hint key is (Err failure) h = λ answer a.
      let shows : ShowsTexts (encoding_of job.encoding) source (characters key) answer = rw is at a in
      sound-memory failure h shows.sound

  -- The hint on a command that looks up keys.
  pub key-hint : ((keys : Vec (String Global)) × (default : Option (String Global)) × (end : Terminator) × (job.command ≡ command.Get keys default end))
      ⊎ ((key : String Global) × (job.command ≡ command.Comment key))
      → (result : Result (Option (String Global)) Failure) → FindsFileHint (encoding_of job.encoding) source files result
      → FindsHint job files source status result
  key-hint (inl (keys, default, end, is)) result h = get-hint keys default end is result h
  key-hint (inr (key, is)) result h = comment-hint key is result h
