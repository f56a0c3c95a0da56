-- Calls that were made, one after another.
use Rattle.std.proofs.Common.{◌≡◌, Bool, true, false, ℕ, List, [], ◌∷◌, ◌++◌, refl, ap, sym, ◌∙◌, append-nil, cond, subst, ◌+◌, ◌<◌, ◌≤◌, zero, suc, length}
use Rattle.std.proofs.Common.{take, drop, get_or, add-one, arith, inl, inr}
use Rattle.std.specs.Prelude.{Some, None, is_some, map, Result, Ok, Err}
use Rattle.counted_io.specs.Streams.{Sink}
use Rattle.counted_io.proofs.Streams.{written-none, written-more}
use Rattle.properties_format.specs.Items.{Content, pair}
use Rattle.properties_format.specs.Settings.{Settings}
use Rattle.properties_format.specs.Writing.{Call, comment_call, pair_call, flush_call, is_accepted, settings_after_call, settings_after, line_count_after}
use Rattle.properties_format.specs.Writing.{written_line, answers, prefix_call, separator_call}
use Rattle.properties_format.proofs.Writing.{settings_after-append, line_count_after-append, wrote-append, answers-append}
use Rattle.java_properties.specs.PropertiesWriter.{Writing, HasWrittenLine, with_settings, SetsPrefix, SetsSeparator, with_prefix, with_separator}
use Rattle.java_properties.specs.Calls.{after_calls, flushed_after, MayMake, MayMakeAll, HasMade, HasMadeCall, FailsInCall, StopsAtCall, is_not_accepted}
use Rattle.java_properties.specs.Calls.{IsAcceptedResult, Fails, MakesCall}
use Rattle.std.proofs.lemmas.List.{take_all, length-map}
use Rattle.properties_items.specs.declared.error.PropertiesError.{PropertiesError}
use Rattle.std.proofs.lemmas.Bool.{false_from_ne_true}
use Rattle.properties_format.specs.Computed.Settings.{is_good_prefix, is_good_separator}
use Rattle.properties_format.proofs.Settings.Tests.{is_good_prefix-from, IsGoodPrefix-from_test, is_good_separator-from, IsGoodSeparator-from_test}
use Rattle.properties_items.specs.Errors.{kind_of}

-- calls that may be made, and others after them
may-append : (failed : Bool) (xs ys : List Call) → MayMakeAll failed xs → MayMakeAll failed ys → MayMakeAll failed (xs ++ ys)
may-append failed [] ys h k = k
may-append failed (x ∷ xs) ys h k = (h.0, may-append failed xs ys h.1 k)

-- whether calls leave the sink flushed goes on from call to call
flushed-append : (s : Settings) (b : Bool) (xs ys : List Call) → flushed_after s b (xs ++ ys) ≡ flushed_after (settings_after s xs) (flushed_after s b xs) ys
flushed-append s b [] ys = refl
flushed-append s b (comment_call text ∷ xs) ys = flushed-append s false xs ys
flushed-append s b (pair_call key value ∷ xs) ys = flushed-append s (cond (is_some (written_line s (pair_call key value))) false b) xs ys
flushed-append s b (flush_call ∷ xs) ys = flushed-append s true xs ys
flushed-append s b (call ∷ xs) ys = flushed-append (settings_after_call s call) b xs ys

-- a call alone, other than a flush, leaves no sink flushed
never-flushed : (s : Settings) (call : Call) → (call ≡ flush_call → ⊥) → flushed_after s false (call ∷ []) ≡ true → ⊥
never-flushed s (pair_call key value) other e = both (is_some (written_line s (pair_call key value))) e
  where
    both : (b : Bool) → cond b false false ≡ true → ⊥
    both true e = absurd (cc)
    both false e = absurd (cc)
never-flushed s flush_call other e = other refl
never-flushed s call other e = absurd (cc)

-- the writer with these changed
abbrev changed : {W : Type 0} → Writing W → W → Settings → ℕ → Writing W
changed w to settings lines = record w { sink = to; settings = settings; lines = lines }

-- the writer after two lists of calls
after-append : {W : Type 0} (w : Writing W) (xs ys : List Call) (middle to : W) → after_calls w (xs ++ ys) to ≡ after_calls (after_calls w xs middle) ys to
after-append w xs ys middle to =
    ap (λ s. changed w to s (line_count_after w.settings w.lines (xs ++ ys))) (settings_after-append w.settings xs ys)
    ∙ ap (changed w to (settings_after (settings_after w.settings xs) ys)) (line_count_after-append w.settings w.lines xs ys)

module _ {W : Type 0} {sink : Sink W} where
  -- no call makes nothing
  pub made-none : (w : Writing W) → HasMade sink w [] w
  made-none w = record { live = tt; written = written-none w.sink; flushed = λ e. absurd (cc); after = refl }

  -- a call that writes no line, and is no flush
  pub made-quiet : {old new : Writing W} (call : Call) → MayMake old.failed call → written_line old.settings call ≡ None → (call ≡ flush_call → ⊥)
      → new ≡ with_settings old (settings_after_call old.settings call) → HasMade sink old (call ∷ []) new
  made-quiet {old = old} {new = new} call live none other after = record {
    live = (live, tt);
    written = rw (none, after) (written-none old.sink);
    flushed = λ e. absurd (never-flushed old.settings call other e);
    after = rw none (after ∙ ap (λ (to : W). changed old to (settings_after_call old.settings call) old.lines) (sym (ap (λ (v : Writing W). v.sink) after)));
  }

  -- a call that writes a line
  pub made-line : {old new : Writing W} {line : Content} (call : Call) → MayMake old.failed call → written_line old.settings call ≡ Some line
      → (call ≡ flush_call → ⊥)
      → settings_after_call old.settings call ≡ old.settings → HasWrittenLine sink old line new → HasMade sink old (call ∷ []) new
  made-line {line = line} call live some other kept h = record {
    live = (live, tt);
    written = rw (some, append-nil) h.written;
    flushed = λ e. absurd (never-flushed _ call other e);
    after = rw (some, kept) h.after;
  }

  -- a pair that was written
  pub pair-made : {old new : Writing W} (key value : List ℕ) → HasWrittenLine sink old (pair key value) new
      → HasMadeCall sink old (pair_call key value) true new
  pair-made key value h =
      let some = ap (λ b. cond b (Some (pair key value)) None) h.takes.accepted in
      record {
        answer = sym h.takes.accepted;
        made = made-line (pair_call key value) h.takes.live some (λ q. absurd (cc)) refl h;
        quiet = λ e f. absurd (cc);
      }

  -- what a call keeps of the flushing before it
  last-flushed : {old new : Writing W} {accepted : Bool} (b : Bool) (call : Call) → (b ≡ true → sink.is_flushed old.sink ≡ true)
      → HasMadeCall sink old call accepted new → flushed_after old.settings b (call ∷ []) ≡ true → sink.is_flushed new.sink ≡ true
  last-flushed b (comment_call text) before k e = absurd (cc)
  last-flushed {old = old} {new = new} b (pair_call key value) before k e = lined (is_accepted old.settings (pair_call key value)) k.quiet e
    where
      lined : (x : Bool) → (is_some (cond x (Some (pair key value)) None) ≡ false → (pair_call key value ≡ flush_call → ⊥) → new.sink ≡ old.sink)
          → cond (is_some (cond x (Some (pair key value)) None)) false b ≡ true → sink.is_flushed new.sink ≡ true
      lined true quiet e = absurd (cc)
      lined false quiet e = ap sink.is_flushed (quiet refl (λ q. absurd (cc))) ∙ before e
  last-flushed b flush_call before k e = k.made.flushed refl
  last-flushed b call before k e = ap sink.is_flushed (k.quiet refl (λ q. absurd (cc))) ∙ before e

  from-after : {old middle new : Writing W} {calls : List Call} {call : Call} {accepted : Bool} → HasMade sink old calls middle
      → HasMadeCall sink middle call accepted new → HasMadeCall sink (after_calls old calls middle.sink) call accepted new
  from-after {new = new} {call = call} {accepted = accepted} m k = subst (λ (v : Writing W). HasMadeCall sink v call accepted new) m.after k

  -- one call more was made
  pub made-more : {old middle new : Writing W} {calls : List Call} {call : Call} {accepted : Bool} → HasMade sink old calls middle
      → HasMadeCall sink middle call accepted new → HasMade sink old (calls ++ (call ∷ [])) new
  made-more {old = old} {middle = middle} {new = new} {calls = calls} {call = call} m k =
      let next = from-after m k in
      let whole = flushed-append old.settings false calls (call ∷ []) in
      record {
        live = may-append old.failed calls (call ∷ []) m.live next.made.live;
        written = rw wrote-append (written-more m.written next.made.written);
        flushed = λ e. last-flushed (flushed_after old.settings false calls) call m.flushed next (sym whole ∙ e);
        after = next.made.after ∙ sym (after-append old calls (call ∷ []) middle.sink new.sink);
      }

-- ---- a list of calls, call by call

module _ {W : Type 0} {sink : Sink W} where
  -- the answer of one call more
  pub answers-more : {old middle new : Writing W} {calls : List Call} {call : Call} {accepted : Bool} → HasMade sink old calls middle
      → HasMadeCall sink middle call accepted new → answers old.settings (calls ++ (call ∷ [])) ≡ answers old.settings calls ++ (accepted ∷ [])
  answers-more {old = old} {calls = calls} {call = call} m k =
      answers-append old.settings calls (call ∷ [])
      ∙ ap (λ b. answers old.settings calls ++ (b ∷ [])) (ap (λ s. is_accepted s call) (sym (ap (λ (v : Writing W). v.settings) m.after)) ∙ sym k.answer)

  -- a call failed after others were made
  pub stops : {old middle new : Writing W} {calls before : List Call} {call : Call} {error : PropertiesError} (others : List Call)
      → calls ≡ before ++ (call ∷ others)
      → HasMade sink old before middle → FailsInCall sink middle call error new → StopsAtCall sink old calls error new
  stops {middle = middle} {before = before} {call = call} others division made fails =
      record { before = before; call = call; others = others; division = division; middle = middle; made = made; fails = fails }

-- a list as it is seen, cut at one of its elements
pub calls-cut : {X Y : Type 0} (f : X → Y) (xs : List X) (i : ℕ) (d : X) → i < length xs
    → map f xs ≡ take i (map f xs) ++ (f (get_or xs i d) ∷ drop (i + 1) (map f xs))
calls-cut f [] i d h = absurd (omega arith)
calls-cut f (x ∷ xs) zero d h = refl
calls-cut f (x ∷ xs) (suc i) d h = rw add-one (ap (λ v. f x ∷ v) (calls-cut f xs i d (omega arith) ∙ rw add-one refl))

-- and as far as that one
pub calls-take : {X Y : Type 0} (f : X → Y) (xs : List X) (i : ℕ) (d : X) → i < length xs
    → take (i + 1) (map f xs) ≡ take i (map f xs) ++ (f (get_or xs i d) ∷ [])
calls-take f [] i d h = absurd (omega arith)
calls-take f (x ∷ xs) zero d h = refl
calls-take f (x ∷ xs) (suc i) d h = rw (add-one (suc i)) (ap (λ v. f x ∷ v) (rw (add-one i) at (calls-take f xs i d (omega arith))))

-- and all of them
pub calls-all : {X Y : Type 0} (f : X → Y) (xs : List X) (i : ℕ) → length xs ≤ i → take i (map f xs) ≡ map f xs
calls-all f xs i h = take_all i (map f xs) (omega (arith, length-map xs f))

-- ---- what a call that sets a text does, by what the setter did

module _ {W : Type 0} (sink : Sink W) (old new : Writing W) (result : Result Bool PropertiesError) where
  -- the call failed
  failed : (call : Call) (error : PropertiesError) → is_not_accepted (kind_of error) ≡ false → Fails sink old call error new
      → IsAcceptedResult (Err error) result → MakesCall sink old call result new
  failed call error final fails is = rw (is, final) (record { fails = fails; final = final })

  -- the call was accepted or not, and set what it says
  answered : (call : Call) (accepted : Bool) (settings : Settings) → MayMake old.failed call → is_accepted old.settings call ≡ accepted
      → written_line old.settings call ≡ None → (call ≡ flush_call → ⊥) → settings_after_call old.settings call ≡ settings → new ≡ with_settings old settings
      → result ≡ Ok accepted
      → MakesCall sink old call result new
  answered call accepted settings live said none other set after is = rw is (record {
    answer = sym said;
    made = made-quiet call live none other (after ∙ ap (with_settings old) (sym set));
    quiet = λ e f. ap (λ (v : Writing W). v.sink) after;
  })

  pub prefix-makes : (prefix : List ℕ) (answer : Result Unit PropertiesError) → SetsPrefix old prefix answer new → IsAcceptedResult answer result
      → MakesCall sink old (prefix_call prefix) result new
  prefix-makes prefix (Ok done) h is =
      let good = is_good_prefix-from prefix h.good in
      answered (prefix_call prefix) true (with_prefix old.settings prefix) tt good refl (λ q. absurd (cc)) (rw good refl) h.after is
  prefix-makes prefix (Err error) (inl h) is =
      let bad = false_from_ne_true (is_good_prefix prefix) (λ e. h.bad (IsGoodPrefix-from_test prefix e)) in
      let said = ap is_not_accepted h.refuses.its_kind in
      answered (prefix_call prefix) false old.settings tt bad refl (λ q. absurd (cc)) (rw bad refl) h.same (rw said at is)
  prefix-makes prefix (Err error) (inr h) is = failed (prefix_call prefix) error (ap is_not_accepted h.is.its_kind) h is

  pub separator-makes : (separator : List ℕ) (answer : Result Unit PropertiesError) → SetsSeparator old separator answer new → IsAcceptedResult answer result
      → MakesCall sink old (separator_call separator) result new
  separator-makes separator (Ok done) h is =
      let good = is_good_separator-from separator h.good in
      answered (separator_call separator) true (with_separator old.settings separator) tt good refl (λ q. absurd (cc)) (rw good refl) h.after is
  separator-makes separator (Err error) (inl h) is =
      let bad = false_from_ne_true (is_good_separator separator) (λ e. h.bad (IsGoodSeparator-from_test separator e)) in
      let said = ap is_not_accepted h.refuses.its_kind in
      answered (separator_call separator) false old.settings tt bad refl (λ q. absurd (cc)) (rw bad refl) h.same (rw said at is)
  separator-makes separator (Err error) (inr h) is = failed (separator_call separator) error (ap is_not_accepted h.is.its_kind) h is

pub ruleset setting = (prefix-makes, separator-makes)
