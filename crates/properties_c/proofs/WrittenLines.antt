-- Lines of a packed list that were written, one after another.
use Rattle.std.proofs.Common.{◌≡◌, Bool, true, false, not, ◌||◌, cond, ℕ, List, [], ◌∷◌, ◌++◌, map, ap, refl, sym, ◌∙◌, subst, inl, inr}
use Rattle.std.specs.{List.list_any, Global.Vec}
use Rattle.std.specs.Prelude.{Some, None, Result, Ok, Err}
use Rattle.std.proofs.lemmas.List.{map-append}
use mathlib.Core.Bool.{beq}
use Rattle.counted_io.specs.{Counting.counted_inner, Streams.Sink, declared.counted.Counted.Counted}
use Rattle.properties_format.specs.{Encoding.Encoding, Encoding.output_encoding, Items.Content, Items.comment, Items.pair, Settings.Settings}
use Rattle.properties_format.specs.Writing.{answers, comment_call, pair_call, wrote}
use Rattle.java_properties.specs.Calls.{after_calls, HasMade, HasMadeCall}
use Rattle.java_properties.specs.PropertiesWriter.{Writing, WritesLine, IsRefusedBy, call_of, new_writer, with_settings}
use Rattle.java_properties.proofs.Calls.Made.{made-quiet, made-line, pair-made, made-more, answers-more}
use Rattle.properties_items.specs.{Errors.kind_of, declared.error.ErrorKind.ErrorKind, declared.error.PropertiesError.PropertiesError}
use Rattle.properties_items.specs.declared.error.ErrorKind.TheVariants as kind
use Rattle.properties_c.specs.{Packed.lines, Packed.BeginsList, Private.Lists.IsFirstThing, Writing.AreGood, declared.status.Status.Status}
use Rattle.properties_c.specs.declared.status.Status.TheVariants.{EmptyKey}
use Rattle.properties_c.specs.Private.Results.{acceptance, accepted_for, WritesContent, HasOpened, has_refused_call}
use Rattle.properties_c.proofs.ListFronts.{Begins-more}

-- ---- one line

module _ {W : Type 0} (sink : Sink W) (old new : Writing W) where
  not-accepted : (content : Content) → IsRefusedBy kind.EmptyKey old content → new ≡ old → HasMadeCall sink old (call_of content) false new
  not-accepted (comment text) h same = absurd (let e = h.1 in cc)
  not-accepted (pair key value) h same = record {
    answer = sym h.1;
    made = made-quiet (pair_call key value) h.0 (ap (λ b. cond b (Some (pair key value)) None) h.1) (λ q. absurd (cc)) same;
    quiet = λ e f. ap (λ (v : Writing W). v.sink) same;
  }

  refused-adds : (content : Content) (kind : ErrorKind) → IsRefusedBy kind old content → new ≡ old → WritesContent sink content old (accepted_for kind) new
  refused-adds content kind.EmptyKey h same = not-accepted content h same
  refused-adds content other h same = refl

  error-adds : (content : Content) (error : PropertiesError) → WritesLine sink old content (Err error) new
      → WritesContent sink content old (accepted_for (kind_of error)) new
  error-adds content error (inl h) = refused-adds content (kind_of error) h.reason h.same
  error-adds content error (inr h) = rw h.is.its_kind refl

  pub comment-adds : (text : List ℕ) (done : Result Unit PropertiesError) (result : Result Bool Status)
      → WritesLine sink old (comment text) done new → result ≡ acceptance done → WritesContent sink (comment text) old result new
  comment-adds text (Ok done) result h is = rw is (record {
    answer = refl;
    made = made-line (comment_call text) h.takes.live refl (λ q. absurd (cc)) refl h;
    quiet = λ e f. absurd (cc);
  })
  comment-adds text (Err error) result h is = rw is (error-adds (comment text) error h)

  pub pair-adds : (key value : List ℕ) (done : Result Unit PropertiesError) (result : Result Bool Status)
      → WritesLine sink old (pair key value) done new → result ≡ acceptance done → WritesContent sink (pair key value) old result new
  pair-adds key value (Ok done) result h is = rw is (pair-made key value h)
  pair-adds key value (Err error) result h is = rw is (error-adds (pair key value) error h)

pub ruleset adding = (comment-adds, pair-adds)

-- ---- a list

-- The list begins with lines that were written, and this is whether one of them wasn't accepted.
pub record HasAdded {W : Type 0} (sink : Sink W) (list : List ℕ) (old : Writing W) (refused : Bool) (rest : List ℕ) (new : Writing W) : Type 0 where
  pub contents : List Content
  pub begins : BeginsList lines list contents rest
  pub made : HasMade sink old (map call_of contents) new
  pub refuses : refused ≡ has_refused_call old.settings (map call_of contents)

refused-more : (answered : List Bool) (b : Bool)
    → (list_any (λ answer. beq answer false) answered || not b) ≡ list_any (λ answer. beq answer false) (answered ++ b ∷ [])
refused-more [] true = refl
refused-more [] false = refl
refused-more (true ∷ answered) b = refused-more answered b
refused-more (false ∷ answered) b = refl

module _ {W : Type 0} {sink : Sink W} where
  pub added-more : {list rest after : List ℕ} {old middle new : Writing W} {refused accepted : Bool} {content : Content}
      → HasAdded sink list old refused rest middle → IsFirstThing lines rest content after → HasMadeCall sink middle (call_of content) accepted new
      → HasAdded sink list old (refused || not accepted) after new
  added-more {old = old} {accepted = accepted} {content = content} h first k =
      let more = map-append call_of h.contents (content ∷ []) in
      record {
        contents = h.contents ++ content ∷ [];
        begins = Begins-more h.begins first;
        made = rw more (made-more h.made k);
        refuses =
            ap (λ b. b || not accepted) h.refuses ∙ refused-more (answers old.settings (map call_of h.contents)) accepted
            ∙ ap (list_any (λ answer. beq answer false)) (sym (answers-more h.made k)) ∙ ap (has_refused_call old.settings) (sym more);
      }

  -- One of the lines before wasn't accepted, or all were.
  pub added-refused : {list rest after : List ℕ} {old middle new : Writing W} {refused accepted : Bool} {content : Content} → refused ≡ true
      → HasAdded sink list old refused rest middle → IsFirstThing lines rest content after → HasMadeCall sink middle (call_of content) accepted new
      → HasAdded sink list old refused after new
  added-refused {list} {after = after} {old = old} {new = new} {refused = refused} {accepted = accepted} is h first k =
      let same : (refused || not accepted) ≡ refused = rw is refl in
      subst (λ b. HasAdded sink list old b after new) same (added-more h first k)

  pub added-accepted : {list rest after : List ℕ} {old middle new : Writing W} {refused accepted : Bool} {content : Content} → refused ≡ false
      → HasAdded sink list old refused rest middle → IsFirstThing lines rest content after → HasMadeCall sink middle (call_of content) accepted new
      → HasAdded sink list old (not accepted) after new
  added-accepted {list} {after = after} {old = old} {new = new} {refused = refused} {accepted = accepted} is h first k =
      let same : (refused || not accepted) ≡ not accepted = rw is refl in
      subst (λ b. HasAdded sink list old b after new) same (added-more h first k)

-- ---- what was written

not-false : (b : Bool) → not b ≡ false → b ≡ true
not-false true e = refl
not-false false e = absurd (cc)

-- The writer has written its opening.
pub has-opened : {e : Encoding} {s : Settings} {goes_on : Bool} {from new : Writing (Counted (Vec ℕ))} {empty : Counted (Vec ℕ)} {sink : Sink (Counted (Vec ℕ))}
    → AreGood s → from ≡ with_settings (new_writer (output_encoding e) empty) s → (counted_inner empty).items ≡ [] → not goes_on ≡ false
    → HasMade sink from (comment_call [] ∷ []) new
    → (counted_inner new.sink).items ≡ (counted_inner from.sink).items ++ wrote from.encoding from.settings from.lines (comment_call [] ∷ [])
    → HasOpened e s goes_on new
has-opened {e} {s} {goes_on} {new = new} good is none on k moved =
    let calls = comment_call [] ∷ [] in
    rw (not-false goes_on on) (record {
      good = good;
      is = k.after ∙ ap (λ (v : Writing (Counted (Vec ℕ))). after_calls v calls new.sink) is;
      wrote_before = moved ∙ ap (λ (v : Writing (Counted (Vec ℕ))). (counted_inner v.sink).items ++ wrote v.encoding v.settings v.lines calls) is
          ∙ ap (λ x. x ++ wrote (output_encoding e) s 0 calls) none;
    })
