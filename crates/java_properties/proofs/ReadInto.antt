-- Lines that are read into a closure, one after another.
use Rattle.std.proofs.Common.{◌≡◌, true, false, List, [], ◌∷◌, ◌++◌, refl, ap, sym, ◌∙◌, subst, append-nil, append_assoc}
use denote.Param.Always.{always_mut, mut_next}
use denote.Param.Members.{Mut, Called}
use Rattle.std.specs.Prelude.{Some, None, Result, Ok, Err}
use Rattle.std.specs.Global.{Global}
use Rattle.std.specs.declared.string.String.{String}
use Rattle.std.proofs.lemmas.Fn.{FoldsTo-push}
use Rattle.counted_io.specs.Streams.{Reader}
use Rattle.counted_io.proofs.Streams.{read-none, read-more}
use Rattle.properties_format.specs.Lines.{end}
use Rattle.properties_items.specs.Line.{content_of}
use Rattle.java_properties.specs.PropertiesIter.{Iteration, Gives, NextGives, entry_of}
use Rattle.java_properties.specs.ReadLines.{entries_in, KeyAndValue, pair_in, pairs_among, GivesLines, IsCalledOn, CallableOnPairs, last_answer, HasReadAll}
use Rattle.java_properties.specs.ReadLines.{HasReadFirst, WereToCome, ReadsInto}
use Rattle.properties_items.specs.declared.error.PropertiesError.{PropertiesError}
use Rattle.properties_items.specs.declared.line.Line.{Line}
use Rattle.properties_items.specs.declared.line.LineContent.{LineContent}
use Rattle.properties_items.specs.declared.line.LineContent.TheVariants.{Comment, KVPair}

-- ---- lines that come, of the items to come

module _ {R : Type 0} (reader : Reader R) where
  -- where lines come, the reading isn't at its end, unless it is afterwards
  live-before : (lines : List Line) (old new : Iteration R) → GivesLines reader old lines new → new.state.is_done ≡ false → old.state.is_done ≡ false
  live-before [] old new h live = ap (λ (r : Iteration R). r.state.is_done) h ∙ live
  live-before (line ∷ lines) old new h live = h.1.0.live

  first-more : (line : Line) (lines : List Line) (old next new : Iteration R) → (n : NextGives reader old (Some (Ok line)) next) → next.state.is_done ≡ false
      → HasReadFirst reader next lines new → HasReadFirst reader old (line ∷ lines) new
  first-more line lines old next new n live k = by n.0.gives
    where
      by : Gives old.state n.0.bytes (entry_of line) next.state → HasReadFirst reader old (line ∷ lines) new
      by (Gives.going_on l comes) = record {
        bytes = n.0.bytes ++ k.bytes;
        read = read-more n.0.read k.read;
        items = λ d ending others h. rw (append_assoc n.0.bytes k.bytes d)
            (comes.others (k.bytes ++ d) ending (entries_in lines ++ others) (k.items d ending others h));
      }
      by (Gives.at_last l items) = absurd (cc)

  lines-first : (lines : List Line) (old new : Iteration R) → GivesLines reader old lines new → new.state.is_done ≡ false → HasReadFirst reader old lines new
  lines-first [] old new h live =
      subst (λ (r : Iteration R). HasReadFirst reader old [] r) h (record { bytes = []; read = read-none old.reader; items = λ d ending others k. k })
  lines-first (line ∷ lines) old new h live =
      let there = live-before lines h.0 new h.2 live in
      first-more line lines old h.0 new h.1 there (lines-first lines h.0 new h.2 live)

  -- no line comes once the reading is at its end
  none-left : (lines : List Line) (old before new : Iteration R) → GivesLines reader old lines before → NextGives reader before None new
      → old.state.is_done ≡ true
      → (lines ≡ []) × (new.reader ≡ old.reader)
  none-left [] old before new h n done =
      let there = ap (λ (r : Iteration R). r.state.is_done) (sym h) ∙ done in
      (refl, (n.0.idle there).1 ∙ ap (λ (r : Iteration R). r.reader) (sym h))
  none-left (line ∷ lines) old before new h n done = absurd (let live = h.1.0.live in cc)

  all-more : (line : Line) (lines : List Line) (old next before new : Iteration R) → (n : NextGives reader old (Some (Ok line)) next)
      → GivesLines reader next lines before
      → NextGives reader before None new → HasReadAll reader next lines new → HasReadAll reader old (line ∷ lines) new
  all-more line lines old next before new n given last k = by n.0.gives
    where
      by : Gives old.state n.0.bytes (entry_of line) next.state → HasReadAll reader old (line ∷ lines) new
      by (Gives.going_on l comes) = record {
        bytes = n.0.bytes ++ k.bytes;
        read = read-more n.0.read k.read;
        items = comes.others k.bytes end (entries_in lines) k.items;
      }
      by (Gives.at_last l items) =
          let none = none-left lines next before new given last l in
          record { bytes = n.0.bytes; read = rw none.1 n.0.read; items = rw none.0 items }

  lines-all : (lines : List Line) (old before new : Iteration R) → GivesLines reader old lines before → NextGives reader before None new
      → HasReadAll reader old lines new
  lines-all [] old before new h n =
      let k : HasReadAll reader before [] new = record { bytes = n.0.bytes; read = n.0.read; items = n.0.items } in
      subst (λ (r : Iteration R). HasReadAll reader r [] new) (sym h) k
  lines-all (line ∷ lines) old before new h n = all-more line lines old h.0 before new h.1 h.2 n (lines-all lines h.0 before new h.2 n)

  -- and then what `next` said last
  to-come : (lines : List Line) (old before new : Iteration R) (result : Result Unit PropertiesError) → GivesLines reader old lines before
      → NextGives reader before (last_answer result) new → WereToCome reader old lines before result new
  to-come lines old before new (Ok done) h n = lines-all lines old before new h n
  to-come lines old before new (Err error) h n = lines-first lines old before h n.0.0

-- ---- what the closure was called on

-- These lines came so far, and the closure was called on their pairs.
pub record HasCalled {R F : Type 0} (reader : Reader R) (step : F → String Global → String Global → Unit {0} → F → Type 0) (old : Iteration R)
    (f : F) (it : Iteration R) (g : F) : Type 0 where
  pub lines : List Line
  pub given : GivesLines reader old lines it
  pub called : IsCalledOn step f (pairs_among lines) g

-- the pairs of one line more
pairs-more : (lines : List Line) (line : Line) → pairs_among (lines ++ (line ∷ [])) ≡ pairs_among lines ++ pair_in (content_of line)
pairs-more [] line = append-nil (pair_in (content_of line))
pairs-more (l ∷ lines) line = rw (pairs-more lines line) (sym (append_assoc (pair_in (content_of l)) (pairs_among lines) (pair_in (content_of line))))

module _ {R F : Type 0} {reader : Reader R} {step : F → String Global → String Global → Unit {0} → F → Type 0} {old : Iteration R} {f : F} where
  pub called-none : HasCalled reader step old f old f
  called-none = record { lines = []; given = refl; called = refl }

  module _ {it : Iteration R} {g : F} (next : Iteration R) (line : Line) (content : LineContent) (h : HasCalled reader step old f it g)
      (is : content ≡ content_of line) (gives : NextGives reader it (Some (Ok line)) next) where
    given-more : GivesLines reader old (h.lines ++ (line ∷ [])) next
    given-more = FoldsTo-push (λ before (l : Line) after. NextGives reader before (Some (Ok l)) after) old h.lines it line next h.given gives

    -- no pair came
    pub called-other : ((key value : String Global) → content ≡ KVPair key value → ⊥) → HasCalled reader step old f next g
    called-other other = by content refl
      where
        by : (c : LineContent) → content ≡ c → HasCalled reader step old f next g
        by (Comment text) e =
            let none = pairs-more h.lines line ∙ ap (λ c. pairs_among h.lines ++ pair_in c) (sym is ∙ e) ∙ append-nil (pairs_among h.lines) in
            record { lines = h.lines ++ (line ∷ []); given = given-more; called = rw none h.called }
        by (KVPair key value) e = absurd (other key value e)

    -- a pair came, and the closure was called on it
    pub called-more : (k : F) (key value : String Global) → content ≡ KVPair key value → step g key value tt k → HasCalled reader step old f next k
    called-more k key value pair call =
        let one = pairs-more h.lines line ∙ ap (λ c. pairs_among h.lines ++ pair_in c) (sym is ∙ pair) in
        let push = FoldsTo-push (λ before (e : KeyAndValue) after. step before e.0 e.1 tt after) f (pairs_among h.lines) g (key, value) k h.called call in
        record { lines = h.lines ++ (line ∷ []); given = given-more; called = rw one push }

  -- no line comes any more
  pub called-all : {it : Iteration R} {g : F} (next : Iteration R) (result : Result Unit PropertiesError) → HasCalled reader step old f it g
      → NextGives reader it (last_answer result) next → ReadsInto reader step old f result next
  called-all {it} {g} next result h ended = record {
    lines = h.lines;
    last = g;
    called = h.called;
    before_end = it;
    given = h.given;
    ended = ended;
    items = to-come reader h.lines old it next result h.given ended;
  }

-- a closure that may always be called may be given to `read_into`
module _ {F : Type 0} (g : Mut F (String Global × (String Global × Unit {0})) (Unit {0})) where
  abbrev Calls : F → String Global → String Global → Unit {0} → F → Type 0
  Calls before key value r after = Called g before (key, (value, tt)) r after

  always_after : (pairs : List KeyAndValue) (f last : F) → always_mut g f → IsCalledOn Calls f pairs last → always_mut g last
  always_after [] f last h e = subst (always_mut g) e h
  always_after (x ∷ pairs) f last h e = always_after pairs e.0 last (mut_next g f (x.0, (x.1, tt)) tt e.0 e.0 e.1 refl h) e.2

  pub CallableOnPairs-always : {R : Type 0} (reader : Reader R) (old : Iteration R) (f : F) → always_mut g f
      → CallableOnPairs reader Calls (λ k key value. g.pre k (key, (value, tt))) old f
  CallableOnPairs-always reader old f h lines line before after k key value given called next pair =
      ((always_after (pairs_among lines) f k h called).at ((key, (value, tt)) ∷ [])).0
