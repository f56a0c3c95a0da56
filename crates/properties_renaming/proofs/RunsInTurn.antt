-- Runs of edits that are made in turn.
use Rattle.std.proofs.Common.{◌≡◌, ◌<◌, ◌≤◌, ◌+◌, ◌-◌, ℕ, List, [], ◌∷◌, ◌++◌, length, drop, take, refl, sym, subst, ap, ◌∙◌, append_assoc, arith, inl, inr, length-append, suc, zero, zero-add}
use Rattle.std.specs.Prelude.{true, map, Ok, Err}
use Rattle.std.specs.Global.{Vec}
use Rattle.std.proofs.lemmas.Bool.{cases_Bool}
use Rattle.std.proofs.lemmas.List.{append-nil, drop-drop, drop-map, drop_all, length-drop, length-take-le, take-append-drop, take-map, take_all}
use Rattle.std.proofs.lemmas.List.Concat.{flat_map-append}
use Rattle.properties_editing.specs.declared.source.SourceOptions.{SourceOptions}
use Rattle.properties_renaming.specs.KeyEdits.{AreLike, AreRuns, AreRunsOf, BeginUnlike, IsMemoryError, IsRun, KeyEdit, Leave, MakesKeyEdits, MakesRun, comments_among, edit, edits_in_runs, error_after, remove_with_comment, rename, renames_among, same_kind, set_comment}
use Rattle.properties_renaming.specs.Private.KeyEdits.{HasRunSize, IsIndexBelow, RunsOrFails}
use Rattle.properties_renaming.specs.declared.renames.RenamesError.{RenamesError}
use Rattle.properties_renaming.specs.declared.renames.RenamesError.TheVariants.{Source, NoKey, KeyTaken}

-- ---- every list has runs

same-kinds : (e f g : KeyEdit) → same_kind e f ≡ true → same_kind e g ≡ same_kind f g
same-kinds (edit d) (edit e) g h = refl
same-kinds (rename n) (rename m) g h = refl
same-kinds (set_comment t) (set_comment u) g h = refl
same-kinds (remove_with_comment k) (remove_with_comment l) g h = refl
same-kinds e f g h = absurd (cc)

like-same : (e f : KeyEdit) (gs : List KeyEdit) → same_kind e f ≡ true → AreLike f gs → AreLike e gs
like-same e f [] same h = tt
like-same e f (g ∷ gs) same h = (same-kinds e f g same ∙ h.0, like-same e f gs same h.1)

unlike-same : (e f : KeyEdit) (gs : List KeyEdit) → same_kind e f ≡ true → BeginUnlike f gs → BeginUnlike e gs
unlike-same e f [] same h = tt
unlike-same e f (g ∷ gs) same h = same-kinds e f g same ∙ h

-- One more edit before runs.
runs-before : (e : KeyEdit) (es : List KeyEdit) (runs : List (List KeyEdit)) → AreRuns es runs → (all : List (List KeyEdit)) × AreRuns (e ∷ es) all
runs-before e es [] h = ((e ∷ []) ∷ [], ([], ap (λ r. e ∷ r) h, (tt, tt), refl))
runs-before e es ([] ∷ runs) h = absurd h.2
runs-before e es ((f ∷ fs) ∷ runs) h =
    elim (cases_Bool (same_kind e f)) [
      | inl same ↦ ((e ∷ f ∷ fs) ∷ runs, (h.0, ap (λ r. e ∷ r) h.1, ((same, like-same e f fs same h.2.0), unlike-same e f h.0 same h.2.1), h.3))
      | inr other ↦ ((e ∷ []) ∷ (f ∷ fs) ∷ runs, (es, refl, (tt, subst (BeginUnlike e) (sym h.1) other), h))
    ]

pub some-runs : (es : List KeyEdit) → (runs : List (List KeyEdit)) × AreRuns es runs
some-runs [] = ([], refl)
some-runs (e ∷ es) = let h = some-runs es in runs-before e es h.0 h.1

-- ---- runs that are made

-- An empty list has no runs.
no-runs : (runs : List (List KeyEdit)) → AreRuns [] runs → runs ≡ []
no-runs [] h = refl
no-runs ([] ∷ runs) h = absurd h.2
no-runs ((e ∷ es) ∷ runs) h = absurd (cc h.1)

-- So many edits of a list are whole runs, which left these bytes. Whatever runs the others are, they come after these.
pub record AreMadeTo (options : SourceOptions) (source : List ℕ) (es : List KeyEdit) (done : ℕ) (bytes : List ℕ) : Type 0 where
  pub within : done ≤ length es
  pub before : List (List KeyEdit)
  pub leave : Leave options source before bytes
  pub count : done ≡ length (edits_in_runs before)
  pub go_on : (runs : List (List KeyEdit)) → AreRuns (drop done es) runs → AreRunsOf es (before ++ runs)

-- The first run is made.
pub made-first : (o : SourceOptions) (source : List ℕ) (es : List KeyEdit) (size : ℕ) (left : Vec ℕ) → HasRunSize es size
    → MakesRun o source (take size es) (Ok left) → AreMadeTo o source es size left.items
made-first o source [] size left is made = record {
  within = omega arith;
  before = [] ∷ [];
  leave = (left, subst (λ n. MakesRun o source (take n []) (Ok left)) is made, refl);
  count = is;
  go_on = λ runs h. ap (λ r. [] ∷ r) (no-runs runs (subst (λ n. AreRuns (drop n []) runs) is h));
}
made-first o source (e ∷ es) size left is made = record {
  within = is.0;
  before = take size (e ∷ es) ∷ [];
  leave = (left, made, refl);
  count = sym (ap length (append-nil (take size (e ∷ es))) ∙ length-take-le size (e ∷ es) is.0);
  go_on = λ runs h. (drop size (e ∷ es), sym (take-append-drop size (e ∷ es)), is.1, h);
}

leave-more : (o : SourceOptions) (source : List ℕ) (runs : List (List KeyEdit)) (bytes : List ℕ) (run : List KeyEdit) (left : Vec ℕ) → Leave o source runs bytes
    → MakesRun o bytes run (Ok left) → Leave o source (runs ++ run ∷ []) left.items
leave-more o source [] bytes run left h made = (left, subst (λ b. MakesRun o b run (Ok left)) h made, refl)
leave-more o source (r ∷ runs) bytes run left h made = (h.0, h.1, leave-more o h.0.items runs bytes run left h.2 made)

-- What is the size of the first run of edits that are there.
front-run : (es : List KeyEdit) (size : ℕ) → 0 < length es → HasRunSize es size → (size ≤ length es) × IsRun (take size es) (drop size es)
front-run [] size some h = absurd (omega arith)
front-run (e ∷ es) size some h = h

in-runs : (runs : List (List KeyEdit)) (run : List KeyEdit) → length (edits_in_runs (runs ++ run ∷ [])) ≡ length (edits_in_runs runs) + length run
in-runs runs run =
    ap length (flat_map-append (λ r. r) runs (run ∷ [])) ∙ length-append (edits_in_runs runs) (run ++ []) ∙ ap (λ r. length (edits_in_runs runs) + length r) (append-nil run)

-- One more run is made.
pub made-more : (o : SourceOptions) (source : List ℕ) (es : List KeyEdit) (done : ℕ) (bytes : List ℕ) (size : ℕ) (left : Vec ℕ) → done < length es
    → AreMadeTo o source es done bytes → HasRunSize (drop done es) size → MakesRun o bytes (take size (drop done es)) (Ok left)
    → AreMadeTo o source es (done + size) left.items
made-more o source es done bytes size left below h is made =
    let rest = drop done es in
    let long = length-drop done es in
    let front = front-run rest size (omega (arith, long)) is in
    let within : size ≤ length rest = front.0 in
    record {
      within = omega (arith, long);
      before = h.before ++ take size rest ∷ [];
      leave = leave-more o source h.before bytes (take size rest) left h.leave made;
      count = ap (λ n. n + size) h.count ∙ ap (λ n. length (edits_in_runs h.before) + n) (sym (length-take-le size rest within)) ∙ sym (in-runs h.before (take size rest));
      go_on = λ runs k.
          let after = subst (λ l. AreRuns l runs) (sym (drop-drop size done es)) k in
          let all = h.go_on (take size rest ∷ runs) (drop size rest, sym (take-append-drop size rest), front.1, after) in
          subst (AreRunsOf es) (sym (append_assoc h.before (take size rest ∷ []) runs)) all;
    }

-- All runs are made.
pub made-all : (o : SourceOptions) (source : List ℕ) (es : List KeyEdit) (done : ℕ) (bytes : Vec ℕ) → length es ≤ done → AreMadeTo o source es done bytes.items
    → MakesKeyEdits o source es (Ok bytes)
made-all o source es done bytes end h =
    (h.before, subst (AreRunsOf es) (append-nil h.before) (h.go_on [] (drop_all done es end)), h.leave)

-- ---- a run that fails

error-first : (e : RenamesError) → e ≡ error_after 0 e
error-first (Source reason) = refl
error-first (NoKey index) = ap NoKey (sym (zero-add index))
error-first (KeyTaken index number) = ap (λ i. KeyTaken i number) (sym (zero-add index))

same-memory : (count : ℕ) (e : RenamesError) → IsMemoryError e → IsMemoryError (error_after count e)
same-memory count (Source reason) h = h
same-memory count (NoKey index) h = absurd h
same-memory count (KeyTaken index number) h = absurd h

-- The first run fails.
pub fails-first : (o : SourceOptions) (source : List ℕ) (es : List KeyEdit) (size : ℕ) (e : RenamesError) → HasRunSize es size
    → RunsOrFails o source (take size es) (Err e) → MakesKeyEdits o source es (Err e)
fails-first o source es size e is (inr memory) = inr memory
fails-first o source [] size e is (inl fails) = inl (record {
  before = [];
  failed = [];
  after = [];
  runs = refl;
  left = source;
  leave = refl;
  reason = e;
  fails = subst (λ n. MakesRun o source (take n []) (Err e)) is fails;
  is = error-first e;
})
fails-first o source (d ∷ es) size e is (inl fails) =
    let more = some-runs (drop size (d ∷ es)) in inl (record {
      before = [];
      failed = take size (d ∷ es);
      after = more.0;
      runs = (drop size (d ∷ es), sym (take-append-drop size (d ∷ es)), is.1, more.1);
      left = source;
      leave = refl;
      reason = e;
      fails = fails;
      is = error-first e;
    })

-- A later run fails.
pub fails-later : (o : SourceOptions) (source : List ℕ) (es : List KeyEdit) (done : ℕ) (bytes : List ℕ) (size : ℕ) (e : RenamesError) → done < length es
    → AreMadeTo o source es done bytes → HasRunSize (drop done es) size → RunsOrFails o bytes (take size (drop done es)) (Err e)
    → MakesKeyEdits o source es (Err (error_after done e))
fails-later o source es done bytes size e below h is (inr memory) = inr (same-memory done e memory)
fails-later o source es done bytes size e below h is (inl fails) =
    let rest = drop done es in
    let front = front-run rest size (omega (arith, length-drop done es)) is in
    let more = some-runs (drop size rest) in
    inl (record {
      before = h.before;
      failed = take size rest;
      after = more.0;
      runs = h.go_on (take size rest ∷ more.0) (drop size rest, sym (take-append-drop size rest), front.1, more.1);
      left = bytes;
      leave = h.leave;
      reason = e;
      fails = fails;
      is = ap (λ n. error_after n e) h.count;
    })

-- ---- the index of its error

renames-fewer : (es : List KeyEdit) → length (renames_among es) ≤ length es
renames-fewer [] = omega arith
renames-fewer (edit x ∷ es) = let h = renames-fewer es in omega arith
renames-fewer (rename x ∷ es) = let h = renames-fewer es in omega arith
renames-fewer (set_comment x ∷ es) = let h = renames-fewer es in omega arith
renames-fewer (remove_with_comment x ∷ es) = let h = renames-fewer es in omega arith

comments-fewer : (es : List KeyEdit) → length (comments_among es) ≤ length es
comments-fewer [] = omega arith
comments-fewer (edit x ∷ es) = let h = comments-fewer es in omega arith
comments-fewer (rename x ∷ es) = let h = comments-fewer es in omega arith
comments-fewer (set_comment x ∷ es) = let h = comments-fewer es in omega arith
comments-fewer (remove_with_comment x ∷ es) = let h = comments-fewer es in omega arith

within-parts : {X : Type 0} (all before after : List X) (x : X) (index size : ℕ) → all ≡ before ++ x ∷ after → index ≡ length before → length all ≤ size → index < size
within-parts all before after x index size division is fewer =
    let long = ap length division ∙ length-append before (x ∷ after) in omega arith

index-within : (o : SourceOptions) (source : List ℕ) (run : List KeyEdit) (e : RenamesError) → MakesRun o source run (Err e) → IsIndexBelow (length run) e
index-within o source run (Source reason) h = tt
index-within o source [] (NoKey index) h = absurd h
index-within o source [] (KeyTaken index number) h = absurd h
index-within o source (edit x ∷ es) (NoKey index) h = absurd h
index-within o source (edit x ∷ es) (KeyTaken index number) h = absurd h
index-within o source (remove_with_comment x ∷ es) (NoKey index) h = absurd h
index-within o source (remove_with_comment x ∷ es) (KeyTaken index number) h = absurd h
index-within o source (set_comment x ∷ es) (KeyTaken index number) h = absurd h
index-within o source (set_comment x ∷ es) (NoKey index) h =
    let k = h.1 in within-parts _ k.before k.after k.text index _ k.division k.index_is (comments-fewer (set_comment x ∷ es))
index-within o source (rename x ∷ es) (NoKey index) h =
    let k = h.1 in within-parts _ k.before k.after k.name index _ k.division k.index_is (renames-fewer (rename x ∷ es))
index-within o source (rename x ∷ es) (KeyTaken index number) h =
    let k = h.1 in within-parts _ k.before k.after k.name index _ k.division k.index_is (renames-fewer (rename x ∷ es))

memory-within : (size : ℕ) (e : RenamesError) → IsMemoryError e → IsIndexBelow size e
memory-within size (Source reason) h = tt
memory-within size (NoKey index) h = absurd h
memory-within size (KeyTaken index number) h = absurd h

pub run-within : (o : SourceOptions) (source : List ℕ) (run : List KeyEdit) (e : RenamesError) → RunsOrFails o source run (Err e) → IsIndexBelow (length run) e
run-within o source run e (inl fails) = index-within o source run e fails
run-within o source run e (inr memory) = memory-within (length run) e memory

-- ---- slices of a list

pub rest-of : {X Y : Type 0} (f : X → Y) (es : List X) (done : ℕ) → map f (take (length es - done) (drop done es)) ≡ drop done (map f es)
rest-of f es done =
    ap (map f) (take_all (length es - done) (drop done es) (omega (arith, length-drop done es))) ∙ sym (drop-map f done es)

pub run-of : {X Y : Type 0} (f : X → Y) (es : List X) (done size : ℕ) → map f (take size (take (length es - done) (drop done es))) ≡ take size (drop done (map f es))
run-of f es done size = sym (take-map f size (take (length es - done) (drop done es))) ∙ ap (take size) (rest-of f es done)

-- A run has an edit, and no more than there are.
pub size-within : (es : List KeyEdit) (size : ℕ) → 0 < length es → HasRunSize es size → (0 < size) × (size ≤ length es)
size-within [] size some h = absurd (omega arith)
size-within (e ∷ es) zero some h = absurd h.1
size-within (e ∷ es) (suc n) some h = ((omega arith), h.0)
