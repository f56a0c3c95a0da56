-- Values of some keys that are looked up.
use Rattle.std.proofs.Common.{◌≡◌, ℕ, ◌+◌, ◌<◌, true, List, [], ◌∷◌, ◌++◌, length, map, drop, get_or, zero, suc, refl, sym, ap, ◌∙◌, inl, inr, subst, arith}
use Rattle.std.specs.Prelude.{◌⊎◌, ◌==◌, Option, Some, None, Ok}
use Rattle.std.specs.{Borrow.Bor, Option.option_map, Str.chars, declared.string.String.String}
use Rattle.std.proofs.lemmas.Bool.{eqb-true}
use native.Mathlib.Numerals.{unary_clauses}
use Rattle.properties_format.specs.{Encoding.Encoding, Edits.AreInComments, Edits.HasPairValue, Found.MalformedEscape}
use Rattle.properties_format.proofs.MalformedEscapes.{malformed_escapes_of-only}
use Rattle.java_properties.specs.Maps.{characters}
use Rattle.properties_changing.specs.{Keys.HoldsKeys, Keys.IsFirstAbsent, Change.borrowed_characters, Private.Collected.first_without}
use Rattle.properties_changing.specs.Private.Collected.{FindsAbsent}
use Rattle.properties_tables.specs.{Failures.IsMemoryFailure, Values.HaveValues, Values.SaysMalformed, Sources.HasSoundBytes, Sources.IsSound}
use Rattle.properties_tables.specs.{Sources.IsUnsound, declared.error.Failure.Failure}

-- ---- a source that is refused

-- A malformed escape among those in comments is in one too.
in-comment : (before after : List MalformedEscape) (escape : MalformedEscape) → AreInComments (before ++ escape ∷ after) → escape.in_comment ≡ true
in-comment [] after escape h = h.0
in-comment (m ∷ ms) after escape h = in-comment ms after escape h.1

module _ (e : Encoding) (source : List ℕ) (failure : Failure) where
  -- In a sound source keys are looked up unless memory runs out.
  pub lost : SaysMalformed e source failure ⊎ IsMemoryFailure failure → IsSound e source → IsMemoryFailure failure
  lost (inl m) sound =
      let f = m.first sound.bytes in
      let s = sound.in_comments in
      let same = malformed_escapes_of-only e source _ f.are ∙ sym (malformed_escapes_of-only e source s.0 s.1) in
      let a = in-comment f.before f.after f.escape (subst AreInComments (sym same) s.2) in
      let b = f.in_pair in
      absurd (cc)
  lost (inr l) sound = l

  pub refused : SaysMalformed e source failure ⊎ IsMemoryFailure failure → HasSoundBytes e source → IsUnsound e source failure
  refused (inl m) bytes = subst (IsUnsound e source) (sym m.is) (m.first bytes)
  refused (inr l) bytes = subst (IsUnsound e source) (sym l.is) l.memory

module _ (e : Encoding) (source : List ℕ) where
  pub as-many : (keys : List (List ℕ)) (values : List (Option (List ℕ))) → HaveValues e source keys values → length values ≡ length keys
  as-many [] [] h = refl
  as-many [] (v ∷ vs) h = absurd h
  as-many (n ∷ ns) [] h = absurd h
  as-many (n ∷ ns) (v ∷ vs) h = ap suc (as-many ns vs h.1)

  -- ---- keys that no pair has

  pub of-none : {Y : Type 0} (keys : List (String Y)) → (length keys == 0) ≡ true → HoldsKeys e source (map characters keys)
  of-none [] none = tt
  of-none (k ∷ ks) none = let some = eqb-true (length (k ∷ ks)) 0 none in absurd (omega (arith, some))

  pub none-absent : (keys : List (List ℕ)) (values : List (Option (List ℕ))) → HaveValues e source keys values → None ≡ first_without keys values
      → HoldsKeys e source keys
  none-absent [] values h is = tt
  none-absent (k ∷ ks) [] h is = absurd h
  none-absent (k ∷ ks) (Some value ∷ vs) h is = ((value, h.0), none-absent ks vs h.1 is)
  none-absent (k ∷ ks) (None ∷ vs) h is = absurd (cc)

  pub one-absent : (keys : List (List ℕ)) (values : List (Option (List ℕ))) (key : List ℕ) → HaveValues e source keys values
      → Some key ≡ first_without keys values
      → IsFirstAbsent e source keys key
  one-absent [] values key h is = absurd (cc)
  one-absent (k ∷ ks) [] key h is = absurd h
  one-absent (k ∷ ks) (Some value ∷ vs) key h is =
      let r = one-absent ks vs key h.1 is in
      record { before = k ∷ r.before; after = r.after; division = ap (λ v. k ∷ v) r.division; passed = ((value, h.0), r.passed); absent = r.absent }
  one-absent (k ∷ ks) (None ∷ vs) key h is =
      let same : k ≡ key = cc in
      record { before = []; after = ks; division = ap (λ v. v ∷ ks) same; passed = tt; absent = subst (λ v. HasPairValue e source v None) same h.0 }

  pub absent-found : (keys : List (List ℕ)) (values : List (Option (List ℕ))) (found : Option (Bor (List ℕ))) → HaveValues e source keys values
      → option_map borrowed_characters found ≡ first_without keys values
      → FindsAbsent e source keys (Ok found)
  absent-found keys values None h is = none-absent keys values h is
  absent-found keys values (Some key) h is = one-absent keys values (chars key.now) h is

-- One more of these keys has a value.
more-by : {X : Type 0} (keys : List (List ℕ)) (values : List X) (text : X → Option (List ℕ)) (i : ℕ) (value : X) (found : List ℕ)
    → length values ≡ length keys → i < length values → value ≡ get_or values i value → text value ≡ Some found
    → first_without (drop i keys) (map text (drop i values)) ≡ first_without (drop (suc i) keys) (map text (drop (suc i) values))
more-by [] [] text i value found size below is some = absurd (omega (arith, below))
more-by [] (v ∷ vs) text i value found size below is some = absurd (omega (arith, size))
more-by (k ∷ ks) [] text i value found size below is some = absurd (omega (arith, size))
more-by (k ∷ ks) (v ∷ vs) text zero value found size below is some = ap (λ w. first_without (k ∷ ks) (w ∷ map text vs)) (ap text (sym is) ∙ some)
more-by (k ∷ ks) (v ∷ vs) text (suc i) value found size below is some = more-by ks vs text i value found (omega (arith, size)) (omega (arith, below)) is some

pub without-more : {X : Type 0} (keys : List (List ℕ)) (values : List X) (text : X → Option (List ℕ)) (i : ℕ) (value : X) (found : List ℕ)
    → length values ≡ length keys → i < length values → value ≡ get_or values i value → text value ≡ Some found
    → first_without (drop i keys) (map text (drop i values)) ≡ first_without (drop (i + 1) keys) (map text (drop (i + 1) values))
without-more keys values text i value found size below is some = simp unary_clauses (more-by keys values text i value found size below is some)

-- The next one has none.
pub without-one : {X : Type 0} (keys : List (List ℕ)) (values : List X) (text : X → Option (List ℕ)) (i : ℕ) (value : X) (key : List ℕ)
    → length values ≡ length keys → i < length values → value ≡ get_or values i value → text value ≡ None → key ≡ get_or keys i key
    → first_without (drop i keys) (map text (drop i values)) ≡ Some key
without-one [] [] text i value key size below is none at = absurd (omega (arith, below))
without-one [] (v ∷ vs) text i value key size below is none at = absurd (omega (arith, size))
without-one (k ∷ ks) [] text i value key size below is none at = absurd (omega (arith, size))
without-one (k ∷ ks) (v ∷ vs) text zero value key size below is none at =
    ap (λ w. first_without (k ∷ ks) (w ∷ map text vs)) (ap text (sym is) ∙ none) ∙ ap Some (sym at)
without-one (k ∷ ks) (v ∷ vs) text (suc i) value key size below is none at =
    without-one ks vs text i value key (omega (arith, size)) (omega (arith, below)) is none at
