-- The differences between the rows of two sources are those between their pairs.
use Rattle.std.proofs.Common.{◌≡◌, ◌≢◌, ℕ, zero, suc, List, [], ◌∷◌, ◌++◌, refl, ap, sym, ◌∙◌, inl, inr, subst, arith, if◌then◌else◌}
use Rattle.std.specs.Prelude.{◌⊎◌, All, AllPairs, Contains, Option, Some, None, bytes_eq, map}
use Rattle.std.specs.List.{flat_map}
use Rattle.std.proofs.{lemmas.Bool.cases_Bool, lemmas.List.map-append, lemmas.List.Kept.AllPairs-cons, lemmas.Slice.Eq.bytes_eq-Decides}
use Rattle.std.proofs.lemmas.List.Elements.{All-append, All-cons, All-head, All-tail, All-nil, All-weaker, All-contains, All-map, All-contains_itself, Contains-append_left, Contains-append_right}
use Rattle.java_properties.proofs.KeyLines.{not_same}
use Rattle.properties_format.specs.{Items.Entry, Computed.Maps.Has}
use Rattle.properties_format.specs.Maps.{HasNoPair, IsLastValue, IsValue, PairComesBefore}
use Rattle.properties_format.proofs.{Keys.contained, Maps.value_in, Maps.value_in-meets, Maps.value_in-only}
use Rattle.properties_tables.specs.Table.{Row, row_keys, AreRows, IsRow}
use Rattle.properties_tools.specs.Propedit.Differences.{Difference, gone, came, changed, key_of, AreDifferences, ComesBefore, Differs, IsDifference}
use Rattle.properties_tools.specs.Private.Differing.{became, came_if, differences, of_new, of_old, row_with}

-- ---- the row with a key

-- It is one of the rows, and has the key.
abbrev Finds : List ℕ → List Row → Option Row → Type 0
Finds key rows None = Has key (row_keys rows) → ⊥
Finds key rows (Some r) = (r.key ≡ key) × Contains rows r

at-front : {X : Type 0} (r : X) (rows : List X) → Contains (r ∷ rows) r
at-front r rows = (0, omega arith, refl)

further : {X : Type 0} (r s : X) (rows : List X) → Contains rows s → Contains (r ∷ rows) s
further r s rows c = (suc c.0, (let l = c.1 in omega arith), c.2)

finds-further : (key : List ℕ) (r : Row) (rows : List Row) (found : Option Row) → r.key ≢ key → Finds key rows found → Finds key (r ∷ rows) found
finds-further key r rows None n h = λ c. elim c [ inl e ↦ n e | inr m ↦ h m ]
finds-further key r rows (Some s) n h = (h.0, further r s rows h.1)

finds : (key : List ℕ) (rows : List Row) → Finds key rows (row_with key rows)
finds key [] = λ h. h
finds key (r ∷ rows) = elim (cases_Bool (bytes_eq r.key key)) [
  | inl same ↦ rw same ((bytes_eq-Decides r.key key).0 same, at-front r rows)
  | inr other ↦ rw other (finds-further key r rows (row_with key rows) (not_same r.key key other) (finds key rows))
]

-- Of the rows of some pairs, the one with a key is the row of its pairs; where there is none, no pair has it.
abbrev IsRowWith : List Entry → List ℕ → Option Row → Type 0
IsRowWith pairs key None = HasNoPair key pairs
IsRowWith pairs key (Some r) = IsRow pairs r × (r.key ≡ key)

pub no-value : (pairs : List Entry) (key : List ℕ) → ((value : List ℕ) → IsLastValue pairs key value → ⊥) → HasNoPair key pairs
no-value pairs key never = of (value_in pairs key) (value_in-meets pairs key)
  where
    of : (v : Option (List ℕ)) → IsValue pairs key v → HasNoPair key pairs
    of None h = h
    of (Some value) h = absurd (never value h)

row-with : (pairs : List Entry) (rows : List Row) (key : List ℕ) → AreRows pairs rows → IsRowWith pairs key (row_with key rows)
row-with pairs rows key h = of (row_with key rows) (finds key rows)
  where
    of : (found : Option Row) → Finds key rows found → IsRowWith pairs key found
    of None f = no-value pairs key (λ value v. f (contained key (row_keys rows) ((h.keys.each key).1 (value, v))))
    of (Some r) f = (All-contains (IsRow pairs) rows r h.each f.1, f.0)

pub last-value : {pairs : List Entry} {r : Row} → IsRow pairs r → IsLastValue pairs r.key r.value
last-value {r = r} h = record { before = h.last.before; number = r.last; after = h.last.after; division = h.last.division; no_later = h.last.none_after }

-- its value is the last one
value-of : (pairs : List Entry) (r : Row) (key : List ℕ) (v : Option (List ℕ)) → IsRow pairs r → r.key ≡ key → IsValue pairs key v → v ≡ Some r.value
value-of pairs r key v h same is =
    value_in-only pairs key v is ∙ sym (value_in-only pairs key (Some r.value) (subst (λ k. IsLastValue pairs k r.value) same (last-value h)))

-- where there is none, it has none
no-value-of : (pairs : List Entry) (key : List ℕ) (v : Option (List ℕ)) → HasNoPair key pairs → IsValue pairs key v → v ≡ None
no-value-of pairs key v none is = value_in-only pairs key v is ∙ sym (value_in-only pairs key None none)

-- ---- what a list keeps of another

-- Each row gives one difference at most, which has its key.
abbrev GivesOwn : List ℕ → List Difference → Type 0
GivesOwn key ds = (ds ≡ []) ⊎ ((d : Difference) × (ds ≡ d ∷ []) × (key_of d ≡ key))

module _ (f : Row → List Difference) (own : (r : Row) → GivesOwn r.key (f r)) where
  kept-all : (P : List ℕ → Type 0) (rows : List Row) → All P (row_keys rows) → All P (map key_of (flat_map f rows))
  kept-all P [] h = All-nil P
  kept-all P (r ∷ rows) h =
      let rest = kept-all P rows (All-tail P r.key (row_keys rows) h) in
      elim (own r) [
        | inl none ↦ rw none rest
        | inr one ↦ rw one.1 (All-cons P (key_of one.0) (map key_of (flat_map f rows)) (subst P (sym one.2) (All-head P r.key (row_keys rows) h)) rest)
      ]

  kept-order : (R : List ℕ → List ℕ → Type 0) (rows : List Row) → AllPairs R (row_keys rows) → AllPairs R (map key_of (flat_map f rows))
  kept-order R [] h = h
  kept-order R (r ∷ rows) h =
      let rest = kept-order R rows (λ i j d l m. h (suc i) (suc j) d (omega arith) (omega arith)) in
      let head : All (R r.key) (row_keys rows) = λ i d l. h zero (suc i) d (omega arith) (omega arith) in
      elim (own r) [
        | inl none ↦ rw none rest
        | inr one ↦
            rw one.1 (AllPairs-cons R (key_of one.0) (map key_of (flat_map f rows))
            (subst (λ k. All (R k) (map key_of (flat_map f rows))) (sym one.2) (kept-all (R r.key) rows head)) rest)
      ]

  -- what a row gives is there
  kept-there : (rows : List Row) (r : Row) (d : Difference) → Contains rows r → f r ≡ d ∷ [] → Contains (flat_map f rows) d
  kept-there [] r d (n, l, e) g = absurd (omega arith)
  kept-there (s ∷ rows) r d (zero, l, e) g = Contains-append_left (f s) (flat_map f rows) d (rw (ap f e ∙ g) (0, omega arith, refl))
  kept-there (s ∷ rows) r d (suc n, l, e) g = Contains-append_right (f s) (flat_map f rows) d (kept-there rows r d (n, omega arith, e) g)

  given-all : (P : Difference → Type 0) (rows : List Row) → ((r : Row) → Contains rows r → All P (f r)) → All P (flat_map f rows)
  given-all P [] h = All-nil P
  given-all P (r ∷ rows) h = All-append P (f r) (flat_map f rows) (h r (at-front r rows)) (given-all P rows (λ s c. h s (further r s rows c)))

AllPairs-append : {X : Type 0} (R : X → X → Type 0) (xs ys : List X) → AllPairs R xs → AllPairs R ys → All (λ x. All (R x) ys) xs → AllPairs R (xs ++ ys)
AllPairs-append R [] ys h k across = k
AllPairs-append R (x ∷ xs) ys h k across =
    AllPairs-cons R x (xs ++ ys)
    (All-append (R x) xs ys (λ i d l. h zero (suc i) d (omega arith) (omega arith)) (All-head (λ z. All (R z) ys) x xs across))
    (AllPairs-append R xs ys (λ i j d l m. h (suc i) (suc j) d (omega arith) (omega arith)) k (All-tail (λ z. All (R z) ys) x xs across))

-- ---- the differences

own-became : (r : Row) (found : Option Row) → GivesOwn r.key (became r found)
own-became r None = inr (gone r, refl, refl)
own-became r (Some s) = elim (cases_Bool (bytes_eq r.value s.value)) [
  | inl same ↦ inl (rw same refl)
  | inr other ↦ inr (changed r s, rw other refl, refl)
]

own-came : (s : Row) (found : Option Row) → GivesOwn s.key (came_if found s)
own-came s None = inr (came s, refl, refl)
own-came s (Some r) = inl refl

key-there : (ds : List Difference) (d : Difference) (key : List ℕ) → Contains ds d → key_of d ≡ key → Contains (map key_of ds) key
key-there [] d key (n, l, e) same = absurd (omega arith)
key-there (x ∷ ds) d key (zero, l, e) same = (0, omega arith, ap key_of e ∙ same)
key-there (x ∷ ds) d key (suc n, l, e) same = further (key_of x) key (map key_of ds) (key-there ds d key (n, omega arith, e) same)

key-of : (ds : List Difference) (P : Difference → Type 0) (key : List ℕ) → All P ds → Contains (map key_of ds) key → (d : Difference) × P d × (key_of d ≡ key)
key-of [] P key h (n, l, e) = absurd (omega arith)
key-of (x ∷ ds) P key h (zero, l, e) = (x, All-head P x ds h, e)
key-of (x ∷ ds) P key h (suc n, l, e) = key-of ds P key (All-tail P x ds h) (n, omega arith, e)

module _ (old new : List Entry) (olds news : List Row) (were : AreRows old olds) (are : AreRows new news) where
  is-became : (r : Row) (found : Option Row) → IsRow old r → IsRowWith new r.key found → All (IsDifference old new) (became r found)
  is-became r None h f = All-cons (IsDifference old new) (gone r) [] (h, f) (All-nil (IsDifference old new))
  is-became r (Some s) h f = elim (cases_Bool (bytes_eq r.value s.value)) [
    | inl same ↦ rw same (All-nil (IsDifference old new))
    | inr other ↦ rw other (All-cons (IsDifference old new) (changed r s) [] (h, f.0, sym f.1, not_same r.value s.value other) (All-nil (IsDifference old new)))
  ]

  is-came : (s : Row) (found : Option Row) → IsRow new s → IsRowWith old s.key found → All (IsDifference old new) (came_if found s)
  is-came s None h f = All-cons (IsDifference old new) (came s) [] (f, h) (All-nil (IsDifference old new))
  is-came s (Some r) h f = All-nil (IsDifference old new)

  each-is : All (IsDifference old new) (differences olds news)
  each-is =
      All-append (IsDifference old new) (flat_map (of_old news) olds) (flat_map (of_new olds) news)
      (given-all (of_old news) (λ r. own-became r (row_with r.key news)) (IsDifference old new) olds
      (λ r c. is-became r (row_with r.key news) (All-contains (IsRow old) olds r were.each c) (row-with new news r.key are)))
      (given-all (of_new olds) (λ s. own-came s (row_with s.key olds)) (IsDifference old new) news
      (λ s c. is-came s (row_with s.key olds) (All-contains (IsRow new) news s are.each c) (row-with old olds s.key were)))

  -- A difference is one of values.
  differing : (d : Difference) → IsDifference old new d → Differs old new (key_of d)
  differing (gone r) h = (Some r.value, None, last-value h.0, h.1, λ e. absurd (cc))
  differing (came s) h = (None, Some s.value, h.0, last-value h.1, λ e. absurd (cc))
  differing (changed r s) h =
      (Some r.value, Some s.value, last-value h.0, subst (λ k. IsLastValue new k s.value) (sym h.2) (last-value h.1), λ e. h.3 (cc))

  in-old : (r : Row) (d : Difference) → Contains olds r → of_old news r ≡ d ∷ [] → Contains (differences olds news) d
  in-old r d c g =
      Contains-append_left (flat_map (of_old news) olds) (flat_map (of_new olds) news) d
      (kept-there (of_old news) (λ s. own-became s (row_with s.key news)) olds r d c g)

  in-new : (s : Row) (d : Difference) → Contains news s → of_new olds s ≡ d ∷ [] → Contains (differences olds news) d
  in-new s d c g =
      Contains-append_right (flat_map (of_old news) olds) (flat_map (of_new olds) news) d
      (kept-there (of_new olds) (λ r. own-came r (row_with r.key olds)) news s d c g)

  -- A key whose values differ has a difference.
  listed : (key : List ℕ) → Differs old new key → Contains (map key_of (differences olds news)) key
  listed key (v, w, iv, iw, ne) =
      of (row_with key olds) (row_with key news) refl refl (finds key olds) (finds key news) (row-with old olds key were) (row-with new news key are)
    where
      there : (d : Difference) → Contains (differences olds news) d → key_of d ≡ key → Contains (map key_of (differences olds news)) key
      there d c same = key-there (differences olds news) d key c same

      of : (found found' : Option Row) → row_with key olds ≡ found → row_with key news ≡ found' → Finds key olds found → Finds key news found'
          → IsRowWith old key found → IsRowWith new key found' → Contains (map key_of (differences olds news)) key
      of None None e e' f f' h h' = absurd (ne (no-value-of old key v h iv ∙ sym (no-value-of new key w h' iw)))
      of None (Some s) e e' f f' h h' = there (came s) (in-new s (came s) f'.1 (ap (λ k. came_if (row_with k olds) s) f'.0 ∙ ap (λ o. came_if o s) e)) f'.0
      of (Some r) None e e' f f' h h' = there (gone r) (in-old r (gone r) f.1 (ap (λ k. became r (row_with k news)) f.0 ∙ ap (became r) e')) f.0
      of (Some r) (Some s) e e' f f' h h' =
          let was = value-of old r key v h.0 f.0 iv in
          let now = value-of new s key w h'.0 f'.0 iw in
          elim (cases_Bool (bytes_eq r.value s.value)) [
            | inl same ↦ absurd (ne (was ∙ ap (λ x. Some x) ((bytes_eq-Decides r.value s.value).0 same) ∙ sym now))
            | inr other ↦
                there (changed r s) (in-old r (changed r s) f.1
                (ap (λ k. became r (row_with k news)) f.0 ∙ ap (became r) e' ∙ ap (λ b. if b then [] else changed r s ∷ []) other)) f.0
          ]

  -- ---- their order

  abbrev Own : List (List ℕ)
  Own = map key_of (flat_map (of_new olds) news)

  new-ones : All (λ key. HasNoPair key old) Own
  new-ones =
      All-map (λ key. HasNoPair key old) key_of (flat_map (of_new olds) news)
      (given-all (of_new olds) (λ s. own-came s (row_with s.key olds)) (λ d. HasNoPair (key_of d) old) news
      (λ s c. of s (row_with s.key olds) (row-with old olds s.key were)))
    where
      of : (s : Row) (found : Option Row) → IsRowWith old s.key found → All (λ d. HasNoPair (key_of d) old) (came_if found s)
      of s None f = All-cons (λ d. HasNoPair (key_of d) old) (came s) [] f (All-nil (λ d. HasNoPair (key_of d) old))
      of s (Some r) f = All-nil (λ d. HasNoPair (key_of d) old)

  old-ones : All (λ key. (value : List ℕ) × IsLastValue old key value) (map key_of (flat_map (of_old news) olds))
  old-ones =
      kept-all (of_old news) (λ r. own-became r (row_with r.key news)) (λ key. (value : List ℕ) × IsLastValue old key value) olds
      (All-weaker (Contains (row_keys olds)) (λ key. (value : List ℕ) × IsLastValue old key value) (λ key c. (were.keys.each key).0 c) (row_keys olds)
      (All-contains_itself (row_keys olds)))

  new-order : (ks : List (List ℕ)) → All (λ key. HasNoPair key old) ks → AllPairs (PairComesBefore new) ks → AllPairs (ComesBefore old new) ks
  new-order ks none h = λ i j d l m. inr (inr (none i d (omega arith), none j d m, h i j d l m))

  ordered : AllPairs (ComesBefore old new) (map key_of (differences olds news))
  ordered =
      rw (map-append key_of (flat_map (of_old news) olds) (flat_map (of_new olds) news)) (
      AllPairs-append (ComesBefore old new) (map key_of (flat_map (of_old news) olds)) Own
      (λ i j d l m. inl (kept-order (of_old news) (λ r. own-became r (row_with r.key news)) (PairComesBefore old) olds were.keys.in_order i j d l m))
      (new-order Own new-ones (kept-order (of_new olds) (λ s. own-came s (row_with s.key olds)) (PairComesBefore new) news are.keys.in_order))
      (λ i d l j d' m. inr (inl ((old-ones i d l).0, (old-ones i d l).1, new-ones j d' m)))
      )

  pub differences-are : AreDifferences old new (differences olds news)
  differences-are = record {
    are = each-is;
    each = λ key. (
      (λ c. let d = key-of (differences olds news) (IsDifference old new) key each-is c in subst (Differs old new) d.2 (differing d.0 d.1)),
      (λ h. listed key h),
    );
    in_order = ordered;
  }
