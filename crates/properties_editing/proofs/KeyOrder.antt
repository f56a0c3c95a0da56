-- The keys of parts: the places of their first pairs follow the order of the body.
use Rattle.std.proofs.Common.{◌≡◌, ◌≢◌, ◌<◌, ℕ, zero, suc, ◌+◌, false, List, [], ◌∷◌, ◌++◌, length, get_or, refl, ap, sym, ◌∙◌, inl, inr, subst, arith, append-nil, append_assoc}
use Rattle.std.specs.Prelude.{◌⊎◌, Option, Some, None, AllPairs, map, take, bytes_eq, string_bytes, slice_get, replicate, filter_map}
use Rattle.std.specs.Borrow.{Bor}
use Rattle.std.specs.Global.{Global}
use Rattle.std.specs.List.{AllByRecursion, cons_option}
use Rattle.std.specs.Str.{chars}
use Rattle.std.specs.String.{string_cmp, string_cmp_total}
use Rattle.std.specs.BTreeMap.{BTreeMap, IsOrdered}
use Rattle.std.specs.declared.string.String.{String}
use Rattle.std.proofs.Math.ListN.{set}
use Rattle.std.proofs.lemmas.Bool.{cases_Bool}
use Rattle.std.proofs.lemmas.Bool.Decides.{eqb_tells}
use Rattle.std.proofs.lemmas.List.{map-append, map-set, take_more, length-map, get_or-set_same, get_or-set_other}
use Rattle.std.proofs.lemmas.List.Elements.{All-from_recursion, filter_map-append}
use Rattle.std.proofs.lemmas.List.Kept.{AllPairs-cons}
use Rattle.std.proofs.lemmas.Map.Entries.{btree_map_get_place}
use Rattle.std.proofs.lemmas.Slice.Eq.{bytes_eq-Decides}
use Rattle.std.proofs.lemmas.Str.{IsUtf8-string_bytes}
use Rattle.properties_format.specs.Computed.Maps.{Has, ComesBefore, AreFirstOf}
use Rattle.properties_items.specs.Texts.{characters}
use Rattle.properties_items.proofs.TextMaps.Values.{at_chars-sorted}
use Rattle.properties_editing.specs.Documents.{characters_of}
use Rattle.properties_editing.specs.Private.BodyParts.{Said, place_if, listed_places, places_of, places_with, stored_of}
use Rattle.properties_editing.specs.Private.KeyOrder.{AreFirsts, AreKeysAt, HasKeysOf, HavePlaces, IsFirstIn, key_at, said_key}
use Rattle.properties_editing.specs.declared.parts.KeyPlaces.{KeyPlaces}
use Rattle.properties_editing.specs.declared.parts.Parts.{Parts}

-- ---- keys in places

-- the keys of these places, in order
abbrev pub keys_at : List (Option (List ℕ)) → List (List ℕ)
keys_at slots = filter_map (λ o. o) slots

-- the places of a key, where the first place is this one
abbrev places_at : List ℕ → ℕ → List (Option (List ℕ)) → List ℕ
places_at key n [] = []
places_at key n (None ∷ slots) = places_at key (suc n) slots
places_at key n (Some k ∷ slots) = place_if (bytes_eq k key) n (places_at key (suc n) slots)

-- They are those of the key.
said-places : (key : List ℕ) (n : ℕ) (ss : List Said) → places_with key n ss ≡ places_at key n (map said_key ss)
said-places key n [] = refl
said-places key n (None ∷ ss) = said-places key (suc n) ss
said-places key n (Some (k, v) ∷ ss) = ap (place_if (bytes_eq k key) n) (said-places key (suc n) ss)

-- A key in a place is one of the keys.
at-has : (slots : List (Option (List ℕ))) (i : ℕ) (key : List ℕ) → get_or slots i None ≡ Some key → Has key (keys_at slots)
at-has [] i key e = absurd (cc)
at-has (None ∷ slots) zero key e = absurd (cc)
at-has (Some k ∷ slots) zero key e = inl (cc)
at-has (None ∷ slots) (suc i) key e = at-has slots i key e
at-has (Some k ∷ slots) (suc i) key e = inr (at-has slots i key e)

-- Each of the keys is in a place.
has-at : (slots : List (Option (List ℕ))) (key : List ℕ) → Has key (keys_at slots) → (i : ℕ) × (get_or slots i None ≡ Some key)
has-at [] key h = absurd h
has-at (None ∷ slots) key h = let m = has-at slots key h in (suc m.0, m.1)
has-at (Some k ∷ slots) key (inl e) = (0, ap Some e)
has-at (Some k ∷ slots) key (inr h) = let m = has-at slots key h in (suc m.0, m.1)

-- What is in a place is within the places.
some-inside : {X : Type 0} (xs : List (Option X)) (i : ℕ) (x : X) → get_or xs i None ≡ Some x → i < length xs
some-inside [] i x h = absurd (cc)
some-inside (o ∷ xs) zero x h = omega arith
some-inside (o ∷ xs) (suc i) x h = let low = some-inside xs i x h in omega arith

-- ---- the first place of a key

-- It is the place at hand, or a later one.
first-step : (key : List ℕ) (n : ℕ) (k : List ℕ) (slots : List (Option (List ℕ))) (i : ℕ) (rest : List ℕ) → places_at key n (Some k ∷ slots) ≡ i ∷ rest
    → ((k ≡ key) × (n ≡ i)) ⊎ ((k ≢ key) × (places_at key (suc n) slots ≡ i ∷ rest))
first-step key n k slots i rest h = elim (cases_Bool (bytes_eq k key)) [
  | inl b ↦
      inl ((bytes_eq-Decides k key).0 b, cc)
  | inr b ↦ inr ((λ q. let t = (bytes_eq-Decides k key).1 q in absurd (cc)), sym (ap (λ v. place_if v n (places_at key (suc n) slots)) b) ∙ h)
]

-- The key is there.
record IsFound (slots : List (Option (List ℕ))) (key : List ℕ) (n i : ℕ) : Type 0 where
  behind : ℕ
  is : i ≡ n + behind
  at : get_or slots behind None ≡ Some key

first-found : (key : List ℕ) (n : ℕ) (slots : List (Option (List ℕ))) (i : ℕ) (rest : List ℕ) → places_at key n slots ≡ i ∷ rest → IsFound slots key n i
first-found key n [] i rest h = absurd (cc)
first-found key n (None ∷ slots) i rest h =
    let m = first-found key (suc n) slots i rest h in
    let is = m.is in
    record { behind = suc m.behind; is = omega arith; at = m.at }
first-found key n (Some k ∷ slots) i rest h = elim (first-step key n k slots i rest h) [
  | inl this ↦ let is = this.1 in record { behind = 0; is = omega arith; at = ap Some this.0 }
  | inr later ↦
      let m = first-found key (suc n) slots i rest later.1 in
      let is = m.is in
      record { behind = suc m.behind; is = omega arith; at = m.at }
]

-- A key in a place has one.
has-place : (key : List ℕ) (n : ℕ) (slots : List (Option (List ℕ))) → Has key (keys_at slots) → (i : ℕ) × (rest : List ℕ) × (places_at key n slots ≡ i ∷ rest)
has-place key n [] h = absurd h
has-place key n (None ∷ slots) h = has-place key (suc n) slots h
has-place key n (Some k ∷ slots) h = elim (cases_Bool (bytes_eq k key)) [
  | inl b ↦ (n, places_at key (suc n) slots, ap (λ v. place_if v n (places_at key (suc n) slots)) b)
  | inr b ↦
      let m = has-place key (suc n) slots (later h b) in
      (m.0, m.1, ap (λ v. place_if v n (places_at key (suc n) slots)) b ∙ m.2)
]
  where
    later : Has key (k ∷ keys_at slots) → bytes_eq k key ≡ false → Has key (keys_at slots)
    later (inl q) b = let t = (bytes_eq-Decides k key).1 q in absurd (cc)
    later (inr m) b = m

-- A key whose first place is before that of another comes before it.
comes-before : (key other : List ℕ) (n : ℕ) (slots : List (Option (List ℕ))) (i j : ℕ) (is js : List ℕ)
    → places_at key n slots ≡ i ∷ is → places_at other n slots ≡ j ∷ js → i < j → ComesBefore (keys_at slots) key other
comes-before key other n [] i j is js p q low = absurd (cc)
comes-before key other n (None ∷ slots) i j is js p q low = comes-before key other (suc n) slots i j is js p q low
comes-before key other n (Some k ∷ slots) i j is js p q low = elim (first-step key n k slots i is p) [
  | inl this ↦ elim (first-step other n k slots j js q) [
    | inl both ↦ let a = this.1 in let b = both.1 in absurd (omega arith)
    | inr later ↦
        record { before = []; after = keys_at slots; division = ap (λ v. v ∷ keys_at slots) this.0; none_before = tt; differ = λ e. later.0 (this.0 ∙ e) }
  ]
  | inr later ↦ elim (first-step other n k slots j js q) [
    | inl this ↦ let a = (first-found key (suc n) slots i is later.1).is in let b = this.1 in absurd (omega arith)
    | inr behind ↦
        let m = comes-before key other (suc n) slots i j is js later.1 behind.1 low in
        record { before = k ∷ m.before; after = m.after; division = ap (λ v. k ∷ v) m.division; none_before = (behind.0, m.none_before); differ = m.differ }
  ]
]

-- ---- the keys at their first places

module _ {Y : Type 0} (entries : List (String Y × KeyPlaces)) (slots : List (Option (List ℕ)))
    (are_places : (key : List ℕ) → places_of (stored_of entries key) ≡ places_at key 0 slots) where
  -- The first place of a key is among the places.
  found-first : (key : List ℕ) (i : ℕ) → IsFirstIn entries key i → IsFound slots key 0 i
  found-first key i p = first-found key 0 slots i p.0 (sym (are_places key) ∙ p.1)

  first-inside : (key : List ℕ) (i : ℕ) → IsFirstIn entries key i → i < length slots
  first-inside key i p =
      let m = found-first key i p in
      let is = m.is in
      let low = some-inside slots m.behind key m.at in
      omega arith

  -- Two keys with one first place are equal.
  first-only : (key other : List ℕ) (i : ℕ) → IsFirstIn entries key i → IsFirstIn entries other i → key ≡ other
  first-only key other i p q =
      let m = found-first key i p in
      let n = found-first other i q in
      let a = m.is in
      let b = n.is in
      let place : m.behind ≡ n.behind = omega arith in
      let at : Some key ≡ Some other = sym m.at ∙ ap (λ v. get_or slots v None) place ∙ n.at in
      cc

  -- The first places of two keys.
  record HaveOrderedFirsts (key other : List ℕ) : Type 0 where
    place : ℕ
    is_place : IsFirstIn entries key place
    other_place : ℕ
    is_other : IsFirstIn entries other other_place
    below : place < other_place

  -- the keys from this place on, each of which has its first pair there
  abbrev AreFirstFrom : ℕ → List (Option (List ℕ)) → Type 0
  AreFirstFrom n firsts = (i : ℕ) (key : List ℕ) → get_or firsts i None ≡ Some key → IsFirstIn entries key (n + i)

  -- So it is from the next place on.
  first_from-next : (n : ℕ) (o : Option (List ℕ)) (firsts : List (Option (List ℕ))) → AreFirstFrom n (o ∷ firsts) → AreFirstFrom (n + 1) firsts
  first_from-next n o firsts a i key q = let m : n + suc i ≡ n + 1 + i = omega arith in subst (IsFirstIn entries key) m (a (suc i) key q)

  -- A key at an earlier place comes before each of them.
  later-keys : (key : List ℕ) (place : ℕ) → IsFirstIn entries key place → (n : ℕ) (firsts : List (Option (List ℕ))) → place < n
      → AreFirstFrom n firsts → AllByRecursion (HaveOrderedFirsts key) (keys_at firsts)
  later-keys key place p n [] l a = tt
  later-keys key place p n (None ∷ firsts) l a = later-keys key place p (n + 1) firsts (omega arith) (first_from-next n None firsts a)
  later-keys key place p n (Some other ∷ firsts) l a = (
    record { place = place; is_place = p; other_place = n + 0; is_other = a 0 other refl; below = omega arith },
    later-keys key place p (n + 1) firsts (omega arith) (first_from-next n (Some other) firsts a),
  )

  -- Each of the keys comes before those at later places.
  all-apart : (n : ℕ) (firsts : List (Option (List ℕ))) → AreFirstFrom n firsts → AllPairs HaveOrderedFirsts (keys_at firsts)
  all-apart n [] a = λ i j d l m. absurd (omega arith)
  all-apart n (None ∷ firsts) a = all-apart (n + 1) firsts (first_from-next n None firsts a)
  all-apart n (Some key ∷ firsts) a =
      let next = first_from-next n (Some key) firsts a in
      AllPairs-cons HaveOrderedFirsts key (keys_at firsts)
      (All-from_recursion (HaveOrderedFirsts key) (keys_at firsts) (later-keys key (n + 0) (a 0 key refl) (n + 1) firsts (omega arith) next))
      (all-apart (n + 1) firsts next)

  -- They are the keys of all places, each in the position of its first place.
  first-keys : (firsts : List (Option (List ℕ))) → AreFirsts entries firsts → AreFirstOf (keys_at slots) (keys_at firsts)
  first-keys firsts a =
      let apart = all-apart 0 firsts (λ i key q. let m : i ≡ 0 + i = omega arith in subst (IsFirstIn entries key) m (a.only i key q)) in
      record {
        only = λ key k.
            let m = has-at firsts key k in
            let found = found-first key m.0 (a.only m.0 key m.1) in
            at-has slots found.behind key found.at;
        every = λ key k.
            let m = has-place key 0 slots k in
            at-has firsts m.0 key (a.every key m.0 (m.1, are_places key ∙ m.2));
        in_order = λ i j d l m.
            let o = apart i j d l m in
            comes-before _ _ 0 slots o.place o.other_place o.is_place.0 o.is_other.0 (sym (are_places _) ∙ o.is_place.1)
            (sym (are_places _) ∙ o.is_other.1) o.below;
      }

-- ---- what an entry of a map says

-- what is in the middle of a list
get-middle : {X : Type 0} (xs : List X) (x : X) (ys : List X) → slice_get (xs ++ x ∷ ys) (length xs) ≡ Some x
get-middle [] x ys = refl
get-middle (y ∷ xs) x ys = get-middle xs x ys

-- Under the key of an entry is its pair.
entry-stored : {Y : Type 0} (m : BTreeMap (String Y) KeyPlaces) (done rest : List (String Y × KeyPlaces)) (key : String Y)
    (stored : KeyPlaces) → IsOrdered string_cmp m → done ++ (key, stored) ∷ rest ≡ m.entries → stored_of m.entries (characters key) ≡ Some stored
entry-stored m done rest key stored ordered divided =
    let at = ap (λ v. slice_get v (length done)) (sym divided) ∙ get-middle done (key, stored) rest in
    at_chars-sorted m (string_bytes key) (IsUtf8-string_bytes key) ∙ btree_map_get_place string_cmp_total m (length done) key stored ordered at

-- The first of some places, and those after it.
head-got : (places : List ℕ) (i : ℕ) → Some i ≡ slice_get places 0 → (more : List ℕ) × (places ≡ i ∷ more)
head-got [] i e = absurd (cc)
head-got (n ∷ places) i e = let same : n ≡ i = cc in (places, ap (λ v. v ∷ places) same)

-- ---- what is at the places

-- at the first place of each of these entries is its key
abbrev AllPlaced : {Y : Type 0} → List (String Y × KeyPlaces) → List (Option (List ℕ)) → Type 0
AllPlaced [] firsts = Unit {0}
AllPlaced (e ∷ es) firsts =
    ((i : ℕ) (rest : List ℕ) → places_of (Some e.1) ≡ i ∷ rest → get_or firsts i None ≡ Some (characters e.0)) × AllPlaced es firsts

-- The keys of the entries before these are at their first places, and no others.
pub record IsPlacing {Y : Type 0} (entries rest : List (String Y × KeyPlaces)) (firsts : List (Option (List ℕ))) : Type 0 where
  done : List (String Y × KeyPlaces)
  division : done ++ rest ≡ entries
  only : (i : ℕ) (key : List ℕ) → get_or firsts i None ≡ Some key → IsFirstIn entries key i
  every : AllPlaced done firsts

-- what is only what is none is none
pub only-none : {X : Type 0} (P : Option X → Type 0) → ((x : X) → P (Some x) → ⊥) → (o : Option X) → P o → o ≡ None
only-none P never None h = refl
only-none P never (Some x) h = absurd (never x h)

-- before the first entry nothing is there
none-at : (n i : ℕ) (key : List ℕ) → get_or (map key_at (replicate n None)) i None ≡ Some key → ⊥
none-at zero i key e = cc
none-at (suc n) zero key e = cc
none-at (suc n) (suc i) key e = none-at n i key e

-- So nothing is placed.
pub placing-none : {Y : Type 0} (entries rest : List (String Y × KeyPlaces)) (n : ℕ) (firsts : List (Option (Bor (List ℕ))))
    → rest ≡ entries → firsts ≡ replicate n None → IsPlacing entries rest (map key_at firsts)
placing-none entries rest n firsts all none =
    record { done = []; division = all; only = λ i key e. absurd (none-at n i key (ap (λ v. get_or (map key_at v) i None) (sym none) ∙ e)); every = tt }

-- One entry more is placed.
placed-push : {Y : Type 0} (done : List (String Y × KeyPlaces)) (e : String Y × KeyPlaces) (firsts : List (Option (List ℕ)))
    → AllPlaced done firsts → ((i : ℕ) (rest : List ℕ) → places_of (Some e.1) ≡ i ∷ rest → get_or firsts i None ≡ Some (characters e.0))
    → AllPlaced (done ++ e ∷ []) firsts
placed-push [] e firsts a h = (h, tt)
placed-push (d ∷ done) e firsts a h = (a.0, placed-push done e firsts a.1 h)

-- The key of an entry comes to its first place, where no other is.
module _ {Y : Type 0} (entries rest : List (String Y × KeyPlaces)) (firsts : List (Option (List ℕ))) (key : String Y) (stored : KeyPlaces) (i : ℕ)
    (more : List ℕ) (h : IsPlacing entries ((key, stored) ∷ rest) firsts) (first : places_of (Some stored) ≡ i ∷ more) (inside : i < length firsts)
    (this : IsFirstIn entries (characters key) i) (alone : (other : List ℕ) → IsFirstIn entries other i → other ≡ characters key) where
  abbrev next : List (Option (List ℕ))
  next = set firsts i (Some (characters key))

  here : get_or next i None ≡ Some (characters key)
  here = get_or-set_same firsts i (Some (characters key)) None inside

  still : (j : ℕ) (other : List ℕ) → get_or firsts j None ≡ Some other → get_or next j None ≡ Some other
  still j other e = elim (eqb_tells j i) [
    | inl s ↦
        let at : get_or firsts i None ≡ Some other = ap (λ v. get_or firsts v None) (sym s.1) ∙ e in
        ap (λ v. get_or next v None) s.1 ∙ here ∙ ap Some (sym (alone other (h.only i other at)))
    | inr s ↦ get_or-set_other firsts i j (Some (characters key)) None s.1 ∙ e
  ]

  only-next : (j : ℕ) (other : List ℕ) → get_or next j None ≡ Some other → IsFirstIn entries other j
  only-next j other e = elim (eqb_tells j i) [
    | inl s ↦
        let t = here in
        let at : get_or next i None ≡ Some other = ap (λ v. get_or next v None) (sym s.1) ∙ e in
        let same : characters key ≡ other = cc in
        let P : List ℕ → Type 0 = λ v. IsFirstIn entries v j in
        let Q : ℕ → Type 0 = IsFirstIn entries (characters key) in
        subst P same (subst Q (sym s.1) this)
    | inr s ↦ h.only j other (sym (get_or-set_other firsts i j (Some (characters key)) None s.1) ∙ e)
  ]

  all-still : (done : List (String Y × KeyPlaces)) → AllPlaced done firsts → AllPlaced done next
  all-still [] a = tt
  all-still (d ∷ done) a = ((λ j more e. still j (characters d.0) (a.0 j more e)), all-still done a.1)

  placing-more : IsPlacing entries rest next
  placing-more =
      record {
        done = h.done ++ (key, stored) ∷ [];
        division = append_assoc h.done ((key, stored) ∷ []) rest ∙ h.division;
        only = only-next;
        every = placed-push h.done (key, stored) next (all-still h.done h.every)
            (λ j more e. let f = first in let same : j ≡ i = cc in ap (λ v. get_or next v None) same ∙ here);
      }

-- What is stored of a key is that of an entry, which is placed.
placed-at : {Y : Type 0} (entries : List (String Y × KeyPlaces)) (firsts : List (Option (List ℕ))) (key : List ℕ) (i : ℕ) → AllPlaced entries firsts
    → IsFirstIn entries key i → get_or firsts i None ≡ Some key
placed-at [] firsts key i a (rest, e) = absurd (cc)
placed-at (d ∷ entries) firsts key i a (rest, e) = elim (cases_Bool (bytes_eq key (characters d.0))) [
  | inl same ↦
      let this : stored_of (d ∷ entries) key ≡ Some d.1 = rw same refl in
      a.0 i rest (ap places_of (sym this) ∙ e) ∙ ap Some (sym ((bytes_eq-Decides key (characters d.0)).0 same))
  | inr other ↦
      let rest_of : stored_of (d ∷ entries) key ≡ stored_of entries key = rw other refl in
      placed-at entries firsts key i a.1 (rest, ap places_of (sym rest_of) ∙ e)
]

-- After the last entry each key is at its first place.
pub placing-all : {Y : Type 0} (entries : List (String Y × KeyPlaces)) (firsts : List (Option (Bor (List ℕ))))
    → IsPlacing entries [] (map key_at firsts) → AreKeysAt entries firsts
placing-all entries firsts h =
    let all : h.done ≡ entries = sym (append-nil h.done) ∙ h.division in
    record {
      only = h.only;
      every = λ key i p. placed-at entries (map key_at firsts) key i (subst (λ v. AllPlaced v (map key_at firsts)) all h.every) p;
    }

-- ---- the keys of parts

-- The key of the next entry comes to its first place, which is one of the parts.
pub placing-next : (parts : Parts) (rest : List (String Global × KeyPlaces)) (firsts : List (Option (Bor (List ℕ))))
    (key : String Global) (stored : KeyPlaces) (i : ℕ) (borrowed : Bor (List ℕ))
    → HavePlaces parts → IsPlacing parts.keys.places.entries ((key, stored) ∷ rest) (map key_at firsts) → Some i ≡ slice_get (listed_places stored) 0
    → borrowed.now ≡ string_bytes key → length firsts ≡ length parts.parts.items
    → (i < length firsts) × IsPlacing parts.keys.places.entries rest (map key_at (set firsts i (Some borrowed)))
placing-next parts rest firsts key stored i borrowed have h first is size =
    let entries = parts.keys.places.entries in
    let slots = map said_key have.said in
    let are_places : (k : List ℕ) → places_of (stored_of entries k) ≡ places_at k 0 slots = λ k. have.placed.places k ∙ said-places k 0 have.said in
    let head = head-got (listed_places stored) i first in
    let this : IsFirstIn entries (characters key) i =
    (head.0, ap places_of (entry-stored parts.keys.places h.done rest key stored have.placed.ordered h.division) ∙ head.1) in
    let low = first-inside entries slots are_places (characters key) i this in
    let mapped = length-map firsts key_at in
    let pieces = length-map have.said said_key in
    let count = have.size in
    let placed : set (map key_at firsts) i (Some (characters key)) ≡ map key_at (set firsts i (Some borrowed)) =
    ap (λ v. set (map key_at firsts) i (Some (chars v))) (sym is) ∙ sym (map-set key_at firsts i (Some borrowed)) in (
      omega arith,
      subst (IsPlacing entries rest) placed
          (placing-more entries rest (map key_at firsts) key stored i head.0 h head.1 (omega arith) this
          (λ other q. first-only entries slots are_places other (characters key) i q this)),
    )

-- An entry without places is passed over.
pub placing-over : {Y : Type 0} (entries rest : List (String Y × KeyPlaces)) (firsts : List (Option (List ℕ))) (key : String Y) (stored : KeyPlaces)
    → IsPlacing entries ((key, stored) ∷ rest) firsts → None ≡ slice_get (listed_places stored) 0 → IsPlacing entries rest firsts
placing-over entries rest firsts key stored h none = record {
  done = h.done ++ (key, stored) ∷ [];
  division = append_assoc h.done ((key, stored) ∷ []) rest ∙ h.division;
  only = h.only;
  every = placed-push h.done (key, stored) firsts h.every (λ i more e. let at = none ∙ ap (λ v. slice_get v 0) e in absurd (cc));
}

-- The keys that are at places, where a place is made of something.
keys-mapped : {X : Type 0} (f : X → Option (List ℕ)) (xs : List X) → keys_at (map f xs) ≡ filter_map f xs
keys-mapped f [] = refl
keys-mapped f (x ∷ xs) = ap (cons_option (f x)) (keys-mapped f xs)

-- The keys at the places are those of the parts.
pub tells-keys : (parts : Parts) (firsts : List (Option (Bor (List ℕ)))) (keys : List (Bor (List ℕ))) → AreKeysAt parts.keys.places.entries firsts
    → characters_of keys ≡ filter_map key_at firsts → HasKeysOf parts keys
tells-keys parts firsts keys placed is = λ said are.
    subst (λ v. AreFirstOf v (characters_of keys)) (keys-mapped said_key said)
    (subst (AreFirstOf (keys_at (map said_key said))) (keys-mapped key_at firsts ∙ sym is)
    (first-keys parts.keys.places.entries (map said_key said) (λ k. are.places k ∙ said-places k 0 said) (map key_at firsts) placed))

-- The key at one place more is read, if one is there,
pub found-more : (firsts : List (Option (Bor (List ℕ)))) (i : ℕ) (keys : List (Bor (List ℕ))) (key : Bor (List ℕ)) → i < length firsts
    → get_or firsts i None ≡ Some key → characters_of keys ≡ filter_map key_at (take i firsts)
    → characters_of (keys ++ key ∷ []) ≡ filter_map key_at (take (i + 1) firsts)
found-more firsts i keys key inside is so_far =
    map-append (λ text. chars text.now) keys (key ∷ [])
    ∙ ap (λ v. v ++ chars key.now ∷ []) so_far
    ∙ sym (ap (filter_map key_at) (take_more firsts i None inside ∙ ap (λ o. take i firsts ++ o ∷ []) is)
    ∙ filter_map-append key_at (take i firsts) (Some key ∷ []))

-- and else none.
pub found-none : (firsts : List (Option (Bor (List ℕ)))) (i : ℕ) (keys : List (Bor (List ℕ))) → i < length firsts
    → get_or firsts i None ≡ None → characters_of keys ≡ filter_map key_at (take i firsts)
    → characters_of keys ≡ filter_map key_at (take (i + 1) firsts)
found-none firsts i keys inside is so_far =
    so_far
    ∙ sym (append-nil (filter_map key_at (take i firsts)))
    ∙ sym (ap (filter_map key_at) (take_more firsts i None inside ∙ ap (λ o. take i firsts ++ o ∷ []) is)
    ∙ filter_map-append key_at (take i firsts) (None ∷ []))
