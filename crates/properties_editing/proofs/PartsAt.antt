-- Parts and the pieces that they stand for, of which one changes: what stays, and the places and values of the keys.
use Rattle.std.proofs.Common.{◌≡◌, ℕ, suc, ◌+◌, Bool, true, false, List, [], ◌∷◌, ◌++◌, Option, Some, None, length, take, drop, refl, ap, ap₂, sym, ◌∙◌, subst, inl, inr, append-nil, append_assoc, arith}
use Rattle.std.specs.Prelude.{bytes_eq, get_or, map}
use Rattle.std.specs.Map.{update}
use Rattle.std.specs.BTreeMap.{IsOrdered}
use Rattle.std.specs.Option.{is_some, option_or}
use Rattle.std.specs.String.{string_cmp}
use Rattle.std.proofs.lemmas.Bool.{cases_Bool, cond-true, cond-false}
use Rattle.std.proofs.lemmas.Slice.Eq.{bytes_eq-Decides}
use Rattle.properties_format.specs.Items.{Outcome, ignored, given, broken}
use Rattle.properties_format.specs.Items as content
use Rattle.properties_format.specs.Body.{HeldLine, groups_bytes}
use Rattle.properties_format.specs.Computed.Body.{has_key, is_pair_with}
use Rattle.properties_items.specs.BorrowedItems.{outcome_pair}
use Rattle.properties_editing.specs.Private.BodyParts.{outcome, AreEnded, ArePartsOf, ArePlaced, EndsAlone, IsEnd, IsPartOf, NoneNamed, Piece, Said, group_said, no_part, piece_groups, piece_said, pieces_groups, place_if, places_of, places_with, said_with, stored_of, value_if, value_said, value_of}
use Rattle.properties_editing.specs.Private.BodyParts as parts
use Rattle.properties_editing.specs.declared.parts.Part.{Part}
use Rattle.properties_editing.specs.declared.parts.KeyPlaces.{KeyPlaces}
use Rattle.properties_editing.specs.declared.parts.NamedKeys.{NamedKeys}

-- ---- one list after another

pub pieces-append : (ps qs : List Piece) → pieces_groups (ps ++ qs) ≡ pieces_groups ps ++ pieces_groups qs
pieces-append [] qs = refl
pieces-append (p ∷ ps) qs = ap (λ v. piece_groups p ++ v) (pieces-append ps qs) ∙ sym (append_assoc (piece_groups p) (pieces_groups ps) (pieces_groups qs))

pub parts-append : (d : List ℕ) (named : List ℕ → Bool) (ps : List Part) (qs : List Piece) (more : List Part) (others : List Piece)
    → ArePartsOf d named ps qs → ArePartsOf d named more others → ArePartsOf d named (ps ++ more) (qs ++ others)
parts-append d named [] [] more others h k = k
parts-append d named [] (q ∷ qs) more others h k = absurd h
parts-append d named (p ∷ ps) [] more others h k = absurd h
parts-append d named (p ∷ ps) (q ∷ qs) more others h k = (h.0, parts-append d named ps qs more others h.1 k)

pub parts-length : (d : List ℕ) (named : List ℕ → Bool) (ps : List Part) (qs : List Piece) → ArePartsOf d named ps qs → length ps ≡ length qs
parts-length d named [] [] h = refl
parts-length d named [] (q ∷ qs) h = absurd h
parts-length d named (p ∷ ps) [] h = absurd h
parts-length d named (p ∷ ps) (q ∷ qs) h = ap suc (parts-length d named ps qs h.1)

-- ---- one piece among others

-- The part of a piece, and those before and behind it.
pub record IsAt (d : List ℕ) (named : List ℕ → Bool) (ps : List Part) (before : List Piece) (q : Piece) (after : List Piece) : Type 0 where
  pub front : ArePartsOf d named (take (length before) ps) before
  pub part : IsPartOf d named (get_or ps (length before) no_part) q
  pub back : ArePartsOf d named (drop (suc (length before)) ps) after

pub parts-at : (d : List ℕ) (named : List ℕ → Bool) (ps : List Part) (before : List Piece) (q : Piece) (after : List Piece)
    → ArePartsOf d named ps (before ++ q ∷ after) → IsAt d named ps before q after
parts-at d named [] [] q after k = absurd k
parts-at d named [] (b ∷ before) q after k = absurd k
parts-at d named (p ∷ ps) [] q after k = record { front = tt; part = k.0; back = k.1 }
parts-at d named (p ∷ ps) (b ∷ before) q after k =
    let m = parts-at d named ps before q after k.1 in record { front = (k.0, m.front); part = m.part; back = m.back }

-- The groups of a piece among all.
pub groups-at-piece : (before : List Piece) (q : Piece) (after : List Piece) (line : List (List HeldLine))
    → pieces_groups (before ++ q ∷ after) ++ line ≡ pieces_groups before ++ (piece_groups q ++ (pieces_groups after ++ line))
groups-at-piece before q after line =
    ap (λ v. v ++ line) (pieces-append before (q ∷ after))
    ∙ append_assoc (pieces_groups before) (piece_groups q ++ pieces_groups after) line
    ∙ ap (λ v. pieces_groups before ++ v) (append_assoc (piece_groups q) (pieces_groups after) line)

-- ---- the last piece

-- A piece that is one group comes last.
pub alone-push : (ps : List Piece) (q : Piece) (g : List HeldLine) → piece_groups q ≡ g ∷ [] → EndsAlone (ps ++ q ∷ [])
alone-push [] q g is = (g, is)
alone-push (p ∷ []) q g is = (g, is)
alone-push (p ∷ r ∷ ps) q g is = alone-push (r ∷ ps) q g is

pub alone-cons : (q : Piece) (ps : List Piece) → EndsAlone ps → EndsAlone (q ∷ ps)
alone-cons q [] k = absurd k
alone-cons q (p ∷ ps) k = k

-- It stays so if other pieces come in the place of the last ones.
pub alone-with : (before : List Piece) (q : Piece) (qs rs : List Piece) → (EndsAlone (q ∷ qs) → EndsAlone rs) → EndsAlone (before ++ q ∷ qs)
    → EndsAlone (before ++ rs)
alone-with [] q qs rs more k = more k
alone-with (b ∷ []) q qs rs more k = alone-cons b rs (more k)
alone-with (b ∷ c ∷ before) q qs rs more k = alone-with (c ∷ before) q qs rs more k

-- The last piece, and the group that it is.
pub record IsAlone (ps : List Piece) : Type 0 where
  pub before : List Piece
  pub last : Piece
  pub group : List HeldLine
  pub are_pieces : ps ≡ before ++ last ∷ []
  pub alone : piece_groups last ≡ group ∷ []

pub alone-last : (ps : List Piece) → EndsAlone ps → IsAlone ps
alone-last [] k = absurd k
alone-last (p ∷ []) k = record { before = []; last = p; group = k.0; are_pieces = refl; alone = k.1 }
alone-last (p ∷ q ∷ ps) k =
    let m = alone-last (q ∷ ps) k in
    record { before = p ∷ m.before; last = m.last; group = m.group; are_pieces = ap (λ v. p ∷ v) m.are_pieces; alone = m.alone }

-- The line behind the pieces has no bytes.
pub end-bytes : (pieces : List Piece) (line : List (List HeldLine)) → IsEnd pieces line → groups_bytes line ≡ []
end-bytes pieces [] k = refl
end-bytes pieces (l ∷ []) k = ap (λ v. v ++ []) k
end-bytes pieces (l ∷ m ∷ ls) k = absurd k

-- ---- a key's places and value

place-append : (b : Bool) (n : ℕ) (xs ys : List ℕ) → place_if b n (xs ++ ys) ≡ place_if b n xs ++ ys
place-append true n xs ys = refl
place-append false n xs ys = refl

pub places-append : (key : List ℕ) (n : ℕ) (ss us : List Said) → places_with key n (ss ++ us) ≡ places_with key n ss ++ places_with key (n + length ss) us
places-append key n [] us = let same : n ≡ n + 0 = omega arith in ap (λ m. places_with key m us) same
places-append key n (s ∷ ss) us =
    let same : suc n + length ss ≡ n + suc (length ss) = omega arith in
    ap (place_if (said_with key s) n) (places-append key (suc n) ss us ∙ ap (λ m. places_with key (suc n) ss ++ places_with key m us) same)
    ∙ place-append (said_with key s) n (places_with key (suc n) ss) (places_with key (n + suc (length ss)) us)

pub or-assoc : {X : Type 0} (a b c : Option X) → option_or (option_or a b) c ≡ option_or a (option_or b c)
or-assoc None b c = refl
or-assoc (Some x) b c = refl

pub or-none : {X : Type 0} (a : Option X) → option_or a None ≡ a
or-none None = refl
or-none (Some x) = refl

pub value-append : (key : List ℕ) (ss us : List Said) → value_said key (ss ++ us) ≡ option_or (value_said key us) (value_said key ss)
value-append key [] us = sym (or-none (value_said key us))
value-append key (s ∷ ss) us = ap (λ v. option_or v (value_if key s)) (value-append key ss us) ∙ or-assoc (value_said key us) (value_said key ss) (value_if key s)

-- A pair with another key says nothing of it.
pub other-value : (key : List ℕ) (s : Said) → said_with key s ≡ false → value_if key s ≡ None
other-value key None h = refl
other-value key (Some (k, v)) h = rw h refl

-- A pair with the key isn't one with another.
pub other-said : (key j : List ℕ) (s : Said) → said_with key s ≡ true → bytes_eq key j ≡ false → said_with j s ≡ false
other-said key j None h n = refl
other-said key j (Some (k, v)) h n = ap (λ x. bytes_eq x j) ((bytes_eq-Decides k key).0 h) ∙ n

-- What a group says is what has the key.
pub said-key : (key : List ℕ) (g : List HeldLine) → has_key key g ≡ said_with key (group_said g)
said-key key g = by (outcome g)
  where
    by : (o : Outcome) → is_pair_with key o ≡ said_with key (outcome_pair o)
    by ignored = refl
    by (given (content.comment x)) = refl
    by (given (content.pair k v)) = refl
    by (broken kind) = refl

place-none : (b : Bool) (n : ℕ) (xs : List ℕ) → place_if b n xs ≡ [] → (b ≡ false) × (xs ≡ [])
place-none true n xs q = absurd (cc)
place-none false n xs q = (refl, q)

-- A key without places has no value.
pub none-value : (key : List ℕ) (n : ℕ) (ss : List Said) → places_with key n ss ≡ [] → value_said key ss ≡ None
none-value key n [] q = refl
none-value key n (s ∷ ss) q =
    let m = place-none (said_with key s) n (places_with key (suc n) ss) q in ap₂ option_or (none-value key (suc n) ss m.1) (other-value key s m.0)

some-or : {X : Type 0} (a b : Option X) → is_some a ≡ true → (is_some (option_or a b) ≡ true) × (is_some (option_or b a) ≡ true)
some-or None b h = absurd (cc)
some-or (Some x) None h = (refl, refl)
some-or (Some x) (Some y) h = (refl, refl)

some-said : (key : List ℕ) (s : Said) → said_with key s ≡ true → is_some (value_if key s) ≡ true
some-said key None h = absurd (cc)
some-said key (Some (k, v)) h = rw h refl

-- A pair with a key has a value of it.
pub some-value : (key : List ℕ) (xs : List Said) (s : Said) (ys : List Said) → said_with key s ≡ true → is_some (value_said key (xs ++ s ∷ ys)) ≡ true
some-value key [] s ys h = (some-or (value_if key s) (value_said key ys) (some-said key s h)).1
some-value key (x ∷ xs) s ys h = (some-or (value_said key (xs ++ s ∷ ys)) (value_if key x) (some-value key xs s ys h)).0

-- Two lists say the same of a key.
abbrev pub SayAlike : List ℕ → ℕ → List Said → List Said → Type 0
SayAlike key n ss us = (places_with key n ss ≡ places_with key n us) × (value_said key ss ≡ value_said key us)

pub alike-behind : (key : List ℕ) (ss us : List Said) → ((n : ℕ) → SayAlike key n ss us) → (xs : List Said) (n : ℕ) → SayAlike key n (xs ++ ss) (xs ++ us)
alike-behind key ss us same [] n = same n
alike-behind key ss us same (x ∷ xs) n =
    let m = alike-behind key ss us same xs (suc n) in
    (ap (place_if (said_with key x) n) m.0, ap (λ v. option_or v (value_if key x)) m.1)

-- So they do where others than pairs with the key change,
pub alike-other : (key : List ℕ) (s r : Said) → said_with key s ≡ false → said_with key r ≡ false → (xs us : List Said) (n : ℕ)
    → SayAlike key n (xs ++ s ∷ us) (xs ++ r ∷ us)
alike-other key s r a b xs us n = alike-behind key (s ∷ us) (r ∷ us) (λ m. (
  ap (λ c. place_if c m (places_with key (suc m) us)) (a ∙ sym b),
  ap (option_or (value_said key us)) (other-value key s a ∙ sym (other-value key r b)),
)) xs n

-- or come last.
pub alike-last : (key : List ℕ) (s : Said) → said_with key s ≡ false → (xs : List Said) (n : ℕ) → SayAlike key n (xs ++ s ∷ []) xs
alike-last key s a xs n =
    subst (SayAlike key n (xs ++ s ∷ [])) (append-nil xs)
    (alike-behind key (s ∷ []) [] (λ m. (ap (λ c. place_if c m []) a, other-value key s a)) xs n)

-- What is stored of one key changes, and the places and values of the others stay.
pub placed-stored : (key : List ℕ) (x : Option KeyPlaces) (old new : NamedKeys) (ss us : List Said)
    → ((k : List ℕ) → stored_of new.places.entries k ≡ update bytes_eq (stored_of old.places.entries) key x k) → IsOrdered string_cmp new.places
    → new.all ≡ old.all → ArePlaced ss old → places_of x ≡ places_with key 0 us → (old.all ≡ true → value_of x ≡ value_said key us)
    → ((j : List ℕ) → bytes_eq key j ≡ false → SayAlike j 0 us ss) → ArePlaced us new
placed-stored key x old new ss us stored ordered all was places value others = record {
  places = λ j. elim (cases_Bool (bytes_eq key j)) [
    | inl b ↦ ap places_of (is j b) ∙ places ∙ ap (λ k. places_with k 0 us) ((bytes_eq-Decides key j).0 b)
    | inr b ↦ ap places_of (isnt j b) ∙ was.places j ∙ sym (others j b).0
  ];
  values = λ has j. elim (cases_Bool (bytes_eq key j)) [
    | inl b ↦ ap value_of (is j b) ∙ value (sym all ∙ has) ∙ ap (λ k. value_said k us) ((bytes_eq-Decides key j).0 b)
    | inr b ↦ ap value_of (isnt j b) ∙ was.values (sym all ∙ has) j ∙ sym (others j b).1
  ];
  ordered = ordered;
}
  where
    is : (j : List ℕ) → bytes_eq key j ≡ true → stored_of new.places.entries j ≡ x
    is j b = stored j ∙ cond-true (bytes_eq key j) x (stored_of old.places.entries j) b

    isnt : (j : List ℕ) → bytes_eq key j ≡ false → stored_of new.places.entries j ≡ stored_of old.places.entries j
    isnt j b = stored j ∙ cond-false (bytes_eq key j) x (stored_of old.places.entries j) b

-- ---- the pair in a place

-- The pair with a key in a place; its other places come before it and behind it.
pub record IsOwn (key : List ℕ) (n : ℕ) (is : List ℕ) (i : ℕ) (js : List ℕ) (pieces : List Piece) : Type 0 where
  pub before : List Piece
  pub group : List HeldLine
  pub after : List Piece
  pub are_pieces : pieces ≡ before ++ parts.own group ∷ after
  pub at : i ≡ n + length before
  pub has : has_key key group ≡ true
  pub earlier : places_with key n (map piece_said before) ≡ is
  pub later : places_with key (suc i) (map piece_said after) ≡ js

front-some : (is : List ℕ) (i : ℕ) (js : List ℕ) → [] ≡ is ++ i ∷ js → ⊥
front-some [] i js q = absurd (cc)
front-some (x ∷ is) i js q = absurd (cc)

own-next : (key : List ℕ) (n i : ℕ) (is js : List ℕ) (p : Piece) (ps : List Piece) → IsOwn key (suc n) is i js ps
    → IsOwn key n (place_if (said_with key (piece_said p)) n is) i js (p ∷ ps)
own-next key n i is js p ps k = record {
  before = p ∷ k.before;
  group = k.group;
  after = k.after;
  are_pieces = ap (λ v. p ∷ v) k.are_pieces;
  at = let s = k.at in omega arith;
  has = k.has;
  earlier = ap (place_if (said_with key (piece_said p)) n) k.earlier;
  later = k.later;
}

pub own-at : (key : List ℕ) (n : ℕ) (is : List ℕ) (i : ℕ) (js : List ℕ) (ps : List Piece) → places_with key n (map piece_said ps) ≡ is ++ i ∷ js
    → IsOwn key n is i js ps
own-at key n is i js [] q = absurd (front-some is i js q)
own-at key n is i js (p ∷ ps) q = elim (cases_Bool (said_with key (piece_said p))) [
  | inr b ↦ subst (λ c. IsOwn key n (place_if c n is) i js (p ∷ ps)) b (own-next key n i is js p ps (own-at key (suc n) is i js ps (of-rest false b)))
  | inl b ↦ this p b is (λ us r. own-at key (suc n) us i js ps r) (of-rest true b)
]
  where
    rest : List ℕ
    rest = places_with key (suc n) (map piece_said ps)

    of-rest : (c : Bool) → said_with key (piece_said p) ≡ c → place_if c n rest ≡ is ++ i ∷ js
    of-rest c b = ap (λ c. place_if c n rest) (sym b) ∙ q

    this : (p : Piece) → said_with key (piece_said p) ≡ true → (is : List ℕ) → ((us : List ℕ) → rest ≡ us ++ i ∷ js → IsOwn key (suc n) us i js ps)
        → n ∷ rest ≡ is ++ i ∷ js → IsOwn key n is i js (p ∷ ps)
    this (parts.others gs) b is again q = absurd (cc)
    this (parts.own g) b [] again q =
        let same : n ≡ i = cc in
        record {
          before = [];
          group = g;
          after = ps;
          are_pieces = refl;
          at = omega arith;
          has = said-key key g ∙ b;
          earlier = refl;
          later = let t : rest ≡ js = cc in ap (λ m. places_with key (suc m) (map piece_said ps)) (sym same) ∙ t;
        }
    this (parts.own g) b (x ∷ is) again q =
        let first : n ≡ x = cc in
        let t : rest ≡ is ++ i ∷ js = cc in
        let m = own-next key n i is js (parts.own g) ps (again is t) in
        subst (λ us. IsOwn key n us i js (parts.own g ∷ ps)) (ap (λ c. place_if c n is) b ∙ ap (λ y. y ∷ is) first) m

-- Where its group is among all.
pub own-division : {key : List ℕ} {n : ℕ} {is : List ℕ} {i : ℕ} {js : List ℕ} {pieces : List Piece} (gs : List (List HeldLine)) (k : IsOwn key n is i js pieces)
    → (a : AreEnded pieces gs) → gs ≡ pieces_groups k.before ++ k.group ∷ (pieces_groups k.after ++ a.line)
own-division gs k a = a.division ∙ ap (λ v. pieces_groups v ++ a.line) k.are_pieces ∙ groups-at-piece k.before (parts.own k.group) k.after a.line

-- ---- groups without a key

abbrev pub AllOther : List ℕ → List (List HeldLine) → Type 0
AllOther key [] = Unit {0}
AllOther key (g ∷ gs) = (has_key key g ≡ false) × AllOther key gs

pub other-append : (key : List ℕ) (gs hs : List (List HeldLine)) → AllOther key gs → AllOther key hs → AllOther key (gs ++ hs)
other-append key [] hs m n = n
other-append key (g ∷ gs) hs m n = (m.0, other-append key gs hs m.1 n)

-- No group has a key that is named, if none has one.
others-other : (named : List ℕ → Bool) (key : List ℕ) (gs : List (List HeldLine)) → NoneNamed named gs → named key ≡ true → AllOther key gs
others-other named key [] m n = tt
others-other named key (g ∷ gs) m n = (said-key key g ∙ by (group_said g) m.0, others-other named key gs m.1 n)
  where
    by : (s : Said) → parts.names_said named s ≡ false → said_with key s ≡ false
    by None q = refl
    by (Some (k, v)) q = elim (cases_Bool (bytes_eq k key)) [
      | inl b ↦ let no = sym q ∙ ap named ((bytes_eq-Decides k key).0 b) ∙ n in absurd (cc)
      | inr b ↦ b
    ]

-- No group has a key that is named and has no place.
pub other-pieces : (d : List ℕ) (named : List ℕ → Bool) (key : List ℕ) → named key ≡ true → (n : ℕ) (ps : List Part) (qs : List Piece)
    → ArePartsOf d named ps qs → places_with key n (map piece_said qs) ≡ [] → AllOther key (pieces_groups qs)
other-pieces d named key is n [] [] k h = tt
other-pieces d named key is n [] (q ∷ qs) k h = absurd k
other-pieces d named key is n (p ∷ ps) [] k h = absurd k
other-pieces d named key is n (p ∷ ps) (q ∷ qs) k h =
    let m = place-none (said_with key (piece_said q)) n (places_with key (suc n) (map piece_said qs)) h in
    other-append key (piece_groups q) (pieces_groups qs) (of-piece q k.0 m.0) (other-pieces d named key is (suc n) ps qs k.1 m.1)
  where
    of-piece : (q : Piece) → IsPartOf d named p q → said_with key (piece_said q) ≡ false → AllOther key (piece_groups q)
    of-piece (parts.own g) k b = (said-key key g ∙ b, tt)
    of-piece (parts.others gs) k b = others-other named key gs k.unnamed is
