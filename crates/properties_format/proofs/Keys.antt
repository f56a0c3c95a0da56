-- The keys of entries, each in the position of the first pair with it.
use Rattle.std.proofs.Common.{◌≡◌, ◌≢◌, ℕ, zero, suc, List, [], ◌∷◌, ◌++◌, refl, ap, sym, ◌∙◌, inl, inr, subst, arith}
use Rattle.std.specs.Prelude.{Option, Some, None, Contains, filter_map}
use Rattle.properties_format.specs.Items.{pair, Entry, item}
use Rattle.properties_format.specs.Maps.{HasNoPair, IsLastValue, IsValue, PairComesBefore, AreKeys}
use Rattle.properties_format.specs.Computed.Maps.{Has, HasNot, AreFirstOf}
use Rattle.properties_format.proofs.Maps.{value_in-meets, value_in}

-- ---- keys in a list

pub contained : (key : List ℕ) (ks : List (List ℕ)) → Contains ks key → Has key ks
contained key [] (n, l, e) = absurd (omega arith)
contained key (k ∷ ks) (zero, l, e) = inl e
contained key (k ∷ ks) (suc n, l, e) = inr (contained key ks (n, omega arith, e))

pub contains : (key : List ℕ) (ks : List (List ℕ)) → Has key ks → Contains ks key
contains key [] h = absurd h
contains key (k ∷ ks) (inl e) = (0, omega arith, e)
contains key (k ∷ ks) (inr h) = let m = contains key ks h in (suc m.0, (let l = m.1 in omega arith), m.2)

-- ---- the keys of entries

-- the key of a pair
abbrev pub pair_key : Entry → Option (List ℕ)
pair_key (item n (pair key value)) = Some key
pair_key entry = None

-- the keys of the pairs, in order
abbrev pub pair_keys : List Entry → List (List ℕ)
pair_keys entries = filter_map pair_key entries

no-pair : (key : List ℕ) (entries : List Entry) → HasNoPair key entries → Has key (pair_keys entries) → ⊥
no-pair key [] n h = h
no-pair key (item m (pair k v) ∷ entries) n (inl e) = n.0 e
no-pair key (item m (pair k v) ∷ entries) n (inr h) = no-pair key entries n.1 h
no-pair key (entry ∷ entries) n h = no-pair key entries n h

-- The key of a pair has a value.
key-value : (key : List ℕ) (entries : List Entry) → Has key (pair_keys entries) → (value : List ℕ) × IsLastValue entries key value
key-value key entries h = of-value (value_in entries key) (value_in-meets entries key)
  where
    of-value : (o : Option (List ℕ)) → IsValue entries key o → (value : List ℕ) × IsLastValue entries key value
    of-value (Some value) i = (value, i)
    of-value None n = absurd (no-pair key entries n h)

-- A key with a value is the key of a pair.
value-key : (key value : List ℕ) (n : ℕ) (before after : List Entry) → Has key (pair_keys (before ++ (item n (pair key value) ∷ after)))
value-key key value n [] after = inl refl
value-key key value n (item m (pair k v) ∷ before) after = inr (value-key key value n before after)
value-key key value n (entry ∷ before) after = value-key key value n before after

-- One more entry at the front keeps the order of two keys, if it isn't a pair with the later one.
pair_before-on : (entry : Entry) {entries : List Entry} {key other : List ℕ}
    → ((others : List Entry) → HasNoPair other others → HasNoPair other (entry ∷ others)) → PairComesBefore entries key other → PairComesBefore (entry ∷ entries) key other
pair_before-on entry none p =
    record {
      before = entry ∷ p.before;
      number = p.number;
      value = p.value;
      after = p.after;
      division = ap (λ v. entry ∷ v) p.division;
      none_before = none p.before p.none_before;
      differ = p.differ;
    }

pair_before : (entries : List Entry) (xs ys : List (List ℕ)) (key other : List ℕ) → pair_keys entries ≡ xs ++ key ∷ ys → HasNot other xs → key ≢ other
    → PairComesBefore entries key other
pair_before [] [] ys key other e n a = absurd (cc)
pair_before [] (x ∷ xs) ys key other e n a = absurd (cc)
pair_before (item m (pair k v) ∷ entries) [] ys key other e n a =
    let same : k ≡ key = cc in
    record { before = []; number = m; value = v; after = entries; division = ap (λ w. item m (pair w v) ∷ entries) same; none_before = tt; differ = a }
pair_before (item m (pair k v) ∷ entries) (x ∷ xs) ys key other e n a =
    let same : x ≡ k = cc in
    let rest : pair_keys entries ≡ xs ++ key ∷ ys = cc in
    pair_before-on (item m (pair k v)) (λ others none. ((λ q. n.0 (same ∙ q)), none)) (pair_before entries xs ys key other rest n.1 a)
pair_before (entry ∷ entries) xs ys key other e n a = pair_before-on _ (λ others none. none) (pair_before entries xs ys key other e n a)

-- The keys of the pairs, each once in the order of their first pairs, are the keys of the entries.
pub are-keys : (entries : List Entry) (all keys : List (List ℕ)) → pair_keys entries ≡ all → AreFirstOf all keys → AreKeys entries keys
are-keys entries all keys same h =
    record {
      each = λ key. (
        (λ c. key-value key entries (subst (Has key) (sym same) (h.only key (contained key keys c)))),
        (λ v. contains key keys (h.every key (subst (Has key) (ap pair_keys (sym v.1.division) ∙ same) (value-key key v.0 v.1.number v.1.before v.1.after)))),
      );
      in_order = λ i j d l m. let p = h.in_order i j d l m in pair_before entries p.before p.after _ _ (same ∙ p.division) p.none_before p.differ;
    }
