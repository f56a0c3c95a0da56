-- The keys of a source are those of no other list.
use Rattle.std.proofs.Common.{◌≡◌, ◌≢◌, ℕ, zero, suc, List, [], ◌∷◌, ◌++◌, refl, ap, sym, ◌∙◌, inl, inr, subst, arith}
use Rattle.std.specs.Prelude.{AllPairs, map}
use Rattle.properties_format.specs.{Encoding.Encoding, Computed.Maps.Has, Writing.Pair}
use Rattle.properties_format.specs.Items.{comment, pair, Entry, item, malformed, read_fault}
use Rattle.properties_format.specs.Maps.{HasNoPair, PairComesBefore, AreKeys, IsLastValue}
use Rattle.properties_format.proofs.{Edits.PairValues.pairs_of-only, Keys.contained, Keys.contains}
use Rattle.properties_tools.specs.Propedit.Listing.{AreKeysOf, AreLastPairs}
use Rattle.std.proofs.{lemmas.List.Elements.All-map, lemmas.Simd.map-map}
use Rattle.properties_tables.specs.{Private.Table.row_pair, Table.HasRows, Table.Row}
use Rattle.properties_tools.proofs.Differences.{last-value}

no_pair-tail : (key : List ℕ) (x : Entry) (xs : List Entry) → HasNoPair key (x ∷ xs) → HasNoPair key xs
no_pair-tail key (item n (pair k v)) xs h = h.1
no_pair-tail key (item n (comment text)) xs h = h
no_pair-tail key (malformed kind n) xs h = h
no_pair-tail key (read_fault n) xs h = h

-- Of two keys one comes first.
one-first : (key other v w : List ℕ) (n m : ℕ) (bs cs xs ds : List Entry) → bs ++ (item n (pair key v) ∷ xs) ≡ cs ++ (item m (pair other w) ∷ ds)
    → HasNoPair other bs → HasNoPair key cs → key ≢ other → ⊥
one-first key other v w n m [] [] xs ds e none apart differ = differ (cc)
one-first key other v w n m [] (c ∷ cs) xs ds e none apart differ =
    let same : item n (pair key v) ≡ c = cc in
    (subst (λ x. HasNoPair key (x ∷ cs)) (sym same) apart).0 refl
one-first key other v w n m (b ∷ bs) [] xs ds e none apart differ =
    let same : item m (pair other w) ≡ b = cc in
    (subst (λ x. HasNoPair other (x ∷ bs)) (sym same) none).0 refl
one-first key other v w n m (b ∷ bs) (c ∷ cs) xs ds e none apart differ =
    let rest : bs ++ (item n (pair key v) ∷ xs) ≡ cs ++ (item m (pair other w) ∷ ds) = cc in
    one-first key other v w n m bs cs xs ds rest (no_pair-tail other b bs none) (no_pair-tail key c cs apart) differ

asymmetric : (entries : List Entry) (key other : List ℕ) → PairComesBefore entries key other → PairComesBefore entries other key → ⊥
asymmetric entries key other p q =
    one-first key other p.value q.value p.number q.number p.before q.before p.after q.after (sym p.division ∙ q.division) p.none_before q.none_before p.differ

-- A key after the first comes after it.
first-before : (entries : List Entry) (k key : List ℕ) (ks : List (List ℕ)) → AllPairs (PairComesBefore entries) (k ∷ ks) → Has key ks
    → PairComesBefore entries k key
first-before entries k key ks all h =
    let c = contains key ks h in
    subst (PairComesBefore entries k) c.2 (all zero (suc c.0) key (omega arith) (let l = c.1 in omega arith))

ordered-rest : (entries : List Entry) (k : List ℕ) (ks : List (List ℕ)) → AllPairs (PairComesBefore entries) (k ∷ ks) → AllPairs (PairComesBefore entries) ks
ordered-rest entries k ks all = λ i j d l m. all (suc i) (suc j) d (omega arith) (omega arith)

-- Two lists in that order that have the same keys are one.
ordered-same : (entries : List Entry) (ks ls : List (List ℕ)) → AllPairs (PairComesBefore entries) ks → AllPairs (PairComesBefore entries) ls
    → ((key : List ℕ) → Has key ks → Has key ls) → ((key : List ℕ) → Has key ls → Has key ks) → ks ≡ ls
ordered-same entries [] [] a b to from = refl
ordered-same entries [] (l ∷ ls) a b to from = absurd (from l (inl refl))
ordered-same entries (k ∷ ks) [] a b to from = absurd (to k (inl refl))
ordered-same entries (k ∷ ks) (l ∷ ls) a b to from =
    ap (λ v. v ∷ ks) heads
    ∙ ap (λ v. l ∷ v)
    (ordered-same entries ks ls (ordered-rest entries k ks a) (ordered-rest entries l ls b)
    (λ key h. elim (to key (inr h)) [
      | inl e ↦ let p = first-before entries k key ks a h in absurd (p.differ (heads ∙ e))
      | inr m ↦ m
    ])
    (λ key h. elim (from key (inr h)) [
      | inl e ↦ let p = first-before entries l key ls b h in absurd (p.differ (sym heads ∙ e))
      | inr m ↦ m
    ]))
  where
    heads : k ≡ l
    heads = elim (to k (inl refl)) [
      | inl e ↦ sym e
      | inr m ↦ elim (from l (inl refl)) [
        | inl e ↦ e
        | inr n ↦ absurd (asymmetric entries k l (first-before entries k l ks a n) (first-before entries l k ls b m))
      ]
    ]

-- No other list has the keys of a source.
pub keys-only : (e : Encoding) (source : List ℕ) (keys others : List (List ℕ)) → AreKeysOf e source keys → AreKeysOf e source others → others ≡ keys
keys-only e source keys others h k = ordered-same h.entries others keys other.in_order h.each.in_order
    (λ key m. contained key keys ((h.each.each key).1 ((other.each key).0 (contains key others m))))
    (λ key m. contained key others ((other.each key).1 ((h.each.each key).0 (contains key keys m))))
  where
    other : AreKeys h.entries others
    other = subst (λ v. AreKeys v others) (pairs_of-only e source k.entries k.are ∙ sym (pairs_of-only e source h.entries h.are)) k.each

pub last-pairs : {e : Encoding} {source : List ℕ} {rows : List Row} → HasRows e source rows → AreLastPairs e source (map row_pair rows)
last-pairs {rows = rows} h = record {
  entries = h.pairs;
  are = h.are;
  keys = subst (AreKeys h.pairs) (sym (map-map (λ (p : Pair). p.0) row_pair rows)) h.have.keys;
  values = All-map (λ (p : Pair). IsLastValue h.pairs p.0 p.1) row_pair rows (λ k d l. last-value (h.have.each k d l));
}
