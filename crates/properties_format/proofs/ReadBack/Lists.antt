-- Lists of pairs that are written are read back unchanged.
use Rattle.std.proofs.Common.{◌≡◌, ℕ, ◌+◌, List, [], ◌∷◌, refl, ap, ◌∙◌}
use Rattle.properties_format.specs.Encoding.{Encoding, output_encoding}
use Rattle.properties_format.specs.Items.{Entry, IsItems}
use Rattle.properties_format.specs.Lines.{end}
use Rattle.properties_format.specs.Computed.Items.{items_of}
use Rattle.properties_format.specs.Settings.{Settings}
use Rattle.properties_format.specs.Writing.{wrote, items_read_back, ArePrefixesClean, AreOfScalars, AreGoodSettings, Pair, pairs_in, calls_of, items_after, AreAccepted, ArePairsOfScalars}
use Rattle.properties_format.proofs.Items.Unique.{items_of-only}
use Rattle.properties_format.proofs.ReadBack.Law.{items_of-wrote}

-- Accepted pairs are read back, one per line.
pub read_back-pairs : (s : Settings) (n : ℕ) (ps : List Pair) → AreAccepted s ps → items_read_back s n (calls_of ps) ≡ items_after n ps
read_back-pairs s n [] h = refl
read_back-pairs s n (p ∷ ps) h = cc (read_back-pairs s (n + 1) ps h.1)

-- The pairs in the items of pairs.
pub pairs_in-items : (n : ℕ) (ps : List Pair) → pairs_in (items_after n ps) ≡ ps
pairs_in-items n [] = refl
pairs_in-items n (p ∷ ps) = ap (λ v. p ∷ v) (pairs_in-items (n + 1) ps)

-- Pairs are written under no prefix.
pub calls_of-clean : (s : Settings) (ps : List Pair) → ArePrefixesClean s (calls_of ps)
calls_of-clean s [] = tt
calls_of-clean s (p ∷ ps) = calls_of-clean s ps

-- The calls that write pairs of scalar values have texts of scalar values.
pub calls_of-scalars : (ps : List Pair) → ArePairsOfScalars ps → AreOfScalars (calls_of ps)
calls_of-scalars [] h = tt
calls_of-scalars (p ∷ ps) h = (h.0, calls_of-scalars ps h.1)

module _ (e : Encoding) (s : Settings) (own : output_encoding e ≡ e) (good : AreGoodSettings s) where
  -- The items of what was written are the pairs, one per line.
  pub items_of-pairs : (ps : List Pair) → AreAccepted s ps → ArePairsOfScalars ps → items_of e (wrote e s 0 (calls_of ps)) end ≡ items_after 0 ps
  items_of-pairs ps a h = items_of-wrote e s (calls_of ps) own good (calls_of-clean s ps) (calls_of-scalars ps h) ∙ read_back-pairs s 0 ps a

  -- The pairs are those whose items the bytes have.
  pub pairs-of_items : (ps : List Pair) (entries : List Entry) → AreAccepted s ps → ArePairsOfScalars ps → IsItems e (wrote e s 0 (calls_of ps)) end entries
      → pairs_in entries ≡ ps
  pairs-of_items ps entries a h is = ap pairs_in (items_of-only e (wrote e s 0 (calls_of ps)) end entries is ∙ items_of-pairs ps a h) ∙ pairs_in-items 0 ps

  -- Lists of pairs that write equal bytes are equal.
  pub pairs-equal : (ps qs : List Pair) → AreAccepted s ps → ArePairsOfScalars ps → AreAccepted s qs → ArePairsOfScalars qs
      → wrote e s 0 (calls_of ps) ≡ wrote e s 0 (calls_of qs) → ps ≡ qs
  pairs-equal ps qs a h b k same = rw (← pairs_in-items 0 ps, ← items_of-pairs ps a h, same, items_of-pairs qs b k, pairs_in-items 0 qs)

  -- Pairs that are read and written again, under the same settings, are the same bytes.
  pub pairs-settle : (ps : List Pair) (entries : List Entry) → AreAccepted s ps → ArePairsOfScalars ps → IsItems e (wrote e s 0 (calls_of ps)) end entries
      → wrote e s 0 (calls_of (pairs_in entries)) ≡ wrote e s 0 (calls_of ps)
  pairs-settle ps entries a h is = ap (λ v. wrote e s 0 (calls_of v)) (pairs-of_items ps entries a h is)
