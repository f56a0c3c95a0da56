-- Pairs whose values are printed as people write them.
use Rattle.std.proofs.Common.{◌≡◌, ℕ, Bool, List, [], ◌++◌, take, refl, ap, ap₂, sym, ◌∙◌, inl, inr, append_assoc, append-nil}
use Rattle.std.specs.Prelude.{Ok, Err}
use Rattle.properties_format.specs.Escapes as format
use Rattle.properties_format.specs.Escapes.{means, breaks, Means}
use Rattle.properties_text.specs.Escaping.{malformed_in}
use Rattle.properties_text.specs.Printing.{puts_of, key_bytes}
use Rattle.properties_text.specs.PrintedTexts.{meaning_by, meaning_in, bytes_of, key_meaning, value_meaning, IsPairPrinted, BreaksPair, PrintsPair, PrintsMeant}
use Rattle.properties_text.specs.declared.encoding.line_encoding.LineEncoding.{LineEncoding}
use Rattle.properties_text.specs.declared.escape.UnescapeError.{UnescapeError}
use Rattle.properties_text.specs.declared.escape.UnescapeError.TheVariants as error
use Rattle.properties_text.specs.declared.print.Pair.{Pair}
use Rattle.properties_text.specs.declared.print.part.Part.{Part}
use Rattle.properties_text.specs.declared.print.Repertoire.{Repertoire}
use Rattle.properties_text.proofs.PrintedTexts.Runs.{empty-means}
use Rattle.properties_text.proofs.SpeltTexts.Escapes.{no-text}

-- ---- what is appended

-- A key, a separator, a value and a line ending were appended by turns.
pub parts-appended : (old key separator none value ending ended fronted valued new : List ℕ) → none ≡ [] → fronted ≡ old ++ (key ++ (separator ++ (none ++ [])))
    → valued ≡ fronted ++ value → new ≡ valued ++ ended → ended ≡ ending → new ≡ old ++ (key ++ (separator ++ (value ++ ending)))
parts-appended old key separator none value ending ended fronted valued new n f v e s =
    let front : fronted ≡ old ++ (key ++ separator) = f ∙ ap (λ x. old ++ (key ++ (separator ++ (x ++ [])))) n
    ∙ ap (λ x. old ++ (key ++ x)) (append-nil separator) in
    e
    ∙ ap₂ (λ x y. x ++ y) (v ∙ ap (λ x. x ++ value) front ∙ append_assoc old (key ++ separator) value) s
    ∙ append_assoc old ((key ++ separator) ++ value) ending
    ∙ ap (λ x. old ++ x) (append_assoc (key ++ separator) value ending ∙ append_assoc key separator (value ++ ending))

-- An empty value means an empty text.
pub no-value : (e : LineEncoding) (escaped : Bool) (v : Part) → v.size ≡ 0 → meaning_in e escaped (bytes_of v) ≡ means []
no-value e escaped v h = ap (λ n. meaning_in e escaped (take n v.bytes.now)) h ∙ ap (meaning_by escaped) (no-text e [] refl) ∙ empty-means escaped

module _ (r : Repertoire) (first : Bool) (puts : List ℕ → List ℕ) (old separator ending : List ℕ) (front p : Pair) (key : key_meaning front ≡ key_meaning p)
    (value : value_meaning front ≡ means []) where
  -- The key and an empty value were printed, and then the value.
  pub pair-appended : (ended fronted valued new : List ℕ) → IsPairPrinted r first (puts_of r) old front separator [] fronted
      → PrintsMeant (value_meaning p) puts fronted (Ok tt) valued → new ≡ valued ++ ended → ended ≡ ending → IsPairPrinted r first puts old p separator ending new
  pair-appended ended fronted valued new h m e s =
      let none : means h.value ≡ means [] = sym h.value_means ∙ value in
      let empty : h.value ≡ [] = cc in
      record {
        key = h.key;
        value = m.0;
        key_means = sym key ∙ h.key_means;
        value_means = m.1;
        printed = parts-appended old (key_bytes r first h.key) separator (puts_of r h.value) (puts m.0) ending ended fronted valued new (ap (puts_of r) empty)
            h.printed m.2 e s;
      }

  -- The key is malformed.
  front-breaks : (kind : format.Malformed) → BreaksPair front kind → BreaksPair p kind
  front-breaks kind (inl h) = inl (sym key ∙ h)
  front-breaks kind (inr h) = let both : means [] ≡ breaks kind = sym value ∙ h.2 in absurd (cc)

  pub front-refused : (fronted new : List ℕ) (e : UnescapeError) → PrintsPair r first (puts_of r) old front separator [] (Err e) fronted
      → PrintsPair r first puts old p separator ending (Err e) new
  front-refused fronted new (error.Malformed kind) h = front-breaks (malformed_in kind) h
  front-refused fronted new error.Memory h = tt
