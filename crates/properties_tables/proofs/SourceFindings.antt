-- What is among the findings of a source.
use Rattle.std.proofs.Common.{◌≡◌, ℕ, List, [], ◌∷◌, ◌++◌, refl, ap}
use Rattle.properties_format.specs.{Encoding.Encoding, Escapes.Malformed, Edits.pair_from, Found.escapes_from, Computed.Items.outcome_of}
use Rattle.properties_format.specs.{Computed.Lines.groups_in, Computed.Found.escapes_in}
use Rattle.properties_format.specs.Lines.{end, Line, HasGroups, first_number, is_comment_line, joined}
use Rattle.properties_format.specs.Items.{comment, pair, Entry, item, Outcome, ignored, given, broken}
use Rattle.properties_format.specs.Found as format
use Rattle.properties_format.proofs.{Edits.PairValues.pairs_in, Found.found-only, Groups.Input.groups_in-meets}
use Rattle.properties_items.specs.{Errors.malformed_kind, declared.findings.MalformedEscape.MalformedEscape}
use Rattle.java_properties.specs.Findings.{escape_records, keys_from, KeyPlace}
use Rattle.java_properties.proofs.KeyLines.{keys_in}
use Rattle.properties_tables.specs.Private.Fold.{before_some, escapes_among, findings_from, found_escape, found_pair, keys_among, outcome_finding, found_pairs, AreFindings, Finding}
use Rattle.properties_tables.proofs.FindingFolds.{findings_in}

abbrev place : ℕ → List ℕ → KeyPlace
place number key = record { number = number; key = key }

abbrev malformed : ℕ → List ℕ → Malformed → MalformedEscape
malformed number x kind = record { line_number = number; kind = malformed_kind kind; in_comment = is_comment_line x }

-- ---- The findings of a source are those of its groups.

pub findings-groups : (e : Encoding) (source : List ℕ) (findings : List Finding) → AreFindings e source findings
    → (gs : List (List Line)) × HasGroups e source end gs × (findings ≡ findings_in gs)
findings-groups e source findings h = (groups_in e source end, groups_in-meets e source end, found-only findings_from e source end findings h)

module _ (number : ℕ) (x : List ℕ) (fs : List Finding) where
  pairs-step : (o : Outcome) (xs : List Entry) → found_pairs fs ≡ xs → found_pairs (before_some (outcome_finding number x o) fs) ≡ pair_from number o xs
  pairs-step ignored xs h = h
  pairs-step (given (comment text)) xs h = h
  pairs-step (given (pair key value)) xs h = ap (λ v. item number (pair key value) ∷ v) h
  pairs-step (broken kind) xs h = h

  keys-step : (o : Outcome) (xs : List KeyPlace) → keys_among fs ≡ xs → keys_among (before_some (outcome_finding number x o) fs) ≡ keys_from number o xs
  keys-step ignored xs h = h
  keys-step (given (comment text)) xs h = h
  keys-step (given (pair key value)) xs h = ap (λ v. place number key ∷ v) h
  keys-step (broken kind) xs h = h

  escapes-step : (o : Outcome) (xs : List format.MalformedEscape) → escapes_among fs ≡ escape_records xs
      → escapes_among (before_some (outcome_finding number x o) fs) ≡ escape_records (escapes_from number x o xs)
  escapes-step ignored xs h = h
  escapes-step (given (comment text)) xs h = h
  escapes-step (given (pair key value)) xs h = h
  escapes-step (broken kind) xs h = ap (λ v. malformed number x kind ∷ v) h

pub pairs-groups : (gs : List (List Line)) → found_pairs (findings_in gs) ≡ pairs_in gs
pairs-groups [] = refl
pairs-groups (g ∷ gs) = pairs-step (first_number g) (joined g) (findings_in gs) (outcome_of (joined g)) (pairs_in gs) (pairs-groups gs)

pub keys-groups : (gs : List (List Line)) → keys_among (findings_in gs) ≡ keys_in gs
keys-groups [] = refl
keys-groups (g ∷ gs) = keys-step (first_number g) (joined g) (findings_in gs) (outcome_of (joined g)) (keys_in gs) (keys-groups gs)

pub escapes-groups : (gs : List (List Line)) → escapes_among (findings_in gs) ≡ escape_records (escapes_in gs)
escapes-groups [] = refl
escapes-groups (g ∷ gs) = escapes-step (first_number g) (joined g) (findings_in gs) (outcome_of (joined g)) (escapes_in gs) (escapes-groups gs)

-- ---- What is among more findings comes last.

pub pairs-append : (fs gs : List Finding) → found_pairs (fs ++ gs) ≡ found_pairs fs ++ found_pairs gs
pairs-append [] gs = refl
pairs-append (found_pair number key value ∷ fs) gs = ap (λ v. item number (pair key value) ∷ v) (pairs-append fs gs)
pairs-append (found_escape escape x ∷ fs) gs = pairs-append fs gs

pub keys-append : (fs gs : List Finding) → keys_among (fs ++ gs) ≡ keys_among fs ++ keys_among gs
keys-append [] gs = refl
keys-append (found_pair number key value ∷ fs) gs = ap (λ v. place number key ∷ v) (keys-append fs gs)
keys-append (found_escape escape x ∷ fs) gs = keys-append fs gs

pub escapes-append : (fs gs : List Finding) → escapes_among (fs ++ gs) ≡ escapes_among fs ++ escapes_among gs
escapes-append [] gs = refl
escapes-append (found_pair number key value ∷ fs) gs = escapes-append fs gs
escapes-append (found_escape escape x ∷ fs) gs = ap (λ v. escape ∷ v) (escapes-append fs gs)
