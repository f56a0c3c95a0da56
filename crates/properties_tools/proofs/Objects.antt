-- Differences that are printed as JSON.
use Rattle.std.proofs.Common.{◌≡◌, ◌≢◌, ◌≤◌, ℕ, List, [], ◌∷◌, ◌++◌, ◌∙◌, refl, ap, ap₂, sym, arith, append_assoc}
use Rattle.std.specs.Prelude.{All, codes, encode_utf8_all, map}
use Rattle.std.specs.List.{flat_map}
use Rattle.std.proofs.lemmas.List.Elements.{All-head, All-tail}
use Rattle.json.specs.{Json.max_depth, Print.print, Tree.depth, Tree.json_tokens, Tree.HasNumbers, Written.Written}
use Rattle.json.specs.Token.{Token, begin_object, end_object, key, string}
use Rattle.json.proofs.Printed.Decimals.{IsNumber-decimal}
use Rattle.properties_format.specs.Text.{line_feed}
use Rattle.properties_tools.specs.Propedit.Differences.{changed, came, gone, key_of, Difference}
use Rattle.properties_tools.specs.{Propedit.Json.difference_value, Private.Differing.HasLines, Private.Json.difference_line, Private.Json.side_tokens}
use Rattle.properties_checking.specs.{JsonLines.AreJsonLines, Private.Objects.WritesAll}
use Rattle.properties_checking.proofs.Json.{json-line}

never-empty : (text : List ℕ) (byte : ℕ) → text ++ byte ∷ [] ≢ []
never-empty [] byte h = absurd (cc)
never-empty (b ∷ text) byte h = absurd (cc)

pub some-object : (d : Difference) → difference_line d ≢ []
some-object d = never-empty (print (json_tokens (difference_value d))) line_feed

-- ---- they read back

numbers : (d : Difference) → HasLines d → HasNumbers (difference_value d)
numbers (gone r) l = (tt, ((IsNumber-decimal r.last l, (tt, tt)), tt))
numbers (came r) l = (tt, ((IsNumber-decimal r.last l, (tt, tt)), tt))
numbers (changed r s) l = (tt, ((IsNumber-decimal r.last l.0, (tt, tt)), ((IsNumber-decimal s.last l.1, (tt, tt)), tt)))

shallow : (d : Difference) → depth (difference_value d) ≤ max_depth
shallow (gone r) = omega arith
shallow (came r) = omega arith
shallow (changed r s) = omega arith

pub are-objects : (ds : List Difference) (text : List ℕ) → text ≡ flat_map difference_line ds → All HasLines ds → AreJsonLines (map difference_value ds) text
are-objects [] text is lines = is
are-objects (d ∷ ds) text is lines = (
  difference_line d,
  flat_map difference_line ds,
  is,
  json-line (difference_value d) (difference_line d) (numbers d (All-head HasLines d ds lines)) (shallow d) refl,
  are-objects ds (flat_map difference_line ds) refl (All-tail HasLines d ds lines),
)

-- ---- they are written

-- what is written for the sources that have the key
abbrev pub sides : Difference → List Token
sides (gone r) = side_tokens (codes "old") r
sides (came r) = side_tokens (codes "new") r
sides (changed r s) = side_tokens (codes "old") r ++ side_tokens (codes "new") s

abbrev front : List ℕ → List Token
front name = begin_object ∷ key (codes "key") ∷ string name ∷ []

all-tokens : (d : Difference) → json_tokens (difference_value d) ≡ front (encode_utf8_all (key_of d)) ++ (sides d ++ end_object ∷ [])
all-tokens (gone r) = refl
all-tokens (came r) = refl
all-tokens (changed r s) = refl

pub both-written : {w w' w'' : Written} {ts us : List Token} → WritesAll w ts w' → WritesAll w' us w'' → WritesAll w (ts ++ us) w''
both-written {w = w} {ts = ts} {us = us} h k = record {
  before = k.before ∙ h.before;
  tokens_are = k.tokens_are ∙ ap (λ v. v ++ us) h.tokens_are ∙ append_assoc w.tokens ts us;
}

pub object-written : (d : Difference) (old name text : List ℕ) (w w' : Written) → w.before ≡ old → w.tokens ≡ front name → name ≡ encode_utf8_all (key_of d)
    → WritesAll w (sides d) w' → text ≡ (w'.before ++ print (w'.tokens ++ end_object ∷ [])) ++ line_feed ∷ [] → text ≡ old ++ difference_line d
object-written d old name text w w' before began is_name wrote is =
    let ts = front (encode_utf8_all (key_of d)) in
    let tokens : w'.tokens ++ end_object ∷ [] ≡ json_tokens (difference_value d) =
    ap (λ v. v ++ end_object ∷ []) (wrote.tokens_are ∙ ap (λ v. v ++ sides d) (began ∙ ap front is_name)) ∙ append_assoc ts (sides d) (end_object ∷ [])
    ∙ sym (all-tokens d) in
    is ∙ ap₂ (λ v us. (v ++ print us) ++ line_feed ∷ []) (wrote.before ∙ before) tokens
    ∙ append_assoc old (print (json_tokens (difference_value d))) (line_feed ∷ [])
