-- An object with a member for each pair, printed a token at a time.
use Rattle.std.proofs.Common.{◌≡◌, ℕ, List, [], ◌∷◌, ◌++◌, ◌∙◌, refl, ap, ap₂, sym, arith, append_assoc, Ok}
use Rattle.std.specs.{Prelude.encode_utf8_all, List.flat_map}
use Rattle.std.proofs.lemmas.Grind.{flat_map-append}
use Rattle.json.specs.{Json.object, Print.print, Tree.members_depth, Tree.members_tokens, Tree.MembersHaveNumbers, Written.Writes, Written.Written}
use Rattle.json.specs.Token.{Token, begin_object, end_object, key, string}
use Rattle.properties_format.specs.{Text.line_feed, Writing.Pair}
use Rattle.properties_tools.specs.{Propedit.Json.pair_members, Propedit.Listing.list_status}
use Rattle.properties_checking.specs.JsonLines.{IsJsonLine}
use Rattle.properties_checking.proofs.Json.{json-line}

abbrev pair_tokens : Pair → List Token
pair_tokens p = key (encode_utf8_all p.0) ∷ string (encode_utf8_all p.1) ∷ []

object-tokens : (pairs : List Pair) → members_tokens (pair_members pairs) ≡ flat_map pair_tokens pairs ++ end_object ∷ []
object-tokens [] = refl
object-tokens (p ∷ pairs) = ap (λ ts. pair_tokens p ++ ts) (object-tokens pairs)

no-numbers : (pairs : List Pair) → MembersHaveNumbers (pair_members pairs)
no-numbers [] = tt
no-numbers (p ∷ pairs) = (tt, no-numbers pairs)

flat : (pairs : List Pair) → members_depth (pair_members pairs) ≡ 0
flat [] = refl
flat (p ∷ pairs) = let d = flat pairs in omega arith

-- The members of these pairs were written in an object that isn't closed yet, and this is the status.
pub record WroteMembers (prefix : List ℕ) (pairs : List Pair) (w : Written) (status : ℕ) : Type 0 where
  before : w.before ≡ []
  tokens : w.tokens ≡ begin_object ∷ flat_map pair_tokens pairs
  pub told : status ≡ list_status prefix pairs

pub began : {E : Type 0} {done : Unit {0}} {prefix : List ℕ} {w w' : Written} {status : ℕ} → w.before ≡ [] → w.tokens ≡ []
    → Writes {E = E} (Ok done) w w' begin_object → status ≡ list_status {X = Pair} prefix [] → WroteMembers prefix [] w' status
began before none wrote told = record { before = wrote.room.0 ∙ before; tokens = wrote.ok ∙ ap (λ ts. ts ++ begin_object ∷ []) none; told = told }

some-listed : (prefix : List ℕ) (pairs : List Pair) (p : Pair) → 0 ≡ list_status prefix (pairs ++ p ∷ [])
some-listed prefix [] p = refl
some-listed prefix (q ∷ pairs) p = refl

pub one-more : {E F : Type 0} {done done' : Unit {0}} {prefix : List ℕ} {pairs : List Pair} {w w' w'' : Written} {status : ℕ} {name value : List ℕ}
    (p : Pair) → WroteMembers prefix pairs w status → Writes {E = E} (Ok done) w w' (key name) → Writes {E = F} (Ok done') w' w'' (string value)
    → name ≡ encode_utf8_all p.0 → value ≡ encode_utf8_all p.1 → WroteMembers prefix (pairs ++ p ∷ []) w'' 0
one-more {prefix = prefix} {pairs = pairs} {w = w} {name = name} {value = value} p h first second is_name is_value = record {
  before = second.room.0 ∙ first.room.0 ∙ h.before;
  tokens = second.ok ∙ ap (λ ts. ts ++ string value ∷ []) first.ok ∙ append_assoc w.tokens (key name ∷ []) (string value ∷ [])
      ∙ ap₂ (λ a b. w.tokens ++ (key a ∷ string b ∷ [])) is_name is_value ∙ ap (λ ts. ts ++ pair_tokens p) h.tokens
      ∙ ap (λ ts. begin_object ∷ ts) (sym (flat_map-append pair_tokens pairs (p ∷ [])));
  told = some-listed prefix pairs p;
}

pub object-line : {E : Type 0} {done : Unit {0}} {prefix : List ℕ} {pairs : List Pair} {w w' : Written} {status : ℕ} {line : List ℕ}
    → WroteMembers prefix pairs w status → Writes {E = E} (Ok done) w w' end_object → line ≡ (w'.before ++ print w'.tokens) ++ line_feed ∷ []
    → IsJsonLine (object (pair_members pairs)) line
object-line {pairs = pairs} h wrote is =
    let tokens = wrote.ok ∙ ap (λ ts. ts ++ end_object ∷ []) h.tokens ∙ ap (λ ts. begin_object ∷ ts) (sym (object-tokens pairs)) in
    json-line (object (pair_members pairs)) _ (no-numbers pairs) (let d = flat pairs in omega arith)
    (is ∙ ap₂ (λ v ts. (v ++ print ts) ++ line_feed ∷ []) (wrote.room.0 ∙ h.before) tokens)
