-- JSON that is printed a token at a time.
use Rattle.std.proofs.Common.{◌≡◌, ◌≤◌, ℕ, List, [], ◌∷◌, ◌++◌, ◌∙◌, refl, ap, ap₂, sym, subst, arith, append_assoc, append-nil}
use Rattle.std.specs.{Prelude.map, Prelude.string_bytes, Global.Global, declared.string.String.String, List.flat_map}
use Rattle.std.proofs.{lemmas.Grind.flat_map-append, lemmas.List.map-append}
use Rattle.json.specs.{Json.Json, Json.max_depth, Print.print, Token.begin_object, Token.end_object}
use Rattle.json.specs.Tree.{depth, json_tokens, members_depth, members_tokens, HasNumbers, MembersHaveNumbers}
use Rattle.json.proofs.Printed.Trees.{document-print}
use Rattle.properties_format.specs.Text.{line_feed}
use Rattle.properties_checking.specs.{JsonLines.AreJsonLines, JsonLines.IsJsonLine, JsonLines.IsReportText, declared.objects.Member.Member}
use Rattle.properties_checking.specs.{declared.objects.Member.TheVariants.Number, declared.objects.Member.TheVariants.Text}
use Rattle.properties_checking.specs.{declared.objects.Member.TheVariants.Truth, declared.request.Report.Report}
use Rattle.properties_checking.specs.Private.Objects.{member_tokens, members_of, members_value, AddsJsonLine, AddsReport}
use Rattle.properties_checking.specs.declared.request.Report.TheVariants as report

-- A value that isn't too deep to be read was printed in a line.
pub json-line : (value : Json) (line : List ℕ) → HasNumbers value → depth value ≤ max_depth → line ≡ print (json_tokens value) ++ line_feed ∷ []
    → IsJsonLine value line
json-line value line numbers shallow is = record { text = _; division = is; printed = refl; reads = document-print value numbers shallow }

-- ---- reports

append-lines : (vs ws : List Json) (a b : List ℕ) → AreJsonLines vs a → AreJsonLines ws b → AreJsonLines (vs ++ ws) (a ++ b)
append-lines [] ws a b is h = subst (λ t. AreJsonLines ws (t ++ b)) (sym is) h
append-lines (v ∷ vs) ws a b (line, rest, is, is_line, others) h =
    (line, rest ++ b, ap (λ t. t ++ b) is ∙ append_assoc line rest b, is_line, append-lines vs ws rest b others h)

module _ {X : Type 0} (line : X → List ℕ) (value : X → Json) where
  append-text : (form : Report) (xs ys : List X) (a b : List ℕ) → IsReportText form line value xs a → IsReportText form line value ys b
      → IsReportText form line value (xs ++ ys) (a ++ b)
  append-text report.Lines xs ys a b h k = ap₂ (λ v w. v ++ w) h k ∙ sym (flat_map-append line xs ys)
  append-text report.Json xs ys a b h k =
      subst (λ vs. AreJsonLines vs (a ++ b)) (sym (map-append value xs ys)) (append-lines (map value xs) (map value ys) a b h k)

  pub adds-both : (form : Report) (xs ys : List X) {s t u : String Global} → AddsReport form line value xs s t → AddsReport form line value ys t u
      → AddsReport form line value (xs ++ ys) s u
  adds-both form xs ys {s = s} h k = record {
    text = h.text ++ k.text;
    is_text = append-text form xs ys h.text k.text h.is_text k.is_text;
    is = k.is ∙ ap (λ v. v ++ k.text) h.is ∙ append_assoc (string_bytes s) h.text k.text;
  }

  none-is : (form : Report) → IsReportText form line value [] []
  none-is report.Lines = refl
  none-is report.Json = refl

  pub adds-none : (form : Report) (s : String Global) → AddsReport form line value [] s s
  adds-none form s = record { text = []; is_text = none-is form; is = sym (append-nil (string_bytes s)) }

  pub adds-line : (x : X) {s t : String Global} → string_bytes t ≡ string_bytes s ++ line x → AddsReport report.Lines line value (x ∷ []) s t
  adds-line x is = record { text = line x; is_text = sym (append-nil (line x)); is = is }

  pub adds-object : (x : X) {s t : String Global} → AddsJsonLine (value x) s t → AddsReport report.Json line value (x ∷ []) s t
  adds-object x h = record { text = h.line; is_text = (h.line, [], sym (append-nil h.line), h.is_line, refl); is = h.is }

-- ---- objects of members

members-tokens : (ms : List Member) → members_tokens (members_of ms) ≡ flat_map member_tokens ms ++ end_object ∷ []
members-tokens [] = refl
members-tokens (Text name text ∷ ms) = ap (λ ts. member_tokens (Text name text) ++ ts) (members-tokens ms)
members-tokens (Number name n ∷ ms) = ap (λ ts. member_tokens (Number name n) ++ ts) (members-tokens ms)
members-tokens (Truth name truth ∷ ms) = ap (λ ts. member_tokens (Truth name truth) ++ ts) (members-tokens ms)

members-flat : (ms : List Member) → members_depth (members_of ms) ≡ 0
members-flat [] = refl
members-flat (Text name text ∷ ms) = let d = members-flat ms in omega arith
members-flat (Number name n ∷ ms) = let d = members-flat ms in omega arith
members-flat (Truth name truth ∷ ms) = let d = members-flat ms in omega arith

pub members-line : (ms : List Member) (line : List ℕ) → MembersHaveNumbers (members_of ms)
    → line ≡ print (begin_object ∷ (flat_map member_tokens ms ++ end_object ∷ [])) ++ line_feed ∷ [] → IsJsonLine (members_value ms) line
members-line ms line numbers is =
    json-line (members_value ms) line numbers (let d = members-flat ms in omega arith)
    (is ∙ ap (λ ts. print (begin_object ∷ ts) ++ line_feed ∷ []) (sym (members-tokens ms)))
