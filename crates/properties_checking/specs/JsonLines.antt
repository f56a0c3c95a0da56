-- JSON values, each on a line of its own: what is printed, and that it reads back.
-- Source: RFC 8259, as the crate json has it: `print` is the text of a value's tokens with nothing between them, and
-- `document` is the value that a text is.
use Rattle.std.specs.Prelude.{◌≡◌, ℕ, List, [], ◌∷◌, ◌++◌, Some, encode_utf8_all, map}
use Rattle.std.specs.List.{flat_map}
use Rattle.json.specs.Json.{document, string, Json}
use Rattle.json.specs.Print.{print}
use Rattle.json.specs.Tree.{json_tokens}
use Rattle.properties_format.specs.Text.{line_feed}
use Rattle.properties_checking.specs.declared.request.Report.{Report}
use Rattle.properties_checking.specs.declared.request.Report.TheVariants as report

-- The line is the text of this value and a line feed, and the text reads as the value.
pub record IsJsonLine (value : Json) (line : List ℕ) : Type 0 where
  pub text : List ℕ
  pub division : line ≡ text ++ line_feed ∷ []
  pub printed : text ≡ print (json_tokens value)
  pub reads : document text ≡ Some value

-- The text is a line for each of these values, in order.
abbrev pub AreJsonLines : List Json → List ℕ → Type 0
AreJsonLines [] text = text ≡ []
AreJsonLines (value ∷ values) text =
    (line : List ℕ) × (rest : List ℕ) × (text ≡ line ++ rest) × IsJsonLine value line × AreJsonLines values rest

-- Each of these is printed as a line, or as an object on a line.
abbrev pub IsReportText : {X : Type 0} → Report → (X → List ℕ) → (X → Json) → List X → List ℕ → Type 0
IsReportText report.Lines line value xs text = text ≡ flat_map line xs
IsReportText report.Json line value xs text = AreJsonLines (map value xs) text

abbrev pub text_value : List ℕ → Json
text_value text = string (encode_utf8_all text)
