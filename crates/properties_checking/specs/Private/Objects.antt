-- JSON that is written, and the objects of findings.
use Rattle.std.specs.Prelude.{◌≡◌, ℕ, List, [], ◌∷◌, ◌++◌, ⊤, string_bytes}
use Rattle.std.specs.{Fmt.decimal, Global.Global, declared.string.String.String}
use Rattle.json.specs.Json as json
use Rattle.json.specs.Json.{member, no_members, object, Json, Members}
use Rattle.json.specs.{Print.IsNumber, Written.Written}
use Rattle.json.specs.Token.{boolean, key, number, string, Token}
use Rattle.properties_checking.specs.{JsonLines.IsJsonLine, JsonLines.IsReportText, declared.objects.Member.Member, declared.objects.Member.TheVariants.Number}
use Rattle.properties_checking.specs.{declared.objects.Member.TheVariants.Text, declared.objects.Member.TheVariants.Truth, declared.request.Report.Report}

-- These tokens were written.
pub record WritesAll (old : Written) (tokens : List Token) (new : Written) : Type 0 where
  pub before : new.before ≡ old.before
  pub tokens_are : new.tokens ≡ old.tokens ++ tokens

abbrev pub member_tokens : Member → List Token
member_tokens (Text name text) = key name.now ∷ string text.now ∷ []
member_tokens (Number name n) = key name.now ∷ number (decimal n) ∷ []
member_tokens (Truth name truth) = key name.now ∷ boolean truth ∷ []

abbrev pub members_of : List Member → Members
members_of [] = no_members
members_of (Text name text ∷ ms) = member name.now (json.string text.now) (members_of ms)
members_of (Number name n ∷ ms) = member name.now (json.number (decimal n)) (members_of ms)
members_of (Truth name truth ∷ ms) = member name.now (json.boolean truth) (members_of ms)

-- A number of a member is one of JSON.
abbrev pub HasNumber : Member → Type 0
HasNumber (Number name n) = IsNumber (decimal n)
HasNumber other = ⊤

abbrev pub members_value : List Member → Json
members_value ms = object (members_of ms)

-- A line of this value was added.
pub record AddsJsonLine (value : Json) (old new : String Global) : Type 0 where
  pub line : List ℕ
  pub is_line : IsJsonLine value line
  pub is : string_bytes new ≡ string_bytes old ++ line

-- What is printed of these was added.
pub record AddsReport {X : Type 0} (report : Report) (line : X → List ℕ) (value : X → Json) (xs : List X) (old new : String Global) : Type 0 where
  pub text : List ℕ
  pub is_text : IsReportText report line value xs text
  pub is : string_bytes new ≡ string_bytes old ++ text
