-- What a call about a key is asked for, or why it is refused.
use Rattle.std.specs.Prelude.{◌≡◌, ℕ, List, Some, None, Result, Ok, Err}
use Rattle.std.specs.Str.{IsUtf8}
use Rattle.properties_format.specs.Encoding.{Encoding}
use Rattle.properties_text.specs.Encoding.{encoding_of}
use Rattle.properties_text.specs.declared.encoding.Encoding as code
use Rattle.properties_c.specs.{Crossing.Crossing, Crossing.RefusesCall, declared.encoding.Flags.Flags, declared.key_call.AskedKey.AskedKey}
use Rattle.properties_c.specs.{declared.key_call.KeyCall.KeyCall, declared.key_call.Refusal.Refusal, declared.key_call.Refusal.TheVariants.Arguments}
use Rattle.properties_c.specs.{declared.key_call.Refusal.TheVariants.Source, declared.status.Status.Status, declared.status.Status.TheVariants.NotText}
use Rattle.properties_c.specs.Inputs.{InEncoding, WithFlags, WithSource, WithText, encoding_at, flags_at, options_for, TellsUnsound}

abbrev pub refusal_status : Refusal → Status
refusal_status (Arguments status) = status
refusal_status (Source line) = NotText

abbrev pub refusal_line : Refusal → ℕ
refusal_line (Arguments status) = 0
refusal_line (Source line) = line

-- The call was refused for its numbers, its texts or its source, or this holds of what they mean.
abbrev pub CrossesKeyCall : Flags → KeyCall → (Encoding → Flags → List ℕ → List ℕ → Type 0) → Crossing → Type 0
CrossesKeyCall taken call Holds x =
    InEncoding call.encoding (λ e. WithFlags taken call.flags (λ f. WithText call.key.now (λ k. WithText call.text.now (λ t.
    WithSource f.strict e call.source.now (Holds e f k t) x) x) x) x) x

-- The call asks for this.
pub record IsAsked (taken : Flags) (call : KeyCall) (asked : AskedKey) : Type 0 where
  pub encoding : code.Encoding
  pub has_encoding : encoding_at call.encoding ≡ Some (encoding_of encoding)
  pub flags : Flags
  pub has_flags : flags_at taken call.flags ≡ Some flags
  pub options : asked.options ≡ options_for encoding flags
  pub is_key : IsUtf8 call.key.now
  pub key : asked.key.now ≡ call.key.now
  pub is_text : IsUtf8 call.text.now
  pub text : asked.text.now ≡ call.text.now
  pub sound : TellsUnsound flags.strict (encoding_of encoding) call.source.now None

-- It is refused, and so is each call that answers with this refusal.
pub record IsRefused (taken : Flags) (call : KeyCall) (refusal : Refusal) : Type 0 where
  pub crosses : (x : Crossing) → RefusesCall (refusal_status refusal) (refusal_line refusal) x → CrossesKeyCall taken call (λ e f k t. ⊥) x

abbrev pub AsksKey : Flags → KeyCall → Result AskedKey Refusal → Type 0
AsksKey taken call (Ok asked) = IsAsked taken call asked
AsksKey taken call (Err refusal) = IsRefused taken call refusal
