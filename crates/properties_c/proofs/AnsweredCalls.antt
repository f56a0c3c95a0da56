-- Calls about a key that are answered, and those that are refused.
use Rattle.std.proofs.Common.{◌≡◌, ℕ, List, [], subst, sym, inl, inr}
use Rattle.std.specs.Str.{IsUtf8, chars}
use Rattle.std.proofs.lemmas.Str.{IsUtf8-nil}
use Rattle.properties_format.specs.Encoding.{Encoding}
use Rattle.properties_text.specs.Encoding.{encoding_of}
use Rattle.properties_c.specs.{Crossing.Crossing, Crossing.RefusesCall, declared.encoding.Flags.Flags, declared.key_call.AskedKey.AskedKey}
use Rattle.properties_c.specs.{declared.key_call.KeyCall.KeyCall, declared.key_call.Refusal.Refusal}
use Rattle.properties_c.specs.Inputs.{InEncoding, WithFlags, WithSource, WithText}
use Rattle.properties_c.specs.Private.KeyCalls.{refusal_line, refusal_status, CrossesKeyCall, IsAsked, IsRefused}

module _ (taken : Flags) (call : KeyCall) (x : Crossing) where
  -- with two texts
  module _ (Holds : Crossing → Encoding → Flags → List ℕ → List ℕ → Type 0) where
    texts-crossed : CrossesKeyCall taken call (λ e f k t. ⊥) x → CrossesKeyCall taken call (Holds x) x
    texts-crossed (inr r) = inr r
    texts-crossed (inl (e, is, inr r)) = inl (e, is, inr r)
    texts-crossed (inl (e, is, inl (f, are, inr r))) = inl (e, is, inl (f, are, inr r))
    texts-crossed (inl (e, is, inl (f, are, inl (k, inr r)))) = inl (e, is, inl (f, are, inl (k, inr r)))
    texts-crossed (inl (e, is, inl (f, are, inl (k, inl (t, inr r))))) = inl (e, is, inl (f, are, inl (k, inl (t, inr r))))
    texts-crossed (inl (e, is, inl (f, are, inl (k, inl (t, inl (s, never)))))) = absurd never

    pub texts-refused : (refusal : Refusal) → IsRefused taken call refusal → RefusesCall (refusal_status refusal) (refusal_line refusal) x
        → CrossesKeyCall taken call (Holds x) x
    texts-refused refusal h refuses = texts-crossed (h.crosses x refuses)

    pub texts-answered : (asked : AskedKey) (h : IsAsked taken call asked)
        → Holds x (encoding_of h.encoding) h.flags (chars asked.key.now) (chars asked.text.now) → CrossesKeyCall taken call (Holds x) x
    texts-answered asked h holds =
        let both = subst (λ t. Holds x (encoding_of h.encoding) h.flags (chars asked.key.now) (chars t)) h.text holds in
        let own = subst (λ k. Holds x (encoding_of h.encoding) h.flags (chars k) (chars call.text.now)) h.key both in
        inl (encoding_of h.encoding, h.has_encoding, inl (h.flags, h.has_flags, inl (h.is_key, inl (h.is_text, inl (h.sound, own)))))

  -- with a key alone
  module _ (Holds : Crossing → Encoding → Flags → List ℕ → Type 0) where
    abbrev CrossesKey : Type 0
    CrossesKey =
        InEncoding call.encoding (λ e. WithFlags taken call.flags (λ f. WithText call.key.now (λ k. WithSource f.strict e call.source.now (Holds x e f k) x) x) x) x

    key-crossed : call.text.now ≡ [] → CrossesKeyCall taken call (λ e f k t. ⊥) x → CrossesKey
    key-crossed none (inr r) = inr r
    key-crossed none (inl (e, is, inr r)) = inl (e, is, inr r)
    key-crossed none (inl (e, is, inl (f, are, inr r))) = inl (e, is, inl (f, are, inr r))
    key-crossed none (inl (e, is, inl (f, are, inl (k, inr r)))) = absurd (r.0 (subst IsUtf8 (sym none) IsUtf8-nil))
    key-crossed none (inl (e, is, inl (f, are, inl (k, inl (t, inr r))))) = inl (e, is, inl (f, are, inl (k, inr r)))
    key-crossed none (inl (e, is, inl (f, are, inl (k, inl (t, inl (s, never)))))) = absurd never

    pub key-refused : (refusal : Refusal) → IsRefused taken call refusal → RefusesCall (refusal_status refusal) (refusal_line refusal) x
        → call.text.now ≡ [] → CrossesKey
    key-refused refusal h refuses none = key-crossed none (h.crosses x refuses)

    pub key-answered : (asked : AskedKey) (h : IsAsked taken call asked) → Holds x (encoding_of h.encoding) h.flags (chars asked.key.now) → CrossesKey
    key-answered asked h holds =
        let own = subst (λ k. Holds x (encoding_of h.encoding) h.flags (chars k)) h.key holds in
        inl (encoding_of h.encoding, h.has_encoding, inl (h.flags, h.has_flags, inl (h.is_key, inl (h.sound, own))))
