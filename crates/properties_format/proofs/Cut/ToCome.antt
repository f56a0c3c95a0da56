-- A line ending in undecoded bytes is one in the decoded text, and separates what is decoded before it from what is
-- decoded after it.
use Rattle.std.proofs.Common.{◌≡◌, ℕ, true, false, List, [], ◌∷◌, ◌++◌, ap, ◌∙◌, lit<, eqb-true}
use Rattle.std.proofs.lemmas.Bool.{false_from_ne_true}
use Rattle.properties_format.specs.Text.{line_feed}
use Rattle.properties_format.specs.Encoding.{Encoding, ascii_bytes}
use Rattle.properties_format.specs.Cut.{units}
use Rattle.properties_format.specs.Computed.Lines.{begins_with_lf}
use Rattle.properties_format.specs.Computed.Cut.{decoded_line}
use Rattle.properties_format.proofs.Encodings.Cuts.{cut-at_ascii}
use Rattle.properties_format.proofs.Cut.Units.{units-ascii}
use Rattle.properties_format.proofs.Cut.Byline.{nothing-decoded}

-- A text that begins with an LF is that LF and a rest.
begins-cons : (x : List ℕ) → begins_with_lf x ≡ true → (s : List ℕ) × (x ≡ line_feed ∷ s)
begins-cons [] h = absurd (cc)
begins-cons (c ∷ s) h = (s, ap (λ v. v ∷ s) (eqb-true c line_feed h))

-- If no LF unit comes first, the decoded text doesn't begin with an LF.
pub decoded-no_lf : (e : Encoding) (y : List ℕ) → begins_with_lf (units e y) ≡ false → begins_with_lf (decoded_line e y) ≡ false
decoded-no_lf e y h = false_from_ne_true (begins_with_lf (decoded_line e y)) (λ k.
    let b = begins-cons (decoded_line e y) k in
    let q = cut-at_ascii e y [] line_feed b.0 (lit< tt) b.1 in
    let n = nothing-decoded e q.0 q.2.front in
    let j = q.2.joins ∙ ap (λ v. v ++ (ascii_bytes e line_feed ++ q.1)) n in
    let m = ap (λ v. begins_with_lf (units e v)) j ∙ ap begins_with_lf (units-ascii e line_feed q.1) in
    cc)
