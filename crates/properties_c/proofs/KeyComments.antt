-- The lines of a comment.
use Rattle.std.proofs.Common.{◌≡◌, ◌∙◌, ◌<◌, ◌+◌, ℕ, List, [], ◌∷◌, ◌++◌, length, drop, get_or, map, ap, sym, append_assoc}
use Rattle.std.proofs.lemmas.List.{drop_more}
use Rattle.std.specs.{Global.Global, List.flat_map, Prelude.string_bytes, declared.string.String.String}
use Rattle.properties_format.specs.Text.{line_feed}
use Rattle.properties_items.specs.Texts.{characters}
use Rattle.properties_c.specs.Keys.{text_line}
use Rattle.properties_c.proofs.Texts.{encoded-text}

abbrev text_lines : List (String Global) → List ℕ
text_lines texts = flat_map text_line (map characters texts)

-- One more text and its line feed.
pub text-more : (texts : List (String Global)) (i : ℕ) (d text : String Global) (lines pushed all : List ℕ) → i < length texts
    → text ≡ get_or texts i d → pushed ≡ lines ++ (string_bytes text ++ line_feed ∷ [])
    → lines ++ flat_map text_line (map characters (drop i texts)) ≡ all
    → pushed ++ flat_map text_line (map characters (drop (i + 1) texts)) ≡ all
text-more texts i d text lines pushed all below is more before =
    let line : List ℕ = string_bytes text ++ line_feed ∷ [] in
    let rest = text_lines (drop (i + 1) texts) in
    let first : text_lines (drop i texts) ≡ text_line (characters text) ++ rest =
    ap text_lines (drop_more texts i d below ∙ ap (λ t. t ∷ drop (i + 1) texts) (sym is)) in
    let cut : text_lines (drop i texts) ≡ line ++ rest = first ∙ ap (λ b. (b ++ line_feed ∷ []) ++ rest) (encoded-text text) in
    ap (λ p. p ++ rest) more ∙ append_assoc lines line rest ∙ ap (λ v. lines ++ v) (sym cut) ∙ before
