-- Texts that are held one after another.
use Rattle.std.proofs.Common.{◌≡◌, ℕ, List, ◌++◌, length, take, drop, ap, sym, ◌∙◌, subst, arith}
use Rattle.std.specs.Str.{IsUtf8}
use Rattle.std.proofs.lemmas.List.{drop-append-le, length-append, length-drop, take-append-le}
use Rattle.properties_tables.specs.{Private.Table.bytes_at, Private.Table.HoldsText, declared.texts.Place.Place}

-- The text at a place stays,
pub kept-at : (text more : List ℕ) (p : Place) → HoldsText text p → bytes_at (text ++ more) p ≡ bytes_at text p
kept-at text more p h =
    let w = h.within in
    let rest = length-drop p.start text in
    ap (take p.length) (drop-append-le p.start text more (omega arith)) ∙ take-append-le p.length (drop p.start text) more (omega arith)

pub holds-kept : (text more : List ℕ) (p : Place) → HoldsText text p → HoldsText (text ++ more) p
holds-kept text more p h = record {
  within = let w = h.within in let l = length-append text more in omega arith;
  is = subst IsUtf8 (sym (kept-at text more p h)) h.is;
}
