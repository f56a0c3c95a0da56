use Rattle.std.proofs.Common.{◌≡◌, ◌+◌, ℕ, List, take, drop, take-add, sym, subst, ◌∙◌, arith}
use Rattle.properties_format.proofs.Encodings.WellFormed.{IsUtf8-from_well_formed}
use Rattle.properties_text.specs.Private.Tails.{ones, OwesTails}
use Rattle.properties_text.proofs.Tails.{GoesOn-append, well_formed-here}
use Rattle.properties_text.proofs.encoding.utf_8.blocks_length.Goals as goal

-- The bytes up to a place, and a block after them.
further : (bytes : List ℕ) (at wanted after : ℕ) → ((n : ℕ) × (wanted ≡ ones n) × OwesTails 0 (take at bytes) n)
    → ((n : ℕ) → wanted ≡ ones n → (m : ℕ) × (after ≡ ones m) × OwesTails n (take 16 (drop at bytes)) m)
    → (m : ℕ) × (after ≡ ones m) × OwesTails 0 (take (at + 16) bytes) m
further bytes at wanted after (n, is, g) more =
    let (m, now, h) = more n is in
    (m, now, subst (λ v. OwesTails 0 v m) (sym (take-add at 16 bytes)) (GoesOn-append 0 n m (take at bytes) (take 16 (drop at bytes)) g h))

pub loop-at-preserved-then-wanted-eq0 : goal.loop-at-preserved-then-wanted-eq0
loop-at-preserved-then-wanted-eq0 c =
    let next = further c.args.bytes.now c.loop-at.at _ _ c.loop-at.invariant.3 c.in-Some.ensures.goes_on in
    (omega arith, omega arith, c.in-Some.ensures.few, next, IsUtf8-from_well_formed _ (well_formed-here _ next.0 (sym next.1 ∙ c.if-wanted-eq0.true) next.2))

pub loop-at-preserved : goal.loop-at-preserved
loop-at-preserved c = (
  omega arith,
  omega arith,
  c.in-Some.ensures.few,
  further c.args.bytes.now c.loop-at.at _ _ c.loop-at.invariant.3 c.in-Some.ensures.goes_on,
  c.loop-at.invariant.4,
)
