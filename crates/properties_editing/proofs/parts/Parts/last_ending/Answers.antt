use Rattle.std.proofs.Common.{◌≡◌, ◌≤◌, ◌-◌, ℕ, List, length, take, ap, ap₂, sym, ◌∙◌, arith}
use Rattle.std.specs.Prelude.{◌&&◌, min}
use Rattle.properties_format.specs.Computed.Lines.{ends_in_cr}
use Rattle.properties_editing.specs.Private.BodyParts.{parts_bytes}
use Rattle.properties_editing.specs.Private.PartEndings.{HaveNoBytes}
use Rattle.properties_editing.specs.declared.parts.Part.{Part}
use Rattle.properties_editing.proofs.PartEndings.{ends-passed, is-both, is-one, none-at-all, none-in}
use Rattle.properties_editing.proofs.parts.Parts.last_ending.Goals as goal
use Rattle.properties_editing.proofs.parts.Parts.last_ending.Goals.{else-found-via-then-found+else-ends_in_cr, else-found-via-else-found}

-- The empty parts before this one are passed over.
passed : (d : List ℕ) (ps : List Part) (m empty n : ℕ) → m ≤ length ps → n ≡ min (m - 1) empty → HaveNoBytes d empty (length ps - 1) ps
    → ends_in_cr (parts_bytes d (take (m - 1) ps)) ≡ ends_in_cr (parts_bytes d (take n ps))
passed d ps m empty n within is none =
    sym (ends-passed d n (m - 1) ps (omega arith) (λ i from before. none i (omega arith) (omega arith)))

pub loop-place-preserved : goal.loop-place-preserved
loop-place-preserved c =
    let inv = c.loop-place.invariant in
    record {
      within = omega arith;
      plain = none-in c.args.body.now c.args.self.now.parts.items c.loop-place.place c.index.result.now c.loop-place-test.true inv.within c.index.ensures inv.plain
          c.in_default.ensures;
    }

pub returns-then-ends_in_cr : goal.returns-then-ends_in_cr
returns-then-ends_in_cr c =
    let inv = c.loop-place.invariant in
    is-both c.args.body.now c.args.self.now.parts.items c.loop-place.place c.index.result.now c.loop-place-test.true inv.within c.index.ensures inv.plain
    c.in-Some.found c.in-Some.ensures c.if-found.true
    (passed c.args.body.now c.args.self.now.parts.items c.loop-place.place c.args.empty c.min.result inv.within c.min.ensures c.requires.empty
    ∙ sym c.if-ends_in_cr.ensures)

pub returns-in-Some : goal.returns-in-Some
returns-in-Some c =
    let inv = c.loop-place.invariant in
    is-one c.args.body.now c.args.self.now.parts.items c.loop-place.place c.index.result.now c.loop-place-test.true inv.within c.index.ensures inv.plain
    c.in-Some.found c.in-Some.ensures (elim c.else-found.branch [
      | else-found-via-then-found+else-ends_in_cr w ↦
          ap₂ (λ a b. a && b) w.if-found.true
          (passed c.args.body.now c.args.self.now.parts.items c.loop-place.place c.args.empty w.min.result inv.within w.min.ensures c.requires.empty
          ∙ sym w.ends_in_cr.ensures ∙ w.if-ends_in_cr.false)
      | else-found-via-else-found w ↦ ap (λ a. a && ends_in_cr (parts_bytes c.args.body.now (take (c.loop-place.place - 1) c.args.self.now.parts.items))) w.if-found.false
    ])

pub returns : goal.returns
returns c =
    let zero : c.loop-place.place ≡ 0 = omega arith in
    none-at-all c.args.body.now c.args.self.now.parts.items c.loop-place.place zero c.loop-place.invariant.plain
