use Rattle.std.proofs.Common.{arith}
use Rattle.std.proofs.Common.{◌≡◌, refl, sym, ◌∙◌, inr}
use Rattle.std.specs.Global.{Global}
use Rattle.std.specs.declared.string.String.{String}
use Rattle.std.proofs.lemmas.Result.{err_from_is_err_and}
use Rattle.properties_items.specs.Line.{content_of}
use Rattle.properties_items.specs.Texts.{Entries}
use Rattle.properties_items.specs.declared.line.LineContent.{LineContent}
use Rattle.properties_items.specs.declared.line.LineContent.TheVariants.{Comment, KVPair}
use Rattle.java_properties.specs.PropertiesIter.{format_content}
use Rattle.java_properties.proofs.Readings.{collected-lost, collected-error}
use Rattle.java_properties.proofs.TextMaps.Reading.{Takes, passed-none, passed-more, passed-all}
use Rattle.java_properties.proofs.maps.read_map.Goals as goal

-- what is no pair changes nothing
takes-other : (m : Entries Global Global) (content : LineContent) → ((key value : String Global) → content ≡ KVPair key value → ⊥)
    → Takes m (format_content content) m
takes-other m (Comment text) other = refl
takes-other m (KVPair key value) other = absurd (other key value refl)

pub loop-item-init : goal.loop-item-init
loop-item-init g c = grind (arith, passed-none)

pub returns-in_err-line-clause-reads : goal.returns-in_err-line-clause-reads
returns-in_err-line-clause-reads g c =
    let error = err_from_is_err_and c.from_residual.result c.from_residual.ensures.1 in
    let refused = rw c.in_err-line.was at c.in-Some.ensures.gives in
    let held = c.loop-item.invariant.passed.so_far in
    rw (error.1, error.2) (record { lines = held.lines; stops = collected-error held.collected refused.0 refused.2 })

pub loop-item-preserved : goal.loop-item-preserved
loop-item-preserved g c =
    let next = rw c.in_ok-line.was at c.in-Some.ensures.gives in
    let put : Takes (g.M.TextMap.entries c.loop-item.map) (format_content (content_of c.in_ok-line.line)) (g.M.TextMap.entries c.put.new.self) =
    rw (sym c.consume_content.ensures ∙ c.in-KVPair.is) c.in_ok-put.ensures.puts in
    record {
      passed = passed-more c.in_ok-line.line c.loop-item.invariant.passed next put;
      ordered = c.put.ensures.ordered;
      same_reader = c.next_item.ensures.same_reader ∙ c.loop-item.invariant.same_reader;
    }

pub loop-item-preserved-in_default-consume_content : goal.loop-item-preserved-in_default-consume_content
loop-item-preserved-in_default-consume_content g c =
    let next = rw c.in_ok-line.was at c.in-Some.ensures.gives in
    let other = rw c.consume_content.ensures at (takes-other (g.M.TextMap.entries c.loop-item.map) c.consume_content.result
    c.in_default-consume_content.not-KVPair) in
    record {
      passed = passed-more c.in_ok-line.line c.loop-item.invariant.passed next other;
      ordered = c.loop-item.invariant.ordered;
      same_reader = c.next_item.ensures.same_reader ∙ c.loop-item.invariant.same_reader;
    }

pub returns-in_err-put-clause-reads : goal.returns-in_err-put-clause-reads
returns-in_err-put-clause-reads g c =
    let error = err_from_is_err_and c.from_residual-in_err-put.result c.from_residual-in_err-put.ensures.1 in
    let next = rw c.in_ok-line.was at c.in-Some.ensures.gives in
    let held = c.loop-item.invariant.passed.so_far in
    rw error.1 (record { lines = held.lines; stops = inr (inr (collected-lost held.collected next error.2)) })

pub returns-clause-reads : goal.returns-clause-reads
returns-clause-reads g c = passed-all c.loop-item.invariant.passed c.in_default.ensures.gives
