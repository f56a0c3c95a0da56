use Rattle.std.proofs.Common.{inl, inr}
use Rattle.properties_items.proofs.FoundItems.{no_item}
use Rattle.properties_items.proofs.found.find_content.Goals as goal

pub returns-in-Err : goal.returns-in-Err
returns-in-Err c = λ number e.
    let split = rw c.in-Comment.is at c.requires.slices in
    no_item _ _ c.in-Err.error number e c.in-Err.ensures (λ kind b. inl (record { raw = _; split = split; breaks = b }))

pub returns-in-Err-find_text : goal.returns-in-Err-find_text
returns-in-Err-find_text c = λ number e.
    let split = rw c.in-KVPair.is at c.requires.slices in
    no_item _ _ c.in-Err-find_text.error number e c.in-Err-find_text.ensures
    (λ kind b. inr (inl (record { raw_key = _; raw_value = _; split = split; breaks = b })))

pub returns-in-Err-find_text-2 : goal.returns-in-Err-find_text-2
returns-in-Err-find_text-2 c = λ number e.
    let key = c.in-Ok-find_text.ensures in
    let split = rw c.in-KVPair.is at c.requires.slices in
    no_item _ _ c.in-Err-find_text-2.error number e c.in-Err-find_text-2.ensures
    (λ kind b. inr (inr (record { raw_key = _; raw_value = _; key = _; split = split; key_means = rw key.0 at key.1.means; breaks = b })))
