-- What the derived comparison and clone of a writer's calls say.
use Rattle.std.proofs.Common.{◌↔◌, refl, IsTrue, true, false}
use Rattle.std.specs.Cmp.Lexicographic.{bytes_decides}
use Rattle.std.specs.String.{string_bytes}
use Rattle.java_properties.specs.declared.writer.calls.Call.{Call}
use Rattle.java_properties.specs.declared.writer.calls.Call.TheVariants as call
use Rattle.java_properties.specs.contracts.writer.calls.CallPartialEq.TheImpl as call_eq
use Rattle.java_properties.specs.contracts.writer.calls.CallClone.TheImpl as call_clone
use Rattle.java_properties.specs.Calls.{IsSameCall}
use Rattle.properties_items.proofs.Comparisons.{both-tests, ending-eq}

-- `==` of two calls
pub call-eq : (x y : Call) → IsTrue ((call_eq.ghosts).eq x y) ↔ IsSameCall x y
call-eq (call.Comment x) (call.Comment y) = bytes_decides (string_bytes x) (string_bytes y)
call-eq (call.Pair k v) (call.Pair l w) =
    both-tests _ _ (bytes_decides (string_bytes k) (string_bytes l)) (bytes_decides (string_bytes v) (string_bytes w))
call-eq (call.Prefix x) (call.Prefix y) = bytes_decides (string_bytes x) (string_bytes y)
call-eq (call.Separator x) (call.Separator y) = bytes_decides (string_bytes x) (string_bytes y)
call-eq (call.Ending x) (call.Ending y) = ending-eq x y
call-eq call.Flush call.Flush = ((λ e. tt), (λ h. refl))
call-eq (call.AsciiOnly true) (call.AsciiOnly true) = ((λ e. refl), (λ h. refl))
call-eq (call.AsciiOnly true) (call.AsciiOnly false) = ((λ e. absurd (cc)), (λ h. absurd (cc)))
call-eq (call.AsciiOnly false) (call.AsciiOnly true) = ((λ e. absurd (cc)), (λ h. absurd (cc)))
call-eq (call.AsciiOnly false) (call.AsciiOnly false) = ((λ e. refl), (λ h. refl))
call-eq (call.Readable true) (call.Readable true) = ((λ e. refl), (λ h. refl))
call-eq (call.Readable true) (call.Readable false) = ((λ e. absurd (cc)), (λ h. absurd (cc)))
call-eq (call.Readable false) (call.Readable true) = ((λ e. absurd (cc)), (λ h. absurd (cc)))
call-eq (call.Readable false) (call.Readable false) = ((λ e. refl), (λ h. refl))
call-eq x y = ((λ e. absurd (cc)), (λ h. absurd h))

-- a clone of a call
pub call-clone : (x y : Call) → (call_clone.ghosts).is_clone x y → IsSameCall x y
call-clone (call.Comment x) (call.Comment y) e = cc
call-clone (call.Pair k v) (call.Pair l w) e = (cc, cc)
call-clone (call.Prefix x) (call.Prefix y) e = cc
call-clone (call.Separator x) (call.Separator y) e = cc
call-clone (call.Ending x) (call.Ending y) e = cc
call-clone call.Flush call.Flush e = tt
call-clone (call.AsciiOnly on) (call.AsciiOnly same) e = cc
call-clone (call.Readable on) (call.Readable same) e = cc
call-clone x y e = absurd e
