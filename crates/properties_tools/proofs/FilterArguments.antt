-- What arguments ask `propfilter` for, one by one.
use Rattle.std.proofs.Common.{◌≡◌, ℕ, true, false, List, [], ◌∷◌}
use Rattle.std.specs.Prelude.{Option, Some, None}
use Rattle.properties_tools.specs.{Propfilter.ascii_word, Propfilter.IsAsked, Propfilter.IsNamedWith, Filter.Form}

-- the name of an encoding alone
pub named_alone : (name : List ℕ) (o : Option Form) → IsNamedWith name false o → IsAsked (name ∷ []) o
named_alone name None h = λ r k. h r.encoding k.0
named_alone name (Some asked) h = h

-- and with the argument for ASCII-only output after it
pub named_ascii : (name word : List ℕ) (o : Option Form) → word ≡ ascii_word → IsNamedWith name true o → IsAsked (name ∷ word ∷ []) o
named_ascii name word None is h = λ r k. h r.encoding k.0
named_ascii name word (Some asked) is h = (h.0, is, h.1)
