-- The malformed escapes of an input exist and are unique.
use Rattle.std.proofs.Common.{◌≡◌, ℕ, List, ◌++◌, refl}
use Rattle.properties_format.specs.Encoding.{Encoding}
use Rattle.properties_format.specs.Computed.Encoding.{decoded_of}
use Rattle.properties_format.specs.Lines.{InputEnd, end, Line, numbered_lines, HasGroups}
use Rattle.properties_format.specs.Computed.Lines.{lines_of, groups_in}
use Rattle.properties_format.specs.Items.{Outcome, ignored}
use Rattle.properties_format.specs.ItemsToCome.{start}
use Rattle.properties_format.specs.Computed.ItemsToCome.{natural_to_come}
use Rattle.properties_format.specs.Found.{MalformedEscape, escapes_from, AreMalformedEscapes}
use Rattle.properties_format.specs.Edits.{EscapesAre}
use Rattle.properties_format.specs.Computed.Found.{escapes_in}
use Rattle.properties_format.proofs.Found.{found-in_groups, found-meets, found-only, found_in-append}

-- the malformed escapes of an input
unfoldable pub malformed_escapes_of : Encoding → List ℕ → List MalformedEscape
malformed_escapes_of e bytes = escapes_in (groups_in e bytes end)

-- The computed escapes are the malformed escapes of the input.
pub malformed_escapes_of-meets : (e : Encoding) (bytes : List ℕ) → AreMalformedEscapes e bytes (malformed_escapes_of e bytes)
unfolding malformed_escapes_of
malformed_escapes_of-meets e bytes = found-meets escapes_from e bytes end

-- The malformed escapes of the input are the computed ones.
pub malformed_escapes_of-only : (e : Encoding) (bytes : List ℕ) (escapes : List MalformedEscape) → AreMalformedEscapes e bytes escapes
    → escapes ≡ malformed_escapes_of e bytes
unfolding malformed_escapes_of
malformed_escapes_of-only e bytes escapes h = found-only escapes_from e bytes end escapes h

-- They have this property if those of its groups have it.
pub escapes-are : {e : Encoding} {bytes : List ℕ} {gs : List (List Line)} (Such : List MalformedEscape → Type 0) → HasGroups e bytes end gs → Such (escapes_in gs)
    → EscapesAre e bytes Such
escapes-are {gs = gs} Such h such = (escapes_in gs, found-in_groups escapes_from h, such)

-- ---- what comes at the start

pub natural-start : (e : Encoding) (d : List ℕ) (ending : InputEnd) → natural_to_come (start e) d ending ≡ numbered_lines (lines_of (decoded_of e d)) ending
unfolding natural_to_come
natural-start e d ending = refl

-- ---- groups after others

from-append : (number : ℕ) (x : List ℕ) (outcome : Outcome) (rest others : List MalformedEscape)
    → escapes_from number x outcome (rest ++ others) ≡ escapes_from number x outcome rest ++ others
from-append number x ignored rest others = refl
from-append number x outcome rest others = refl

pub escapes_in-append : (gs hs : List (List Line)) → escapes_in (gs ++ hs) ≡ escapes_in gs ++ escapes_in hs
escapes_in-append gs hs = found_in-append escapes_from from-append gs hs
