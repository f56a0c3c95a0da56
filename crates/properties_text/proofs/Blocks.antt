-- What a test of sixteen bytes says about them.
use Rattle.std.proofs.Common.{◌≡◌, ◌<◌, ◌≤◌, ℕ, Bool, false, List, take, map}
use Rattle.std.specs.List.{All}
use Rattle.std.proofs.lemmas.Bool.{leb-false}
use Rattle.std.proofs.lemmas.List.Elements.{All-weaker}
use Rattle.byte_blocks.specs.Classes.{is_non_ascii}
use Rattle.byte_blocks.specs.Marks.{clear_front}
use Rattle.byte_blocks.proofs.Marking.{clear-before}

-- The bytes before the first one that isn't ASCII.
pub ascii-before : (block : List ℕ) (marks : List Bool) (n : ℕ) → marks ≡ map is_non_ascii block → n ≤ clear_front marks → All (λ b. b < 0x80) (take n block)
ascii-before block marks n is le =
    All-weaker (λ b. is_non_ascii b ≡ false) (λ b. b < 0x80) (λ b fails. leb-false 0x80 b fails) (take n block)
    (clear-before is_non_ascii block marks n is le)
