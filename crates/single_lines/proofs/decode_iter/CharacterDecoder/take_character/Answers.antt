use Rattle.std.proofs.Common.{◌≡◌, ◌∷◌, rules, ap}
use Rattle.single_lines.specs.DecodeIter.{undecoded}
use Rattle.single_lines.proofs.DecodeIter.{gives-character}
use Rattle.single_lines.proofs.decode_iter.CharacterDecoder.take_character.Goals as goal

pub returns : goal.returns
returns c =
    let piece = c.first_piece-piece.result in
    let shown = c.first_piece-piece.ensures.shown in
    let whole : c.args.self.now.bytes ≡ c.in_ok-first.first.now ∷ c.in_ok-first.rest.now = search (rules, c.in_ok-first.ensures.cases, c.bytes.ensures) in
    gives-character (undecoded c.args.self.now) _ c.in_ok-first.first.now c.in_ok-first.rest.now piece.character piece.length
    c.requires.decided c.requires.settled whole shown.character_is shown.length_is (ap (λ v. record (undecoded c.args.self.now) { held = v }) c.skip.ensures)
