-- By the byte alone where it is ASCII, else by the character.
use Rattle.std.proofs.Common.{of_calls}
use Rattle.utf8.specs.Utf8.{char_width}
use Rattle.utf8.specs.Laws.{ascii_width, width_said}
use Rattle.utf8.proofs.CharsStep.width_at.Goals as goal

pub returns-then-s-at-le127 : goal.returns-then-s-at-le127
returns-then-s-at-le127 c = ascii_width c.args.s.now c.args.at c.if-at-s.true c.if-s-at-le127.true

pub returns : goal.returns
unfolding char_width
returns c = width_said _ _ _ c.char_at.ensures (λ x p. search of_calls) c.map_or.ensures
