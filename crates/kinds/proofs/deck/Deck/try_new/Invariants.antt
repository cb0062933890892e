use Rattle.std.proofs.Common.{◌*◌}
use Rattle.kinds.proofs.Layers.{Put}
use Rattle.kinds.proofs.deck.Deck.try_new.Given as goal

abbrev pub invariant-loop-i : goal.invariant-loop-i
invariant-loop-i l = Put l.layers (l.slab.strength * l.slab.height) l.i l.bars l.total
