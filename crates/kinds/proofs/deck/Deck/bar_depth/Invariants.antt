use Rattle.std.proofs.Common.{take}
use Rattle.section.specs.Parts.{IsDepth}
use Rattle.section.specs.Blocks.{stacked}
use Rattle.kinds.proofs.deck.Deck.bar_depth.Given as goal

abbrev pub invariant-loop-bar : goal.invariant-loop-bar
invariant-loop-bar l = IsDepth (stacked (take l.bar-index l.self.bars)) (stacked (take l.bar-index l.self.bars)) l.depth
