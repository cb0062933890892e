-- `kinds::decks::DeckPart::depth` meets its contract.
use Rattle.kinds.proofs.SlabAndBars.{depth_beside}
use Rattle.kinds.proofs.decks.DeckPart.depth.Goals as goal

pub returns : goal.returns
returns c = simp c.max.ensures (depth_beside _ _ _ _ c.depth.ensures c.bar_depth.ensures)
