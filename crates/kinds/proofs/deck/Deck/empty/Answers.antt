-- `kinds::deck::Deck::empty` meets its contract.
use mathlib.Core.Path.{fun_ext}
use Rattle.std.proofs.Common.{arith}
use Rattle.kinds.proofs.Layers.{hollow}
use Rattle.kinds.proofs.deck.Deck.empty.Goals as goal

pub returns : goal.returns
returns c =
    record {
      pushes = fun_ext (λ i. omega (arith, hollow c.empty.result c.empty.ensures i, hollow c.empty-2.result c.empty-2.ensures i));
      pulls = fun_ext (λ i. omega (arith, hollow c.empty-2.result c.empty-2.ensures i));
    }
