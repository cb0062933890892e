-- `kinds::deck::Deck::try_new` meets its contract.
use Rattle.std.proofs.Common.{arith}
use Rattle.kinds.proofs.Layers.{put_none, put_more, put_fits, put_bars, put_pushes}
use Rattle.kinds.proofs.deck.Deck.try_new.Goals as goal

pub loop-i-init : goal.loop-i-init
loop-i-init c = rw c.total-total.ensures (put_none _ _ c.empty-bars.result c.empty-bars.ensures)

pub loop-i-preserved : goal.loop-i-preserved
loop-i-preserved c =
    let made = rw (rw (c.in_ok-bar.was) at c.ok_or-in-loop-i.ensures.ok_part) at c.block-in-loop-i.ensures in
    rw c.total-total-in-loop-i.ensures
    (put_more c.args.layers.now _ c.loop-i.i c.loop-i.bars c.loop-i.total _ c.in_ok-bar.bar c.empty-bars.result c.empty-bars.ensures c.loop-i.invariant c.loop-i-test.true (omega arith) made)

pub returns : goal.returns
returns c =
    let made = rw (rw (c.in_ok-slab.was) at c.ok_or.ensures.ok_part) at c.block.ensures in
    let s = c.args.slab in
    let ls = c.args.layers.now in
    let b = c.in_ok-slab.slab in (
      put_fits s ls b made c.loop-i.i c.loop-i.bars c.loop-i.total c.loop-i.invariant c.loop-i-test.false (omega arith) (omega arith),
      record {
        pushes_are = put_pushes s ls b made c.loop-i.i c.loop-i.bars c.loop-i.total c.loop-i.invariant c.loop-i-test.false;
        pulls_are = put_bars s ls b made c.loop-i.i c.loop-i.bars c.loop-i.total c.loop-i.invariant c.loop-i-test.false;
      },
    )
