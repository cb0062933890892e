-- A deck and a cracked deck keep the laws of parts.
use Rattle.std.proofs.Common.{arith}
use Rattle.section.specs.Parts.{Lawful}
use Rattle.section.specs.Sums.{sum_to_add}
use Rattle.section.specs.Blocks.{strips}
use Rattle.section.specs.BlockLaws.{strips_end, strips-sum, stacked_end, stacked-sum}
use Rattle.kinds.specs.declared.deck.Deck.{Deck}
use Rattle.kinds.specs.Decks.{pushes_of, bars_of}

pub deck_laws : Lawful pushes_of bars_of
deck_laws = record {
  pushes_end = λ d i l. omega (arith, strips_end d.slab i l, stacked_end d.bars i l);
  pulls_end = λ d i l. stacked_end d.bars i l;
  pushes_light = λ d. let h = d.light in omega (arith, sum_to_add (strips d.slab) (bars_of d) 4096, strips-sum d.slab, stacked-sum d.bars);
  pulls_light = λ d. let h = d.light in omega (arith, stacked-sum d.bars);
  weaker_pull = λ d i. omega arith;
}

pub cracked_laws : {S : Type 0} (deck : S → Deck) → Lawful (λ (x : S). bars_of (deck x)) (λ (x : S). bars_of (deck x))
cracked_laws deck = record {
  pushes_end = λ x i l. deck_laws.pulls_end (deck x) i l;
  pulls_end = λ x i l. deck_laws.pulls_end (deck x) i l;
  pushes_light = λ x. deck_laws.pulls_light (deck x);
  pulls_light = λ x. deck_laws.pulls_light (deck x);
  weaker_pull = λ x i. omega arith;
}
