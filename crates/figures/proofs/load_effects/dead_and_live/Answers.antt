-- `figures::load_effects::dead_and_live` meets its contract.
use Rattle.std.proofs.Common.{pos, refl}
use Rattle.loads.specs.declared.kind.EffectKind.TheVariants.{Moment}
use Rattle.loads.specs.Factors.{strength_i}
use Rattle.loads.proofs.Laws.{published_lawful}
use Rattle.questions.proofs.Choices.{extremes_from}
use Rattle.figures.specs.LoadEffects.{dead_and_live}
use Rattle.figures.proofs.load_effects.dead_and_live.Goals as goal

pub returns : goal.returns
returns c = extremes_from strength_i Moment dead_and_live.rows (record { low = pos 1648000; high = pos 6680000 }) (published_lawful 0) refl refl
