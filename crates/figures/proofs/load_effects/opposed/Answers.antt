-- `figures::load_effects::opposed` meets its contract.
use Rattle.std.proofs.Common.{pos, neg_ℤ, refl}
use Rattle.loads.specs.declared.kind.EffectKind.TheVariants.{Moment}
use Rattle.loads.specs.Factors.{strength_i}
use Rattle.loads.proofs.Laws.{published_lawful}
use Rattle.questions.proofs.Choices.{extremes_from}
use Rattle.figures.specs.LoadEffects.{opposed}
use Rattle.figures.proofs.load_effects.opposed.Goals as goal

pub returns-clause-extremes : goal.returns-clause-extremes
returns-clause-extremes c = extremes_from strength_i Moment opposed.rows (record { low = neg_ℤ (pos 120000); high = neg_ℤ (pos 86400) }) (published_lawful 0) refl refl
