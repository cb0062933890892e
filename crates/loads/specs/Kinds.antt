-- An effect's value and its kind.
use Rattle.std.specs.Prelude.{Bool, true, false, Float}
use Rattle.loads.specs.declared.effect.Effect.{Effect}
use Rattle.loads.specs.declared.effect.Effect.TheVariants as effects
use Rattle.loads.specs.declared.kind.EffectKind.{EffectKind}
use Rattle.loads.specs.declared.kind.EffectKind.TheVariants.{Moment, Shear}

abbrev pub value_of : Effect → Float
value_of (effects.Moment x) = x
value_of (effects.Shear x) = x

abbrev pub kind_of : Effect → EffectKind
kind_of (effects.Moment x) = Moment
kind_of (effects.Shear x) = Shear

abbrev pub same_kind : EffectKind → EffectKind → Bool
same_kind Moment Moment = true
same_kind Moment Shear = false
same_kind Shear Moment = false
same_kind Shear Shear = true
