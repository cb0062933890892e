-- The codes by which a record names load types and kinds of effect.
use Rattle.std.specs.Prelude.{ℕ, cond, Ok, Err, Result, ◌==◌}
use Rattle.faults.specs.declared.reading.ReadFault.{ReadFault}
use Rattle.faults.specs.declared.reading.ReadFault.TheVariants.{UnknownCode}
use Rattle.loads.specs.declared.load_type.LoadType.{LoadType}
use Rattle.loads.specs.declared.load_type.LoadType.TheVariants.{Dc, Dw, Ll, Ws}
use Rattle.loads.specs.declared.kind.EffectKind.{EffectKind}
use Rattle.loads.specs.declared.kind.EffectKind.TheVariants.{Moment, Shear}

-- 1 DC, 2 DW, 3 LL, 4 WS
abbrev pub load_type : ℕ → Result LoadType ReadFault
load_type n = cond (n == 1) (Ok Dc) (cond (n == 2) (Ok Dw) (cond (n == 3) (Ok Ll) (cond (n == 4) (Ok Ws) (Err UnknownCode))))

-- 1 moment, 2 shear
abbrev pub effect_kind : ℕ → Result EffectKind ReadFault
effect_kind n = cond (n == 1) (Ok Moment) (cond (n == 2) (Ok Shear) (Err UnknownCode))
