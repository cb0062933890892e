-- `record::running::run` meets its contract.
use Rattle.std.proofs.Common.{sym, subst, to_z-of_z, w32, SFits, rules}
use Rattle.sheet.specs.Ledger.{ledger, place, lift, lower, strike}
use Rattle.loads.specs.Codes.{load_type, effect_kind}
use Rattle.record.specs.Runs.{Delivers, Silently, Runs, Enters}
use Rattle.record.proofs.Outcomes.{silently, made}
use Rattle.record.proofs.running.run.Goals as goal

pub returns-in-Place : goal.returns-in-Place
returns-in-Place c =
    let p = c.in-Place in
    search (rules, made (ledger c.args.sheet.now) (place p.slot (record { role = p.role; top = p.top; breadth = p.breadth; height = p.height; fy = p.fy })) p.is (λ M o h. h))

pub returns-in-Lift : goal.returns-in-Lift
returns-in-Lift c = search (rules, made (ledger c.args.sheet.now) (lift c.in-Lift.slot) c.in-Lift.is (λ M o h. h))

pub returns-in-Lower : goal.returns-in-Lower
returns-in-Lower c = search (rules, made (ledger c.args.sheet.now) (lower c.in-Lower.levels) c.in-Lower.is (λ M o h. h))

pub returns-in-Enter : goal.returns-in-Enter
returns-in-Enter c =
    let L = ledger c.args.sheet.now in
    let M = ledger c.run_enter.new.sheet in
    let e = c.in-Enter in
    let r = c.run_enter.result in
    let line = c.args.line.now in
    let f : SFits w32 e.sixteenths = search rules in
    let told = subst (λ n. Silently (Enters L e.slot (load_type e.load) (effect_kind e.effect) n M) r) (to_z-of_z f) c.run_enter.ensures in
    subst (λ x. Delivers (Runs L x M) line r line) (sym e.is) (silently (Enters L e.slot (load_type e.load) (effect_kind e.effect) e.sixteenths M) line r told)

pub returns-in-Strike : goal.returns-in-Strike
returns-in-Strike c = search (rules, made (ledger c.args.sheet.now) (strike c.in-Strike.slot) c.in-Strike.is (λ M o h. h))
