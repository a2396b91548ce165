use Rattle.std.proofs.Common.{refl, sym, rules}
use Rattle.pb_base.specs.declared.lending.Lending.TheVariants.{ByBanker}
use Rattle.pb_machine.specs.Views.{machine_view}
use Rattle.pb_shared.proofs.ArmLooks.{blocked_refused, visible_shows}
use Rattle.pb_shared.proofs.visible.try_visible.Goals as goal

pub returns-in-NotEnabled-clause-tries : goal.returns-in-NotEnabled-clause-tries
returns-in-NotEnabled-clause-tries c = (
  blocked_refused c.args.code.now.code (machine_view c.args.machine.now) c.args.pick (c.in-NotEnabled.ensures.step ByBanker c.requires.machine).0 (sym c.in-Visible.ensures),
  (c.in-NotEnabled.ensures.step ByBanker c.requires.machine).1,
  refl,
  refl,
  c.mark.ensures,
)

pub returns-in-Silent-clause-tries : goal.returns-in-Silent-clause-tries
returns-in-Silent-clause-tries c = search rules fits 100

pub returns-after-frees-clause-tries : goal.returns-after-frees-clause-tries
returns-after-frees-clause-tries c = search rules fits 100

pub unreachable-requires : goal.unreachable-requires
unreachable-requires c =
    visible_shows c.args.code.now.code (machine_view c.args.machine.now) c.args.pick (machine_view c.step.new.self)
    (c.in-Silent-step.ensures.step ByBanker c.requires.machine) (sym c.in-Visible.ensures)
