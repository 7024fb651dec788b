use Rattle.std.proofs.Common.{refl, arith}
use Rattle.driver.proofs.Driving.{drive_isolated}
use Rattle.driver.proofs.SoFar.{none_made, one_made, all_made}
use Rattle.driver.proofs.one_machine.drive.Goals as goal

pub loop-call-init : goal.loop-call-init
loop-call-init g c = (
  none_made g.B.Bus.byte g.B.Bus.layout c.args.calls.now c.args.core.now c.args.bus.now c.in_ok-answers.answers.items c.args.core.now c.in_ok-answers.ensures.items refl,
  omega (arith, c.in_ok-answers.ensures.len),
  omega (arith, c.in_ok-answers.ensures.capacity),
)

pub loop-call-preserved : goal.loop-call-preserved
loop-call-preserved g c =
    let before = c.loop-call in
    let made = c.perform-answer in (
      one_made g.B.Bus.byte g.B.Bus.layout c.args.calls.now c.args.core.now c.args.bus.now before.call-index before.answers.items c.push_reserved.new.self.items before.core made.new.core before.bus made.new.bus made.result
          c.loop-call-test.true before.invariant.0 made.ensures.value made.ensures.kept made.ensures.untouched c.push_reserved.ensures.items,
      omega arith,
      omega arith,
    )

pub returns-clause-value : goal.returns-clause-value
returns-clause-value g c =
    all_made g.B.Bus.byte g.B.Bus.layout c.args.calls.now c.args.core.now c.args.bus.now c.loop-call.call-index c.loop-call.answers.items c.loop-call.core c.loop-call.bus c.loop-call-test.false c.loop-call.invariant.0

pub returns-clause-isolated : goal.returns-clause-isolated
returns-clause-isolated g c = drive_isolated c.args.calls.now c.args.core.now (g.B.Bus.byte c.args.bus.now) _ (returns-clause-value g c)
