use Rattle.std.proofs.Common.{arith}
use Rattle.machine.specs.State.{reset_state}
use Rattle.driver.proofs.Driving.{isolated}
use Rattle.driver.proofs.SoFar.{none_made, one_made, all_made}
use Rattle.driver.proofs.two_machines.lockstep.Goals as goal

pub loop-call-init : goal.loop-call-init
loop-call-init g c = (
  none_made g.A.Bus.byte g.A.Bus.layout c.args.calls.now reset_state c.args.left_bus.now c.in_ok-left_answers.left_answers.items c.reset.new.self c.in_ok-left_answers.ensures.items c.reset.ensures,
  omega (arith, c.in_ok-left_answers.ensures.len),
  omega (arith, c.in_ok-left_answers.ensures.capacity),
  none_made g.B.Bus.byte g.B.Bus.layout c.args.calls.now reset_state c.args.right_bus.now c.in_ok-right_answers.right_answers.items c.reset-2.new.self c.in_ok-right_answers.ensures.items c.reset-2.ensures,
  omega (arith, c.in_ok-right_answers.ensures.len),
  omega (arith, c.in_ok-right_answers.ensures.capacity),
)

pub loop-call-preserved : goal.loop-call-preserved
loop-call-preserved g c =
    let k = c.loop-call.call-index in
    let calls = c.args.calls.now in
    let one = c.perform-answer in
    let other = c.perform-answer-in-loop-call in (
      one_made g.A.Bus.byte g.A.Bus.layout calls reset_state c.args.left_bus.now k c.loop-call.left_answers.items c.push_reserved.new.self.items c.loop-call.left one.new.core c.loop-call.left_bus one.new.bus one.result
          c.loop-call-test.true c.loop-call.invariant.0 one.ensures.value one.ensures.kept one.ensures.untouched c.push_reserved.ensures.items,
      omega arith,
      omega arith,
      one_made g.B.Bus.byte g.B.Bus.layout calls reset_state c.args.right_bus.now k c.loop-call.right_answers.items c.push_reserved-in-loop-call.new.self.items c.loop-call.right other.new.core c.loop-call.right_bus other.new.bus other.result
          c.loop-call-test.true c.loop-call.invariant.3 other.ensures.value other.ensures.kept other.ensures.untouched c.push_reserved-in-loop-call.ensures.items,
      omega arith,
      omega arith,
    )

pub returns-clause-left : goal.returns-clause-left
returns-clause-left g c =
    all_made g.A.Bus.byte g.A.Bus.layout c.args.calls.now reset_state c.args.left_bus.now c.loop-call.call-index c.loop-call.left_answers.items c.loop-call.left c.loop-call.left_bus c.loop-call-test.false c.loop-call.invariant.0

pub returns-clause-right : goal.returns-clause-right
returns-clause-right g c =
    all_made g.B.Bus.byte g.B.Bus.layout c.args.calls.now reset_state c.args.right_bus.now c.loop-call.call-index c.loop-call.right_answers.items c.loop-call.right c.loop-call.right_bus c.loop-call-test.false c.loop-call.invariant.3

pub returns-clause-isolated : goal.returns-clause-isolated
returns-clause-isolated g c =
    isolated c.args.calls.now reset_state (g.A.Bus.byte c.args.left_bus.now) (g.B.Bus.byte c.args.right_bus.now) _ _ (returns-clause-left g c) (returns-clause-right g c)

pub returns-clause-left_kept : goal.returns-clause-left_kept
returns-clause-left_kept g c = c.loop-call.invariant.0.kept

pub returns-clause-right_kept : goal.returns-clause-right_kept
returns-clause-right_kept g c = c.loop-call.invariant.3.kept

pub returns-clause-left_untouched : goal.returns-clause-left_untouched
returns-clause-left_untouched g c none = (c.loop-call.invariant.0.untouched none).0

pub returns-clause-right_untouched : goal.returns-clause-right_untouched
returns-clause-right_untouched g c none = (c.loop-call.invariant.3.untouched none).0
