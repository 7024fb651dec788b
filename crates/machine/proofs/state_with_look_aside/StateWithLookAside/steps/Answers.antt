use Rattle.std.proofs.Common.{◌≡◌, Ok, Err, arith, ◌∙◌}
use Rattle.machine.proofs.Runs.{one_more, cut_short, first_unfetched, later_unfetched, alone}
use Rattle.machine.proofs.state_with_look_aside.StateWithLookAside.steps.Goals as goal

pub returns-in-Err-clause-value : goal.returns-in-Err-clause-value
returns-in-Err-clause-value g c =
    cut_short c.args.count c.loop-steps.steps c.args.levels c.loop-steps.self c.step.new.self (g.B.Bus.byte c.loop-steps.bus) (g.B.Bus.byte c.step.new.bus)
    c.in-Err.refusal c.loop-steps-test.true c.in-Err.ensures.value
    ∙ c.loop-steps.invariant.0

pub loop-steps-preserved : goal.loop-steps-preserved
loop-steps-preserved g c = (
  one_more c.args.count c.loop-steps.steps c.args.levels c.loop-steps.self c.step.new.self (g.B.Bus.byte c.loop-steps.bus) (g.B.Bus.byte c.step.new.bus)
      c.in-Ok.event c.loop-steps-test.true c.in-Ok.ensures.value
      ∙ c.loop-steps.invariant.0,
  c.step.ensures.kept ∙ c.loop-steps.invariant.1,
  λ none.
      let so_far = c.loop-steps.invariant.2 none in
      let here = g.B.Bus.byte c.loop-steps.bus in (
        c.step.ensures.untouched (first_unfetched c.args.count c.loop-steps.steps c.args.levels c.loop-steps.self here c.loop-steps-test.true so_far.1) ∙ so_far.0,
        later_unfetched c.args.count c.loop-steps.steps c.args.levels c.loop-steps.self c.step.new.self here (g.B.Bus.byte c.step.new.bus)
            c.in-Ok.event c.loop-steps-test.true c.in-Ok.ensures.value so_far.1,
      ),
  λ none. absurd (omega (arith, none)),
  λ one.
      let none : c.loop-steps.steps ≡ 0 = omega (arith, one) in
      alone g.B.Bus.byte c.args.levels c.args.self.now c.loop-steps.self c.step.new.self c.args.bus.now c.loop-steps.bus c.step.new.bus (Ok c.in-Ok.event)
      (c.loop-steps.invariant.3 none) c.in-Ok.ensures.value c.step.ensures.untouched,
)

pub returns-in-Err-clause-untouched : goal.returns-in-Err-clause-untouched
returns-in-Err-clause-untouched g c none =
    let so_far = c.loop-steps.invariant.2 none in
    c.step.ensures.untouched (first_unfetched c.args.count c.loop-steps.steps c.args.levels c.loop-steps.self (g.B.Bus.byte c.loop-steps.bus) c.loop-steps-test.true so_far.1)
    ∙ so_far.0

pub returns-in-Err-clause-single : goal.returns-in-Err-clause-single
returns-in-Err-clause-single g c = λ one.
    let none : c.loop-steps.steps ≡ 0 = omega (arith, one, c.loop-steps-test.true) in
    alone g.B.Bus.byte c.args.levels c.args.self.now c.loop-steps.self c.step.new.self c.args.bus.now c.loop-steps.bus c.step.new.bus (Err c.in-Err.refusal)
    (c.loop-steps.invariant.3 none) c.in-Err.ensures.value c.step.ensures.untouched
