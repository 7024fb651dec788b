use Rattle.machine.proofs.StepParts.{obeyed}
use Rattle.machine.proofs.state_with_look_aside.StateWithLookAside.decode_and_perform.Goals as goal

pub returns-in-Some-clause-value : goal.returns-in-Some-clause-value
returns-in-Some-clause-value g c =
    obeyed c.args.self.now (g.B.Bus.byte c.args.bus.now) c.args.word c.in-Some.instruction c.plan-action.result _ c.in-Some.ensures.value
    (rw (← c.self.view_is) c.plan-action.ensures.value) c.perform.ensures.value
