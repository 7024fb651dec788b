use Rattle.machine.proofs.StepParts.{accepted_step, refused_step, without_fetch}
use Rattle.machine.proofs.state_with_look_aside.StateWithLookAside.step.Goals as goal

pub returns-in-Ok-clause-value : goal.returns-in-Ok-clause-value
returns-in-Ok-clause-value g c =
    rw (← c.self.view_is)
    (accepted_step c.self.inside.state c.args.levels (g.B.Bus.byte c.args.bus.now) _ _ c.self-2.inside.state _ _ c.take_levels.ensures
    (rw c.self-2.view_is c.in-Ok.ensures.value) c.beat.ensures)

pub returns-in-Err-clause-value : goal.returns-in-Err-clause-value
returns-in-Err-clause-value g c =
    rw (← c.self.view_is)
    (refused_step c.self.inside.state c.args.levels (g.B.Bus.byte c.args.bus.now) _ _ c.self-2.inside.state _ _ c.take_levels.ensures
    (rw c.self-2.view_is c.in-Err.ensures.value) c.take_levels-in-Err.ensures)

pub returns-in-Ok-clause-untouched : goal.returns-in-Ok-clause-untouched
returns-in-Ok-clause-untouched g c =
    rw (← c.self.view_is)
    (λ nothing. c.act.ensures.untouched (without_fetch c.self.inside.state c.args.levels _ c.take_levels.ensures nothing))

pub returns-in-Err-clause-untouched : goal.returns-in-Err-clause-untouched
returns-in-Err-clause-untouched g c =
    rw (← c.self.view_is)
    (λ nothing. c.act.ensures.untouched (without_fetch c.self.inside.state c.args.levels _ c.take_levels.ensures nothing))

-- neither the levels nor the beat changes what translation depends on
pub invariant_of-self-in-Ok : goal.invariant_of-self-in-Ok
invariant_of-self-in-Ok g c = rw c.beat.ensures c.self-2.invariant

pub invariant_of-self-in-Err : goal.invariant_of-self-in-Err
invariant_of-self-in-Err g c = rw c.take_levels-in-Err.ensures c.self-2.invariant
