use Rattle.std.proofs.Common.{refl, sym, subst, ◌∙◌, arith}
use Rattle.calls.specs.Laws.{writes, Lasting}
use Rattle.calls.proofs.Lasting.{lasting}
use Rattle.calls.proofs.SoFar.{none_made, one_made, all_answered, at_end}
use Rattle.calls.proofs.any_bus.perform_all.Goals as goal

pub loop-call-init : goal.loop-call-init
loop-call-init g c = (
  none_made c.args.calls.now (g.B.Bus.byte c.args.bus.now) c.in_ok-answers.answers.items c.in_ok-answers.ensures.items,
  refl,
  omega (arith, c.in_ok-answers.ensures.len),
  omega (arith, c.in_ok-answers.ensures.capacity),
)

pub loop-call-preserved : goal.loop-call-preserved
loop-call-preserved g c =
    let before = c.loop-call in
    let made = c.perform-answer in (
      one_made c.args.calls.now (g.B.Bus.byte c.args.bus.now) before.call-index _ before.answers.items c.push_reserved.new.self.items (g.B.Bus.byte before.bus) (g.B.Bus.byte made.new.bus) made.result
          c.loop-call-test.true before.invariant.0 made.ensures.answer made.ensures.after c.push_reserved.ensures.items,
      made.ensures.kept ∙ before.invariant.1,
      omega arith,
      omega arith,
    )

pub returns-clause-answers : goal.returns-clause-answers
returns-clause-answers g c =
    all_answered c.args.calls.now (g.B.Bus.byte c.args.bus.now) c.loop-call.call-index c.loop-call.answers.items (g.B.Bus.byte c.loop-call.bus) c.loop-call-test.false c.loop-call.invariant.0

pub returns-clause-after : goal.returns-clause-after
returns-clause-after g c =
    at_end c.args.calls.now (g.B.Bus.byte c.args.bus.now) c.loop-call.call-index c.loop-call.answers.items (g.B.Bus.byte c.loop-call.bus) c.loop-call-test.false c.loop-call.invariant.0

pub returns-clause-lasting : goal.returns-clause-lasting
returns-clause-lasting g c =
    let m = g.B.Bus.byte c.args.bus.now in
    let cs = c.args.calls.now in
    subst (Lasting m (writes cs)) (sym (returns-clause-after g c)) (lasting m cs)
