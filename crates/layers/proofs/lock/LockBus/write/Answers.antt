use Rattle.std.proofs.Common.{rules, ◌≡◌, ◌∷◌, true, not, None, Ok, Err, sym, ap, ◌∙◌}
use Rattle.std.specs.Option.{is_some}
use Rattle.bus.specs.declared.refusal.Refusal.TheVariants.{Fixed}
use Rattle.bus.specs.Layout.{number, cells, hidden_cells}
use Rattle.bus.specs.Memory.{read_of, write_of}
use Rattle.bus.specs.Board.{range_check, is_accepted, offset_in}
use Rattle.bus.proofs.Accesses.{Written, refused_after}
use Rattle.layers.specs.Layers.{lock_cells, shown_unlocked}
use Rattle.layers.proofs.Locking.{below_refused, inside_fixed, outside_write, outside_hidden}
use Rattle.layers.proofs.lock.LockBus.write.Goals as goal

pub returns-then-is_none : goal.returns-then-is_none
returns-then-is_none g c =
    let s = c.args.self.now in
    let a = c.args.access in
    let v = c.args.value in
    let below = g.B.Bus.byte s.inner in
    let left = g.B.Bus.byte c.write.new.self in
    let taken : is_accepted (range_check s.span.base.0 s.span.length) ≡ true = sym c.if-not-is_accepted.ensures in
    let outside : None ≡ offset_in s.span.base.0 s.span.length a.at.0 = search rules in
    let done : Written below a.at.0 a.width v c.write.result left = record { answer = c.write.ensures.value; after = c.write.ensures.after } in
    let written = outside_write s.span.base.0 s.span.length taken below a.at.0 a.width v outside c.write.result left done in
    let hidden = outside_hidden s.span.base.0 s.span.length taken below a.at.0 a.width v outside c.write.result left done in
    record {
      value = written.answer;
      after = written.after;
      kept = λ i. number s.span.base.0 ∷ number s.span.length ∷ cells (hidden i) ∷ c.write.ensures.kept i;
    }

pub returns-in_err-read : goal.returns-in_err-read
returns-in_err-read g c =
    let s = c.args.self.now in
    let a = c.args.access in
    let below = g.B.Bus.byte s.inner in
    let m = lock_cells s.span.base.0 s.span.length below in
    let e = c.in_err-read.field-0.0 in
    let taken : is_accepted (range_check s.span.base.0 s.span.length) ≡ true = sym c.if-not-is_accepted.ensures in
    let told : Err e ≡ read_of below a.at.0 a.width = search rules in
    let named : c.from_residual.result ≡ Err e = search rules in
    let refused = below_refused s.span.base.0 s.span.length taken below a.at.0 a.width c.args.value e told in
    record {
      value = named ∙ refused;
      after = refused_after m _ (write_of m a.at.0 a.width c.args.value) e refused (ap (lock_cells s.span.base.0 s.span.length) c.read.ensures.same);
      kept = λ i. number s.span.base.0 ∷ number s.span.length ∷ cells (hidden_cells (shown_unlocked s.span.base.0 s.span.length) (c.read.ensures.same i)) ∷ c.read.ensures.kept i;
    }

pub returns : goal.returns
returns g c =
    let s = c.args.self.now in
    let a = c.args.access in
    let below = g.B.Bus.byte s.inner in
    let m = lock_cells s.span.base.0 s.span.length below in
    let taken : is_accepted (range_check s.span.base.0 s.span.length) ≡ true = sym c.if-not-is_accepted.ensures in
    let inside : is_some (offset_in s.span.base.0 s.span.length a.at.0) ≡ true = ap is_some (sym c.offset_of.ensures) ∙ c.is_none.ensures ∙ ap not c.if-is_none.false in
    let told : Ok c.in_ok-read.field-0 ≡ read_of below a.at.0 a.width = search rules in
    let refused = inside_fixed s.span.base.0 s.span.length taken below a.at.0 a.width c.args.value inside c.in_ok-read.field-0 told in
    record {
      value = refused;
      after = refused_after m _ (write_of m a.at.0 a.width c.args.value) (Fixed a.at) refused (ap (lock_cells s.span.base.0 s.span.length) c.read.ensures.same);
      kept = λ i. number s.span.base.0 ∷ number s.span.length ∷ cells (hidden_cells (shown_unlocked s.span.base.0 s.span.length) (c.read.ensures.same i)) ∷ c.read.ensures.kept i;
    }
