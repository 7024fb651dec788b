use Rattle.std.proofs.Common.{◌+◌, ◌-◌, ◌≤◌, length, get_or, cond, sym, ap, ◌∙◌, arith}
use Rattle.bus.specs.Width.{width_bytes}
use Rattle.bus.specs.Memory.{within, byte_of}
use Rattle.parts.proofs.LowBytes.{word_stored}
use Rattle.parts.proofs.bytes.store.Goals as goal

pub returns-in-Word : goal.returns-in-Word
returns-in-Word c = λ k.
    let xs = c.args.memory.now in
    let v = c.args.value in
    let r = c.to_le_bytes.result in
    let room : c.args.at + 4 ≤ length xs = grind arith in
    word_stored xs c.args.at v k (get_or r 0 0) (get_or r 1 0) (get_or r 2 0) (get_or r 3 0) room (grind arith) (grind arith) (grind arith) (grind arith)
    ∙ sym (ap (λ w. cond (within c.args.at (width_bytes w) k) (byte_of v (k - c.args.at)) (get_or xs k 0)) c.in-Word.is)
