use Rattle.std.proofs.Common.{refl, arith}
use Rattle.std.proofs.lemmas.Grind.{common_steps}
use Rattle.bus.specs.Memory.{write_of}
use Rattle.bus.proofs.Accesses.{refused_after}
use Rattle.parts.specs.Parts.{image_cells}
use Rattle.parts.proofs.image.ImageBus.write.Goals as goal

pub returns-in_err-read-clause-after : goal.returns-in_err-read-clause-after
returns-in_err-read-clause-after c =
    let m = image_cells c.args.self.now.reach.base.0 c.args.self.now.memory.now in
    refused_after m m (write_of m c.args.access.at.0 c.args.access.width c.args._value) c.in_err-read.field-0.0 (grind (arith, common_steps)) refl
