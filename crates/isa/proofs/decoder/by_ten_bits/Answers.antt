-- The six arms for which the check finds no proof alone: ST.B, ST.H, ST.W, LD.BU, LD.HU and PRELD. The tool names an arm by its number in decimal, so 164 is 0xa4.
-- By `to_memory` the definition comes to that row of `memory_of` too. Every other arm, the loads 160 to 162 among them, needs no answer.
use Rattle.std.proofs.Common.{Some, sym, ◌∙◌, refl, arith}
use Rattle.isa.specs.declared.instruction.Instruction.TheVariants.{Preld}
use Rattle.isa.specs.Decoding.{decode_of}
use Rattle.isa.proofs.Complete.{to_memory}
use Rattle.isa.proofs.decoder.by_ten_bits.Goals as goal

pub returns-in-164 : goal.returns-in-164
unfolding decode_of
returns-in-164 c = c.store.ensures ∙ sym (to_memory 0xa4 refl c.args.word (omega arith))

pub returns-in-165 : goal.returns-in-165
unfolding decode_of
returns-in-165 c = c.store-in-165.ensures ∙ sym (to_memory 0xa5 refl c.args.word (omega arith))

pub returns-in-166 : goal.returns-in-166
unfolding decode_of
returns-in-166 c = c.store-in-166.ensures ∙ sym (to_memory 0xa6 refl c.args.word (omega arith))

pub returns-in-168 : goal.returns-in-168
unfolding decode_of
returns-in-168 c = c.load-in-168.ensures ∙ sym (to_memory 0xa8 refl c.args.word (omega arith))

pub returns-in-169 : goal.returns-in-169
unfolding decode_of
returns-in-169 c = c.load-in-169.ensures ∙ sym (to_memory 0xa9 refl c.args.word (omega arith))

pub returns-in-171 : goal.returns-in-171
unfolding decode_of
returns-in-171 c = (λ i. Some (Preld (c.low_bits-in-171.ensures i) (c.rj-in-171.ensures i) (c.low_bits-in-171-2.ensures i))) ∙ sym (to_memory 0xab refl c.args.word (omega arith))
