-- What a word is as text.
use Rattle.std.specs.Prelude.{◌≡◌, ℕ, List, Some, None, codes, Option, ◌≢◌}
use Rattle.isa.specs.declared.instruction.Instruction.{Instruction}
use Rattle.isa.specs.Table.{encode}
use Rattle.assembly.specs.Lines.{assembly}

abbrev pub disassembly_text : Option Instruction → List ℕ
disassembly_text (Some i) = assembly i
disassembly_text None = codes "undefined"

-- by the table alone: the instruction whose word it is, and for a word of no row that it is undefined
pub record Disassembled (word : ℕ) (text : List ℕ) : Type 0 where
  pub defined : (i : Instruction) → encode i ≡ word → text ≡ assembly i
  pub undefined : ((i : Instruction) → encode i ≢ word) → text ≡ codes "undefined"
