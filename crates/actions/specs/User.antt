-- What every program reads and writes of the core: the PC and the general registers.
use Rattle.std.specs.Prelude.{ℕ}
use Rattle.pages.specs.declared.address.VirtAddr.{VirtAddr}
use Rattle.isa.specs.declared.register.Reg.{Reg}
use Rattle.word.specs.Word.{word_sum}
use Rattle.actions.specs.declared.user.UserState.{UserState}
use Rattle.actions.specs.Registers.{reset_general, with_gr}

abbrev pub virtual : ℕ → VirtAddr
virtual at = record { 0 = at }

abbrev pub reset_user : UserState
reset_user = record { pc = virtual 0x1c000000; general = reset_general }

-- PC + 4
abbrev pub next_pc : UserState → VirtAddr
next_pc u = virtual (word_sum u.pc.0 4)

abbrev pub with_pc : UserState → VirtAddr → UserState
with_pc u pc = record u { pc = pc }

abbrev pub written : UserState → Reg → ℕ → VirtAddr → UserState
written u rd value next = record { pc = next; general = with_gr u.general rd value }
