-- The state of a core that was reset.
use Rattle.std.specs.Prelude.{ℕ}
use Rattle.isa.specs.declared.register.Reg.{Reg}
use Rattle.pages.specs.declared.address.VirtAddr.{VirtAddr}
use Rattle.tlb.specs.Searching.{reset_tlb}
use Rattle.control.specs.Reset.{reset_registers}
use Rattle.actions.specs.User.{reset_user, next_pc, with_pc, written}
use Rattle.machine.specs.declared.state.Activity.TheVariants.{Running}
use Rattle.machine.specs.declared.state.State.{State}

abbrev pub reset_state : State
reset_state = record { user = reset_user; registers = reset_registers; tlb = reset_tlb; activity = Running }

abbrev pub goes_to : State → VirtAddr → State
goes_to s next = record s { user = with_pc s.user next }

-- the next instruction follows
abbrev pub advanced : State → State
advanced s = goes_to s (next_pc s.user)

-- GR[rd] gets a value, and the program goes on elsewhere
abbrev pub with_write : State → Reg → ℕ → VirtAddr → State
with_write s rd value next = record s { user = written s.user rd value next }

-- GR[rd] gets a value, and the next instruction follows
abbrev pub with_result : State → Reg → ℕ → State
with_result s rd value = with_write s rd value (next_pc s.user)
