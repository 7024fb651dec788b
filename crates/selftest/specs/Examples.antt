-- Worked examples, each with the mistake that it would show.
use Rattle.std.specs.Prelude.{◌≡◌, true, false, Ok}
use Rattle.bus.specs.Memory.{Memory}
use Rattle.isa.specs.declared.register.Reg.{Reg}
use Rattle.isa.specs.declared.instruction.RegisterOp.TheVariants.{MulhW, MulhWu, DivW, ModW, SraW}
use Rattle.isa.specs.declared.instruction.ImmediateOp.TheVariants.{Sltui}
use Rattle.isa.specs.declared.instruction.LoadOp.TheVariants.{LdW}
use Rattle.isa.specs.Fields.{reg_of, field_of}
use Rattle.operations.specs.Operations.{register_result, immediate_result}
use Rattle.pages.specs.declared.access_kind.AccessKind.TheVariants as kind
use Rattle.pages.specs.declared.page_size.PageSize.TheVariants.{Large}
use Rattle.pages.specs.declared.privilege.Privilege.{Privilege}
use Rattle.pages.specs.declared.privilege.Privilege.TheVariants.{Plv0, Plv3}
use Rattle.tlb.specs.declared.entry.Entry.{Entry}
use Rattle.tlb.specs.declared.table.Tlb.{Tlb}
use Rattle.tlb.specs.Entries.{empty, empty_half}
use Rattle.tlb.specs.Searching.{reset_tlb, filled}
use Rattle.csr.specs.declared.exception.Exception.TheVariants.{Ale}
use Rattle.csr.specs.declared.mode.Mode.{Mode}
use Rattle.csr.specs.declared.mode.TranslationMode.TheVariants.{Mapped}
use Rattle.csr.specs.declared.window.Windows.{Windows}
use Rattle.csr.specs.Exceptions.{ecode}
use Rattle.csr.specs.Mode.{da_pg}
use Rattle.csr.specs.Window.{dmw_of}
use Rattle.control.specs.declared.registers.Registers.{Registers}
use Rattle.control.specs.Exceptions.{returned}
use Rattle.control.specs.Reset.{reset_mode}
use Rattle.translation.specs.Translation.{place, through_tlb, translation}
use Rattle.actions.specs.declared.action.Action.TheVariants.{Load}
use Rattle.actions.specs.Registers.{gr}
use Rattle.actions.specs.User.{virtual}
use Rattle.machine.specs.declared.state.State.{State}
use Rattle.machine.specs.Execution.{perform}
use Rattle.machine.specs.Outcomes.{unasked, raise}
use Rattle.machine.specs.State.{reset_state}
use Rattle.machine.specs.Step.{run_of}
use Rattle.selftest.specs.Addition.{HoldsWord, HoldsAddition}

-- mapped mode with all else as reset leaves it
abbrev pub mapped_mode : Privilege → Mode
mapped_mode plv = record reset_mode { plv = plv; translation = Mapped }

abbrev pub no_windows : Windows
no_windows = reset_state.registers.windows

-- segment 5 is segment 0, for PLV0
abbrev pub one_window : Windows
one_window = record { dmw0 = dmw_of 0xa0000001; dmw1 = dmw_of 0 }

-- a pair of large pages at 0x400000, of which the even one is valid and lies at 0x800000
abbrev pub large_entry : Entry
large_entry = record empty {
  exists = true;
  global = true;
  page_size = Large;
  vppn = 0x200;
  even = record empty_half { valid = true; frame = record { 0 = 0x800 } };
}

abbrev pub large_tlb : Tlb
large_tlb = filled large_entry reset_tlb

-- addi.w r4, r0, 5; csrwr r4, TCFG; and three that do nothing
pub record HoldsTimer (m : Memory) : Type 0 where
  pub first : HoldsWord m 0x1c000000 0x02801404
  pub second : HoldsWord m 0x1c000004 0x04010424
  pub third : HoldsWord m 0x1c000008 0x03400000
  pub fourth : HoldsWord m 0x1c00000c 0x03400000
  pub fifth : HoldsWord m 0x1c000010 0x03400000

pub record WorkedExamples : Type 0 where
  -- the first program, at the reset address
  pub addition : (m : Memory) → HoldsAddition m
      → (gr (run_of 3 0 reset_state m).state.user.general (reg_of 4) ≡ 0xffffffff)
      × (gr (run_of 3 0 reset_state m).state.user.general (reg_of 5) ≡ 0xfffffffe)
      × ((run_of 3 0 reset_state m).state.user.pc ≡ virtual 0x1c000008)
  -- signed and unsigned products differ
  pub products : (register_result MulhW 0xffffffff 0xffffffff ≡ 0) × (register_result MulhWu 0xffffffff 0xffffffff ≡ 0xfffffffe)
  -- the quotient of -7 by 2 is rounded to zero, and the remainder is negative
  pub quotients : (register_result DivW 0xfffffff9 2 ≡ 0xfffffffd) × (register_result ModW 0xfffffff9 2 ≡ 0xffffffff)
  -- a shift by 33 is one by 1, and it keeps the sign
  pub shift : register_result SraW 0x80000000 33 ≡ 0xc0000000
  -- SLTUI sign-extends -1, and then compares without sign
  pub comparison : immediate_result Sltui 5000 (field_of 12 0xfff) ≡ 1
  -- a window for PLV0 is none for PLV3, where the TLB is searched
  pub window : translation (mapped_mode Plv0) one_window reset_tlb kind.Load 0xa0001234 ≡ Ok (place 0x1234 0)
  pub no_window : (tlb : Tlb) → translation (mapped_mode Plv3) one_window tlb kind.Load 0xa0001234 ≡ through_tlb (mapped_mode Plv3) tlb kind.Load 0xa0001234
  -- a pair of large pages is told apart by bit 21 of the address
  pub large_page : translation (mapped_mode Plv0) no_windows large_tlb kind.Load 0x401234 ≡ Ok (place 0x801234 0)
  -- alignment comes before translation
  pub misaligned : (s : State) (m : Memory) (rd : Reg) → perform s m (Load LdW rd (virtual 2)) ≡ unasked (raise s (Ale (virtual 2))) m
  -- TCFG written 5 starts at 4, which is 3 after the step; three steps later the timer has run out
  pub timer : (m : Memory) → HoldsTimer m
      → ((run_of 2 0 reset_state m).state.registers.timer.tval ≡ 3)
      × ((run_of 2 0 reset_state m).state.registers.interrupts.pending.ti ≡ false)
      × ((run_of 5 0 reset_state m).state.registers.interrupts.pending.ti ≡ true)
  -- ERTN from a refill's handler: DA 0, PG 1
  pub return : (r : Registers) → ecode r.cause ≡ 0x3f → da_pg (returned r).mode.translation ≡ 2
