-- Addresses of accesses and of branches.
use Rattle.std.specs.Prelude.{ℕ}
use Rattle.pages.specs.declared.address.VirtAddr.{VirtAddr}
use Rattle.isa.specs.declared.field.Field.{Field}
use Rattle.isa.specs.declared.register.Reg.{Reg}
use Rattle.word.specs.Word.{word_sum, sign_extend, sign_extend_times4}
use Rattle.actions.specs.declared.user.UserState.{UserState}
use Rattle.actions.specs.Registers.{gr}
use Rattle.actions.specs.User.{virtual}

-- GR[rj] + SignExtend(si12, 32)
abbrev pub by_si12 : UserState → Reg → Field 12 → VirtAddr
by_si12 u rj si12 = virtual (word_sum (gr u.general rj) (sign_extend 12 si12.value))

-- GR[rj] + SignExtend({si14, 2'b0}, 32)
abbrev pub by_si14 : UserState → Reg → Field 14 → VirtAddr
by_si14 u rj si14 = virtual (word_sum (gr u.general rj) (sign_extend_times4 14 si14.value))

-- GR[rj] + SignExtend({offs16, 2'b0}, 32)
abbrev pub by_offs16 : UserState → Reg → Field 16 → VirtAddr
by_offs16 u rj offs16 = virtual (word_sum (gr u.general rj) (sign_extend_times4 16 offs16.value))

-- PC + SignExtend({offs, 2'b0}, 32)
abbrev pub from_pc : (n : ℕ) → UserState → Field n → VirtAddr
from_pc n u offs = virtual (word_sum u.pc.0 (sign_extend_times4 n offs.value))
