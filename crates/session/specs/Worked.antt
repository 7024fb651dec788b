-- A first set-up, and the listing that it gives: addi.w r4, r0, -1; add.w r5, r4, r4; b 0, three steps of it, and r5.
use Rattle.std.specs.Prelude.{◌≡◌, ℕ, List, codes}
use Rattle.actions.specs.Registers.{gr}
use Rattle.isa.specs.Fields.{reg_of}
use Rattle.setup.specs.Text.{lines_of}
use Rattle.session.specs.Sessions.{Progress, fresh, after_lines, core_to_run}
use Rattle.session.specs.WholeText.{board, set_up_listing}

abbrev pub addition_text : List ℕ
addition_text = codes "w,1C000000,02BFFC04\nw,1C000004,00101085\nw,1C000008,50000000\ng,3\nr,5\n"

abbrev pub addition_listing_text : List ℕ
addition_listing_text = codes "run,3,1C000008\nreg,5,FFFFFFFE\n"

-- a register of the core that a set-up leaves
abbrev pub register_left : Progress → ℕ → ℕ
register_left p number = gr (core_to_run p.stage).user.general (reg_of number)

pub record WorkedSetUp : Type 0 where
  pub listing : set_up_listing addition_text ≡ addition_listing_text
  pub r4 : register_left (after_lines (fresh board) (lines_of addition_text)) 4 ≡ 0xffffffff
