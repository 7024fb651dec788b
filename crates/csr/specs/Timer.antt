-- TCFG by its fields, and the beat.
use Rattle.std.specs.Prelude.{ℕ, ◌+◌, ◌-◌, ◌*◌, ◌%◌, ◌^◌, Bool, cond, ◌==◌, ◌&&◌, nat_lt}
use Rattle.csr.specs.declared.timer.Timer.{Timer}
use Rattle.csr.specs.Words.{bit, flag, field}

-- TVAL starts at 4 times InitVal
abbrev pub start_value : ℕ → ℕ
start_value init_val = 4 * init_val

-- TCFG: En 0, Periodic 1, InitVal 31:2
abbrev pub tcfg : Timer → ℕ
tcfg t = bit t.en + bit t.periodic * 2 + t.init_val * 2 ^ 2

-- with En 1 TVAL starts
abbrev pub with_tcfg : Timer → ℕ → Timer
with_tcfg t word = record t {
  en = flag word 0;
  periodic = flag word 1;
  init_val = field word 2 30;
  tval = cond (flag word 0) (start_value (field word 2 30)) t.tval;
}

-- the timer counts if En is 1 and TVAL above 0
abbrev pub counts : Timer → Bool
counts t = t.en && nat_lt 0 t.tval

-- this beat takes it from 1 to 0
abbrev pub runs_out : Timer → Bool
runs_out t = t.en && (t.tval == 1)

-- TVAL falls by 1 if it counts; having run out it starts again if Periodic is 1
abbrev pub after_beat : Timer → Timer
after_beat t = record t {
  counter = (t.counter + 1) % 2 ^ 64;
  tval = cond (runs_out t && t.periodic) (start_value t.init_val) (cond (counts t) (t.tval - 1) t.tval);
}
