use Rattle.std.proofs.Common.{◌-◌, ◌^◌, true, false, Some, [], codes, ap, ◌∙◌, subst}
use Rattle.std.specs.Option.{option_map}
use Rattle.std.specs.Fmt.{DisplaysOnOk, ◌++?◌, digits, format_spec, padded_integral, styled_digits_output}
use Rattle.bus.proofs.Texts.{zero_padded}
use Rattle.bus.proofs.address.PhysAddrDisplay.fmt.Goals as goal

pub returns-clause-writes : goal.returns-clause-writes
returns-clause-writes g c =
    let number = ap (styled_digits_output c.in_radix.result) c.laid_out.ensures
    ∙ ap (option_map (padded_integral (format_spec 32 0 4 8 (2 ^ 64 - 1)) false [])) c.in_radix.ensures
    ∙ ap Some (zero_padded 8 (digits 16 true c.args.self.now.0)) in
    subst (λ o. DisplaysOnOk g.W.Write.write_str_gives c.args.f.now c.write.result o c.write.new.self) (ap (λ o. Some (codes "0x") ++? o) number) c.write.ensures.writes
