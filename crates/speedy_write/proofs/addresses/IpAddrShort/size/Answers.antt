use Rattle.std.proofs.Common.{sym, subst}
use Rattle.speedy_layout.specs.Addresses.{ip_address, ip_octets}
use Rattle.speedy_write.specs.Counting.{HasSize}
use Rattle.speedy_write.proofs.ShortLemmas.{short_address_takes, long_address_takes}
use Rattle.speedy_write.proofs.addresses.IpAddrShort.size.Goals as goal

pub returns-in-V4-clause-takes : goal.returns-in-V4-clause-takes
returns-in-V4-clause-takes c mode =
    subst (λ address. HasSize (ip_address mode).writes (ip_octets address) 5) (sym c.in-V4.is)
    (short_address_takes mode _ c.encode-code.result c.encode-code.type_inv c.encode-code.ensures)

pub returns-in-V6-clause-takes : goal.returns-in-V6-clause-takes
returns-in-V6-clause-takes c mode =
    subst (λ address. HasSize (ip_address mode).writes (ip_octets address) 17) (sym c.in-V6.is)
    (long_address_takes mode _ c.encode-code-in-V6.result c.encode-code-in-V6.type_inv c.encode-code-in-V6.ensures)
