use Rattle.std.proofs.Common.{◌≡◌, arith, sym, ◌∙◌, ap, subst}
use Rattle.std.specs.Net.Addr.{octets_of, ipv6_octets}
use Rattle.speedy_base.specs.declared.endianness.Endianness.TheVariants.{BigEndian}
use Rattle.speedy_base.specs.Digits.{EncodesNumber}
use Rattle.speedy_layout.specs.Addresses.{octets_of-segments_of}
use Rattle.speedy_read.specs.Decoding.{decoded_exactly}
use Rattle.speedy_read.proofs.addresses.Ipv6AddrFromCode.decode.Goals as goal

pub returns : goal.returns
returns g c =
    let put = c.encode.ensures in
    let octets : EncodesNumber 16 BigEndian c.args.code c.encode.new.output =
    record { width_is = omega arith; are_bytes = put.bytes; value_is = put.number } in
    let same : ipv6_octets c.from.result ≡ c.encode.new.output =
    ap octets_of c.from.ensures ∙ octets_of-segments_of 8 c.encode.new.output octets.width_is octets.are_bytes in
    decoded_exactly _ _ _ _ (subst (EncodesNumber 16 BigEndian c.args.code) (sym same) octets)
