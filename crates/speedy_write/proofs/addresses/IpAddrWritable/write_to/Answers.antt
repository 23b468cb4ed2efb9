use Rattle.std.proofs.Common.{refl, ap}
use Rattle.speedy_layout.specs.Addresses.{address_tag_is_code, address_tag, ip_octets, ip_parts}
use Rattle.speedy_layout.specs.Encoding.{number_encoded}
use Rattle.speedy_write.specs.Codes.{encoded_written}
use Rattle.speedy_write.specs.Sequences.{is_sequence, first_refused, second_written}
use Rattle.speedy_write.proofs.addresses.IpAddrWritable.write_to.Goals as goal

pub returns-in_err-write_u8-in-V4 : goal.returns-in_err-write_u8-in-V4
returns-in_err-write_u8-in-V4 g c =
    first_refused is_sequence (ap (λ a. ip_parts (ip_octets a)) c.in-V4.is) c.from_residual.ensures.1
    (encoded_written (number_encoded 1 _ address_tag_is_code refl) c.in_err-write_u8-in-V4.ensures.writes)

pub returns-in_ok-write_u8-in-V4 : goal.returns-in_ok-write_u8-in-V4
returns-in_ok-write_u8-in-V4 g c =
    second_written is_sequence (ap (λ a. ip_parts (ip_octets a)) c.in-V4.is) address_tag.laws
    (g.met.W.Writer.additive _ _ _)
    (encoded_written (number_encoded 1 _ address_tag_is_code refl) c.in_ok-write_u8-in-V4.ensures.writes)
    c.write_value.ensures

pub returns-in_err-write_u8-in-V6 : goal.returns-in_err-write_u8-in-V6
returns-in_err-write_u8-in-V6 g c =
    first_refused is_sequence (ap (λ a. ip_parts (ip_octets a)) c.in-V6.is)
    c.from_residual-in_err-write_u8-in-V6.ensures.1
    (encoded_written (number_encoded 1 _ address_tag_is_code refl) c.in_err-write_u8-in-V6.ensures.writes)

pub returns-in_ok-write_u8-in-V6 : goal.returns-in_ok-write_u8-in-V6
returns-in_ok-write_u8-in-V6 g c =
    second_written is_sequence (ap (λ a. ip_parts (ip_octets a)) c.in-V6.is) address_tag.laws
    (g.met.W.Writer.additive _ _ _)
    (encoded_written (number_encoded 1 _ address_tag_is_code refl) c.in_ok-write_u8-in-V6.ensures.writes)
    c.write_value-in-V6.ensures
