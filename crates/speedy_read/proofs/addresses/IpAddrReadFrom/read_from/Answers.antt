use Rattle.std.proofs.Common.{◌≡◌, ℕ, Bool, true, false, refl, arith}
use Rattle.speedy_base.specs.declared.error.ErrorKind.TheVariants as kinds
use Rattle.speedy_layout.specs.Numbers.{unsigned_number_laws}
use Rattle.speedy_layout.specs.Addresses.{address_tag_number, address_tag_code, address_tag}
use Rattle.speedy_read.specs.Sequences.{refused_first, refused_second, got_both}
use Rattle.speedy_read.specs.Codes.{code_refused, exact_code_read, code_means_nothing}
use Rattle.speedy_read.proofs.AddressLemmas.{ip_address_composes}
use Rattle.speedy_read.proofs.addresses.IpAddrReadFrom.read_from.Goals as goal

neither : (n : ℕ) (is_long : Bool) → n ≡ address_tag_number is_long → (n ≡ 0 → ⊥) → (n ≡ 1 → ⊥) → ⊥
neither n true e h k = k e
neither n false e h k = h e

pub returns-in_err-tag : goal.returns-in_err-tag
returns-in_err-tag g c =
    refused_first (ip_address_composes _) {seen = λ (b : Bool). b} c.from_residual.ensures.1
    (code_refused _ address_tag_code refl c.in_err-tag.ensures)

pub returns-in_default : goal.returns-in_default
returns-in_default g c =
    refused_first (ip_address_composes _) {seen = λ (b : Bool). b} refl
    (code_means_nothing _ address_tag_code (unsigned_number_laws 1 _) (λ _ h. h)
    (λ is_long h. neither _ is_long h (λ e. omega arith) (λ e. omega arith))
    (kinds.InvalidEnumVariant, refl, c.error_invalid_enum_variant.ensures) c.in_ok-tag.ensures)

pub returns-in_err-short-in-0 : goal.returns-in_err-short-in-0
returns-in_err-short-in-0 g c =
    let tag = exact_code_read _ _ _ {seen' = λ (b : Bool). b} {y = false} c.in-0.is c.in_ok-tag.ensures in
    refused_second (ip_address_composes _) (address_tag.laws _) tag c.from_residual-in_err-short-in-0.ensures.1
    (rw tag.kept.mode at c.in_err-short-in-0.ensures)

pub returns-in_ok-short-in-0 : goal.returns-in_ok-short-in-0
returns-in_ok-short-in-0 g c =
    let tag = exact_code_read _ _ _ {seen' = λ (b : Bool). b} {y = false} c.in-0.is c.in_ok-tag.ensures in
    got_both (ip_address_composes _) tag (rw tag.kept.mode at c.in_ok-short-in-0.ensures) refl

pub returns-in_err-long-in-1 : goal.returns-in_err-long-in-1
returns-in_err-long-in-1 g c =
    let tag = exact_code_read _ _ _ {seen' = λ (b : Bool). b} {y = true} c.in-1.is c.in_ok-tag.ensures in
    refused_second (ip_address_composes _) (address_tag.laws _) tag c.from_residual-in_err-long-in-1.ensures.1
    (rw tag.kept.mode at c.in_err-long-in-1.ensures)

pub returns-in_ok-long-in-1 : goal.returns-in_ok-long-in-1
returns-in_ok-long-in-1 g c =
    let tag = exact_code_read _ _ _ {seen' = λ (b : Bool). b} {y = true} c.in-1.is c.in_ok-tag.ensures in
    got_both (ip_address_composes _) tag (rw tag.kept.mode at c.in_ok-long-in-1.ensures) refl
