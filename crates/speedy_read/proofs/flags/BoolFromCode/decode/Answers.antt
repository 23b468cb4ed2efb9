use Rattle.std.specs.Prelude.{◌≡◌, IsTrue, not, nat_eq}
use Rattle.speedy_layout.specs.Flags.{flag_code, flag_is_code, flag_reads_wider, written_flag}
use Rattle.speedy_read.specs.Decoding.{decoded_as, not_chosen}
use Rattle.speedy_read.specs.Flags.{number_is_flag, number_is_written_flag, not_written_flag}
use Rattle.speedy_read.proofs.flags.BoolFromCode.decode.Given.{Over}
use Rattle.speedy_read.proofs.flags.BoolFromCode.decode.Goals as goal
use Rattle.speedy_read.proofs.flags.BoolFromCode.decode.Goals.{
  else-not-is_written-via-then-not-is_written+else-demands_written_form,
}
use Rattle.speedy_read.proofs.flags.BoolFromCode.decode.Goals.{else-not-is_written-via-else-not-is_written}

pub returns-then-demands_written_form : goal.returns-then-demands_written_form
returns-then-demands_written_form g c =
    not_chosen flag_code _ flag_is_code flag_reads_wider c.if-demands_written_form.true
    (λ b. not_written_flag _ b c.if-not-is_written.true) c.error_not_written_form.ensures

is_written : (g : Over) (c : goal.Joined-else-not-is_written g) → IsTrue c.args.demands_written_form
    → c.args.code ≡ written_flag (not (nat_eq c.args.code 0))
is_written g c strict =
    elim c.else-not-is_written.branch [
      | else-not-is_written-via-then-not-is_written+else-demands_written_form w ↦
          let demanded = w.if-demands_written_form.false in absurd (cc)
      | else-not-is_written-via-else-not-is_written w ↦ number_is_written_flag _ w.if-not-is_written.false
    ]

pub returns : goal.returns
returns g c = decoded_as flag_code _ flag_is_code (number_is_flag _) (is_written g c)
