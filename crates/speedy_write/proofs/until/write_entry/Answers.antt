use Rattle.std.proofs.Common.{◌≢◌, refl, inl}
use Rattle.speedy_base.specs.declared.error.ErrorKind.TheVariants as kinds
use Rattle.speedy_layout.specs.Encoding.{subset_encoded}
use Rattle.speedy_layout.specs.Until.{entry_codec, not_mark}
use Rattle.speedy_write.specs.Codes.{encoded_written}
use Rattle.speedy_write.specs.Sequences.{is_sequence, first_refused, second_written}
use Rattle.speedy_write.proofs.NumberLemmas.{undecodable_refused}
use Rattle.speedy_write.proofs.UntilLemmas.{mark_undecodable}
use Rattle.speedy_write.proofs.until.write_entry.Goals as goal

pub returns-then-number : goal.returns-then-number
returns-then-number g c =
    let entry = entry_codec g.N.Prefix.numbers.codec g.row.MARK g.T.Layout.layout in
    undecodable_refused {F = entry.format} (entry.laws _)
    (λ b h. mark_undecodable g.N.Prefix.numbers g.row.MARK g.T.Layout.layout _ _ _ b c.if-number.true h)
    (inl c.error_out_of_range_length.ensures) (g.met.W.Writer.nothing _)

pub returns-in_err-write_number : goal.returns-in_err-write_number
returns-in_err-write_number g c =
    first_refused is_sequence refl c.from_residual.ensures.1
    (encoded_written (subset_encoded (λ n. n ≢ g.row.MARK) kinds.OutOfRangeLength tt g.N.Prefix.numbers.codec refl
    c.if-number.false) c.in_err-write_number.ensures)

pub returns : goal.returns
returns g c =
    let numbers = g.N.Prefix.numbers.codec in
    second_written is_sequence refl (not_mark numbers g.row.MARK).laws (g.met.W.Writer.additive _ _ _)
    (encoded_written (subset_encoded (λ n. n ≢ g.row.MARK) kinds.OutOfRangeLength tt numbers refl
    c.if-number.false) c.in_ok-write_number.ensures) c.write_to.ensures
