use Rattle.std.proofs.Common.{refl, sym, subst, ◌∙◌, inl, inr}
use Rattle.speedy_base.specs.declared.error.ErrorKind.TheVariants as kinds
use Rattle.speedy_layout.specs.Encoding.{length_encoded}
use Rattle.speedy_layout.specs.Lengths.{told_codec, with_length_codec, untold_undecodable, other_length_undecodable}
use Rattle.speedy_write.specs.Codes.{encoded_written}
use Rattle.speedy_write.specs.Sequences.{is_sequence, first_refused, second_written}
use Rattle.speedy_write.proofs.LengthLemmas.{told_length_written, other_length_named}
use Rattle.speedy_write.proofs.NumberLemmas.{undecodable_refused}
use Rattle.speedy_write.proofs.lengths.WithLengthWritable.write_to.Goals as goal

pub returns-in_default : goal.returns-in_default
returns-in_default g c =
    let K = g.K.Length in
    let B = g.B.Holds in
    let whole = with_length_codec K.is_told K.told B.numbers K.field B.layout g.T.OfLength.counting in
    undecodable_refused {F = whole.format} (whole.laws _)
    (untold_undecodable K.is_told K.told B.numbers K.field B.layout g.T.OfLength.counting _ _ _
    (λ h. c.in_default.ensures (subst K.is_told (sym c.numbers.ensures) h)))
    (inl c.error_out_of_range_length.ensures) (g.met.W.Writer.nothing _)

pub returns-then-length-told : goal.returns-then-length-told
returns-then-length-told g c =
    let K = g.K.Length in
    let B = g.B.Holds in
    let whole = with_length_codec K.is_told K.told B.numbers K.field B.layout g.T.OfLength.counting in
    undecodable_refused {F = whole.format} (whole.laws _)
    (other_length_undecodable K.is_told K.told B.numbers K.field B.layout g.T.OfLength.counting _ _ _
    (λ e. c.if-length-told.true (c.length-2.ensures ∙ (e ∙ sym (rw c.numbers.ensures at c.in-Some.ensures.1)))))
    (inr (other_length_named g.C.Error.From.from_gives K.is_told K.told B.numbers K.field B.layout
    g.T.OfLength.counting _ (B.seen c.args.self.now.before) (kinds.LengthIsNotTheSameAsLengthAttribute c.field.result)
    c.field.ensures c.error_length_is_not_the_same_as_length_attribute.ensures)) (g.met.W.Writer.nothing _)

pub returns-in_err-write_parts : goal.returns-in_err-write_parts
returns-in_err-write_parts g c =
    let K = g.K.Length in
    let B = g.B.Holds in
    first_refused is_sequence refl c.from_residual.ensures.1
    (encoded_written (length_encoded (λ b. K.is_told (B.numbers b)) B.layout refl
    (subst K.is_told c.numbers.ensures c.in-Some.ensures.0)) c.in_err-write_parts.ensures)

pub returns : goal.returns
returns g c =
    let K = g.K.Length in
    let B = g.B.Holds in
    let same = sym c.length-2.ensures ∙ (c.if-length-told.false ∙ rw c.numbers.ensures at c.in-Some.ensures.1) in
    second_written is_sequence refl (told_codec K.is_told B.numbers B.layout).laws
    (g.met.W.Writer.additive _ _ _)
    (encoded_written (length_encoded (λ b. K.is_told (B.numbers b)) B.layout refl
    (subst K.is_told c.numbers.ensures c.in-Some.ensures.0)) c.in_ok-write_parts.ensures)
    (told_length_written K.field (rw same at c.write_of_length.ensures))
