use Rattle.std.proofs.Common.{refl, sym, subst, ◌∙◌, inl}
use Rattle.speedy_base.specs.declared.error.ErrorKind.TheVariants as kinds
use Rattle.speedy_layout.specs.Encoding.{length_encoded}
use Rattle.speedy_layout.specs.Lengths.{told_codec}
use Rattle.speedy_write.specs.Codes.{encoded_written}
use Rattle.speedy_write.specs.Sequences.{is_sequence, first_refused, second_written, Writes-from}
use Rattle.speedy_write.proofs.CountLemmas.{context_back}
use Rattle.speedy_write.proofs.NumberLemmas.{undecodable_refused}
use Rattle.speedy.specs.ToldFrames.{with_frame_codec}
use Rattle.speedy.proofs.ToldFrameLemmas.{counted_at, told_frame_written, untold_undecodable, other_named}
use Rattle.speedy.proofs.ToldFrameLemmas.{uncounted_refused, other_refused}
use Rattle.speedy.proofs.told_frames.WithFrameWritable.write_to.Goals as goal

pub returns-in_default : goal.returns-in_default
returns-in_default g c =
    let K = g.K.Length in
    let B = g.B.Holds in
    let whole = with_frame_codec K.is_told K.told B.numbers K.field B.layout g.T.Whole.whole in
    undecodable_refused {F = whole.format} (whole.laws _)
    (untold_undecodable K.is_told K.told B.numbers K.field B.layout g.T.Whole.whole _ _ _
    (λ h. c.in_default.ensures (subst K.is_told (sym c.numbers.ensures) h)))
    (inl c.error_out_of_range_length.ensures) (g.met.W.Writer.nothing _)

pub returns-in_err-length : goal.returns-in_err-length
returns-in_err-length g c =
    let K = g.K.Length in
    let B = g.B.Holds in
    let W = g.met.W.Writer in
    let suffix = context_back g.W.Writer.at g.C.Context.mode W.mode_at W.state_with W.nothing W.additive
    W.appends_with c.args.writer.now _ _ _ c.context_mut.ensures.value c.in_err-length.ensures.mode refl in
    Writes-from suffix.0.state_is (λ b. suffix.0.joins b _)
    (uncounted_refused K.is_told K.told B.numbers K.field B.layout g.T.Whole.whole c.from_residual.ensures.1
    (counted_at g.T.Whole.whole suffix.1 c.in_err-length.ensures.needs) (W.nothing _))

pub returns-then-length-told : goal.returns-then-length-told
returns-then-length-told g c =
    let K = g.K.Length in
    let B = g.B.Holds in
    let W = g.met.W.Writer in
    let suffix = context_back g.W.Writer.at g.C.Context.mode W.mode_at W.state_with W.nothing W.additive
    W.appends_with c.args.writer.now _ _ _ c.context_mut.ensures.value c.in_ok-length.ensures.mode refl in
    Writes-from suffix.0.state_is (λ b. suffix.0.joins b _)
    (other_refused K.is_told K.told B.numbers K.field B.layout g.T.Whole.whole
    (counted_at g.T.Whole.whole suffix.1 c.in_ok-length.ensures.needs)
    (λ e. c.if-length-told.true (e ∙ sym (rw c.numbers.ensures at c.in-Some.ensures.1)))
    (other_named K.is_told K.told B.numbers K.field B.layout g.T.Whole.whole g.C.Error.From.from_gives _
    (B.seen c.args.self.now.before) (kinds.LengthIsNotTheSameAsLengthAttribute c.field.result)
    c.field.ensures c.error_length_is_not_the_same_as_length_attribute.ensures) (W.nothing _))

pub returns-in_err-write_parts : goal.returns-in_err-write_parts
returns-in_err-write_parts g c =
    let K = g.K.Length in
    let B = g.B.Holds in
    let W = g.met.W.Writer in
    let suffix = context_back g.W.Writer.at g.C.Context.mode W.mode_at W.state_with W.nothing W.additive
    W.appends_with c.args.writer.now _ _ _ c.context_mut.ensures.value c.in_ok-length.ensures.mode refl in
    Writes-from suffix.0.state_is (λ b. suffix.0.joins b _)
    (first_refused is_sequence refl c.from_residual-in_err-write_parts.ensures.1
    (encoded_written (length_encoded (λ b. K.is_told (B.numbers b)) B.layout refl
    (subst K.is_told c.numbers.ensures c.in-Some.ensures.0)) c.in_err-write_parts.ensures))

pub returns : goal.returns
returns g c =
    let K = g.K.Length in
    let B = g.B.Holds in
    let W = g.met.W.Writer in
    let suffix = context_back g.W.Writer.at g.C.Context.mode W.mode_at W.state_with W.nothing W.additive
    W.appends_with c.args.writer.now _ _ _ c.context_mut.ensures.value c.in_ok-length.ensures.mode refl in
    let mode = suffix.1 ∙ sym c.in_ok-write_parts.ensures.kept.mode in
    let same = c.if-length-told.false ∙ rw c.numbers.ensures at c.in-Some.ensures.1 in
    Writes-from suffix.0.state_is (λ b. suffix.0.joins b _)
    (second_written is_sequence refl (told_codec K.is_told B.numbers B.layout).laws (W.additive _ _ _)
    (encoded_written (length_encoded (λ b. K.is_told (B.numbers b)) B.layout refl
    (subst K.is_told c.numbers.ensures c.in-Some.ensures.0)) c.in_ok-write_parts.ensures)
    (told_frame_written g.T.Whole.whole K.field
    (counted_at g.T.Whole.whole mode c.in_ok-length.ensures.needs) same c.write_counted_value.ensures))
