use Rattle.std.proofs.Common.{◌∙◌, [], ap, arith, length, subst, sym, refl, false}
use Rattle.std.proofs.lemmas.List.{append-nil, length-append}
use Rattle.speedy.specs.Digits.{AreBytes}
use Rattle.speedy.specs.DigitsLemmas.{AreBytes-slice, AreBytes-append_parts}
use Rattle.speedy.specs.Mode.{plain_mode}
use Rattle.speedy.specs.Error.{passed_on}
use Rattle.speedy.specs.declared.endianness.Endianness.TheVariants.{LittleEndian}
use Rattle.speedy_examples.proofs.Messages.{message_lends_nothing}
use Rattle.speedy_examples.proofs.StreamLemmas.{wants_memory}
use Rattle.speedy_examples.proofs.streams.two_messages.Goals as goal

pub returns-clause-same : goal.returns-clause-same
returns-clause-same c = λ v w prefix suffix first second whole.
    let one = c.written_is_streamed.ensures (plain_mode LittleEndian) v prefix suffix false _ _ _ first refl whole
    c.in_ok-first.ensures in
    let two = c.written_is_streamed.ensures (plain_mode LittleEndian) w suffix [] false _ _ _ second refl
    (one.rest_is refl ∙ sym (append-nil suffix)) c.in_ok-second.ensures in
    (one.same, two.same)

pub returns-in_err-first-clause-refused : goal.returns-in_err-first-clause-refused
returns-in_err-first-clause-refused c = λ v w prefix suffix first second whole.
    let one = c.written_is_streamed.ensures (plain_mode LittleEndian) v prefix suffix false _ _ _ first refl whole
    c.in_err-first.ensures in
    rw (← passed_on _ _ c.from_residual.ensures.1)
    (wants_memory (one.refused (AreBytes-slice _ c.type_inv.bytes) (omega arith) (message_lends_nothing _)))

pub returns-in_err-second-clause-refused : goal.returns-in_err-second-clause-refused
returns-in_err-second-clause-refused c = λ v w prefix suffix first second whole.
    let one = c.written_is_streamed.ensures (plain_mode LittleEndian) v prefix suffix false _ _ _ first refl whole
    c.in_ok-first.ensures in
    let two = c.written_is_streamed.ensures (plain_mode LittleEndian) w suffix [] false _ _ _ second refl
    (one.rest_is refl ∙ sym (append-nil suffix)) c.in_err-second.ensures in
    let left = one.rest_is refl in
    let are_bytes = (AreBytes-append_parts prefix suffix (subst AreBytes whole (AreBytes-slice _ c.type_inv.bytes))).1
    in
    let sizes = ap length whole ∙ length-append prefix suffix in
    let size = ap length left in
    rw (← passed_on _ _ c.from_residual-in_err-second.ensures.1)
    (wants_memory (two.refused (rw left are_bytes) (omega arith) (message_lends_nothing _)))
