use Rattle.std.proofs.Common.{◌∙◌, ap, sym, refl, List, ℕ}
use Rattle.std.specs.Borrow.{Bor}
use Rattle.std.proofs.lemmas.Bool.{true≢false}
use Rattle.std.proofs.lemmas.List.{map-id}
use Rattle.speedy_read.specs.Codes.{refused_covered}
use Rattle.speedy_read.proofs.FrameLemmas.{bytes_cover_filling, vector_refused, bytes_of_vector}
use Rattle.speedy_read.proofs.FrameLemmas.{frame_filled, context_back}
use Rattle.speedy_read.proofs.LentLemmas.{lends_nothing, slices_show}
use Rattle.speedy_read.proofs.frames.AnyReadFramedRefSliceU8.read_framed.Goals as goal

pub returns-in_err-bytes-in-Some : goal.returns-in_err-bytes-in-Some
returns-in_err-bytes-in-Some g c =
    refused_covered
    (bytes_cover_filling _ (g.T.Whole.whole.format (g.R.LendingReader.state c.args.reader.now).mode) _ _)
    c.from_residual.ensures.1 (rw c.in_err-bytes-in-Some.was at c.in-Some.ensures.1)

pub returns-in_err-bytes-in-None : goal.returns-in_err-bytes-in-None
returns-in_err-bytes-in-None g c =
    vector_refused _ (g.T.Whole.whole.format (g.R.LendingReader.state c.args.reader.now).mode) _ _
    c.from_residual-in_err-bytes-in-None.ensures.1 (rw c.in-None.ensures.1 at c.in_err-bytes-in-None.ensures.reads)

pub returns-in_ok-bytes-in-Some : goal.returns-in_ok-bytes-in-Some
returns-in_ok-bytes-in-Some g c =
    let keeps = c.keeps_context.ensures in
    let reader = c.read_bytes_borrowed.new.self in
    let value = c.context_mut.ensures.value in
    let same = context_back g.R.LendingReader.with_context g.R.LendingReader.at g.C.Context.mode keeps.at
    keeps.with_another reader _ _ _ value c.fill_lent.ensures.mode refl in
    frame_filled g.T.Whole.whole.format g.T.Whole.whole.misfits g.T.Whole.whole.laws _
    (λ never. absurd (true≢false never))
    (rw c.in_ok-bytes-in-Some.was at c.in-Some.ensures.1)
    (ap g.C.Context.mode value ∙ sym (keeps.at reader)) same c.fill_lent.ensures.fills

pub returns-in_ok-bytes-in-None : goal.returns-in_ok-bytes-in-None
returns-in_ok-bytes-in-None g c =
    let keeps = c.keeps_context.ensures in
    let none = c.in-None.ensures in
    let reader = c.read_vec.new.self in
    let value = c.context_mut-in-None.ensures.value in
    let same = context_back g.R.LendingReader.with_context g.R.LendingReader.at g.C.Context.mode keeps.at
    keeps.with_another reader _ _ _ value c.fill_copied.ensures.mode refl in
    let shown : Bor (List ℕ) → List ℕ = λ b. b.now in
    frame_filled g.T.Whole.whole.format g.T.Whole.whole.misfits g.T.Whole.whole.laws _
    (λ _. lends_nothing _ (λ lends. slices_show (none.0 lends)))
    (bytes_of_vector {shown = shown} {y = c.deref.result} _ _ (c.deref.ensures.value ∙ sym (map-id _))
    (rw none.1 at c.in_ok-bytes-in-None.ensures.reads))
    (ap g.C.Context.mode value ∙ sym (keeps.at reader)) same c.fill_copied.ensures.fills
