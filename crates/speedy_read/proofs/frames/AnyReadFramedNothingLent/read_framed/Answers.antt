use Rattle.std.proofs.Common.{◌∙◌, ap, sym, refl, List, ℕ}
use Rattle.std.specs.Borrow.{Bor}
use Rattle.std.proofs.lemmas.Bool.{true≢false}
use Rattle.std.proofs.lemmas.List.{map-id}
use Rattle.speedy_read.proofs.FrameLemmas.{vector_refused, bytes_of_vector, frame_filled, context_back}
use Rattle.speedy_read.proofs.frames.AnyReadFramedNothingLent.read_framed.Goals as goal

pub returns-in_err-bytes : goal.returns-in_err-bytes
returns-in_err-bytes g c =
    vector_refused _ (g.T.Whole.whole.format (g.R.LendingReader.state c.args.reader.now).mode) _ _
    c.from_residual.ensures.1 c.in_err-bytes.ensures.reads

pub returns : goal.returns
returns g c =
    let R = g.met.R.LendingReader in
    let reader = c.read_vec.new.self in
    let value = c.context_mut.ensures.value in
    let same = context_back g.R.LendingReader.with_context g.R.LendingReader.at g.C.Context.mode R.mode_at
    R.state_with reader _ _ _ value c.fill_owned.ensures.mode refl in
    let shown : Bor (List ℕ) → List ℕ = λ b. b.now in
    frame_filled g.T.Whole.whole.format g.T.Whole.whole.misfits g.T.Whole.whole.laws _
    (λ never. absurd (true≢false never))
    (bytes_of_vector {shown = shown} {y = c.deref.result} _ _ (c.deref.ensures.value ∙ sym (map-id _))
    c.in_ok-bytes.ensures.reads)
    (ap g.C.Context.mode value ∙ sym (R.mode_at reader)) same c.fill_owned.ensures.fills
