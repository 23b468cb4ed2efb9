use Rattle.std.proofs.Common.{refl, sym, ap, ◌∙◌}
use Rattle.speedy_read.specs.Codes.{refused_covered}
use Rattle.speedy_read.proofs.FrameLemmas.{context_back}
use Rattle.speedy.proofs.ToldFrameLemmas.{counted_at, filling_covers, filling_needs, told_frame_read, told_frame_unread}
use Rattle.speedy.proofs.told_frames.read_told_frame.Goals as goal

pub returns-in_err-value : goal.returns-in_err-value
returns-in_err-value g c =
    refused_covered (filling_covers _ _ (g.T.Whole.whole.laws _) _) c.from_residual.ensures.1 c.in_err-value.ensures

pub returns-in_err-written : goal.returns-in_err-written
returns-in_err-written g c =
    let mode = ap g.C.Context.mode c.context_mut.ensures.value
    ∙ (sym (g.met.R.LendingReader.mode_at c.read_framed.new.reader) ∙ c.in_ok-value.ensures.kept.mode) in
    absurd (filling_needs _ (g.T.Whole.whole.laws _) _
    (counted_at g.T.Whole.whole mode c.in_err-written.ensures.needs) c.in_ok-value.ensures)

pub returns-then-written-length : goal.returns-then-written-length
returns-then-written-length g c =
    let R = g.met.R.LendingReader in
    let reader = c.read_framed.new.reader in
    let value = c.context_mut.ensures.value in
    let mode = ap g.C.Context.mode value ∙ (sym (R.mode_at reader) ∙ c.in_ok-value.ensures.kept.mode) in
    let stays = context_back g.R.LendingReader.with_context g.R.LendingReader.at g.C.Context.mode R.mode_at
    R.state_with reader _ _ _ value c.in_ok-written.ensures.mode refl in
    told_frame_unread _ (g.T.Whole.whole.laws _) _ (counted_at g.T.Whole.whole mode c.in_ok-written.ensures.needs)
    c.if-written-length.true stays c.error_out_of_range_length.ensures c.in_ok-value.ensures

pub returns : goal.returns
returns g c =
    let R = g.met.R.LendingReader in
    let reader = c.read_framed.new.reader in
    let value = c.context_mut.ensures.value in
    let mode = ap g.C.Context.mode value ∙ (sym (R.mode_at reader) ∙ c.in_ok-value.ensures.kept.mode) in
    let stays = context_back g.R.LendingReader.with_context g.R.LendingReader.at g.C.Context.mode R.mode_at
    R.state_with reader _ _ _ value c.in_ok-written.ensures.mode refl in
    told_frame_read _ (g.T.Whole.whole.laws _) _ (counted_at g.T.Whole.whole mode c.in_ok-written.ensures.needs)
    c.if-written-length.false stays c.in_ok-value.ensures
