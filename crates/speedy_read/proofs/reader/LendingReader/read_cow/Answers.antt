use Rattle.std.proofs.Common.{ℕ, ◌*◌, ◌<◌, length, subst}
use Rattle.speedy_read.specs.ReadingLemmas.{ends_input}
use Rattle.speedy_read.proofs.ListLemmas.{refused_early}
use Rattle.speedy_read.proofs.reader.LendingReader.read_cow.Goals as goal

pub returns-then-ends_before-clause-reads : goal.returns-then-ends_before-clause-reads
returns-then-ends_before-clause-reads g c =
    let old = g.Self.LendingReader.state c.args.self.now in
    refused_early (g.T.Layout.layout.laws old.mode) _
    (ends_input g.met.C.Context.keeps_eof c.error_end_of_input.ensures)
    (λ told fit. subst (λ (least : ℕ). length old.remaining < c.args.length * least)
    c.minimum_bytes_needed-least.ensures
    (c.ends_before.ensures.fewer c.if-ends_before.true told fit))
