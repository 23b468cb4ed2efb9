use Rattle.std.proofs.Common.{◌∙◌, ◌++◌, [], refl, sym}
use Rattle.std.proofs.lemmas.List.{append_assoc}
use Rattle.speedy_write.proofs.ListLemmas.{no_items_written, cut_off, values_written, values_refused}
use Rattle.speedy_write.proofs.fixed.write_chunks.Goals as goal

pub loop-rest-init : goal.loop-rest-init
loop-rest-init g c = ([], refl, no_items_written g.T.Layout.layout.format g.T.Layout.seen (g.met.W.Writer.nothing _))

pub loop-rest-preserved : goal.loop-rest-preserved
loop-rest-preserved g c =
    let done = c.loop-rest.invariant.0 in
    let some = c.split_at.result.0.now in (
      done ++ some,
      cut_off _ done _ c.split_at.ensures.front c.split_at.ensures.back c.loop-rest.invariant.1
          ∙ sym (append_assoc done some c.split_at.result.1.now),
      values_written g.T.Layout.layout.laws g.T.Layout.seen some c.endianness.ensures c.put_values.ensures
          (g.met.W.Writer.additive _ _ _) done c.loop-rest.invariant.2 c.in_ok-write_bytes_before.ensures.writes,
    )

pub returns-in_err-write_bytes_before : goal.returns-in_err-write_bytes_before
returns-in_err-write_bytes_before g c =
    values_refused g.T.Layout.layout.laws g.T.Layout.seen c.split_at.result.0.now c.endianness.ensures
    c.put_values.ensures (g.met.W.Writer.additive _ _ _) c.loop-rest.invariant.0 c.loop-rest.invariant.2
    _ (cut_off _ c.loop-rest.invariant.0 _ c.split_at.ensures.front c.split_at.ensures.back c.loop-rest.invariant.1)
    c.from_residual.ensures.1 c.in_err-write_bytes_before.ensures.writes
