use Rattle.std.proofs.Common.{◌≤◌, ◌*◌, ◌∙◌, ◌++◌, ℕ, length, sym, ap, arith, length-take-le}
use Rattle.std.proofs.lemmas.Grind.{common_steps}
use Rattle.std.proofs.lemmas.Bool.{eqb-true}
use Rattle.std.proofs.lemmas.List.{append_assoc}
use borrow.Rule.Slice.PartMut.{same_len_mid}
use Rattle.speedy_write.proofs.FixedLemmas.{chunk_put, all_chunks_put, chunk_ends}
use Rattle.speedy_write.proofs.ListLemmas.{cut_off}
use Rattle.speedy_write.proofs.fixed.put_by_chunks.Goals as goal

pub loop-rest-preserved : goal.loop-rest-preserved
loop-rest-preserved g c =
    let before = c.loop-rest.invariant in
    let done = before.1 in
    let some = c.split_at.result.0.now in
    let put_length = c.put_values.auto.output in
    let prefix_length = c.split_at.ensures.front_len in
    let back_length = c.split_at.ensures.back_len in
    let few = c.has_few_bytes.ensures in
    let fits : length some * c.BYTES-in-loop-rest.result ≤ length c.loop-rest.chunk = grind (
      arith,
      common_steps,
      c.BYTES-in-loop-rest.array_long,
      c.min.ensures,
      prefix_length,
      c.BYTES.ensures,
      c.BYTES-in-loop-rest.ensures,
      few,
    ) in (
      chunk_ends c.loop-rest.at (length c.loop-rest.rest.now) (length some) (length c.split_at.result.1.now)
          g.P.FixedBytes.BYTES (length c.put_values.new.output) (length c.loop-rest.output) before.0
          (omega (arith, prefix_length, back_length))
          (put_length ∙ (length-take-le _ _ fits ∙ ap (λ (n : ℕ). length some * n) c.BYTES-in-loop-rest.ensures))
          ∙ sym (same_len_mid _ _ _ _ c.copy_from_slice.ensures.len),
      done ++ some,
      cut_off _ done _ c.split_at.ensures.front c.split_at.ensures.back before.2
          ∙ sym (append_assoc done some c.split_at.result.1.now),
      λ e same. chunk_put (g.T.Layout.layout.format e).writes g.T.Layout.seen done some c.loop-rest.at _
          c.loop-rest.output c.put_values.new.output c.copy_from_slice.new.self c.copy_from_slice.ensures.after
          (omega (arith, before.0)) (before.3 e same) (c.put_values.ensures e same),
    )

pub returns : goal.returns
returns g c e same =
    let before = c.loop-rest.invariant in
    all_chunks_put (g.T.Layout.layout.format e).writes g.T.Layout.seen c.args.values.now before.1 c.loop-rest.rest.now
    c.loop-rest.at g.P.FixedBytes.BYTES c.loop-rest.output (eqb-true _ _ (sym c.loop-rest-test.ensures)) before.0
    before.2 (before.3 e same)
