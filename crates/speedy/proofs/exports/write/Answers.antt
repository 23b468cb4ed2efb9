use Rattle.std.proofs.Common.{rules, sym, ◌∙◌, subst, inl}
use Rattle.speedy_base.specs.Mode.{plain_mode}
use Rattle.speedy.specs.Exports.{WritesShown}
use Rattle.speedy.proofs.ExportLemmas.{same_order}
use Rattle.speedy.proofs.exports.write.Goals as goal

pub returns : goal.returns
returns g c =
    let number = (c.order_of.ensures.known c.in-Some.order).0 c.in-Some.is in
    record {
      unknown = search rules;
      kept = search rules;
      told = search rules;
      known = λ it h. subst (λ order. WritesShown g.T.Layout.seen g.V.View.shows
          (g.T.Layout.layout.format (plain_mode order)) c.args.view.now
          (c.kind_number-in-Err-write_to_buffer_with_ctx).result c.in-Ok-bytes_needed.needed c.args.buffer.now
          (c.write_to_buffer_with_ctx).new.buffer)
          (same_order c.in-Some.order it (sym number ∙ h))
          (inl (
            c.in-Ok.value,
            c.in-Ok.ensures.0,
            c.in-Ok.ensures.1,
            record { written = search rules; fits = search rules; short = search rules; too_short = search rules },
          ));
    }
