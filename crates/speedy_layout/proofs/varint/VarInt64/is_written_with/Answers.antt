use Rattle.std.proofs.Common.{subst}
use Rattle.std.proofs.lemmas.Bool.{eqb-true, eq-eqb}
use Rattle.speedy_layout.specs.Varint.{IsFewest, IsFewest-same}
use Rattle.speedy_layout.specs.Zigzag.{varint_number}
use Rattle.speedy_layout.proofs.varint.VarInt64.is_written_with.Goals as goal

pub returns : goal.returns
returns c =
    let n = varint_number c.args.self in
    let own = c.more_bytes.ensures in (
      λ h. subst (λ k. IsFewest k n) (eqb-true _ _ h) own,
      λ h. eq-eqb _ _ (IsFewest-same c.more_bytes.result c.args.more n own h),
    )
