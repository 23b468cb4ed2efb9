use Rattle.std.proofs.Common.{true, false, refl}
use Rattle.speedy_base.specs.Mode.{plain_mode, strict_mode}
use Rattle.speedy_layout.proofs.laws.strict_is_canonical.Goals as goal

pub returns-clause-writes : goal.returns-clause-writes
returns-clause-writes g c order v bytes =
    let layout = g.T.Layout.layout in (
      (layout.same_written (strict_mode order) false).too v bytes,
      (layout.same_written (plain_mode order) true).too v bytes,
    )

-- what a strict context decodes is canonical, and what is written is decoded
pub returns-clause-decodes : goal.returns-clause-decodes
returns-clause-decodes g c order v bytes =
    let layout = g.T.Layout.layout in
    let strict = layout.laws (strict_mode order) in (
      λ h. (layout.same_written (strict_mode order) false).too v bytes (strict.written_alone refl v bytes h),
      λ h. strict.written_encodes v bytes ((layout.same_written (plain_mode order) true).too v bytes h),
    )

pub returns-clause-no_others : goal.returns-clause-no_others
returns-clause-no_others g c order v bytes h =
    let layout = g.T.Layout.layout in
    (layout.laws (plain_mode order)).written_encodes v bytes
    ((layout.same_written (strict_mode order) false).too v bytes
    ((layout.laws (strict_mode order)).written_alone refl v bytes h))
