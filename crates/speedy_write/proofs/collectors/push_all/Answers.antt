use Rattle.speedy_write.proofs.PushLemmas.{more_pushed, some_to_push}
use Rattle.speedy_write.proofs.collectors.push_all.Goals as goal

pub loop-rest-preserved : goal.loop-rest-preserved
loop-rest-preserved g c = (
  more_pushed c.loop-rest.invariant.0 c.in-Ok.ensures,
  λ none. absurd (some_to_push c.loop-rest.invariant.0 c.loop-rest-test.ensures none),
)
