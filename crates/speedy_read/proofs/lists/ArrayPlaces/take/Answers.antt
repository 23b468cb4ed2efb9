use Rattle.std.proofs.Common.{◌∙◌, ap, length}
use Rattle.std.proofs.lemmas.List.{length-map}
use Rattle.speedy_layout.specs.Lists.{repeat, vector}
use Rattle.speedy_layout.specs.Owned.{owned_content}
use Rattle.speedy_read.proofs.lists.ArrayPlaces.take.Goals as goal

pub returns : goal.returns
unfolding vector owned_content repeat
returns g c = (
  length-map c.take.new.places g.T.Layout.seen
      ∙ (c.take.auto.places ∙ (ap length c.as_mut_slice.ensures.value ∙ c.requires.0)),
  c.take.ensures,
)
