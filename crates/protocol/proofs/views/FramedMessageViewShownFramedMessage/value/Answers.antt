use Rattle.speedy.specs.ViewArms.{shows_none}
use Rattle.protocol.specs.contracts.views.FramedMessageViewViewFramedMessage.TheImpl.{ghosts as view}
use Rattle.protocol.proofs.views.FramedMessageViewShownFramedMessage.value.Goals as goal

pub returns-in_err-t1 : goal.returns-in_err-t1
returns-in_err-t1 c =
    shows_none _ view.shows c.args.self.now _ _ c.from_residual.ensures.1
    (λ value shown. c.in_err-t1.ensures value.message shown.1)
