use Rattle.speedy_examples.proofs.Messages.{message_kind}
use Rattle.speedy_examples.proofs.readme.parse_message.Goals as goal

pub returns-clause-kind : goal.returns-clause-kind
returns-clause-kind c = message_kind c.read_from_buffer.result c.read_from_buffer.ensures.1
