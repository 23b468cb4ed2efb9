use Rattle.std.proofs.Common.{◌≡◌, length, map}
use Rattle.speedy.specs.StreamModel.{stream_state}
use Rattle.speedy.specs.Mode.{plain_mode}
use Rattle.speedy.specs.declared.endianness.Endianness.TheVariants.{LittleEndian}
use Rattle.speedy_examples.proofs.Messages.{message, seen_message}
use Rattle.speedy_examples.proofs.StreamLemmas.{ReadSoFar}
use Rattle.speedy_examples.proofs.streams.all_messages.Given as goal

abbrev pub invariant-loop-i : goal.invariant-loop-i
invariant-loop-i g l =
    (length (map seen_message l.messages.items) ≡ l._i)
    × ReadSoFar message.encodes (map seen_message l.messages.items) (g.S.Source.source l.fn.source)
    (stream_state g.S.Source.source (λ _. plain_mode LittleEndian) l.reader)
