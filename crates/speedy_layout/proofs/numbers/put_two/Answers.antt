use Rattle.std.proofs.Common.{◌+◌, ◌*◌, ◌^◌, ap, sym, ◌∙◌, arith}
use Rattle.std.proofs.lemmas.Simd.{put_chunk_whole}
use Rattle.speedy_base.specs.Digits.{little_digits}
use Rattle.speedy_base.specs.DigitsLemmas.{length-little_digits}
use Rattle.speedy_layout.proofs.numbers.put_two.Goals as goal

pub returns : goal.returns
returns c =
    let both = c.args.first + 2 ^ 64 * (c.args.second + 0) in
    put_chunk_whole c.args.output.now (little_digits 16 both) (c.requires ∙ sym (length-little_digits 16 both))
    ∙ ap (little_digits 16) (omega arith)
