use Rattle.std.proofs.Common.{◌≡◌, suc, ◌+◌, take, drop, arith, rules, ap, ◌∙◌, subst, sym}
use Rattle.std.proofs.lemmas.List.{take_rest}
use Rattle.speedy_lines.specs.Split.{SplitsAt}
use Rattle.speedy_lines.proofs.SplitLemmas.{split_found}
use Rattle.speedy_lines.proofs.split.split_at.Goals as goal

pub returns : goal.returns
returns c =
    let text = c.args.text.now in
    let at = c.in_ok-at.at in
    let next : suc at ≡ at + 1 = omega arith in
    subst (λ rest. SplitsAt c.args.byte text (take at text) rest)
    (ap (λ n. drop n text) next ∙ sym (take_rest text (at + 1)))
    (split_found c.args.byte text at (search rules) (search rules) (search rules))
