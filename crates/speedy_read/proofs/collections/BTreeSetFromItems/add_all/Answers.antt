use Rattle.std.specs.Prelude.{Ok}
use Rattle.std.proofs.Common.{◌≡◌, ◌∙◌}
use Rattle.std.proofs.lemmas.Iterator.Adapters.{fact_from_collect, YieldsList-from_vec}
use Rattle.std.proofs.lemmas.Iterator.Consumers.{YieldsList-from_chain, YieldsList-from_rest}
use Rattle.std.specs.BTreeSet.{IsFromIterResult}
use Rattle.speedy_layout.specs.GathersToLemmas.{tree_set_remade}
use Rattle.speedy_read.proofs.collections.BTreeSetFromItems.add_all.Goals as goal

pub returns : goal.returns
returns g c = λ earlier h.
    let own = c.args.self.now.keys in
    let items = c.args.items.items in
    let second = c.chain.ensures.second in
    let first : c.chain.result.a ≡ own =
    (let a = c.chain.ensures.first in let b = c.into_iter-2.ensures.into_iter_gives.0 in
    let d = c.replace-earlier.ensures.value in (cc)) in
    let made = fact_from_collect {E = Unit {0}} (λ xs tree. IsFromIterResult g.T.Ord.cmp xs tree)
    (Ok c.in_ok-self-2.field-0) c.in_ok-self-2.ensures.ran
    (YieldsList-from_chain {s = c.chain.result} (YieldsList-from_rest own first)
    (YieldsList-from_vec items second.0 (second.1 ∙ c.args.items.ok.0)) c.chain.ensures.first_done
    c.chain.ensures.second_done) in
    tree_set_remade earlier items g.met.T.Ord.total c.args.self.now c.in_ok-self-2.field-0 h made
