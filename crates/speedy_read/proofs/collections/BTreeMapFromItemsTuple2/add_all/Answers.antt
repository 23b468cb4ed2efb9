use Rattle.std.specs.Prelude.{Ok}
use Rattle.std.proofs.Common.{◌≡◌, ◌∙◌, ◌++◌, [], sym, subst}
use Rattle.std.proofs.lemmas.List.{nil_from_length}
use Rattle.std.proofs.lemmas.Iterator.Adapters.{fact_from_collect, YieldsList-from_vec}
use Rattle.std.proofs.lemmas.Iterator.Consumers.{YieldsList-from_chain, YieldsList-from_rest}
use Rattle.std.specs.BTreeMap.{IsFromIterResult}
use Rattle.speedy_layout.specs.GathersToLemmas.{tree_map_remade}
use Rattle.speedy_read.proofs.CollectionLemmas.{collected}
use Rattle.speedy_read.proofs.collections.BTreeMapFromItemsTuple2.add_all.Goals as goal

pub returns-then-is_empty : goal.returns-then-is_empty
returns-then-is_empty g c = λ earlier h.
    let items = c.args.items.items in
    let made = collected {E = Unit {0}} c.into_iter.result (Ok c.in_ok-self.field-0) items
    (λ xs tree. IsFromIterResult g.K.Ord.cmp xs tree) (λ tree h. h) c.into_iter.ensures.rest
    (c.into_iter.ensures.len ∙ c.args.items.ok.0) c.in_ok-self.ensures.ran in
    let none : c.args.self.now.entries ≡ [] = nil_from_length _ (c.is_empty.ensures.0 c.if-is_empty.true) in
    tree_map_remade earlier items g.met.K.Ord.total c.args.self.now c.in_ok-self.field-0 h
    (subst (λ es. IsFromIterResult g.K.Ord.cmp (es ++ items) c.in_ok-self.field-0) (sym none) made)

pub returns : goal.returns
returns g c = λ earlier h.
    let own = c.args.self.now.entries in
    let items = c.args.items.items in
    let second = c.chain.ensures.second in
    let first : c.chain.result.a ≡ own =
    (let a = c.chain.ensures.first in let b = c.into_iter-2.ensures.into_iter_gives.0 in
    let d = c.replace-earlier.ensures.value in (cc)) in
    let made = fact_from_collect {E = Unit {0}} (λ xs tree. IsFromIterResult g.K.Ord.cmp xs tree)
    (Ok c.in_ok-self-2.field-0) c.in_ok-self-2.ensures.ran
    (YieldsList-from_chain {s = c.chain.result} (YieldsList-from_rest own first)
    (YieldsList-from_vec items second.0 (second.1 ∙ c.args.items.ok.0)) c.chain.ensures.first_done
    c.chain.ensures.second_done) in
    tree_map_remade earlier items g.met.K.Ord.total c.args.self.now c.in_ok-self-2.field-0 h made
