use Rattle.std.proofs.Common.{◌≡◌, ◌<◌, ◌∷◌, length, ap, subst, arith}
use Rattle.speedy_layout.specs.Views.{shown_items}
use Rattle.speedy_layout.proofs.ViewLemmas.{shown_items-none, item_taken}
use Rattle.speedy_layout.proofs.views.ViewIterIterator.next.Goals as goal

-- the item is the first that was left
taken : (g : _) (c : goal.After-decode g) → let shown = shown_items g.T.ViewItem.decoded g.T.FixedSize.SIZE in
    shown c.args.self.now.rest.now ≡ c.decode.result ∷ shown c.split_at.result.1.now
taken g c =
    item_taken g.T.ViewItem.decoded g.T.FixedSize.SIZE c.args.self.now.rest.now c.split_at.result.0.now
    c.split_at.result.1.now _ c.decode.result c.SIZE-size.ensures g.met.T.ViewItem.some_bytes c.if-self-size.false
    c.split_at.ensures.front c.split_at.ensures.back
    c.decode.ensures

pub returns-then-self-size-clause-steps : goal.returns-then-self-size-clause-steps
returns-then-self-size-clause-steps g c =
    let bytes = c.args.self.now.rest.now in
    let none = shown_items-none g.T.ViewItem.decoded g.T.FixedSize.SIZE bytes
    (subst (λ n. length bytes < n) c.SIZE-size.ensures c.if-self-size.true) in
    (none, none)

pub returns-clause-steps : goal.returns-clause-steps
returns-clause-steps g c = taken g c

pub returns-clause-goes : goal.returns-clause-goes
returns-clause-goes g c =
    let fewer = ap length (taken g c) in
    record { on = λ h. (tt, tt, omega arith); keeps = tt; rests = λ h. tt }
