use Rattle.std.proofs.Common.{◌++◌, ◌∙◌, [], ◌∷◌, ap, map, length, refl, arith}
use Rattle.std.proofs.lemmas.List.{map-append, length_push}
use Rattle.speedy.specs.Error.{passed_on}
use Rattle.speedy_examples.proofs.Messages.{seen_message, told_message}
use Rattle.speedy_examples.proofs.NextLemmas.{next_kind}
use Rattle.speedy_examples.proofs.StreamLemmas.{none_read, one_more_read, all_read, refused_by_failure, not_so_many}
use Rattle.speedy_examples.proofs.streams.all_messages.Goals as goal

pub loop-i-init : goal.loop-i-init
loop-i-init g c =
    let made = c.in_ok-reader.ensures.made in
    let none = ap (map seen_message) c.new-messages.ensures.items in (
      ap length none,
      none_read none (ap (λ model. (g.S.Source.source model.source).tells) made)
          (ap (λ model. model.ring.bytes ++ (g.S.Source.source model.source).remaining) made),
    )

pub loop-i-preserved : goal.loop-i-preserved
loop-i-preserved g c =
    let next = c.in_ok-message.ensures in
    let got = rw c.in-Some.is at next.next in
    let more = ap (map seen_message) c.in_ok-push-in-Some.ensures.items
    ∙ map-append seen_message c.loop-i.messages.items (c.in-Some.message ∷ []) in (
      ap length more
          ∙ (length_push (map seen_message c.loop-i.messages.items) (seen_message c.in-Some.message)
          ∙ omega (arith, c.loop-i.invariant.0)),
      one_more_read (seen_message c.in-Some.message) c.loop-i.invariant.1 more next.kept.0 (got.0, got.1, got.2),
    )

pub returns-in-None-clause-all : goal.returns-in-None-clause-all
returns-in-None-clause-all g c =
    let next = c.in_ok-message.ensures in
    all_read c.loop-i.invariant.1
    (λ told are_bytes fit. (rw c.in-None.is at next.next) (told_message _ told are_bytes fit) refl)

pub returns-in_err-message-clause-refused : goal.returns-in_err-message-clause-refused
returns-in_err-message-clause-refused g c = λ messages encoded tells are_bytes fit.
    rw (← passed_on _ _ c.from_residual-in_err-message.ensures.1)
    (refused_by_failure messages c.loop-i.invariant.1 encoded refl tells are_bytes fit refl
    c.in_err-message.ensures.refused c.in_err-message.ensures.ended)

pub returns-in_err-message-clause-kind : goal.returns-in_err-message-clause-kind
returns-in_err-message-clause-kind g c =
    rw (← passed_on _ _ c.from_residual-in_err-message.ensures.1) (next_kind refl c.in_err-message.ensures.refused)

pub returns-clause-refused : goal.returns-clause-refused
returns-clause-refused g
    c = λ _ _ tells _ fit. absurd (not_so_many c.loop-i.invariant.1 (omega (arith, c.loop-i.invariant.0)) tells fit)
