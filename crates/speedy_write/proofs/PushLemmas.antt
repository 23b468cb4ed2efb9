-- Bytes that are pushed in pieces are pushed as a whole.
use Rattle.std.specs.Prelude.{◌≡◌, ◌==◌, ℕ, ◌-◌, List, [], ◌++◌, length, take, drop, false, IsTrue, Ok}
use Rattle.std.proofs.Common.{sym, ◌∙◌, ap, subst, arith}
use Rattle.std.proofs.lemmas.Bool.{eqb-false}
use Rattle.std.proofs.lemmas.List.{append_assoc, length-append, take-append-drop, take_rest}
use Rattle.speedy_base.specs.Device.{SinkState, Pushes}
use Rattle.speedy_write.specs.Collectors.{SinkTakes}
use Rattle.speedy_write.specs.CollectorLemmas.{sink_additive}

-- the bytes but the rest were pushed so far
pub record PushedSoFar (bytes rest : List ℕ) (old new : SinkState) : Type 0 where
  pub no_fault : new.faults ≡ old.faults
  pub waits : IsTrue new.settled → IsTrue old.settled
  pub prefix : List ℕ
  pub bytes_are : bytes ≡ prefix ++ rest
  pub taken : SinkTakes old prefix new

-- the rest of the rest, as a slice of it
abbrev pub past : ℕ → List ℕ → List ℕ
past n rest = take (length rest - n) (drop n rest)

pub more_pushed : {bytes rest : List ℕ} {n : ℕ} {s t u : SinkState} → PushedSoFar bytes rest s t
    → Pushes (Ok n) t u rest → PushedSoFar bytes (past n rest) s u
more_pushed {bytes = bytes} {rest = rest} {n = n} {s = s} {t = t} {u = u} so_far p =
    subst (λ (x : List ℕ). PushedSoFar bytes x s u) (sym (take_rest rest n)) (record {
      no_fault = p.no_fault ∙ so_far.no_fault;
      waits = λ settled. so_far.waits (p.waits settled);
      prefix = so_far.prefix ++ take n rest;
      bytes_are = so_far.bytes_are ∙ (ap (λ (x : List ℕ). so_far.prefix ++ x) (sym (take-append-drop n rest))
          ∙ sym (append_assoc so_far.prefix (take n rest) (drop n rest)));
      taken = sink_additive so_far.taken (record { kept = p.kept; taken_is = p.moved });
    })

-- where some are left, some were to be pushed
pub some_to_push : {bytes rest : List ℕ} {s t : SinkState} → PushedSoFar bytes rest s t → false ≡ (length rest == 0)
    → bytes ≡ [] → ⊥
some_to_push {bytes = bytes} {rest = rest} so_far some none =
    let h = eqb-false (length rest) 0 (sym some) in
    let l = ap length so_far.bytes_are ∙ length-append so_far.prefix rest in
    let m = ap length none in
    omega arith
