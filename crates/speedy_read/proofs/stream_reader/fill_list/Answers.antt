use Rattle.std.proofs.Common.{◌≡◌, ℕ, List, ◌+◌, ◌-◌, ◌≤◌, ◌++◌, length, take, drop, IsTrue, sym, ap, ◌∙◌, subst, arith}
use Rattle.std.proofs.Common.{append_assoc, length-append, length-take-le, length-drop}
use Rattle.std.proofs.lemmas.List.{take-append-le}
use Rattle.std.proofs.Math.Seq.{take-append-add}
use borrow.Rule.Slice.PartMut.{put_mid}
use Rattle.speedy_read.proofs.stream_reader.fill_list.Goals as goal

-- what was pulled lies behind what was there
filled_on : (output pulled remaining more : List ℕ) (i n : ℕ) → i ≤ length output → n ≤ length pulled
    → remaining ≡ take n pulled ++ more
    → take i output ++ remaining ≡ take (i + n) (put_mid i (length output - i) output pulled) ++ more
filled_on output pulled remaining more i n p r moved =
    let prefix = length-take-le i output p in
    let behind = drop (length output - i) (drop i output) in
    let e = ap (λ k. take (k + n) (take i output ++ (pulled ++ behind))) (sym prefix) ∙ take-append-add (take i output)
    (pulled ++ behind) n ∙ ap (λ l. take i output ++ l) (take-append-le n pulled behind r) in
    ap (λ l. take i output ++ l) moved ∙ sym (append_assoc (take i output) (take n pulled) more)
    ∙ ap (λ l. l ++ more) (sym e)

-- its length stays
long : (output pulled : List ℕ) (i : ℕ) → i ≤ length output → length pulled ≡ length output - i
    → length (put_mid i (length output - i) output pulled) ≡ length output
long output pulled i p q = omega (
  arith,
  length-take-le i output p,
  length-append (take i output) (pulled ++ drop (length output - i) (drop i output)),
  length-append pulled (drop (length output - i) (drop i output)),
  length-drop (length output - i) (drop i output),
  length-drop i output,
)

pub loop-filled-preserved : goal.loop-filled-preserved
loop-filled-preserved g c =
    let inv = c.loop-filled.invariant in
    let output = c.loop-filled.output in
    let pulled = c.pull.new.output in
    let i = c.loop-filled.filled in
    let n = c.in_ok-count.count in
    let pulls = c.in_ok-count.ensures in
    let size : length pulled ≡ length output - i = omega (
      arith,
      c.pull.auto.output,
      length-take-le (length output - i) (drop i output) (omega (arith, length-drop i output)),
    ) in
    let long_is = long output pulled i inv.2 size in
    let within : n ≤ length pulled = pulls.within in (
      pulls.kept.tells ∙ inv.0,
      pulls.no_fault ∙ inv.1,
      omega arith,
      λ t. inv.3 t ∙ filled_on output pulled _ _ i n inv.2 within (pulls.moved (subst IsTrue (sym inv.0) t)),
    )
