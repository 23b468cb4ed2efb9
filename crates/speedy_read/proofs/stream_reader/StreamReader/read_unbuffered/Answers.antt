use Rattle.std.specs.Prelude.{◌≡◌, ℕ, ◌+◌, ◌-◌, ◌<◌, Bool, true, false, List, [], ◌++◌, length, take, drop}
use Rattle.std.specs.Prelude.{Result, Ok, refl}
use Rattle.std.proofs.Common.{sym, ap, ◌∙◌, arith}
use Rattle.std.proofs.lemmas.Bool.{true≢false}
use Rattle.std.proofs.lemmas.List.{append-nil, drop_all, length-drop, length-take-le, take_all}
use borrow.Rule.Slice.PartMut.{put_mid}
use Rattle.speedy_base.specs.declared.error.Error.{Error}
use Rattle.speedy_base.specs.Device.{SourceState, Pulls}
use Rattle.speedy_layout.specs.Format.{Format}
use Rattle.speedy_read.specs.Reading.{ReaderState, Reads}
use Rattle.speedy_read.specs.ReadingLemmas.{none_so_far}
use Rattle.speedy_read.specs.Streams.{FillsList}
use Rattle.speedy_read.proofs.ByteLemmas.{more_bytes, rest_read}
use Rattle.speedy_read.proofs.StreamLemmas.{device_ended, past_read, past_ended}
use Rattle.speedy_read.proofs.stream_reader.StreamReader.read_unbuffered.Goals as goal

-- one call fills as much as it moves
one_call : {old new : SourceState} {output : List ℕ} (n : ℕ) → Pulls (Ok n) old new output
    → FillsList (take n output) (Ok true) old new
one_call {output = output} n p = record {
  kept = p.kept;
  no_fault = p.no_fault;
  tail = λ told. (take n output, p.moved told);
  full = λ all told. p.moved told;
  ended = λ less told. absurd (true≢false less);
  fault = tt;
}

-- or it meets the end
end_met : {old new : SourceState} {output : List ℕ} (n : ℕ) → n ≡ 0 → 0 < length output → Pulls (Ok n) old new output
    → FillsList output (Ok false) old new
end_met {output = output} n none some p = record {
  kept = p.kept;
  no_fault = p.no_fault;
  tail = λ told. (take n output, p.moved told);
  full = λ all told. absurd (true≢false (sym all));
  ended = λ less told. omega (arith, ap length (p.ends told none some), some);
  fault = tt;
}

-- an answer that is passed on
same_answer : {E : Type 0} {gives : Error → E → Type 0} {eof : E → Bool} {A V : Type 0} {seen : A → V} {L : Format V}
    {answer result : Result A E} {old new : ReaderState}
    → result ≡ answer → Reads gives eof seen L answer old new → Reads gives eof seen L result old new
same_answer is read = rw is read

-- what is read behind the front of an output
put_behind : (output rest : List ℕ) (n : ℕ) → put_mid n (length output - n) output rest ≡ take n output ++ rest
put_behind output rest n =
    ap (λ (l : List ℕ). take n output ++ (rest ++ l))
    (drop_all (length output - n) (drop n output) (omega (arith, length-drop n output)))
    ∙ ap (λ (l : List ℕ). take n output ++ l) (append-nil rest)

pub returns-then-first-output : goal.returns-then-first-output
returns-then-first-output g c =
    let ring = c.args.self.now.ring in
    let none = c.requires.nothing_held in
    let output = c.pull.new.output in
    let all = take_all c.in-Ok.first output (omega (arith, c.if-first-output.true, c.pull.auto.output)) in
    past_read ring ring refl none refl (one_call c.in-Ok.first c.in-Ok.ensures)
    (sym (ap (λ (l : List ℕ). l ++ take c.in-Ok.first output) none ∙ all))
    (omega (arith, ap length none, ap length all, c.pull.auto.output)) (omega (arith, ap length none, c.requires.some))

pub returns-then-first-eq0 : goal.returns-then-first-eq0
returns-then-first-eq0 g c =
    let ring = c.args.self.now.ring in
    let none = c.requires.nothing_held in
    past_ended ring ring refl none refl
    (end_met c.in-Ok.first c.if-first-eq0.true (omega (arith, c.pull.auto.output, c.requires.some)) c.in-Ok.ensures)
    (device_ended g.C.Error.From.from_gives g.C.Error.IsEof.eof _ g.met.C.Context.keeps_eof c.ended.ensures)
    (omega (arith, ap length none, c.pull.auto.output))

pub returns-else-first-eq0 : goal.returns-else-first-eq0
returns-else-first-eq0 g c =
    let ring = c.args.self.now.ring in
    let none = c.requires.nothing_held in
    let output = c.pull.new.output in
    let n = c.in-Ok.first in
    let prefix = length-take-le n output c.in-Ok.ensures.within in
    let first = past_read ring ring refl none {gives = g.C.Error.From.from_gives} {eof = g.C.Error.IsEof.eof}
    {seen = λ (u : Unit {0}). take n output} {x = tt} refl (one_call n c.in-Ok.ensures)
    (sym (ap (λ (l : List ℕ). l ++ take n output) none)) (omega (arith, ap length none, prefix))
    (omega (arith, ap length none, c.if-first-eq0.false)) in
    let sized : length (take n output) + length (take (length output - n) (drop n output)) ≡ length c.args.output.now =
    omega (
      arith,
      prefix,
      c.in-Ok.ensures.within,
      c.pull.auto.output,
      length-take-le (length output - n) (drop n output) (omega (arith, length-drop n output)),
      length-drop n output,
    ) in
    same_answer c.by_parts.ensures
    (rest_read _ _ (take n output) c.read_past_ring.result
    (more_bytes n [] (take n output) (none_so_far refl) first refl) sized
    (λ u. put_behind output c.read_past_ring.new.output n) c.read_past_ring.ensures)
