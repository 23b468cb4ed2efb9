use Rattle.std.proofs.Common.{◌≡◌, ℕ, ◌+◌, ◌-◌, ◌<◌, ◌≤◌, List, [], ◌++◌, length, take, drop, sym, ap, ◌∙◌, arith}
use Rattle.std.proofs.lemmas.List.{take_at, drop_at, take_all, drop_all, append-nil, length-append, length-drop}
use Rattle.std.proofs.lemmas.List.{length-take-le}
use borrow.Rule.Slice.PartMut.{put_mid}
use Rattle.speedy_base.specs.Ring.{Ring}
use Rattle.speedy_read.proofs.StreamLemmas.{device_ended, past_read, past_ended, past_failed}
use Rattle.speedy_read.proofs.stream_reader.StreamReader.read_past_ring.Goals as goal

-- what was put to the front, and what was put behind it
both_parts : (part rest pulled : List ℕ) (held k : ℕ) → length part ≡ held → length rest ≤ k
    → put_mid held k (part ++ rest) pulled ≡ part ++ pulled
both_parts part rest pulled held k sized fits =
    (λ i. take_at part rest held sized i ++ (pulled ++ drop k (drop_at part rest held sized i)))
    ∙ ap (λ l. part ++ (pulled ++ l)) (drop_all k rest fits)
    ∙ ap (λ l. part ++ l) (append-nil pulled)

-- all that a ring holds goes to the front of an output with room for more
module _ (output bytes : List ℕ) (held : ℕ) (all : held ≡ length bytes) (more : length bytes < length output) where
  asked : length (take held output) ≡ length bytes
  asked = length-take-le held output (omega arith) ∙ all

  nothing_left : drop (length (take held output)) bytes ≡ []
  nothing_left = drop_all (length (take held output)) bytes (omega (arith, asked))

  module _ (part pulled : List ℕ) (served : part ≡ take (length (take held output)) bytes)
      (room : length pulled
      ≡ length (take (length (part ++ drop held output) - held) (drop held (part ++ drop held output)))) where
    part_is : part ≡ bytes
    part_is = served ∙ take_all (length (take held output)) bytes (omega (arith, asked))

    sized : length part ≡ held
    sized = ap length part_is ∙ sym all

    -- and what is pulled lies behind it
    output_is : put_mid held (length (part ++ drop held output) - held) (part ++ drop held output) pulled
        ≡ bytes ++ pulled
    output_is =
        let rest = drop held output in
        both_parts part rest pulled held (length (part ++ rest) - held) sized
        (omega (arith, length-append part rest, sized)) ∙ ap (λ (l : List ℕ). l ++ pulled) part_is

    whole : length bytes + length pulled ≡ length output
    whole =
        let rest = drop held output in
        let mid = part ++ rest in
        omega (
          arith,
          room,
          length-take-le (length mid - held) (drop held mid) (omega (arith, length-drop held mid)),
          length-append part rest,
          sized,
          length-drop held output,
        )

-- what is left of a ring from which all was taken
ring_left : (ring left : Ring) (n : ℕ) → left ≡ record ring { bytes = drop n ring.bytes; room = [] }
    → drop n ring.bytes ≡ [] → (left.capacity ≡ ring.capacity) × (left.bytes ≡ [])
ring_left ring left n is nothing = (ap (λ (r : Ring). r.capacity) is, ap (λ (r : Ring). r.bytes) is ∙ nothing)

pub returns-in-Ok-true : goal.returns-in-Ok-true
returns-in-Ok-true g c =
    let output = c.args.output.now in
    let ring = c.args.self.now.ring in
    let all = c.len-held.ensures.value in
    let left = ring_left ring c.consume_into.new.self _ c.consume_into.ensures.rest
    (nothing_left output ring.bytes _ all c.requires) in
    past_read ring c.consume_into.new.self left.0 left.1 c.in-Ok-true.field-0-test c.in-Ok-true.ensures
    (output_is output ring.bytes _ all c.requires _ _ c.consume_into.ensures.output c.fill_list.auto.output)
    (whole output ring.bytes _ all c.requires _ _ c.consume_into.ensures.output c.fill_list.auto.output) c.requires

pub returns-in-Ok-false : goal.returns-in-Ok-false
returns-in-Ok-false g c =
    let output = c.args.output.now in
    let ring = c.args.self.now.ring in
    let all = c.len-held.ensures.value in
    let left = ring_left ring c.consume_into.new.self _ c.consume_into.ensures.rest
    (nothing_left output ring.bytes _ all c.requires) in
    past_ended ring c.consume_into.new.self left.0 left.1 c.in-Ok-false.field-0-test c.in-Ok-false.ensures
    (device_ended g.C.Error.From.from_gives g.C.Error.IsEof.eof _ g.met.C.Context.keeps_eof c.ended.ensures)
    (whole output ring.bytes _ all c.requires _ _ c.consume_into.ensures.output c.fill_list.auto.output)

pub returns-in-Err : goal.returns-in-Err
returns-in-Err g c =
    let ring = c.args.self.now.ring in
    let left = ring_left ring c.consume_into.new.self _ c.consume_into.ensures.rest
    (nothing_left c.args.output.now ring.bytes _ c.len-held.ensures.value c.requires) in
    past_failed ring c.consume_into.new.self left.0 left.1 _ c.in-Err.ensures c.error_of_failed_call.ensures
