-- What lies between two states of a collector: nothing, or two writes joined.
use Rattle.std.specs.Prelude.{◌≡◌, ℕ, ◌+◌, ◌≤◌, List, [], ◌++◌, length, take, drop}
use Rattle.std.proofs.Common.{sym, ◌∙◌, ap, arith, length-take, length-drop}
use Rattle.std.proofs.Math.Seq.{drop-append-add, drop-drop}
use Rattle.std.proofs.lemmas.List.{append_assoc, append-nil, length-append, take_at, take-append-drop}
use Rattle.speedy_base.specs.Device.{SinkState}
use Rattle.speedy_base.specs.DeviceLemmas.{DeviceKept-same, DeviceKept-after, DeviceKept-told}
use Rattle.speedy_write.specs.Collectors.{BufferAppends, SizeAppends, SinkTakes}

pub buffer_nothing : (p : ℕ) (A : List ℕ) → p ≤ length A → BufferAppends p A [] p A
buffer_nothing p A h = record { end_is = omega arith; within = h; after_is = sym (take-append-drop p A) }

-- a buffer keeps its length
pub put_length : (p : ℕ) (A s : List ℕ) (q : ℕ) (B : List ℕ) → BufferAppends p A s q B → length B ≡ length A
put_length p A s q B h =
    let x = h.end_is in
    let y = h.within in
    let l = ap length h.after_is ∙ length-append (take p A) (s ++ drop q A) in
    let m = length-append s (drop q A) in
    let n = length-take p A in
    let o = length-drop q A in
    omega arith

-- the parts of a buffer that bytes were put into
pub part_prefix : (p : ℕ) (A s : List ℕ) (q : ℕ) → q ≡ p + length s → q ≤ length A
    → take q (take p A ++ (s ++ drop q A)) ≡ take p A ++ s
part_prefix p A s q e h =
    let prefix : length (take p A ++ s) ≡ q = length-append (take p A) s ∙ (let l = length-take p A in omega arith) in
    ap (take q) (sym (append_assoc (take p A) s (drop q A))) ∙ take_at (take p A ++ s) (drop q A) q prefix

part_back : (p : ℕ) (A s : List ℕ) (q n : ℕ) → q ≡ p + length s → q ≤ length A
    → drop (q + n) (take p A ++ (s ++ drop q A)) ≡ drop (q + n) A
part_back p A s q n e h =
    let prefix : length (take p A ++ s) ≡ q = length-append (take p A) s ∙ (let l = length-take p A in omega arith) in
    ap (drop (q + n)) (sym (append_assoc (take p A) s (drop q A)))
    ∙ (ap (λ m. drop (m + n) ((take p A ++ s) ++ drop q A)) (sym prefix)
    ∙ (drop-append-add (take p A ++ s) (drop q A) n ∙ drop-drop n q A))

-- what is put after what was put
pub buffer_additive : {p : ℕ} {A s : List ℕ} {q : ℕ} {B t : List ℕ} {r : ℕ} {C : List ℕ} → BufferAppends p A s q B
    → BufferAppends q B t r C
    → BufferAppends p A (s ++ t) r C
buffer_additive {p = p} {A = A} {s = s} {q = q} {B = B} {t = t} {r = r} h k =
    let l = length-append s t in
    let same_length : length B ≡ length A = put_length p A s q B h in
    let prefix : take q B ≡ take p A ++ s = ap (take q) h.after_is ∙ part_prefix p A s q h.end_is h.within in
    let suffix : drop r B ≡ drop r A =
    ap (λ m. drop m B) k.end_is
    ∙ (ap (drop (q + length t)) h.after_is
    ∙ (part_back p A s q (length t) h.end_is h.within ∙ ap (λ m. drop m A) (sym k.end_is))) in
    record {
      end_is = let x = h.end_is in let y = k.end_is in omega arith;
      within = let y = k.within in omega arith;
      after_is =
          k.after_is ∙ (ap (λ x. x ++ (t ++ drop r B)) prefix ∙ (ap (λ x. (take p A ++ s) ++ (t ++ x)) suffix
          ∙ (append_assoc (take p A) s (t ++ drop r A) ∙ ap (λ x. take p A ++ x) (sym (append_assoc s t (drop r A))))));
    }

-- what was put at the front of a buffer stands there
pub put_in_front : {p : ℕ} {old A s : List ℕ} {q : ℕ} {B : List ℕ} → p ≡ 0 → A ≡ old → BufferAppends p A s q B
    → B ≡ s ++ drop (length s) old
put_in_front {old = old} {A = A} {s = s} {q = q} start same h =
    let end : q ≡ length s = let e = h.end_is in omega arith in
    h.after_is
    ∙ (ap (λ (p : ℕ). take p A ++ (s ++ drop q A)) start
    ∙ (ap (λ n. s ++ drop n A) end ∙ ap (λ (A : List ℕ). s ++ drop (length s) A) same))

-- what is appended to a list
pub vec_nothing : (xs : List ℕ) → xs ≡ xs ++ []
vec_nothing xs = sym (append-nil xs)

pub vec_additive : {ys zs : List ℕ} (xs s t : List ℕ) → ys ≡ xs ++ s → zs ≡ ys ++ t → zs ≡ xs ++ (s ++ t)
vec_additive xs s t h k = k ∙ (ap (λ (l : List ℕ). l ++ t) h ∙ append_assoc xs s t)

pub size_nothing : (n : ℕ) → SizeAppends n [] n
size_nothing n = omega arith

pub size_additive : (a b c : ℕ) (s t : List ℕ) → SizeAppends a s b → SizeAppends b t c → SizeAppends a (s ++ t) c
size_additive a b c s t h k = let l = length-append s t in omega arith

pub sink_nothing : (a : SinkState) → SinkTakes a [] a
sink_nothing a = record { kept = DeviceKept-same; taken_is = λ _. sym (append-nil a.taken) }

pub sink_additive : {a b c : SinkState} {s t : List ℕ} → SinkTakes a s b → SinkTakes b t c → SinkTakes a (s ++ t) c
sink_additive {a = a} {s = s} {t = t} h k = record {
  kept = DeviceKept-after h.kept k.kept;
  taken_is = λ told. k.taken_is (DeviceKept-told h.kept told)
      ∙ (ap (λ (x : List ℕ). x ++ t) (h.taken_is told) ∙ append_assoc a.taken s t);
}
