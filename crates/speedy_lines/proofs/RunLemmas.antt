-- Lines that come in pieces are answered like lines that come at once.
use Rattle.std.specs.Prelude.{◌≡◌, ◌≢◌, ◌==◌, if◌then◌else◌, ℕ, ◌+◌, ◌-◌, ◌^◌, ◌<◌, ◌≤◌, List, [], ◌∷◌, ◌++◌, length}
use Rattle.std.specs.Prelude.{take, Bool, true, false, IsTrue, Result, Ok, Err, OnOk, OnErr, IfErr, refl}
use Rattle.std.proofs.Common.{sym, ◌∙◌, ap, subst, arith, inl, inr}
use Rattle.std.proofs.lemmas.Bool.{ne_eqb, eqb-false, eqb-true}
use Rattle.std.proofs.lemmas.List.{append_assoc, append-nil, length-append, length-take-le, nil_from_length}
use Rattle.std.proofs.lemmas.Result.{on_ok_weaker, on_err_weaker, IfErr-weaker}
use Rattle.std.specs.Borrow.{GName}
use Rattle.std.specs.declared.io.Error.{Error as StdIoError}
use Rattle.speedy.specs.declared.error.Error.{Error}
use Rattle.speedy.specs.declared.error.ErrorKind.TheVariants as kinds
use Rattle.speedy.specs.Error.{error_of, kind_of, IsIoErrorOf}
use Rattle.speedy.specs.Collectors.{sink_state, SinkTakes}
use Rattle.speedy.specs.Device.{SourceState, SourceKept, SinkState, SinkKept, Pulls, Flushes}
use Rattle.speedy.specs.DeviceLemmas.{DeviceKept-same, DeviceKept-after, DeviceKept-told}
use Rattle.speedy.specs.Mode.{Mode}
use Rattle.speedy.specs.FailedCalls.{IsOfFailedCall}
use Rattle.speedy.specs.Format.{Each}
use Rattle.speedy.specs.Writing.{WritesBytes}
use Rattle.speedy.specs.Lists.{each_append}
use Rattle.speedy_lines.specs.Answer.{AnswersLine}
use Rattle.speedy_lines.specs.Split.{IsFreeOf, SplitsAt}
use Rattle.speedy_lines.specs.Run.{line_feed, with_first, lines_of, AnsweredAll, Answered, AnsweredPartly, itself}
use Rattle.speedy_lines.specs.Run.{IsSinkFailure, Answering, IsRunFailure, Runs}

-- lines

pub no_feed_append : (s t : List ℕ) → IsFreeOf line_feed s → IsFreeOf line_feed t → IsFreeOf line_feed (s ++ t)
no_feed_append [] t h k = k
no_feed_append (b ∷ s) t h k = (h.0, no_feed_append s t h.1 k)

lines_more : (b : ℕ) (bytes : List ℕ) → b ≢ line_feed → lines_of (b ∷ bytes) ≡ with_first b (lines_of bytes)
lines_more b bytes h =
    ap (λ (t : Bool). if t then [] ∷ lines_of bytes else with_first b (lines_of bytes)) (ne_eqb b line_feed h)

-- a line with its line feed is the first line
pub lines_feed : (line rest : List ℕ) → IsFreeOf line_feed line
    → lines_of (line ++ line_feed ∷ rest) ≡ line ∷ lines_of rest
lines_feed [] rest h = refl
lines_feed (b ∷ line) rest h = lines_more b (line ++ line_feed ∷ rest) h.0
    ∙ ap (λ (ls : List (List ℕ)). with_first b ls) (lines_feed line rest h.1)

-- bytes with no line feed are one line
pub lines_last : (b : ℕ) (line : List ℕ) → IsFreeOf line_feed (b ∷ line) → lines_of (b ∷ line) ≡ (b ∷ line) ∷ []
lines_last b [] h = lines_more b [] h.0
lines_last b (d ∷ line) h =
    lines_more b (d ∷ line) h.0 ∙ ap (λ (ls : List (List ℕ)). with_first b ls) (lines_last d line h.1)

-- what waits, a line that ends and more
pub lines_split : (pending text line rest more : List ℕ) → IsFreeOf line_feed pending
    → SplitsAt line_feed text line rest
    → lines_of (pending ++ (text ++ more)) ≡ (pending ++ line) ∷ lines_of (rest ++ more)
lines_split pending text line rest more h split =
    let joined : pending ++ (text ++ more) ≡ (pending ++ line) ++ line_feed ∷ (rest ++ more) =
    ap (λ (x : List ℕ). pending ++ (x ++ more)) split.text_is
    ∙ (ap (λ (x : List ℕ). pending ++ x) (append_assoc line (line_feed ∷ rest) more)
    ∙ sym (append_assoc pending line (line_feed ∷ (rest ++ more)))) in
    ap lines_of joined ∙ lines_feed (pending ++ line) (rest ++ more) (no_feed_append pending line h split.prefix_is)

-- devices

-- the failure of a later part is one of the whole, where no call failed before
failure_after : (e : Error) (s t u : SinkState) → t.faults ≡ s.faults → IsSinkFailure e t u → IsSinkFailure e s u
failure_after e s t u same k = rw same at k

taken_after : (s t u : SinkState) (x y : List ℕ) → SinkKept s t → (IsTrue s.tells → t.taken ≡ s.taken ++ x)
    → (IsTrue t.tells → u.taken ≡ t.taken ++ y) → IsTrue s.tells → u.taken ≡ s.taken ++ (x ++ y)
taken_after s t u x y kept h k tells =
    k (DeviceKept-told kept tells) ∙ (ap (λ (z : List ℕ). z ++ y) (h tells) ∙ append_assoc s.taken x y)

-- empty lists, as the code tests them

pub not_empty : (xs : List ℕ) → false ≡ (length xs == 0) → 0 < length xs
not_empty xs e = let h = eqb-false (length xs) 0 (sym e) in omega arith

pub is_empty : (xs : List ℕ) → true ≡ (length xs == 0) → xs ≡ []
is_empty xs e = nil_from_length xs (eqb-true (length xs) 0 (sym e))

-- a line is answered

one_answer : (line answer : List ℕ) → AnswersLine line answer → Each AnswersLine (line ∷ []) answer
one_answer line answer h = record {
  prefix = answer;
  suffix = [];
  whole_is = sym (append-nil answer);
  first_is = h;
  second_is = refl;
}

-- what a collector over the sink wrote
collected_answer : {at other : Mode} {name other_name : GName} (r : Result (Unit {0}) Error) (line answer : List ℕ)
    (s t : SinkState) → AnswersLine line answer
    → WritesBytes itself answer r (sink_state at name s) (sink_state other other_name t) (λ b. SinkTakes s b t)
    → IfErr r (λ e. IsOfFailedCall itself e s.faults t.faults) → Answering r (line ∷ []) [] s t
collected_answer (Ok x) line answer s t h w failed =
    let put = w.answer in
    record {
      kept = put.is_appended.kept;
      no_fault = put.no_fault;
      all = record {
        done = line ∷ [];
        lines_are = refl;
        answered = record {
          answers = put.bytes;
          answers_are = one_answer line put.bytes (subst (AnswersLine line) (sym put.is_written) h);
          taken = put.is_appended.taken_is;
        };
      };
      partly = tt;
      why = tt;
    }
collected_answer (Err e) line answer s t h w failed =
    let begun = w.answer.beginning answer refl in
    record {
      kept = begun.is_appended.kept;
      no_fault = tt;
      all = tt;
      partly = record {
        done = line ∷ [];
        left = [];
        prefix = begun.prefix;
        rest = begun.rest;
        lines_are = refl;
        answers_are = one_answer line (begun.prefix ++ begun.rest) (subst (AnswersLine line) (sym begun.is_written) h);
        taken = begun.is_appended.taken_is;
      };
      why = inl failed;
    }

-- the same, whatever the states of its sink were called
pub pushed_answer : {at other : Mode} {name other_name : GName} {old new : SinkState} (r : Result (Unit {0}) Error)
    (line answer : List ℕ) (s t : SinkState) → s ≡ old → t ≡ new → AnswersLine line answer
    → WritesBytes itself answer r (sink_state at name s) (sink_state other other_name t) (λ b. SinkTakes s b t)
    → IfErr r (λ e. IsOfFailedCall itself e s.faults t.faults) → Answering r (line ∷ []) [] old new
pushed_answer r line answer s t starts ends h w failed =
    rw (← starts, ← ends) (collected_answer r line answer s t h w failed)

none_answered : (lines : List (List ℕ)) (s : SinkState) → Answered lines lines s s
none_answered lines s = record {
  done = [];
  lines_are = refl;
  answered = record { answers = []; answers_are = refl; taken = λ _. sym (append-nil s.taken) };
}

-- what was answered is a beginning
partly_answered : (lines left : List (List ℕ)) (s t : SinkState) → Answered lines left s t → AnsweredPartly lines s t
partly_answered lines left s t h = record {
  done = h.done;
  left = left;
  prefix = h.answered.answers;
  rest = [];
  lines_are = h.lines_are;
  answers_are =
      subst (λ (x : List ℕ). Each AnswersLine h.done x) (sym (append-nil h.answered.answers)) h.answered.answers_are;
  taken = h.answered.taken;
}

-- want of memory for more
pub no_memory : {T : Type 0} (e : Error) (lines mid left : List (List ℕ)) (s t : SinkState) → SinkKept s t
    → t.faults ≡ s.faults → Answered lines mid s t → e ≡ error_of kinds.OutOfMemory
    → Answering {T = T} (Err e) lines left s t
no_memory e lines mid left s t kept same h is = record {
  kept = kept;
  no_fault = tt;
  all = tt;
  partly = partly_answered lines mid s t h;
  why = inr (same, is);
}

pub no_memory_at_first : {T : Type 0} (e : Error) (lines left : List (List ℕ)) (s : SinkState)
    → e ≡ error_of kinds.OutOfMemory → Answering {T = T} (Err e) lines left s s
no_memory_at_first e lines left s is = no_memory e lines lines left s s DeviceKept-same refl (none_answered lines s) is

-- one step after another

Answered-after : (a b d : List (List ℕ)) (s t u : SinkState) → SinkKept s t → Answered a b s t → Answered b d t u
    → Answered a d s u
Answered-after a b d s t u kept h k = record {
  done = h.done ++ k.done;
  lines_are = h.lines_are ∙ (ap (λ (x : List (List ℕ)). h.done ++ x) k.lines_are ∙ sym (append_assoc h.done k.done d));
  answered = record {
    answers = h.answered.answers ++ k.answered.answers;
    answers_are = each_append AnswersLine h.done k.done h.answered.answers k.answered.answers h.answered.answers_are
        k.answered.answers_are;
    taken = taken_after s t u h.answered.answers k.answered.answers kept h.answered.taken k.answered.taken;
  };
}

AnsweredPartly-after : (a b : List (List ℕ)) (s t u : SinkState) → SinkKept s t → Answered a b s t
    → AnsweredPartly b t u → AnsweredPartly a s u
AnsweredPartly-after a b s t u kept h k = record {
  done = h.done ++ k.done;
  left = k.left;
  prefix = h.answered.answers ++ k.prefix;
  rest = k.rest;
  lines_are =
      h.lines_are ∙ (ap (λ (x : List (List ℕ)). h.done ++ x) k.lines_are ∙ sym (append_assoc h.done k.done k.left));
  answers_are = subst (λ (x : List ℕ). Each AnswersLine (h.done ++ k.done) x)
      (sym (append_assoc h.answered.answers k.prefix k.rest))
      (each_append AnswersLine h.done k.done h.answered.answers (k.prefix ++ k.rest) h.answered.answers_are
      k.answers_are);
  taken = taken_after s t u h.answered.answers k.prefix kept h.answered.taken k.taken;
}

pub Answering-after : {T : Type 0} (r : Result T Error) (a b d : List (List ℕ)) (s t u : SinkState) → SinkKept s t
    → t.faults ≡ s.faults → Answered a b s t → Answering r b d t u → Answering r a d s u
Answering-after r a b d s t u kept same h k = record {
  kept = DeviceKept-after kept k.kept;
  no_fault = on_ok_weaker r (λ x. x ∙ same) k.no_fault;
  all = on_ok_weaker r (λ x. Answered-after a b d s t u kept h x) k.all;
  partly = on_err_weaker r (λ x. AnsweredPartly-after a b s t u kept h x) k.partly;
  why = IfErr-weaker r _ _ (λ e x. failure_after e s t u same x) k.why;
}

-- with lines to come after these
with_left : (a b : List (List ℕ)) (left : List (List ℕ)) (s t : SinkState) → Answered a b s t
    → Answered (a ++ left) (b ++ left) s t
with_left a b left s t h = record {
  done = h.done;
  lines_are = ap (λ (x : List (List ℕ)). x ++ left) h.lines_are ∙ append_assoc h.done b left;
  answered = h.answered;
}

partly_with_left : (a : List (List ℕ)) (left : List (List ℕ)) (s t : SinkState) → AnsweredPartly a s t
    → AnsweredPartly (a ++ left) s t
partly_with_left a left s t h = record {
  done = h.done;
  left = h.left ++ left;
  prefix = h.prefix;
  rest = h.rest;
  lines_are = ap (λ (x : List (List ℕ)). x ++ left) h.lines_are ∙ append_assoc h.done h.left left;
  answers_are = h.answers_are;
  taken = h.taken;
}

Answering-with_left : {T : Type 0} (r : Result T Error) (a b left : List (List ℕ)) (s t : SinkState)
    → Answering r a b s t → Answering r (a ++ left) (b ++ left) s t
Answering-with_left r a b left s t h = record {
  kept = h.kept;
  no_fault = h.no_fault;
  all = on_ok_weaker r (λ x. with_left a b left s t x) h.all;
  partly = on_err_weaker r (λ x. partly_with_left a left s t x) h.partly;
  why = h.why;
}

-- the output is flushed
pub flushed : {T : Type 0} (x : T) (y : Unit {0}) (s t : SinkState) → Flushes (Ok y) s t → Answering (Ok x) [] [] s t
flushed x y s t f = record {
  kept = f.kept;
  no_fault = f.no_fault;
  all = record {
    done = [];
    lines_are = refl;
    answered = record { answers = []; answers_are = refl; taken = λ _. f.same_taken ∙ sym (append-nil s.taken) };
  };
  partly = tt;
  why = tt;
}

pub flush_failed : {T : Type 0} (e : Error) (x : StdIoError) (s t : SinkState) → IsIoErrorOf x (kind_of e)
    → Flushes {T = Unit {0}} (Err x) s t → Answering {T = T} (Err e) [] [] s t
flush_failed e x s t is f = record {
  kept = f.kept;
  no_fault = tt;
  all = tt;
  partly = record {
    done = [];
    left = [];
    prefix = [];
    rest = [];
    lines_are = refl;
    answers_are = refl;
    taken = λ _. f.same_taken ∙ sym (append-nil s.taken);
  };
  why = inl (x, f.fault, (kind_of e, is, refl));
}

-- the last line, if it has no line feed

last_line : (pending : List ℕ) → IsFreeOf line_feed pending → 0 < length pending → lines_of pending ≡ pending ∷ []
last_line [] h l = absurd (omega arith)
last_line (b ∷ line) h l = lines_last b line h

pub last_failed : {T : Type 0} (r : Result T Error) (pending : List ℕ) (s t : SinkState) → IsFreeOf line_feed pending
    → 0 < length pending → Answering r (pending ∷ []) [] s t → Answering r (lines_of pending) [] s t
last_failed r pending s t h l k = subst (λ (x : List (List ℕ)). Answering r x [] s t) (sym (last_line pending h l)) k

pub last_answered : {T : Type 0} (r : Result T Error) (pending : List ℕ) (s t u : SinkState)
    → IsFreeOf line_feed pending → 0 < length pending → SinkKept s t → t.faults ≡ s.faults
    → Answered (pending ∷ []) [] s t → Answering r [] [] t u → Answering r (lines_of pending) [] s u
last_answered r pending s t u h l kept same k f =
    last_failed r pending s u h l (Answering-after r (pending ∷ []) [] [] s t u kept same k f)

pub nothing_left : {T : Type 0} (r : Result T Error) (pending : List ℕ) (s t : SinkState) → pending ≡ []
    → Answering r [] [] s t → Answering r (lines_of pending) [] s t
nothing_left r pending s t e k = subst (λ (x : List ℕ). Answering r (lines_of x) [] s t) (sym e) k

-- a line of which the front waited

pub whole_line : {T : Type 0} (r : Result T Error) (longer whole : List ℕ) (s t : SinkState) → longer ≡ whole
    → Answering r (longer ∷ []) [] s t → Answering r (whole ∷ []) [] s t
whole_line r longer whole s t is h = subst (λ (x : List ℕ). Answering r (x ∷ []) [] s t) is h

pub nothing_waits : {T : Type 0} (r : Result T Error) (pending : List ℕ) → pending ≡ [] → OnOk r (pending ≡ [])
nothing_waits (Ok x) pending h = h
nothing_waits (Err e) pending h = tt

-- a piece of the input

-- so much of a piece was answered so far
pub record PieceSoFar (waited piece pending rest : List ℕ) (old new : SinkState) : Type 0 where
  pub kept : SinkKept old new
  pub no_fault : new.faults ≡ old.faults
  pub waits : IsFreeOf line_feed pending
  pub answered : (more : List ℕ)
      → Answered (lines_of (waited ++ (piece ++ more))) (lines_of (pending ++ (rest ++ more))) old new

pub none_of_piece : (waited piece : List ℕ) (s : SinkState) → IsFreeOf line_feed waited
    → PieceSoFar waited piece waited piece s s
none_of_piece waited piece s h = record {
  kept = DeviceKept-same;
  no_fault = refl;
  waits = h;
  answered = λ more. none_answered (lines_of (waited ++ (piece ++ more))) s;
}

module _ (waited piece pending rest line after : List ℕ) (s t u : SinkState)
    (so_far : PieceSoFar waited piece pending rest s t) (split : SplitsAt line_feed rest line after) where
  -- up to a line that ends
  before_line : (more : List ℕ)
      → Answered (lines_of (waited ++ (piece ++ more))) ((pending ++ line) ∷ lines_of (after ++ more)) s t
  before_line more =
      subst (λ (x : List (List ℕ)). Answered (lines_of (waited ++ (piece ++ more))) x s t)
      (lines_split pending rest line after more so_far.waits split)
      (so_far.answered more)

  pub more_of_piece : (cleared : List ℕ) → cleared ≡ [] → SinkKept t u → u.faults ≡ t.faults
      → Answered ((pending ++ line) ∷ []) [] t u → PieceSoFar waited piece cleared after s u
  more_of_piece cleared cleared_is kept same k = record {
    kept = DeviceKept-after so_far.kept kept;
    no_fault = same ∙ so_far.no_fault;
    waits = subst (IsFreeOf line_feed) (sym cleared_is) tt;
    answered = λ more.
        subst (λ (x : List ℕ). Answered (lines_of (waited ++ (piece ++ more))) (lines_of (x ++ (after ++ more))) s u)
        (sym cleared_is)
        (Answered-after (lines_of (waited ++ (piece ++ more))) ((pending ++ line) ∷ lines_of (after ++ more))
        (lines_of (after ++ more)) s t u so_far.kept (before_line more)
        (with_left ((pending ++ line) ∷ []) [] (lines_of (after ++ more)) t u k));
  }

  pub line_failed : {T : Type 0} (e : Error) (left : List (List ℕ)) (more : List ℕ)
      → Answering {T = T} (Err e) ((pending ++ line) ∷ []) [] t u
      → Answering {T = T} (Err e) (lines_of (waited ++ (piece ++ more))) left s u
  line_failed {T} e left more k =
      let r : Result T Error = Err e in
      let whole = Answering-after r (lines_of (waited ++ (piece ++ more)))
      ((pending ++ line) ∷ lines_of (after ++ more)) (lines_of (after ++ more)) s t u so_far.kept so_far.no_fault
      (before_line more) (Answering-with_left r ((pending ++ line) ∷ []) [] (lines_of (after ++ more)) t u k) in
      record { kept = whole.kept; no_fault = tt; all = tt; partly = whole.partly; why = whole.why }

pub fewer_of_piece : (rest line after : List ℕ) → SplitsAt line_feed rest line after → length after < length rest
fewer_of_piece rest line after split =
    let e = ap length split.text_is ∙ length-append line (line_feed ∷ after) in
    omega arith

pub all_of_piece : {T : Type 0} (x : T) (waited piece pending rest longer more : List ℕ) (s t : SinkState)
    → PieceSoFar waited piece pending rest s t → longer ≡ pending ++ rest
    → Answering (Ok x) (lines_of (waited ++ (piece ++ more))) (lines_of (longer ++ more)) s t
all_of_piece x waited piece pending rest longer more s t so_far is = record {
  kept = so_far.kept;
  no_fault = so_far.no_fault;
  all = subst (λ (z : List ℕ). Answered (lines_of (waited ++ (piece ++ more))) (lines_of z) s t)
      (sym (append_assoc pending rest more) ∙ ap (λ (z : List ℕ). z ++ more) (sym is)) (so_far.answered more);
  partly = tt;
  why = tt;
}

-- want of memory for what waits
pub memory_failed : {T : Type 0} (e : Error) (waited piece pending rest : List ℕ) (left : List (List ℕ)) (more : List ℕ)
    (s t : SinkState) → PieceSoFar waited piece pending rest s t → e ≡ error_of kinds.OutOfMemory
    → Answering {T = T} (Err e) (lines_of (waited ++ (piece ++ more))) left s t
memory_failed e waited piece pending rest left more s t so_far is = no_memory e (lines_of (waited ++ (piece ++ more)))
    (lines_of (pending ++ (rest ++ more))) left s t so_far.kept so_far.no_fault (so_far.answered more) is

pub waits_after_piece : (waited piece pending rest longer : List ℕ) (s t : SinkState)
    → PieceSoFar waited piece pending rest s t → IsFreeOf line_feed rest → longer ≡ pending ++ rest
    → IsFreeOf line_feed longer
waits_after_piece waited piece pending rest longer s t so_far h is =
    subst (IsFreeOf line_feed) (sym is) (no_feed_append pending rest so_far.waits h)

-- the whole input

on_ok_under : {T P : Type 0} (Q : Type 0) (r : Result T Error) → (P → OnOk r Q) → OnOk r (P → Q)
on_ok_under Q (Ok x) h = h
on_ok_under Q (Err e) h = tt

on_err_under : {T P : Type 0} (Q : Type 0) (r : Result T Error) → (P → OnErr r Q) → OnErr r (P → Q)
on_err_under Q (Ok x) h = tt
on_err_under Q (Err e) h = h

all_answered : (lines : List (List ℕ)) (s t : SinkState) → Answered lines [] s t → AnsweredAll lines s t
all_answered lines s t h =
    subst (λ (ls : List (List ℕ)). AnsweredAll ls s t) (sym (h.lines_are ∙ append-nil h.done)) h.answered

-- so much of the input was answered so far, in n pieces
pub record RunSoFar (count : ℕ) (pending : List ℕ) (input input_after : SourceState)
    (output output_after : SinkState) : Type 0 where
  pub kept : SourceKept input input_after × SinkKept output output_after
  pub input_no_fault : input_after.faults ≡ input.faults
  pub output_no_fault : output_after.faults ≡ output.faults
  pub waits : IsFreeOf line_feed pending
  pub answered : IsTrue input.tells
      → Answered (lines_of input.remaining) (lines_of (pending ++ input_after.remaining)) output output_after
  pub counted : IsTrue input.tells → count + length input_after.remaining ≤ length input.remaining

pub none_run : (pending : List ℕ) (a : SourceState) (s : SinkState) → pending ≡ [] → RunSoFar 0 pending a a s s
none_run pending a s is = record {
  kept = (DeviceKept-same, DeviceKept-same);
  input_no_fault = refl;
  output_no_fault = refl;
  waits = subst (IsFreeOf line_feed) (sym is) tt;
  answered = λ _. subst (λ (z : List ℕ). Answered (lines_of a.remaining) (lines_of (z ++ a.remaining)) s s) (sym is)
      (none_answered (lines_of a.remaining) s);
  counted = λ _. omega arith;
}

-- why the sink took no more is why the run ended
sink_failed : (e : Error) (a d : SourceState) (s u : SinkState) → d.faults ≡ a.faults → IsSinkFailure e s u
    → IsRunFailure e a d s u
sink_failed e a d s u same (inl h) = inr (inl (h, same))
sink_failed e a d s u same (inr h) = inr (inr (same, h.0, inl h.1))

-- what was pulled
pulled : (n : ℕ) (chunk piece : List ℕ) (a b d : SourceState) → SourceKept a b → Pulls (Ok n) b d chunk
    → piece ≡ take n chunk → IsTrue a.tells → b.remaining ≡ piece ++ d.remaining
pulled n chunk piece a b d kept p is tells =
    p.moved (DeviceKept-told kept tells) ∙ ap (λ (z : List ℕ). z ++ d.remaining) (sym is)

module _ (count : ℕ) (pending : List ℕ) (a b d : SourceState) (s t u : SinkState)
    (so_far : RunSoFar count pending a b s t) where
  kept_by_pull : (r : Result ℕ StdIoError) (chunk : List ℕ) → Pulls r b d chunk → SourceKept a d
  kept_by_pull r chunk p = DeviceKept-after so_far.kept.0 p.kept

  module _ (n : ℕ) (chunk piece : List ℕ) (pull : Pulls (Ok n) b d chunk) (piece_is : piece ≡ take n chunk) where
    -- up to a piece
    before_piece : IsTrue a.tells → Answered (lines_of a.remaining) (lines_of (pending ++ (piece ++ d.remaining))) s t
    before_piece tells =
        subst (λ (z : List ℕ). Answered (lines_of a.remaining) (lines_of (pending ++ z)) s t)
        (pulled n chunk piece a b d so_far.kept.0 pull piece_is tells)
        (so_far.answered tells)

    -- a piece more was answered
    pub more_run : {T : Type 0} (x : T) (waiting : List ℕ) → (n ≡ 0 → ⊥) → IsFreeOf line_feed waiting
        → ((more : List ℕ) → Answering (Ok x) (lines_of (pending ++ (piece ++ more))) (lines_of (waiting ++ more)) t u)
        → RunSoFar (count + 1) waiting a d s u
    more_run x waiting some waits k = record {
      kept = (kept_by_pull (Ok n) chunk pull, DeviceKept-after so_far.kept.1 (k []).kept);
      input_no_fault = pull.no_fault ∙ so_far.input_no_fault;
      output_no_fault = (k []).no_fault ∙ so_far.output_no_fault;
      waits = waits;
      answered = λ tells. Answered-after (lines_of a.remaining) (lines_of (pending ++ (piece ++ d.remaining)))
          (lines_of (waiting ++ d.remaining)) s t u so_far.kept.1 (before_piece tells) (k d.remaining).all;
      counted = λ tells.
          let size =
          ap length (pulled n chunk piece a b d so_far.kept.0 pull piece_is tells) ∙ length-append piece d.remaining in
          let prefix = ap length piece_is ∙ length-take-le n chunk pull.within in
          let counted = so_far.counted tells in
          omega arith;
    }

    -- a piece was not answered
    pub piece_failed : {T : Type 0} (e : Error) (left : List ℕ → List (List ℕ))
        → ((more : List ℕ) → Answering {T = T} (Err e) (lines_of (pending ++ (piece ++ more))) (left more) t u)
        → Runs {T = T} (Err e) a d s u
    piece_failed {T} e left k =
        let r : Result T Error = Err e in
        record {
          kept = (kept_by_pull (Ok n) chunk pull, DeviceKept-after so_far.kept.1 (k []).kept);
          no_fault = tt;
          settled = tt;
          all = tt;
          partly = λ tells. AnsweredPartly-after (lines_of a.remaining) (lines_of (pending ++ (piece ++ d.remaining)))
              s t u
              so_far.kept.1 (before_piece tells) (k d.remaining).partly;
          why = sink_failed e a d s u (pull.no_fault ∙ so_far.input_no_fault)
              (failure_after e s t u so_far.output_no_fault (k []).why);
        }

  -- the input is at its end
  pub input_ended : {T : Type 0} (r : Result T Error) (n : ℕ) (chunk : List ℕ) → Pulls (Ok n) b d chunk → n ≡ 0
      → 0 < length chunk → Answering r (lines_of pending) [] t u → OnOk r (IsTrue u.settled) → Runs r a d s u
  input_ended r n chunk pull none room k settled = record {
    kept = (DeviceKept-after so_far.kept.0 pull.kept, DeviceKept-after so_far.kept.1 k.kept);
    no_fault = on_ok_weaker r (λ x. (pull.no_fault ∙ so_far.input_no_fault, x ∙ so_far.output_no_fault)) k.no_fault;
    settled = settled;
    all = on_ok_under _ r (λ tells. on_ok_weaker r (λ x. all_answered (lines_of a.remaining) s u x) (whole tells).all);
    partly = on_err_under _ r (λ tells. (whole tells).partly);
    why = IfErr-weaker r _ _ (λ e h. sink_failed e a d s u (pull.no_fault ∙ so_far.input_no_fault)
        (failure_after e s t u so_far.output_no_fault h)) k.why;
  } where
    none_remaining : IsTrue a.tells → pending ++ b.remaining ≡ pending
    none_remaining tells = ap (λ (z : List ℕ). pending ++ z) (pull.ends (DeviceKept-told so_far.kept.0 tells) none room)
        ∙ append-nil pending

    whole : IsTrue a.tells → Answering r (lines_of a.remaining) [] s u
    whole tells = Answering-after r (lines_of a.remaining) (lines_of pending) [] s t u so_far.kept.1
        so_far.output_no_fault (subst (λ (z : List ℕ). Answered (lines_of a.remaining) (lines_of z) s t)
        (none_remaining tells) (so_far.answered tells)) k

-- a call of the input failed
pub pull_failed : {T : Type 0} (e : Error) (x : StdIoError) (chunk : List ℕ) (count : ℕ) (pending : List ℕ)
    (a b d : SourceState) (s t : SinkState) → RunSoFar count pending a b s t → IsIoErrorOf x (kind_of e)
    → Pulls (Err x) b d chunk → Runs {T = T} (Err e) a d s t
pull_failed e x chunk count pending a b d s t so_far is pull = record {
  kept = (DeviceKept-after so_far.kept.0 pull.kept, so_far.kept.1);
  no_fault = tt;
  settled = tt;
  all = tt;
  partly = λ tells. partly_answered (lines_of a.remaining) (lines_of (pending ++ b.remaining)) s t
      (so_far.answered tells);
  why = inl ((x, rw so_far.input_no_fault at pull.fault, (kind_of e, is, refl)), so_far.output_no_fault);
}

-- the input did not end
pub too_long : {T : Type 0} (e : Error) (count : ℕ) (pending : List ℕ) (a b : SourceState) (s t : SinkState)
    → RunSoFar count pending a b s t → 2 ^ 64 - 1 ≤ count → e ≡ error_of kinds.OutOfRangeLength
    → Runs {T = T} (Err e) a b s t
too_long e count pending a b s t so_far long is = record {
  kept = so_far.kept;
  no_fault = tt;
  settled = tt;
  all = tt;
  partly = λ tells. partly_answered (lines_of a.remaining) (lines_of (pending ++ b.remaining)) s t
      (so_far.answered tells);
  why = inr (inr (
    so_far.input_no_fault,
    so_far.output_no_fault,
    inr (is, λ tells. let counted = so_far.counted tells in omega arith),
  ));
}
