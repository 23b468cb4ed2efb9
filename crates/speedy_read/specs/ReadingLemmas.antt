-- What holds of reads and of the states of readers.
use Rattle.std.specs.Prelude.{◌≡◌, ℕ, ◌≤◌, ◌<◌, ◌-◌, ◌^◌, List, [], ◌∷◌, ◌++◌, length, Bool, IsTrue, ◌⊎◌, Result, Ok}
use Rattle.std.specs.Prelude.{Err, IsErrAnd, refl}
use Rattle.std.proofs.Common.{sym, ◌∙◌, ap, subst, arith, inl, inr}
use Rattle.std.proofs.lemmas.List.{append_assoc, length-append}
use Rattle.speedy_base.specs.declared.error.ErrorKind.{ErrorKind}
use Rattle.speedy_base.specs.declared.error.ErrorKind.TheVariants as kinds
use Rattle.speedy_base.specs.declared.error.Error.{Error}
use Rattle.speedy_base.specs.Error.{error_of, is_eof_error, IsNamed-more, passed_on}
use Rattle.speedy_base.specs.Digits.{AreBytes}
use Rattle.speedy_base.specs.DigitsLemmas.{AreBytes-append_parts}
use Rattle.speedy_base.specs.DeviceLemmas.{fault_after}
use Rattle.speedy_base.specs.FailedCalls.{IsOfFault}
use Rattle.speedy_layout.specs.Format.{Format}
use Rattle.speedy_read.specs.Reading.{ReaderKind, ReaderState, Kept, KeptByPeek, Got, Ahead, IsTold, refusing_kinds}
use Rattle.speedy_read.specs.Reading.{Excused, IsEnd, Undecodable, Refused, Reads, Peeks}

-- ---- states

-- a reader that tells its bytes goes on doing so
pub tells_still : {before after : ReaderKind} → after ≡ before → IsTrue before.tells → IsTrue after.tells
tells_still same told = subst (λ (kind : ReaderKind). IsTrue kind.tells) (sym same) told

-- a reader that stays as it is
pub Kept-same : {a : ReaderState} → Kept a a
Kept-same = record { fixed = refl; mode = refl; tidy = λ t. t; faults = omega arith; tail = λ _. ([], refl) }

-- one read after another keeps what each keeps
pub Kept-after : {a b c : ReaderState} → Kept a b → Kept b c → Kept a c
Kept-after {c = c} h k = record {
  fixed = k.fixed ∙ h.fixed;
  mode = k.mode ∙ h.mode;
  tidy = λ t. k.tidy (h.tidy t);
  faults = let x = h.faults in let y = k.faults in omega arith;
  tail = λ told.
      let first = h.tail told in
      let second = k.tail (tells_still h.fixed told) in (
        first.0 ++ second.0,
        first.1 ∙ (ap (λ x. first.0 ++ x) second.1 ∙ sym (append_assoc first.0 second.0 c.remaining)),
      );
}

-- the same of peeks
pub KeptByPeek-same : {a : ReaderState} → KeptByPeek a a
KeptByPeek-same = record { fixed = refl; mode = refl; faults = omega arith; remaining = λ _. refl }

pub KeptByPeek-after : {a b c : ReaderState} → KeptByPeek a b → KeptByPeek b c → KeptByPeek a c
KeptByPeek-after h k = record {
  fixed = k.fixed ∙ h.fixed;
  mode = k.mode ∙ h.mode;
  faults = let x = h.faults in let y = k.faults in omega arith;
  remaining = λ told. k.remaining (tells_still h.fixed told) ∙ h.remaining told;
}

-- bytes that are told to a whole are told to its part, also after a read
pub IsTold-after : {U V : Type 0} {N : Format V} {M : Format U} {old mid : ReaderState} → Kept old mid
    → (IsTrue M.asks.lending → IsTrue N.asks.lending) → IsTold N old → IsTold M mid
IsTold-after {mid = mid} k needs told = record {
  tells = tells_still k.fixed told.tells;
  are_bytes =
      let t = k.tail told.tells in
      (AreBytes-append_parts t.0 mid.remaining (subst AreBytes t.1 told.are_bytes)).1;
  fit =
      let t = k.tail told.tells in
      let l = ap length t.1 ∙ length-append t.0 mid.remaining in
      let f = told.fit in
      omega arith;
  lends = λ need. subst (λ (kind : ReaderKind). IsTrue kind.lends) (sym k.fixed) (told.lends (needs need));
}

pub IsTold-part : {U V : Type 0} {N : Format V} {M : Format U} {old : ReaderState}
    → (IsTrue M.asks.lending → IsTrue N.asks.lending)
    → IsTold N old → IsTold M old
IsTold-part needs told = record {
  tells = told.tells;
  are_bytes = told.are_bytes;
  fit = told.fit;
  lends = λ need. told.lends (needs need);
}

-- of two prefixes of one list, one is a prefix of the other
pub prefixes_nest : (a b c d : List ℕ) → a ++ b ≡ c ++ d → ((r : List ℕ) × (c ≡ a ++ r)) ⊎ ((r : List ℕ) × (a ≡ c ++ r))
prefixes_nest [] b c d e = inl (c, refl)
prefixes_nest (x ∷ a) b [] d e = inr (x ∷ a, refl)
prefixes_nest (x ∷ a) b (y ∷ c) d e =
    let tails : a ++ b ≡ c ++ d = (cc) in
    let heads : x ≡ y = (cc) in
    elim (prefixes_nest a b c d tails) [
      | inl h ↦ inl (h.0, (let l = h.1 in (cc)))
      | inr h ↦ inr (h.0, (let l = h.1 in (cc)))
    ]

-- ---- refusals

-- what `?` passes on is refused as it was
module _ {E : Type 0} {gives : Error → E → Type 0} {eof : E → Bool} {A V : Type 0} {seen : A → V}
    {L : Format V} {e : E} {result : Result A E} {old new : ReaderState} (passed : IsErrAnd result (λ x. x ≡ e)) where
  pub Reads-passed : Reads gives eof seen L (Err e) old new → Reads gives eof seen L result old new
  Reads-passed r = subst (λ (x : Result A E). Reads gives eof seen L x old new) (passed_on result e passed) r

  pub Peeks-passed : Peeks gives eof seen L (Err e) old new → Peeks gives eof seen L result old new
  Peeks-passed r = subst (λ (x : Result A E). Peeks gives eof seen L x old new) (passed_on result e passed) r

-- an error that says that the input ended
pub input_ended : {E : Type 0} (gives : Error → E → Type 0) (eof : E → Bool) (by_device : Bool) (e : E)
    → gives (error_of kinds.UnexpectedEndOfInput) e → IsTrue (eof e) → IsEnd gives eof by_device e
input_ended gives eof by_device e g h = ((kinds.UnexpectedEndOfInput, tt, g), h)

-- an end of input stays one when it is converted, and nothing else becomes one, in each context
abbrev pub KeepsEof : {E : Type 0} → (Error → E → Type 0) → (E → Bool) → Type 0
KeepsEof {E = E} gives eof = (error : Error) (x : E) → gives error x → eof x ≡ is_eof_error error

-- so the error of an end says so
pub ends_input : {E : Type 0} {gives : Error → E → Type 0} {eof : E → Bool} {by_device : Bool} {e : E}
    → KeepsEof gives eof → gives (error_of kinds.UnexpectedEndOfInput) e → IsEnd gives eof by_device e
ends_input {gives = gives} {eof = eof} {by_device = by_device} {e = e} keeps given =
    input_ended gives eof by_device e given (keeps _ e given)

-- what excuses a part that is read from `mid` on, before which no call failed, excuses the whole
pub excused_after : {E : Type 0} (gives : Error → E → Type 0) (takes more : Bool) (e : E) (old mid new : ReaderState)
    → mid.fixed ≡ old.fixed
    → mid.faults ≡ old.faults → (IsTrue takes → IsTrue more) → Excused gives takes e mid new
    → Excused gives more e old new
excused_after gives takes more e old mid new same clean f (inl (g, inl t, none)) = inl (g, inl (f t), none ∙ clean)
excused_after gives takes more e old mid new same clean f (inl (g, inr t, none)) =
    inl (g, inr (subst (λ (kind : ReaderKind). IsTrue kind.asks_memory) same t), none ∙ clean)
excused_after gives takes more e old mid new same clean f (inr h) =
    inr (fault_after gives old.fixed.tells_faults e old.faults mid.faults new.faults clean
    (subst (λ (kind : ReaderKind). IsOfFault gives kind.tells_faults e mid.faults new.faults) same h))

-- what a part is refused with, so is the whole
refusing_more : {U V : Type 0} (L : Format U) (N : Format V) {part whole : Bool} → part ≡ whole
    → (IsTrue L.asks.lending → IsTrue N.asks.lending) → ((kind : ErrorKind) → L.names kind → N.names kind)
    → (kind : ErrorKind) → refusing_kinds L part kind → refusing_kinds N whole kind
refusing_more L N same lends names kind (inl h) = inl (names kind h)
refusing_more L N same lends names kind (inr h) = inr (lends h.0, sym same ∙ h.1, h.2)

-- a part L that is refused from `mid` on refuses the whole N, where what L says of the bytes says it of N
pub part_refused : {E : Type 0} {gives : Error → E → Type 0} {eof : E → Bool} {U V : Type 0} {L : Format U}
    {N : Format V} {e : E} {old mid : ReaderState} (new : ReaderState)
    → mid.fixed ≡ old.fixed → mid.faults ≡ old.faults
    → (IsTrue L.asks.memory → IsTrue N.asks.memory) → (IsTrue L.asks.lending → IsTrue N.asks.lending)
    → ((kind : ErrorKind) → L.names kind → N.names kind)
    → (IsTold N old → (IsTold L mid → Undecodable gives eof L e mid.remaining)
    → Undecodable gives eof N e old.remaining)
    → Excused gives L.asks.memory e mid new ⊎ Refused gives eof L e mid new
    → Excused gives N.asks.memory e old new ⊎ Refused gives eof N e old new
part_refused {gives = gives} {L = L} {N = N} {e = e} {old = old} {mid = mid} new same clean takes lends names un
    (inl x) =
    inl (excused_after gives L.asks.memory N.asks.memory e old mid new same clean takes x)
part_refused {gives = gives} {eof = eof} {L = L} {N = N} {e = e} {old = old} {mid = mid} new same clean takes lends
    names un (inr x) = inr (record {
      no_fault = x.no_fault ∙ clean;
      kind =
          let lent = ap (λ (kind : ReaderKind). kind.lends) same in
          elim x.kind [
            | inl h ↦ inl (subst (λ (kind : ReaderKind). IsEnd gives eof kind.ends_by_device e) same h)
            | inr h ↦ inr (IsNamed-more gives {names = refusing_kinds L mid.fixed.lends}
                {more = refusing_kinds N old.fixed.lends} e (refusing_more L N lent lends names) h)
          ];
      because = λ told. un told x.because;
    })

-- an input that ended before the least size of a format that refuses nothing itself, and no call of the device failed
pub ends_early : {E : Type 0} {gives : Error → E → Type 0} {eof : E → Bool} {V : Type 0} {L : Format V} {e : E}
    {old new : ReaderState}
    → new.faults ≡ old.faults → (least : ℕ) → ((v : V) (s : List ℕ) → L.encodes v s → least ≤ length s)
    → ((bytes : List ℕ) → L.malformed bytes ⊎ L.wrong_length bytes → ⊥)
    → IsEnd gives eof old.fixed.ends_by_device e
    → (IsTrue old.fixed.tells → length old.remaining < 2 ^ 64 - 1 → length old.remaining < least)
    → Refused gives eof L e old new
ends_early clean least size none ended fewer = record {
  no_fault = clean;
  kind = inl ended;
  because = λ told. record {
    no_prefix = λ v prefix rest is h. let k = size v prefix h in let l = ap length is ∙ length-append prefix rest in
        let f = fewer told.tells told.fit in absurd (omega arith);
    too_short = λ _ _ _. ended.1;
    malformed = λ bad. absurd (none _ (inl bad));
    wrong_length = λ wrong. absurd (none _ (inr wrong));
  };
}

-- ---- what was taken

-- no bytes are joined of none
pub no_parts : (a b : List ℕ) → a ++ b ≡ [] → (a ≡ []) × (b ≡ [])
no_parts [] b h = (refl, h)
no_parts (x ∷ a) b h = absurd (cc)

module _ {encoded other : List ℕ → Type 0} {old new : ReaderState} (f : (s : List ℕ) → encoded s → other s) where
  -- what was taken is encoded otherwise too
  pub Got-as : Got encoded old new → Got other old new
  Got-as g = record {
    prefix = g.prefix;
    prefix_is = f g.prefix g.prefix_is;
    taken = g.taken;
    no_fault = g.no_fault;
    untouched = g.untouched;
  }

  pub Ahead-as : Ahead encoded old new → Ahead other old new
  Ahead-as g = record {
    prefix = g.prefix;
    rest = g.rest;
    prefix_is = f g.prefix g.prefix_is;
    stands = g.stands;
    no_fault = g.no_fault;
  }

-- one prefix was taken after the other
pub Got-after : {encoded next more : List ℕ → Type 0} {old mid new : ReaderState} → Kept old mid
    → ((s t : List ℕ) → encoded s → next t → more (s ++ t)) → Got encoded old mid → Got next mid new → Got more old new
Got-after {new = new} kept f g k = record {
  prefix = g.prefix ++ k.prefix;
  prefix_is = f g.prefix k.prefix g.prefix_is k.prefix_is;
  taken = λ told. g.taken told ∙ (ap (λ s. g.prefix ++ s) (k.taken (tells_still kept.fixed told))
      ∙ sym (append_assoc g.prefix k.prefix new.remaining));
  no_fault = k.no_fault ∙ g.no_fault;
  untouched = λ none. let parts = no_parts g.prefix k.prefix none in k.untouched parts.1 ∙ g.untouched parts.0;
}

-- nothing was taken
pub Got-nothing : {encoded : List ℕ → Type 0} {old : ReaderState} → encoded [] → Got encoded old old
Got-nothing h = record { prefix = []; prefix_is = h; taken = λ _. refl; no_fault = refl; untouched = λ _. refl }

-- ---- what was read so far

-- from old to new a prefix was taken that is encoded so
pub record ReadSoFar (encoded : List ℕ → Type 0) (old new : ReaderState) : Type 0 where
  pub kept : Kept old new
  pub got : Got encoded old new

pub none_so_far : {encoded : List ℕ → Type 0} {old : ReaderState} → encoded [] → ReadSoFar encoded old old
none_so_far h = record { kept = Kept-same; got = Got-nothing h }

module _ {E : Type 0} {gives : Error → E → Type 0} {eof : E → Bool} {A V : Type 0} {seen : A → V} {x : A} {L : Format V}
    {encoded : List ℕ → Type 0} where
  -- and a value more
  pub more_so_far : {more : List ℕ → Type 0} {old mid new : ReaderState} → ReadSoFar encoded old mid
      → Reads gives eof seen L (Ok x) mid new
      → ((s t : List ℕ) → encoded s → L.encodes (seen x) t → more (s ++ t)) → ReadSoFar more old new
  more_so_far h r f = record { kept = Kept-after h.kept r.kept; got = Got-after h.kept f h.got r.answer }

  -- the prefix is a value
  pub all_so_far : {old new : ReaderState} → ReadSoFar encoded old new
      → ((s : List ℕ) → encoded s → L.encodes (seen x) s)
      → Reads gives eof seen L (Ok x) old new
  all_so_far h f = record { kept = h.kept; answer = Got-as f h.got }

-- ---- another value of the same format

module _ {E : Type 0} {gives : Error → E → Type 0} {eof : E → Bool} {A B V : Type 0} {seen : A → V} {seen' : B → V}
    {L : Format V} {old new : ReaderState} where
  -- what was refused as one value is refused as another
  pub refused_as : {e : E} {result : Result B E} → IsErrAnd result (λ x. x ≡ e) → Reads gives eof seen L (Err e) old new
      → Reads gives eof seen' L result old new
  refused_as passed r = Reads-passed passed (record { kept = r.kept; answer = r.answer })

  -- and answered, where the same is seen of it
  pub got_as : {x : A} {y : B} → seen' y ≡ seen x → Reads gives eof seen L (Ok x) old new
      → Reads gives eof seen' L (Ok y) old new
  got_as same r = record {
    kept = r.kept;
    answer = Got-as (λ s h. subst (λ (v : V). L.encodes v s) (sym same) h) r.answer;
  }
