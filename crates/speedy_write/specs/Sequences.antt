-- Writes of parts make writes of wholes.
use Rattle.std.specs.Prelude.{◌≡◌, ℕ, zero, ◌+◌, List, [], ◌++◌, length, Option, Some, None, Result, Ok, Err}
use Rattle.std.specs.Prelude.{MatchResult, IsErrAnd, refl, Bool}
use Rattle.std.proofs.Common.{sym, ◌∙◌, ap, subst, arith, inl, inr}
use Rattle.std.proofs.lemmas.List.{append_assoc, length-append}
use Rattle.speedy_base.specs.declared.error.ErrorKind.{ErrorKind}
use Rattle.speedy_base.specs.declared.error.Error.{Error}
use Rattle.speedy_base.specs.DeviceLemmas.{fault_after}
use Rattle.speedy_base.specs.Mode.{Mode}
use Rattle.speedy_base.specs.Error.{error_of, IsNamed-more, passed_on}
use Rattle.speedy_base.specs.FailedCalls.{IsOfFault}
use Rattle.speedy_layout.specs.Format.{Format, Parts, Asks, Parts-joined}
use Rattle.speedy_layout.specs.Laws.{Laws}
use Rattle.speedy_layout.specs.Wholes.{WholeLaws, whole_laws}
use Rattle.speedy_layout.specs.Sequences.{sequence}
use Rattle.speedy_layout.specs.Tuples.{unit}
use Rattle.speedy_write.specs.Writing.{WriterKind, WriterState, IsOutOfRange, Fits, less, Kept, Put, Refused, Writes}
use Rattle.speedy_write.specs.Writing.{Begun, WritesBytes}

-- ---- spaces

fits_both : (s : Option ℕ) (a b : ℕ) → Fits a s → Fits b (less s a) → Fits (a + b) s
fits_both None a b h k = tt
fits_both (Some s) a b h k = omega arith

fits_first : (s : Option ℕ) (a b : ℕ) → Fits (a + b) s → Fits a s
fits_first None a b h = tt
fits_first (Some s) a b h = omega arith

fits_second : (s : Option ℕ) (a b : ℕ) → Fits (a + b) s → Fits b (less s a)
fits_second None a b h = tt
fits_second (Some s) a b h = omega arith

less_both : (s : Option ℕ) (a b : ℕ) → less (less s a) b ≡ less s (a + b)
less_both None a b = refl
less_both (Some s) a b = ap Some (omega arith)

less_none : (s : Option ℕ) (a : ℕ) → s ≡ None → less s a ≡ None
less_none None a h = refl
less_none (Some s) a h = absurd (cc)

fits_nothing : (s : Option ℕ) → Fits zero s
fits_nothing None = tt
fits_nothing (Some s) = omega arith

less_nothing : (s : Option ℕ) → s ≡ less s zero
less_nothing None = refl
less_nothing (Some s) = ap Some (omega arith)

-- ---- what is kept and put

-- one write after another keeps what each keeps
pub Kept-after : {a b c : WriterState} → Kept a b → Kept b c → Kept a c
Kept-after h k = record {
  fixed = k.fixed ∙ h.fixed;
  mode = k.mode ∙ h.mode;
  faults = let x = h.faults in let y = k.faults in omega arith;
  waits = λ settled. h.waits (k.waits settled);
}

-- a writer that stays as it is
pub Kept-same : (a : WriterState) → Kept a a
Kept-same a = record { fixed = refl; mode = refl; faults = omega arith; waits = λ settled. settled }

-- what was put, or begun, is said in other words
module _ {writes other appended more : List ℕ → Type 0} (f : (b : List ℕ) → writes b → other b)
    (g : (b : List ℕ) → appended b → more b) where
  Put-with : {old new : WriterState} → Put writes old new appended → Put other old new more
  Put-with p = record {
    bytes = p.bytes;
    is_written = f p.bytes p.is_written;
    is_appended = g p.bytes p.is_appended;
    fits = p.fits;
    space = p.space;
    no_fault = p.no_fault;
  }

  Begun-with : Begun writes appended → Begun other more
  Begun-with x = record {
    prefix = x.prefix;
    rest = x.rest;
    is_written = f (x.prefix ++ x.rest) x.is_written;
    is_appended = g x.prefix x.is_appended;
  }

pub Put-as : {writes other appended : List ℕ → Type 0} {old new : WriterState} → ((b : List ℕ) → writes b → other b)
    → Put writes old new appended → Put other old new appended
Put-as f p = Put-with f (λ _ h. h) p

-- nothing was put
pub Put-nothing : {appended : List ℕ → Type 0} (old : WriterState) → appended [] → Put (λ b. b ≡ []) old old appended
Put-nothing old h = record {
  bytes = [];
  is_written = refl;
  is_appended = h;
  fits = fits_nothing old.space;
  space = less_nothing old.space;
  no_fault = refl;
}

-- one part was put after the other
pub Put-both : {first second prefix suffix whole : List ℕ → Type 0} {old mid new : WriterState}
    → ((a b : List ℕ) → prefix a → suffix b → whole (a ++ b)) → Put first old mid prefix → Put second mid new suffix
    → Put (Parts first second) old new whole
Put-both {old = old} join p q =
    let l = length-append p.bytes q.bytes in
    record {
      bytes = p.bytes ++ q.bytes;
      is_written = Parts-joined p.bytes q.bytes p.is_written q.is_written;
      is_appended = join p.bytes q.bytes p.is_appended q.is_appended;
      fits = subst (λ n. Fits n old.space) (sym l)
          (fits_both old.space (length p.bytes) (length q.bytes) p.fits (subst (Fits (length q.bytes)) p.space q.fits));
      space = q.space ∙ (ap (λ s. less s (length q.bytes)) p.space
          ∙ (less_both old.space (length p.bytes) (length q.bytes) ∙ ap (less old.space) (sym l)));
      no_fault = q.no_fault ∙ p.no_fault;
    }

-- the canonical encodings of a value have one length
pub one_whole_length : {V : Type 0} {strict : Bool} {F : Format V} → WholeLaws strict F → (v : V) (a b : List ℕ)
    → F.writes v a → F.writes v b → length a ≡ length b
one_whole_length laws v a b h k =
    let l = laws.shortest v a b h (laws.written_encodes v b k) in
    let m = laws.shortest v b a k (laws.written_encodes v a h) in
    omega arith

pub one_length : {V : Type 0} {strict : Bool} {least : ℕ} {F : Format V} → Laws strict least F → (v : V) (a b : List ℕ)
    → F.writes v a
    → F.writes v b → length a ≡ length b
one_length laws = one_whole_length (whole_laws laws)

-- ---- the same write in other words

pub IsOutOfRange-more : {E : Type 0} (gives : Error → E → Type 0) {names more : ErrorKind → Type 0} (e : E)
    → ((kind : ErrorKind) → names kind → more kind) → IsOutOfRange gives names e → IsOutOfRange gives more e
IsOutOfRange-more gives e n (inl h) = inl h
IsOutOfRange-more gives e n (inr h) = inr (IsNamed-more gives e n h)

module _ {E : Type 0} {gives : Error → E → Type 0} {U V : Type 0} {F : Mode → Format U} {G : Mode → Format V}
    {u : U} {v : V} {old new : WriterState} {appended : List ℕ → Type 0} where
  -- Between two formats: the canonical encodings of the one are among those of the other, which are as long as one of
  -- these, and what the other encodes the one encodes too.
  pub Writes-as : {result : Result (Unit {0}) E}
      → ((kind : ErrorKind) → (F old.mode).refuses_writing kind → (G old.mode).refuses_writing kind)
      → ((b : List ℕ) → (F old.mode).writes u b → (G old.mode).writes v b)
      → ((b : List ℕ) → (G old.mode).writes v b
      → (d : List ℕ) × (F old.mode).writes u d × (length d ≡ length b))
      → ((b : List ℕ) → (G old.mode).encodes v b → (d : List ℕ) × (F old.mode).encodes u d)
      → Writes gives F u result old new appended → Writes gives G v result old new appended
  Writes-as {result = Ok _} n f g h w = record { kept = w.kept; answer = Put-as f w.answer }
  Writes-as {result = Err e} n f g h w = record {
    kept = w.kept;
    answer = record {
      beginning = λ b k. let d = g b k in Begun-with f (λ _ h. h) (w.answer.beginning d.0 d.1);
      appends = w.answer.appends;
      because = elim w.answer.because [
        | inl x ↦ inl x
        | inr x ↦ inr (record {
          no_fault = x.no_fault;
          no_fit = λ b k fit. let d = g b k in x.no_fit d.0 d.1 (subst (λ (n : ℕ). Fits n old.space) (sym d.2) fit);
          no_encoding = λ s b k. let d = h b k in x.no_encoding s d.0 d.1;
          kind = elim x.kind [ inl y ↦ inl y | inr y ↦ inr (IsOutOfRange-more gives e n y) ];
        })
      ];
    };
  }

module _ {E : Type 0} {gives : Error → E → Type 0} {V : Type 0} {F : Mode → Format V} {v : V}
    {result : Result (Unit {0}) E} {old new : WriterState} {appended : List ℕ → Type 0} where
  -- the bytes of a canonical encoding are written as the value is
  pub whole_form_written : {bytes : List ℕ} → ((mode : Mode) → WholeLaws mode.strict (F mode))
      → (F old.mode).writes v bytes → WritesBytes gives bytes result old new appended
      → Writes gives F v result old new appended
  whole_form_written {bytes = bytes} laws written =
      Writes-as (λ _ k. absurd k) (λ b e. subst ((F old.mode).writes v) (sym e) written)
      (λ b k. (bytes, refl, one_whole_length (laws old.mode) v bytes b written k)) (λ _ _. (bytes, refl))

  pub form_written : {least : ℕ} {bytes : List ℕ} → ((mode : Mode) → Laws mode.strict least (F mode))
      → (F old.mode).writes v bytes → WritesBytes gives bytes result old new appended
      → Writes gives F v result old new appended
  form_written laws = whole_form_written (λ mode. whole_laws (laws mode))

  -- a state that is another one too, from which what was appended is said in other words
  pub Writes-from : {other : WriterState} {more : List ℕ → Type 0} → old ≡ other → ((b : List ℕ) → appended b → more b)
      → Writes gives F v result old new appended → Writes gives F v result other new more
  Writes-from {more = more} same f w = subst (λ (s : WriterState). Writes gives F v result s new more) same (record {
    kept = w.kept;
    answer = by result w.answer;
  }) where
    by : (r : Result (Unit {0}) E)
        → MatchResult r (λ _. Put ((F old.mode).writes v) old new appended)
        (λ e. Refused gives (F old.mode) v e old new appended)
        → MatchResult r (λ _. Put ((F old.mode).writes v) old new more)
        (λ e. Refused gives (F old.mode) v e old new more)
    by (Ok _) p = Put-with (λ _ h. h) f p
    by (Err e) r = record {
      beginning = λ b h. Begun-with (λ _ k. k) f (r.beginning b h);
      appends = (r.appends.0, f r.appends.0 r.appends.1);
      because = r.because;
    }

  -- a mode that was kept
  pub Writes-at : {before : WriterState} → Kept before old → Writes gives F v result old new appended
      → Writes gives (λ _. F before.mode) v result old new appended
  Writes-at k w =
      let here : Writes gives (λ _. F old.mode) v result old new appended = record {
        kept = w.kept;
        answer = w.answer;
      } in
      subst (λ (e : Mode). Writes gives (λ _. F e) v result old new appended) k.mode here

-- no bytes are written
pub unit_written : {E : Type 0} {gives : Error → E → Type 0} {old : WriterState}
    {appended : List ℕ → Type 0} → appended []
    → Writes gives (λ _. unit) tt (Ok tt) old old appended
unfolding unit
unit_written {old = old} h = record { kept = Kept-same old; answer = Put-nothing old h }

-- ---- one part after another

-- a format that is one part after another, under each mode
pub record IsSequence {U V : Type 0} {W : U → Type 0} (split : V → (u : U) × W u) (F : Mode → Format U)
    (asks : Mode → Asks) (G : Mode → (u : U) → Format (W u)) (H : Mode → Format V) : Type 1 where
  pub is : (mode : Mode) → H mode ≡ sequence split (F mode) (asks mode) (G mode)

pub is_sequence : {U V : Type 0} {W : U → Type 0} {split : V → (u : U) × W u} {F : Mode → Format U}
    {asks : Mode → Asks} {G : Mode → (u : U) → Format (W u)}
    → IsSequence split F asks G (λ mode. sequence split (F mode) (asks mode) (G mode))
is_sequence = record { is = λ _. refl }

module _ {E : Type 0} {gives : Error → E → Type 0} {U V : Type 0} {W : U → Type 0} {split : V → (u : U) × W u}
    {F : Mode → Format U}
    {asks : Mode → Asks} {G : Mode → (u : U) → Format (W u)} {H : Mode → Format V} {v : V}
    (sequenced : IsSequence split F asks G H) where
  -- the format is the sequence
  restated : {result : Result (Unit {0}) E} {old new : WriterState} {appended : List ℕ → Type 0}
      → Writes gives (λ _. sequence split (F old.mode) (asks old.mode) (G old.mode)) v result
      old new appended
      → Writes gives H v result old new appended
  restated {result = result} {old = old} {new = new} {appended = appended} w =
      let x =
      subst (λ (L : Format V). Writes gives (λ _. L) v result old new appended) (sym (sequenced.is old.mode)) w in
      record { kept = x.kept; answer = x.answer }

  refused : {e : E} {old new : WriterState} {appended : List ℕ → Type 0}
      → Writes gives F (split v).0 (Err e) old new appended
      → Writes gives (λ _. sequence split (F old.mode) (asks old.mode) (G old.mode)) v (Err e)
      old new appended
  unfolding sequence
  refused {e = e} {old = old} w = record {
    kept = w.kept;
    answer = record {
      beginning = λ b k.
          let x = w.answer.beginning k.prefix k.first_is in
          record {
            prefix = x.prefix;
            rest = x.rest ++ k.suffix;
            is_written = record {
              prefix = x.prefix ++ x.rest;
              suffix = k.suffix;
              whole_is = sym (append_assoc x.prefix x.rest k.suffix);
              first_is = x.is_written;
              second_is = k.second_is;
            };
            is_appended = x.is_appended;
          };
      appends = w.answer.appends;
      because = elim w.answer.because [
        | inl x ↦ inl x
        | inr x ↦ inr (record {
          no_fault = x.no_fault;
          no_fit = λ b k fit. x.no_fit k.prefix k.first_is (fits_first old.space (length k.prefix) (length k.suffix)
              (subst (λ n. Fits n old.space) (ap length k.whole_is ∙ length-append k.prefix k.suffix) fit));
          no_encoding = λ s b k. x.no_encoding s k.prefix k.first_is;
          kind = elim x.kind [ inl y ↦ inl y | inr y ↦ inr (IsOutOfRange-more gives e (λ _ k. inl k) y) ];
        })
      ];
    };
  }

  module _ {old mid new : WriterState} {prefix suffix whole : List ℕ → Type 0}
      (one : (a b : List ℕ) → (F old.mode).writes (split v).0 a → (F old.mode).writes (split v).0 b
      → length a ≡ length b)
      (join : (a b : List ℕ) → prefix a → suffix b → whole (a ++ b))
      (k : Kept old mid) (p : Put ((F old.mode).writes (split v).0) old mid prefix) where
    written : (result : Result (Unit {0}) E)
        → Writes gives (λ _. G old.mode (split v).0) (split v).1 result mid new suffix
        → Writes gives (λ _. sequence split (F old.mode) (asks old.mode) (G old.mode)) v
        result old new whole
    unfolding sequence
    written (Ok _) w = record { kept = Kept-after k w.kept; answer = Put-both join p w.answer }
    written (Err e) w = record {
      kept = Kept-after k w.kept;
      answer = record {
        beginning = λ b h.
            let x = w.answer.beginning h.suffix h.second_is in
            record {
              prefix = p.bytes ++ x.prefix;
              rest = x.rest;
              is_written = record {
                prefix = p.bytes;
                suffix = x.prefix ++ x.rest;
                whole_is = append_assoc p.bytes x.prefix x.rest;
                first_is = p.is_written;
                second_is = x.is_written;
              };
              is_appended = join p.bytes x.prefix p.is_appended x.is_appended;
            };
        appends = let x = w.answer.appends in (p.bytes ++ x.0, join p.bytes x.0 p.is_appended x.1);
        because = elim w.answer.because [
          | inl x ↦
              inl (fault_after gives old.fixed.tells_faults e old.faults mid.faults new.faults p.no_fault
              (subst (λ (kind : WriterKind). IsOfFault gives kind.tells_faults e mid.faults new.faults) k.fixed x))
          | inr x ↦ inr (record {
            no_fault = x.no_fault ∙ p.no_fault;
            no_fit = λ b h fit.
                let l : length b ≡ length p.bytes + length h.suffix =
                let m = one h.prefix p.bytes h.first_is p.is_written in
                let q = ap length h.whole_is ∙ length-append h.prefix h.suffix in
                omega arith in
                x.no_fit h.suffix h.second_is
                (subst (Fits (length h.suffix)) (sym p.space)
                (fits_second old.space (length p.bytes) (length h.suffix) (subst (λ n. Fits n old.space) l fit)));
            no_encoding = λ s b h. x.no_encoding (p.space ∙ less_none old.space (length p.bytes) s) h.suffix
                h.second_is;
            kind = elim x.kind [
              | inl y ↦ inl (
                (λ s. y.0 (p.space ∙ less_none old.space (length p.bytes) s)),
                subst (λ (kind : WriterKind). gives (error_of kind.full) e) k.fixed y.1,
              )
              | inr y ↦ inr (IsOutOfRange-more gives e (λ _ k. inr ((split v).0, k)) y)
            ];
          })
        ];
      };
    }

  module _ {p : (u : U) × W u} (same : split v ≡ p) {old new : WriterState} where
    -- where the first part is refused, the whole is, as `?` passes the refusal on
    pub first_refused : {e : E} {result : Result (Unit {0}) E} {appended : List ℕ → Type 0}
        → IsErrAnd result (λ x. x ≡ e)
        → Writes gives F p.0 (Err e) old new appended → Writes gives H v result old new appended
    first_refused {e = e} {result = result} {appended = appended} passed w =
        subst (λ (r : Result (Unit {0}) E). Writes gives H v r old new appended) (passed_on result e passed)
        (restated (refused (subst (λ (p : (u : U) × W u). Writes gives F p.0 (Err e) old new appended) (sym same) w)))

    -- once the first part is written, the whole is written as the second part is
    pub second_written : {least : ℕ} {done : Unit {0}} {result : Result (Unit {0}) E} {mid : WriterState}
        {prefix suffix whole : List ℕ → Type 0}
        → ((mode : Mode) → Laws mode.strict least (F mode))
        → ((a b : List ℕ) → prefix a → suffix b → whole (a ++ b))
        → Writes gives F p.0 (Ok done) old mid prefix → Writes gives (λ mode. G mode p.0) p.1 result mid new suffix
        → Writes gives H v result old new whole
    second_written {done = done} {result = result} {mid = mid} {prefix = prefix} {suffix = suffix} laws join h w =
        let first = subst (λ (p : (u : U) × W u). Writes gives F p.0 (Ok done) old mid prefix) (sym same) h in
        let second =
        subst (λ (p : (u : U) × W u). Writes gives (λ mode. G mode p.0) p.1 result mid new suffix) (sym same) w in
        restated (written (one_length (laws old.mode) (split v).0) join first.kept first.answer result
        (Writes-at first.kept second))
