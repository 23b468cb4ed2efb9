-- How entries are written up to a mark.
use Rattle.std.specs.Prelude.{◌≡◌, ◌++◌, ℕ, List, length, Result, Ok, Err, IsErrAnd, refl}
use Rattle.std.proofs.Common.{inl, inr}
use Rattle.speedy_base.specs.declared.error.Error.{Error}
use Rattle.speedy_base.specs.Mode.{Mode}
use Rattle.speedy_layout.specs.Codecs.{Codec}
use Rattle.speedy_layout.specs.Codes.{coding, Accepts-exact_means}
use Rattle.speedy_layout.specs.Format.{Format}
use Rattle.speedy_layout.specs.Lists.{repeat, repeat_laws}
use Rattle.speedy_layout.specs.Prefixed.{Numbers}
use Rattle.speedy_layout.specs.Sequences.{sequence}
use Rattle.speedy_layout.specs.Until.{until, until_codec, until_joined, until_parts, entry_codec}
use Rattle.speedy_write.specs.Sequences.{Writes-as, first_refused, is_sequence, second_written}
use Rattle.speedy_write.specs.Writing.{WriterState, Writes}

module _ {V : Type 0} (numbers : Numbers) (mark : ℕ) (item : Codec V) where
  abbrev entry : Mode → Format (ℕ × V)
  entry = (entry_codec numbers.codec mark item).format

  abbrev whole : Mode → Format (List (ℕ × V))
  whole = (until_codec numbers mark item).format

  -- so many entries, and the mark
  abbrev both : ℕ → Mode → Format (List (ℕ × V))
  both n mode =
      sequence (λ vs. (vs, mark)) (repeat n (entry mode)) (entry mode).asks (λ _. numbers.codec.format mode)

  module _ {E : Type 0} {gives : Error → E → Type 0} {vs : List (ℕ × V)} {n : ℕ} (many : length vs ≡ n)
      {old new : WriterState} where
    with_mark : {result : Result (Unit {0}) E} {appended : List ℕ → Type 0}
        → Writes gives (both n) vs result old new appended → Writes gives whole vs result old new appended
    unfolding sequence repeat until
    with_mark w =
        Writes-as (λ kind h. elim h [ inl x ↦ inl x | inr x ↦ inr x.1 ])
        (λ b h. rw h.whole_is (until_joined _ _ vs h.prefix h.suffix h.first_is.1 h.second_is))
        (λ b h. let parts = until_parts _ _ vs b h in (
          b,
          record {
            prefix = parts.prefix;
            suffix = parts.suffix;
            whole_is = parts.whole_is;
            first_is = (many, parts.first_is);
            second_is = parts.second_is;
          },
          refl,
        ))
        (λ b h. let parts = until_parts _ _ vs b h in (
          b,
          record {
            prefix = parts.prefix;
            suffix = parts.suffix;
            whole_is = parts.whole_is;
            first_is = (many, parts.first_is);
            second_is = parts.second_is;
          },
        )) w

    -- an entry is refused
    pub entries_refused : {e : E} {result : Result (Unit {0}) E} {appended : List ℕ → Type 0}
        → IsErrAnd result (λ x. x ≡ e)
        → Writes gives (λ mode. repeat n (entry mode)) vs (Err e) old new appended
        → Writes gives whole vs result old new appended
    entries_refused passed w = with_mark (first_refused is_sequence refl passed w)

    -- the mark stands behind them
    pub mark_written : {done : Unit {0}} {result : Result (Unit {0}) E} {mid : WriterState}
        {prefix suffix appended : List ℕ → Type 0} → ((a b : List ℕ) → prefix a → suffix b → appended (a ++ b))
        → Writes gives (λ mode. repeat n (entry mode)) vs (Ok done) old mid prefix
        → Writes gives numbers.codec.format mark result mid new suffix
        → Writes gives whole vs result old new appended
    mark_written join first second =
        with_mark (second_written is_sequence refl
        (λ mode. repeat_laws ((entry_codec numbers.codec mark item).laws mode) n) join first second)

  -- an entry whose number is the mark has no encoding
  pub mark_undecodable : (mode : Mode) (n : ℕ) (v : V) (b : List ℕ) → n ≡ mark → (entry mode).encodes (n, v) b → ⊥
  unfolding sequence coding
  mark_undecodable mode n v b is h = (Accepts-exact_means mode.strict _ _ _ _ h.first_is.stands).1 is
