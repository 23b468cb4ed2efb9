-- Keys of one's own: the equality that a struct or an enum derives holds exactly where the same is seen.
use Rattle.std.specs.Prelude.{◌≡◌, Bool, true, false, ◌&&◌, IsTrue, ◌↔◌, refl}
use Rattle.std.proofs.Common.{sym, ◌∙◌, ap, ap₂, true≢false}
use denote.Enum.Bare.{Bare, sameb, same_true, true_same}
use denote.Enum.Declared.{Declared}
use Rattle.speedy_layout.specs.Equality.{Tells, TellsApart}

-- The answer on parts, given the answer on those behind them, as a struct's derived equality has it.
abbrev pub TellsBefore : {V : Type 0} → (Bool → Bool) → V → V → Type 0
TellsBefore answer v w = (behind : Bool) → IsTrue (answer behind) ↔ ((v ≡ w) × IsTrue behind)

both_true : (a b : Bool) → IsTrue (a && b) → IsTrue a × IsTrue b
both_true true b h = (refl, h)
both_true false b h = absurd (true≢false (sym h))

and_true : (a b : Bool) → IsTrue a → IsTrue b → IsTrue (a && b)
and_true true b h k = k
and_true false b h k = absurd (true≢false (sym h))

-- a group of one part
pub group_of : {V : Type 0} {b : Bool} {v w : V} → Tells b v w → TellsBefore (λ behind. b && behind) v w
group_of {b = b} t behind = (
  λ h. let both = both_true b behind h in (t.0 both.0, both.1),
  λ e. and_true b behind (t.1 e.0) e.1,
)

-- a group, and those behind it, which are the last ones
pub group_then : {U V : Type 0} {answer : Bool → Bool} {b : Bool} {t u : U} {v w : V}
    → TellsBefore answer t u → Tells b v w
    → let one : U × V = (t, v) in let other : U × V = (u, w) in Tells (answer b) one other
group_then {U} {V} {b = b} group rest = (
  λ h. let both = (group b).0 h in
      ap₂ (λ (x : U) (y : V). let r : U × V = (x, y) in r) both.0 (rest.0 both.1),
  λ e. (group b).1 (ap (λ (p : U × V). p.0) e, rest.1 (ap (λ (p : U × V). p.1) e)),
)

-- a group in a group, and the group of those behind it there
pub groups : {U V : Type 0} {answer others : Bool → Bool} {t u : U} {v w : V}
    → TellsBefore answer t u → TellsBefore others v w
    → let one : U × V = (t, v) in let other : U × V = (u, w) in TellsBefore (λ behind. answer (others behind)) one other
groups {U} {V} {others = others} group rest behind = (
  λ h. let both = (group (others behind)).0 h in
      let last = (rest behind).0 both.1 in
      (ap₂ (λ (x : U) (y : V). let r : U × V = (x, y) in r) both.0 last.0, last.1),
  λ e. (group (others behind)).1 (ap (λ (p : U × V). p.0) e.0, (rest behind).1 (ap (λ (p : U × V). p.1) e.0, e.1)),
)

-- one part, and those behind it, which are the last ones
pub part_then : {U V : Type 0} {a b : Bool} {t u : U} {v w : V}
    → Tells a t u → Tells b v w
    → let one : U × V = (t, v) in let other : U × V = (u, w) in Tells (a && b) one other
part_then part rest = group_then (group_of part) rest

-- an enum without parts: equal is what has one tag, and what is seen of a value tells it
pub unit_cases_tell : {V : Type 0} (D : Declared) → Bare D.parts → {seen : D.D → V} (told : V → D.D)
    → ((x : D.D) → told (seen x) ≡ x) → TellsApart (sameb D) seen
unit_cases_tell D bare {seen} told back x y = (
  λ h. ap seen (same_true D bare x y h),
  λ e. true_same D x y (sym (back x) ∙ ap told e ∙ back y),
)
