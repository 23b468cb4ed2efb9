-- The cases of an enum, each behind a tag: which there are, what is seen of a value, and how it is encoded.
-- Of two cases with one tag the first counts: a value of the second has no encoding.
use Rattle.std.specs.Prelude.{◌≡◌, ℕ, ◌+◌, ◌⊎◌, List, Bool, true, false, nat_eq, Option, Some, None, refl}
use Rattle.std.proofs.Common.{sym, ◌∙◌, ap, subst, arith, inl, inr}
use Rattle.std.proofs.lemmas.Bool.Decides.{eqb_tells}
use Rattle.speedy_base.specs.declared.error.ErrorKind.TheVariants as kinds
use Rattle.speedy_base.specs.Mode.{Mode}
use Rattle.speedy_layout.specs.Format.{Asks, asks_nothing, either_asks, Format, IsOwnKind}
use Rattle.speedy_layout.specs.Laws.{Laws, Laws-less, Codec, Decided, SameWritten, writes_itself}
use Rattle.speedy_layout.specs.Prefixed.{Numbers, Behind}
use Rattle.speedy_layout.specs.Sequences.{AsksAtMost, asks_same, asks_nothing_more, asks_left, asks_right, asks_after}
use Rattle.speedy_layout.specs.Sequences.{sequence, sequence_laws, sequence_written}
use Rattle.speedy_layout.specs.Tuples.{unit, unit_laws}

-- a value that holds a part is known by that
abbrev pub KnownBy : {S V : Type 0} → (S → Option V) → Type 0
KnownBy {S = S} {V = V} part = (s t : S) (v : V) → part s ≡ Some v → part t ≡ Some v → s ≡ t

-- One case of values that are seen as those of `S`.
pub record Choice (S : Type 0) : Type 1 where
  pub Part : Type 0
  -- what a value of the case holds; of other values nothing
  pub part : S → Option Part
  pub known : KnownBy part
  pub codec : Codec Part

-- What stands behind a tag: no case has it, or the case that has it, one without parts apart from others.
pub data AtTag (S : Type 0) : Type 1 where
  no_case : AtTag S
  a_unit : (part : S → Option (Unit {0})) → KnownBy part → AtTag S
  a_case : Choice S → AtTag S

-- ---- formats

-- no value, and the refusal of a tag that no case has
abbrev pub no_value : {V : Type 0} → Format V
no_value = record {
  encodes = λ _ _. ⊥;
  writes = λ _ _. ⊥;
  names = λ kind. kind ≡ kinds.InvalidEnumVariant;
  refuses_writing = λ _. ⊥;
  malformed = λ _. Unit {0};
  wrong_length = λ _. ⊥;
  asks = asks_nothing;
}

-- the values that hold one of a format, encoded as that
abbrev pub holding : {V S : Type 0} → (S → Option V) → Format V → Format S
holding {V = V} part F = record {
  encodes = λ s b. (v : V) × (part s ≡ Some v) × F.encodes v b;
  writes = λ s b. (v : V) × (part s ≡ Some v) × F.writes v b;
  names = F.names;
  refuses_writing = F.refuses_writing;
  malformed = F.malformed;
  wrong_length = F.wrong_length;
  asks = F.asks;
}

-- what stands behind a tag, as a format
abbrev pub case_format : {S : Type 0} → AtTag S → Mode → Format S
case_format no_case f = no_value
case_format (a_unit part known) f = holding part unit
case_format (a_case choice) f = holding choice.part (choice.codec.format f)

no_value_laws : {V : Type 0} {strict : Bool} {least : ℕ} → Laws strict least (no_value {V = V})
no_value_laws = record {
  decodes = λ v w s t r q h k e. absurd h;
  tells = λ v w s t h k. absurd h;
  written_encodes = λ v b h. absurd h;
  written_alone = λ s v b h. absurd h;
  shortest = λ v b c h k. absurd h;
  least_size = λ v b h. absurd h;
  has_written = λ v b h. absurd h;
  one_written = λ u v b c h k. absurd h;
  malformed_undecodable = λ v prefix rest m h. h;
  wrong_length_malformed = λ b h. absurd h;
  names_own = λ kind h. subst IsOwnKind (sym h) tt;
  refuses_own = λ kind h. absurd h;
}

-- a value holds one thing
pub holds_one : {V : Type 0} (o : Option V) (v w : V) → o ≡ Some v → o ≡ Some w → v ≡ w
holds_one o v w e d = cc

-- values are the same where what they hold is
holding_tells : {V S : Type 0} (part : S → Option V) (known : KnownBy part) (s t : S) (v w : V)
    → part s ≡ Some v → part t ≡ Some w → Decided (v ≡ w) → Decided (s ≡ t)
holding_tells part known s t v w is are decided =
    elim decided [
      | inl e ↦ inl (known s t v is (are ∙ ap Some (sym e)))
      | inr n ↦ inr (λ e. n (holds_one (part t) v w (ap part (sym e) ∙ is) are))
    ]

holding_laws : {V S : Type 0} {strict : Bool} {least : ℕ} {F : Format V} (part : S → Option V)
    → KnownBy part → Laws strict least F → Laws strict least (holding part F)
holding_laws {F = F} part known laws = record {
  decodes = λ v w s t r q h k e.
      let d = laws.decodes h.0 k.0 s t r q h.2 k.2 e in
      (known v w k.0 (h.1 ∙ ap Some d.0) k.1, d.1, d.2);
  tells = λ v w s t h k. holding_tells part known v w h.0 k.0 h.1 k.1 (laws.tells h.0 k.0 s t h.2 k.2);
  written_encodes = λ v b h. (h.0, h.1, laws.written_encodes h.0 b h.2);
  written_alone = λ s v b h. (h.0, h.1, laws.written_alone s h.0 b h.2);
  shortest = λ v b c h k.
      laws.shortest h.0 b c h.2 (subst (λ x. F.encodes x c) (holds_one (part v) k.0 h.0 k.1 h.1) k.2);
  least_size = λ v b h. laws.least_size h.0 b h.2;
  has_written = λ v b h. let w = laws.has_written h.0 b h.2 in (w.0, (h.0, h.1, w.1));
  one_written = λ u v b c h k.
      laws.one_written u h.0 b c h.2 (subst (λ x. F.writes x c) (holds_one (part v) k.0 h.0 k.1 h.1) k.2);
  malformed_undecodable = λ v prefix rest m h. laws.malformed_undecodable h.0 prefix rest m h.2;
  wrong_length_malformed = laws.wrong_length_malformed;
  names_own = laws.names_own;
  refuses_own = laws.refuses_own;
}

pub case_laws : {S : Type 0} (at_tag : AtTag S) (f : Mode) → Laws f.strict 0 (case_format at_tag f)
case_laws no_case f = no_value_laws
case_laws (a_unit part known) f = holding_laws part known unit_laws
case_laws (a_case choice) f =
    Laws-less (omega arith) (holding_laws choice.part choice.known (choice.codec.laws f))

-- ---- several cases

-- the value is of the case
abbrev pub IsOf : {S : Type 0} → AtTag S → S → Type 0
IsOf no_case s = ⊥
IsOf (a_unit part known) s = (v : Unit {0}) × (part s ≡ Some v)
IsOf (a_case choice) s = (v : choice.Part) × (choice.part s ≡ Some v)

-- Several cases, each with its tag.
pub record Choices (S : Type 0) : Type 1 where
  -- the tag of the case that a value is of
  pub tag : S → ℕ
  -- what stands behind a tag
  pub case_of : ℕ → AtTag S
  -- what any of the cases asks
  pub asks : Mode → Asks
  pub within : (f : Mode) (n : ℕ) → AsksAtMost (case_format (case_of n) f).asks (asks f)
  -- a value stands behind the tag of its own case alone
  pub is_tag : (n : ℕ) (s : S) → IsOf (case_of n) s → tag s ≡ n

-- ---- one case

-- Of what two cases or tags stand for only one is computed, so each stands behind a `λ`.
abbrev pub only_if : {V : Type 0} → Bool → (Unit {0} → AtTag V) → AtTag V
only_if true at_tag = at_tag tt
only_if false at_tag = no_case

pub only_if_within : {V : Type 0} (b : Bool) (at_tag : Unit {0} → AtTag V) (f : Mode) (asks : Asks)
    → AsksAtMost (case_format (at_tag tt) f).asks asks → AsksAtMost (case_format (only_if b at_tag) f).asks asks
only_if_within true at_tag f asks within = within
only_if_within false at_tag f asks within = asks_nothing_more

-- a test that says so is of the tag
is_tag : (n tag : ℕ) → nat_eq n tag ≡ true → n ≡ tag
is_tag n tag e = elim (eqb_tells n tag) [ inl h ↦ h.1 | inr h ↦ absurd (let f = h.0 in cc) ]

only_if_tag : {V : Type 0} (b : Bool) (at_tag : Unit {0} → AtTag V) (n tag : ℕ) → (b ≡ true → n ≡ tag) → (v : V)
    → IsOf (only_if b at_tag) v → tag ≡ n
only_if_tag true at_tag n tag same v h = sym (same refl)
only_if_tag false at_tag n tag same v h = absurd h

pub only_its_tag : {V : Type 0} (at_tag : Unit {0} → AtTag V) (n tag : ℕ) (v : V)
    → IsOf (only_if (nat_eq n tag) at_tag) v → tag ≡ n
only_its_tag at_tag n tag v h = only_if_tag (nat_eq n tag) at_tag n tag (is_tag n tag) v h

pub unit_within : AsksAtMost (unit.asks) asks_nothing
unfolding unit
unit_within = asks_same

pub known_whole : {V : Type 0} → KnownBy (λ (v : V). Some v)
known_whole s t v is are = cc

abbrev pub whole_unit : Unit {0} → AtTag (Unit {0})
whole_unit _ = a_unit (λ v. Some v) known_whole

abbrev pub whole_case : {V : Type 0} → Codec V → Unit {0} → AtTag V
whole_case {V = V} codec _ = a_case (record { Part = V; part = λ v. Some v; known = known_whole; codec = codec })

-- a case with this tag, and no parts
abbrev pub unit_case : ℕ → Choices (Unit {0})
unit_case tag = record {
  tag = λ _. tag;
  case_of = λ n. only_if (nat_eq n tag) (λ u. whole_unit u);
  asks = λ _. asks_nothing;
  within = λ f n. only_if_within (nat_eq n tag) (λ u. whole_unit u) f asks_nothing unit_within;
  is_tag = λ n. only_its_tag (λ u. whole_unit u) n tag;
}

-- a case with this tag
abbrev pub one_case : {V : Type 0} → ℕ → Codec V → Choices V
one_case tag codec = record {
  tag = λ _. tag;
  case_of = λ n. only_if (nat_eq n tag) (λ u. whole_case codec u);
  asks = λ f. (codec.format f).asks;
  within = λ f n. only_if_within (nat_eq n tag) (λ u. whole_case codec u) f (codec.format f).asks asks_same;
  is_tag = λ n. only_its_tag (λ u. whole_case codec u) n tag;
}

-- ---- the cases of a first group, and those of a second one

-- the tag of a value of either group
abbrev pub either_tag : {V W : Type 0} → (V → ℕ) → (W → ℕ) → V ⊎ W → ℕ
either_tag first second (inl v) = first v
either_tag first second (inr w) = second w

abbrev pub left_part : {V W P : Type 0} → (V → Option P) → V ⊎ W → Option P
left_part part (inl v) = part v
left_part part (inr w) = None

abbrev pub right_part : {V W P : Type 0} → (W → Option P) → V ⊎ W → Option P
right_part part (inl v) = None
right_part part (inr w) = part w

pub left_known : {V W P : Type 0} (part : V → Option P) → KnownBy part
    → (s t : V ⊎ W) (p : P) → left_part part s ≡ Some p → left_part part t ≡ Some p → s ≡ t
left_known part known (inl v) (inl w) p is are = ap inl (known v w p is are)
left_known part known (inl v) (inr w) p is are = absurd (cc)
left_known part known (inr v) t p is are = absurd (cc)

pub right_known : {V W P : Type 0} (part : W → Option P) → KnownBy part
    → (s t : V ⊎ W) (p : P) → right_part part s ≡ Some p → right_part part t ≡ Some p → s ≡ t
right_known part known (inr v) (inr w) p is are = ap inr (known v w p is are)
right_known part known (inr v) (inl w) p is are = absurd (cc)
right_known part known (inl v) t p is are = absurd (cc)

-- a case of the first group, or of the second one, as one of both
abbrev pub left_case : {V W : Type 0} → AtTag V → AtTag (V ⊎ W)
left_case no_case = no_case
left_case (a_unit part known) = a_unit (left_part part) (left_known part known)
left_case (a_case choice) = a_case (record {
  Part = choice.Part;
  part = left_part choice.part;
  known = left_known choice.part choice.known;
  codec = choice.codec;
})

abbrev pub right_case : {V W : Type 0} → AtTag W → AtTag (V ⊎ W)
right_case no_case = no_case
right_case (a_unit part known) = a_unit (right_part part) (right_known part known)
right_case (a_case choice) = a_case (record {
  Part = choice.Part;
  part = right_part choice.part;
  known = right_known choice.part choice.known;
  codec = choice.codec;
})

-- the case of the first group, or else that of the second
abbrev pub first_of : {V W : Type 0} → AtTag V → (Unit {0} → AtTag W) → AtTag (V ⊎ W)
first_of no_case second = right_case (second tt)
first_of first _ = left_case first

right_within : (V : Type 0) {W : Type 0} (w : AtTag W) (more : Asks) (f : Mode)
    → AsksAtMost (case_format w f).asks more
    → (let second : AtTag (V ⊎ W) = right_case w in AsksAtMost (case_format second f).asks more)
right_within V no_case more f within = within
right_within V (a_unit _ _) more f within = within
right_within V (a_case _) more f within = within

pub first_of_within : {V W : Type 0} (v : AtTag V) (w : Unit {0} → AtTag W) (asks more : Asks) (f : Mode)
    → AsksAtMost (case_format v f).asks asks → AsksAtMost (case_format (w tt) f).asks more
    → AsksAtMost (case_format (first_of v w) f).asks (either_asks asks more)
first_of_within {V = V} no_case w asks more f first second =
    asks_after (right_within V (w tt) more f second) (asks_right asks more)
first_of_within (a_unit _ _) w asks more f first second = asks_after first (asks_left asks more)
first_of_within (a_case _) w asks more f first second = asks_after first (asks_left asks more)

left_is : {V W P : Type 0} (part : V → Option P) (first : V → ℕ) (second : W → ℕ) (n : ℕ)
    → ((s : V) → (p : P) × (part s ≡ Some p) → first s ≡ n) → (s : V ⊎ W)
    → (p : P) × (left_part part s ≡ Some p) → either_tag first second s ≡ n
left_is part first second n one (inl s) h = one s h
left_is part first second n one (inr s) h = absurd (let e = h.1 in cc)

right_is : {V W P : Type 0} (part : W → Option P) (first : V → ℕ) (second : W → ℕ) (n : ℕ)
    → ((s : W) → (p : P) × (part s ≡ Some p) → second s ≡ n) → (s : V ⊎ W)
    → (p : P) × (right_part part s ≡ Some p) → either_tag first second s ≡ n
right_is part first second n other (inl s) h = absurd (let e = h.1 in cc)
right_is part first second n other (inr s) h = other s h

right_of_tag : {V W : Type 0} (w : AtTag W) (first : V → ℕ) (second : W → ℕ) (n : ℕ)
    → ((s : W) → IsOf w s → second s ≡ n) → (s : V ⊎ W) → IsOf (right_case w) s → either_tag first second s ≡ n
right_of_tag no_case first second n other s h = absurd h
right_of_tag (a_unit part _) first second n other s h = right_is part first second n other s h
right_of_tag (a_case choice) first second n other s h = right_is choice.part first second n other s h

pub first_of_tag : {V W : Type 0} (v : AtTag V) (w : Unit {0} → AtTag W) (first : V → ℕ) (second : W → ℕ) (n : ℕ)
    → ((s : V) → IsOf v s → first s ≡ n) → ((s : W) → IsOf (w tt) s → second s ≡ n)
    → (s : V ⊎ W) → IsOf (first_of v w) s → either_tag first second s ≡ n
first_of_tag (a_unit part _) w first second n one other s h = left_is part first second n one s h
first_of_tag (a_case choice) w first second n one other s h = left_is choice.part first second n one s h
first_of_tag no_case w first second n one other s h = right_of_tag (w tt) first second n other s h

abbrev pub either_case : {V W : Type 0} → Choices V → Choices W → Choices (V ⊎ W)
either_case first second = record {
  tag = either_tag first.tag second.tag;
  case_of = λ n. first_of (first.case_of n) (λ _. second.case_of n);
  asks = λ f. either_asks (first.asks f) (second.asks f);
  within = λ f n. first_of_within (first.case_of n) (λ _. second.case_of n) (first.asks f) (second.asks f) f
      (first.within f n) (second.within f n);
  is_tag = λ n. first_of_tag (first.case_of n) (λ _. second.case_of n) first.tag second.tag n (first.is_tag n)
      (second.is_tag n);
}

-- ---- behind a tag

-- a value's tag, and the value
abbrev pub tagged_parts : {V : Type 0} → (V → ℕ) → V → ℕ × V
tagged_parts tag v = (tag v, v)

-- a tag, which is encoded as a format of numbers says, and then a value of its case
abbrev pub tagged : {V : Type 0} → (Mode → Format ℕ) → Choices V → Mode → Format V
tagged number choices f =
    sequence (tagged_parts choices.tag) (number f) (choices.asks f) (λ n. case_format (choices.case_of n) f)

pub tagged_laws : {V : Type 0} (number : Codec ℕ) (choices : Choices V) (f : Mode)
    → Laws f.strict number.least (tagged number.format choices f)
tagged_laws {V = V} number choices f =
    Laws-less {n = number.least + 0} (omega arith)
    (sequence_laws {n = number.least} {m = 0} (number.laws f) (λ n. case_laws (choices.case_of n) f)
    (choices.within f) (λ v w e. ap (λ (p : ℕ × V). p.1) e))

pub case_written : {S : Type 0} (at_tag : AtTag S) → SameWritten (case_format at_tag)
case_written no_case f strict = writes_itself
case_written (a_unit part known) f strict = writes_itself
case_written (a_case choice) f strict =
    record { too = λ s b h. (h.0, h.1, (choice.codec.same_written f strict).too h.0 b h.2) }

pub tagged_written : {V : Type 0} (number : Codec ℕ) (choices : Choices V)
    → SameWritten (tagged number.format choices)
tagged_written number choices f strict =
    sequence_written (tagged_parts choices.tag) _ _ (number.same_written f strict)
    (λ n. case_written (choices.case_of n) f strict)

abbrev pub choices_behind : {V : Type 0} → Choices V → (numbers : Numbers) → Behind numbers V
choices_behind choices numbers = record {
  format = tagged numbers.codec.format choices;
  laws = tagged_laws numbers.codec choices;
  same_written = tagged_written numbers.codec choices;
}

-- what encodes a value of a case behind its tag
pub case_is_tag : {S : Type 0} (at_tag : AtTag S) (f : Mode) (s : S) (b : List ℕ)
    → (case_format at_tag f).encodes s b → IsOf at_tag s
case_is_tag no_case f s b h = absurd h
case_is_tag (a_unit part known) f s b h = (h.0, h.1)
case_is_tag (a_case choice) f s b h = (h.0, h.1)
