-- The codec of what a list of items gathers to, where several lists may stand for one thing: maps and sets.
use Rattle.std.specs.Prelude.{◌≡◌, ℕ, ◌+◌, ◌≤◌, List, [], ◌∷◌, ◌++◌, length, Bool, true, false, refl}
use Rattle.std.proofs.Common.{sym, ◌∙◌, ap, subst, inl, inr, arith}
use Rattle.std.proofs.lemmas.List.{length-append}
use Rattle.speedy_base.specs.Mode.{Mode}
use Rattle.speedy_layout.specs.Format.{Format, Each, Parts-joined}
use Rattle.speedy_layout.specs.Laws.{Laws, Codec, Laws-asking, Decided, WritesToo}
use Rattle.speedy_layout.specs.Codes.{Codebook, Coded, IsCode, coding, coding_laws, coding_written}
use Rattle.speedy_layout.specs.Numbers.{WritesSmaller}
use Rattle.speedy_layout.specs.Owned.{owned_content}
use Rattle.speedy_layout.specs.Prefixed.{Numbers, Behind}
use Rattle.speedy_layout.specs.Sequences.{sequence}
use Rattle.speedy_layout.specs.Lists.{prefixed_list, prefixed_list_laws, repeat, vector, each_shortest, each_tells}
use Rattle.speedy_layout.specs.Lists.{prefixed_list_written}
use Rattle.speedy_layout.specs.Members.{IsIn, AreDistinct, IsIn-left, IsIn-right, IsIn-either, IsIn-around}

-- What makes it lawful that lists stand for things, and that some lists are written. A list that stands for a thing and
-- is written is a form of it.
pub record IsGathering {E S : Type 0} (hashed : Bool) (stands : List E → S → Type 0)
    (written : List E → Type 0) : Type 0 where
  -- a list stands for at most one thing
  pub one_thing : (xs : List E) (s t : S) → stands xs s → stands xs t → s ≡ t
  -- no item stands twice in a list that is written
  pub form_distinct : (xs : List E) → written xs → AreDistinct xs
  -- a form lies inside every list that stands for the same thing
  pub form_inside : (xs ys : List E) (s : S) → written xs → stands xs s → stands ys s → (e : E) → IsIn e xs → IsIn e ys
  -- a thing has one form at most, where it is not hashed
  pub one_form : hashed ≡ false → (xs ys : List E) (s : S) → written xs → written ys → stands xs s
      → stands ys s → xs ≡ ys
  -- and where it is, things are the same whose forms have the same items
  pub one_hashed : hashed ≡ true → (xs ys : List E) (s t : S) → written xs → written ys → stands xs s → stands ys t
      → ((e : E) → IsIn e xs → IsIn e ys) → ((e : E) → IsIn e ys → IsIn e xs) → s ≡ t

-- a thing that some list with an encoding stands for has a form
abbrev pub HasForms : {E S : Type 0} → Format E → (List E → S → Type 0) → (List E → Type 0) → Type 0
HasForms {E = E} {S = S} L stands written =
    (ys : List E) (bytes : List ℕ) (s : S) → Each L.encodes ys bytes → stands ys s → (xs : List E) × stands xs s
    × written xs

-- a list is read as the thing that it stands for, and one that is a form is written
abbrev pub gathering : {E S : Type 0} → (List E → S → Type 0) → (List E → Type 0) → Codebook (List E) S
gathering stands written = record { means = stands; chosen = λ xs s. stands xs s × written xs; refusals = λ _. ⊥ }

-- the items of a thing that has no order of its own
unfoldable pub hashed_items : {V : Type 0} → Format V → Format V
hashed_items F = record F { asks = record F.asks { hashed = true } }

-- the list of the items, with a count before it, which is encoded as a format of numbers says
abbrev pub items_of : {E : Type 0} → Bool → Format ℕ → Format E → Format (List E)
items_of false count L = prefixed_list count L
items_of true count L = hashed_items (prefixed_list count L)

-- things that are encoded as the counted list of some items that gather to them
abbrev pub gathered : {E S : Type 0} → Bool → Mode → Format ℕ → (List E → S → Type 0) → (List E → Type 0)
    → Format E → Format S
gathered hashed mode count stands written L = coding mode (gathering stands written) (items_of hashed count L)

pub hashed_items_laws : {V : Type 0} {strict : Bool} {least : ℕ} {F : Format V} → Laws strict least F
    → Laws strict least (hashed_items F)
unfolding hashed_items
hashed_items_laws {F = F} laws = Laws-asking (record F.asks { hashed = true }) (λ e. absurd (cc)) (omega arith) laws

-- ---- the encoding of what lies inside a list

-- the encoding of one item of a list, and of the others
record Taken {V : Type 0} (encodes : V → List ℕ → Type 0) (v : V) (others : List V) (bytes : List ℕ) : Type 0 where
  item : List ℕ
  item_is : encodes v item
  rest : List ℕ
  rest_is : Each encodes others rest
  size_is : length bytes ≡ length item + length rest

-- an encoding of these items, no longer than the bytes
pub record Within {V : Type 0} (encodes : V → List ℕ → Type 0) (xs ys : List V) (bytes : List ℕ) : Type 0 where
  pub shorter : List ℕ
  pub encoded : Each encodes xs shorter
  pub size : length shorter ≤ length bytes
  pub count : length xs ≤ length ys

module _ {V : Type 0} (encodes : V → List ℕ → Type 0) where
  take_item : (v : V) (before after : List V) (bytes : List ℕ) → Each encodes (before ++ v ∷ after) bytes
      → Taken encodes v (before ++ after) bytes
  take_item v [] after bytes h = record {
    item = h.prefix;
    item_is = h.first_is;
    rest = h.suffix;
    rest_is = h.second_is;
    size_is = ap length h.whole_is ∙ length-append h.prefix h.suffix;
  }
  take_item v (u ∷ before) after bytes h =
      let t = take_item v before after h.suffix h.second_is in
      let l = ap length h.whole_is ∙ length-append h.prefix h.suffix in
      let m = length-append h.prefix t.rest in
      let n = t.size_is in
      record {
        item = t.item;
        item_is = t.item_is;
        rest = h.prefix ++ t.rest;
        rest_is = Parts-joined h.prefix t.rest h.first_is t.rest_is;
        size_is = omega arith;
      }

  -- an item of others that are distinct from v stands beside v
  beside : (v : V) (xs before after : List V) → (IsIn v xs → ⊥) → (u : V) → IsIn u xs → IsIn u (before ++ v ∷ after)
      → IsIn u (before ++ after)
  beside v xs before after absent u h k =
      elim (IsIn-either u before (v ∷ after) k) [
        | inl x ↦ IsIn-left u before after x
        | inr x ↦ elim x [ inl e ↦ absurd (absent (subst (λ w. IsIn w xs) e h)) | inr y ↦ IsIn-right u before after y ]
      ]

  -- distinct items that lie inside a list are encoded in no more bytes than the list, and are no more
  pub encoded_within : (xs ys : List V) (bytes : List ℕ) → AreDistinct xs → ((v : V) → IsIn v xs → IsIn v ys)
      → Each encodes ys bytes
      → Within encodes xs ys bytes
  encoded_within [] ys bytes d inside h = record {
    shorter = [];
    encoded = refl;
    size = omega arith;
    count = omega arith;
  }
  encoded_within (x ∷ xs) ys bytes d inside h =
      let a = IsIn-around x ys (inside x (inl refl)) in
      let t = take_item x a.before a.after bytes (subst (λ zs. Each encodes zs bytes) a.whole_is h) in
      let w =
      encoded_within xs (a.before ++ a.after) t.rest d.1
      (λ v k. beside x xs a.before a.after d.0 v k (subst (IsIn v) a.whole_is (inside v (inr k))))
      t.rest_is in
      let l = t.size_is in
      let m = length-append t.item w.shorter in
      let n = w.size in
      let c = w.count in
      let p = ap length a.whole_is ∙ length-append a.before (x ∷ a.after) in
      let q = length-append a.before a.after in
      record {
        shorter = t.item ++ w.shorter;
        encoded = Parts-joined t.item w.shorter t.item_is w.encoded;
        size = omega arith;
        count = omega arith;
      }

-- ---- whether an item is among others

module _ {V : Type 0} {strict : Bool} {least : ℕ} {F : Format V} (laws : Laws strict least F) where
  -- that is decided of items that have encodings
  pub in_decided : (x : V) (ys : List V) (s t : List ℕ) → F.encodes x s → Each F.encodes ys t → Decided (IsIn x ys)
  in_decided x [] s t h k = inr (λ n. n)
  in_decided x (y ∷ ys) s t h k =
      elim (laws.tells x y s k.prefix h k.first_is) [
        | inl e ↦ inl (inl e)
        | inr first ↦ elim (in_decided x ys s k.suffix h k.second_is) [
          | inl i ↦ inl (inr i)
          | inr n
              ↦ inr (λ i. elim i [ inl e ↦ first e | inr j ↦ n j ])
        ]
      ]

  -- and so it is of all of them
  inside_decided : (xs ys : List V) (s t : List ℕ) → Each F.encodes xs s → Each F.encodes ys t
      → Decided ((x : V) → IsIn x xs → IsIn x ys)
  inside_decided [] ys s t h k = inl (λ x n. absurd n)
  inside_decided (x ∷ xs) ys s t h k =
      elim (in_decided x ys h.prefix t h.first_is k) [
        | inl first ↦
            elim (inside_decided xs ys h.suffix t h.second_is k) [
              | inl more ↦ inl (λ z i. elim i [ inl e ↦ subst (λ w. IsIn w ys) (sym e) first | inr j ↦ more z j ])
              | inr n ↦ inr (λ all. n (λ z i. all z (inr i)))
            ]
        | inr n ↦ inr (λ all. n (all x (inl refl)))
      ]

-- Whether two things are the same is decided by forms that are encoded: by their order, and where things are hashed, by
-- their items.
pub forms_tell : {E S : Type 0} (hashed : Bool) {kind : Bool} → kind ≡ hashed → {stands : List E → S → Type 0}
    {written : List E → Type 0} {strict : Bool} {least : ℕ} {L : Format E} → Laws strict least L
    → IsGathering kind stands written → (xs ys : List E) (b d : List ℕ) → Each L.encodes xs b → Each L.encodes ys d
    → (s t : S) → stands xs s × written xs → stands ys t × written ys → Decided (s ≡ t)
forms_tell false ordered {stands = stands} laws is xs ys b d h k s t x y =
    elim (each_tells laws xs ys b d h k) [
      | inl e ↦ inl (is.one_thing ys s t (subst (λ zs. stands zs s) e x.0) y.0)
      | inr n ↦ inr (λ e. n (is.one_form ordered xs ys t x.1 y.1 (subst (stands xs) e x.0) y.0))
    ]
forms_tell true unordered {stands = stands} laws is xs ys b d h k s t x y =
    elim (inside_decided laws xs ys b d h k) [
      | inl there ↦
          elim (inside_decided laws ys xs d b k h) [
            | inl suffix ↦ inl (is.one_hashed unordered xs ys s t x.1 y.1 x.0 y.0 there suffix)
            | inr n ↦ inr (λ e. n (is.form_inside ys xs t y.1 y.0 (subst (stands xs) e x.0)))
          ]
      | inr n ↦ inr (λ e. n (is.form_inside xs ys t x.1 (subst (stands xs) e x.0) y.0))
    ]

-- ---- the laws

module _ {E S : Type 0} {hashed : Bool} {stands : List E → S → Type 0} {written : List E → Type 0}
    {strict : Bool} {width least : ℕ} {count : Format ℕ} {L : Format E} (numbers : Laws strict width count)
    (smaller : WritesSmaller count) (laws : Laws strict least L) (is : IsGathering hashed stands written) where
  -- each form of a thing that is encoded is encoded
  pub form_encoded : (s : S) (bytes : List ℕ) → Coded (prefixed_list count L).encodes stands s bytes → (xs : List E)
      → stands xs s → written xs → (b : List ℕ) × (prefixed_list count L).encodes xs b
  unfolding sequence vector owned_content repeat
  form_encoded s bytes h xs stands_for is_written =
      let w = encoded_within L.encodes xs h.code h.code_is.suffix (is.form_distinct xs is_written)
      (is.form_inside xs h.code s is_written stands_for h.stands) h.code_is.second_is.1 in
      let n = smaller (length xs) (length h.code) h.code_is.prefix w.count h.code_is.first_is in (
        n.0 ++ w.shorter,
        Parts-joined n.0 w.shorter (numbers.written_encodes (length xs) n.0 n.1) (refl, w.encoded),
      )

  -- and there is one
  some_form_encoded : HasForms L stands written → (s : S) (bytes : List ℕ)
      → Coded (prefixed_list count L).encodes stands s bytes
      → (b : List ℕ) × Coded (prefixed_list count L).encodes (gathering stands written).chosen s b
  unfolding sequence vector owned_content repeat
  some_form_encoded has s bytes h =
      let f = has h.code h.code_is.suffix s h.code_is.second_is.1 h.stands in
      let b = form_encoded s bytes h f.0 f.1 f.2 in
      (b.0, record { code = f.0; code_is = b.1; stands = (f.1, f.2) })

  -- and no list that stands for the thing is encoded in fewer bytes than a form is written in
  pub form_shortest : (s : S) (b d : List ℕ)
      → Coded (prefixed_list count L).writes (gathering stands written).chosen s b
      → Coded (prefixed_list count L).encodes stands s d → length b ≤ length d
  unfolding sequence vector owned_content repeat
  form_shortest s b d h k =
      let w = encoded_within L.encodes h.code k.code k.code_is.suffix (is.form_distinct h.code h.stands.1)
      (is.form_inside h.code k.code s h.stands.1 h.stands.0 k.stands) k.code_is.second_is.1 in
      let shortest = each_shortest laws h.code h.code_is.suffix w.shorter h.code_is.second_is.1 w.encoded in
      let size = w.size in
      let n = smaller (length h.code) (length k.code) k.code_is.prefix w.count k.code_is.first_is in
      let x = numbers.shortest (length h.code) h.code_is.prefix n.0 h.code_is.first_is
      (numbers.written_encodes (length h.code) n.0 n.1) in
      let y = n.2 in
      let l = ap length h.code_is.whole_is ∙ length-append h.code_is.prefix h.code_is.suffix in
      let m = ap length k.code_is.whole_is ∙ length-append k.code_is.prefix k.code_is.suffix in
      omega arith

  -- their forms tell things apart
  things_tell : HasForms L stands written → (s t : S) (b d : List ℕ)
      → Coded (prefixed_list count L).encodes stands s b → Coded (prefixed_list count L).encodes stands t d
      → Decided (s ≡ t)
  unfolding sequence vector owned_content repeat
  things_tell has s t b d h k =
      let x = some_form_encoded has s b h in
      let y = some_form_encoded has t d k in
      let left = x.1.code_is in
      let right = y.1.code_is in
      forms_tell hashed refl laws is x.1.code y.1.code left.suffix right.suffix left.second_is.1 right.second_is.1 s t
      x.1.stands y.1.stands

-- what lists gather to is coded by them
pub gathering_is_code : {E S : Type 0} (hashed : Bool) {stands : List E → S → Type 0} {written : List E → Type 0}
    {strict : Bool} {width least : ℕ} {count : Format ℕ} {L : Format E} → Laws strict width count → WritesSmaller count
    → Laws strict least L → IsGathering hashed stands written → HasForms L stands written
    → IsCode (gathering stands written) (items_of hashed count L)
unfolding hashed_items
gathering_is_code false numbers smaller laws is has = record {
  one_meaning = is.one_thing;
  one_chosen = λ _ xs ys s h k. is.one_form refl xs ys s h.1 k.1 h.0 k.0;
  tells = λ _ _. things_tell numbers smaller laws is has;
  chosen_means = λ xs s h. h.0;
  has_chosen = some_form_encoded numbers smaller laws is has;
  chosen_shortest = λ _. form_shortest numbers smaller laws is;
  refusals_own = λ kind h. absurd h;
}
gathering_is_code true numbers smaller laws is has = record {
  one_meaning = is.one_thing;
  one_chosen = λ e. absurd (cc);
  tells = λ _ _. things_tell numbers smaller laws is has;
  chosen_means = λ xs s h. h.0;
  has_chosen = some_form_encoded numbers smaller laws is has;
  chosen_shortest = λ _. form_shortest numbers smaller laws is;
  refusals_own = λ kind h. absurd h;
}

pub items_of_laws : {E : Type 0} (hashed : Bool) {strict : Bool} {width least : ℕ} {count : Format ℕ} {L : Format E}
    → Laws strict width count → Laws strict least L → Laws strict width (items_of hashed count L)
items_of_laws false numbers laws = prefixed_list_laws numbers laws
items_of_laws true numbers laws = hashed_items_laws (prefixed_list_laws numbers laws)

pub items_of_written : {E : Type 0} (hashed : Bool) {count number : Format ℕ} {L M : Format E} → WritesToo count number
    → WritesToo L M → WritesToo (items_of hashed count L) (items_of hashed number M)
unfolding hashed_items
items_of_written false counts items = prefixed_list_written items counts
items_of_written true counts items = record { too = (prefixed_list_written items counts).too }

-- things behind the number of items that gather to them
abbrev pub gathered_behind : {E S : Type 0} (hashed : Bool) {stands : List E → S → Type 0} {written : List E → Type 0}
    → IsGathering hashed stands written → (item : Codec E)
    → ((f : Mode) → HasForms (item.format f) stands written) → (numbers : Numbers) → Behind numbers S
gathered_behind hashed {stands = stands} {written = written} is item has numbers = record {
  format = λ f. gathered hashed f (numbers.codec.format f) stands written (item.format f);
  laws = λ f.
      coding_laws f (items_of_laws hashed (numbers.codec.laws f) (item.laws f))
      (gathering_is_code hashed (numbers.codec.laws f) (numbers.smaller f) (item.laws f) is (has f));
  same_written = λ f strict. coding_written f (record f { strict = strict }) (gathering stands written)
      (items_of_written hashed (numbers.codec.same_written f strict) (item.same_written f strict));
}
