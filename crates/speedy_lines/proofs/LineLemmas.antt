-- The fields of a line are found at its spaces.
use Rattle.std.specs.Prelude.{◌≡◌, ℕ, ◌==◌, ◌&&◌, not, true, false, Bool, List, [], ◌∷◌, ◌++◌, IsTrue, refl}
use Rattle.std.proofs.Common.{sym, ◌∙◌, subst, arith}
use Rattle.speedy_lines.specs.declared.line.LineOrder.{LineOrder}
use Rattle.speedy_lines.specs.declared.line.LineOrder.TheVariants as orders
use Rattle.speedy_lines.specs.declared.names.TypeName.{TypeName}
use Rattle.speedy_lines.specs.Names.{named, has_no_space}
use Rattle.speedy_lines.specs.Line.{space, order_text, name_text, IsHex, IsLine, IsBad}
use Rattle.speedy_lines.specs.Split.{IsFreeOf, SplitsAt}

-- a text with a space has one
pub no_space_in : (field rest : List ℕ) → IsFreeOf space (field ++ space ∷ rest) → ⊥
no_space_in [] rest h = h.0 refl
no_space_in (b ∷ field) rest h = no_space_in field rest h.1

-- a text splits at its first space in one way
pub one_split : (f g r q : List ℕ) → IsFreeOf space f → IsFreeOf space g → f ++ space ∷ r ≡ g ++ space ∷ q
    → (f ≡ g) × (r ≡ q)
one_split [] [] r q h k e = (refl, (cc))
one_split [] (b ∷ g) r q h k e = absurd (k.0 (cc))
one_split (a ∷ f) [] r q h k e = absurd (h.0 (cc))
one_split (a ∷ f) (b ∷ g) r q h k e =
    let tails : f ++ space ∷ r ≡ g ++ space ∷ q = (cc) in
    let heads : a ≡ b = (cc) in
    let more = one_split f g r q h.1 k.1 tails in
    (let m = more.0 in (cc), more.1)

-- the texts of orders and types have no space
pub order_no_space : (order : LineOrder) → IsFreeOf space (order_text order)
order_no_space orders.LittleEndian = (omega arith, (omega arith, tt))
order_no_space orders.BigEndian = (omega arith, (omega arith, tt))
order_no_space orders.StrictLittleEndian = (omega arith, (omega arith, (omega arith, tt)))
order_no_space orders.StrictBigEndian = (omega arith, (omega arith, (omega arith, tt)))

no_space : (text : List ℕ) → IsTrue (has_no_space text) → IsFreeOf space text
no_space [] h = tt
no_space (b ∷ text) h = go (b == space) refl h (no_space text) where
  go : (e : Bool) → (b == space) ≡ e → IsTrue (not e && has_no_space text)
      → (IsTrue (has_no_space text) → IsFreeOf space text) → IsFreeOf space (b ∷ text)
  go true p h more = absurd (cc)
  go false p h more = (
    λ same. absurd (let q : (space == space) ≡ false = subst (λ (x : ℕ). (x == space) ≡ false) same p in (cc)),
    more h,
  )

pub name_no_space : (name : TypeName) → IsFreeOf space (name_text name)
name_no_space name = no_space (named name).text (named name).no_space

-- a line of the form splits at its spaces
pub line_splits : (line f g hex : List ℕ) (order : LineOrder) (name : TypeName) (bytes : List ℕ) → IsFreeOf space f
    → IsFreeOf space g → line ≡ f ++ space ∷ (g ++ space ∷ hex) → IsLine line order name bytes
    → (f ≡ order_text order) × (g ≡ name_text name) × IsHex hex bytes
line_splits line f g hex order name bytes h k e is =
    let first = one_split f (order_text order) (g ++ space ∷ hex) (name_text name ++ space ∷ is.hex) h
    (order_no_space order) (sym e ∙ is.line_is) in
    let second = one_split g (name_text name) hex is.hex k (name_no_space name) first.1 in
    (first.0, second.0, subst (λ (x : List ℕ). IsHex x bytes) (sym second.1) is.hex_is)

pub bad_without_second_space : (line f rest : List ℕ) → SplitsAt space line f rest → IsFreeOf space rest → IsBad line
bad_without_second_space line f rest s h = λ order name bytes is.
    let first = one_split f (order_text order) rest (name_text name ++ space ∷ is.hex) s.prefix_is
    (order_no_space order)
    (sym s.text_is ∙ is.line_is) in
    no_space_in (name_text name) is.hex (subst (IsFreeOf space) first.1 h)
