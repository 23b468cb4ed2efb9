-- How deep trees lie that have an encoding, and what they are refused with.
use Rattle.std.specs.Prelude.{◌≡◌, ℕ, zero, suc, ◌≤◌, ◌<◌, List, [], ◌++◌, length, Result, Ok, Err, IsErrAnd, refl}
use Rattle.std.proofs.Common.{subst, arith, inl, inr}
use Rattle.speedy.specs.declared.error.ErrorKind.{ErrorKind}
use Rattle.speedy.specs.declared.error.ErrorKind.TheVariants as kinds
use Rattle.speedy.specs.declared.error.Error.{Error}
use Rattle.speedy.specs.Digits.{digits}
use Rattle.speedy.specs.DigitsLemmas.{EncodesNumber-digits}
use Rattle.speedy.specs.Mode.{Mode}
use Rattle.speedy.specs.Error.{error_of}
use Rattle.speedy.specs.Format.{Format, Each}
use Rattle.speedy.specs.Lists.{list, vector, repeat}
use Rattle.speedy.specs.Numbers.{unsigned_number}
use Rattle.speedy.specs.Owned.{owned_content}
use Rattle.speedy.specs.Sequences.{sequence}
use Rattle.speedy.specs.WaysOfWriting.{NeedsIn}
use Rattle.speedy.specs.Levels.{no_value, levels}
use Rattle.speedy_lines.specs.Trees.{Rose, node, Forest, no_trees, with_tree, depth, depths, FitsDigits}
use Rattle.speedy_lines.specs.Trees.{EachFitsDigits, trees_of, tree_levels, tree_laws}

each_within : (n : ℕ) (F : Format Rose) → ((r : Rose) (b : List ℕ) → F.encodes r b → depth r ≤ n)
    → (rs : Forest) (b : List ℕ) → Each F.encodes (trees_of rs) b → depths rs ≤ n
each_within n F each no_trees b h = omega arith
each_within n F each (with_tree r rs) b h =
    let first = each r h.prefix h.first_is in
    let more = each_within n F each rs h.suffix h.second_is in
    omega arith

-- a tree that is encoded has at most n levels
pub encoded_within : (n : ℕ) (mode : Mode) (r : Rose) (b : List ℕ)
    → (tree_levels n mode).encodes r b → depth r ≤ n
unfolding levels no_value sequence list vector owned_content repeat
encoded_within zero mode r b h = absurd h
encoded_within (suc n) mode (node value children) b h =
    let each = each_within n (tree_levels n mode) (encoded_within n mode) children h.second_is.suffix
    h.second_is.second_is.1 in
    omega arith

-- a tree is refused in writing with the one kind alone
pub refuses_one : (n : ℕ) (mode : Mode) (kind : ErrorKind) → (tree_levels n mode).refuses_writing kind
    → kind ≡ kinds.OutOfRangeLength
unfolding levels no_value sequence list vector owned_content repeat unsigned_number
refuses_one zero mode kind h = h
refuses_one (suc n) mode kind (inl h) = absurd h
refuses_one (suc n) mode kind (inr (value, inl h)) = absurd h
refuses_one (suc n) mode kind (inr (value, inr (count, h))) = refuses_one n mode kind h

-- and in reading
pub names_one : (n : ℕ) (mode : Mode) (kind : ErrorKind) → (tree_levels n mode).names kind
    → kind ≡ kinds.OutOfRangeLength
unfolding levels no_value sequence list vector owned_content repeat unsigned_number
names_one zero mode kind h = h
names_one (suc n) mode kind (inl h) = absurd h
names_one (suc n) mode kind (inr (value, inl h)) = absurd h
names_one (suc n) mode kind (inr (value, inr (count, h))) = names_one n mode kind h

-- one of more levels needs no bytes, and is refused
pub deep_refused : {E : Type 0} {gives : Error → E → Type 0} (n : ℕ) (mode : Mode) (r : Rose)
    {result : Result ℕ E} → n < depth r
    → NeedsIn gives (tree_levels n mode) r result → IsErrAnd result (λ e. gives (error_of kinds.OutOfRangeLength) e)
deep_refused n mode r {result = Ok size} deep needs =
    let w = needs.written in
    let least = encoded_within n mode r w.0 ((tree_laws n mode).written_encodes r w.0 w.1) in
    absurd (omega arith)
deep_refused {gives = gives} n mode r {result = Err e} deep needs =
    elim needs.refused [
      | inl h ↦ h
      | inr h ↦ subst (λ kind. gives (error_of kind) e) (refuses_one n mode h.0 h.1) h.2
    ]

each_written : (n : ℕ) (F : Format Rose) → ((r : Rose) → FitsDigits r → depth r ≤ n → (b : List ℕ) × F.writes r b)
    → (rs : Forest) → EachFitsDigits rs → depths rs ≤ n → (b : List ℕ) × Each F.writes (trees_of rs) b
each_written n F form no_trees fits within = ([], refl)
each_written n F form (with_tree r rs) fits within =
    let first = form r fits.0 (omega arith) in
    let more = each_written n F form rs fits.1 (omega arith) in (
      first.0 ++ more.0,
      record { prefix = first.0; suffix = more.0; whole_is = refl; first_is = first.1; second_is = more.1 },
    )

-- a tree of at most n levels has a canonical encoding
pub within_written : (n : ℕ) (mode : Mode) (r : Rose) → FitsDigits r → depth r ≤ n
    → (b : List ℕ) × (tree_levels n mode).writes r b
unfolding levels no_value sequence list vector owned_content repeat unsigned_number
within_written zero mode (node value children) fits within = absurd (omega arith)
within_written (suc n) mode (node value children) fits within =
    let count = length (trees_of children) in
    let order = mode.order in
    let each = each_written n (tree_levels n mode) (within_written n mode) children fits.2 (omega arith) in
    let counted = digits order 4 count ++ each.0 in (
      digits order 1 value ++ counted,
      record {
        prefix = digits order 1 value;
        suffix = counted;
        whole_is = refl;
        first_is = EncodesNumber-digits 1 order value fits.0;
        second_is = record {
          prefix = digits order 4 count;
          suffix = each.0;
          whole_is = refl;
          first_is = EncodesNumber-digits 4 order count fits.1;
          second_is = (refl, each.1);
        };
      },
    )
