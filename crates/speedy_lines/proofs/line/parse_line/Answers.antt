use Rattle.std.proofs.Common.{◌≡◌, List, ◌∷◌, ◌++◌, ap, ◌∙◌, ℕ}
use Rattle.speedy_lines.specs.Line.{space}
use Rattle.speedy_lines.proofs.LineLemmas.{line_splits, bad_without_second_space}
use Rattle.speedy_lines.proofs.line.parse_line.Goals as goal

-- the line in its three fields
fields : (line f r g hex : List ℕ) → line ≡ f ++ space ∷ r → r ≡ g ++ space ∷ hex
    → line ≡ f ++ space ∷ (g ++ space ∷ hex)
fields line f r g hex h k = h ∙ ap (λ (x : List ℕ). f ++ space ∷ x) k

pub returns-in_default-split_at : goal.returns-in_default-split_at
returns-in_default-split_at c = bad_without_second_space _ _ _ c.in-Some.ensures c.in_default-split_at.ensures

pub returns-in_default-order_of : goal.returns-in_default-order_of
returns-in_default-order_of c = λ order name bytes is.
    let first = c.in-Some.ensures in
    let second = c.in-Some-split_at.ensures in
    c.in_default-order_of.ensures order
    (line_splits _ _ _ _ order name bytes first.prefix_is second.prefix_is
    (fields _ _ _ _ _ first.text_is second.text_is) is).0

pub returns-in_default-name_of : goal.returns-in_default-name_of
returns-in_default-name_of c = λ order name bytes is.
    let first = c.in-Some.ensures in
    let second = c.in-Some-split_at.ensures in
    c.in_default-name_of.ensures name
    (line_splits _ _ _ _ order name bytes first.prefix_is second.prefix_is
    (fields _ _ _ _ _ first.text_is second.text_is) is).1

pub returns-in-None : goal.returns-in-None
returns-in-None c = λ order name bytes is.
    let first = c.in-Some.ensures in
    let second = c.in-Some-split_at.ensures in
    let hex =
    (line_splits _ _ _ _ order name bytes first.prefix_is second.prefix_is
    (fields _ _ _ _ _ first.text_is second.text_is) is).2 in
    (rw c.in-None.is at c.in_ok-bytes.ensures) bytes hex
