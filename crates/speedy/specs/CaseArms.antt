-- What an arm of an enum's `read_case` and `write_case` does, as its case. Proofs that `tools/derive` writes cite these
-- lemmas, which name the enum's cases, so that no search looks for these in the tree of all of them.
use Rattle.std.specs.Prelude.{◌≡◌, ℕ, List, Bool, Result}
use Rattle.std.proofs.Common.{subst, sym}
use Rattle.speedy_base.specs.declared.error.Error.{Error}
use Rattle.speedy_layout.specs.declared.cases.Cases.{Ghosts}
use Rattle.speedy_layout.specs.Choices.{AtTag}
use Rattle.speedy_layout.specs.Format.{Format}
use Rattle.speedy_read.specs.Cases.{ReadsBehind}
use Rattle.speedy_read.specs.Reading.{ReaderState, Reads}
use Rattle.speedy_write.specs.Cases.{WritesCase}
use Rattle.speedy_write.specs.Writing.{WriterState}

-- the read of a result, as that of the result that an arm matched
pub read_of : {E A V : Type 0} {gives : Error → E → Type 0} {eof : E → Bool} {seen : A → V} {format : Format V}
    {result matched : Result A E} {old new : ReaderState} → result ≡ matched
    → Reads gives eof seen format result old new → Reads gives eof seen format matched old new
read_of {gives = gives} {eof = eof} {seen = seen} {format = format} {old = old} {new = new} is reads =
    subst (λ x. Reads gives eof seen format x old new) is reads

-- what is read of the case of the tag that an arm matched is read of that of the tag
pub read_at : {A V E S : Type 0} (case_of : ℕ → AtTag V) (seen : A → V) (gives : Error → E → Type 0) (eof : E → Bool)
    (state : S → ReaderState) (result : Result A E) (old new : S) {tag matched : ℕ} → tag ≡ matched
    → ReadsBehind gives eof seen (case_of matched) result (state old) (state new)
    → ReadsBehind gives eof seen (case_of tag) result (state old) (state new)
read_at case_of seen gives eof state result old new is reads =
    subst (λ n. ReadsBehind gives eof seen (case_of n) result (state old) (state new)) (sym is) reads

-- the same of the cases of an enum
pub read_arm : {A E S : Type 0} (cases : Ghosts A) (gives : Error → E → Type 0) (eof : E → Bool)
    (state : S → ReaderState) (result : Result A E) (old new : S) {tag matched : ℕ} → tag ≡ matched
    → ReadsBehind gives eof cases.seen (cases.choices.case_of matched) result (state old) (state new)
    → ReadsBehind gives eof cases.seen (cases.choices.case_of tag) result (state old) (state new)
read_arm cases = read_at cases.choices.case_of cases.seen

-- what is written of the value that an arm matched is written of the value
pub write_arm : {A E S : Type 0} (cases : Ghosts A) (gives : Error → E → Type 0) (state : S → WriterState)
    (appends : S → List ℕ → S → Type 0) (result : Result (Unit {0}) E) (old new : S) {value matched : A}
    → value ≡ matched
    → (let seen = cases.seen matched in
    WritesCase gives state appends (cases.choices.case_of (cases.choices.tag seen)) seen result old new)
    → (let seen = cases.seen value in
    WritesCase gives state appends (cases.choices.case_of (cases.choices.tag seen)) seen result old new)
write_arm cases gives state appends result old new is writes =
    subst (λ x. let seen = cases.seen x in
    WritesCase gives state appends (cases.choices.case_of (cases.choices.tag seen)) seen result old new)
    (sym is) writes

-- the tag of the value that an arm matched is that of the value
pub tag_arm : {A : Type 0} (cases : Ghosts A) {value matched : A} (tag : ℕ) → value ≡ matched
    → tag ≡ cases.choices.tag (cases.seen matched) → tag ≡ cases.choices.tag (cases.seen value)
tag_arm cases tag is same = subst (λ x. tag ≡ cases.choices.tag (cases.seen x)) (sym is) same
