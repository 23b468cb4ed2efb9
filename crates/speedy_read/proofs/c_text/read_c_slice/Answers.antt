use Rattle.std.proofs.Common.{arith, sym}
use Rattle.std.proofs.lemmas.List.{length-take-le}
use Rattle.speedy_read.proofs.CTextLemmas.{lent_got, lent_nul_missing, lent_refused, nul_not_lent, without_nul}
use Rattle.speedy_read.proofs.LentLemmas.{lent_length}
use Rattle.speedy_read.proofs.c_text.read_c_slice.Goals as goal

pub returns-in_err-bytes-in-Some-Some : goal.returns-in_err-bytes-in-Some-Some
returns-in_err-bytes-in-Some-Some g c =
    let found = rw c.in-Some-Some.field-0-is at c.in-Some-Some.ensures in
    lent_refused found.1 c.from_residual.ensures.1 c.in_err-bytes-in-Some-Some.ensures.reads

pub slice_bounds-result-length : goal.slice_bounds-result-length
slice_bounds-result-length g c =
    let sized = lent_length c.in_ok-bytes-in-Some-Some.ensures.reads in
    sym (length-take-le _ _ (omega arith))

pub returns-in_ok-bytes-in-Some-Some : goal.returns-in_ok-bytes-in-Some-Some
returns-in_ok-bytes-in-Some-Some g c =
    let found = rw c.in-Some-Some.field-0-is at c.in-Some-Some.ensures in
    lent_got found.1 found.0 (λ is. without_nul is found.1.so_many) c.in_ok-bytes-in-Some-Some.ensures.reads

pub returns-in-Some-None : goal.returns-in-Some-None
returns-in-Some-None g c =
    let none = rw c.in-Some-None.field-0-is at c.in-Some-None.ensures in
    lent_nul_missing g.met.C.Context.keeps_eof none.1 c.error_end_of_input.ensures

pub returns-in-None : goal.returns-in-None
returns-in-None g c = nul_not_lent c.in-None.ensures c.error_unsized.ensures
