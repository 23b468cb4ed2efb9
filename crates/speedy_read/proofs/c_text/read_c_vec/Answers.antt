use Rattle.std.proofs.Common.{sym, ◌∙◌}
use Rattle.std.proofs.lemmas.List.{map-id}
use Rattle.speedy_read.proofs.CTextLemmas.{items_got, items_refused, items_taken, owned_nul_missing, without_nul}
use Rattle.speedy_read.proofs.c_text.read_c_vec.Goals as goal

pub returns-in_err-bytes-in-Some-Some : goal.returns-in_err-bytes-in-Some-Some
returns-in_err-bytes-in-Some-Some g c =
    let found = rw c.in-Some-Some.field-0-is at c.in-Some-Some.ensures in
    items_refused found.1 _ c.from_residual.ensures.1 c.in_err-bytes-in-Some-Some.ensures.reads

pub returns-in_ok-bytes-in-Some-Some : goal.returns-in_ok-bytes-in-Some-Some
returns-in_ok-bytes-in-Some-Some g c =
    let found = rw c.in-Some-Some.field-0-is at c.in-Some-Some.ensures in
    let taken = items_taken found.1 _ found.0 c.in_ok-bytes-in-Some-Some.ensures.reads in
    items_got found.1 _ found.0
    (c.truncate.ensures.items ∙ without_nul (sym (map-id _) ∙ taken) found.1.so_many)
    c.in_ok-bytes-in-Some-Some.ensures.reads

pub returns-in-Some-None : goal.returns-in-Some-None
returns-in-Some-None g c =
    let none = rw c.in-Some-None.field-0-is at c.in-Some-None.ensures in
    owned_nul_missing g.met.C.Context.keeps_eof none.1 c.error_end_of_input.ensures
