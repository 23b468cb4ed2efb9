use Rattle.std.proofs.Common.{[], ◌++◌, sym}
use Rattle.std.proofs.lemmas.List.{append-nil}
use Rattle.speedy_layout.proofs.laws.no_encoding_begins_another.Goals as goal

pub returns : goal.returns
returns g c = λ f v w bytes more h k.
    ((g.T.Layout.layout.laws f).decodes v w bytes (bytes ++ more) more [] h k (sym (append-nil (bytes ++ more)))).2
