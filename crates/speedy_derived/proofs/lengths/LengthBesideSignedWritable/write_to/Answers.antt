use Rattle.speedy_derived.proofs.lengths.LengthBesideSignedWritable.write_to.Goals as goal

pub returns : goal.returns
returns g c = rw c.lent_option-name.ensures at c.write_value.ensures
