use Rattle.speedy_derived.proofs.lengths.LengthOfOptionWritable.write_to.Goals as goal

pub returns : goal.returns
returns g c = rw c.lent_option-data.ensures at c.write_value.ensures
