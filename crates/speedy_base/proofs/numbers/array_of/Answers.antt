use Rattle.speedy_base.specs.DigitsLemmas.{AreBytes-slice}
use Rattle.speedy_base.proofs.Reversals.{copied-reads}
use Rattle.speedy_base.proofs.numbers.array_of.Goals as goal

pub returns : goal.returns
returns g c = record {
  same = c.copy_from_slice.ensures.after;
  bytes = AreBytes-slice _ c.type_inv.slice;
  value = copied-reads _ _ _ c.copy_from_slice.ensures.after c.requires;
}
