use Rattle.speedy_read.proofs.views.encoded_as_little.Goals as goal

pub returns : goal.returns
returns g c = λ v bytes encoded. rw (g.met.R.LendingReader.mode_at c.args._reader.now)
    (g.met.T.ZeroCopyable.as_little (g.R.LendingReader.at c.args._reader.now) v bytes encoded)
