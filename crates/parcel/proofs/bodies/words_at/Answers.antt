use Rattle.std.proofs.Common.{rules}
use Rattle.parcel.specs.Parcel.{words_at, word_at}
use Rattle.readings.proofs.Arrays.{from_fn_is}
use Rattle.parcel.proofs.bodies.words_at.Goals as goal

pub returns : goal.returns
unfolding words_at
returns c =
    from_fn_is _ (word_at c.args.parcel.now c.args.at) _ (record { low = 0; high = 0 }) c.from_fn.result 17 (λ k lt y q called. (search rules, search rules)) c.from_fn.ensures.items
