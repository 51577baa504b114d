use Rattle.std.proofs.Common.{rules}
use Rattle.parcel.specs.Contents.{entries, entry_at}
use Rattle.readings.proofs.Arrays.{from_fn_is}
use Rattle.parcel.proofs.contents.Contents.read.Goals as goal

pub returns-clause-list : goal.returns-clause-list
unfolding entries
returns-clause-list g c =
    from_fn_is _ (entry_at c.args.parcel.now) _ (entry_at c.args.parcel.now 0) c.from_fn.result g.row.N (λ k lt y q called. (search rules, search rules)) c.from_fn.ensures.items
