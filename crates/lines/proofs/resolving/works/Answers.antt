use Rattle.std.proofs.Common.{◌≡◌, get_or, length, rules}
use Rattle.readings.proofs.Arrays.{from_fn_each}
use Rattle.lines.specs.Programs.{blank, idle, work_of}
use Rattle.lines.proofs.SoundLaws.{works_at}
use Rattle.lines.proofs.resolving.works.Goals as goal

pub returns : goal.returns
returns g c =
    let nop = g.C.Command.idle in
    let operands_of = g.C.Command.sources in
    let ls = c.args.lines.now in
    let long : length ls ≡ g.row.N = search rules in
    let made = c.from_fn.ensures.items in
    works_at operands_of nop g.met.C.Command.idles ls c.from_fn.result g.row.N long made.long
    (from_fn_each _ (λ k r. r ≡ work_of operands_of (get_or ls k (blank nop))) _ (idle nop) c.from_fn.result g.row.N (λ k lt r q called. (search rules, search rules)) made)
