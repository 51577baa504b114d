use Rattle.std.proofs.Common.{◌+◌, rules}
use Rattle.parcel.specs.Lines.{bytes_at}
use Rattle.parcel.specs.Parcel.{lines_of, line_of}
use Rattle.readings.proofs.Arrays.{from_fn_is}
use Rattle.parcel.proofs.bodies.Bodies.lines.Goals as goal

pub returns : goal.returns
unfolding lines_of
returns g c =
    let p = c.args.self.now.parcel.now in
    let d = c.args.self.now.directory in
    from_fn_is _ (λ i. line_of g.C.Command.decoded g.C.Command.idle (bytes_at p d (c.args.from + i))) _
    (line_of g.C.Command.decoded g.C.Command.idle (bytes_at p d c.args.from)) c.from_fn.result g.row.N
    (λ k lt y q called. (search rules, search rules)) c.from_fn.ensures.items
