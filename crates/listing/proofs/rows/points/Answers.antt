use Rattle.std.proofs.Common.{rules}
use Rattle.listing.specs.Rows.{point_text}
use Rattle.listing.proofs.Texts.{up_to-none, up_to-more}
use Rattle.listing.proofs.rows.points.Goals as goal

pub loop-place-init : goal.loop-place-init
loop-place-init c = let none = up_to-none (point_text c.args.words.now) in search rules

pub loop-place-preserved : goal.loop-place-preserved
loop-place-preserved c = let more = up_to-more (point_text c.args.words.now) c.loop-place.place in search rules
