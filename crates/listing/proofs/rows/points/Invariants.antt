use Rattle.std.proofs.Common.{◌≡◌, string_bytes}
use Rattle.listing.specs.Rows.{up_to, point_text}
use Rattle.listing.proofs.rows.points.Given as goal

abbrev pub invariant-loop-place : goal.invariant-loop-place
invariant-loop-place l = string_bytes l.text ≡ up_to (point_text l.words) l.place
