use Rattle.std.proofs.Common.{◌≡◌, string_bytes}
use Rattle.listing.specs.Rows.{up_to, line_text}
use Rattle.listing.proofs.rows.lines.Given as goal

abbrev pub invariant-loop-line : goal.invariant-loop-line
invariant-loop-line l = string_bytes l.text ≡ up_to (line_text l.configuration) l.line
