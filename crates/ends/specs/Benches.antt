-- The frames that a bench shows, and its link.
use Rattle.std.specs.Prelude.{◌≡◌, ℕ, ◌<◌, ◌≤◌, true, cond, length, replicate, pos, None, Ok, Err, ◌==◌}
use Rattle.readings.specs.Range.{are_readings}
use Rattle.terminals.specs.Meaning.{Link}
use Rattle.terminals.specs.declared.frames.Frame.{Frame}

-- a frame that a bench may show
abbrev pub IsFrame : Frame → Type 0
IsFrame f = (length f.inputs ≡ 8) × (are_readings f.inputs ≡ true) × (f.bits < 512) × (f.cause ≤ 99)

-- cause 0 is a link that is up; a bench's fault names no input and has passed no stage
abbrev pub bench_link : ℕ → Link
bench_link c = cond (c == 0) (Ok tt) (Err (record { cause = c; input = None; distance = 0 }))

-- the frame of a new bench
abbrev pub zero_frame : Frame
zero_frame = record { inputs = replicate 8 (pos 0); bits = 0; cause = 0 }
