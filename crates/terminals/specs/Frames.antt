-- What a frame is asked, and what a refused one tells.
use Rattle.std.specs.Prelude.{cond, Ok, Err, Result, nat_le, nat_lt}
use Rattle.readings.specs.Range.{are_readings}
use Rattle.terminals.specs.declared.frames.Frame.{Frame}
use Rattle.terminals.specs.Rules.{Refused, plain}
use Rattle.terminals.specs.declared.frames.FrameRefusal.{FrameRefusal}
use Rattle.terminals.specs.declared.frames.FrameRefusal.TheVariants.{NotReadings, BitsOver, CauseOver}

-- what a refused frame tells
abbrev pub frame_told : Result (Unit {0}) FrameRefusal → Result (Unit {0}) Refused
frame_told (Ok u) = Ok u
frame_told (Err NotReadings) = Err (plain 51)
frame_told (Err BitsOver) = Err (plain 52)
frame_told (Err CauseOver) = Err (plain 53)

-- the questions of a frame, in their order
abbrev pub frame_rule : Frame → Result (Unit {0}) Refused
frame_rule f =
    cond (are_readings f.inputs)
    (cond (nat_lt f.bits 512)
    (cond (nat_le f.cause 99) (Ok tt) (Err (plain 53)))
    (Err (plain 52)))
    (Err (plain 51))
