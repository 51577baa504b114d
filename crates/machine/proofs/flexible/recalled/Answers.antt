use Rattle.std.proofs.Common.{get_or, rules}
use Rattle.readings.proofs.Arrays.{from_fn_each}
use Rattle.lines.specs.Programs.{idle_analog}
use Rattle.machine.specs.Lines.{blank}
use Rattle.machine.specs.State.{IsRestored}
use Rattle.machine.proofs.flexible.recalled.Goals as goal

pub returns : goal.returns
returns c =
    let p = c.args.program.now in
    let old = c.args.analog.now in
    let all = c.requires in
    let constants = p.analog_sound in
    from_fn_each _ (λ k. IsRestored (get_or p.analog k idle_analog) (get_or old k blank)) _ blank c.from_fn.result 192 (λ k lt r q called. (λ j. (called.met.1.0 j, called.met.1.1 j), search (rules, all, constants))) c.from_fn.ensures.items
