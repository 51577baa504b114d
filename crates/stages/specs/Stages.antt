-- What the stages change.
use Rattle.std.specs.Prelude.{ℕ, ◌+◌, ◌/◌, ◌%◌, ◌^◌, min, Bool, cond, ◌&&◌, List, [], ◌∷◌, ℤ, pos, negsuc, Some, None, Option, Ok, Err, ◌==◌, int_lt}
use Rattle.terminals.specs.Meaning.{Link}
use Rattle.terminals.specs.declared.faults.Fault.{Fault}

-- whether the byte m chooses the input at place k, from 0
abbrev pub chosen_at : ℕ → ℕ → Bool
chosen_at m k = m / 2 ^ k % 2 == 1

-- a fault from below, one stage further up
abbrev pub raised : Fault → Fault
raised f = record { cause = f.cause; input = f.input; distance = min (f.distance + 1) 255 }

-- the link below, as a stage passes it up
abbrev pub passed_link : Link → Link
passed_link (Ok u) = Ok u
passed_link (Err f) = Err (raised f)

-- floor: a chosen input below 0 is shown as 0
abbrev pub floored_one : Bool → ℤ → ℤ
floored_one b z = cond (b && int_lt z (pos 0)) (pos 0) z

-- so for a list that begins at place k
abbrev pub floored : ℕ → ℕ → List ℤ → List ℤ
floored m k [] = []
floored m k (z ∷ zs) = floored_one (chosen_at m k) z ∷ floored m (k + 1) zs

-- watch: the lowest-numbered chosen input under -1600, if there is one. The list begins at place k
abbrev pub lowest_low : ℕ → ℕ → List ℤ → Option ℕ
lowest_low m k [] = None
lowest_low m k (z ∷ zs) = cond (chosen_at m k && int_lt z (negsuc 1599)) (Some (k + 1)) (lowest_low m (k + 1) zs)

-- a watch's own fault, if it found an input
abbrev pub own_link : Option ℕ → Link
own_link None = Ok tt
own_link (Some n) = Err (record { cause = 100; input = Some n; distance = 0 })

-- a fault from below comes first
abbrev pub watched_link : ℕ → List ℤ → Link → Link
watched_link m zs (Ok _) = own_link (lowest_low m 0 zs)
watched_link m zs (Err f) = Err (raised f)
