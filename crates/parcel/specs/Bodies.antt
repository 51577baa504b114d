-- The bodies of a parcel.
use Rattle.std.specs.Prelude.{◌≡◌, ℕ, List}
use Rattle.parcel.specs.declared.bodies.Bodies.{Bodies}
use Rattle.parcel.specs.declared.contents.Directory.{Directory}

-- the bodies are those of parcel p, and begin where d says
abbrev pub IsBodiesOf : (p : List ℕ) → Directory → Bodies → Type 0
IsBodiesOf p d b = (b.parcel.now ≡ p) × (b.directory ≡ d)
