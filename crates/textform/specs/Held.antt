-- What a reader and the two lists that it fills hold. For the contracts of inner functions. Definitions only.
use Rattle.std.specs.Prelude.{◌≡◌, List, take, Float}
use Rattle.textform.specs.declared.inner.reader.Reader.{Reader}
use Rattle.textform.specs.Text.{State}

-- what the reader and the two lists hold
abbrev pub held_state : Reader → List Float → List Float → State
held_state r a b = record { place = r.place; second = r.second; word = r.word; a = take r.a a; b = take r.b b }

-- whatever the two lists hold, what a change makes of what was held
abbrev pub Becomes : Reader → (State → State) → Reader → Type 0
Becomes r change q = (a b : List Float) → held_state q a b ≡ change (held_state r a b)
