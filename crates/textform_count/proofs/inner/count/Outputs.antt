-- What is printed once a whole input was fed: the output of the definition. Assumes nothing.
use mathlib.Core.Path.{◌≡◌, sym, ap, ap₂, ◌∙◌}
use mathlib.Core.List.{List, []}
use Prim.Native.Nat.{ℕ}
use lib.ListN.{take}
use lib.Ieee.{Float}
use Rattle.textform.specs.declared.inner.reader.Reader.{Reader}
use Rattle.textform.specs.Text.{State, start, fed_with}
use Rattle.textform.specs.Held.{held_state}
use Rattle.textform.specs.Kept.{keep, kept_reading}
use Rattle.textform_count.specs.Count.{count_state, output}
use Rattle.textform_count.specs.Print.{printed}
use Rattle.textform_count.proofs.KeptCounts.{kept_counts}

-- a reader that keeps no float holds none, whatever the lists hold
module _ (r : Reader) (none-of-a : r.a ≡ 0) (none-of-b : r.b ≡ 0) where
  abbrev empty : State
  empty = record { place = r.place; second = r.second; word = r.word; a = []; b = [] }

  holds_none : (a b : List Float) → held_state r a b ≡ empty
  holds_none a b = ap₂ (λ (m n : ℕ). record { place = r.place; second = r.second; word = r.word; a = take m a; b = take n b }) none-of-a none-of-b

  pub begun : (a b : List Float) → held_state r [] [] ≡ start → held_state r a b ≡ start
  begun a b h = holds_none a b ∙ sym (holds_none [] []) ∙ h

pub whole_output : (bytes text : List ℕ) (s held : State) → s ≡ start → held ≡ fed_with keep s bytes → text ≡ printed (count_state held) → text ≡ output bytes
unfolding output kept_reading
whole_output bytes text s held h e t =
    t
    ∙ ap (λ (x : State). printed (count_state x)) (e ∙ ap (λ (x : State). fed_with keep x bytes) h)
    ∙ ap printed (kept_counts bytes)
